-- The four kinds of inequality of a certificate, and which are lawful. Assumes nothing.
use Rattle.std.specs.Prelude.{◌≡◌, ℕ, Bool, true, false, ℤ, pos, ◌+ℤ◌, ◌-ℤ◌, ◌≤ℤ◌, ◌≢◌, bit_and, bit_or}
use Rattle.polymatroid.specs.declared.inequality.Inequality.{Inequality}
use Rattle.polymatroid.specs.declared.inequality.Inequality.TheVariants.{Monotonicity, Submodularity, Correctness, Privacy}
use Rattle.polymatroid.specs.declared.inequality.Line.{Line}
use Rattle.polymatroid.specs.Sets.{secret, InGround, Within, Coalition}
use Rattle.polymatroid.specs.Polymatroid.{Polymatroid}
use Rattle.polymatroid.specs.Realising.{Realises}

-- the linear form that an inequality is about, at a function x of sets
abbrev pub form : Inequality → (ℕ → ℤ) → ℤ
form (Monotonicity a b) x = x b -ℤ x a
form (Submodularity a b) x = x a +ℤ x b -ℤ x (bit_or a b) -ℤ x (bit_and a b)
form (Correctness a) x = x (bit_or a secret) -ℤ x a
form (Privacy a) x = x (bit_or a secret) -ℤ x a -ℤ x secret

-- a line is lawful. The first two kinds say "at least 0" of every polymatroid and take a positive multiplier: a proper
-- subset, and two sets of which neither contains the other. The last two say "equal to 0" of every polymatroid that
-- realises the access structure and take a multiplier of either sign
abbrev pub LawfulAt : ℕ → (ℕ → Bool) → ℤ → Inequality → Type 0
LawfulAt n qualified m (Monotonicity a b) = InGround n a × InGround n b × Within a b × (a ≢ b) × (pos 1 ≤ℤ m)
LawfulAt n qualified m (Submodularity a b) = InGround n a × InGround n b × (Within a b → ⊥) × (Within b a → ⊥) × (pos 1 ≤ℤ m)
LawfulAt n qualified m (Correctness a) = Coalition n a × (qualified a ≡ true) × (m ≢ pos 0)
LawfulAt n qualified m (Privacy a) = Coalition n a × (qualified a ≡ false) × (m ≢ pos 0)

abbrev pub Lawful : ℕ → (ℕ → Bool) → Line → Type 0
Lawful n qualified l = LawfulAt n qualified l.multiplier l.inequality

-- the value of an inequality at a rank function
abbrev pub value : Inequality → (ℕ → ℕ) → ℤ
value i h = form i (λ s. pos (h s))

-- every polymatroid meets the lawful inequalities, and every one that realises the access structure the lawful equations
pub record KindsHold (n : ℕ) (qualified : ℕ → Bool) (h : ℕ → ℕ) : Type 0 where
  pub monotone : Polymatroid n h → (m : ℤ) (a b : ℕ) → LawfulAt n qualified m (Monotonicity a b) → pos 0 ≤ℤ value (Monotonicity a b) h
  pub submodular : Polymatroid n h → (m : ℤ) (a b : ℕ) → LawfulAt n qualified m (Submodularity a b) → pos 0 ≤ℤ value (Submodularity a b) h
  pub correct : Realises n qualified h → (m : ℤ) (a : ℕ) → LawfulAt n qualified m (Correctness a) → value (Correctness a) h ≡ pos 0
  pub private : Realises n qualified h → (m : ℤ) (a : ℕ) → LawfulAt n qualified m (Privacy a) → value (Privacy a) h ≡ pos 0

abbrev pub LinesHold : Type 0
LinesHold = (n : ℕ) (qualified : ℕ → Bool) (h : ℕ → ℕ) → KindsHold n qualified h
