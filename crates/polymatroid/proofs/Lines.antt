-- The lines' forms are linear, and at least 0 at every polymatroid that realises the access structure. Assumes nothing.
use Rattle.std.proofs.Common.{◌≡◌, ℕ, zero, suc, ◌+◌, ◌*◌, ◌^◌, ◌<◌, ◌≤◌, Bool, List, [], ◌∷◌, ℤ, pos, ◌+ℤ◌, ◌-ℤ◌, ◌*ℤ◌, ◌≤ℤ◌, refl, ap, ◌∙◌, ap₂, arith}
use lib.Bits.{bit_and, bit_or, or_lt, and_lt}
use lib.IntN.{*ℤ-zero}
use lib.Signed.{≤ℤ_refl}
use Rattle.std.specs.List.{AllByRecursion}
use Rattle.std.proofs.lemmas.Int.{ints}
use Rattle.std.proofs.lemmas.Nat.{pow_below}
use Rattle.polymatroid.specs.Sets.{secret, alone, InGround}
use Rattle.polymatroid.specs.Polymatroid.{Polymatroid}
use Rattle.polymatroid.specs.Realising.{Realises}
use Rattle.polymatroid.specs.declared.inequality.Inequality.{Inequality}
use Rattle.polymatroid.specs.declared.inequality.Inequality.TheVariants.{Monotonicity, Submodularity, Correctness, Privacy}
use Rattle.polymatroid.specs.declared.inequality.Line.{Line}
use Rattle.polymatroid.specs.Inequality.{form, LawfulAt, Lawful, value, LinesHold}
use Rattle.polymatroid.specs.Certificate.{sum_to, sum_to_ℤ, combination, claim}
use Rattle.polymatroid.proofs.Integers.{mul_add, mul_sub, mul_left_comm, mul_positive}
use Rattle.polymatroid.proofs.Forms.{Form}

pub secret_in : (n : ℕ) → InGround n secret
secret_in n = pow_below 0 (n + 1) (omega arith)

-- ---- the form of one inequality
-- the difference of two linear forms, and their sum
sub_linear : (p q r s c : ℤ) → (p +ℤ c *ℤ r) -ℤ (q +ℤ c *ℤ s) ≡ (p -ℤ q) +ℤ c *ℤ (r -ℤ s)
sub_linear p q r s c = rw (mul_sub c r s) (omega (arith, ints))

add_linear : (p q r s c : ℤ) → (p +ℤ c *ℤ r) +ℤ (q +ℤ c *ℤ s) ≡ (p +ℤ q) +ℤ c *ℤ (r +ℤ s)
add_linear p q r s c = rw (mul_add c r s) (omega (arith, ints))

scale_linear : (m p r c : ℤ) → m *ℤ (p +ℤ c *ℤ r) ≡ m *ℤ p +ℤ c *ℤ (m *ℤ r)
scale_linear m p r c = rw (mul_add m p (c *ℤ r), mul_left_comm m c r)

pub at_form : (m a : ℕ) → a < m → Form m (λ x. x a)
at_form m a l = record { linear = λ x y c. refl; local = λ x y e. e a l }

module _ (m : ℕ) (f g : (ℕ → ℤ) → ℤ) (ff : Form m f) (gg : Form m g) where
  pub sum_form : Form m (λ x. f x +ℤ g x)
  sum_form = record {
    linear = λ x y c. ap₂ (λ u v. u +ℤ v) (ff.linear x y c) (gg.linear x y c) ∙ add_linear (f x) (g x) (f y) (g y) c;
    local = λ x y e. ap₂ (λ u v. u +ℤ v) (ff.local x y e) (gg.local x y e);
  }

  pub difference_form : Form m (λ x. f x -ℤ g x)
  difference_form = record {
    linear = λ x y c. ap₂ (λ u v. u -ℤ v) (ff.linear x y c) (gg.linear x y c) ∙ sub_linear (f x) (g x) (f y) (g y) c;
    local = λ x y e. ap₂ (λ u v. u -ℤ v) (ff.local x y e) (gg.local x y e);
  }

pub scaled_form : (m : ℕ) (k : ℤ) (f : (ℕ → ℤ) → ℤ) → Form m f → Form m (λ x. k *ℤ f x)
scaled_form m k f ff = record {
  linear = λ x y c. ap (λ z. k *ℤ z) (ff.linear x y c) ∙ scale_linear k (f x) (f y) c;
  local = λ x y e. ap (λ z. k *ℤ z) (ff.local x y e);
}

pub no_form : (m : ℕ) → Form m (λ x. pos 0)
no_form m = record { linear = λ x y c. omega (arith, ints); local = λ x y e. refl }

module _ (n : ℕ) (qualified : ℕ → Bool) where
  inequality_form : (k : ℤ) (i : Inequality) → LawfulAt n qualified k i → Form (2 ^ (n + 1)) (form i)
  inequality_form k (Monotonicity a b) l = difference_form _ (λ x. x b) (λ x. x a) (at_form _ b l.1) (at_form _ a l.0)
  inequality_form k (Submodularity a b) l =
      difference_form _ (λ x. x a +ℤ x b -ℤ x (bit_or a b)) (λ x. x (bit_and a b))
      (difference_form _ (λ x. x a +ℤ x b) (λ x. x (bit_or a b))
      (sum_form _ (λ x. x a) (λ x. x b) (at_form _ a l.0) (at_form _ b l.1))
      (at_form _ (bit_or a b) (or_lt (n + 1) a b l.0 l.1)))
      (at_form _ (bit_and a b) (and_lt (n + 1) a b l.0 l.1))
  inequality_form k (Correctness a) l =
      difference_form _ (λ x. x (bit_or a secret)) (λ x. x a)
      (at_form _ (bit_or a secret) (or_lt (n + 1) a secret l.0.0 (secret_in n))) (at_form _ a l.0.0)
  inequality_form k (Privacy a) l =
      difference_form _ (λ x. x (bit_or a secret) -ℤ x a) (λ x. x secret)
      (difference_form _ (λ x. x (bit_or a secret)) (λ x. x a)
      (at_form _ (bit_or a secret) (or_lt (n + 1) a secret l.0.0 (secret_in n))) (at_form _ a l.0.0))
      (at_form _ secret (secret_in n))

  pub combination_form : (ls : List Line) → AllByRecursion (Lawful n qualified) ls → Form (2 ^ (n + 1)) (combination ls)
  combination_form [] all = no_form _
  combination_form (l ∷ ls) all =
      sum_form _ (λ x. l.multiplier *ℤ form l.inequality x) (combination ls)
      (scaled_form _ l.multiplier (form l.inequality) (inequality_form l.multiplier l.inequality all.0))
      (combination_form ls all.1)

-- ---- the claim's form
alone_in : (n i : ℕ) → i ≤ n → InGround n (alone i)
alone_in n i l = pow_below i (n + 1) (omega arith)

weights_form : (n : ℕ) (weight : ℕ → ℕ) (k : ℕ) → k ≤ n → Form (2 ^ (n + 1)) (λ x. sum_to_ℤ k (λ i. pos (weight i) *ℤ x (alone i)))
weights_form n weight zero l = no_form _
weights_form n weight (suc k) l =
    sum_form _ (λ x. sum_to_ℤ k (λ i. pos (weight i) *ℤ x (alone i))) (λ x. pos (weight (suc k)) *ℤ x (alone (suc k)))
    (weights_form n weight k (omega arith))
    (scaled_form _ (pos (weight (suc k))) (λ x. x (alone (suc k))) (at_form _ (alone (suc k)) (alone_in n (suc k) l)))

pub claim_form : (n : ℕ) (weight : ℕ → ℕ) (count : ℕ) → Form (2 ^ (n + 1)) (claim n weight count)
claim_form n weight count =
    difference_form _ (λ x. sum_to_ℤ n (λ i. pos (weight i) *ℤ x (alone i))) (λ x. pos count *ℤ x secret)
    (weights_form n weight n (omega arith))
    (scaled_form _ (pos count) (λ x. x secret) (at_form _ secret (secret_in n)))

-- ---- values
nothing : (k z : ℤ) → z ≡ pos 0 → pos 0 ≤ℤ (k *ℤ z)
nothing k z e = rw (e, *ℤ-zero k) (≤ℤ_refl (pos 0))

pub lines_hold : LinesHold
lines_hold n qualified h = record {
  monotone = λ p m a b l. omega (arith, ints, p.monotone a b l.0 l.1 l.2);
  submodular = λ p m a b l. omega (arith, ints, p.submodular a b l.0 l.1);
  correct = λ r m a l. omega (arith, ints, r.correct a l.0 l.1);
  private = λ r m a l. omega (arith, ints, r.private a l.0 l.1);
}

module _ (n : ℕ) (qualified : ℕ → Bool) (h : ℕ → ℕ) (p : Polymatroid n h) (r : Realises n qualified h) where
  line_value : (k : ℤ) (i : Inequality) → LawfulAt n qualified k i → pos 0 ≤ℤ (k *ℤ value i h)
  line_value k (Monotonicity a b) l = mul_positive k (value (Monotonicity a b) h) l.4 ((lines_hold n qualified h).monotone p k a b l)
  line_value k (Submodularity a b) l = mul_positive k (value (Submodularity a b) h) l.4 ((lines_hold n qualified h).submodular p k a b l)
  line_value k (Correctness a) l = nothing k (value (Correctness a) h) ((lines_hold n qualified h).correct r k a l)
  line_value k (Privacy a) l = nothing k (value (Privacy a) h) ((lines_hold n qualified h).private r k a l)

  pub combination_value : (ls : List Line) → AllByRecursion (Lawful n qualified) ls → pos 0 ≤ℤ combination ls (λ s. pos (h s))
  combination_value [] all = ≤ℤ_refl (pos 0)
  combination_value (l ∷ ls) all =
      omega (arith, ints, line_value l.multiplier l.inequality all.0, combination_value ls all.1)

pub claim_value : (n : ℕ) (weight : ℕ → ℕ) (count : ℕ) (h : ℕ → ℕ) → claim n weight count (λ s. pos (h s)) ≡ pos (sum_to n (λ i. weight i * h (alone i))) -ℤ pos (count * h secret)
claim_value n weight count h = ap (λ z. z -ℤ pos (count * h secret)) (natural n)
  where
    natural : (k : ℕ) → sum_to_ℤ k (λ i. pos (weight i) *ℤ pos (h (alone i))) ≡ pos (sum_to k (λ i. weight i * h (alone i)))
    natural zero = refl
    natural (suc k) = ap (λ z. z +ℤ pos (weight (suc k) * h (alone (suc k)))) (natural k)
