-- What the lines of a certificate add up to, what the certificate claims, and why a right one binds. Assumes nothing.
use Rattle.std.specs.Prelude.{◌≡◌, ℕ, zero, suc, ◌+◌, ◌*◌, ◌≤◌, Bool, cond, List, [], ◌∷◌, ℤ, pos, ◌+ℤ◌, ◌-ℤ◌, ◌*ℤ◌, neg_ℤ, ◌==◌, ◌≢◌}
use Rattle.std.specs.List.{AllByRecursion}
use Rattle.polymatroid.specs.Sets.{secret, alone, InGround}
use Rattle.polymatroid.specs.Polymatroid.{Polymatroid}
use Rattle.polymatroid.specs.Realising.{Realises}
use Rattle.polymatroid.specs.declared.inequality.Line.{Line}
use Rattle.polymatroid.specs.Inequality.{form, Lawful}

-- f 1 + .. + f n, of naturals and of integers
abbrev pub sum_to : ℕ → (ℕ → ℕ) → ℕ
sum_to zero f = 0
sum_to (suc n) f = sum_to n f + f (suc n)

abbrev pub sum_to_ℤ : ℕ → (ℕ → ℤ) → ℤ
sum_to_ℤ zero f = pos 0
sum_to_ℤ (suc n) f = sum_to_ℤ n f +ℤ f (suc n)

-- the lines' forms, each times its multiplier, added up
abbrev pub combination : List Line → (ℕ → ℤ) → ℤ
combination [] x = pos 0
combination (l ∷ ls) x = l.multiplier *ℤ form l.inequality x +ℤ combination ls x

-- the form that a certificate claims: weight i times participant i, minus count times the secret
abbrev pub claim : (n : ℕ) (weight : ℕ → ℕ) (count : ℕ) → (ℕ → ℤ) → ℤ
claim n weight count x = sum_to_ℤ n (λ i. pos (weight i) *ℤ x (alone i)) -ℤ pos count *ℤ x secret

-- the coefficient of a form at the set s is its value at the function that is 1 at s and 0 elsewhere
abbrev pub unit : ℕ → ℕ → ℤ
unit s t = cond (s == t) (pos 1) (pos 0)

abbrev pub coefficient : ((ℕ → ℤ) → ℤ) → ℕ → ℤ
coefficient form s = form (unit s)

-- the sum equals the claim at every set but the empty one
abbrev pub Matches : (n : ℕ) (weight : ℕ → ℕ) (count : ℕ) → List Line → Type 0
Matches n weight count lines = (s : ℕ) → 1 ≤ s → InGround n s → coefficient (combination lines) s ≡ coefficient (claim n weight count) s

-- count over total is a lower bound: whoever realises the access structure has a share of at least count over total secrets
abbrev pub LowerBound : (n : ℕ) (qualified : ℕ → Bool) (count total : ℕ) → Type 0
LowerBound n qualified count total = (h : ℕ → ℕ) → Polymatroid n h → Realises n qualified h → (i : ℕ) × (1 ≤ i) × (i ≤ n) × (count * h secret ≤ total * h (alone i))

-- a certificate with lawful lines that add up to its claim bounds the weighted sum of the shares, and so the largest
abbrev pub Weighted : Type 0
Weighted = (n : ℕ) (qualified : ℕ → Bool) (weight : ℕ → ℕ) (count : ℕ) (lines : List Line) → AllByRecursion (Lawful n qualified) lines → Matches n weight count lines → (h : ℕ → ℕ) → Polymatroid n h → Realises n qualified h → count * h secret ≤ sum_to n (λ i. weight i * h (alone i))

abbrev pub Sound : Type 0
Sound = (n : ℕ) (qualified : ℕ → Bool) (weight : ℕ → ℕ) (count : ℕ) (lines : List Line) → 1 ≤ n → AllByRecursion (Lawful n qualified) lines → Matches n weight count lines → LowerBound n qualified count (sum_to n weight)

-- what the claim's coefficients are: minus the count at the secret, weight i at participant i, 0 at every other set
pub record Claimed (n : ℕ) (weight : ℕ → ℕ) (count : ℕ) (at : ℕ → ℤ) : Type 0 where
  pub at_secret : at secret ≡ neg_ℤ (pos count)
  pub at_participant : (i : ℕ) → 1 ≤ i → i ≤ n → at (alone i) ≡ pos (weight i)
  pub elsewhere : (s : ℕ) → (s ≢ secret) → ((i : ℕ) → 1 ≤ i → i ≤ n → s ≢ alone i) → at s ≡ pos 0

abbrev pub Claims : Type 0
Claims = (n : ℕ) (weight : ℕ → ℕ) (count : ℕ) → Claimed n weight count (coefficient (claim n weight count))
