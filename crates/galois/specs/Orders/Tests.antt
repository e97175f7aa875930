-- The laws of a finite field as tests that compute. Assumes nothing.
use Rattle.std.specs.Prelude.{ℕ, zero, suc, Bool, true, cond, ◌&&◌, ◌||◌, ltb, List, [], ◌∷◌, ◌==◌, nat_eq, nat_lt}
use Rattle.polymatroid.specs.Tests.{all_below}
use Rattle.galois.specs.Codes.{inverse}

-- a test at each pair or triple of codes below q
abbrev pub all2 : ℕ → (ℕ → ℕ → Bool) → Bool
all2 q test = all_below q (λ a. all_below q (test a))

abbrev pub all3 : ℕ → (ℕ → ℕ → ℕ → Bool) → Bool
all3 q test = all_below q (λ a. all2 q (test a))

-- the test passes at every listed order below n
abbrev pub all_listed : ℕ → (ℕ → Bool) → (ℕ → Bool) → Bool
all_listed n listed test = all_below n (λ q. cond (listed q) (test q) true)

-- every test of a list passes
abbrev pub all_true : List Bool → Bool
all_true [] = true
all_true (b ∷ bs) = b && all_true bs

abbrev pub nth : List Bool → ℕ → Bool
nth [] i = true
nth (b ∷ bs) zero = b
nth (b ∷ bs) (suc i) = nth bs i

-- the laws at every code below q, one test for each
abbrev pub tests : ℕ → (ℕ → ℕ → ℕ) → (ℕ → ℕ) → (ℕ → ℕ → ℕ) → (ℕ → ℕ) → List Bool
tests q add neg mul inv =
    nat_lt 1 q
    ∷ all2 q (λ a b. ltb (add a b) q)
    ∷ all2 q (λ a b. ltb (mul a b) q)
    ∷ all_below q (λ a. ltb (neg a) q)
    ∷ all_below q (λ a. ltb (inv a) q)
    ∷ all2 q (λ a b. nat_eq (add a b) (add b a))
    ∷ all3 q (λ a b c. nat_eq (add (add a b) c) (add a (add b c)))
    ∷ all_below q (λ a. nat_eq (add a 0) a)
    ∷ all_below q (λ a. nat_eq (add a (neg a)) 0)
    ∷ all2 q (λ a b. nat_eq (mul a b) (mul b a))
    ∷ all3 q (λ a b c. nat_eq (mul (mul a b) c) (mul a (mul b c)))
    ∷ all_below q (λ a. nat_eq (mul a 1) a)
    ∷ all3 q (λ a b c. nat_eq (mul a (add b c)) (add (mul a b) (mul a c)))
    ∷ all_below q (λ a. (a == 0) || mul a (inv a) == 1)
    ∷ (inv 0 == 0)
    ∷ []

abbrev pub passes : ℕ → (ℕ → ℕ → ℕ) → (ℕ → ℕ) → (ℕ → ℕ → ℕ) → Bool
passes q add neg mul = all_true (tests q add neg mul (inverse q mul))
