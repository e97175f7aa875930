-- Why a right certificate binds. Assumes nothing.
use Rattle.std.proofs.Common.{◌≡◌, ℕ, zero, suc, ◌+◌, ◌*◌, ◌^◌, ◌≤◌, pos, ◌≤ℤ◌, ap, ◌∙◌, subst, inl, inr, add-mul, mul-le-mul_left, arith}
use Rattle.std.proofs.lemmas.Int.{ints}
use Rattle.std.proofs.lemmas.Bool.{cases_lt}
use Rattle.polymatroid.specs.Sets.{alone}
use Rattle.polymatroid.specs.Certificate.{sum_to, combination, claim, Weighted, Sound}
use Rattle.polymatroid.proofs.Forms.{agree}
use Rattle.polymatroid.proofs.Lines.{combination_form, combination_value, claim_form, claim_value}

pub weighted : Weighted
weighted n qualified weight count lines lawful matches h p r =
    let same : combination lines (λ s. pos (h s)) ≡ claim n weight count (λ s. pos (h s)) =
    agree (2 ^ (n + 1)) (combination lines) (claim n weight count)
    (combination_form n qualified lines lawful) (claim_form n weight count) (λ s. pos (h s)) (ap pos p.empty) matches in
    omega (arith, ints, subst (λ z. pos 0 ≤ℤ z) (same ∙ claim_value n weight count h) (combination_value n qualified h p r lines lawful))

-- the largest of f 1 .. f n
abbrev Largest : ℕ → (ℕ → ℕ) → ℕ → Type 0
Largest n f i = (1 ≤ i) × (i ≤ n) × ((j : ℕ) → 1 ≤ j → j ≤ n → f j ≤ f i)

largest : (f : ℕ → ℕ) (n : ℕ) → (i : ℕ) × Largest (suc n) f i
largest f zero = (1, (omega arith, omega arith, λ j p q. let e : j ≡ 1 = omega arith in rw e (omega arith)))
largest f (suc n) = grown (largest f n)
  where
    last : (i j : ℕ) → j ≤ suc (suc n) → f (suc (suc n)) ≤ f i → (j ≤ suc n → f j ≤ f i) → f j ≤ f i
    last i j q le before = elim (cases_lt j (suc (suc n))) [
      | inl l ↦ before (omega arith)
      | inr l ↦ (let e : j ≡ suc (suc n) = omega arith in rw e le)
    ]

    grown : (i : ℕ) × Largest (suc n) f i → (i : ℕ) × Largest (suc (suc n)) f i
    grown (i, (p, q, all)) = elim (cases_lt (f i) (f (suc (suc n)))) [
      | inl l ↦ (suc (suc n), (omega arith, omega arith, λ j a b. last (suc (suc n)) j b (omega arith) (λ c. omega (arith, all j a c))))
      | inr l ↦ (i, (p, omega arith, λ j a b. last i j b l (λ c. all j a c)))
    ]

spread : (weight f : ℕ → ℕ) (m n : ℕ) → ((j : ℕ) → 1 ≤ j → j ≤ n → f j ≤ m) → sum_to n (λ i. weight i * f i) ≤ sum_to n weight * m
spread weight f m zero all = omega arith
spread weight f m (suc n) all =
    omega (arith, spread weight f m n (λ j p q. all j p (omega arith)), mul-le-mul_left (weight (suc n)) (all (suc n) (omega arith) (omega arith)), add-mul (sum_to n weight) (weight (suc n)) m)

pub sound : Sound
sound zero qualified weight count lines some lawful matches h p r = absurd (omega arith)
sound (suc n) qualified weight count lines some lawful matches h p r =
    let top = largest (λ i. h (alone i)) n in
    let w = weighted (suc n) qualified weight count lines lawful matches h p r in
    let s = spread weight (λ i. h (alone i)) (h (alone top.0)) (suc n) top.1.2 in
    (top.0, top.1.0, top.1.1, omega arith)
