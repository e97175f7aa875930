-- The claim's coefficients, set by set. Assumes nothing.
use Rattle.std.proofs.Common.{◌≡◌, ℕ, zero, suc, ◌≤◌, ℤ, pos, ◌*ℤ◌, sym, refl, inl, inr, arith}
use Rattle.std.proofs.lemmas.Int.{ints}
use Rattle.std.proofs.lemmas.Nat.{pow_below}
use Rattle.std.proofs.lemmas.Bool.{eq-eqb, ne_eqb, cases_order}
use Rattle.polymatroid.specs.Sets.{secret, alone}
use Rattle.polymatroid.specs.Certificate.{sum_to_ℤ, unit, Claims}

apart : (i j : ℕ) → (i ≡ j → ⊥) → alone i ≡ alone j → ⊥
apart i j ne e = elim (cases_order i j) [
  | inl same ↦ ne same
  | inr (inl l) ↦ omega (arith, pow_below i j l)
  | inr (inr l) ↦ omega (arith, pow_below j i l)
]

unit_no : (s t : ℕ) → (s ≡ t → ⊥) → unit s t ≡ pos 0
unit_no s t ne = rw (ne_eqb s t ne)

module _ (weight : ℕ → ℕ) where
  weights : ℕ → ℕ → ℤ
  weights k s = sum_to_ℤ k (λ i. pos (weight i) *ℤ unit s (alone i))

  none : (s k : ℕ) → ((i : ℕ) → 1 ≤ i → i ≤ k → s ≡ alone i → ⊥) → weights k s ≡ pos 0
  unfolding weights
  none s zero ne = refl
  none s (suc k) ne =
      rw (none s k (λ i p q. ne i p (omega arith)), unit_no s (alone (suc k)) (ne (suc k) (omega arith) (omega arith))) (omega (arith, ints))

  one : (j k : ℕ) → 1 ≤ j → j ≤ k → weights k (alone j) ≡ pos (weight j)
  unfolding weights
  one j zero p q = absurd (omega arith)
  one j (suc k) p q = elim (cases_order j (suc k)) [
    | inl e ↦ rw (e, none (alone (suc k)) k (λ i a b. apart (suc k) i (omega arith)), eq-eqb (alone (suc k)) (alone (suc k)) refl) (omega (arith, ints))
    | inr (inl l) ↦ rw (one j k p (omega arith), unit_no (alone j) (alone (suc k)) (apart j (suc k) (omega arith))) (omega (arith, ints))
    | inr (inr l) ↦ absurd (omega arith)
  ]

no_secret : (i : ℕ) → 1 ≤ i → secret ≡ alone i → ⊥
no_secret i p e = omega (arith, pow_below 0 i p)

pub claims : Claims
unfolding weights
claims n weight count = record {
  at_secret = rw (none weight secret n (λ i p q. no_secret i p)) (omega (arith, ints));
  at_participant = λ i p q. rw (one weight i n p q, unit_no (alone i) secret (λ e. no_secret i p (sym e))) (omega (arith, ints));
  elsewhere = λ s ne away. rw (none weight s n away, unit_no s secret ne) (omega (arith, ints));
}
