-- The test of realising decides it, and the largest share is found. Assumes nothing.
use Rattle.std.proofs.Common.{◌≡◌, ℕ, zero, suc, ◌+◌, ◌*◌, ◌/◌, ◌^◌, ◌<◌, ◌≤◌, Bool, true, false, cond, leb, sym, ap, ◌∙◌, subst, inl, inr, arith, pow-add}
use lib.Bits.{bit_or}
use Rattle.std.proofs.lemmas.Nat.{and_mask}
use Rattle.std.proofs.lemmas.Bool.{and_parts, and_from, cases_Bool, cases_eq, cases_lt, eq-eqb, eqb-true, le-leb, leb-true}
use Rattle.polymatroid.specs.Sets.{secret, alone, Coalition}
use Rattle.polymatroid.specs.Tests.{all_below}
use Rattle.polymatroid.specs.Realising.{Realises}
use Rattle.polymatroid.proofs.Decides.{below_each, all_pass}
use Rattle.realising.specs.Realised.{realised_at, realises, largest_share, RealisingDecided, LargestFound}

-- the coalitions of n participants are the codes 2 k with k below 2 ^ n
pub halved : (n a : ℕ) → Coalition n a → (a / 2 < 2 ^ n) × (2 * (a / 2) ≡ a)
halved n a c =
    let even : 2 * (a / 2) ≡ a = omega (arith, and_mask a 1, c.1) in
    (omega (arith, pow-add 2 n 1, c.0), even)

pub doubled : (n k : ℕ) → k < 2 ^ n → Coalition n (2 * k)
doubled n k l = (omega (arith, pow-add 2 n 1), omega (arith, and_mask (2 * k) 1))

module _ (n : ℕ) (qualified : ℕ → Bool) (h : ℕ → ℕ) where
  coalition_test : ℕ → Bool
  coalition_test k = realised_at qualified h (2 * k)

  correct_at : (a : ℕ) (b : Bool) → qualified a ≡ b → realised_at qualified h a ≡ true → h (bit_or a secret) ≡ cond b (h a) (h a + h secret)
  correct_at a b e p = eqb-true _ _ p ∙ ap (λ (x : Bool). cond x (h a) (h a + h secret)) e

  passes_at : (a : ℕ) (b : Bool) → qualified a ≡ b → h (bit_or a secret) ≡ cond b (h a) (h a + h secret) → realised_at qualified h a ≡ true
  passes_at a b e p = eq-eqb _ _ (p ∙ ap (λ (x : Bool). cond x (h a) (h a + h secret)) (sym e))

  at_coalition : realises n qualified h ≡ true → (a : ℕ) → Coalition n a → realised_at qualified h a ≡ true
  at_coalition p a c =
      let parts = and_parts (leb 1 (h secret)) (all_below (2 ^ n) (λ k. realised_at qualified h (2 * k))) p in
      let half = halved n a c in
      subst (λ (x : ℕ). realised_at qualified h x ≡ true) half.1
      (below_each (λ k. realised_at qualified h (2 * k)) (2 ^ n) (a / 2) parts.1 half.0)

  realised : realises n qualified h ≡ true → Realises n qualified h
  realised p = record {
    sized = leb-true 1 (h secret) (and_parts (leb 1 (h secret)) (all_below (2 ^ n) (λ k. realised_at qualified h (2 * k))) p).0;
    correct = λ a c q. correct_at a true q (at_coalition p a c);
    private = λ a c q. correct_at a false q (at_coalition p a c);
  }

  each_passes : Realises n qualified h → (k : ℕ) → k < 2 ^ n → realised_at qualified h (2 * k) ≡ true
  each_passes r k l = elim (cases_Bool (qualified (2 * k))) [
    | inl q ↦ passes_at (2 * k) true q (r.correct (2 * k) (doubled n k l) q)
    | inr q ↦ passes_at (2 * k) false q (r.private (2 * k) (doubled n k l) q)
  ]

  passes : Realises n qualified h → realises n qualified h ≡ true
  passes r =
      and_from (leb 1 (h secret)) (all_below (2 ^ n) (λ k. realised_at qualified h (2 * k))) (le-leb 1 (h secret) r.sized)
      (sym (all_pass (2 ^ n) (λ k. realised_at qualified h (2 * k)) (each_passes r)))

pub realising_decided : RealisingDecided
realising_decided n qualified h = (realised n qualified h, passes n qualified h)

larger_of : (h : ℕ → ℕ) (n : ℕ) (i : ℕ) → 1 ≤ i → i ≤ n → h (alone i) ≤ largest_share n h
larger_of h zero i l m = absurd (omega arith)
larger_of h (suc n) i l m = elim (cases_eq i (suc n)) [
  | inl e ↦ rw e (omega arith)
  | inr ne ↦ omega (arith, larger_of h n i l (omega arith))
]

held_by : (h : ℕ → ℕ) (n : ℕ) → (i : ℕ) × (1 ≤ i) × (i ≤ suc n) × (h (alone i) ≡ largest_share (suc n) h)
held_by h zero = (1, omega arith, omega arith, omega arith)
held_by h (suc n) = let r = held_by h n in let low = r.1 in let high = r.2 in elim (cases_lt (largest_share (suc n) h) (h (alone (suc (suc n))))) [
  | inl l ↦ (suc (suc n), omega arith, omega arith, omega arith)
  | inr l ↦ (r.0, low, omega arith, r.3 ∙ omega arith)
]

pub largest_found : LargestFound
largest_found zero h l = absurd (omega arith)
largest_found (suc n) h l = record { held = held_by h n; none_larger = larger_of h (suc n) }
