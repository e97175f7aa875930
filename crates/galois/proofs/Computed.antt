-- The steps and the tables of the polynomial fields, right at every code by computed tests. Assumes nothing.
use Rattle.std.proofs.Common.{◌≡◌, ℕ, ◌<◌, Bool, true, ◌==◌, inl, inr, eqb, ltb, List, [], slice_index, slice_index_or, refl, arith}
use Rattle.std.proofs.lemmas.Bool.{eqb-true, ltb-true, or_cases}
use Rattle.std.proofs.lemmas.Bool.Decides.{nat_tests}
use Rattle.polymatroid.specs.Tests.{all_below}
use Rattle.polymatroid.proofs.Decides.{below_each}
use Rattle.field.specs.Laws.{code, on2}
use Rattle.field.proofs.Codes.{code_below}
use Rattle.galois.specs.Codes.{inverse}
use Rattle.galois.specs.Polynomials.{is_computed_order, times}
use Rattle.galois.specs.Steps.{times_y, stepwise}
use Rattle.galois.specs.Tables.{holds_products, holds_inverses}
use Rattle.galois.specs.Orders.Tests.{all2}
use Rattle.galois.specs.Orders.Each.{below_each2}

-- a table that passes its test holds the right result at each entry
pub products : (rows : List (List ℕ)) (a b : ℕ) → holds_products rows ≡ true → a < 16 → b < 16 → slice_index (slice_index_or rows a []) b ≡ times 16 a b
products rows a b p ha hb = eqb-true _ _ (below_each2 (λ a b. eqb (slice_index (slice_index_or rows a []) b) (times 16 a b)) 16 a b p ha hb)

pub inverses : (q : ℕ) (xs : List ℕ) (a : ℕ) → holds_inverses q xs ≡ true → a < q → slice_index xs a ≡ inverse q (times q) a
inverses q xs a p h = eqb-true _ _ (below_each (λ a. eqb (slice_index xs a) (inverse q (times q) a)) q a p h)

-- a test that passes at order 4 and at order 8
computed : (test : ℕ → Bool) (q : ℕ) → test 4 ≡ true → test 8 ≡ true → is_computed_order q ≡ true → test q ≡ true
computed test q at4 at8 h = elim (or_cases (q == 4) (q == 8) h) [ inl e ↦ rw (eqb-true q 4 e) at4 | inr e ↦ rw (eqb-true q 8 e) at8 ]

pub times_y_below : (q a : ℕ) → is_computed_order q ≡ true → a < q → times_y q a < q
times_y_below q a h l =
    let passed = computed (λ q. all_below q (λ a. ltb (times_y q a) q)) q refl refl h in
    ltb-true _ _ (below_each (λ a. ltb (times_y q a) q) q a passed l)

pub steps : (q a b : ℕ) → is_computed_order q ≡ true → stepwise q (code q a) (code q b) ≡ on2 q (times q) a b
steps q a b h =
    let passed = computed (λ q. all2 q (λ a b. eqb (stepwise q a b) (times q a b))) q refl refl h in
    let positive : 0 < q = grind (arith, nat_tests) in
    eqb-true _ _ (below_each2 (λ a b. eqb (stepwise q a b) (times q a b)) q _ _ passed (code_below q a positive) (code_below q b positive))

pub order_8 : (q : ℕ) → is_computed_order q ≡ true → (q ≡ 4 → ⊥) → q ≡ 8
order_8 q h n = grind (arith, nat_tests)
