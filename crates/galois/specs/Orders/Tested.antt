-- Where the tests of a finite field pass, its laws hold. Assumes nothing.
use Rattle.std.specs.Prelude.{◌≡◌, ℕ, ◌<◌, true, ◌||◌, ltb, ◌==◌, nat_eq}
use Rattle.std.proofs.Common.{inl, inr, arith}
use Rattle.std.proofs.lemmas.Bool.{ltb-true, eqb-true, or_cases}
use Rattle.field.specs.Laws.{Lawful}
use Rattle.field.proofs.Extended.{Closed, extended}
use Rattle.polymatroid.proofs.Decides.{below_each}
use Rattle.galois.specs.Codes.{inverse, on_codes}
use Rattle.galois.specs.Orders.Each.{below_each2, below_each3, pick}
use Rattle.galois.specs.Orders.Tests.{nth, tests, passes}

module _ (q : ℕ) (add : ℕ → ℕ → ℕ) (neg : ℕ → ℕ) (mul : ℕ → ℕ → ℕ) (passed : passes q add neg mul ≡ true) where
  abbrev inv : ℕ → ℕ
  inv = inverse q mul

  test : (i : ℕ) → nth (tests q add neg mul inv) i ≡ true
  test i = pick (tests q add neg mul inv) i passed

  unless_zero : (a n : ℕ) → (a == 0 || n == 1) ≡ true → 0 < a → n ≡ 1
  unless_zero a n p h = elim (or_cases (a == 0) (n == 1) p) [
    | inl z ↦ let e = eqb-true a 0 z in absurd (omega arith)
    | inr o ↦ eqb-true n 1 o
  ]

  closed : Closed q add mul neg inv
  closed = record {
    add_in = λ a b ha hb. ltb-true _ _ (below_each2 (λ a b. ltb (add a b) q) q a b (test 1) ha hb);
    mul_in = λ a b ha hb. ltb-true _ _ (below_each2 (λ a b. ltb (mul a b) q) q a b (test 2) ha hb);
    neg_in = λ a ha. ltb-true _ _ (below_each (λ a. ltb (neg a) q) q a (test 3) ha);
    inv_in = λ a ha. ltb-true _ _ (below_each (λ a. ltb (inv a) q) q a (test 4) ha);
  }

  pub tested : Lawful (on_codes q add neg mul)
  tested = extended closed (record {
    order = ltb-true 1 q (test 0);
    add_comm = λ a b ha hb. eqb-true _ _ (below_each2 (λ a b. nat_eq (add a b) (add b a)) q a b (test 5) ha hb);
    add_assoc = λ a b c ha hb hc.
        eqb-true _ _ (below_each3 (λ a b c. nat_eq (add (add a b) c) (add a (add b c))) q a b c (test 6) ha hb hc);
    add_zero = λ a ha. eqb-true _ _ (below_each (λ a. nat_eq (add a 0) a) q a (test 7) ha);
    add_neg = λ a ha. eqb-true _ _ (below_each (λ a. nat_eq (add a (neg a)) 0) q a (test 8) ha);
    mul_comm = λ a b ha hb. eqb-true _ _ (below_each2 (λ a b. nat_eq (mul a b) (mul b a)) q a b (test 9) ha hb);
    mul_assoc = λ a b c ha hb hc.
        eqb-true _ _ (below_each3 (λ a b c. nat_eq (mul (mul a b) c) (mul a (mul b c))) q a b c (test 10) ha hb hc);
    mul_one = λ a ha. eqb-true _ _ (below_each (λ a. nat_eq (mul a 1) a) q a (test 11) ha);
    distrib = λ a b c ha hb hc.
        eqb-true _ _ (below_each3 (λ a b c. nat_eq (mul a (add b c)) (add (mul a b) (mul a c))) q a b c (test 12) ha hb hc);
    mul_inv = λ a ha pos.
        unless_zero a (mul a (inv a)) (below_each (λ a. (a == 0) || mul a (inv a) == 1) q a (test 13) ha) pos;
    inv_zero = eqb-true _ _ (test 14);
  })
