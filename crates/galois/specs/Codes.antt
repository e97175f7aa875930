-- A field on codes from its sum, negative and product. Assumes nothing.
use Rattle.std.specs.Prelude.{ℕ, zero, suc, cond, ◌==◌}
use Rattle.field.specs.Laws.{Ops, on1, on2}

-- the first of n codes from b on whose product with a is 1; 0 where there is none
abbrev pub first_inverse : (ℕ → ℕ → ℕ) → ℕ → ℕ → ℕ → ℕ
first_inverse mul a zero b = 0
first_inverse mul a (suc n) b = cond (mul a b == 1) b (first_inverse mul a n (suc b))

abbrev pub inverse : ℕ → (ℕ → ℕ → ℕ) → ℕ → ℕ
inverse q mul a = first_inverse mul a q 0

-- the operations of order q; a number of q or more counts as 0
abbrev pub on_codes : ℕ → (ℕ → ℕ → ℕ) → (ℕ → ℕ) → (ℕ → ℕ → ℕ) → Ops
on_codes q add neg mul = record {
  order = q;
  add = on2 q add;
  mul = on2 q mul;
  neg = on1 q neg;
  inv = on1 q (inverse q mul);
}
