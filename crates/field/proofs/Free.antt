-- The laws of a field at any number, since one of q or more counts as 0. Assumes nothing.
use mathlib.Core.Path.{◌≡◌, sym, ap, ap₂, ◌∙◌}
use Prim.Native.Nat.{ℕ, ◌<◌}
use mathlib.Core.Logic.{inl, inr}
use native.Mathlib.Omega.{arith}
use Rattle.std.proofs.lemmas.Bool.{cases_eq, cases_lt}
use Rattle.field.specs.Laws.{Laws, code}
use Rattle.field.proofs.Codes.{code_at, code_past, code_below, code_code}

module _ {q : ℕ} {add mul : ℕ → ℕ → ℕ} {neg inv : ℕ → ℕ} (L : Laws q add mul neg inv) where
  pub order : 1 < q
  order = L.at_codes.order

  pub pos : 0 < q
  pos = omega (arith, order)

  pub in_q : (a : ℕ) → code q a < q
  in_q a = code_below q a pos

  pub code_zero : code q 0 ≡ 0
  code_zero = code_at q 0 pos

  -- 1 does not count as 0
  pub one_real : code q 1 ≡ 0 → ⊥
  one_real e = omega (arith, e, code_at q 1 order)

  pub code_add : (a b : ℕ) → code q (add a b) ≡ add a b
  code_add a b = code_at q (add a b) (L.add_below a b)

  pub code_mul : (a b : ℕ) → code q (mul a b) ≡ mul a b
  code_mul a b = code_at q (mul a b) (L.mul_below a b)

  pub code_neg : (a : ℕ) → code q (neg a) ≡ neg a
  code_neg a = code_at q (neg a) (L.neg_below a)

  pub again : (a : ℕ) → code q (code q a) ≡ code q a
  again a = code_code q a pos

  -- codes in an operation go away
  pub add_code_l : (a b : ℕ) → add (code q a) b ≡ add a b
  add_code_l a b = L.add_code (code q a) b ∙ ap (λ x. add x (code q b)) (again a) ∙ sym (L.add_code a b)

  pub add_code_r : (a b : ℕ) → add a (code q b) ≡ add a b
  add_code_r a b = L.add_code a (code q b) ∙ ap (add (code q a)) (again b) ∙ sym (L.add_code a b)

  pub mul_code_l : (a b : ℕ) → mul (code q a) b ≡ mul a b
  mul_code_l a b = L.mul_code (code q a) b ∙ ap (λ x. mul x (code q b)) (again a) ∙ sym (L.mul_code a b)

  pub mul_code_r : (a b : ℕ) → mul a (code q b) ≡ mul a b
  mul_code_r a b = L.mul_code a (code q b) ∙ ap (mul (code q a)) (again b) ∙ sym (L.mul_code a b)

  ruleset codes = (add_code_l, add_code_r, mul_code_l, mul_code_r)

  pub add_comm : (a b : ℕ) → add a b ≡ add b a
  add_comm a b = L.add_code a b ∙ L.at_codes.add_comm _ _ (in_q a) (in_q b) ∙ sym (L.add_code b a)

  pub add_assoc : (a b c : ℕ) → add (add a b) c ≡ add a (add b c)
  add_assoc a b c = simp codes at (L.at_codes.add_assoc _ _ _ (in_q a) (in_q b) (in_q c))

  pub add_zero : (a : ℕ) → add a 0 ≡ code q a
  add_zero a = simp codes at (L.at_codes.add_zero _ (in_q a))

  pub zero_add : (a : ℕ) → add 0 a ≡ code q a
  zero_add a = add_comm 0 a ∙ add_zero a

  pub add_neg : (a : ℕ) → add a (neg a) ≡ 0
  add_neg a = simp (codes, ← (L.neg_code a)) at (L.at_codes.add_neg _ (in_q a))

  pub neg_add : (a : ℕ) → add (neg a) a ≡ 0
  neg_add a = add_comm (neg a) a ∙ add_neg a

  pub mul_comm : (a b : ℕ) → mul a b ≡ mul b a
  mul_comm a b = L.mul_code a b ∙ L.at_codes.mul_comm _ _ (in_q a) (in_q b) ∙ sym (L.mul_code b a)

  pub mul_assoc : (a b c : ℕ) → mul (mul a b) c ≡ mul a (mul b c)
  mul_assoc a b c = simp codes at (L.at_codes.mul_assoc _ _ _ (in_q a) (in_q b) (in_q c))

  pub mul_one : (a : ℕ) → mul a 1 ≡ code q a
  mul_one a = simp codes at (L.at_codes.mul_one _ (in_q a))

  pub one_mul : (a : ℕ) → mul 1 a ≡ code q a
  one_mul a = mul_comm 1 a ∙ mul_one a

  pub mul_add : (a b c : ℕ) → mul a (add b c) ≡ add (mul a b) (mul a c)
  mul_add a b c = simp codes at (L.at_codes.distrib _ _ _ (in_q a) (in_q b) (in_q c))

  pub add_mul : (a b c : ℕ) → mul (add a b) c ≡ add (mul a c) (mul b c)
  add_mul a b c = mul_comm _ c ∙ mul_add c a b ∙ simp (mul_comm c)

  pub add_left_comm : (a b c : ℕ) → add a (add b c) ≡ add b (add a c)
  add_left_comm a b c = sym (add_assoc a b c) ∙ ap (λ x. add x c) (add_comm a b) ∙ add_assoc b a c

  pub mul_left_comm : (a b c : ℕ) → mul a (mul b c) ≡ mul b (mul a c)
  mul_left_comm a b c = sym (mul_assoc a b c) ∙ ap (λ x. mul x c) (mul_comm a b) ∙ mul_assoc b a c

  -- z = z + z only at 0
  twice : (z : ℕ) → code q z ≡ z → z ≡ add z z → z ≡ 0
  twice z k e =
      sym k ∙ sym (add_zero z) ∙ ap (add z) (sym (add_neg z)) ∙ sym (add_assoc z z (neg z))
      ∙ ap (λ x. add x (neg z)) (sym e) ∙ add_neg z

  pub mul_zero : (a : ℕ) → mul a 0 ≡ 0
  mul_zero a =
      twice (mul a 0) (code_mul a 0)
      (ap (mul a) (sym (add_zero 0 ∙ code_zero)) ∙ mul_add a 0 0)

  pub zero_mul : (a : ℕ) → mul 0 a ≡ 0
  zero_mul a = mul_comm 0 a ∙ mul_zero a

  -- a product with a number that counts as 0
  pub mul_none : (a b : ℕ) → code q b ≡ 0 → mul a b ≡ 0
  mul_none a b e = sym (mul_code_r a b) ∙ ap (mul a) e ∙ mul_zero a

  pub none_mul : (a b : ℕ) → code q a ≡ 0 → mul a b ≡ 0
  none_mul a b e = mul_comm a b ∙ mul_none b a e

  -- the negative is what adds up to 0
  neg_is : (a b : ℕ) → add a b ≡ 0 → neg a ≡ code q b
  neg_is a b e =
      sym (code_neg a) ∙ sym (add_zero (neg a)) ∙ ap (add (neg a)) (sym e) ∙ sym (add_assoc (neg a) a b)
      ∙ ap (λ x. add x b) (neg_add a) ∙ zero_add b

  neg_neg : (a : ℕ) → neg (neg a) ≡ code q a
  neg_neg a = neg_is (neg a) a (neg_add a)

  pub neg_mul_l : (a b : ℕ) → mul (neg a) b ≡ neg (mul a b)
  neg_mul_l a b =
      sym (code_mul (neg a) b)
      ∙ sym (neg_is (mul a b) (mul (neg a) b) (sym (add_mul a (neg a) b) ∙ ap (λ x. mul x b) (add_neg a) ∙ zero_mul b))

  neg_mul_r : (a b : ℕ) → mul a (neg b) ≡ neg (mul a b)
  neg_mul_r a b = mul_comm a (neg b) ∙ neg_mul_l b a ∙ ap neg (mul_comm b a)

  -- nothing taken away
  pub less_none : (a x : ℕ) → x ≡ 0 → add a (neg x) ≡ code q a
  less_none a x e = ap (λ y. add a (neg y)) e ∙ ap (add a) (neg_is 0 0 (add_zero 0 ∙ code_zero) ∙ code_zero) ∙ add_zero a

  -- taken away and added again, and added and taken away again
  pub back : (a c x : ℕ) → add (add a (neg (mul c x))) (mul c x) ≡ code q a
  back a c x = add_assoc a (neg (mul c x)) (mul c x) ∙ ap (add a) (neg_add (mul c x)) ∙ add_zero a

  pub gone : (a x : ℕ) → add (add a x) (neg x) ≡ code q a
  gone a x = add_assoc a x (neg x) ∙ ap (add a) (add_neg x) ∙ add_zero a

  -- a number that does not count as 0 is a code
  pub real : (x : ℕ) → (code q x ≡ 0 → ⊥) → (x < q) × (0 < x)
  real x n = elim (cases_lt x q) [
    | inl h ↦ (h, elim (cases_eq x 0) [ inl z ↦ absurd (n (ap (code q) z ∙ code_zero)) | inr p ↦ omega arith ])
    | inr h ↦ absurd (n (code_past q x h))
  ]

  pub mul_inv : (c : ℕ) → (code q c ≡ 0 → ⊥) → mul c (inv c) ≡ 1
  mul_inv c n = L.at_codes.mul_inv c (real c n).0 (real c n).1

  -- divided and multiplied again
  pub undone : (c : ℕ) → (code q c ≡ 0 → ⊥) → (x : ℕ) → mul c (mul (inv c) x) ≡ code q x
  undone c n x = sym (mul_assoc c (inv c) x) ∙ ap (λ y. mul y x) (mul_inv c n) ∙ one_mul x

  -- -1/c times (a - c b) is b - a/c
  pub turned : (c : ℕ) → (code q c ≡ 0 → ⊥) → (a b : ℕ) → mul (neg (inv c)) (add a (neg (mul c b))) ≡ add b (neg (mul (inv c) a))
  turned c n a b = mul_add _ _ _ ∙ add_comm _ _ ∙ ap₂ add half (neg_mul_l (inv c) a) ∙ add_code_l b _
    where
      half : mul (neg (inv c)) (neg (mul c b)) ≡ code q b
      half =
          neg_mul_l _ _ ∙ ap neg (neg_mul_r _ _) ∙ neg_neg _ ∙ code_mul _ _ ∙ mul_left_comm (inv c) c b ∙ undone c n b
