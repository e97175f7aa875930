-- Operations that keep the laws at codes make a field, a number of q or more counting as 0. Assumes nothing.
use mathlib.Core.Path.{◌≡◌}
use Prim.Native.Nat.{ℕ, ◌<◌}
use native.Mathlib.Omega.{arith}
use Rattle.field.specs.Laws.{CodeLaws, Laws, code, on1, on2}
use Rattle.field.proofs.Codes.{code_at, code_below, code_code}

-- sums, products, negatives and inverses of codes are codes
pub record Closed (q : ℕ) (add mul : ℕ → ℕ → ℕ) (neg inv : ℕ → ℕ) : Type 0 where
  pub add_in : (a b : ℕ) → a < q → b < q → add a b < q
  pub mul_in : (a b : ℕ) → a < q → b < q → mul a b < q
  pub neg_in : (a : ℕ) → a < q → neg a < q
  pub inv_in : (a : ℕ) → a < q → inv a < q

module _ {q : ℕ} {add mul : ℕ → ℕ → ℕ} {neg inv : ℕ → ℕ} (C : Closed q add mul neg inv) (R : CodeLaws q add mul neg inv) where
  in_order : (a : ℕ) → code q a < q
  in_order a = code_below q a (omega (arith, R.order))

  again : (a : ℕ) → code q (code q a) ≡ code q a
  again a = code_code q a (omega (arith, R.order))

  pub extended : Laws q (on2 q add) (on2 q mul) (on1 q neg) (on1 q inv)
  extended = record {
    at_codes = record {
      order = R.order;
      add_comm = λ a b ha hb. simp code_at (R.add_comm a b ha hb);
      add_assoc = λ a b c ha hb hc.
          let h1 = C.add_in a b ha hb in let h2 = C.add_in b c hb hc in simp code_at (R.add_assoc a b c ha hb hc);
      add_zero = λ a ha. let z : 0 < q = omega (arith, R.order) in simp code_at (R.add_zero a ha);
      add_neg = λ a ha. let h = C.neg_in a ha in simp code_at (R.add_neg a ha);
      mul_comm = λ a b ha hb. simp code_at (R.mul_comm a b ha hb);
      mul_assoc = λ a b c ha hb hc.
          let h1 = C.mul_in a b ha hb in let h2 = C.mul_in b c hb hc in simp code_at (R.mul_assoc a b c ha hb hc);
      mul_one = λ a ha. let z : 1 < q = R.order in simp code_at (R.mul_one a ha);
      distrib = λ a b c ha hb hc.
          let h1 = C.mul_in a b ha hb in let h2 = C.mul_in a c ha hc in let h3 = C.add_in b c hb hc in
          simp code_at (R.distrib a b c ha hb hc);
      mul_inv = λ a ha pos. let h = C.inv_in a ha in simp code_at (R.mul_inv a ha pos);
      inv_zero = let z : 0 < q = omega (arith, R.order) in simp code_at R.inv_zero;
    };
    add_below = λ a b. C.add_in _ _ (in_order a) (in_order b);
    mul_below = λ a b. C.mul_in _ _ (in_order a) (in_order b);
    neg_below = λ a. C.neg_in _ (in_order a);
    inv_below = λ a. C.inv_in _ (in_order a);
    add_code = λ a b. simp again;
    mul_code = λ a b. simp again;
    neg_code = λ a. simp again;
    inv_code = λ a. simp again;
  }
