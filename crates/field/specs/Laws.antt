-- A finite field on the codes 0 to q - 1. Assumes nothing.
use Rattle.std.specs.Prelude.{◌≡◌, cond, ℕ, ◌<◌, ltb}

-- a number of q or more counts as the code 0
abbrev pub code : ℕ → ℕ → ℕ
code q a = cond (ltb a q) a 0

-- an operation on codes below q, at any number
abbrev pub on1 : ℕ → (ℕ → ℕ) → ℕ → ℕ
on1 q f a = f (code q a)

abbrev pub on2 : ℕ → (ℕ → ℕ → ℕ) → ℕ → ℕ → ℕ
on2 q f a b = f (code q a) (code q b)

-- the order and the operations of a field, as one value
pub record Ops : Type 0 where
  pub order : ℕ
  pub add : ℕ → ℕ → ℕ
  pub mul : ℕ → ℕ → ℕ
  pub neg : ℕ → ℕ
  pub inv : ℕ → ℕ

-- the field laws, at the codes below q
pub record CodeLaws (q : ℕ) (add mul : ℕ → ℕ → ℕ) (neg inv : ℕ → ℕ) : Type 0 where
  pub order : 1 < q
  -- sums
  pub add_comm : (a b : ℕ) → a < q → b < q → add a b ≡ add b a
  pub add_assoc : (a b c : ℕ) → a < q → b < q → c < q → add (add a b) c ≡ add a (add b c)
  pub add_zero : (a : ℕ) → a < q → add a 0 ≡ a
  pub add_neg : (a : ℕ) → a < q → add a (neg a) ≡ 0
  -- products
  pub mul_comm : (a b : ℕ) → a < q → b < q → mul a b ≡ mul b a
  pub mul_assoc : (a b c : ℕ) → a < q → b < q → c < q → mul (mul a b) c ≡ mul a (mul b c)
  pub mul_one : (a : ℕ) → a < q → mul a 1 ≡ a
  pub distrib : (a b c : ℕ) → a < q → b < q → c < q → mul a (add b c) ≡ add (mul a b) (mul a c)
  pub mul_inv : (a : ℕ) → a < q → 0 < a → mul a (inv a) ≡ 1
  -- by convention
  pub inv_zero : inv 0 ≡ 0

-- the laws of operations that take any number: results are codes, and a number of q or more counts as 0
pub record Laws (q : ℕ) (add mul : ℕ → ℕ → ℕ) (neg inv : ℕ → ℕ) : Type 0 where
  pub at_codes : CodeLaws q add mul neg inv
  pub add_below : (a b : ℕ) → add a b < q
  pub mul_below : (a b : ℕ) → mul a b < q
  pub neg_below : (a : ℕ) → neg a < q
  pub inv_below : (a : ℕ) → inv a < q
  pub add_code : (a b : ℕ) → add a b ≡ add (code q a) (code q b)
  pub mul_code : (a b : ℕ) → mul a b ≡ mul (code q a) (code q b)
  pub neg_code : (a : ℕ) → neg a ≡ neg (code q a)
  pub inv_code : (a : ℕ) → inv a ≡ inv (code q a)

-- these operations make a field
abbrev pub Lawful : Ops → Type 0
Lawful o = Laws o.order o.add o.mul o.neg o.inv
