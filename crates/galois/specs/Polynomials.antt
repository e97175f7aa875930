-- The fields of order 4, 8 and 16: bit i of a code is the coefficient of y^i in a polynomial over GF(2). Assumes nothing.
use Rattle.std.specs.Prelude.{ℕ, zero, suc, ◌+◌, ◌*◌, ◌/◌, ◌%◌, ◌^◌, Bool, cond, ◌||◌, ◌==◌, bit_xor, nat_lt}
use Rattle.field.specs.Laws.{Ops}
use Rattle.galois.specs.Codes.{on_codes}

-- the orders whose products are computed; those of order 16 stand in a table
abbrev pub is_computed_order : ℕ → Bool
is_computed_order q = q == 4 || q == 8

abbrev pub is_binary_order : ℕ → Bool
is_binary_order q = is_computed_order q || q == 16

-- the product of a polynomial with the n lowest terms of another
abbrev pub product : ℕ → ℕ → ℕ → ℕ
product zero a b = 0
product (suc n) a b = bit_xor (cond (b % 2 == 1) a 0) (product n (2 * a) (b / 2))

-- y^m + y + 1, where q is 2^m
abbrev pub modulus : ℕ → ℕ
modulus q = q + 3

-- the remainder of a polynomial of degree below m + n by the modulus; the highest term goes first
abbrev pub remainder : ℕ → ℕ → ℕ → ℕ
remainder q zero a = a
remainder q (suc n) a = remainder q n (cond (nat_lt a (2 ^ n * q)) a (bit_xor a (2 ^ n * modulus q)))

-- polynomial multiplication modulo y^m + y + 1: codes have at most four terms, their products at most seven
abbrev pub times : ℕ → ℕ → ℕ → ℕ
times q a b = remainder q 3 (product 4 a b)

-- a polynomial over GF(2) is its own negative
abbrev pub negative : ℕ → ℕ
negative a = a

-- the field of order 4, 8 or 16
abbrev pub binary_ops : ℕ → Ops
binary_ops q = on_codes q bit_xor negative (times q)
