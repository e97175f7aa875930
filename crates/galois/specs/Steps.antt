-- A product of polynomials step by step, as the code computes it; proofs/ shows that it is the product. Assumes nothing.
use Rattle.std.specs.Prelude.{ℕ, ◌*◌, ◌/◌, ◌%◌, cond, ◌==◌, bit_xor, nat_lt}
use Rattle.galois.specs.Polynomials.{modulus}

-- y times a code
abbrev pub times_y : ℕ → ℕ → ℕ
times_y q a = cond (nat_lt (2 * a) q) (2 * a) (bit_xor (2 * a) (modulus q))

-- a where the lowest term of b is there, else 0
abbrev pub where_odd : ℕ → ℕ → ℕ
where_odd b a = cond (b % 2 == 1) a 0

-- the sum of a, y a and y² a where b has the term
abbrev pub stepwise : ℕ → ℕ → ℕ → ℕ
stepwise q a b = bit_xor (bit_xor (where_odd b a) (where_odd (b / 2) (times_y q a))) (where_odd (b / 4) (times_y q (times_y q a)))
