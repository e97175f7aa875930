-- The fields of prime order: whole numbers modulo q. Assumes nothing.
use Rattle.std.specs.Prelude.{ℕ, ◌+◌, ◌-◌, ◌*◌, ◌%◌, Bool, ◌||◌, ◌==◌}
use Rattle.field.specs.Laws.{Ops}
use Rattle.galois.specs.Codes.{on_codes}

abbrev pub is_prime_order : ℕ → Bool
is_prime_order q = q == 2 || q == 3 || q == 5 || q == 7 || q == 11 || q == 13

abbrev pub sum : ℕ → ℕ → ℕ → ℕ
sum q a b = (a + b) % q

abbrev pub negative : ℕ → ℕ → ℕ
negative q a = (q - a) % q

abbrev pub product : ℕ → ℕ → ℕ → ℕ
product q a b = (a * b) % q

-- the field of a prime order
abbrev pub prime_ops : ℕ → Ops
prime_ops q = on_codes q (sum q) (negative q) (product q)
