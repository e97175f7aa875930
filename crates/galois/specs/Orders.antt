-- The laws at every order, each kind of field by one computed test. Assumes nothing.
-- These proofs stand in specs/ because an impl may cite no proofs/ of its own crate.
pub mod Tests
pub mod Each
pub mod Tested
use Rattle.std.specs.Prelude.{◌≡◌, ℕ, ◌<◌, true, bit_xor, refl}
use Rattle.std.proofs.Common.{arith}
use Rattle.field.specs.Laws.{Lawful}
use Rattle.galois.specs.Modular.{is_prime_order, sum, negative, product, prime_ops}
use Rattle.galois.specs.Polynomials.{is_binary_order, times, binary_ops, negative as itself}
use Rattle.galois.specs.Orders.Tests.{passes}
use Rattle.galois.specs.Orders.Each.{listed_each, only_of, one_of}
use Rattle.galois.specs.Orders.Tested.{tested}

pub prime_below : (q : ℕ) → is_prime_order q ≡ true → q < 14
prime_below q =
    one_of q 13 14 _ (omega arith) (one_of q 11 14 _ (omega arith) (one_of q 7 14 _ (omega arith)
    (one_of q 5 14 _ (omega arith) (one_of q 3 14 _ (omega arith) (only_of q 2 14 (omega arith))))))

pub prime_laws : (q : ℕ) → is_prime_order q ≡ true → Lawful (prime_ops q)
prime_laws q h =
    let passed = listed_each 14 is_prime_order (λ q. passes q (sum q) (negative q) (product q)) q refl (prime_below q h) h in
    tested q (sum q) (negative q) (product q) passed

binary_below : (q : ℕ) → is_binary_order q ≡ true → q < 17
binary_below q = one_of q 16 17 _ (omega arith) (one_of q 8 17 _ (omega arith) (only_of q 4 17 (omega arith)))

pub binary_laws : (q : ℕ) → is_binary_order q ≡ true → Lawful (binary_ops q)
binary_laws q h =
    let passed = listed_each 17 is_binary_order (λ q. passes q bit_xor itself (times q)) q refl (binary_below q h) h in
    tested q bit_xor itself (times q) passed
