-- Members of sets: what lies within what. Assumes nothing.
use Rattle.std.proofs.Common.{◌≡◌, ℕ, ◌+◌, ◌-◌, ◌*◌, ◌/◌, ◌^◌, ◌<◌, ◌≤◌, sym, ap, ◌∙◌, arith, pow_pos, pow_mono, pow-add}
use lib.Bits.{bit_and, and_zero_r, and_high}
use lib.Pow.{shr_mod}
use Rattle.std.proofs.lemmas.Nat.{and_mask, and_assoc}
use Rattle.polymatroid.specs.Sets.{InGround, Within, Coalition, everyone}

-- a set of the secret and 7 or more participants may have any byte as its code
pub byte_in_ground : (n a : ℕ) → 7 ≤ n → a < 256 → InGround n a
byte_in_ground n a many l = let p : 2 ^ 8 ≤ 2 ^ (n + 1) = pow_mono {i = 8} {j = n + 1} (omega arith) in omega arith

-- and of at most 7 it has a byte
pub ground_byte : (n a : ℕ) → n ≤ 7 → InGround n a → a < 256
ground_byte n a few l = let p : 2 ^ (n + 1) ≤ 2 ^ 8 = pow_mono {i = n + 1} {j = 8} (omega arith) in omega arith

-- what lies within a lies within each b that a lies within
pub within_trans : (g a b : ℕ) → Within a b → Within g a → Within g b
within_trans g a b w v = ap (λ x. bit_and x b) (sym v) ∙ and_assoc b g a ∙ ap (bit_and g) w ∙ v

-- the code of a coalition is even
pub coalition_even : (n a : ℕ) → Coalition n a → 2 * (a / 2) ≡ a
coalition_even n a k = omega (arith, and_mask a 1, k.1)

-- nothing but the empty set lies within the empty set
pub within_empty : (a : ℕ) → Within a 0 → a ≡ 0
within_empty a w = sym w ∙ and_zero_r a

-- every coalition lies within all participants together
pub within_everyone : (n a : ℕ) → Coalition n a → Within a (everyone n)
within_everyone n a k = omega (arith, and_high a n 1, shr_mod {n = a} n 1 k.0, coalition_even n a k)

pub everyone_coalition : (n : ℕ) → Coalition n (everyone n)
everyone_coalition n = let p : 2 ^ (n + 1) ≡ 2 ^ n * 2 = pow-add 2 n 1 in (omega (arith, pow_pos n), omega (arith, and_mask (2 ^ (n + 1) - 2) 1))
