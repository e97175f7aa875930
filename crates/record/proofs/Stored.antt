-- Numbers as they are stored and read back, and fields behind a part that is dropped. Assumes nothing.
use Rattle.std.proofs.Common.{◌≡◌, ℕ, zero, suc, ◌+◌, ◌*◌, ◌/◌, ◌%◌, ◌^◌, ◌<◌, ◌≤◌, List, [], ◌∷◌, length, take, drop, map, ap, ◌∙◌, ap₂, arith}
use Rattle.std.specs.List.{range_with_len}
use Rattle.std.proofs.lemmas.List.{get_or-drop, get_or-take, length-take-le}
use Rattle.std.proofs.lemmas.List.FromFn.{fill_by_all}
use Rattle.std.proofs.lemmas.Nat.{div-mul-add, mod-mul-add}
use Rattle.record.specs.Reading.{byte, two, four, two_bytes, four_bytes, Bytes}

pub two_stored : (x y : ℕ) → x < 256 → y < 256 → two_bytes (x * 256 + y) ≡ x ∷ y ∷ []
two_stored x y p q = ap₂ (λ u v. u ∷ v ∷ []) (div-mul-add x 256 y q) (mod-mul-add x 256 y q)

pub four_stored : (a b c d : ℕ) → a < 256 → b < 256 → c < 256 → d < 256 → four_bytes ((a * 256 + b) * 65536 + (c * 256 + d)) ≡ a ∷ b ∷ c ∷ d ∷ []
four_stored a b c d p q r s =
    let v : ℕ = (a * 256 + b) * 65536 + (c * 256 + d) in
    let e₀ : v / 16777216 ≡ a = omega arith in
    let e₁ : v / 65536 % 256 ≡ b = omega arith in
    let e₂ : v / 256 % 256 ≡ c = omega arith in
    let e₃ : v % 256 ≡ d = omega arith in
    cc

pub four_back : (v : ℕ) → (v / 16777216 * 256 + v / 65536 % 256) * 65536 + (v / 256 % 256 * 256 + v % 256) ≡ v
four_back v = omega arith

-- every byte is below 256, and past the end stands 0
pub byte_small : (bytes : List ℕ) (i : ℕ) → Bytes bytes → byte bytes i < 256
byte_small [] i bs = omega arith
byte_small (b ∷ bytes) zero bs = bs.0
byte_small (b ∷ bytes) (suc i) bs = byte_small bytes i bs.1

pub two_small : (bytes : List ℕ) (i : ℕ) → Bytes bytes → two bytes i < 65536
two_small bytes i bs = omega (arith, byte_small bytes i bs, byte_small bytes (i + 1) bs)

pub four_small : (bytes : List ℕ) (i : ℕ) → Bytes bytes → four bytes i < 2 ^ 32
four_small bytes i bs = omega (arith, two_small bytes i bs, two_small bytes (i + 2) bs)

-- the first k bytes, one by one
pub first_bytes : (k : ℕ) (bytes : List ℕ) → k ≤ length bytes → take k bytes ≡ map (byte bytes) (range_with_len 0 k)
first_bytes k bytes l = fill_by_all (byte bytes) (take k bytes) k 0 (length-take-le k bytes l) (λ j m. get_or-take k bytes j 0 m)

-- a field behind the first k bytes
pub byte_drop : (k : ℕ) (bytes : List ℕ) (i j : ℕ) → k + i ≡ j → byte (drop k bytes) i ≡ byte bytes j
byte_drop k bytes i j e = get_or-drop k bytes i 0 ∙ ap (byte bytes) e

pub two_drop : (k : ℕ) (bytes : List ℕ) (i j : ℕ) → k + i ≡ j → two (drop k bytes) i ≡ two bytes j
two_drop k bytes i j e = ap₂ (λ x y. x * 256 + y) (byte_drop k bytes i j e) (byte_drop k bytes (i + 1) (j + 1) (omega arith))

pub four_drop : (k : ℕ) (bytes : List ℕ) (i j : ℕ) → k + i ≡ j → four (drop k bytes) i ≡ four bytes j
four_drop k bytes i j e = ap₂ (λ x y. x * 65536 + y) (two_drop k bytes i j e) (two_drop k bytes (i + 2) (j + 2) (omega arith))
