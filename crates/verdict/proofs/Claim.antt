-- The participant who is all of a set, and what the claim says there. Assumes nothing.
use Rattle.std.proofs.Common.{◌≡◌, ◌≢◌, ℕ, suc, ◌+◌, ◌-◌, ◌*◌, ◌%◌, ◌^◌, ◌<◌, ◌≤◌, length, get_or, Option, Some, None, MatchOption, pos, sym, ap, ◌∙◌, add-one, arith}
use Rattle.std.specs.List.{AllWithin, HoldsAt, range_with_len}
use Rattle.std.proofs.lemmas.Nat.{one_shl}
use Rattle.std.proofs.lemmas.List.FromFn.{length-range_with_len, get_or-range_with_len}
use Rattle.polymatroid.specs.Sets.{alone}
use Rattle.polymatroid.proofs.Claims.{claims}
use Rattle.certificate.specs.declared.header.Header.{Header}
use Rattle.certificate.specs.Format.{weight_of}
use Rattle.certificate.specs.Judge.{claimed}

-- the set that a shift gives
abbrev pub shifted : ℕ → ℕ
shifted i = 1 * 2 ^ (i + 1) % 2 ^ 32

-- the first of n participants who is the set, or none
pub alone_found : (n set : ℕ) → n ≤ 7 → (r : Option ℕ) →
    MatchOption r (AllWithin (λ i. set ≢ shifted i) (range_with_len 0 n) 0 (length (range_with_len 0 n)))
    (λ x. (set ≡ shifted x) × (i : ℕ) × (i < length (range_with_len 0 n)) × HoldsAt (λ y. y ≡ x) (range_with_len 0 n) i × AllWithin (λ i. set ≢ shifted i) (range_with_len 0 n) 0 i) →
    MatchOption r ((i : ℕ) → i < n → set ≢ alone (i + 1)) (λ i. (i < n) × (set ≡ alone (i + 1)))
alone_found n set few None h = λ i l e.
    let place : get_or (range_with_len 0 n) i 0 ≡ i = omega (arith, get_or-range_with_len 0 n i 0 l) in
    let long = length-range_with_len 0 n in
    let shift = one_shl (i + 1) 32 (omega arith) in
    h i 0 (omega arith) (omega arith) (e ∙ sym shift ∙ ap shifted (sym place))
alone_found n set few (Some x) h =
    let long = length-range_with_len 0 n in
    let l : h.1 < n = omega (arith, h.2) in
    let place = get_or-range_with_len 0 n h.1 0 l in
    let here = h.3 0 in
    (omega arith, h.0 ∙ one_shl (x + 1) 32 (omega arith))

pub claim_alone : (h : Header) (i : ℕ) → i < h.participants → claimed h (alone (i + 1)) ≡ pos (get_or h.weights i 0)
claim_alone h i l = ap (λ k. claimed h (alone k)) (add-one i) ∙ (claims h.participants (weight_of h) h.count).at_participant (suc i) (omega arith) (omega arith)

pub claim_elsewhere : (h : Header) (set : ℕ) → set ≢ 1 → ((i : ℕ) → i < h.participants → set ≢ alone (i + 1)) → claimed h set ≡ pos 0
claim_elsewhere h set ne none = (claims h.participants (weight_of h) h.count).elsewhere set ne (λ j p q e. none (j - 1) (omega arith) (e ∙ ap alone (omega arith)))
