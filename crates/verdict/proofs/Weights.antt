-- The weights of a head, one by one. Assumes nothing.
use Rattle.std.proofs.Common.{◌≡◌, ℕ, zero, suc, ◌+◌, ◌-◌, ◌*◌, ◌<◌, ◌≤◌, List, ◌++◌, length, get_or, take, drop, sum, replicate, sym, refl, ap, ◌∙◌, add-one, arith}
use Rattle.std.proofs.lemmas.List.Sums.{sum_by_more}
use Rattle.polymatroid.specs.Certificate.{sum_to}
use Rattle.record.specs.Reading.{two}
use Rattle.record.proofs.Stored.{two_drop}
use Rattle.certificate.specs.declared.header.Header.{Header}
use Rattle.certificate.specs.Format.{numbers, weight_of, header_in}
use Rattle.certificate.proofs.Heads.{weights_beyond}

-- the weights of the first i participants added up, two ways
pub total_is : (h : Header) (i : ℕ) → i ≤ length h.weights → sum (take i h.weights) ≡ sum_to i (weight_of h)
total_is h zero l = refl
total_is h (suc i) l =
    ap (λ k. sum (take k h.weights)) (sym (add-one i)) ∙ sum_by_more (λ x. x) h.weights i 0 (omega arith) ∙
    ap (λ t. t + get_or h.weights i 0) (total_is h i (omega arith))

pub total_small : (h : Header) → ((k : ℕ) → get_or h.weights k 0 < 65536) → (i : ℕ) → sum_to i (weight_of h) ≤ 65536 * i
total_small h small zero = omega arith
total_small h small (suc i) = omega (arith, total_small h small i, small i)

at_number : (n z i : ℕ) (bytes : List ℕ) → i < n → get_or (numbers n bytes ++ replicate z 0) i 0 ≡ two bytes (2 * i)
at_number zero z i bytes l = absurd (omega arith)
at_number (suc n) z zero bytes l = refl
at_number (suc n) z (suc i) bytes l = at_number n z i (drop 2 bytes) (omega arith) ∙ two_drop 2 bytes (2 * i) (2 * suc i) (omega arith)

pub weight_here : (n i : ℕ) (bytes : List ℕ) → i < n → get_or ((header_in n bytes).weights) i 0 ≡ two bytes (2 * i + 3)
weight_here n i bytes l = at_number n (7 - n) i (drop 3 bytes) l ∙ two_drop 3 bytes (2 * i) (2 * i + 3) (omega arith)

pub weight_beyond : (n i : ℕ) (bytes : List ℕ) → n ≤ i → get_or ((header_in n bytes).weights) i 0 ≡ 0
weight_beyond n i bytes l = weights_beyond n (drop 3 bytes) i l
