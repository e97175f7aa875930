-- The judgement on a certificate record. Assumes nothing.
use Rattle.std.specs.Prelude.{ℕ, ◌+◌, ◌^◌, Bool, false, ◌||◌, List, ℤ, pos, negsuc, Ok, Result, ◌==◌}
use Rattle.polymatroid.specs.Tests.{all_below}
use Rattle.polymatroid.specs.Certificate.{combination, claim, coefficient}
use Rattle.record.specs.declared.faults.Reason.TheVariants.{SumDiffers}
use Rattle.record.specs.declared.faults.RecordFault.{RecordFault}
use Rattle.record.specs.Faults.{outside}
use Rattle.record.specs.Reading.{tried, and_then}
use Rattle.certificate.specs.declared.header.Header.{Header}
use Rattle.certificate.specs.Format.{Certificate, weight_of, total_of, certificate_of}

abbrev pub equal : ℤ → ℤ → Bool
equal (pos a) (pos b) = a == b
equal (pos a) (negsuc b) = false
equal (negsuc a) (pos b) = false
equal (negsuc a) (negsuc b) = a == b

-- whether two functions of sets agree at a set; the empty one does not count
abbrev pub agree_at : (ℕ → ℤ) → (ℕ → ℤ) → ℕ → Bool
agree_at f g s = s == 0 || equal (f s) (g s)

-- whether they agree at every set of the ground set but the empty one
abbrev pub agree : ℕ → (ℕ → ℤ) → (ℕ → ℤ) → Bool
agree n f g = all_below (2 ^ (n + 1)) (agree_at f g)

-- the coefficient that a head claims at a set
abbrev pub claimed : Header → ℕ → ℤ
claimed h = coefficient (claim h.participants (weight_of h) h.count)

-- whether the lines add up to the claim
abbrev pub adds_up : Certificate → Bool
adds_up c = agree c.header.participants (coefficient (combination c.lines)) (claimed c.header)

-- count and weight total, or the one fault
abbrev pub judge : ℕ → (ℕ → Bool) → List ℕ → Result (ℕ × ℕ) RecordFault
judge n qualified bytes =
    and_then (certificate_of n qualified bytes) (λ c.
    tried (adds_up c) (outside SumDiffers) (
    Ok (c.header.count, total_of c.header)))
