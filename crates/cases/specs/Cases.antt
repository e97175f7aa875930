-- Worked cases over the definitions, in one list with one check. Assumes nothing.
use Rattle.std.specs.Prelude.{◌≡◌, ℕ, Bool, true, false, not, ◌&&◌, List, [], ◌∷◌, Ok, Err, Result, Some, None, Option, ◌==◌, nat_eq}
use Rattle.std.specs.Option.{is_none, option_eq}
use Rattle.std.specs.List.{list_all}
use Rattle.record.specs.declared.faults.RecordFault.{RecordFault}
use Rattle.record.specs.declared.faults.Refusal.{Refusal}
use Rattle.record.specs.Faults.{number_of}
use Rattle.galois.specs.Polynomials.{binary_ops}
use Rattle.access.specs.Table.{qualified_by}
use Rattle.access.specs.Format.{structure_in}
use Rattle.verdict.specs.Bounds.{lower_bound_in}
use Rattle.cases.specs.Records.{chain, chain_certificate}

-- what is asked, and what the answer is to be
pub data Case : Type 0 where
  -- in the recorded access structure the coalition is qualified
  Qualified : (structure : List ℕ) (coalition : ℕ) → Case
  -- there it is not
  Unqualified : (structure : List ℕ) (coalition : ℕ) → Case
  -- the two records prove the lower bound count over total
  Bounded : (structure certificate : List ℕ) (count total : ℕ) → Case
  -- they are refused by this number, in this line or in none
  Refused : (structure certificate : List ℕ) (number : ℕ) (line : Option ℕ) → Case
  -- in the field of order 4, 8 or 16 this is the product
  Multiplied : (order a b product : ℕ) → Case

abbrev pub qualifies : Result (ℕ × List Bool) RecordFault → ℕ → Bool
qualifies (Ok s) a = qualified_by s.1 a
qualifies (Err e) a = false

abbrev pub disqualifies : Result (ℕ × List Bool) RecordFault → ℕ → Bool
disqualifies (Ok s) a = not (qualified_by s.1 a)
disqualifies (Err e) a = false

abbrev pub is_bound : Result (ℕ × ℕ) Refusal → ℕ → ℕ → Bool
is_bound (Ok b) count total = b.0 == count && b.1 == total
is_bound (Err e) count total = false

abbrev pub is_refused : Result (ℕ × ℕ) Refusal → ℕ → Option ℕ → Bool
is_refused (Ok b) number line = false
is_refused (Err e) number line = number_of e.reason == number && is_none e.entry && option_eq nat_eq e.line line

abbrev pub holds : Case → Bool
holds (Qualified structure a) = qualifies (structure_in structure) a
holds (Unqualified structure a) = disqualifies (structure_in structure) a
holds (Bounded structure certificate count total) = is_bound (lower_bound_in structure certificate) count total
holds (Refused structure certificate number line) = is_refused (lower_bound_in structure certificate) number line
holds (Multiplied order a b product) = (binary_ops order).mul a b == product

abbrev pub cases : List Case
cases =
    Unqualified chain 0x0A
    ∷ Qualified chain 0x0E
    ∷ Bounded chain (chain_certificate 3 0x06) 3 2
    ∷ Refused chain (chain_certificate 4 0x06) 7 None
    ∷ Refused chain (chain_certificate 3 0x04) 6 (Some 4)
    ∷ Multiplied 16 2 8 3
    ∷ Multiplied 16 2 9 1
    ∷ Multiplied 8 2 5 1
    ∷ []

abbrev pub CasesHold : Type 0
CasesHold = list_all holds cases ≡ true
