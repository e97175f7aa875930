-- The lower bound that two records prove: an access structure's and a certificate's. Assumes nothing.
use Rattle.std.specs.Prelude.{◌≡◌, ℕ, List, Ok, Result}
use Rattle.record.specs.declared.faults.Refusal.{Refusal}
use Rattle.record.specs.Faults.{unnamed}
use Rattle.record.specs.Reading.{and_then, refused_as}
use Rattle.access.specs.Table.{qualified_by, contains_one}
use Rattle.access.specs.Format.{structure_in, LawfulSets, encode_sets}
use Rattle.certificate.specs.Format.{Certificate}
use Rattle.certificate.specs.Judge.{judge}
use Rattle.certificate.specs.Theorems.{Right, TrustedBound}

-- count and weight total, or the one refusal: the access structure's comes first
abbrev pub lower_bound_in : List ℕ → List ℕ → Result (ℕ × ℕ) Refusal
lower_bound_in structure certificate =
    and_then (refused_as unnamed (structure_in structure)) (λ s.
    refused_as unnamed (judge s.0 (qualified_by s.1) certificate))

-- the records are those of minimal qualified sets and of a right certificate for them
pub record Proves (structure certificate : List ℕ) (count total n : ℕ) (sets : List ℕ) (c : Certificate) : Type 0 where
  pub lawful : LawfulSets n sets
  pub recorded : structure ≡ encode_sets n sets
  pub right : Right n (contains_one sets) certificate count total c

-- two records give a bound exactly if they are such records
pub record ProvedExactly (structure certificate : List ℕ) (count total : ℕ) : Type 0 where
  pub proved : lower_bound_in structure certificate ≡ Ok (count, total) → (n : ℕ) × ((sets : List ℕ) × ((c : Certificate) × Proves structure certificate count total n sets c))
  pub given : (n : ℕ) (sets : List ℕ) (c : Certificate) → Proves structure certificate count total n sets c → lower_bound_in structure certificate ≡ Ok (count, total)

-- the bound binds every polymatroid that realises the access structure with the recorded minimal qualified sets
pub record Bound (structure : List ℕ) (count total n : ℕ) (sets : List ℕ) : Type 0 where
  pub lawful : LawfulSets n sets
  pub recorded : structure ≡ encode_sets n sets
  pub trusted : TrustedBound n (contains_one sets) count total

abbrev pub Bounds : List ℕ → ℕ → ℕ → Type 0
Bounds structure count total = (n : ℕ) × ((sets : List ℕ) × Bound structure count total n sets)
