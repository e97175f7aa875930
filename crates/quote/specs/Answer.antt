-- The number that C gets. Assumes nothing.
use Rattle.std.specs.Prelude.{ℕ, List, Ok, Err, Result}
use Rattle.record.specs.declared.faults.Refusal.{Refusal}
use Rattle.record.specs.Faults.{number_of}
use Rattle.verdict.specs.Bounds.{lower_bound_in}

-- 0 for a bound, else the refusal's number
abbrev pub answered : Result (ℕ × ℕ) Refusal → ℕ
answered (Ok bound) = 0
answered (Err refusal) = number_of refusal.reason

abbrev pub answer_to : List ℕ → List ℕ → ℕ
answer_to structure certificate = answered (lower_bound_in structure certificate)
