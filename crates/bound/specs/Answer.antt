-- The line that answers. Assumes nothing.
use Rattle.std.specs.Prelude.{ℕ, List, ◌∷◌, ◌++◌, Ok, Err, Result, decimal}
use Rattle.record.specs.declared.faults.Refusal.{Refusal}
use Rattle.record.specs.Faults.{printed}

-- "ok ", the count, "/" and the weight total of a bound; "no " and the refusal's three numbers
abbrev pub answer_line : Result (ℕ × ℕ) Refusal → List ℕ
answer_line (Ok b) = 111 ∷ 107 ∷ 32 ∷ (decimal b.0 ++ 47 ∷ decimal b.1)
answer_line (Err r) = 110 ∷ 111 ∷ 32 ∷ printed r
