-- What is said of an access structure's value. Assumes nothing.
use Rattle.std.specs.Prelude.{◌≡◌, ℕ, Bool, List, Ok, Err, Result, ◌≢◌}
use Rattle.record.specs.declared.faults.RecordFault.{RecordFault}
use Rattle.access.specs.declared.structure.AccessStructure.{AccessStructure}
use Rattle.access.specs.Table.{qualified_by, table_of}
use Rattle.access.specs.Format.{LawfulSets, encode_sets}

abbrev pub participants_of : AccessStructure → ℕ
participants_of s = s.participants

-- which coalitions it qualifies
abbrev pub qualified_in : AccessStructure → ℕ → Bool
qualified_in s = qualified_by s.qualified

abbrev pub view_of : AccessStructure → ℕ × List Bool
view_of s = (s.participants, s.qualified)

-- an answer by what its value shows
abbrev pub viewed : Result AccessStructure RecordFault → Result (ℕ × List Bool) RecordFault
viewed (Ok s) = Ok (view_of s)
viewed (Err e) = Err e

-- a value comes out exactly at the record of its minimal qualified sets
abbrev pub ComesOutAt : List ℕ → Result AccessStructure RecordFault → Type 0
ComesOutAt bytes (Ok s) = (sets : List ℕ) × LawfulSets s.participants sets × (bytes ≡ encode_sets s.participants sets) × (s.qualified ≡ table_of sets)
ComesOutAt bytes (Err e) = (n : ℕ) (sets : List ℕ) → LawfulSets n sets → bytes ≢ encode_sets n sets
