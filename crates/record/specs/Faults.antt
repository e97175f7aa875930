-- The numbers of the refusals, how a fault is handed on, and how a refusal is printed. Assumes nothing.
use Rattle.std.specs.Prelude.{ℕ, List, ◌∷◌, ◌++◌, Some, None, decimal, unwrap_or}
use Rattle.record.specs.declared.faults.Reason.{Reason}
use Rattle.record.specs.declared.faults.Reason.TheVariants.{CutShort, WrongMark, OutOfRange, SetNotAllowed, NotAntichain, Unlawful, SumDiffers, LeftOver, ParticipantsDiffer}
use Rattle.record.specs.declared.faults.LineFault.{LineFault}
use Rattle.record.specs.declared.faults.RecordFault.{RecordFault}
use Rattle.record.specs.declared.faults.Refusal.{Refusal}

abbrev pub number_of : Reason → ℕ
number_of CutShort = 1
number_of WrongMark = 2
number_of OutOfRange = 3
number_of SetNotAllowed = 4
number_of NotAntichain = 5
number_of Unlawful = 6
number_of SumDiffers = 7
number_of LeftOver = 11
number_of ParticipantsDiffer = 12

-- a fault of a record outside its lines
abbrev pub outside : Reason → RecordFault
outside reason = record { reason = reason; line = None }

-- a fault in a line, numbered from 1
abbrev pub in_line : ℕ → Reason → LineFault
in_line line reason = record { reason = reason; line = line }

-- a line's fault is its record's, with its reason and its line
abbrev pub of_line : LineFault → RecordFault
of_line f = record { reason = f.reason; line = Some f.line }

-- a record's fault in a call that names no entry
abbrev pub unnamed : RecordFault → Refusal
unnamed f = record { reason = f.reason; entry = None; line = f.line }

-- a refusal outside records, in a call that names no entry
abbrev pub refused : Reason → Refusal
refused reason = record { reason = reason; entry = None; line = None }

-- a refusal as it is printed: number, entry and line, 0 for none, with spaces (32) between
abbrev pub printed : Refusal → List ℕ
printed r = decimal (number_of r.reason) ++ 32 ∷ (decimal (unwrap_or r.entry 0) ++ 32 ∷ decimal (unwrap_or r.line 0))
