-- Words for reading a record: a test with the refusal that it gives, one step after another, fields at an offset, and
-- how numbers are stored. Assumes nothing.
use Rattle.std.specs.Prelude.{ℕ, ◌+◌, ◌*◌, ◌/◌, ◌%◌, ◌<◌, Bool, cond, ◌&&◌, List, [], ◌∷◌, length, Ok, Err, Result, ◌==◌, nat_le, slice_index}
use Rattle.std.specs.List.{AllByRecursion}
use Rattle.record.specs.declared.faults.Reason.{Reason}
use Rattle.record.specs.declared.faults.Reason.TheVariants.{CutShort}

-- go on if the test passes, else refuse
abbrev pub tried : {A E : Type 0} → Bool → E → Result A E → Result A E
tried test refusal rest = cond test rest (Err refusal)

-- go on with what was read, or hand the refusal on
abbrev pub and_then : {A B E : Type 0} → Result A E → (A → Result B E) → Result B E
and_then (Ok a) f = f a
and_then (Err e) f = Err e

-- the same answer, with a refusal handed on as another type's
abbrev pub refused_as : {A E F : Type 0} → (E → F) → Result A E → Result A F
refused_as f (Ok a) = Ok a
refused_as f (Err e) = Err (f e)

-- the bytes are at least k
abbrev pub holds : ℕ → List ℕ → Bool
holds k bytes = nat_le k (length bytes)

abbrev pub needed : ℕ → List ℕ → Result (Unit {0}) Reason
needed k bytes = tried (holds k bytes) CutShort (Ok tt)

-- a byte, two and four bytes at an offset, the highest first; past the end stands 0
abbrev pub byte : List ℕ → ℕ → ℕ
byte bytes i = slice_index bytes i

abbrev pub two : List ℕ → ℕ → ℕ
two bytes i = byte bytes i * 256 + byte bytes (i + 1)

abbrev pub four : List ℕ → ℕ → ℕ
four bytes i = two bytes i * 65536 + two bytes (i + 2)

-- the first two bytes are the mark
abbrev pub marked : List ℕ → List ℕ → Bool
marked bytes mark = byte bytes 0 == byte mark 0 && byte bytes 1 == byte mark 1

-- how numbers are stored
abbrev pub two_bytes : ℕ → List ℕ
two_bytes v = v / 256 ∷ v % 256 ∷ []

abbrev pub four_bytes : ℕ → List ℕ
four_bytes v = v / 16777216 ∷ v / 65536 % 256 ∷ v / 256 % 256 ∷ v % 256 ∷ []

abbrev pub Bytes : List ℕ → Type 0
Bytes = AllByRecursion (λ b. b < 256)
