-- A line of a certificate record: mark, multiplier, first set, second set, six bytes together. Assumes nothing.
use Rattle.std.specs.Prelude.{ℕ, zero, suc, ◌+◌, Bool, cond, not, ◌&&◌, List, [], ◌∷◌, ◌++◌, length, drop, ℤ, pos, negsuc, neg_ℤ, ◌≤ℤ◌, Ok, Err, Result, ◌==◌, int_lt, nat_le, nat_lt}
use Rattle.std.proofs.Common.{to_z, of_z}
use Rattle.std.specs.Int.{w16}
use Rattle.polymatroid.specs.Tests.{in_ground, within, coalition}
use Rattle.polymatroid.specs.declared.inequality.Inequality.{Inequality}
use Rattle.polymatroid.specs.declared.inequality.Inequality.TheVariants.{Monotonicity, Submodularity, Correctness, Privacy}
use Rattle.polymatroid.specs.declared.inequality.Line.{Line}
use Rattle.record.specs.declared.faults.Reason.{Reason}
use Rattle.record.specs.declared.faults.Reason.TheVariants.{CutShort, WrongMark, OutOfRange, SetNotAllowed, Unlawful, LeftOver}
use Rattle.record.specs.declared.faults.LineFault.{LineFault}
use Rattle.record.specs.declared.faults.RecordFault.{RecordFault}
use Rattle.record.specs.Faults.{outside, in_line, of_line}
use Rattle.record.specs.Reading.{tried, and_then, refused_as, holds, byte, two, marked, two_bytes}

abbrev pub monotonicity_mark : List ℕ
monotonicity_mark = 0x52 ∷ 0x49 ∷ []

abbrev pub submodularity_mark : List ℕ
submodularity_mark = 0x4C ∷ 0x45 ∷ []

abbrev pub correctness_mark : List ℕ
correctness_mark = 0x48 ∷ 0x45 ∷ []

abbrev pub privacy_mark : List ℕ
privacy_mark = 0x42 ∷ 0x4C ∷ []

-- the largest multiplier that a line stores
abbrev pub multiplier_limit : ℕ
multiplier_limit = 32767

-- from minus the limit to the limit
abbrev pub InRange : ℕ → ℤ → Type 0
InRange limit m = (neg_ℤ (pos limit) ≤ℤ m) × (m ≤ℤ pos limit)

-- in that range, and not 0
abbrev pub usable : ℕ → ℤ → Bool
usable limit (pos m) = nat_lt 0 m && nat_le m limit
usable limit (negsuc m) = nat_lt m limit

abbrev pub positive : ℤ → Bool
positive m = int_lt (pos 0) m

abbrev pub line : ℤ → Inequality → Line
line m i = record { multiplier = m; inequality = i }

-- what each kind asks of the multiplier and of the sets, in the order in which it is tried
abbrev pub monotonicity : ℕ → ℤ → ℕ → ℕ → Result Line Reason
monotonicity n m a b =
    tried (usable multiplier_limit m && positive m) OutOfRange (
    tried (in_ground n a && in_ground n b) SetNotAllowed (
    tried (within a b && not (a == b)) Unlawful (
    Ok (line m (Monotonicity a b)))))

abbrev pub submodularity : ℕ → ℤ → ℕ → ℕ → Result Line Reason
submodularity n m a b =
    tried (usable multiplier_limit m && positive m) OutOfRange (
    tried (in_ground n a && in_ground n b) SetNotAllowed (
    tried (not (within a b) && not (within b a)) Unlawful (
    Ok (line m (Submodularity a b)))))

abbrev pub correctness : ℕ → (ℕ → Bool) → ℤ → ℕ → ℕ → Result Line Reason
correctness n qualified m a b =
    tried (usable multiplier_limit m) OutOfRange (
    tried (coalition n a && b == 0) SetNotAllowed (
    tried (qualified a) Unlawful (
    Ok (line m (Correctness a)))))

abbrev pub privacy : ℕ → (ℕ → Bool) → ℤ → ℕ → ℕ → Result Line Reason
privacy n qualified m a b =
    tried (usable multiplier_limit m) OutOfRange (
    tried (coalition n a && b == 0) SetNotAllowed (
    tried (not (qualified a)) Unlawful (
    Ok (line m (Privacy a)))))

-- a kind at the multiplier and the two sets that stand behind the mark
abbrev pub body : (ℤ → ℕ → ℕ → Result Line Reason) → List ℕ → Result Line Reason
body kind rest = kind (to_z w16 (two rest 0)) (byte rest 2) (byte rest 3)

-- the first six bytes as a line
abbrev pub line_of : ℕ → (ℕ → Bool) → List ℕ → Result Line Reason
line_of n qualified bytes =
    tried (holds 6 bytes) CutShort (
    cond (marked bytes monotonicity_mark) (body (monotonicity n) (drop 2 bytes)) (
    cond (marked bytes submodularity_mark) (body (submodularity n) (drop 2 bytes)) (
    cond (marked bytes correctness_mark) (body (correctness n qualified) (drop 2 bytes)) (
    cond (marked bytes privacy_mark) (body (privacy n qualified) (drop 2 bytes)) (
    Err WrongMark)))))

-- the same, as the line numbered i
abbrev pub numbered_line : ℕ → (ℕ → Bool) → ℕ → List ℕ → Result Line LineFault
numbered_line n qualified i bytes = refused_as (in_line i) (line_of n qualified bytes)

-- k lines, the first of them numbered i, and nothing after them
abbrev pub lines_of : ℕ → (ℕ → Bool) → (k i : ℕ) → List ℕ → Result (List Line) RecordFault
lines_of n qualified zero i bytes = tried (length bytes == 0) (outside LeftOver) (Ok [])
lines_of n qualified (suc k) i bytes =
    and_then (refused_as of_line (numbered_line n qualified i bytes)) (λ l.
    and_then (lines_of n qualified k (i + 1) (drop 6 bytes)) (λ ls. Ok (l ∷ ls)))

-- the six bytes of a line
abbrev pub stored : List ℕ → ℤ → ℕ → ℕ → List ℕ
stored mark m a b = mark ++ (two_bytes (of_z w16 m) ++ (a ∷ b ∷ []))

abbrev pub encode_at : ℤ → Inequality → List ℕ
encode_at m (Monotonicity a b) = stored monotonicity_mark m a b
encode_at m (Submodularity a b) = stored submodularity_mark m a b
encode_at m (Correctness a) = stored correctness_mark m a 0
encode_at m (Privacy a) = stored privacy_mark m a 0

abbrev pub encode_line : Line → List ℕ
encode_line l = encode_at l.multiplier l.inequality
