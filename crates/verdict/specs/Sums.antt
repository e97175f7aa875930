-- The table of coefficients in which the lines are added up. Assumes nothing.
use Rattle.std.specs.Prelude.{ℕ, zero, suc, ◌+◌, max, Bool, List, [], ◌∷◌, length, get_or, drop, ℤ, pos, ◌+ℤ◌, neg_ℤ, unsigned_abs, Ok, Result, ◌==◌, bit_and, bit_or, slice_index_or, slice_set}
use Rattle.polymatroid.specs.Sets.{secret}
use Rattle.polymatroid.specs.declared.inequality.Inequality.{Inequality}
use Rattle.polymatroid.specs.declared.inequality.Inequality.TheVariants.{Monotonicity, Submodularity, Correctness, Privacy}
use Rattle.polymatroid.specs.declared.inequality.Line.{Line}
use Rattle.record.specs.declared.faults.Reason.TheVariants.{LeftOver}
use Rattle.record.specs.declared.faults.RecordFault.{RecordFault}
use Rattle.record.specs.Faults.{outside, of_line}
use Rattle.record.specs.Reading.{tried, and_then, refused_as}
use Rattle.certificate.specs.declared.header.Header.{Header}
use Rattle.certificate.specs.Lines.{numbered_line}
use Rattle.certificate.specs.Judge.{agree, claimed}

-- a number added at a set
abbrev pub add_at : List ℤ → ℕ → ℤ → List ℤ
add_at table s v = slice_set table s (slice_index_or table s (pos 0) +ℤ v)

-- an inequality times m, added set by set
abbrev pub add_form : List ℤ → ℤ → Inequality → List ℤ
add_form table m (Monotonicity a b) = add_at (add_at table b m) a (neg_ℤ m)
add_form table m (Submodularity a b) = add_at (add_at (add_at (add_at table a m) b m) (bit_or a b) (neg_ℤ m)) (bit_and a b) (neg_ℤ m)
add_form table m (Correctness a) = add_at (add_at table (bit_or a secret) m) a (neg_ℤ m)
add_form table m (Privacy a) = add_at (add_at (add_at table (bit_or a secret) m) a (neg_ℤ m)) secret (neg_ℤ m)

abbrev pub add_line : List ℤ → Line → List ℤ
add_line table l = add_form table l.multiplier l.inequality

-- the table after k lines, the first of them numbered i, with nothing after them
abbrev pub sums_of : ℕ → (ℕ → Bool) → (k i : ℕ) → List ℕ → List ℤ → Result (List ℤ) RecordFault
sums_of n qualified zero i bytes table = tried (length bytes == 0) (outside LeftOver) (Ok table)
sums_of n qualified (suc k) i bytes table =
    and_then (refused_as of_line (numbered_line n qualified i bytes)) (λ l. sums_of n qualified k (i + 1) (drop 6 bytes) (add_line table l))

-- the largest absolute value in a table
unfoldable pub peak : List ℤ → ℕ
peak [] = 0
peak (z ∷ table) = max (unsigned_abs z) (peak table)

-- whether a table of coefficients is the claim at every set but the empty one
abbrev pub settled : Header → List ℤ → Bool
settled h table = agree h.participants (λ s. get_or table s (pos 0)) (claimed h)
