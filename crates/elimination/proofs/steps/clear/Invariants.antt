use Rattle.std.proofs.Common.{◌≡◌, ℕ, ◌<◌, ◌≤◌, slice_index}
use Rattle.span.specs.Dimension.{minus}
use Rattle.elimination.specs.Rows.{entry}
use Rattle.elimination.proofs.steps.clear.Given as goal

abbrev pub invariant-loop-row : goal.invariant-loop-row
invariant-loop-row g l =
    ((i k : ℕ) → i < l.row-index → k < l.d → entry l.row-items i k ≡ minus (g.F.Field.ops l.f) (entry l.fn.rows i) (entry l.fn.rows i l.c) (slice_index l.pivot) k)
    × ((i k : ℕ) → l.row-index ≤ i → entry l.row-items i k ≡ entry l.fn.rows i k)
