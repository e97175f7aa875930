use Rattle.std.proofs.Common.{◌≡◌, ℕ, ◌<◌, ◌≤◌, slice_index}
use Rattle.span.specs.Dimension.{less}
use Rattle.elimination.proofs.steps.subtract.Given as goal

abbrev pub invariant-loop-k : goal.invariant-loop-k
invariant-loop-k g l =
    ((k : ℕ) → k < l.k → slice_index l.row k ≡ less (g.F.Field.ops l.f) l.s (slice_index l.fn.row k) (slice_index l.pivot k))
    × ((k : ℕ) → l.k ≤ k → slice_index l.row k ≡ slice_index l.fn.row k)
