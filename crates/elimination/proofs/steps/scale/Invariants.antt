use Rattle.std.proofs.Common.{◌≡◌, ℕ, ◌<◌, ◌≤◌, slice_index}
use Rattle.elimination.proofs.steps.scale.Given as goal

abbrev pub invariant-loop-x : goal.invariant-loop-x
invariant-loop-x g l =
    ((k : ℕ) → k < l.x-index → slice_index l.x-items k ≡ (g.F.Field.ops l.f).mul l.s (slice_index l.fn.row k))
    × ((k : ℕ) → l.x-index ≤ k → k < l.d → slice_index l.x-items k ≡ slice_index l.fn.row k)
