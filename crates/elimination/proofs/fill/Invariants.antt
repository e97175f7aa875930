use Rattle.std.proofs.Common.{◌≡◌, ℕ, ◌*◌, ◌<◌, drop}
use Rattle.elimination.specs.Rows.{row, entry}
use Rattle.elimination.proofs.fill.Given as goal

abbrev pub invariant-loop-row : goal.invariant-loop-row
invariant-loop-row l =
    (l.rest ≡ drop (l.row-index * l.width) l.vectors)
    × ((i k : ℕ) → i < l.row-index → k < l.width → entry l.row-items i k ≡ row l.vectors l.width i k)
