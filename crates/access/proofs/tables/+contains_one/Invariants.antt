use Rattle.std.proofs.Common.{length}
use Rattle.access.proofs.tables.+contains_one.Given as goal

abbrev pub decreases-contains_one : goal.decreases-contains_one
decreases-contains_one l = length l.sets.now
