use Rattle.std.proofs.Common.{length}
use Rattle.access.proofs.reading.+is_antichain.Given as goal

abbrev pub decreases-is_antichain : goal.decreases-is_antichain
decreases-is_antichain l = length l.sets.now
