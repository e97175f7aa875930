use Rattle.std.proofs.Common.{◌-◌}
use Rattle.elimination.proofs.turns.+eliminate.Given as goal

abbrev pub decreases-eliminate : goal.decreases-eliminate
decreases-eliminate g l = l.d - l.c
