use Rattle.std.proofs.Common.{arith, rules, tests}
use Rattle.access.proofs.Members.{byte_in_ground}
use Rattle.access.proofs.sets.in_ground.Goals as goal

pub returns-then-n-ge7 : goal.returns-then-n-ge7
returns-then-n-ge7 c = let l = byte_in_ground c.args.n c.args.set c.if-n-ge7.true (omega arith) in search (rules, tests)
