use Rattle.std.proofs.Common.{arith}
use Rattle.std.proofs.lemmas.Bool.Decides.{nat_tests}
use Rattle.galois.proofs.Computed.{times_y_below}
use Rattle.galois.proofs.binary.Binary.times_y.Goals as goal

pub returns-else-shifted-self-clause-below : goal.returns-else-shifted-self-clause-below
returns-else-shifted-self-clause-below c = grind (arith, nat_tests, times_y_below c.args.self.now.q c.args.a c.args.self.now.listed c.requires)
