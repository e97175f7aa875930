use Rattle.std.proofs.Common.{rules}
use Rattle.galois.proofs.Computed.{steps}
use Rattle.galois.proofs.binary.BinaryField.mul.Goals as goal

pub returns : goal.returns
returns c = search (rules, steps)
