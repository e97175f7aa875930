use Rattle.std.proofs.Common.{rules}
use Rattle.galois.proofs.Computed.{inverses}
use Rattle.galois.proofs.inverses.inverse_at.Goals as goal

pub returns : goal.returns
returns c = search (rules, inverses)
