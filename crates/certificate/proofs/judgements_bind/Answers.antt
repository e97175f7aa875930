-- Cites the theorem that the function carries: the check finds none by itself.
use Rattle.certificate.proofs.Exact.{takes_exactly, trusted}
use Rattle.certificate.proofs.judgements_bind.Goals as goal

pub returns : goal.returns
returns c = record { taken = takes_exactly; trusted = trusted }
