-- Cites the theorem that the function carries: the check finds none by itself.
use Rattle.realising.proofs.Realised.{realising_decided, largest_found}
use Rattle.realising.proofs.realising_is_decided.Goals as goal

pub returns : goal.returns
returns c = record { decided = realising_decided; largest = largest_found }
