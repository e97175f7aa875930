-- Cites the theorem that the function carries: the check finds none by itself.
use Rattle.matroid.proofs.Ranks.{rank_laws}
use Rattle.matroid.proofs.ranks_are_lawful.Goals as goal

pub returns : goal.returns
returns g c = λ cl L. rank_laws L
