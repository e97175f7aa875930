-- Cites the theorem that the function carries: the check finds none by itself.
use Rattle.matroid.proofs.Sets.{rank_polymatroid}
use Rattle.matroid.proofs.ranks_are_polymatroids.Goals as goal

pub returns : goal.returns
returns g c = λ cl L part n. rank_polymatroid L part n
