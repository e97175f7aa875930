-- Cites the theorem that the function carries: the check finds none by itself.
use Rattle.access.proofs.Listed.{qualified_exactly, minimal_exactly}
use Rattle.access.proofs.reading.listed_sets_are_minimal.Goals as goal

pub returns : goal.returns
returns c = record {
  qualified = qualified_exactly;
  minimal = minimal_exactly;
}
