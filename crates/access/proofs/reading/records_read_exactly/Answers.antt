-- Cites the theorem that the function carries: the check finds none by itself.
use Rattle.access.proofs.Records.{read_exactly}
use Rattle.access.proofs.reading.records_read_exactly.Goals as goal

pub returns : goal.returns
returns c = read_exactly
