-- Cites the theorem that the function carries: the check finds none by itself.
use Rattle.certificate.proofs.Exact.{reads_exactly, heads_read_exactly}
use Rattle.certificate.proofs.records_read_exactly.Goals as goal

pub returns : goal.returns
returns c = record { certificates = reads_exactly; heads = heads_read_exactly }
