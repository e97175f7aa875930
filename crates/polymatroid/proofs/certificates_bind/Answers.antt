-- Cites the theorem that the function carries: the check finds none by itself.
use Rattle.polymatroid.proofs.Soundness.{weighted, sound}
use Rattle.polymatroid.proofs.Lines.{lines_hold}
use Rattle.polymatroid.proofs.Claims.{claims}
use Rattle.polymatroid.proofs.certificates_bind.Goals as goal

pub returns : goal.returns
returns c = record { lines = lines_hold; weighted = weighted; claims = claims; largest = sound }
