-- What holds of a slice's bytes, each below 256 by its type. Assumes nothing.
use Rattle.std.proofs.Common.{ℕ, ◌<◌, Bool, List, get_or, w8, Fits}
use Rattle.std.proofs.ByRecursion.{All-from_get_or}
use Rattle.record.specs.Reading.{Bytes}
use Rattle.certificate.specs.declared.header.Header.{Header}
use Rattle.certificate.specs.Theorems.{HeadReadExactly, TakenExactly}
use Rattle.certificate.proofs.Exact.{heads_read_exactly, takes_exactly}
use Rattle.verdict.specs.Bounds.{ProvedExactly}
use Rattle.verdict.proofs.Proven.{proved_exactly}

module _ (bytes : List ℕ) (fits : (i : ℕ) → Fits w8 (get_or bytes i 0)) where
  pub typed_bytes : Bytes bytes
  typed_bytes = All-from_get_or (λ b. b < 256) bytes 0 (λ i l. (fits i).fits)

  pub head_exact : (n : ℕ) (h : Header) → HeadReadExactly n bytes h
  head_exact n h = heads_read_exactly n bytes h typed_bytes

  pub taken_exact : (n : ℕ) (qualified : ℕ → Bool) (count total : ℕ) → TakenExactly n qualified bytes count total
  taken_exact n qualified count total = takes_exactly n qualified bytes count total typed_bytes

  pub proved_exact : (structure : List ℕ) (count total : ℕ) → ProvedExactly structure bytes count total
  proved_exact structure count total = proved_exactly structure bytes count total typed_bytes
