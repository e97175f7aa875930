-- A head that was read. Assumes nothing.
use Rattle.std.specs.Prelude.{Ok, Err, Result}
use Rattle.certificate.specs.declared.header.Header.{Header}
use Rattle.verdict.specs.declared.head.Head.{Head}

-- an answer by the fields of its head
abbrev pub shown : {E : Type 0} → Result Head E → Result Header E
shown (Ok h) = Ok h.header
shown (Err e) = Err e
