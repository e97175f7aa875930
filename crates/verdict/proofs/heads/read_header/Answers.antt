use Rattle.access.specs.View.{participants_of}
use Rattle.verdict.proofs.Typed.{head_exact}
use Rattle.verdict.proofs.heads.read_header.Goals as goal

pub returns-in_err-head-clause-exactly : goal.returns-in_err-head-clause-exactly
returns-in_err-head-clause-exactly c = head_exact c.args.bytes.now c.type_inv.bytes (participants_of c.args.structure.now)

pub returns-clause-exactly : goal.returns-clause-exactly
returns-clause-exactly c = head_exact c.args.bytes.now c.type_inv.bytes (participants_of c.args.structure.now)
