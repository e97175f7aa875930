use Rattle.std.proofs.Common.{rules}
use Rattle.verdict.proofs.Typed.{proved_exact}
use Rattle.verdict.proofs.Proven.{bounds}
use Rattle.verdict.proofs.bounds.lower_bound.Goals as goal

pub returns-in_err-judge-clause-exactly : goal.returns-in_err-judge-clause-exactly
returns-in_err-judge-clause-exactly c = proved_exact c.args.certificate.now c.type_inv.certificate c.args.structure.now

pub returns-clause-exactly : goal.returns-clause-exactly
returns-clause-exactly c = proved_exact c.args.certificate.now c.type_inv.certificate c.args.structure.now

pub returns-clause-binds : goal.returns-clause-binds
returns-clause-binds c count total p = bounds c.args.structure.now c.args.certificate.now count total (search rules)
