use Rattle.std.proofs.Common.{◌≡◌, sym, ◌∙◌}
use Rattle.access.specs.Table.{minimal_by}
use Rattle.access.proofs.Minimal.{minimal_from_least}
use Rattle.access.proofs.Listed.{minimal_answer}
use Rattle.access.proofs.structure.AccessStructure.is_minimal.Goals as goal

pub returns-then-is_qualified : goal.returns-then-is_qualified
returns-then-is_qualified c =
    let s = c.args.self.now in
    let value : c.is_least.result ≡ minimal_by s.qualified c.args.set =
    minimal_from_least s.qualified c.args.set c.is_least.result (sym c.is_qualified.ensures.value ∙ c.if-is_qualified.true) c.is_least.ensures in
    record { value = value; minimal = minimal_answer s.participants s.qualified c.args.set c.is_least.result s.few value }
