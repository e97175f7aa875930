use Rattle.std.proofs.Common.{drop, arith, rules}
use Rattle.std.proofs.lemmas.List.{ext_get_or}
use Rattle.access.specs.View.{participants_of}
use Rattle.certificate.proofs.Heads.{weights_sized}
use Rattle.verdict.proofs.heads.HeadBytes.weights.Goals as goal

pub returns-clause-value : goal.returns-clause-value
returns-clause-value c =
    let read = c.args.self.now in
    let few = weights_sized (participants_of read.structure.now) (drop 3 read.bytes.now) (omega (arith, read.structure.now.few)) in
    let items = c.from_fn.ensures.items in
    ext_get_or 0 _ _ (search rules) (λ i l. let at = (items.at i 0 (omega (arith, items.long))).2 in search (rules, at))
