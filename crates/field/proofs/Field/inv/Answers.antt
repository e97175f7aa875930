use Rattle.std.proofs.Common.{rules, ◌≡◌, tests, ◌∙◌}
use Rattle.std.proofs.lemmas.Iterator.{first_from_Range}
use Rattle.field.proofs.Inverses.{inverse_tried}
use Rattle.field.proofs.Field.inv.Goals as goal

pub returns : goal.returns
returns g c =
    let o = g.Self.Field.ops c.args.self.now in
    c.unwrap_or.ensures
    ∙ inverse_tried (g.met.Self.Field.lawful c.args.self.now) _ c.args.a c.order.result _ c.find.result c.order.ensures (search rules)
    (first_from_Range _ _ _ _ (λ b. o.mul c.args.a b ≡ 1) (λ b. o.mul c.args.a b ≡ 1 → ⊥) c.find.ensures.ran (λ b f k. search (rules, tests)) (λ b f k. search (rules, tests)))
