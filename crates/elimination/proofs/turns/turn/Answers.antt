use Rattle.elimination.proofs.Pivots.{turned}
use Rattle.elimination.proofs.turns.turn.Goals as goal

pub returns : goal.returns
returns g c =
    let t = turned (g.F.Field.ops c.args.f.now) (g.met.F.Field.lawful c.args.f.now) _ _ c.requires.column _ _ _ _ _ c.requires.real c.requires.left
    c.inv-s.ensures c.scale.ensures c.clear.auto.rows c.clear.ensures in
    record { falls = t.0; left = t.1.0; span = t.1.1 }
