use Rattle.std.proofs.Common.{rules, ◌*◌, length, ap, ◌∙◌}
use Rattle.std.proofs.lemmas.List.{length-take-le}
use Rattle.elimination.proofs.Counts.{counted, rank_value, rank_basis}
use Rattle.elimination.proofs.rank.Goals as goal

pub fill-requires-clause-whole : goal.fill-requires-clause-whole
fill-requires-clause-whole g c =
    let k = counted (length c.args.vectors.now) c.args.width c.in_ok-count.count c.in_ok-count.ensures in
    ap (λ n. n * c.args.width) (length-take-le c.in_ok-count.count _ k.few) ∙ k.whole

pub returns : goal.returns
returns g c =
    let o = g.F.Field.ops c.args.f.now in
    let L = g.met.F.Field.lawful c.args.f.now in
    let k = counted (length c.args.vectors.now) c.args.width c.in_ok-count.count c.in_ok-count.ensures in
    let v = rank_value o L c.args.vectors.now c.args.width _ _ c.fill.new.rows c.in_ok-count.ensures
    (c.fill.auto.rows ∙ length-take-le c.in_ok-count.count _ k.few) c.fill.ensures (search rules) in
    record {
      value = v;
      basis = rw v (rank_basis o L c.args.vectors.now c.args.width);
    }
