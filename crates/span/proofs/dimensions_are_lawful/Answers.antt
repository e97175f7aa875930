use Rattle.std.proofs.Common.{rules}
use Rattle.span.proofs.Tested.{span_decided}
use Rattle.span.proofs.Dimensions.{one_length, length_is_dimension, has_basis, span_decides, order_is_free, span_adds_nothing, dimensions_polymatroid}
use Rattle.span.proofs.dimensions_are_lawful.Goals as goal

pub returns : goal.returns
returns g c =
    let L = g.met.F.Field.lawful c.args.f.now in
    search (rules, L, span_decided, one_length, length_is_dimension, has_basis, span_decides, order_is_free, span_adds_nothing, dimensions_polymatroid)
