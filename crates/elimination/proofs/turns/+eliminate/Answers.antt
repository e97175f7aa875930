use Rattle.std.proofs.Common.{[], rules}
use Rattle.std.proofs.lemmas.Option.{MatchOption-at_some}
use Rattle.elimination.proofs.Pivots.{none_left, no_pivot, pivot_real, pivot_left, pivot_span, pivot_value}
use Rattle.elimination.proofs.turns.+eliminate.Goals as goal

pub returns-then-c-d-clause-value : goal.returns-then-c-d-clause-value
returns-then-c-d-clause-value g t c =
    none_left _ (g.met.F.Field.lawful c.args.f.now) _ _ _ c.if-c-d.true c.requires.left

pub turn-requires-clause-real : goal.turn-requires-clause-real
turn-requires-clause-real g t c =
    pivot_real (g.F.Field.ops c.args.f.now) _ _ _ _ _ _ c.in-Some.ensures (c.exchange.ensures.places.0 [])
    (MatchOption-at_some _ _ _ c.unwrap.ensures c.split_first_mut.ensures.cases).0

pub turn-requires-clause-left : goal.turn-requires-clause-left
turn-requires-clause-left g t c =
    pivot_left _ (g.met.F.Field.lawful c.args.f.now) _ _ _ _ c.exchange.ensures.permutation
    (MatchOption-at_some _ _ _ c.unwrap.ensures c.split_first_mut.ensures.cases).0 _ c.requires.left

pub returns-in-Some-clause-value : goal.returns-in-Some-clause-value
returns-in-Some-clause-value g t c =
    pivot_value _ (g.met.F.Field.lawful c.args.f.now) _ _ _ _
    c.exchange.ensures.permutation (MatchOption-at_some _ _ _ c.unwrap.ensures c.split_first_mut.ensures.cases).0
    _ _ _ _ c.requires.within c.if-c-d.false c.turn.ensures.falls c.eliminate.ensures.value

pub returns-in-Some-clause-span : goal.returns-in-Some-clause-span
returns-in-Some-clause-span g t c =
    pivot_span _ (g.met.F.Field.lawful c.args.f.now) _ _ _ _
    c.exchange.ensures.permutation (MatchOption-at_some _ _ _ c.unwrap.ensures c.split_first_mut.ensures.cases).0
    _ _ _ _ c.turn.ensures.span c.eliminate.ensures.span

pub eliminate-requires-in-None : goal.eliminate-requires-in-None
eliminate-requires-in-None g t c = search (rules, no_pivot)
