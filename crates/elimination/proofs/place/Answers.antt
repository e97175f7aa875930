use Rattle.std.proofs.Common.{ap, ◌∙◌}
use Rattle.std.specs.List.{slice_index}
use Rattle.std.proofs.lemmas.List.{get_or-take}
use Rattle.elimination.proofs.place.Goals as goal

pub returns-in-Some : goal.returns-in-Some
returns-in-Some c = λ k w l. ap (λ x. slice_index x k) (c.copy_from_slice.ensures.after ∙ c.in-Some.ensures.lookup.0.2) ∙ get_or-take 16 c.args.codes.now k 0 w
