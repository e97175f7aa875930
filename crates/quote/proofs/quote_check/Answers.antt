use Rattle.std.proofs.Common.{◌≡◌, sym, ap, ◌∙◌}
use Rattle.quote.specs.Answer.{answered, answer_to}
use Rattle.quote.proofs.Zero.{zero_binds}
use Rattle.quote.proofs.quote_check.Goals as goal

pub returns : goal.returns
returns c =
    let value : c.number_of.result ≡ answer_to c.args.structure.now c.args.certificate.now = c.number_of.ensures ∙ ap answered c.lower_bound.ensures.value in
    record { value = value; binds = λ p. zero_binds c.args.structure.now c.args.certificate.now (sym value ∙ p) }
