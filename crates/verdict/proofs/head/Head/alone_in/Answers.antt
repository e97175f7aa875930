use Rattle.std.proofs.Common.{◌≡◌, ◌≢◌, ℕ, refl, arith, rules, tests}
use Rattle.std.proofs.lemmas.Iterator.{YieldsList-from_range, first_from_find}
use Rattle.verdict.proofs.Claim.{shifted, alone_found}
use Rattle.verdict.proofs.head.Head.alone_in.Goals as goal

pub returns : goal.returns
returns c =
    let n : ℕ = c.args.self.now.header.participants in
    alone_found n c.args.set c.args.self.now.few c.find.result
    (first_from_find _ _ c.find.result (λ i. c.args.set ≡ shifted i) (λ i. c.args.set ≢ shifted i) c.find.ensures.ran (YieldsList-from_range 0 n n refl (omega arith))
    (λ x q k. search (rules, tests)) (λ x q k. search (rules, tests)))
