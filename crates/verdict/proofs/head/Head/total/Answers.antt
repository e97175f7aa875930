use Rattle.std.proofs.Common.{◌≡◌, ℕ, ◌<◌, ◌^◌, sum, take, rules, arith}
use Rattle.std.proofs.lemmas.List.{length-take}
use Rattle.std.proofs.iter.runs.Made.{chains}
use Rattle.certificate.specs.declared.header.Header.{Header}
use Rattle.verdict.proofs.Weights.{total_is, total_small}
use Rattle.verdict.proofs.head.Head.total.Goals as goal

pub sum-requires-clause-fits : goal.sum-requires-clause-fits
sum-requires-clause-fits c =
    let h : Header = c.args.self.now.header in
    let n : ℕ = c.from-participants.result in
    let is = total_is h n (omega (arith, length-take n h.weights)) in
    let small = total_small h c.args.self.now.small n in
    let fits : sum (take n h.weights) < 2 ^ 32 = omega arith in
    search (rules, chains)

pub returns : goal.returns
returns c =
    let h : Header = c.args.self.now.header in
    let n : ℕ = c.from-participants.result in
    let value : c.sum.result ≡ sum (take n h.weights) = search rules in
    let is = total_is h n (omega (arith, length-take n h.weights)) in cc
