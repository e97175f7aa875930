use Rattle.std.proofs.Common.{◌≡◌, ℕ, ◌+◌, ◌^◌, Bool, get_or, pos, refl, ap, ◌∙◌, arith, rules, tests}
use Rattle.std.proofs.lemmas.Nat.{one_shl}
use Rattle.std.proofs.lemmas.Iterator.{YieldsList-from_range}
use Rattle.std.proofs.lemmas.Iterator.Search.{all_from_yields_List}
use Rattle.polymatroid.proofs.Decides.{upwards}
use Rattle.certificate.specs.Judge.{agree_at, claimed}
use Rattle.verdict.proofs.head.Head.is_settled.Goals as goal

pub returns : goal.returns
returns c =
    let sets : ℕ = 2 ^ (c.args.self.now.header.participants + 1) in
    let test : ℕ → Bool = agree_at (λ s. get_or c.args.table.now s (pos 0)) (claimed c.args.self.now.header) in
    let size = one_shl (c.from.result + 1) 16 (omega arith) in
    let same : 2 ^ (c.from.result + 1) ≡ sets = ap (λ k. 2 ^ (k + 1)) c.from.ensures in
    all_from_yields_List test _ _ c.all.result c.all.ensures.ran (YieldsList-from_range 0 _ sets refl (omega arith)) (λ x b q k. search (rules, tests)) ∙
    upwards sets test
