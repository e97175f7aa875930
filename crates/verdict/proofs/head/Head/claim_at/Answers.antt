use Rattle.std.proofs.Common.{◌≡◌, ℕ, ◌+◌, pos, neg_ℤ, get_or, sym, ap, ◌∙◌, arith}
use Rattle.std.proofs.lemmas.Int.{ints}
use Rattle.polymatroid.specs.Sets.{alone}
use Rattle.polymatroid.proofs.Claims.{claims}
use Rattle.certificate.specs.declared.header.Header.{Header}
use Rattle.certificate.specs.Format.{weight_of}
use Rattle.certificate.specs.Judge.{claimed}
use Rattle.verdict.proofs.Claim.{claim_alone, claim_elsewhere}
use Rattle.verdict.proofs.head.Head.claim_at.Goals as goal

pub returns-in-Some : goal.returns-in-Some
returns-in-Some c =
    let h : Header = c.args.self.now.header in
    let i : ℕ = c.from.result in
    let claim : claimed h c.args.set ≡ pos (get_or h.weights i 0) =
    ap (claimed h) (c.in-Some.ensures.1 ∙ ap (λ k. alone (k + 1)) (sym c.from.ensures)) ∙ claim_alone h i (omega (arith, c.in-Some.ensures)) in
    omega (arith, ints) ∙ sym claim

pub returns-in-None : goal.returns-in-None
returns-in-None c =
    let h : Header = c.args.self.now.header in
    let claim : claimed h c.args.set ≡ neg_ℤ (pos h.count) = ap (claimed h) c.if-set-eq1.true ∙ (claims h.participants (weight_of h) h.count).at_secret in
    omega (arith, ints) ∙ sym claim

pub returns-in-None-2 : goal.returns-in-None-2
returns-in-None-2 c = sym (claim_elsewhere c.args.self.now.header c.args.set c.if-set-eq1.false c.in-None-2.ensures)
