-- Spans are closures, and lists are independent as vectors exactly if they are so for that closure. Assumes nothing.
use Rattle.std.proofs.Common.{◌≡◌, ℕ, zero, suc, ◌<◌, List, [], ◌∷◌, length, sym, refl, ap, ap₂, ◌∙◌, inl, inr, arith}
use mathlib.Core.List.{Memᴰ}
use Rattle.field.specs.Laws.{Ops, Lawful, code}
use Rattle.field.proofs.Free as free
use Rattle.matroid.specs.Closure as matroid
use Rattle.matroid.specs.Closure.{Closure, Spanned}
use Rattle.span.specs.Span.{Vector, combination, InSpan, SameSpan, Independent}
use Rattle.span.specs.Dimension.{minus, in_span}
use Rattle.span.proofs.Combinations.{with, comb_none}
use Rattle.span.proofs.Spans.{in_member, in_through, in_exchange, in_like, in_others, in_turned, real_or_none}
use Rattle.span.proofs.Tested.{in_of, of_in}

module _ (o : Ops) (L : Lawful o) (d : ℕ) where
  pub span_closure : Closure Vector (in_span o d)
  span_closure = record {
    member = λ a ws m. of_in o L d ws a (in_member o L d ws a m);
    transitive = λ a xs ys t s. of_in o L d ys a (in_through o L d xs ys a (in_of o L d xs a t) (λ x m. in_of o L d ys x (s x m)));
    exchange = λ a b ws n t.
        of_in o L d (a ∷ ws) b (in_exchange o L d ws a b (λ i. n (of_in o L d ws a i)) (in_of o L d (b ∷ ws) a t));
  }

  pub same_spanned : (us ws : List Vector) → SameSpan o d us ws → Spanned (in_span o d) us ws × Spanned (in_span o d) ws us
  same_spanned us ws s =
      ((λ u m. of_in o L d ws u ((s u).0 (in_member o L d us u m))), (λ w m. of_in o L d us w ((s w).1 (in_member o L d ws w m))))

  pub same_of : (us ws : List Vector) → ((u : Vector) → Memᴰ u us → InSpan o d u ws) → ((w : Vector) → Memᴰ w ws → InSpan o d w us) → SameSpan o d us ws
  same_of us ws f g v = ((λ i. in_through o L d us ws v i f), (λ i. in_through o L d ws us v i g))

  -- -1 does not count as 0
  minus_one_real : code o.order (o.neg 1) ≡ 0 → ⊥
  minus_one_real e = free.one_real L (sym (free.add_zero L 1) ∙ ap (o.add 1) (sym e ∙ free.code_neg L 1) ∙ free.add_neg L 1)

  -- a first vector in the span of the others gives a combination to 0 whose first coefficient is -1
  pub independent_chain : (ws : List Vector) → Independent o d ws → matroid.Independent (in_span o d) ws
  independent_chain [] i = tt
  independent_chain (w ∷ ws) i = (
    (λ t.
        let s = in_of o L d ws w t in
        minus_one_real (i (with (o.neg 1) s.0) (λ k h. cancels (w k) (combination o s.0 ws k) (s.1 k h)) 0 (omega arith))),
    independent_chain ws (λ cs z n h. i (with 0 cs) (λ k l. comb_none o L 0 cs w ws k (free.code_zero L) ∙ z k l) (suc n) (omega arith)),
  )
    where
      cancels : (x r : ℕ) → code o.order x ≡ r → o.add (o.mul (o.neg 1) x) r ≡ 0
      cancels x r e =
          ap₂ o.add (free.neg_mul_l L 1 x ∙ ap o.neg (free.one_mul L x ∙ e)) refl ∙ free.neg_add L r

  pub chain_independent : (ws : List Vector) → matroid.Independent (in_span o d) ws → Independent o d ws
  chain_independent [] i cs z n h = absurd (omega arith)
  chain_independent (w ∷ ws) i cs z n h = elim (real_or_none o L d (cs 0)) [
    | inl e ↦ at n h e
        (chain_independent ws i.1 (λ j. cs (suc j)) (λ k l. sym (comb_none o L (cs 0) (λ j. cs (suc j)) w ws k e) ∙ z k l))
    | inr r ↦ absurd (i.0 (of_in o L d ws w (solved r)))
  ]
    where
      -- 0 less c times w is a combination of the others
      solved : (code o.order (cs 0) ≡ 0 → ⊥) → InSpan o d w ws
      solved r =
          in_like o L d ws (minus o w (o.inv (cs 0)) (λ k. 0)) w
          (λ k l. ap (code o.order) (free.less_none L (w k) _ (free.mul_zero L (o.inv (cs 0)))) ∙ free.again L (w k))
          (in_turned o L d ws (λ k. 0) w (cs 0) r (in_others o L d ws (λ k. 0) w (cs, λ k l. free.code_zero L ∙ sym (z k l))))

      at : (n : ℕ) → n < suc (length ws) → code o.order (cs 0) ≡ 0
          → ((j : ℕ) → j < length ws → code o.order (cs (suc j)) ≡ 0) → code o.order (cs n) ≡ 0
      at zero h e f = e
      at (suc n) h e f = f n (omega arith)
