-- What is in a span: sums, multiples, more vectors, exchange. Assumes nothing.
use Rattle.std.proofs.Common.{◌≡◌, ℕ, suc, ◌<◌, ◌⊎◌, List, [], ◌∷◌, sym, refl, ap, ◌∙◌, ap₂, inl, inr}
use mathlib.Core.List.Memᴰ
use mathlib.Core.List.{Memᴰ}
use Rattle.std.proofs.lemmas.Bool.{cases_eq}
use Rattle.field.specs.Laws.{Ops, Lawful, code}
use Rattle.field.proofs.Free as free
use Rattle.matroid.proofs.Lists.{first_or}
use Rattle.span.specs.Span.{Vector, InSpan}
use Rattle.span.specs.Dimension.{minus}
use Rattle.span.proofs.Combinations.{with, comb_code, comb_zero, comb_none, comb_first, comb_add, comb_scale}

module _ (o : Ops) (L : Lawful o) (d : ℕ) where
  -- the same codes at the places that count
  pub in_like : (ws : List Vector) (u v : Vector) → ((k : ℕ) → k < d → code o.order (u k) ≡ code o.order (v k)) → InSpan o d u ws → InSpan o d v ws
  in_like ws u v e i = (i.0, λ k h. sym (e k h) ∙ i.1 k h)

  pub in_none : (ws : List Vector) (v : Vector) → ((k : ℕ) → k < d → code o.order (v k) ≡ 0) → InSpan o d v ws
  in_none ws v z = ((λ i. 0), λ k h. z k h ∙ sym (comb_zero o L ws k))

  pub in_more : (ws : List Vector) (v w : Vector) → InSpan o d v ws → InSpan o d v (w ∷ ws)
  in_more ws v w i = (with 0 i.0, λ k h. i.1 k h ∙ sym (comb_none o L 0 i.0 w ws k (free.code_zero L)))

  pub in_own : (ws : List Vector) (w : Vector) → InSpan o d w (w ∷ ws)
  in_own ws w = (with 1 (λ i. 0), λ k h. sym (comb_first o L w ws k))

  pub in_add : (ws : List Vector) (u v : Vector) → InSpan o d u ws → InSpan o d v ws → InSpan o d (λ k. o.add (u k) (v k)) ws
  in_add ws u v i j = (
    (λ n. o.add (i.0 n) (j.0 n)),
    λ k h. free.code_add L _ _ ∙ L.add_code _ _ ∙ ap₂ o.add (i.1 k h) (j.1 k h) ∙ comb_add o L i.0 j.0 ws k,
  )

  pub in_scale : (ws : List Vector) (s : ℕ) (v : Vector) → InSpan o d v ws → InSpan o d (λ k. o.mul s (v k)) ws
  in_scale ws s v i = (
    (λ n. o.mul s (i.0 n)),
    λ k h. free.code_mul L _ _ ∙ sym (free.mul_code_r L s (v k)) ∙ ap (o.mul s) (i.1 k h) ∙ comb_scale o L s i.0 ws k,
  )

  pub in_minus : (ws : List Vector) (u w : Vector) (c : ℕ) → InSpan o d u ws → InSpan o d w ws → InSpan o d (minus o u c w) ws
  in_minus ws u w c i j =
      in_like ws (λ k. o.add (u k) (o.mul (o.neg c) (w k))) (minus o u c w)
      (λ k h. ap (λ x. code o.order (o.add (u k) x)) (free.neg_mul_l L c (w k)))
      (in_add ws u _ i (in_scale ws (o.neg c) w j))

  -- v from v - c w and w
  pub in_back : (ws : List Vector) (v w : Vector) (c : ℕ) → InSpan o d (minus o v c w) ws → InSpan o d w ws → InSpan o d v ws
  in_back ws v w c i j =
      in_like ws (λ k. o.add (minus o v c w k) (o.mul c (w k))) v
      (λ k h. ap (code o.order) (free.back L (v k) c (w k)) ∙ free.again L (v k))
      (in_add ws (minus o v c w) _ i (in_scale ws c w j))

  -- a combination by its first vector and the others
  pub in_first : (ws : List Vector) (v w : Vector) (c : ℕ) → InSpan o d (minus o v c w) ws → InSpan o d v (w ∷ ws)
  in_first ws v w c i = in_back (w ∷ ws) v w c (in_more ws (minus o v c w) w i) (in_own ws w)

  pub in_others : (ws : List Vector) (v w : Vector) (i : InSpan o d v (w ∷ ws)) → InSpan o d (minus o v (i.0 0) w) ws
  in_others ws v w i = ((λ n. i.0 (suc n)), λ k h. others (v k) (o.mul (i.0 0) (w k)) _ (comb_code o L (λ n. i.0 (suc n)) ws k) (i.1 k h))
    where
      others : (x y r : ℕ) → code o.order r ≡ r → code o.order x ≡ o.add y r → code o.order (o.add x (o.neg y)) ≡ r
      others x y r z e =
          free.code_add L _ _ ∙ sym (free.add_code_l L x (o.neg y)) ∙ ap (λ t. o.add t (o.neg y)) (e ∙ free.add_comm L y r)
          ∙ free.gone L r y ∙ z

  -- w - v/c is -1/c times v - c w
  pub in_turned : (ws : List Vector) (v w : Vector) (c : ℕ) → (code o.order c ≡ 0 → ⊥) → InSpan o d (minus o v c w) ws
      → InSpan o d (minus o w (o.inv c) v) ws
  in_turned ws v w c n i =
      in_like ws (λ k. o.mul (o.neg (o.inv c)) (minus o v c w k)) (minus o w (o.inv c) v)
      (λ k h. ap (code o.order) (free.turned L c n (v k) (w k))) (in_scale ws (o.neg (o.inv c)) (minus o v c w) i)

  pub in_member : (ws : List Vector) (v : Vector) → Memᴰ v ws → InSpan o d v ws
  in_member [] v m = absurd (Memᴰ.not-nil m)
  in_member (w ∷ ws) v m = first_or (λ x. InSpan o d x (w ∷ ws)) w ws (in_own ws w) (λ x k. in_more ws x w (in_member ws x k)) v m

  pub in_through : (us ws : List Vector) (v : Vector) → InSpan o d v us → ((u : Vector) → Memᴰ u us → InSpan o d u ws) → InSpan o d v ws
  in_through [] ws v i s = in_none ws v i.1
  in_through (u ∷ us) ws v i s =
      in_back ws v u (i.0 0) (in_through us ws (minus o v (i.0 0) u) (in_others us v u i) (λ x m. s x (Memᴰ.tail m))) (s u (Memᴰ.head refl))

  pub real_or_none : (c : ℕ) → (code o.order c ≡ 0) ⊎ (code o.order c ≡ 0 → ⊥)
  real_or_none c = cases_eq (code o.order c) 0

  -- a first coefficient that counts as 0 is of no use
  pub in_less : (ws : List Vector) (v w : Vector) (i : InSpan o d v (w ∷ ws)) → code o.order (i.0 0) ≡ 0 → InSpan o d v ws
  in_less ws v w i z = ((λ n. i.0 (suc n)), λ k h. i.1 k h ∙ comb_none o L (i.0 0) (λ n. i.0 (suc n)) w ws k z)

  pub in_exchange : (ws : List Vector) (a b : Vector) → (InSpan o d a ws → ⊥) → InSpan o d a (b ∷ ws) → InSpan o d b (a ∷ ws)
  in_exchange ws a b no-a i = elim (real_or_none (i.0 0)) [
    | inl z ↦ absurd (no-a (in_less ws a b i z))
    | inr n ↦ in_first ws b a (o.inv (i.0 0)) (in_turned ws a b (i.0 0) n (in_others ws a b i))
  ]
