-- The dimension: the length of every basis, decided by the span alone, a polymatroid. Assumes nothing.
use Rattle.std.proofs.Common.{◌≡◌, ℕ, suc, ◌+◌, ◌<◌, false, T, List, [], ◌∷◌, sym, refl, ap₂, ◌∙◌, arith}
use mathlib.Core.List.Memᴰ
use mathlib.Core.List.{Memᴰ}
use Rattle.field.specs.Laws.{Ops, Lawful, code}
use Rattle.field.proofs.Free as free
use Rattle.matroid.specs.Theorems.{RankLaws}
use Rattle.matroid.proofs.Ranks.{less_gain, rank_laws}
use Rattle.matroid.proofs.Sets.{rank_polymatroid}
use Rattle.span.specs.Span.{Vector, combination}
use Rattle.span.specs.Dimension.{in_span, dimension}
use Rattle.span.specs.Theorems.{OneLength, LengthIsDimension, HasBasis, SpanDecides, OrderIsFree, SpanAddsNothing, DimensionsPolymatroid}
use Rattle.span.proofs.Spans.{in_member, in_none}
use Rattle.span.proofs.Tested.{in_of, of_in}
use Rattle.span.proofs.Closures.{span_closure, same_spanned, same_of, independent_chain, chain_independent}

module _ (o : Ops) (L : Lawful o) where
  laws : (d : ℕ) → RankLaws Vector (in_span o d)
  laws d = rank_laws (span_closure o L d)

  pub length_is_dimension : LengthIsDimension o
  length_is_dimension d us ws i s =
      let b = same_spanned o L d us ws s in (laws d).length_is us ws (independent_chain o L d us i) b.0 b.1

  pub one_length : OneLength o
  one_length d us ws i j s =
      length_is_dimension d us ws i s ∙ sym (length_is_dimension d ws ws j (λ v. ((λ x. x), (λ x. x))))

  pub has_basis : HasBasis o
  has_basis d ws =
      let b = (laws d).basis ws in (
        b.0,
        b.2,
        chain_independent o L d b.0 b.1,
        same_of o L d b.0 ws (λ u m. in_member o L d ws u (b.2 u m)) (λ w m. in_of o L d b.0 w (b.3 w m)),
      )

  pub span_decides : SpanDecides o
  span_decides d us ws s = let b = same_spanned o L d us ws s in (laws d).same us ws b.0 b.1

  pub order_is_free : OrderIsFree o
  order_is_free d us ws a b = (laws d).order us ws a b

  pub span_adds_nothing : SpanAddsNothing o
  span_adds_nothing d us ws s = (laws d).closed us ws (λ u m. of_in o L d ws u (s u m))

  pub dimensions_polymatroid : DimensionsPolymatroid o
  dimensions_polymatroid d part n = rank_polymatroid (span_closure o L d) part n

  -- a list of vectors that are all 0
  pub dimension_none : (d : ℕ) (ws : List Vector) → ((w : Vector) → Memᴰ w ws → (k : ℕ) → k < d → code o.order (w k) ≡ 0) → dimension o d ws ≡ 0
  dimension_none d ws z =
      (laws d).same ws [] (λ w m. of_in o L d [] w (in_none o L d [] w (z w m))) (λ w m. absurd (Memᴰ.not-nil m))

  -- a place at which all of ws are 0 is 0 in their span
  none_at : (d : ℕ) (ws : List Vector) (cs : ℕ → ℕ) (k : ℕ) → ((w : Vector) → Memᴰ w ws → code o.order (w k) ≡ 0) → combination o cs ws k ≡ 0
  none_at d [] cs k z = refl
  none_at d (w ∷ ws) cs k z =
      ap₂ o.add (free.mul_none L (cs 0) (w k) (z w (Memᴰ.head refl))) (none_at d ws (λ i. cs (suc i)) k (λ x m. z x (Memᴰ.tail m)))
      ∙ free.add_zero L 0 ∙ free.code_zero L

  -- a vector that is not 0 at a place at which all of ws are 0 adds one
  pub dimension_pivot : (d : ℕ) (ws : List Vector) (v : Vector) (k : ℕ) → k < d → ((w : Vector) → Memᴰ w ws → code o.order (w k) ≡ 0)
      → (code o.order (v k) ≡ 0 → ⊥) → dimension o d (v ∷ ws) ≡ dimension o d ws + 1
  dimension_pivot d ws v k h z n =
      let outside = λ (t : T (in_span o d v ws)). let i = in_of o L d ws v t in n (i.1 k h ∙ none_at d ws i.0 k z) in
      omega (arith, less_gain (in_span o d v ws) false outside, less_gain false (in_span o d v ws) (λ t. absurd t))
