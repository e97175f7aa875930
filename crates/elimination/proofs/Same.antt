-- Lists of vectors with the same span. Assumes nothing.
use Rattle.std.proofs.Common.{◌≡◌, ℕ, ◌<◌, List, [], ◌∷◌, sym, refl, ap, ◌∙◌}
use mathlib.Core.List.Memᴰ
use mathlib.Core.List.{Memᴰ}
use Rattle.std.specs.List.{All}
use Rattle.std.specs.List.Sorted.{IsPermutation}
use Rattle.std.proofs.lemmas.List.Elements.{All-head, All-tail, All-nil, All-cons}
use Rattle.std.proofs.lemmas.List.Sorted.{All-permutation, IsPermutation-sym}
use Rattle.field.specs.Laws.{Ops, Lawful, code}
use Rattle.field.proofs.Free as free
use Rattle.span.specs.Span.{Vector, InSpan, SameSpan}
use Rattle.matroid.proofs.Lists.{first_or}
use Rattle.span.proofs.Spans.{in_like, in_own, in_more, in_member, in_scale}
use Rattle.span.proofs.Closures.{same_of}

-- what holds of each vector of a list
pub each_of : (P : Vector → Type 0) (ws : List Vector) → All P ws → (w : Vector) → Memᴰ w ws → P w
each_of P [] a w m = absurd (Memᴰ.not-nil m)
each_of P (u ∷ ws) a w m = first_or P u ws (All-head P u ws a) (each_of P ws (All-tail P u ws a)) w m

of_each : (P : Vector → Type 0) (ws : List Vector) → ((w : Vector) → Memᴰ w ws → P w) → All P ws
of_each P [] f = All-nil P
of_each P (u ∷ ws) f = All-cons P u ws (f u (Memᴰ.head refl)) (of_each P ws (λ w m. f w (Memᴰ.tail m)))

module _ (o : Ops) (L : Lawful o) (d : ℕ) where
  pub same_refl : (ws : List Vector) → SameSpan o d ws ws
  same_refl ws v = ((λ i. i), (λ i. i))

  pub same_trans : (us vs ws : List Vector) → SameSpan o d us vs → SameSpan o d vs ws → SameSpan o d us ws
  same_trans us vs ws s t v = ((λ i. (t v).0 ((s v).0 i)), (λ i. (s v).1 ((t v).1 i)))

  -- another first vector, each in the span of the other list
  pub same_first : (v w : Vector) (ws : List Vector) → InSpan o d v (w ∷ ws) → InSpan o d w (v ∷ ws) → SameSpan o d (v ∷ ws) (w ∷ ws)
  same_first v w ws i j = same_of o L d (v ∷ ws) (w ∷ ws) (first v w i) (first w v j)
    where
      first : (a b : Vector) → InSpan o d a (b ∷ ws) → (u : Vector) → Memᴰ u (a ∷ ws) → InSpan o d u (b ∷ ws)
      first a b i = first_or (λ u. InSpan o d u (b ∷ ws)) a ws i (λ u m. in_more o L d ws u b (in_member o L d ws u m))

  -- the same first vector, and each of the others in the span of the other list
  pub same_behind : (v : Vector) (us ws : List Vector) → ((u : Vector) → Memᴰ u us → InSpan o d u (v ∷ ws))
      → ((w : Vector) → Memᴰ w ws → InSpan o d w (v ∷ us)) → SameSpan o d (v ∷ us) (v ∷ ws)
  same_behind v us ws f g =
      same_of o L d (v ∷ us) (v ∷ ws) (first_or (λ u. InSpan o d u (v ∷ ws)) v us (in_own o L d ws v) f)
      (first_or (λ w. InSpan o d w (v ∷ us)) v ws (in_own o L d us v) g)

  pub same_cons : (v : Vector) (us ws : List Vector) → SameSpan o d us ws → SameSpan o d (v ∷ us) (v ∷ ws)
  same_cons v us ws s =
      same_behind v us ws (λ u m. in_more o L d ws u v ((s u).0 (in_member o L d us u m)))
      (λ w m. in_more o L d us w v ((s w).1 (in_member o L d ws w m)))

  pub same_permuted : (us ws : List Vector) → IsPermutation us ws → SameSpan o d us ws
  same_permuted us ws p =
      same_of o L d us ws
      (each_of (λ u. InSpan o d u ws) us (All-permutation (λ u. InSpan o d u ws) ws us (IsPermutation-sym us ws p) (of_each (λ w. InSpan o d w ws) ws (in_member o L d ws))))
      (each_of (λ w. InSpan o d w us) ws (All-permutation (λ w. InSpan o d w us) us ws p (of_each (λ u. InSpan o d u us) us (in_member o L d us))))

  -- a first vector with the same codes
  pub same_like : (v w : Vector) (ws : List Vector) → ((k : ℕ) → k < d → w k ≡ v k) → SameSpan o d (v ∷ ws) (w ∷ ws)
  same_like v w ws e =
      same_first v w ws
      (in_like o L d (w ∷ ws) w v (λ k h. ap (code o.order) (e k h)) (in_own o L d ws w))
      (in_like o L d (v ∷ ws) v w (λ k h. ap (code o.order) (sym (e k h))) (in_own o L d ws v))

  -- a first vector times s, where t times s is 1
  pub same_scaled : (s t : ℕ) → ((x : ℕ) → o.mul t (o.mul s x) ≡ code o.order x) → (v w : Vector) (ws : List Vector)
      → ((k : ℕ) → k < d → w k ≡ o.mul s (v k)) → SameSpan o d (v ∷ ws) (w ∷ ws)
  same_scaled s t back v w ws e =
      same_first v w ws
      (in_like o L d (w ∷ ws) (λ k. o.mul t (w k)) v
      (λ k h. ap (λ x. code o.order (o.mul t x)) (e k h) ∙ ap (code o.order) (back (v k)) ∙ free.again L (v k))
      (in_scale o L d (w ∷ ws) t w (in_own o L d ws w)))
      (in_like o L d (v ∷ ws) (λ k. o.mul s (v k)) w (λ k h. ap (code o.order) (sym (e k h)))
      (in_scale o L d (v ∷ ws) s v (in_own o L d ws v)))
