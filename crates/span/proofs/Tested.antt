-- The test of spans decides them. Assumes nothing.
use Rattle.std.proofs.Common.{◌≡◌, ℕ, T, eqb, List, [], ◌∷◌, sym, refl, ap}
use Rattle.std.proofs.lemmas.Bool.Decides.{Decides-eqb, Decides-like, Decides-below_and, Decides-below_or}
use Rattle.std.proofs.lemmas.Float.{T_from_true}
use lib.Ieee.Bits.{is_true}
use Rattle.polymatroid.specs.Tests.{all_below}
use Rattle.field.specs.Laws.{Ops, Lawful, code}
use Rattle.field.proofs.Free as free
use Rattle.span.specs.Span.{Vector, InSpan}
use Rattle.span.specs.Dimension.{some_below, minus, in_span}
use Rattle.span.specs.Theorems.{SpanDecided}
use Rattle.span.proofs.Spans.{in_like, in_none, in_first, in_others}

module _ (o : Ops) (L : Lawful o) where
  pub span_decided : SpanDecided o
  span_decided d v [] =
      Decides-like (in_span o d v []) (λ z. in_none o L d [] v z) (λ i. i.1)
      (Decides-below_and (λ k. eqb (code o.order (v k)) 0) (λ k. code o.order (v k) ≡ 0) (λ n. all_below n (λ k. eqb (code o.order (v k)) 0))
      (λ k. Decides-eqb (code o.order (v k)) 0) refl (λ _. refl) d)
  span_decided d v (w ∷ ws) =
      Decides-like (in_span o d v (w ∷ ws))
      (λ r. in_first o L d ws v w r.0 r.2)
      (λ i. (
        code o.order (i.0 0),
        free.in_q L (i.0 0),
        in_like o L d ws (minus o v (i.0 0) w) (minus o v (code o.order (i.0 0)) w)
            (λ k h. ap (λ x. code o.order (o.add (v k) (o.neg x))) (sym (free.mul_code_l L (i.0 0) (w k))))
            (in_others o L d ws v w i),
      ))
      (Decides-below_or (λ c. in_span o d (minus o v c w) ws) (λ c. InSpan o d (minus o v c w) ws)
      (λ n. some_below n (λ c. in_span o d (minus o v c w) ws))
      (λ c. span_decided d (minus o v c w) ws) refl (λ _. refl) o.order)

  pub in_of : (d : ℕ) (ws : List Vector) (v : Vector) → T (in_span o d v ws) → InSpan o d v ws
  in_of d ws v t = (span_decided d v ws).0 (is_true _ t)

  pub of_in : (d : ℕ) (ws : List Vector) (v : Vector) → InSpan o d v ws → T (in_span o d v ws)
  of_in d ws v i = T_from_true _ ((span_decided d v ws).1 i)
