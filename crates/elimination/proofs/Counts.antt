-- Vectors that fit: how many there are, and that rows that hold them have the same span. Assumes nothing.
use Rattle.std.proofs.Common.{◌≡◌, ℕ, suc, ◌+◌, ◌*◌, ◌/◌, ◌%◌, ◌<◌, ◌≤◌, true, ◌&&◌, eqb, leb, List, [], ◌∷◌, length, Some, None, sym, ap, ◌∙◌, div-add-mod', arith}
use Rattle.std.proofs.lemmas.Bool.{and_parts, leb-true, eqb-true, cond-true}
use Rattle.std.proofs.lemmas.Option.{cond_some}
use Rattle.field.specs.Laws.{Ops, Lawful}
use Rattle.span.specs.Span.{SameSpan}
use Rattle.span.specs.Dimension.{dimension}
use Rattle.span.proofs.Dimensions.{length_is_dimension, span_decides}
use Rattle.elimination.specs.Rows.{row, rows_from, vectors, entry, RowsAre}
use Rattle.elimination.specs.Rank.{fits, count_in, vectors_in, rank_of, CountsBasis}
use Rattle.elimination.proofs.Same.{same_refl, same_trans, same_cons, same_like}

-- a count of vectors, with what it says
pub record Counted (n d count : ℕ) : Type 0 where
  pub fit : fits n d ≡ true
  pub is : count ≡ n / d
  pub whole : count * d ≡ n
  pub few : count ≤ 32

pub counted : (n d count : ℕ) → Some count ≡ count_in n d → Counted n d count
counted n d count e =
    let h = cond_some (fits n d) (n / d) count (sym e) in
    let p = and_parts (leb 1 d && leb d 16 && eqb (n % d) 0) (leb (n / d) 32) h.0 in
    let q = and_parts (leb 1 d && leb d 16) (eqb (n % d) 0) p.0 in
    record {
      fit = h.0;
      is = sym h.1;
      whole = ap (λ x. x * d) (sym h.1) ∙ omega (arith, div-add-mod' n d, eqb-true (n % d) 0 q.1);
      few = omega (arith, h.1, leb-true (n / d) 32 p.1);
    }

module _ (o : Ops) (L : Lawful o) where
  held_same : (d r : ℕ) (m : List ℕ) (rows : List (List ℕ)) → ((i k : ℕ) → i < length rows → k < d → entry rows i k ≡ row m d (r + i) k)
      → SameSpan o d (rows_from m d r (length rows)) (vectors rows)
  held_same d r m [] h = same_refl o L d []
  held_same d r m (x ∷ rows) h =
      let v = entry (x ∷ rows) 0 in
      same_trans o L d (rows_from m d r (suc (length rows))) (v ∷ rows_from m d (suc r) (length rows)) (v ∷ vectors rows)
      (same_like o L d (row m d r) v (rows_from m d (suc r) (length rows)) (λ k l. h 0 k (omega arith) l ∙ ap (λ y. row m d y k) (omega arith)))
      (same_cons o L d v (rows_from m d (suc r) (length rows)) (vectors rows)
      (held_same d (suc r) m rows (λ i k a b. h (suc i) k (omega arith) b ∙ ap (λ y. row m d y k) (omega arith))))

  pub rank_value : (m : List ℕ) (d count n : ℕ) (rows : List (List ℕ)) → Some count ≡ count_in (length m) d → length rows ≡ count
      → RowsAre d (row m d) rows → n ≡ dimension o d (vectors rows) → Some n ≡ rank_of o m d
  rank_value m d count n rows e long held is =
      let k = counted (length m) d count e in
      let all : length rows ≡ length m / d = long ∙ k.is in
      let same : SameSpan o d (rows_from m d 0 (length rows)) (vectors rows) = held_same d 0 m rows (λ i k a b. held i k a b ∙ ap (λ y. row m d y k) (omega arith)) in
      ap Some (is ∙ sym (span_decides o L d (rows_from m d 0 (length rows)) (vectors rows) same) ∙ ap (λ c. dimension o d (rows_from m d 0 c)) all)
      ∙ sym (cond-true (fits (length m) d) (Some (dimension o d (vectors_in m d))) None k.fit)

  pub rank_basis : (m : List ℕ) (d : ℕ) → CountsBasis o m d (rank_of o m d)
  rank_basis m d n e us i s =
      length_is_dimension o L d us (vectors_in m d) i s ∙ (cond_some (fits (length m) d) (dimension o d (vectors_in m d)) n e).1
