-- What a turn of elimination keeps, and that it takes one from the dimension. Assumes nothing.
use Rattle.std.proofs.Common.{◌≡◌, ℕ, zero, suc, ◌+◌, ◌<◌, ◌≤◌, ◌≢◌, Bool, false, List, [], ◌∷◌, ◌++◌, length, get_or, slice_index, Some, None, sym, ap, ◌∙◌, subst, below_more, arith}
use mathlib.Core.List.{Memᴰ}
use Rattle.std.specs.List.{All, position, position_or_len}
use Rattle.std.specs.List.Sorted.{IsPermutation}
use Rattle.std.proofs.lemmas.Bool.Decides.{nat_tests}
use Rattle.std.proofs.lemmas.List.Elements.{All-head, All-tail, All-get_or, All-from_get_or, All-map}
use Rattle.std.proofs.lemmas.List.Sums.{fails_before_first}
use Rattle.std.proofs.lemmas.List.Quantifiers.{position-Some}
use Rattle.std.proofs.lemmas.List.Sorted.{IsPermutation-map, All-permutation}
use Rattle.field.specs.Laws.{Ops, Lawful, code}
use Rattle.field.proofs.Free as free
use Rattle.span.specs.Span.{Vector, InSpan, SameSpan}
use Rattle.span.proofs.Spans.{in_like, in_own, in_more, in_minus, in_back}
use Rattle.span.specs.Dimension.{less, minus, dimension}
use Rattle.span.proofs.Dimensions.{span_decides, dimension_none, dimension_pivot}
use Rattle.elimination.specs.Rows.{vectors, entry, nonzero_at, ZeroLeft, RowsAre, SpanKept}
use Rattle.elimination.proofs.Same.{each_of, same_trans, same_cons, same_behind, same_permuted, same_scaled}

-- what holds of each row as a vector
pub each_row : (P : Vector → Type 0) (rows : List (List ℕ)) → ((i : ℕ) → i < length rows → P (entry rows i)) → (w : Vector) → Memᴰ w (vectors rows) → P w
each_row P rows f = each_of P (vectors rows) (All-map P slice_index rows (All-from_get_or (λ r. P (slice_index r)) rows [] f))

-- the vectors of rows that are 0 left of column c
zero_in : (o : Ops) (c : ℕ) (rows : List (List ℕ)) → All (ZeroLeft o c) rows → (w : Vector) → Memᴰ w (vectors rows) → (k : ℕ) → k < c → code o.order (w k) ≡ 0
zero_in o c rows z = each_row (λ w. (k : ℕ) → k < c → code o.order (w k) ≡ 0) rows (λ i h. All-get_or (ZeroLeft o c) rows i [] h z)

none_passes : (p : List ℕ → Bool) (rows : List (List ℕ)) → position p rows ≡ None → (i : ℕ) (e : List ℕ) → i < length rows → p (get_or rows i e) ≡ false
none_passes p rows n i e h = let l : length rows ≤ position_or_len p rows = grind (arith, nat_tests) in fails_before_first p rows i e (omega arith)

-- no pivot in column c
pub no_pivot : (o : Ops) (c : ℕ) (rows : List (List ℕ)) → None ≡ position (nonzero_at o c) rows → All (ZeroLeft o c) rows → All (ZeroLeft o (c + 1)) rows
no_pivot o c rows e z = All-from_get_or (ZeroLeft o (c + 1)) rows [] (λ i h.
    below_more (λ k. code o.order (entry rows i k) ≡ 0) c (All-get_or (ZeroLeft o c) rows i [] h z)
    (let fails = none_passes (nonzero_at o c) rows (sym e) i [] h in grind (arith, nat_tests)))

-- the row that `seek` found, at the front
pub pivot_real : (o : Ops) (c p : ℕ) (rows swapped : List (List ℕ)) (pivot : List ℕ) (below : List (List ℕ)) → Some p ≡ position (nonzero_at o c) rows
    → get_or swapped 0 [] ≡ get_or rows p [] → swapped ≡ pivot ∷ below → code o.order (slice_index pivot c) ≢ 0
pivot_real o c p rows swapped pivot below e s split =
    subst (λ r. code o.order (slice_index r c) ≢ 0) (sym s ∙ ap (λ x. get_or x 0 []) split)
    (λ z. let passes = (position-Some (nonzero_at o c) rows p [] (sym e)).1 in grind (arith, nat_tests))

module _ (o : Ops) (L : Lawful o) where
  row_in : (d : ℕ) (rows : List (List ℕ)) (i : ℕ) → i < length rows → InSpan o d (entry rows i) (vectors rows)
  row_in d [] i h = absurd (omega arith)
  row_in d (r ∷ rows) zero h = in_own o L d (vectors rows) (slice_index r)
  row_in d (r ∷ rows) (suc i) h = in_more o L d (vectors rows) (entry rows i) (slice_index r) (row_in d rows i (omega arith))

  -- the rows below the pivot, less multiples of it
  cleared_same : (w d : ℕ) → d ≤ w → (p : Vector) (c : ℕ) (rows rows' : List (List ℕ)) → length rows' ≡ length rows
      → RowsAre w (λ i. minus o (entry rows i) (entry rows i c) p) rows' → SameSpan o d (p ∷ vectors rows) (p ∷ vectors rows')
  cleared_same w d h p c rows rows' e H =
      same_behind o L d p (vectors rows) (vectors rows')
      (each_row (λ v. InSpan o d v (p ∷ vectors rows')) rows (λ i l.
      in_back o L d (p ∷ vectors rows') (entry rows i) p (entry rows i c)
      (in_like o L d (p ∷ vectors rows') (entry rows' i) (minus o (entry rows i) (entry rows i c) p)
      (λ k m. ap (code o.order) (H i k (omega arith) (omega arith)))
      (in_more o L d (vectors rows') (entry rows' i) p (row_in d rows' i (omega arith))))
      (in_own o L d (vectors rows') p)))
      (each_row (λ v. InSpan o d v (p ∷ vectors rows)) rows' (λ i l.
      in_like o L d (p ∷ vectors rows) (minus o (entry rows i) (entry rows i c) p) (entry rows' i)
      (λ k m. ap (code o.order) (sym (H i k l (omega arith))))
      (in_minus o L d (p ∷ vectors rows) (entry rows i) p (entry rows i c)
      (in_more o L d (vectors rows) (entry rows i) p (row_in d rows i (omega arith))) (in_own o L d (vectors rows) p))))

  -- the same span over each number of columns up to w, whatever stands above
  kept_below : (w : ℕ) (rows rows' : List (List ℕ)) → ((d : ℕ) → d ≤ w → SameSpan o d (vectors rows) (vectors rows')) → SpanKept o w rows rows'
  kept_below w rows rows' s [] d h = s d h
  kept_below w rows rows' s (r ∷ above) d h =
      same_cons o L d (slice_index r) (vectors (above ++ rows)) (vectors (above ++ rows')) (kept_below w rows rows' s above d h)

  dead_less : (s a b : ℕ) → code o.order a ≡ 0 → code o.order b ≡ 0 → code o.order (less o s a b) ≡ 0
  dead_less s a b e h = ap (code o.order) (free.less_none L a (o.mul s b) (free.mul_none L s b h)) ∙ free.again L a ∙ e

  less_own : (a b : ℕ) → b ≡ 1 → less o a a b ≡ 0
  less_own a b e =
      ap (less o a a) e ∙ ap (λ x. o.add a (o.neg x)) (free.mul_one L a) ∙ ap (o.add a) (sym (L.neg_code a)) ∙ free.add_neg L a

  -- a whole turn
  module _ (c w : ℕ) (hc : c < w) (s : ℕ) (pivot pivot' : List ℕ) (below below' : List (List ℕ))
      (real : code o.order (slice_index pivot c) ≢ 0) (left : All (ZeroLeft o c) (pivot ∷ below))
      (is : s ≡ o.inv (slice_index pivot c)) (scaled : (k : ℕ) → k < w → slice_index pivot' k ≡ o.mul s (slice_index pivot k))
      (long : length below' ≡ length below)
      (cleared : RowsAre w (λ i. minus o (entry below i) (entry below i c) (slice_index pivot')) below') where
    abbrev x : ℕ
    x = slice_index pivot c

    one : slice_index pivot' c ≡ 1
    one = scaled c hc ∙ ap (λ y. o.mul y x) is ∙ free.mul_comm L (o.inv x) x ∙ free.mul_inv L x real

    first_left : ZeroLeft o c pivot'
    first_left k h = ap (code o.order) (scaled k (omega arith) ∙ free.mul_none L s (slice_index pivot k) (All-head (ZeroLeft o c) pivot below left k h)) ∙ free.code_zero L

    pub turn_left : All (ZeroLeft o (c + 1)) below'
    turn_left = All-from_get_or (ZeroLeft o (c + 1)) below' [] (λ i h. below_more (λ k. code o.order (entry below' i k) ≡ 0) c
        (λ k l. ap (code o.order) (cleared i k h (omega arith))
        ∙ dead_less (entry below i c) (entry below i k) (slice_index pivot' k)
        (All-get_or (ZeroLeft o c) below i [] (omega arith) (All-tail (ZeroLeft o c) pivot below left) k l) (first_left k l))
        (ap (code o.order) (cleared i c h hc ∙ less_own (entry below i c) (slice_index pivot' c) one) ∙ free.code_zero L))

    pub turn_span : (d : ℕ) → d ≤ w → SameSpan o d (vectors (pivot ∷ below)) (vectors (pivot' ∷ below'))
    turn_span d h =
        same_trans o L d (vectors (pivot ∷ below)) (vectors (pivot' ∷ below)) (vectors (pivot' ∷ below'))
        (same_scaled o L d s x (λ y. ap (λ t. o.mul x (o.mul t y)) is ∙ free.undone L x real y) (slice_index pivot) (slice_index pivot') (vectors below) (λ k l. scaled k (omega arith)))
        (cleared_same w d h (slice_index pivot') c below below' long cleared)

    pub turn_falls : (d : ℕ) → c < d → d ≤ w → dimension o d (vectors (pivot ∷ below)) ≡ dimension o d (vectors below') + 1
    turn_falls d h l =
        span_decides o L d (vectors (pivot ∷ below)) (vectors (pivot' ∷ below')) (turn_span d l)
        ∙ dimension_pivot o L d (vectors below') (slice_index pivot') c h (λ w m. zero_in o (c + 1) below' turn_left w m c (omega arith))
        (λ z. free.one_real L (ap (code o.order) (sym one) ∙ z))

    pub turned : ((d : ℕ) → c < d → d ≤ w → dimension o d (vectors (pivot ∷ below)) ≡ dimension o d (vectors below') + 1)
        × (All (ZeroLeft o (c + 1)) below' × SpanKept o w (pivot ∷ below) (pivot' ∷ below'))
    turned = (turn_falls, (turn_left, kept_below w (pivot ∷ below) (pivot' ∷ below') turn_span))

  -- past the last column
  pub none_left : (c d : ℕ) (rows : List (List ℕ)) → c ≡ d → All (ZeroLeft o c) rows → 0 ≡ dimension o d (vectors rows)
  none_left c d rows e z = sym (dimension_none o L d (vectors rows) (λ w m k h. zero_in o c rows z w m k (omega arith)))

  -- a row that has one, brought to the front
  module _ (rows swapped : List (List ℕ)) (pivot : List ℕ) (below : List (List ℕ)) (perm : IsPermutation rows swapped) (split : swapped ≡ pivot ∷ below) where
    front_span : (d : ℕ) → SameSpan o d (vectors rows) (vectors (pivot ∷ below))
    front_span d =
        subst (λ x. SameSpan o d (vectors rows) (vectors x)) split
        (same_permuted o L d (vectors rows) (vectors swapped) (IsPermutation-map slice_index rows swapped perm))

    pub pivot_span : (w : ℕ) (pivot' : List ℕ) (below' below'' : List (List ℕ)) → SpanKept o w (pivot ∷ below) (pivot' ∷ below')
        → SpanKept o w below' below'' → SpanKept o w rows (pivot' ∷ below'')
    pivot_span w pivot' below' below'' turn rest =
        kept_below w rows (pivot' ∷ below'') (λ d h.
        same_trans o L d (vectors rows) (vectors (pivot ∷ below)) (vectors (pivot' ∷ below'')) (front_span d)
        (same_trans o L d (vectors (pivot ∷ below)) (vectors (pivot' ∷ below')) (vectors (pivot' ∷ below'')) (turn [] d h)
        (rest (pivot' ∷ []) d h)))

    pub pivot_value : (c d n : ℕ) (below' : List (List ℕ)) → c ≤ d → c ≢ d
        → ((e : ℕ) → c < e → e ≤ d → dimension o e (vectors (pivot ∷ below)) ≡ dimension o e (vectors below') + 1)
        → n ≡ dimension o d (vectors below') → 1 + n ≡ dimension o d (vectors rows)
    pivot_value c d n below' h more falls e =
        let kept = span_decides o L d (vectors rows) (vectors (pivot ∷ below)) (front_span d) in
        let one_less = falls d (omega arith) (omega arith) in
        omega arith

    pub pivot_left : (c : ℕ) → All (ZeroLeft o c) rows → All (ZeroLeft o c) (pivot ∷ below)
    pivot_left c z = subst (All (ZeroLeft o c)) split (All-permutation (ZeroLeft o c) rows swapped perm z)
