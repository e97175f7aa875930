-- The bytes of a set's members, put together, hold the items of its members, edges or vectors. Assumes nothing.
use Rattle.std.proofs.Common.{◌≡◌, ℕ, zero, suc, ◌+◌, ◌*◌, ◌/◌, ◌%◌, ◌<◌, ◌≤◌, Bool, true, false, cond, ◌&&◌, eqb, leb, List, [], ◌∷◌, ◌++◌, length, get_or, take, drop, Some, None, sym, refl, ap, ◌∙◌, subst, ap₂, inl, inr, add-zero, mul-le-mul_right, add-mul, arith, length-append, length-drop, length-take}
use mathlib.Core.List.Memᴰ
use mathlib.Core.List.{Memᴰ}
use native.Mathlib.Nat.{mul-div_left, mul-mod_left}
use Rattle.std.specs.List.{AllZip}
use Rattle.std.proofs.lemmas.List.Elements.{same_from_all_zip}
use Rattle.std.proofs.lemmas.List.{get_or_append_left, get_or-append-add, get_or-take, get_or-drop}
use Rattle.std.proofs.lemmas.Bool.{and_from, le-leb, eq-eqb, cond-true}
use Rattle.std.proofs.lemmas.Nat.{row_fits}
use Rattle.field.specs.Laws.{Ops, Lawful, code}
use Rattle.matroid.specs.Members.{has, members}
use Rattle.graph.specs.Graph.{Edge}
use Rattle.span.specs.Span.{Vector, InSpan}
use Rattle.span.specs.Dimension.{dimension}
use Rattle.span.proofs.Spans.{in_like, in_own, in_more}
use Rattle.span.proofs.Closures.{same_of}
use Rattle.span.proofs.Dimensions.{span_decides}
use Rattle.elimination.specs.Rows.{row, rows_from}
use Rattle.elimination.specs.Rank.{fits, vectors_in, rank_of}
use Rattle.formula.specs.Holding.{total, before, items_from, held_by, held_by_all, bytes_by, bytes_by_all}
use Rattle.formula.specs.Vectors.{is_order, field_of}
use Rattle.formula.specs.Graphs.{edge_at}
use Rattle.formula.proofs.Gathering.{before_next, before_all, items_within}
use Rattle.formula.proofs.Vectors.{field_lawful}

-- `item xs j` depends, up to R, on the w bytes from place j * w on alone
pub record Reads (E : Type 0) (w : ℕ) (item : List ℕ → ℕ → E) (R : E → E → Type 0) : Type 0 where
  pub through : (x y z : E) → R x y → R y z → R x z
  pub front : (xs ys : List ℕ) (j : ℕ) → j * w + w ≤ length xs → R (item (xs ++ ys) j) (item xs j)
  pub behind : (xs ys : List ℕ) (r j : ℕ) → length xs ≡ r * w → R (item (xs ++ ys) (r + j)) (item ys j)
  pub part : (xs : List ℕ) (b c j : ℕ) → j < c → (b + c) * w ≤ length xs → R (item (take (c * w) (drop (b * w) xs)) j) (item xs (b + j))

-- lists that are related element by element
module _ {E : Type 0} (R : E → E → Type 0) where
  pub each_append : (xs ys us vs : List E) → AllZip R xs ys → AllZip R us vs → AllZip R (xs ++ us) (ys ++ vs)
  each_append [] [] us vs e f = f
  each_append [] (y ∷ ys) us vs e f = absurd e
  each_append (x ∷ xs) [] us vs e f = absurd e
  each_append (x ∷ xs) (y ∷ ys) us vs e f = (e.0, each_append xs ys us vs e.1 f)

  pub each_through : ((x y z : E) → R x y → R y z → R x z) → (xs ys zs : List E) → AllZip R xs ys → AllZip R ys zs → AllZip R xs zs
  each_through t [] [] zs e f = f
  each_through t [] (y ∷ ys) zs e f = absurd e
  each_through t (x ∷ xs) [] zs e f = absurd e
  each_through t (x ∷ xs) (y ∷ ys) [] e f = absurd f
  each_through t (x ∷ xs) (y ∷ ys) (z ∷ zs) e f = (t x y z e.0 f.0, each_through t xs ys zs e.1 f.1)

  pub each_from : (f g : ℕ → E) (r p k : ℕ) → ((j : ℕ) → j < k → R (f (r + j)) (g (p + j))) → AllZip R (items_from f r k) (items_from g p k)
  each_from f g r p zero h = tt
  each_from f g r p (suc k) h = (
    subst (λ x. R (f x) (g p)) (here r) (subst (λ y. R (f (r + 0)) (g y)) (here p) (h 0 (omega arith))),
    each_from f g (suc r) (suc p) k
        (λ j l. subst (λ x. R (f x) (g (suc p + j))) (next r j) (subst (λ y. R (f (r + suc j)) (g y)) (next p j) (h (suc j) (omega arith)))),
  )
    where
      here : (a : ℕ) → a + 0 ≡ a
      here a = omega arith

      next : (a j : ℕ) → a + suc j ≡ suc a + j
      next a j = omega arith

pub from_append : {E : Type 0} (f : ℕ → E) (r k c : ℕ) → items_from f r (k + c) ≡ items_from f r k ++ items_from f (r + k) c
from_append f r zero c =
    let e : 0 + c ≡ c = omega arith in
    let h : r ≡ r + 0 = omega arith in
    ap (items_from f r) e ∙ ap (λ x. items_from f x c) h
from_append f r (suc k) c =
    let e : suc k + c ≡ suc (k + c) = omega arith in
    let h : suc r + k ≡ r + suc k = omega arith in
    ap (items_from f r) e ∙ ap (λ l. f r ∷ l) (from_append f (suc r) k c ∙ ap (λ x. items_from f (suc r) k ++ items_from f x c) h)

-- the bytes of element i, as long as its items
length_part : (w : ℕ) (counts items : List ℕ) (i : ℕ) → total counts * w ≤ length items → length (bytes_by w counts items i) ≡ get_or counts i 0 * w
length_part w counts items i all =
    omega (
      arith,
      length-take (get_or counts i 0 * w) (drop (before counts i * w) items),
      length-drop (before counts i * w) items,
      mul-le-mul_right w (items_within counts i),
      add-mul (before counts i) (get_or counts i 0) w,
    )

-- what the bytes xs hold: k items, which are related to hs
abbrev pub Holds : {E : Type 0} → (w : ℕ) → (List ℕ → ℕ → E) → (E → E → Type 0) → (most : ℕ) → List ℕ → List E → Type 0
Holds w item R most xs hs = (k : ℕ) × (length xs ≡ k * w) × (k ≤ most) × AllZip R (items_from (item xs) 0 k) hs

module _ {E : Type 0} {w : ℕ} {item : List ℕ → ℕ → E} {R : E → E → Type 0} (L : Reads E w item R) where
  pub holds_append : (xs ys : List ℕ) (hs gs : List E) (m n : ℕ) → Holds w item R m xs hs → Holds w item R n ys gs
      → Holds w item R (m + n) (xs ++ ys) (hs ++ gs)
  holds_append xs ys hs gs m n (k, lx, km, e) (c, ly, cn, f) = (
    k + c,
    omega (arith, length-append xs ys, add-mul k c w),
    omega arith,
    subst (λ l. AllZip R l (hs ++ gs)) (sym (from_append (item (xs ++ ys)) 0 k c))
        (each_append R (items_from (item (xs ++ ys)) 0 k) hs (items_from (item (xs ++ ys)) (0 + k) c) gs
        (each_through R L.through (items_from (item (xs ++ ys)) 0 k) (items_from (item xs) 0 k) hs
        (each_from R (item (xs ++ ys)) (item xs) 0 0 k (λ j l. fronts (0 + j) (omega arith))) e)
        (each_through R L.through (items_from (item (xs ++ ys)) (0 + k) c) (items_from (item ys) 0 c) gs
        (each_from R (item (xs ++ ys)) (item ys) (0 + k) 0 c (λ j l. backs j)) f)),
  )
    where
      fronts : (j : ℕ) → j < k → R (item (xs ++ ys) j) (item xs j)
      fronts j l = L.front xs ys j (omega (arith, row_fits j w k w l (omega arith)))

      backs : (j : ℕ) → R (item (xs ++ ys) (0 + k + j)) (item ys (0 + j))
      backs j =
          let e : 0 + k ≡ k = omega arith in
          let h : 0 + j ≡ j = omega arith in
          rw (e, h) (L.behind xs ys k j lx)

  module _ (counts items : List ℕ) (all : total counts * w ≤ length items) where
    -- an element's bytes hold its items
    pub part_holds : (i : ℕ) → Holds w item R (get_or counts i 0) (bytes_by w counts items i) (held_by (item items) counts i)
    part_holds i = (
      get_or counts i 0,
      length_part w counts items i all,
      omega arith,
      each_from R (item (bytes_by w counts items i)) (item items) 0 (before counts i) (get_or counts i 0) at,
    )
      where
        at : (j : ℕ) → j < get_or counts i 0 → R (item (bytes_by w counts items i) (0 + j)) (item items (before counts i + j))
        at j l =
            let e : 0 + j ≡ j = omega arith in
            rw e (L.part items (before counts i) (get_or counts i 0) j l (omega (arith, mul-le-mul_right w (items_within counts i))))

    chosen_holds : (b : Bool) (i : ℕ) → Holds w item R (get_or counts i 0) (cond b (bytes_by w counts items i) []) (cond b (held_by (item items) counts i) [])
    chosen_holds true i = part_holds i
    chosen_holds false i = (0, omega arith, omega arith, tt)

    -- the bytes of the members below i hold their items
    pub members_hold : (s i : ℕ) → Holds w item R (before counts i) (members (bytes_by w counts items) i s) (members (held_by (item items) counts) i s)
    members_hold s zero = (0, omega arith, omega arith, tt)
    members_hold s (suc i) =
        rw before_next
        (holds_append (members (bytes_by w counts items) i s) (cond (has s i) (bytes_by w counts items i) [])
        (members (held_by (item items) counts) i s) (cond (has s i) (held_by (item items) counts i) [])
        (before counts i) (get_or counts i 0) (members_hold s i) (chosen_holds (has s i) i))

    pub gathered_holds : (s : ℕ) → Holds w item R (total counts) (bytes_by_all w counts items s) (held_by_all (item items) counts s)
    gathered_holds s = rw before_all at (members_hold s (length counts))

    -- by the number of items that the bytes are
    pub gathered : (s : ℕ) → 1 ≤ w → AllZip R (items_from (item (bytes_by_all w counts items s)) 0 (length (bytes_by_all w counts items s) / w)) (held_by_all (item items) counts s)
    gathered s h =
        let r = gathered_holds s in
        let e : length (bytes_by_all w counts items s) / w ≡ r.0 = ap (λ n. n / w) r.1 ∙ mul-div_left r.0 h in
        subst (λ k. AllZip R (items_from (item (bytes_by_all w counts items s)) 0 k) (held_by_all (item items) counts s)) (sym e) r.3

-- the bytes of any set's members are whole items, and no more than there are
pub gathered_length : (w : ℕ) (counts items : List ℕ) (s : ℕ) → total counts * w ≡ length items
    → (k : ℕ) × (length (bytes_by_all w counts items s) ≡ k * w) × (k ≤ total counts)
gathered_length w counts items s all = let r = gathered_holds nothing counts items (omega arith) s in (r.0, r.1, r.2)
  where
    nothing : Reads (Unit {0}) w (λ xs j. tt) (λ x y. Unit {0})
    nothing = record {
      through = λ x y z e f. tt;
      front = λ xs ys j l. tt;
      behind = λ xs ys r j e. tt;
      part = λ xs b c j l h. tt;
    }

pub gathered_within : (w : ℕ) (counts items : List ℕ) (s : ℕ) → total counts * w ≡ length items → length (bytes_by_all w counts items s) ≤ length items
gathered_within w counts items s all =
    let r = gathered_length w counts items s all in omega (arith, mul-le-mul_right w r.2, r.1)

-- byte k of an item of w bytes, in bytes that are put together or taken out
behind_at : (w : ℕ) (xs ys : List ℕ) (r j k : ℕ) → length xs ≡ r * w → get_or (xs ++ ys) ((r + j) * w + k) 0 ≡ get_or ys (j * w + k) 0
behind_at w xs ys r j k e =
    let h : (r + j) * w + k ≡ length xs + (j * w + k) = omega (arith, add-mul r j w) in
    ap (λ p. get_or (xs ++ ys) p 0) h ∙ get_or-append-add xs ys (j * w + k) 0

part_at : (w : ℕ) (xs : List ℕ) (b c j k : ℕ) → j < c → k < w → get_or (take (c * w) (drop (b * w) xs)) (j * w + k) 0 ≡ get_or xs ((b + j) * w + k) 0
part_at w xs b c j k l h =
    let e : b * w + (j * w + k) ≡ (b + j) * w + k = omega (arith, add-mul b j w) in
    get_or-take (c * w) (drop (b * w) xs) (j * w + k) 0 (omega (arith, row_fits j w c w l (omega arith))) ∙ get_or-drop (b * w) xs (j * w + k) 0
    ∙ ap (λ p. get_or xs p 0) e

-- edges: equal
edge_reads : Reads Edge 2 edge_at ◌≡◌
edge_reads = record {
  through = λ x y z e f. e ∙ f;
  front = λ xs ys j l. pair (get_or_append_left xs ys 0 (j * 2) (omega arith)) (get_or_append_left xs ys 0 (j * 2 + 1) (omega arith));
  behind = λ xs ys r j e. pair (simp add-zero at (behind_at 2 xs ys r j 0 e)) (behind_at 2 xs ys r j 1 e);
  part = λ xs b c j l h. pair (simp add-zero at (part_at 2 xs b c j 0 l (omega arith))) (part_at 2 xs b c j 1 l (omega arith));
}
  where
    pair : {a b c d : ℕ} → a ≡ b → c ≡ d → ◌≡◌ {A = Edge} (a, c) (b, d)
    pair e f = ap₂ (λ (x y : ℕ). (x, y)) e f

pub gathered_edges : (counts ends : List ℕ) (s : ℕ) → total counts * 2 ≡ length ends
    → items_from (edge_at (bytes_by_all 2 counts ends s)) 0 (length (bytes_by_all 2 counts ends s) / 2) ≡ held_by_all (edge_at ends) counts s
gathered_edges counts ends s all =
    let bytes = bytes_by_all 2 counts ends s in
    sym (same_from_all_zip ◌≡◌ (items_from (edge_at bytes) 0 (length bytes / 2)) (held_by_all (edge_at ends) counts s)
    (gathered edge_reads counts ends (omega arith) s (omega arith)) (λ x y e. sym e))

-- vectors: the same codes at the places below d
abbrev pub Alike : ℕ → Vector → Vector → Type 0
Alike d u v = (k : ℕ) → k < d → u k ≡ v k

vector_reads : (d : ℕ) → Reads Vector d (λ xs j. row xs d j) (Alike d)
vector_reads d = record {
  through = λ x y z e f k h. e k h ∙ f k h;
  front = λ xs ys j l k h. get_or_append_left xs ys 0 (j * d + k) (omega arith);
  behind = λ xs ys r j e k h. behind_at d xs ys r j k e;
  part = λ xs b c j l m k h. part_at d xs b c j k l h;
}

alike_back : (d : ℕ) (us ws : List Vector) → AllZip (Alike d) us ws → AllZip (Alike d) ws us
alike_back d [] [] e = tt
alike_back d [] (w ∷ ws) e = absurd e
alike_back d (u ∷ us) [] e = absurd e
alike_back d (u ∷ us) (w ∷ ws) e = ((λ k h. sym (e.0 k h)), alike_back d us ws e.1)

module _ (o : Ops) (L : Lawful o) (d : ℕ) where
  alike_in : (us ws : List Vector) → AllZip (Alike d) us ws → (u : Vector) → Memᴰ u us → InSpan o d u ws
  alike_in [] ws e u m = absurd (Memᴰ.not-nil m)
  alike_in (x ∷ us) [] e u m = absurd e
  alike_in (x ∷ us) (w ∷ ws) e u m = elim (Memᴰ.cases_cons m) [
    | inl i ↦ subst (λ (y : Vector). InSpan o d y (w ∷ ws)) (sym i)
        (in_like o L d (w ∷ ws) w x (λ k h. ap (code o.order) (sym (e.0 k h))) (in_own o L d ws w))
    | inr j ↦ in_more o L d ws u w (alike_in us ws e.1 u j)
  ]

  -- lists of vectors with the same codes have one dimension
  pub alike_dimension : (us ws : List Vector) → AllZip (Alike d) us ws → dimension o d us ≡ dimension o d ws
  alike_dimension us ws e =
      span_decides o L d us ws (same_of o L d us ws (alike_in us ws e) (alike_in ws us (alike_back d us ws e)))

rows_from_items : (m : List ℕ) (d r n : ℕ) → rows_from m d r n ≡ items_from (row m d) r n
rows_from_items m d r zero = refl
rows_from_items m d r (suc n) = ap (λ l. row m d r ∷ l) (rows_from_items m d (suc r) n)

pub gathered_vectors : (q d : ℕ) (counts codes : List ℕ) (s : ℕ) → is_order q ≡ true → 1 ≤ d → total counts * d ≡ length codes
    → dimension (field_of q) d (vectors_in (bytes_by_all d counts codes s) d) ≡ dimension (field_of q) d (held_by_all (row codes d) counts s)
gathered_vectors q d counts codes s h l all =
    let bytes = bytes_by_all d counts codes s in
    ap (dimension (field_of q) d) (rows_from_items bytes d 0 (length bytes / d))
    ∙ alike_dimension (field_of q) (field_lawful q h) d (items_from (row bytes d) 0 (length bytes / d)) (held_by_all (row codes d) counts s)
    (gathered (vector_reads d) counts codes (omega arith) s l)

-- whole vectors fit, where they are few and narrow
whole_fits : (n k d : ℕ) → n ≡ k * d → 1 ≤ d → d ≤ 16 → k ≤ 32 → fits n d ≡ true
whole_fits n k d e l h few =
    let none : n % d ≡ 0 = ap (λ x. x % d) e ∙ mul-mod_left k d in
    let is : n / d ≡ k = ap (λ x. x / d) e ∙ mul-div_left k l in
    and_from (leb 1 d && leb d 16 && eqb (n % d) 0) (leb (n / d) 32)
    (and_from (leb 1 d && leb d 16) (eqb (n % d) 0) (and_from (leb 1 d) (leb d 16) (le-leb 1 d l) (le-leb d 16 h)) (eq-eqb (n % d) 0 none))
    (le-leb (n / d) 32 (omega arith))

pub gathered_fits : (q d : ℕ) (counts codes : List ℕ) (s : ℕ) → is_order q ≡ true → 1 ≤ d → d ≤ 16 → total counts ≤ 32 → total counts * d ≡ length codes
    → rank_of (field_of q) (bytes_by_all d counts codes s) d ≡ Some (dimension (field_of q) d (held_by_all (row codes d) counts s))
gathered_fits q d counts codes s h l narrow few all =
    let bytes = bytes_by_all d counts codes s in
    let r = gathered_length d counts codes s all in
    cond-true (fits (length bytes) d) (Some (dimension (field_of q) d (vectors_in bytes d))) None
    (whole_fits (length bytes) r.0 d r.1 l narrow (omega (arith, r.2)))
    ∙ ap Some (gathered_vectors q d counts codes s h l all)
