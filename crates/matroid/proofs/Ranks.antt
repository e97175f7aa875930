-- The rank of a closure test: order, closure, growth, diminishing returns. Assumes nothing.
use mathlib.Core.Path.{◌≡◌, refl, sym, ap, subst, ◌∙◌}
use mathlib.Core.Bool.{Bool, true, false, cond}
use mathlib.Core.List.Memᴰ
use mathlib.Core.List.{List, [], ◌∷◌, ◌++◌, Memᴰ}
use Prim.Native.Nat.{◌+◌, ◌≤◌}
use native.Mathlib.Omega.{arith}
use lib.Dec.{T}
use lib.ListN.{length}
use Rattle.std.proofs.lemmas.List.{append-nil}
use Rattle.matroid.specs.Closure.{Among, Spanned, Closure, Independent, rank}
use Rattle.matroid.specs.Theorems.{RankLaws}
use Rattle.matroid.proofs.Lists.{first_or, in_both}

-- a test that holds more often counts less
pub less_gain : (x y : Bool) → (T x → T y) → ◌≤◌ (cond y 0 1) (cond x 0 1)
less_gain true true f = omega arith
less_gain true false f = absurd (f tt)
less_gain false true f = omega arith
less_gain false false f = omega arith

-- lists with the same elements
pub front : {E : Type 0} (y : E) (xs ys : List E) → Among (xs ++ (y ∷ ys)) (y ∷ (xs ++ ys))
front y xs ys =
    in_both (λ x. Memᴰ x (y ∷ (xs ++ ys))) xs (y ∷ ys) (λ x m. Memᴰ.tail (Memᴰ.append_left ys m))
    (first_or (λ x. Memᴰ x (y ∷ (xs ++ ys))) y ys (Memᴰ.head refl) (λ x m. Memᴰ.tail (Memᴰ.append_right xs m)))

pub front_back : {E : Type 0} (y : E) (xs ys : List E) → Among (y ∷ (xs ++ ys)) (xs ++ (y ∷ ys))
front_back y xs ys =
    first_or (λ x. Memᴰ x (xs ++ (y ∷ ys))) y (xs ++ ys) (Memᴰ.append_right xs (Memᴰ.head refl))
    (in_both (λ x. Memᴰ x (xs ++ (y ∷ ys))) xs ys (λ x m. Memᴰ.append_left (y ∷ ys) m) (λ x m. Memᴰ.append_right xs (Memᴰ.tail m)))

pub turned : {E : Type 0} (xs ys : List E) → Among (xs ++ ys) (ys ++ xs)
turned xs ys = in_both (λ x. Memᴰ x (ys ++ xs)) xs ys (λ x m. Memᴰ.append_right ys m) (λ x m. Memᴰ.append_left xs m)

-- the same list in front of both
pub under : {E : Type 0} (zs xs ys : List E) → Among xs ys → Among (zs ++ xs) (zs ++ ys)
under zs xs ys i = in_both (λ x. Memᴰ x (zs ++ ys)) zs xs (λ x m. Memᴰ.append_left ys m) (λ x m. Memᴰ.append_right zs (i x m))

module _ {E : Type 0} {cl : E → List E → Bool} (L : Closure E cl) where
  pub wider : (a : E) (xs ys : List E) → Among xs ys → T (cl a xs) → T (cl a ys)
  wider a xs ys i t = L.transitive a xs ys t (λ x m. L.member x ys (i x m))

  pub cut : (a b : E) (ws : List E) → T (cl b ws) → T (cl a (b ∷ ws)) → T (cl a ws)
  cut a b ws t s = L.transitive a (b ∷ ws) ws s (first_or (λ x. T (cl x ws)) b ws t (λ x m. L.member x ws m))

  more : (a b : E) (ws : List E) → T (cl a ws) → T (cl a (b ∷ ws))
  more a b ws = wider a ws (b ∷ ws) (λ x m. Memᴰ.tail m)

  swap_less : (a b : E) (ws : List E) → rank cl (a ∷ b ∷ ws) ≤ rank cl (b ∷ a ∷ ws)
  swap_less a b ws = go (cl a ws) (cl b ws) (cl a (b ∷ ws)) (cl b (a ∷ ws)) (more a b ws) (cut b a ws) (L.exchange b a ws)
    where
      go : (x y u w : Bool) → (T x → T u) → (T x → T w → T y) → ((T y → ⊥) → T w → T u)
          → rank cl ws + cond y 0 1 + cond u 0 1 ≤ rank cl ws + cond x 0 1 + cond w 0 1
      go true y u w f g h = omega (arith, less_gain true u f, less_gain w y (g tt))
      go false true u w f g h = omega (arith, less_gain false u (λ z. absurd z))
      go false false u w f g h = omega (arith, less_gain w u (h (λ z. z)))

  pub rank_swap : (a b : E) (ws : List E) → rank cl (a ∷ b ∷ ws) ≡ rank cl (b ∷ a ∷ ws)
  rank_swap a b ws = omega (arith, swap_less a b ws, swap_less b a ws)

  -- a first element counts the same before two lists with the same elements
  step : (a : E) (xs ys : List E) → Among xs ys → Among ys xs → rank cl xs ≡ rank cl ys → rank cl (a ∷ xs) ≡ rank cl (a ∷ ys)
  step a xs ys i j e = omega (arith, e, less_gain (cl a xs) (cl a ys) (wider a xs ys i), less_gain (cl a ys) (cl a xs) (wider a ys xs j))

  pub rank_front : (y : E) (xs ys : List E) → rank cl (xs ++ (y ∷ ys)) ≡ rank cl (y ∷ (xs ++ ys))
  rank_front y [] ys = refl
  rank_front y (x ∷ xs) ys =
      step x (xs ++ (y ∷ ys)) (y ∷ (xs ++ ys)) (front y xs ys) (front_back y xs ys) (rank_front y xs ys) ∙ rank_swap x y (xs ++ ys)

  pub rank_turned : (xs ys : List E) → rank cl (xs ++ ys) ≡ rank cl (ys ++ xs)
  rank_turned [] ys = sym (ap (rank cl) (append-nil ys))
  rank_turned (x ∷ xs) ys =
      step x (xs ++ ys) (ys ++ xs) (turned xs ys) (turned ys xs) (rank_turned xs ys) ∙ sym (rank_front x ys xs)

  -- elements of the closure add nothing
  pub rank_closed : (xs ys : List E) → Spanned cl xs ys → rank cl (xs ++ ys) ≡ rank cl ys
  rank_closed [] ys s = refl
  rank_closed (x ∷ xs) ys s =
      let inside = wider x ys (xs ++ ys) (λ z m. Memᴰ.append_right xs m) (s x (Memᴰ.head refl)) in
      omega (arith, rank_closed xs ys (λ z m. s z (Memᴰ.tail m)), less_gain true (cl x (xs ++ ys)) (λ _. inside))

  -- lists with the same closure have the same rank
  pub rank_same : (xs ys : List E) → Spanned cl xs ys → Spanned cl ys xs → rank cl xs ≡ rank cl ys
  rank_same xs ys s t = sym (rank_closed ys xs t) ∙ rank_turned ys xs ∙ rank_closed xs ys s

  spanned : (xs ys : List E) → Among xs ys → Spanned cl xs ys
  spanned xs ys i x m = L.member x ys (i x m)

  -- lists with the same elements have the same rank: order and repetition do not count
  pub rank_order : (xs ys : List E) → Among xs ys → Among ys xs → rank cl xs ≡ rank cl ys
  rank_order xs ys i j = rank_same xs ys (spanned xs ys i) (spanned ys xs j)

  rank_longer : (zs xs : List E) → rank cl xs ≤ rank cl (zs ++ xs)
  rank_longer [] xs = omega arith
  rank_longer (z ∷ zs) xs = omega (arith, rank_longer zs xs)

  -- a list whose elements are in the closure of another has no higher rank
  pub rank_spanned : (xs ys : List E) → Spanned cl xs ys → rank cl xs ≤ rank cl ys
  rank_spanned xs ys s = omega (arith, rank_longer ys xs, rank_turned ys xs, rank_closed xs ys s)

  pub rank_within : (xs ys : List E) → Among xs ys → rank cl xs ≤ rank cl ys
  rank_within xs ys i = rank_spanned xs ys (spanned xs ys i)

  -- diminishing returns
  pub rank_less : (zs xs ys : List E) → Among xs ys → rank cl (zs ++ ys) + rank cl xs ≤ rank cl (zs ++ xs) + rank cl ys
  rank_less [] xs ys i = omega arith
  rank_less (z ∷ zs) xs ys i =
      omega (
        arith,
        rank_less zs xs ys i,
        less_gain (cl z (zs ++ xs)) (cl z (zs ++ ys)) (wider z (zs ++ xs) (zs ++ ys) (under zs xs ys i)),
      )

  -- an independent list counts in full
  independent_rank : (us : List E) → Independent cl us → length us ≡ rank cl us
  independent_rank [] i = refl
  independent_rank (u ∷ us) i = omega (arith, independent_rank us i.1, less_gain (cl u us) false i.0, less_gain false (cl u us) (λ z. absurd z))

  pub rank_length : (us ws : List E) → Independent cl us → Spanned cl us ws → Spanned cl ws us → length us ≡ rank cl ws
  rank_length us ws i s t = independent_rank us i ∙ rank_same us ws s t

  -- an element of the closure of those behind it is left out
  pub basis : (ws : List E) → (us : List E) × Independent cl us × Among us ws × Spanned cl ws us
  basis [] = ([], tt, (λ x m. m), (λ x m. absurd (Memᴰ.not-nil m)))
  basis (w ∷ ws) = go (cl w ws) refl (basis ws)
    where
      go : (b : Bool) → cl w ws ≡ b → (us : List E) × Independent cl us × Among us ws × Spanned cl ws us
          → (us : List E) × Independent cl us × Among us (w ∷ ws) × Spanned cl (w ∷ ws) us
      go true e (us, i, a, s) = (
        us,
        i,
        (λ x m. Memᴰ.tail (a x m)),
        first_or (λ x. T (cl x us)) w ws (L.transitive w ws us (subst T (sym e) tt) s) s,
      )
      go false e (us, i, a, s) = (
        w ∷ us,
        ((λ t. subst T e (wider w us ws a t)), i),
        first_or (λ x. Memᴰ x (w ∷ ws)) w us (Memᴰ.head refl) (λ x m. Memᴰ.tail (a x m)),
        first_or (λ x. T (cl x (w ∷ us))) w ws (L.member w (w ∷ us) (Memᴰ.head refl)) (λ x m. more x w us (s x m)),
      )

  pub rank_laws : RankLaws E cl
  rank_laws = record {
    weaken = wider;
    length_is = rank_length;
    basis = basis;
    same = rank_same;
    order = rank_order;
    closed = rank_closed;
    spanned = rank_spanned;
    diminishing = rank_less;
  }
