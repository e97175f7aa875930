-- Closure tests, independent lists, and the rank that a closure test counts. Assumes nothing.
use Rattle.std.specs.Prelude.{Bool, cond, ℕ, ◌+◌, T}
use mathlib.Core.List.{List, [], ◌∷◌, Memᴰ}

-- each element of the one list stands in the other
abbrev pub Among : {E : Type 0} → List E → List E → Type 0
Among {E} xs ys = (x : E) → Memᴰ x xs → Memᴰ x ys

-- each element of the one list is in the closure of the other; `cl a ws` tests whether a is in the closure of ws
abbrev pub Spanned : {E : Type 0} → (E → List E → Bool) → List E → List E → Type 0
Spanned {E} cl xs ys = (x : E) → Memᴰ x xs → T (cl x ys)

pub record Closure (E : Type 0) (cl : E → List E → Bool) : Type 0 where
  -- a list's elements are in its closure
  pub member : (a : E) (ws : List E) → Memᴰ a ws → T (cl a ws)
  -- what is in the closure of elements of a closure is in that closure
  pub transitive : (a : E) (xs ys : List E) → T (cl a xs) → Spanned cl xs ys → T (cl a ys)
  -- if b brings a in, then a brings b in
  pub exchange : (a b : E) (ws : List E) → (T (cl a ws) → ⊥) → T (cl a (b ∷ ws)) → T (cl b (a ∷ ws))

-- no element is in the closure of those behind it
abbrev pub Independent : {E : Type 0} → (E → List E → Bool) → List E → Type 0
Independent cl [] = Unit {0}
Independent cl (w ∷ ws) = (T (cl w ws) → ⊥) × Independent cl ws

-- how many elements are not in the closure of those behind them
abbrev pub rank : {E : Type 0} → (E → List E → Bool) → List E → ℕ
rank cl [] = 0
rank cl (w ∷ ws) = rank cl ws + cond (cl w ws) 0 1
