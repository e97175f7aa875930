-- What is proved of the rank that a closure test counts. Assumes nothing.
use Rattle.std.specs.Prelude.{◌≡◌, Bool, List, ◌++◌, ℕ, ◌+◌, ◌≤◌, T, length}
use Rattle.polymatroid.specs.Polymatroid.{Polymatroid}
use Rattle.matroid.specs.Closure.{Among, Spanned, Closure, Independent, rank}
use Rattle.matroid.specs.Members.{members}

pub record RankLaws (E : Type 0) (cl : E → List E → Bool) : Type 0 where
  -- weakening: more elements have no smaller closure
  pub weaken : (a : E) (xs ys : List E) → Among xs ys → T (cl a xs) → T (cl a ys)
  -- an independent list with the same closure has as many elements as the rank counts, whichever it is
  pub length_is : (us ws : List E) → Independent cl us → Spanned cl us ws → Spanned cl ws us → length us ≡ rank cl ws
  -- and there is one among the elements
  pub basis : (ws : List E) → (us : List E) × Independent cl us × Among us ws × Spanned cl ws us
  -- lists with the same closure have the same rank
  pub same : (xs ys : List E) → Spanned cl xs ys → Spanned cl ys xs → rank cl xs ≡ rank cl ys
  -- order and repetition do not count
  pub order : (xs ys : List E) → Among xs ys → Among ys xs → rank cl xs ≡ rank cl ys
  -- elements of the closure add nothing
  pub closed : (xs ys : List E) → Spanned cl xs ys → rank cl (xs ++ ys) ≡ rank cl ys
  -- what is in the closure has no higher rank
  pub spanned : (xs ys : List E) → Spanned cl xs ys → rank cl xs ≤ rank cl ys
  -- more elements gain no more by what is added to them
  pub diminishing : (zs xs ys : List E) → Among xs ys → rank cl (zs ++ ys) + rank cl xs ≤ rank cl (zs ++ xs) + rank cl ys

-- each closure test has such a rank
abbrev pub RanksLawful : Type 0 → Type 0
RanksLawful E = (cl : E → List E → Bool) → Closure E cl → RankLaws E cl

-- the rank of what the elements of a set hold is a polymatroid
abbrev pub RanksPolymatroid : Type 0 → Type 0
RanksPolymatroid E =
    (cl : E → List E → Bool) → Closure E cl → (part : ℕ → List E) (n : ℕ) → Polymatroid n (λ s. rank cl (members part (n + 1) s))
