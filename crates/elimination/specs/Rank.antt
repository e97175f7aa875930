-- The rank of vectors that stand one after another. Assumes nothing.
use Rattle.std.specs.Prelude.{◌≡◌, ℕ, ◌/◌, ◌%◌, Bool, cond, ◌&&◌, List, length, Some, None, Option, ◌==◌, nat_le}
use Rattle.field.specs.Laws.{Ops}
use Rattle.span.specs.Span.{Vector, Independent, SameSpan}
use Rattle.span.specs.Dimension.{dimension}
use Rattle.elimination.specs.Rows.{rows_from}

-- n codes are at most 32 whole vectors of d codes, with d from 1 to 16
abbrev pub fits : ℕ → ℕ → Bool
fits n d = nat_le 1 d && nat_le d 16 && n % d == 0 && nat_le (n / d) 32

-- how many vectors n codes are, where they fit
abbrev pub count_in : ℕ → ℕ → Option ℕ
count_in n d = cond (fits n d) (Some (n / d)) None

-- the vectors of d codes that stand one after another
abbrev pub vectors_in : List ℕ → ℕ → List Vector
vectors_in m d = rows_from m d 0 (length m / d)

-- the dimension of their span; none where they do not fit
abbrev pub rank_of : Ops → List ℕ → ℕ → Option ℕ
rank_of o m d = cond (fits (length m) d) (Some (dimension o d (vectors_in m d))) None

-- a rank is the length of every independent list with the same span
abbrev pub CountsBasis : Ops → List ℕ → ℕ → Option ℕ → Type 0
CountsBasis o m d r = (n : ℕ) → r ≡ Some n → (us : List Vector) → Independent o d us → SameSpan o d us (vectors_in m d) → length us ≡ n
