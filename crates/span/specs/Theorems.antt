-- What is proved of spans and dimensions over every field. Assumes nothing.
use Rattle.std.specs.Prelude.{◌≡◌, ℕ, ◌+◌, List, ◌++◌, length, Decides}
use mathlib.Core.List.{Memᴰ}
use Rattle.field.specs.Laws.{Ops}
use Rattle.polymatroid.specs.Polymatroid.{Polymatroid}
use Rattle.matroid.specs.Closure.{Among}
use Rattle.matroid.specs.Members.{members}
use Rattle.span.specs.Span.{Vector, InSpan, SameSpan, Independent}
use Rattle.span.specs.Dimension.{in_span, dimension}

-- the test tells which vectors are linear combinations
abbrev pub SpanDecided : Ops → Type 0
SpanDecided o = (d : ℕ) (v : Vector) (ws : List Vector) → Decides (in_span o d v ws) (InSpan o d v ws)

-- exchange: independent lists with the same span have one length
abbrev pub OneLength : Ops → Type 0
OneLength o = (d : ℕ) (us ws : List Vector) → Independent o d us → Independent o d ws → SameSpan o d us ws → length us ≡ length ws

-- the dimension is the length of every independent list with the same span
abbrev pub LengthIsDimension : Ops → Type 0
LengthIsDimension o = (d : ℕ) (us ws : List Vector) → Independent o d us → SameSpan o d us ws → length us ≡ dimension o d ws

-- some of the vectors are such a list
abbrev pub HasBasis : Ops → Type 0
HasBasis o = (d : ℕ) (ws : List Vector) → (us : List Vector) × Among us ws × Independent o d us × SameSpan o d us ws

-- the dimension depends on the span alone
abbrev pub SpanDecides : Ops → Type 0
SpanDecides o = (d : ℕ) (us ws : List Vector) → SameSpan o d us ws → dimension o d us ≡ dimension o d ws

-- and not on the order of the vectors, nor on how often one stands there
abbrev pub OrderIsFree : Ops → Type 0
OrderIsFree o = (d : ℕ) (us ws : List Vector) → Among us ws → Among ws us → dimension o d us ≡ dimension o d ws

-- vectors of the span add nothing
abbrev pub SpanAddsNothing : Ops → Type 0
SpanAddsNothing o =
    (d : ℕ) (us ws : List Vector) → ((u : Vector) → Memᴰ u us → InSpan o d u ws) → dimension o d (us ++ ws) ≡ dimension o d ws

-- as a function of which vectors are present the dimension is monotone and submodular
abbrev pub DimensionsPolymatroid : Ops → Type 0
DimensionsPolymatroid o =
    (d : ℕ) (part : ℕ → List Vector) (n : ℕ) → Polymatroid n (λ s. dimension o d (members part (n + 1) s))
