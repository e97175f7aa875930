-- Vectors that stand one after another, and the rows on which elimination works. Assumes nothing.
use Rattle.std.specs.Prelude.{◌≡◌, ℕ, zero, suc, ◌+◌, ◌*◌, ◌<◌, ◌≤◌, List, [], ◌∷◌, ◌++◌, length, map, not, ◌==◌, Bool, slice_index, slice_index_or}
use Rattle.field.specs.Laws.{Ops, code}
use Rattle.span.specs.Span.{Vector, SameSpan}

-- the code at column k of row r, where rows of d codes stand one after another
abbrev pub row : List ℕ → ℕ → ℕ → Vector
row m d r k = slice_index m (r * d + k)

-- n rows from r on
abbrev pub rows_from : List ℕ → ℕ → ℕ → ℕ → List Vector
rows_from m d r zero = []
rows_from m d r (suc n) = row m d r ∷ rows_from m d (suc r) n

-- the rows as vectors
abbrev pub vectors : List (List ℕ) → List Vector
vectors rows = map slice_index rows

-- the code at column k of the i-th of the rows
abbrev pub entry : List (List ℕ) → ℕ → Vector
entry rows i k = slice_index (slice_index_or rows i []) k

-- the row is not 0 at column c
abbrev pub nonzero_at : Ops → ℕ → List ℕ → Bool
nonzero_at o c r = not (code o.order (slice_index r c) == 0)

-- the row is 0 left of column c
abbrev pub ZeroLeft : Ops → ℕ → List ℕ → Type 0
ZeroLeft o c r = (k : ℕ) → k < c → code o.order (slice_index r k) ≡ 0

-- the first d codes of the i-th row are those of the vector v i
abbrev pub RowsAre : ℕ → (ℕ → Vector) → List (List ℕ) → Type 0
RowsAre d v rows = (i k : ℕ) → i < length rows → k < d → entry rows i k ≡ v i k

-- over the first d columns, for any d up to w, the rows span what they did, whatever rows stand above them
abbrev pub SpanKept : Ops → ℕ → (rows rows' : List (List ℕ)) → Type 0
SpanKept o w rows rows' = (above : List (List ℕ)) (d : ℕ) → d ≤ w → SameSpan o d (vectors (above ++ rows)) (vectors (above ++ rows'))
