-- Graphs as lists of edges between numbered nodes: paths, a test for them that computes, and the number of connected parts.
-- Assumes nothing.
use Rattle.std.specs.Prelude.{◌≡◌, Bool, cond, not, ◌||◌, ◌&&◌, ℕ, zero, suc, ◌+◌, ◌<◌, T, eqb}
use mathlib.Core.List.{List, [], ◌∷◌, Memᴰ}
use Rattle.polymatroid.specs.Tests.{all_below}

abbrev pub Edge : Type 0
Edge = ℕ × ℕ

-- a walk along edges, each in either direction
pub data Path (es : List Edge) : ℕ → ℕ → Type 0 where
  stay : {a b : ℕ} → a ≡ b → Path es a b
  along : {a b c : ℕ} → Memᴰ (a, b) es → Path es b c → Path es a c
  against : {a b c : ℕ} → Memᴰ (b, a) es → Path es b c → Path es a c

-- a and b are in one part: they were without the first edge, or it joins their parts
abbrev pub joined : List Edge → ℕ → ℕ → Bool
joined [] a b = eqb a b
joined (e ∷ es) a b = joined es a b || ((joined es a e.0 && joined es e.1 b) || (joined es a e.1 && joined es e.0 b))

-- an edge is in the closure of edges that join its ends
abbrev pub cl : Edge → List Edge → Bool
cl e es = joined es e.0 e.1

-- how many numbers below n pass the test
abbrev pub count : ℕ → (ℕ → Bool) → ℕ
count zero f = 0
count (suc n) f = count n f + cond (f n) 1 0

-- b is related to no smaller number
abbrev pub least : (ℕ → ℕ → Bool) → ℕ → Bool
least r b = all_below b (λ a. not (r a b))

-- the number of connected parts of the graph on the nodes below v: each part is counted at its smallest node
abbrev pub parts : ℕ → List Edge → ℕ
parts v es = count v (least (joined es))

-- the ends of each edge are below v
abbrev pub Inside : ℕ → List Edge → Type 0
Inside v es = (e : Edge) → Memᴰ e es → (e.0 < v) × (e.1 < v)

-- the test is right: it says yes to the ends of paths, and to nothing else
abbrev pub JoinedIsPath : Type 0
JoinedIsPath = (es : List Edge) (a b : ℕ) → (T (joined es a b) → Path es a b) × (Path es a b → T (joined es a b))

-- each node below v is joined to exactly one node that is counted
pub record Classes (v : ℕ) (es : List Edge) (b : ℕ) : Type 0 where
  pub node : ℕ
  pub below : node < v
  pub counted : T (least (joined es) node)
  pub of : T (joined es node b)
  pub only : (m : ℕ) → T (least (joined es) m) → T (joined es m b) → m ≡ node

abbrev pub PartsAreClasses : Type 0
PartsAreClasses = (v : ℕ) (es : List Edge) (b : ℕ) → b < v → Classes v es b

-- an edge between two parts makes them one; an edge within a part changes nothing
abbrev pub EdgeJoins : Type 0
EdgeJoins = (v : ℕ) (e : Edge) (es : List Edge) → e.0 < v → e.1 < v → parts v es ≡ parts v (e ∷ es) + cond (cl e es) 0 1
