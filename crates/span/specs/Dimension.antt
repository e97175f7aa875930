-- Spans and dimensions by computation. Assumes nothing.
use Rattle.std.specs.Prelude.{ℕ, zero, suc, Bool, false, ◌||◌, List, [], ◌∷◌, nat_eq}
use Rattle.field.specs.Laws.{Ops, code}
use Rattle.polymatroid.specs.Tests.{all_below}
use Rattle.matroid.specs.Closure.{rank}
use Rattle.span.specs.Span.{Vector}

-- the test passes at some number below k
abbrev pub some_below : ℕ → (ℕ → Bool) → Bool
some_below zero test = false
some_below (suc k) test = test k || some_below k test

-- x - c y
abbrev pub less : Ops → ℕ → ℕ → ℕ → ℕ
less o c x y = o.add x (o.neg (o.mul c y))

-- v - c w
abbrev pub minus : Ops → Vector → ℕ → Vector → Vector
minus o v c w k = less o c (v k) (w k)

-- v is in the span if, less some multiple of the first vector, it is in the span of the others
abbrev pub in_span : Ops → ℕ → Vector → List Vector → Bool
in_span o d v [] = all_below d (λ k. nat_eq (code o.order (v k)) 0)
in_span o d v (w ∷ ws) = some_below o.order (λ c. in_span o d (minus o v c w) ws)

-- how many of the vectors are not in the span of those behind them
abbrev pub dimension : Ops → ℕ → List Vector → ℕ
dimension o d ws = rank (in_span o d) ws
