-- Vectors over a field: linear combinations, spans, independence. A vector is its codes by place. Assumes nothing.
use Rattle.std.specs.Prelude.{◌≡◌, ℕ, suc, ◌<◌, List, [], ◌∷◌, length}
use Rattle.field.specs.Laws.{Ops, code}

abbrev pub Vector : Type 0
Vector = ℕ → ℕ

-- the sum of the vectors, each times its coefficient, at place k
abbrev pub combination : Ops → (ℕ → ℕ) → List Vector → ℕ → ℕ
combination o cs [] k = 0
combination o cs (w ∷ ws) k = o.add (o.mul (cs 0) (w k)) (combination o (λ i. cs (suc i)) ws k)

-- over d places: v is a linear combination of ws
abbrev pub InSpan : Ops → ℕ → Vector → List Vector → Type 0
InSpan o d v ws = (cs : ℕ → ℕ) × ((k : ℕ) → k < d → code o.order (v k) ≡ combination o cs ws k)

-- us and ws have the same linear combinations
abbrev pub SameSpan : Ops → ℕ → List Vector → List Vector → Type 0
SameSpan o d us ws = (v : Vector) → (InSpan o d v us → InSpan o d v ws) × (InSpan o d v ws → InSpan o d v us)

-- only coefficients 0 combine ws to 0
abbrev pub Independent : Ops → ℕ → List Vector → Type 0
Independent o d ws =
    (cs : ℕ → ℕ) → ((k : ℕ) → k < d → combination o cs ws k ≡ 0) → (i : ℕ) → i < length ws → code o.order (cs i) ≡ 0
