-- A rank function with its number of participants. Assumes nothing.
use Rattle.std.specs.Prelude.{ℕ, ◌+◌, ◌*◌, min}

pub record Ranking : Type 0 where
  pub n : ℕ
  pub rank : ℕ → ℕ

-- a times the one and b times the other, on the smaller ground set
abbrev pub weighted : (a b : ℕ) → Ranking → Ranking → Ranking
weighted a b x y = record { n = min x.n y.n; rank = λ s. a * x.rank s + b * y.rank s }
