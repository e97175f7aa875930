-- What the elements of a set hold, the set given by its code. Assumes nothing.
use Rattle.std.specs.Prelude.{Bool, cond, List, [], ◌++◌, ℕ, zero, suc, ◌/◌, ◌%◌, ◌^◌, eqb}

-- element i is in the set s
abbrev pub has : ℕ → ℕ → Bool
has s i = eqb (s / 2 ^ i % 2) 1

-- what the elements below k that are in the set s hold
abbrev pub members : {E : Type 0} → (ℕ → List E) → ℕ → ℕ → List E
members part zero s = []
members part (suc k) s = members part k s ++ cond (has s k) (part k) []
