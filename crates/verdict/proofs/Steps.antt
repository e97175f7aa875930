-- How far the table's numbers grow. Assumes nothing.
use Rattle.std.proofs.Common.{◌≡◌, ℕ, zero, suc, ◌+◌, ◌≤◌, max, List, [], ◌∷◌, get_or, set, replicate, ℤ, pos, ◌+ℤ◌, nat_abs, arith, ◌^◌, w64, SFits, of_z, to_z, neg_ℤ, ◌-ℤ◌}
use Rattle.std.proofs.lemmas.Int.{ints, to_z-of_z}
use Rattle.verdict.specs.Sums.{add_at, peak}

-- a number of the table is at most its peak
pub peak_at : (t : List ℤ) (s : ℕ) → nat_abs (get_or t s (pos 0)) ≤ peak t
unfolding peak
peak_at [] s = omega arith
peak_at (z ∷ t) zero = omega arith
peak_at (z ∷ t) (suc s) = omega (arith, peak_at t s)

peak_set : (t : List ℤ) (s : ℕ) (z : ℤ) → peak (set t s z) ≤ max (nat_abs z) (peak t)
unfolding peak
peak_set [] s z = omega arith
peak_set (y ∷ t) zero z = omega arith
peak_set (y ∷ t) (suc s) z = omega (arith, peak_set t s z)

pub peak_added : (t : List ℤ) (s : ℕ) (v : ℤ) → peak (add_at t s v) ≤ peak t + nat_abs v
peak_added t s v =
    omega (arith, ints, peak_set t s (get_or t s (pos 0) +ℤ v), peak_at t s)

pub peak_zeros : (k : ℕ) → peak (replicate k (pos 0)) ≡ 0
unfolding peak
peak_zeros zero = omega arith
peak_zeros (suc k) = omega (arith, peak_zeros k)

-- one more number fits
pub peak_fits : (t : List ℤ) (s : ℕ) (v : ℤ) → peak t ≤ 2 ^ 46 → nat_abs v ≤ 2 ^ 31 → SFits w64 (get_or t s (pos 0) +ℤ v)
peak_fits t s v p q = let r = peak_at t s in omega (arith, ints)

-- what is taken away, as it is computed
pub opposite : (m : ℤ) → nat_abs m ≤ 2 ^ 31 → to_z w64 (of_z w64 (pos 0 -ℤ m)) ≡ neg_ℤ m
opposite m p = omega (arith, ints)

pub ruleset additions = (to_z-of_z, peak_fits, peak_added)
