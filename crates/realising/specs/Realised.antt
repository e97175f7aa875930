-- Realising as a test that computes, and the sizes of shares. Assumes nothing.
use Rattle.std.specs.Prelude.{◌≡◌, ℕ, zero, suc, ◌+◌, ◌-◌, ◌*◌, ◌^◌, ◌≤◌, max, Bool, cond, ◌&&◌, Decides, ◌==◌, bit_or, nat_le}
use Rattle.polymatroid.specs.Sets.{secret, alone}
use Rattle.polymatroid.specs.Tests.{all_below}
use Rattle.polymatroid.specs.Realising.{Realises}

-- the participants and the secret together
abbrev pub ground : ℕ → ℕ
ground n = 2 ^ (n + 1) - 1

-- the secret adds nothing to the coalition if it is qualified, and its whole size if not
abbrev pub realised_at : (ℕ → Bool) → (ℕ → ℕ) → ℕ → Bool
realised_at qualified h a = h (bit_or a secret) == cond (qualified a) (h a) (h a + h secret)

-- the secret has a size, and so it is for every coalition of the n participants: those have the codes 2 k
abbrev pub realises : ℕ → (ℕ → Bool) → (ℕ → ℕ) → Bool
realises n qualified h = nat_le 1 (h secret) && all_below (2 ^ n) (λ k. realised_at qualified h (2 * k))

-- the largest share of participants 1 to n
abbrev pub largest_share : ℕ → (ℕ → ℕ) → ℕ
largest_share zero h = 0
largest_share (suc i) h = max (largest_share i h) (h (alone (suc i)))

-- some participant has a share of size x, and none a larger one
pub record LargestShare (n : ℕ) (h : ℕ → ℕ) (x : ℕ) : Type 0 where
  pub held : (i : ℕ) × (1 ≤ i) × (i ≤ n) × (h (alone i) ≡ x)
  pub none_larger : (i : ℕ) → 1 ≤ i → i ≤ n → h (alone i) ≤ x

-- the test tells which rank functions realise an access structure
abbrev pub RealisingDecided : Type 0
RealisingDecided = (n : ℕ) (qualified : ℕ → Bool) (h : ℕ → ℕ) → Decides (realises n qualified h) (Realises n qualified h)

-- what is counted as the largest share is the largest
abbrev pub LargestFound : Type 0
LargestFound = (n : ℕ) (h : ℕ → ℕ) → 1 ≤ n → LargestShare n h (largest_share n h)
