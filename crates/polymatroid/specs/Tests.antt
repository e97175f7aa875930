-- Sets and coalitions as tests that compute. Assumes nothing.
use Rattle.std.specs.Prelude.{ℕ, zero, suc, ◌+◌, ◌^◌, Bool, true, ◌&&◌, ◌==◌, bit_and, nat_lt}
use Rattle.polymatroid.specs.Sets.{secret}

abbrev pub in_ground : ℕ → ℕ → Bool
in_ground n a = nat_lt a (2 ^ (n + 1))

abbrev pub within : ℕ → ℕ → Bool
within a b = bit_and a b == a

abbrev pub coalition : ℕ → ℕ → Bool
coalition n a = in_ground n a && bit_and a secret == 0

-- the test passes at every number below k
abbrev pub all_below : ℕ → (ℕ → Bool) → Bool
all_below zero test = true
all_below (suc k) test = test k && all_below k test
