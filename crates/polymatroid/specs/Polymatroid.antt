-- Rank functions on the sets of n participants and the secret. Assumes nothing.
use Rattle.std.specs.Prelude.{◌≡◌, ℕ, ◌+◌, ◌≤◌, bit_and, bit_or}
use Rattle.polymatroid.specs.Sets.{InGround, Within}

-- h gives each set a whole number, its rank: none to the empty set, no less to a larger set, and to two sets together
-- no less than to their union and intersection together
pub record Polymatroid (n : ℕ) (h : ℕ → ℕ) : Type 0 where
  pub empty : h 0 ≡ 0
  pub monotone : (a b : ℕ) → InGround n a → InGround n b → Within a b → h a ≤ h b
  pub submodular : (a b : ℕ) → InGround n a → InGround n b → h (bit_or a b) + h (bit_and a b) ≤ h a + h b
