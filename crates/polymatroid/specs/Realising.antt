-- Access structures, by which coalitions they qualify, and what it means that a polymatroid realises one. Assumes nothing.
use Rattle.std.specs.Prelude.{◌≡◌, ℕ, ◌+◌, ◌≤◌, Bool, true, false, bit_or}
use Rattle.polymatroid.specs.Sets.{secret, Within, Coalition, everyone}

-- whoever joins a qualified coalition does not spoil it
abbrev pub UpwardClosed : ℕ → (ℕ → Bool) → Type 0
UpwardClosed n qualified =
    (a b : ℕ) → Coalition n a × Coalition n b × Within a b × (qualified a ≡ true) → qualified b ≡ true

abbrev pub EmptyUnqualified : (ℕ → Bool) → Type 0
EmptyUnqualified qualified = qualified 0 ≡ false

abbrev pub AllQualified : ℕ → (ℕ → Bool) → Type 0
AllQualified n qualified = qualified (everyone n) ≡ true

-- the coalitions that can recover the secret
abbrev pub IsAccessStructure : ℕ → (ℕ → Bool) → Type 0
IsAccessStructure n qualified = UpwardClosed n qualified × EmptyUnqualified qualified × AllQualified n qualified

-- the secret has a size; a qualified coalition determines it, an unqualified one learns nothing of it
pub record Realises (n : ℕ) (qualified : ℕ → Bool) (h : ℕ → ℕ) : Type 0 where
  pub sized : 1 ≤ h secret
  pub correct : (a : ℕ) → Coalition n a → qualified a ≡ true → h (bit_or a secret) ≡ h a
  pub private : (a : ℕ) → Coalition n a → qualified a ≡ false → h (bit_or a secret) ≡ h a + h secret
