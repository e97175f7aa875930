-- Sets of participants and the secret, as codes: bit 0 is the secret, bit i is participant i. Assumes nothing.
use Rattle.std.specs.Prelude.{◌≡◌, ℕ, ◌+◌, ◌-◌, ◌^◌, ◌<◌, bit_and}

-- the set of the secret alone, and of participant i alone
abbrev pub secret : ℕ
secret = 1

abbrev pub alone : ℕ → ℕ
alone i = 2 ^ i

-- a set of the n participants and the secret
abbrev pub InGround : ℕ → ℕ → Type 0
InGround n a = a < 2 ^ (n + 1)

-- every member of a is a member of b
abbrev pub Within : ℕ → ℕ → Type 0
Within a b = bit_and a b ≡ a

-- a set of participants, without the secret
abbrev pub Coalition : ℕ → ℕ → Type 0
Coalition n a = InGround n a × (bit_and a secret ≡ 0)

-- all participants together
abbrev pub everyone : ℕ → ℕ
everyone n = 2 ^ (n + 1) - 2
