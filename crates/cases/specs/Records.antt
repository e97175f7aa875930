-- The worked records. Assumes nothing.
use Rattle.std.specs.Prelude.{ℕ, List, [], ◌∷◌, ◌++◌}

-- the chain of four participants: 1 with 2, 2 with 3, 3 with 4
abbrev pub chain : List ℕ
chain = 0x53 ∷ 0x54 ∷ 0x04 ∷ 0x03 ∷ 0x06 ∷ 0x0C ∷ 0x18 ∷ []

abbrev pub monotone : ℕ → ℕ → List ℕ
monotone a b = 0x52 ∷ 0x49 ∷ 0x00 ∷ 0x01 ∷ a ∷ b ∷ []

abbrev pub submodular : ℕ → ℕ → List ℕ
submodular a b = 0x4C ∷ 0x45 ∷ 0x00 ∷ 0x01 ∷ a ∷ b ∷ []

abbrev pub correct : ℕ → List ℕ
correct a = 0x48 ∷ 0x45 ∷ 0xFF ∷ 0xFF ∷ a ∷ 0x00 ∷ []

abbrev pub private : ℕ → List ℕ
private a = 0x42 ∷ 0x4C ∷ 0x00 ∷ 0x01 ∷ a ∷ 0x00 ∷ []

-- a certificate for the chain: weights 0 1 1 0, a count, and twelve lines, the fourth of them about a given coalition
abbrev pub chain_certificate : ℕ → ℕ → List ℕ
chain_certificate count fourth =
    (0x43 ∷ 0x45 ∷ 0x04 ∷ 0x00 ∷ 0x00 ∷ 0x00 ∷ 0x01 ∷ 0x00 ∷ 0x01 ∷ 0x00 ∷ 0x00 ∷ 0x00 ∷ 0x00 ∷ 0x00 ∷ count ∷ 0x00 ∷ 0x0C ∷ [])
    ++ submodular 0x04 0x08 ++ submodular 0x02 0x04 ++ submodular 0x07 0x0D
    ++ correct fourth ++ correct 0x0C ++ private 0x04
    ++ monotone 0x0B 0x0F ++ private 0x0A ++ submodular 0x0A 0x12
    ++ monotone 0x13 0x1B ++ correct 0x1A ++ private 0x12
