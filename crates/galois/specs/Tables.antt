-- What a table of results holds, as a test that computes. Assumes nothing.
use Rattle.std.specs.Prelude.{ℕ, Bool, List, [], nat_eq, slice_index, slice_index_or}
use Rattle.polymatroid.specs.Tests.{all_below}
use Rattle.galois.specs.Codes.{inverse}
use Rattle.galois.specs.Polynomials.{times}

-- the products of order 16, that of a and b in row a at b
abbrev pub holds_products : List (List ℕ) → Bool
holds_products rows = all_below 16 (λ a. all_below 16 (λ b. nat_eq (slice_index (slice_index_or rows a []) b) (times 16 a b)))

-- the inverses of order q
abbrev pub holds_inverses : ℕ → List ℕ → Bool
holds_inverses q xs = all_below q (λ a. nat_eq (slice_index xs a) (inverse q (times q) a))
