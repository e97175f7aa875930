-- The table of an access structure: the coalition with the code 2 k stands at k. Assumes nothing.
use Rattle.std.specs.Prelude.{◌≡◌, ℕ, ◌*◌, ◌/◌, Bool, true, false, not, ◌&&◌, List, map, ◌==◌, slice_index_or}
use Rattle.std.specs.List.{range_with_len, list_any}
use Rattle.polymatroid.specs.Sets.{Within, Coalition}
use Rattle.polymatroid.specs.Tests.{within, all_below}

-- whether a coalition is qualified; bit 0 of the code is not looked at
abbrev pub qualified_by : List Bool → ℕ → Bool
qualified_by table a = slice_index_or table (a / 2) false

-- whether a contains one of the sets
abbrev pub contains_one : List ℕ → ℕ → Bool
contains_one sets a = list_any (λ set. within set a) sets

-- a coalition is qualified exactly if it contains a minimal qualified set
abbrev pub table_of : List ℕ → List Bool
table_of sets = map (λ k. contains_one sets (2 * k)) (range_with_len 0 128)

-- whether the coalition with the code 2 k is another one within a, and qualified
abbrev pub smaller_by : List Bool → ℕ → ℕ → Bool
smaller_by table a k = within (2 * k) a && not (2 * k == a) && qualified_by table (2 * k)

-- whether a is qualified and no other coalition within a is
abbrev pub minimal_by : List Bool → ℕ → Bool
minimal_by table a = qualified_by table a && all_below 128 (λ k. not (smaller_by table a k))

-- a is qualified and no other coalition of the n participants within a is
abbrev pub MinimalIn : ℕ → (ℕ → Bool) → ℕ → Type 0
MinimalIn n qualified a = (qualified a ≡ true) × ((b : ℕ) → Coalition n b → Within b a → qualified b ≡ true → b ≡ a)
