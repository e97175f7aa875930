-- What the elements of a ground set hold: items that stand one after another, the secret's first, then participant 1's and
-- so on, and how many there are of each. Assumes nothing.
use Rattle.std.specs.Prelude.{◌≡◌, ℕ, zero, suc, ◌+◌, ◌*◌, ◌<◌, ◌≤◌, List, [], ◌∷◌, length, take, drop, slice_index}
use Rattle.std.specs.List.{AllByRecursion}
use Rattle.matroid.specs.Members.{members}

abbrev pub total : List ℕ → ℕ
total [] = 0
total (c ∷ counts) = c + total counts

-- how many items stand before those of element i
abbrev pub before : List ℕ → ℕ → ℕ
before counts i = total (take i counts)

-- k items from the one numbered r on
abbrev pub items_from : {E : Type 0} → (ℕ → E) → (r k : ℕ) → List E
items_from item r zero = []
items_from item r (suc k) = item r ∷ items_from item (suc r) k

-- the items of element i
abbrev pub held_by : {E : Type 0} → (ℕ → E) → List ℕ → ℕ → List E
held_by item counts i = items_from item (before counts i) (slice_index counts i)

-- the items of all members of a set
abbrev pub held_by_all : {E : Type 0} → (ℕ → E) → List ℕ → ℕ → List E
held_by_all item counts s = members (held_by item counts) (length counts) s

-- the same as bytes, where an item has `width` of them
abbrev pub bytes_by : ℕ → List ℕ → List ℕ → ℕ → List ℕ
bytes_by width counts items i = take (slice_index counts i * width) (drop (before counts i * width) items)

abbrev pub bytes_by_all : ℕ → List ℕ → List ℕ → ℕ → List ℕ
bytes_by_all width counts items s = members (bytes_by width counts items) (length counts) s

-- n participants and the secret hold at most 32 items of `width` bytes, each byte below `limit`
pub record LawfulHolding (n width limit : ℕ) (counts items : List ℕ) : Type 0 where
  pub counted : length counts ≡ n + 1
  pub most : total counts ≤ 32
  pub sized : length items ≡ total counts * width
  pub below : AllByRecursion (λ b. b < limit) items
