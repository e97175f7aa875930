-- Where the items of an element stand, and the bytes of a set's members element by element. Assumes nothing.
use Rattle.std.proofs.Common.{◌≡◌, ℕ, zero, suc, ◌+◌, ◌*◌, ◌<◌, ◌≤◌, Bool, true, false, cond, List, [], ◌∷◌, ◌++◌, length, get_or, take, drop, refl, ap, ◌∙◌, mul-le-mul_right, add-mul, add-one, arith, length-append, length-take}
use Rattle.std.proofs.lemmas.List.{take_all}
use Rattle.matroid.specs.Members.{has, members}
use Rattle.formula.specs.Holding.{total, before, bytes_by}

-- one element more, by its number
pub before_next : (counts : List ℕ) (i : ℕ) → before counts (suc i) ≡ before counts i + get_or counts i 0
before_next [] zero = refl
before_next [] (suc i) = refl
before_next (c ∷ counts) zero = omega arith
before_next (c ∷ counts) (suc i) = omega (arith, before_next counts i)

-- past the last element nothing is added
pub before_more : (counts : List ℕ) (i : ℕ) → before counts (i + 1) ≡ before counts i + get_or counts i 0
before_more counts i = ap (before counts) (add-one i) ∙ before_next counts i

pub before_all : (counts : List ℕ) → before counts (length counts) ≡ total counts
before_all counts = ap total (take_all (length counts) counts (omega arith))

pub before_within : (counts : List ℕ) (i : ℕ) → before counts i ≤ total counts
before_within counts zero = omega arith
before_within [] (suc i) = omega arith
before_within (c ∷ counts) (suc i) = omega (arith, before_within counts i)

-- the items of element i stand among all of them
pub items_within : (counts : List ℕ) (i : ℕ) → before counts i + get_or counts i 0 ≤ total counts
items_within counts i = omega (arith, before_more counts i, before_within counts (i + 1))

pub part_within : (w : ℕ) (counts items : List ℕ) (i : ℕ) → i < length counts → total counts * w ≡ length items → before counts i * w + get_or counts i 0 * w ≤ length items
part_within w counts items i l all =
    omega (arith, mul-le-mul_right w (items_within counts i), add-mul (before counts i) (get_or counts i 0) w)

-- one element more, as a loop over the elements counts them
pub gather_more : (w : ℕ) (counts items : List ℕ) (s i : ℕ)
    → members (bytes_by w counts items) (i + 1) s ≡ members (bytes_by w counts items) i s ++ cond (has s i) (bytes_by w counts items i) []
gather_more w counts items s i = ap (λ k. members (bytes_by w counts items) k s) (add-one i)

-- bytes that are taken or not are no more than those that may be taken
chosen_small : (b : Bool) (n : ℕ) (xs : List ℕ) → length (cond b (take n xs) []) ≤ n
chosen_small true n xs = omega (arith, length-take n xs)
chosen_small false n xs = omega arith

pub gathered_small : (w : ℕ) (counts items : List ℕ) (s i : ℕ) → total counts * w ≡ length items → i ≤ length counts
    → length (members (bytes_by w counts items) i s) ≤ before counts i * w
gathered_small w counts items s zero all l = omega arith
gathered_small w counts items s (suc i) all l =
    omega (
      arith,
      gathered_small w counts items s i all (omega arith),
      chosen_small (has s i) (get_or counts i 0 * w) (drop (before counts i * w) items),
      length-append (members (bytes_by w counts items) i s) (cond (has s i) (bytes_by w counts items i) []),
      ap (λ n. n * w) (before_next counts i),
      add-mul (before counts i) (get_or counts i 0) w,
    )
