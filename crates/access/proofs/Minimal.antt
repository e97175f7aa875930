-- The table of the qualified coalitions, from the minimal ones. Assumes nothing.
use Rattle.std.proofs.Common.{◌≡◌, ℕ, ◌*◌, ◌/◌, ◌<◌, ◌≤◌, Bool, true, false, not, ◌&&◌, eqb, List, length, get_or, Decides, sym, refl, ap, ◌∙◌, inl, inr, arith}
use Rattle.std.specs.List.{AllByRecursion, HoldsAt, list_all, range_with_len}
use Rattle.std.proofs.ByRecursion.{All-get_or}
use Rattle.std.proofs.lemmas.List.{get_or_default}
use Rattle.std.proofs.lemmas.List.FromFn.{get_or-map-range_with_len}
use Rattle.std.proofs.lemmas.Bool.{cases_Bool}
use Rattle.std.proofs.lemmas.Bool.Decides.{Decides-and, Decides-not, Decides-eqb, Decides-by_or, Decides-below_and}
use Rattle.polymatroid.specs.Sets.{Within, Coalition, everyone}
use Rattle.polymatroid.specs.Tests.{within, all_below}
use Rattle.polymatroid.specs.Realising.{IsAccessStructure}
use Rattle.polymatroid.proofs.Decides.{within_decides, upwards}
use Rattle.access.specs.Table.{qualified_by, contains_one, table_of, smaller_by, minimal_by}
use Rattle.access.specs.Format.{LawfulSets}
use Rattle.access.proofs.Members.{ground_byte, within_trans, within_empty, within_everyone, coalition_even, everyone_coalition}

-- that a contains one of the sets, by which one
pub contains_decides : (sets : List ℕ) (a : ℕ) → Decides (contains_one sets a) ((k : ℕ) × (k < length sets) × HoldsAt (λ s. Within s a) sets k)
contains_decides sets a =
    Decides-by_or (λ s. within s a) (λ s. Within s a) (λ xs. contains_one xs a) (λ s. within_decides s a) refl (λ _ _. refl) sets

pub contains_up : (sets : List ℕ) (a b : ℕ) → Within a b → contains_one sets a ≡ true → contains_one sets b ≡ true
contains_up sets a b w h =
    let o = (contains_decides sets a).0 h in
    (contains_decides sets b).1 (o.0, o.1, λ d. within_trans (get_or sets o.0 d) a b w (o.2 d))

-- ---- the laws of an access structure
module _ (n : ℕ) (sets : List ℕ) (all : AllByRecursion (λ a. Coalition n a × (a ≡ 0 → ⊥)) sets) where
  each : (k : ℕ) → k < length sets → Coalition n (get_or sets k 0) × (get_or sets k 0 ≡ 0 → ⊥)
  each k l = All-get_or (λ a. Coalition n a × (a ≡ 0 → ⊥)) sets k 0 l all

  pub contains_none : contains_one sets 0 ≡ false
  contains_none = elim (cases_Bool (contains_one sets 0)) [
    | inl t ↦ (let o = (contains_decides sets 0).0 t in absurd ((each o.0 o.1).1 (within_empty (get_or sets o.0 0) (o.2 0))))
    | inr f ↦ f
  ]

  pub contains_all : 1 ≤ length sets → contains_one sets (everyone n) ≡ true
  contains_all l = (contains_decides sets (everyone n)).1 (0, omega arith, λ d. rw (get_or_default sets 0 d 0 (omega arith)) (within_everyone n (get_or sets 0 0) (each 0 (omega arith)).0))

-- the table has every coalition at its place
pub qualified_at : (sets : List ℕ) (a : ℕ) → a < 256 → qualified_by (table_of sets) a ≡ contains_one sets (2 * (a / 2))
qualified_at sets a l = get_or-map-range_with_len (λ k. contains_one sets (2 * k)) 0 128 (a / 2) (a / 2) false (omega arith) (omega arith)

pub qualified_coalition : (n : ℕ) (sets : List ℕ) (a : ℕ) → n ≤ 7 → Coalition n a → qualified_by (table_of sets) a ≡ contains_one sets a
qualified_coalition n sets a few k = qualified_at sets a (ground_byte n a few k.0) ∙ ap (contains_one sets) (coalition_even n a k)

pub table_is_structure : (n : ℕ) (sets : List ℕ) → LawfulSets n sets → IsAccessStructure n (qualified_by (table_of sets))
table_is_structure n sets l = (
  λ a b h. qualified_coalition n sets b l.few h.1 ∙ contains_up sets a b h.2 (sym (qualified_coalition n sets a l.few h.0) ∙ h.3),
  qualified_at sets 0 (omega arith) ∙ contains_none n sets l.coalitions,
  qualified_coalition n sets (everyone n) l.few (everyone_coalition n) ∙ contains_all n sets l.coalitions l.listed,
)

-- ---- minimal coalitions
-- of a qualified coalition, that no other within it is qualified makes it minimal
pub minimal_from_least : (table : List Bool) (a : ℕ) (r : Bool) → qualified_by table a ≡ true → r ≡ list_all (λ k. not (smaller_by table a k)) (range_with_len 0 128) → r ≡ minimal_by table a
minimal_from_least table a r q e =
    e ∙ upwards 128 (λ k. not (smaller_by table a k)) ∙ sym (ap (λ x. x && all_below 128 (λ k. not (smaller_by table a k))) q)

-- the coalition with the code 2 k is another one within a, and qualified
abbrev pub Smaller : List Bool → ℕ → ℕ → Type 0
Smaller table a k = (Within (2 * k) a × (2 * k ≡ a → ⊥)) × (qualified_by table (2 * k) ≡ true)

pub least_decides : (table : List Bool) (a : ℕ) → Decides (minimal_by table a) ((qualified_by table a ≡ true) × ((k : ℕ) → k < 128 → ¬ (Smaller table a k)))
least_decides table a =
    Decides-and (qualified_by table a) (all_below 128 (λ k. not (smaller_by table a k))) (is_true (qualified_by table a))
    (Decides-below_and (λ k. not (smaller_by table a k)) (λ k. ¬ (Smaller table a k)) (λ n. all_below n (λ k. not (smaller_by table a k))) none_smaller refl (λ _. refl) 128)
  where
    is_true : (b : Bool) → Decides b (b ≡ true)
    is_true b = (λ e. e, λ e. e)

    none_smaller : (k : ℕ) → Decides (not (smaller_by table a k)) (¬ (Smaller table a k))
    none_smaller k =
        Decides-not (smaller_by table a k)
        (Decides-and (within (2 * k) a && not (eqb (2 * k) a)) (qualified_by table (2 * k))
        (Decides-and (within (2 * k) a) (not (eqb (2 * k) a)) (within_decides (2 * k) a) (Decides-not (eqb (2 * k) a) (Decides-eqb (2 * k) a)))
        (is_true (qualified_by table (2 * k))))
