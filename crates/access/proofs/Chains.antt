-- What the tests for allowed sets and for antichains decide. Assumes nothing.
use Rattle.std.proofs.Common.{◌≡◌, ℕ, zero, suc, ◌<◌, ◌⊎◌, Bool, true, not, ◌&&◌, eqb, List, [], ◌∷◌, length, get_or, Decides, refl, inl, inr, arith}
use Rattle.std.specs.List.{All, AllByRecursion}
use Rattle.std.proofs.lemmas.Bool.{and_parts, and_from}
use Rattle.std.proofs.lemmas.Bool.Decides.{Decides-and, Decides-or, Decides-not, Decides-eqb, Decides-by_and}
use Rattle.std.proofs.lemmas.List.{get_or_default}
use Rattle.std.proofs.ByRecursion.{Decides-by_and as Decides-by_recursion}
use Rattle.polymatroid.specs.Sets.{Within, Coalition}
use Rattle.polymatroid.specs.Tests.{within, coalition}
use Rattle.polymatroid.proofs.Decides.{within_decides, coalition_decides}
use Rattle.access.specs.Format.{allowed, comparable, apart, antichain}

-- ---- allowed sets
abbrev pub allowed_set : ℕ → ℕ → Bool
allowed_set n a = coalition n a && not (eqb a 0)

pub allowed_decides : (n : ℕ) (sets : List ℕ) → Decides (allowed n sets) (AllByRecursion (λ a. Coalition n a × (a ≡ 0 → ⊥)) sets)
allowed_decides n =
    Decides-by_recursion (allowed_set n) (λ a. Coalition n a × (a ≡ 0 → ⊥)) (allowed n)
    (λ a. Decides-and (coalition n a) (not (eqb a 0)) (coalition_decides n a) (Decides-not (eqb a 0) (Decides-eqb a 0))) refl (λ _ _. refl)

-- ---- antichains: of two sets, one lies within the other
apart_decides : (a : ℕ) (sets : List ℕ) → Decides (apart a sets) (All (λ b. ¬ (Within a b ⊎ Within b a)) sets)
apart_decides a =
    Decides-by_and (λ b. not (comparable a b)) (λ b. ¬ (Within a b ⊎ Within b a)) (apart a)
    (λ b. Decides-not (comparable a b) (Decides-or (within a b) (within b a) (within_decides a b) (within_decides b a))) refl (λ _ _. refl)

abbrev pub Incomparable : List ℕ → Type 0
Incomparable sets = (i j : ℕ) → i < length sets → j < length sets → (i ≡ j → ⊥) → Within (get_or sets i 0) (get_or sets j 0) → ⊥

pub antichain_incomparable : (sets : List ℕ) → antichain sets ≡ true → Incomparable sets
antichain_incomparable [] p i j l m ne w = absurd (omega arith)
antichain_incomparable (a ∷ sets) p zero zero l m ne w = ne refl
antichain_incomparable (a ∷ sets) p zero (suc j) l m ne w = (apart_decides a sets).0 (and_parts (apart a sets) (antichain sets) p).0 j 0 (omega arith) (inl w)
antichain_incomparable (a ∷ sets) p (suc i) zero l m ne w = (apart_decides a sets).0 (and_parts (apart a sets) (antichain sets) p).0 i 0 (omega arith) (inr w)
antichain_incomparable (a ∷ sets) p (suc i) (suc j) l m ne w =
    antichain_incomparable sets (and_parts (apart a sets) (antichain sets) p).1 i j (omega arith) (omega arith) (λ e. ne (omega arith)) w

pub incomparable_antichain : (sets : List ℕ) → Incomparable sets → antichain sets ≡ true
incomparable_antichain [] h = refl
incomparable_antichain (a ∷ sets) h =
    and_from (apart a sets) (antichain sets)
    ((apart_decides a sets).1 (λ k d l. rw (get_or_default sets k d 0 l) (λ c. elim c [
      | inl w ↦ h 0 (suc k) (omega arith) (omega arith) (omega arith) w
      | inr w ↦ h (suc k) 0 (omega arith) (omega arith) (omega arith) w
    ])))
    (incomparable_antichain sets (λ i j l m ne w. h (suc i) (suc j) (omega arith) (omega arith) (λ e. ne (omega arith)) w))
