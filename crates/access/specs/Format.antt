-- The record of an access structure: mark, number of participants, number of minimal qualified sets, the sets.
-- Assumes nothing.
use Rattle.std.specs.Prelude.{◌≡◌, ℕ, ◌+◌, ◌<◌, ◌≤◌, Bool, true, not, ◌&&◌, ◌||◌, List, [], ◌∷◌, ◌++◌, length, take, drop, Ok, Decides, Result, ◌==◌, ◌≢◌, nat_le, slice_index}
use Rattle.std.specs.List.{ContainsAt as Has, AllByRecursion, list_all}
use Rattle.polymatroid.specs.Sets.{Within, Coalition}
use Rattle.polymatroid.specs.Tests.{within, coalition}
use Rattle.record.specs.declared.faults.Reason.{Reason}
use Rattle.record.specs.declared.faults.Reason.TheVariants.{CutShort, WrongMark, OutOfRange, SetNotAllowed, NotAntichain, LeftOver}
use Rattle.record.specs.declared.faults.RecordFault.{RecordFault}
use Rattle.record.specs.Faults.{outside}
use Rattle.record.specs.Reading.{tried, and_then, refused_as, holds, byte, marked}
use Rattle.access.specs.Table.{qualified_by, contains_one, table_of, minimal_by}

abbrev pub structure_mark : List ℕ
structure_mark = 0x53 ∷ 0x54 ∷ []

-- the fields of a record
abbrev pub participants_in : List ℕ → ℕ
participants_in bytes = byte bytes 2

abbrev pub count_in : List ℕ → ℕ
count_in bytes = byte bytes 3

abbrev pub sets_in : List ℕ → List ℕ
sets_in bytes = take (count_in bytes) (drop 4 bytes)

-- each set is a coalition of the n participants, and none is empty
abbrev pub allowed : ℕ → List ℕ → Bool
allowed n sets = list_all (λ a. coalition n a && not (a == 0)) sets

-- one of the sets contains or equals the other
abbrev pub comparable : ℕ → ℕ → Bool
comparable a b = within a b || within b a

-- a is comparable with none of the sets
abbrev pub apart : ℕ → List ℕ → Bool
apart a sets = list_all (λ b. not (comparable a b)) sets

abbrev pub antichain : List ℕ → Bool
antichain [] = true
antichain (a ∷ sets) = apart a sets && antichain sets

-- the number of participants and the minimal qualified sets, or the one reason
abbrev pub listed_in : List ℕ → Result (ℕ × List ℕ) Reason
listed_in bytes =
    tried (holds 2 bytes) CutShort (
    tried (marked bytes structure_mark) WrongMark (
    tried (holds 4 bytes) CutShort (
    tried (nat_le 1 (participants_in bytes) && nat_le (participants_in bytes) 7) OutOfRange (
    tried (nat_le 1 (count_in bytes) && nat_le (count_in bytes) 35) OutOfRange (
    tried (holds (count_in bytes + 4) bytes) CutShort (
    tried (allowed (participants_in bytes) (sets_in bytes)) SetNotAllowed (
    tried (antichain (sets_in bytes)) NotAntichain (
    tried (length bytes == count_in bytes + 4) LeftOver (
    Ok (participants_in bytes, sets_in bytes))))))))))

-- the access structure of a record: the number of participants and the table of the qualified coalitions
abbrev pub structure_in : List ℕ → Result (ℕ × List Bool) RecordFault
structure_in bytes = refused_as outside (and_then (listed_in bytes) (λ r. Ok (r.0, table_of r.1)))

-- which lists of sets a record may hold
pub record LawfulSets (n : ℕ) (sets : List ℕ) : Type 0 where
  pub some : 1 ≤ n
  pub few : n ≤ 7
  pub listed : 1 ≤ length sets
  pub most : length sets ≤ 35
  pub coalitions : AllByRecursion (λ a. Coalition n a × (a ≢ 0)) sets
  pub incomparable : (i j : ℕ) → i < length sets → j < length sets → (i ≢ j) → Within (slice_index sets i) (slice_index sets j) → ⊥

-- of n participants, the coalitions that contain one of the sets are qualified, and no others
abbrev pub QualifiedExactly : ℕ → List ℕ → Type 0
QualifiedExactly n sets = (a : ℕ) → Coalition n a → qualified_by (table_of sets) a ≡ contains_one sets a

-- of n participants, the minimal qualified coalitions are exactly the sets
abbrev pub MinimalExactly : ℕ → List ℕ → Type 0
MinimalExactly n sets = (a : ℕ) → Coalition n a → Decides (minimal_by (table_of sets) a) (Has sets a)

-- the record of a list of sets
abbrev pub encode_sets : ℕ → List ℕ → List ℕ
encode_sets n sets = structure_mark ++ (n ∷ length sets ∷ sets)

-- a list of sets comes out of exactly one record, its own, and only if it is lawful
pub record ReadExactly (bytes : List ℕ) (n : ℕ) (sets : List ℕ) : Type 0 where
  pub lawful : listed_in bytes ≡ Ok (n, sets) → LawfulSets n sets
  pub encoded : listed_in bytes ≡ Ok (n, sets) → bytes ≡ encode_sets n sets
  pub taken : LawfulSets n sets → bytes ≡ encode_sets n sets → listed_in bytes ≡ Ok (n, sets)
