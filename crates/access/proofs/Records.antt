-- A list of sets and its one record. Assumes nothing.
use Rattle.std.proofs.Common.{◌↔◌, ◌≡◌, ℕ, ◌+◌, ◌-◌, ◌≤◌, Bool, true, List, length, take, drop, Ok, Err, Result, sym, refl, ap, ◌∙◌, subst, ap₂, arith}
use Rattle.std.proofs.lemmas.List.{take-append-drop, take_all, take_rest, length-drop, length-take-le}
use Rattle.std.proofs.lemmas.Bool.Decides.{Decides-eqb}
use Rattle.record.specs.declared.faults.Reason.{Reason}
use Rattle.record.specs.declared.faults.RecordFault.{RecordFault}
use Rattle.record.specs.Faults.{outside}
use Rattle.record.specs.Reading.{and_then, refused_as, byte}
use Rattle.record.proofs.Stored.{first_bytes}
use Rattle.record.proofs.Trying.{tried_says, ok_says, holds_decides, between_decides, marked_decides}
use Rattle.access.specs.declared.structure.AccessStructure.{AccessStructure}
use Rattle.access.specs.Table.{table_of}
use Rattle.access.specs.Format.{participants_in, count_in, sets_in, allowed, antichain, listed_in, structure_in, LawfulSets, encode_sets, ReadExactly}
use Rattle.access.specs.View.{view_of, ComesOutAt}
use Rattle.access.proofs.Chains.{allowed_decides, antichain_incomparable, incomparable_antichain}

-- every test of a record passes
pub record Passed (bytes : List ℕ) : Type 0 where
  pub first : byte bytes 0 ≡ 0x53
  pub second : byte bytes 1 ≡ 0x54
  pub some : 1 ≤ participants_in bytes
  pub few : participants_in bytes ≤ 7
  pub listed : 1 ≤ count_in bytes
  pub most : count_in bytes ≤ 35
  pub sized : length bytes ≡ count_in bytes + 4
  pub sets : allowed (participants_in bytes) (sets_in bytes) ≡ true
  pub apart : antichain (sets_in bytes) ≡ true

-- the tests one after another
listed_says : (bytes : List ℕ) (x : ℕ × List ℕ) → (listed_in bytes ≡ Ok x) ↔ ((2 ≤ length bytes) × (((byte bytes 0 ≡ 0x53) × (byte bytes 1 ≡ 0x54)) × ((4 ≤ length bytes) × (
    ((1 ≤ participants_in bytes) × (participants_in bytes ≤ 7)) × (((1 ≤ count_in bytes) × (count_in bytes ≤ 35)) × ((count_in bytes + 4 ≤ length bytes) × (
    (allowed (participants_in bytes) (sets_in bytes) ≡ true) × ((antichain (sets_in bytes) ≡ true) × ((length bytes ≡ count_in bytes + 4) × ((participants_in bytes, sets_in bytes) ≡ x))))))))))
listed_says bytes x =
    tried_says _ _ _ x (holds_decides 2 bytes) (
    tried_says _ _ _ x (marked_decides bytes 0x53 0x54) (
    tried_says _ _ _ x (holds_decides 4 bytes) (
    tried_says _ _ _ x (between_decides 1 (participants_in bytes) 7) (
    tried_says _ _ _ x (between_decides 1 (count_in bytes) 35) (
    tried_says _ _ _ x (holds_decides (count_in bytes + 4) bytes) (
    tried_says _ _ _ x (λ e. e, λ e. e) (
    tried_says _ _ _ x (λ e. e, λ e. e) (
    tried_says _ _ _ x (Decides-eqb (length bytes) (count_in bytes + 4)) (
    ok_says (participants_in bytes, sets_in bytes) x)))))))))

pub passed : (bytes : List ℕ) (x : ℕ × List ℕ) → listed_in bytes ≡ Ok x → Passed bytes × ((participants_in bytes, sets_in bytes) ≡ x)
passed bytes x p =
    let (_, (mark, (_, (few, (many, (_, (sets, (apart, (sized, same))))))))) = (listed_says bytes x).0 p in
    (record { first = mark.0; second = mark.1; some = few.0; few = few.1; listed = many.0; most = many.1; sized = sized; sets = sets; apart = apart }, same)

pub listed_passed : (bytes : List ℕ) → Passed bytes → listed_in bytes ≡ Ok (participants_in bytes, sets_in bytes)
listed_passed bytes p =
    (listed_says bytes (participants_in bytes, sets_in bytes)).1
    (omega (arith, p.sized), ((p.first, p.second), (omega (arith, p.sized), ((p.some, p.few), ((p.listed, p.most), (omega (arith, p.sized), (p.sets, (p.apart, (p.sized, refl)))))))))

-- ---- what passes is lawful, and its own record
pub sets_rest : (bytes : List ℕ) → Passed bytes → sets_in bytes ≡ drop 4 bytes
sets_rest bytes p = take_all (count_in bytes) (drop 4 bytes) (omega (arith, length-drop 4 bytes, p.sized))

sets_length : (bytes : List ℕ) → Passed bytes → length (sets_in bytes) ≡ count_in bytes
sets_length bytes p = length-take-le (count_in bytes) (drop 4 bytes) (omega (arith, length-drop 4 bytes, p.sized))

passed_lawful : (bytes : List ℕ) → Passed bytes → LawfulSets (participants_in bytes) (sets_in bytes)
passed_lawful bytes p = record {
  some = p.some;
  few = p.few;
  listed = omega (arith, sets_length bytes p, p.listed);
  most = omega (arith, sets_length bytes p, p.most);
  coalitions = (allowed_decides (participants_in bytes) (sets_in bytes)).0 p.sets;
  incomparable = antichain_incomparable (sets_in bytes) p.apart;
}

passed_encoded : (bytes : List ℕ) → Passed bytes → bytes ≡ encode_sets (participants_in bytes) (sets_in bytes)
passed_encoded bytes p =
    let whole = take-append-drop 4 bytes in
    let four = first_bytes 4 bytes (omega (arith, p.sized)) in
    let many = sets_length bytes p in
    let rest = sets_rest bytes p in
    cc

-- ---- what is lawful passes in its own record
own_sets : (n : ℕ) (sets : List ℕ) → sets_in (encode_sets n sets) ≡ sets
own_sets n sets = take_all (length sets) sets (omega arith)

own_passed : (n : ℕ) (sets : List ℕ) → LawfulSets n sets → Passed (encode_sets n sets)
own_passed n sets l = record {
  first = refl;
  second = refl;
  some = l.some;
  few = l.few;
  listed = l.listed;
  most = l.most;
  sized = omega arith;
  sets = ap (allowed n) (own_sets n sets) ∙ (allowed_decides n sets).1 l.coalitions;
  apart = ap antichain (own_sets n sets) ∙ incomparable_antichain sets l.incomparable;
}

own_listed : (n : ℕ) (sets : List ℕ) → LawfulSets n sets → listed_in (encode_sets n sets) ≡ Ok (n, sets)
own_listed n sets l = listed_passed (encode_sets n sets) (own_passed n sets l) ∙ ap (λ s. Ok (n, s)) (own_sets n sets)

pub read_exactly : (bytes : List ℕ) (n : ℕ) (sets : List ℕ) → ReadExactly bytes n sets
read_exactly bytes n sets = record {
  lawful = λ p. let q = passed bytes (n, sets) p in subst (λ (x : ℕ × List ℕ). LawfulSets x.0 x.1) q.1 (passed_lawful bytes q.0);
  encoded = λ p. let q = passed bytes (n, sets) p in subst (λ (x : ℕ × List ℕ). bytes ≡ encode_sets x.0 x.1) q.1 (passed_encoded bytes q.0);
  taken = λ l e. ap listed_in e ∙ own_listed n sets l;
}

-- ---- what a reader answers, by what the tests answered
tabled : Result (ℕ × List ℕ) Reason → Result (ℕ × List Bool) RecordFault
tabled r = refused_as outside (and_then r (λ x. Ok (x.0, table_of x.1)))

pub refused_exactly : (bytes : List ℕ) (e : Reason) → listed_in bytes ≡ Err e → ComesOutAt bytes (Err (outside e))
refused_exactly bytes e p n sets l q = let t = (read_exactly bytes n sets).taken l q in cc

-- the tests passed: the sets are all that stands behind the first four bytes
module _ (bytes : List ℕ) (p : listed_in bytes ≡ Ok (participants_in bytes, sets_in bytes)) where
  rest : take (length bytes - 4) (drop 4 bytes) ≡ sets_in bytes
  rest = take_rest bytes 4 ∙ sym (sets_rest bytes (passed bytes (participants_in bytes, sets_in bytes) p).0)

  pub rest_lawful : LawfulSets (byte bytes 2) (take (length bytes - 4) (drop 4 bytes))
  rest_lawful = subst (LawfulSets (byte bytes 2)) (sym rest) (passed_lawful bytes (passed bytes (participants_in bytes, sets_in bytes) p).0)

  module _ (s : AccessStructure) (n : s.participants ≡ byte bytes 2) (t : s.qualified ≡ table_of (take (length bytes - 4) (drop 4 bytes))) where
    pub read_value : Ok (view_of s) ≡ structure_in bytes
    unfolding tabled
    read_value = ap₂ (λ a b. Ok (a, b)) n (t ∙ ap table_of rest) ∙ sym (ap tabled p)

    pub read_out : ComesOutAt bytes (Ok s)
    read_out = (
      sets_in bytes,
      subst (λ (k : ℕ). LawfulSets k (sets_in bytes)) (sym n) ((read_exactly bytes (participants_in bytes) (sets_in bytes)).lawful p),
      subst (λ (k : ℕ). bytes ≡ encode_sets k (sets_in bytes)) (sym n) ((read_exactly bytes (participants_in bytes) (sets_in bytes)).encoded p),
      t ∙ ap table_of rest,
    )
