-- The minimal coalitions of an access structure, and of one that is made from lawful sets. Assumes nothing.
use Rattle.std.proofs.Common.{◌≡◌, ℕ, ◌*◌, ◌/◌, ◌<◌, ◌≤◌, Bool, true, List, get_or, Decides, sym, ap, ◌∙◌, subst, inl, inr, arith}
use lib.Bits.{and_self}
use Rattle.std.specs.List.{ContainsAt as Has}
use Rattle.std.proofs.lemmas.Nat.{and_comm, and_le_r, and_mask}
use Rattle.std.proofs.ByRecursion.{All-get_or, has_get_or}
use Rattle.std.proofs.lemmas.List.{get_or_default}
use Rattle.std.proofs.lemmas.Bool.{cases_eq}
use Rattle.std.proofs.lemmas.Bool.Decides.{Decides-at, Decides-like}
use Rattle.polymatroid.specs.Sets.{Within, Coalition}
use Rattle.access.specs.Table.{qualified_by, table_of, minimal_by, MinimalIn}
use Rattle.access.specs.Format.{LawfulSets, QualifiedExactly, MinimalExactly}
use Rattle.access.proofs.Members.{ground_byte, within_trans, coalition_even}
use Rattle.access.proofs.Minimal.{contains_decides, qualified_coalition, Smaller, least_decides}

-- two sets that lie within each other are one
within_both : (a b : ℕ) → Within a b → Within b a → b ≡ a
within_both a b w v = sym v ∙ and_comm b a ∙ w

-- an even code within a coalition is a coalition
even_within : (n k a : ℕ) → Coalition n a → Within (2 * k) a → Coalition n (2 * k)
even_within n k a c w = (omega (arith, and_le_r (2 * k) a, c.0), omega (arith, and_mask (2 * k) 1))

-- ---- the test of minimal coalitions
minimal_decides : (n : ℕ) (table : List Bool) (a : ℕ) → n ≤ 7 → Coalition n a → Decides (minimal_by table a) (MinimalIn n (qualified_by table) a)
minimal_decides n table a few c = Decides-like (minimal_by table a) none_other none_smaller (least_decides table a)
  where
    none_other : (qualified_by table a ≡ true) × ((k : ℕ) → k < 128 → ¬ (Smaller table a k)) → MinimalIn n (qualified_by table) a
    none_other p = (
      p.0,
      λ b cb w q. elim (cases_eq b a) [
        | inl e ↦ e
        | inr ne ↦ (let byte : b < 256 = ground_byte n b few cb.0 in
            absurd (p.1 (b / 2) (omega arith) (rw (coalition_even n b cb) ((w, ne), q))))
      ],
    )

    none_smaller : MinimalIn n (qualified_by table) a → (qualified_by table a ≡ true) × ((k : ℕ) → k < 128 → ¬ (Smaller table a k))
    none_smaller m = (m.0, λ k l s. s.0.1 (m.1 (2 * k) (even_within n k a c s.0.0) s.0.0 s.1))

pub minimal_answer : (n : ℕ) (table : List Bool) (a : ℕ) (r : Bool) → n ≤ 7 → r ≡ minimal_by table a → Coalition n a → Decides r (MinimalIn n (qualified_by table) a)
minimal_answer n table a r few e c = Decides-at r (minimal_by table a) e (minimal_decides n table a few c)

-- ---- the listed sets are the minimal coalitions
module _ (n : ℕ) (sets : List ℕ) (l : LawfulSets n sets) where
  pub qualified_exactly : QualifiedExactly n sets
  qualified_exactly a c = qualified_coalition n sets a l.few c

  listed_qualified : (a : ℕ) → Coalition n a → Has sets a → qualified_by (table_of sets) a ≡ true
  listed_qualified a c h =
      qualified_exactly a c ∙ (contains_decides sets a).1 (h.0, h.1, λ d. rw (h.2 d) (and_self a))

  -- one that is qualified and lies within a listed set contains a listed set, which is the same one
  listed_alone : (a : ℕ) → Has sets a → (b : ℕ) → Coalition n b → Within b a → qualified_by (table_of sets) b ≡ true → b ≡ a
  listed_alone a h b c w q =
      let o = (contains_decides sets b).0 (sym (qualified_exactly b c) ∙ q) in
      elim (cases_eq o.0 h.0) [
        | inl e ↦ within_both a b (subst (λ (s : ℕ). Within s b) (ap (λ (k : ℕ). get_or sets k 0) e ∙ h.2 0) (o.2 0)) w
        | inr ne ↦ absurd (l.incomparable o.0 h.0 o.1 h.1 ne
            (subst (Within (get_or sets o.0 0)) (sym (h.2 0)) (within_trans (get_or sets o.0 0) b a w (o.2 0))))
      ]

  minimal_listed : (a : ℕ) → Coalition n a → MinimalIn n (qualified_by (table_of sets)) a → Has sets a
  minimal_listed a c m =
      let o = (contains_decides sets a).0 (sym (qualified_exactly a c) ∙ m.0) in
      let g : ℕ = get_or sets o.0 0 in
      let cg : Coalition n g = (All-get_or (λ s. Coalition n s × (s ≡ 0 → ⊥)) sets o.0 0 o.1 l.coalitions).0 in
      let e : g ≡ a = m.1 g cg (o.2 0) (listed_qualified g cg (has_get_or sets o.0 0 o.1)) in
      (o.0, o.1, λ d. get_or_default sets o.0 d 0 o.1 ∙ e)

  pub minimal_exactly : MinimalExactly n sets
  minimal_exactly a c =
      Decides-like (minimal_by (table_of sets) a) (minimal_listed a c) (λ h. (listed_qualified a c h, listed_alone a h))
      (minimal_decides n (table_of sets) a l.few c)
