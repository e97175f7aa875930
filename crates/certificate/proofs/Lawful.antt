-- What a line that is read says: it is lawful, its multiplier is in range, and the six bytes are its own.
-- Assumes nothing.
use Rattle.std.proofs.Common.{◌↔◌, ◌≡◌, ℕ, zero, suc, ◌+◌, ◌*◌, ◌<◌, ◌≤◌, Bool, true, false, cond, not, ◌&&◌, eqb, ltb, leb, List, [], ◌∷◌, ◌++◌, length, Decides, take, drop, ℤ, pos, negsuc, ◌≤ℤ◌, Ok, Err, Result, sym, refl, ap, ◌∙◌, subst, ap₂, arith, w16, to_z}
use Rattle.std.specs.List.{AllByRecursion, flat_map}
use Rattle.std.proofs.lemmas.Int.{ints, of_z-to_z}
use Rattle.std.proofs.lemmas.List.{take-append-drop, nil_from_length}
use Rattle.std.proofs.ByRecursion.{All-drop}
use Rattle.std.proofs.lemmas.Bool.{and_from, lt-ltb, le-leb, not_from_false, ltb-true, leb-true, eqb-true, and_parts, not-true}
use Rattle.std.proofs.lemmas.Bool.Decides.{Decides-and, Decides-not, Decides-eqb}
use Rattle.polymatroid.specs.Sets.{InGround, Coalition}
use Rattle.polymatroid.specs.Tests.{in_ground, within, coalition}
use Rattle.polymatroid.specs.Inequality.{LawfulAt, Lawful}
use Rattle.polymatroid.specs.declared.inequality.Inequality.{Inequality}
use Rattle.polymatroid.specs.declared.inequality.Inequality.TheVariants.{Monotonicity, Submodularity, Correctness, Privacy}
use Rattle.polymatroid.specs.declared.inequality.Line.{Line}
use Rattle.polymatroid.proofs.Decides.{ground_decides, within_decides, coalition_decides}
use Rattle.record.specs.declared.faults.Reason.{Reason}
use Rattle.record.specs.declared.faults.Reason.TheVariants.{CutShort, WrongMark, OutOfRange, SetNotAllowed, Unlawful, LeftOver}
use Rattle.record.specs.Faults.{outside, in_line, of_line}
use Rattle.record.specs.Reading.{tried, and_then, refused_as, holds, byte, two, marked, two_bytes, Bytes}
use Rattle.record.proofs.Stored.{two_stored, byte_small, first_bytes, byte_drop, two_drop}
use Rattle.record.proofs.Trying.{tried_says, ok_says, marked_decides, tried_ok, and_then_ok, refused_as_ok, ok_same}
use Rattle.certificate.specs.Lines.{monotonicity_mark, submodularity_mark, correctness_mark, privacy_mark, multiplier_limit, InRange, usable, positive, line, monotonicity, submodularity, correctness, privacy, line_of, numbered_line, lines_of, stored, encode_at, encode_line}

-- ---- the multiplier
pub usable_range : (limit : ℕ) (m : ℤ) → usable limit m ≡ true → InRange limit m × (m ≡ pos 0 → ⊥)
usable_range limit (pos m) p =
    let q = and_parts (ltb 0 m) (leb m limit) p in
    let l : 0 < m = ltb-true 0 m q.0 in
    let h : m ≤ limit = leb-true m limit q.1 in
    ((omega (arith, ints), omega (arith, ints)), λ e. omega (arith, ints))
usable_range limit (negsuc m) p =
    let h : m < limit = ltb-true m limit p in
    ((omega (arith, ints), omega (arith, ints)), λ e. omega (arith, ints))

range_usable : (limit : ℕ) (m : ℤ) → InRange limit m → (m ≡ pos 0 → ⊥) → usable limit m ≡ true
range_usable limit (pos zero) r ne = absurd (ne refl)
range_usable limit (pos (suc m)) r ne =
    let h : suc m ≤ limit = omega (arith, ints, r.1) in
    and_from (ltb 0 (suc m)) (leb (suc m) limit) (lt-ltb 0 (suc m) (omega arith)) (le-leb (suc m) limit h)
range_usable limit (negsuc m) r ne =
    let h : m < limit = omega (arith, ints, r.0) in lt-ltb m limit h

usable_decides : (m : ℤ) → Decides (usable multiplier_limit m) (InRange multiplier_limit m × (m ≡ pos 0 → ⊥))
usable_decides m = (usable_range multiplier_limit m, λ h. range_usable multiplier_limit m h.0 h.1)

positive_decides : (m : ℤ) → Decides (positive m) (pos 1 ≤ℤ m)
positive_decides m = (λ p. omega (arith, ints), λ p. sym (omega (arith, ints)))

-- ---- one of four marks, and what was read behind it
four_ways : {X : Type 0} (t₀ t₁ t₂ t₃ : Bool) (r₀ r₁ r₂ r₃ : Result Line Reason) (l : Line) →
    cond t₀ r₀ (cond t₁ r₁ (cond t₂ r₂ (cond t₃ r₃ (Err WrongMark)))) ≡ Ok l →
    (t₀ ≡ true → r₀ ≡ Ok l → X) → (t₁ ≡ true → r₁ ≡ Ok l → X) → (t₂ ≡ true → r₂ ≡ Ok l → X) → (t₃ ≡ true → r₃ ≡ Ok l → X) → X
four_ways true t₁ t₂ t₃ r₀ r₁ r₂ r₃ l p f₀ f₁ f₂ f₃ = f₀ refl p
four_ways false true t₂ t₃ r₀ r₁ r₂ r₃ l p f₀ f₁ f₂ f₃ = f₁ refl p
four_ways false false true t₃ r₀ r₁ r₂ r₃ l p f₀ f₁ f₂ f₃ = f₂ refl p
four_ways false false false true r₀ r₁ r₂ r₃ l p f₀ f₁ f₂ f₃ = f₃ refl p
four_ways false false false false r₀ r₁ r₂ r₃ l p f₀ f₁ f₂ f₃ = cc

-- ---- what a line says that is read by the rules of its kind
pub record Says (n : ℕ) (qualified : ℕ → Bool) (m : ℤ) (i : Inequality) (l : Line) : Type 0 where
  pub is : line m i ≡ l
  pub lawful : LawfulAt n qualified m i
  pub ranged : InRange multiplier_limit m

-- the three tests of a kind
tests_say : {P Q R : Type 0} (t₀ t₁ t₂ : Bool) (m : ℤ) (i : Inequality) (l : Line) → Decides t₀ P → Decides t₁ Q → Decides t₂ R →
    (tried t₀ OutOfRange (tried t₁ SetNotAllowed (tried t₂ Unlawful (Ok (line m i)))) ≡ Ok l) ↔ (P × (Q × (R × (line m i ≡ l))))
tests_say t₀ t₁ t₂ m i l d e f = tried_says t₀ OutOfRange _ l d (tried_says t₁ SetNotAllowed _ l e (tried_says t₂ Unlawful _ l f (ok_says (line m i) l)))

module _ (n : ℕ) (qualified : ℕ → Bool) (m : ℤ) (a b : ℕ) (l : Line) where
  strict : Decides (usable multiplier_limit m && positive m) ((InRange multiplier_limit m × (m ≡ pos 0 → ⊥)) × (pos 1 ≤ℤ m))
  strict = Decides-and (usable multiplier_limit m) (positive m) (usable_decides m) (positive_decides m)

  both : Decides (in_ground n a && in_ground n b) (InGround n a × InGround n b)
  both = Decides-and (in_ground n a) (in_ground n b) (ground_decides n a) (ground_decides n b)

  alone : Decides (coalition n a && eqb b 0) (Coalition n a × (b ≡ 0))
  alone = Decides-and (coalition n a) (eqb b 0) (coalition_decides n a) (Decides-eqb b 0)

  pub monotonicity_says : (monotonicity n m a b ≡ Ok l) ↔ Says n qualified m (Monotonicity a b) l
  monotonicity_says =
      let t = tests_say _ _ _ m (Monotonicity a b) l strict both (Decides-and (within a b) (not (eqb a b)) (within_decides a b) (Decides-not (eqb a b) (Decides-eqb a b))) in (
        λ p. let (u, (g, (w, is))) = t.0 p in record { is = is; lawful = (g.0, g.1, w.0, w.1, u.1); ranged = u.0.0 },
        λ s. let (g, h, w, ne, one) = s.lawful in t.1 (((s.ranged, λ e. omega (arith, ints)), one), ((g, h), ((w, ne), s.is))),
      )

  pub submodularity_says : (submodularity n m a b ≡ Ok l) ↔ Says n qualified m (Submodularity a b) l
  submodularity_says =
      let t = tests_say _ _ _ m (Submodularity a b) l strict both
      (Decides-and (not (within a b)) (not (within b a)) (Decides-not (within a b) (within_decides a b)) (Decides-not (within b a) (within_decides b a))) in (
        λ p. let (u, (g, (w, is))) = t.0 p in record { is = is; lawful = (g.0, g.1, w.0, w.1, u.1); ranged = u.0.0 },
        λ s. let (g, h, v, w, one) = s.lawful in t.1 (((s.ranged, λ e. omega (arith, ints)), one), ((g, h), ((v, w), s.is))),
      )

  pub correctness_says : (correctness n qualified m a b ≡ Ok l) ↔ (Says n qualified m (Correctness a) l × (b ≡ 0))
  correctness_says =
      let t = tests_say _ _ _ m (Correctness a) l (usable_decides m) alone (λ e. e, λ e. e) in (
        λ p. let (u, (c, (q, is))) = t.0 p in (record { is = is; lawful = (c.0, q, u.1); ranged = u.0 }, c.1),
        λ s. let (c, q, ne) = s.0.lawful in t.1 ((s.0.ranged, ne), ((c, s.1), (q, s.0.is))),
      )

  pub privacy_says : (privacy n qualified m a b ≡ Ok l) ↔ (Says n qualified m (Privacy a) l × (b ≡ 0))
  privacy_says =
      let t = tests_say _ _ _ m (Privacy a) l (usable_decides m) alone (not-true (qualified a), not_from_false (qualified a)) in (
        λ p. let (u, (c, (q, is))) = t.0 p in (record { is = is; lawful = (c.0, q, u.1); ranged = u.0 }, c.1),
        λ s. let (c, q, ne) = s.0.lawful in t.1 ((s.0.ranged, ne), ((c, s.1), (q, s.0.is))),
      )

-- ---- the bytes of a line
six_stored : (m₀ m₁ b₀ b₁ b₂ b₃ b₄ b₅ : ℕ) → b₀ ≡ m₀ → b₁ ≡ m₁ → b₂ < 256 → b₃ < 256 →
    b₀ ∷ b₁ ∷ b₂ ∷ b₃ ∷ b₄ ∷ b₅ ∷ [] ≡ stored (m₀ ∷ m₁ ∷ []) (to_z w16 (b₂ * 256 + b₃)) b₄ b₅
six_stored m₀ m₁ b₀ b₁ b₂ b₃ b₄ b₅ p q l h =
    ap₂ (λ u v. u ∷ v ∷ b₂ ∷ b₃ ∷ b₄ ∷ b₅ ∷ []) p q ∙
    ap (λ (bs : List ℕ). m₀ ∷ m₁ ∷ (bs ++ (b₄ ∷ b₅ ∷ []))) (sym (ap two_bytes (of_z-to_z w16 (b₂ * 256 + b₃) (omega arith)) ∙ two_stored b₂ b₃ l h))

pub record LineRead (n : ℕ) (qualified : ℕ → Bool) (bytes : List ℕ) (l : Line) : Type 0 where
  pub lawful : Lawful n qualified l
  pub ranged : InRange multiplier_limit l.multiplier
  pub encoded : Bytes bytes → take 6 bytes ≡ encode_line l

six_encoded : (bytes : List ℕ) (m₀ m₁ : ℕ) → holds 6 bytes ≡ true → marked bytes (m₀ ∷ m₁ ∷ []) ≡ true → Bytes bytes →
    take 6 bytes ≡ stored (m₀ ∷ m₁ ∷ []) (to_z w16 (two (drop 2 bytes) 0)) (byte (drop 2 bytes) 2) (byte (drop 2 bytes) 3)
six_encoded bytes m₀ m₁ h t bs =
    let mark = (marked_decides bytes m₀ m₁).0 t in
    rw (two_drop 2 bytes 0 2 refl, byte_drop 2 bytes 2 4 refl, byte_drop 2 bytes 3 5 refl)
    (first_bytes 6 bytes (leb-true 6 (length bytes) h) ∙
    six_stored m₀ m₁ (byte bytes 0) (byte bytes 1) (byte bytes 2) (byte bytes 3) (byte bytes 4) (byte bytes 5) mark.0 mark.1 (byte_small bytes 2 bs) (byte_small bytes 3 bs))

module _ (n : ℕ) (qualified : ℕ → Bool) where
  -- the line that the rules of its kind give, with the bytes that its kind stores
  read_as : (bytes : List ℕ) (m : ℤ) (i : Inequality) (l : Line) → Says n qualified m i l → (Bytes bytes → take 6 bytes ≡ encode_at m i) → LineRead n qualified bytes l
  read_as bytes m i l s e =
      subst (LineRead n qualified bytes) s.is (record { lawful = s.lawful; ranged = s.ranged; encoded = e })

  pub line_read : (bytes : List ℕ) (l : Line) → line_of n qualified bytes ≡ Ok l → LineRead n qualified bytes l
  line_read bytes l p =
      let m = to_z w16 (two (drop 2 bytes) 0) in
      let a = byte (drop 2 bytes) 2 in
      let b = byte (drop 2 bytes) 3 in
      let h = tried_ok (holds 6 bytes) CutShort (
      cond (marked bytes monotonicity_mark) (monotonicity n m a b) (
      cond (marked bytes submodularity_mark) (submodularity n m a b) (
      cond (marked bytes correctness_mark) (correctness n qualified m a b) (
      cond (marked bytes privacy_mark) (privacy n qualified m a b) (Err WrongMark))))) l p in
      four_ways (marked bytes monotonicity_mark) (marked bytes submodularity_mark) (marked bytes correctness_mark) (marked bytes privacy_mark)
      (monotonicity n m a b) (submodularity n m a b) (correctness n qualified m a b) (privacy n qualified m a b) l h.1
      (λ t r. read_as bytes m (Monotonicity a b) l ((monotonicity_says n qualified m a b l).0 r) (six_encoded bytes 0x52 0x49 h.0 t))
      (λ t r. read_as bytes m (Submodularity a b) l ((submodularity_says n qualified m a b l).0 r) (six_encoded bytes 0x4C 0x45 h.0 t))
      (λ t r. let s = (correctness_says n qualified m a b l).0 r in
      read_as bytes m (Correctness a) l s.0 (λ bs. six_encoded bytes 0x48 0x45 h.0 t bs ∙ ap (stored correctness_mark m a) s.1))
      (λ t r. let s = (privacy_says n qualified m a b l).0 r in
      read_as bytes m (Privacy a) l s.0 (λ bs. six_encoded bytes 0x42 0x4C h.0 t bs ∙ ap (stored privacy_mark m a) s.1))

pub record LinesRead (n : ℕ) (qualified : ℕ → Bool) (k : ℕ) (bytes : List ℕ) (ls : List Line) : Type 0 where
  pub number : length ls ≡ k
  pub lawful : AllByRecursion (Lawful n qualified) ls
  pub ranged : AllByRecursion (λ l. InRange multiplier_limit l.multiplier) ls
  pub encoded : Bytes bytes → bytes ≡ flat_map encode_line ls

module _ (n : ℕ) (qualified : ℕ → Bool) where
  none_read : (i : ℕ) (bytes : List ℕ) → eqb (length bytes) 0 ≡ true → LinesRead n qualified 0 bytes []
  none_read i bytes t = record { number = refl; lawful = tt; ranged = tt; encoded = λ bs. nil_from_length bytes (eqb-true (length bytes) 0 t) }

  one_more : (k : ℕ) (bytes : List ℕ) (l : Line) (ls : List Line) → LineRead n qualified bytes l → LinesRead n qualified k (drop 6 bytes) ls → LinesRead n qualified (suc k) bytes (l ∷ ls)
  one_more k bytes l ls r s = record {
    number = ap suc s.number;
    lawful = (r.lawful, s.lawful);
    ranged = (r.ranged, s.ranged);
    encoded = λ bs. sym (take-append-drop 6 bytes) ∙ ap₂ (λ (x y : List ℕ). x ++ y) (r.encoded bs) (s.encoded (All-drop (λ b. b < 256) 6 bytes bs));
  }

  pub lines_read : (k i : ℕ) (bytes : List ℕ) (ls : List Line) → lines_of n qualified k i bytes ≡ Ok ls → LinesRead n qualified k bytes ls
  lines_read zero i bytes ls p =
      let q = tried_ok (eqb (length bytes) 0) (outside LeftOver) (Ok []) ls p in
      subst (LinesRead n qualified 0 bytes) (ok_same [] ls q.1) (none_read i bytes q.0)
  lines_read (suc k) i bytes ls p =
      let a = and_then_ok (refused_as of_line (numbered_line n qualified i bytes)) (λ l. and_then (lines_of n qualified k (i + 1) (drop 6 bytes)) (λ rest. Ok (l ∷ rest))) ls p in
      let b = and_then_ok (lines_of n qualified k (i + 1) (drop 6 bytes)) (λ rest. Ok (a.0 ∷ rest)) ls a.2 in
      let r = refused_as_ok (in_line i) (line_of n qualified bytes) a.0 (refused_as_ok of_line (numbered_line n qualified i bytes) a.0 a.1) in
      subst (LinesRead n qualified (suc k) bytes) (ok_same (a.0 ∷ b.0) ls b.2)
      (one_more k bytes a.0 b.0 (line_read n qualified bytes a.0 r) (lines_read k (i + 1) (drop 6 bytes) b.0 b.1))

  pub lines_lawful : (k i : ℕ) (bytes : List ℕ) (ls : List Line) → lines_of n qualified k i bytes ≡ Ok ls → AllByRecursion (Lawful n qualified) ls
  lines_lawful k i bytes ls p = (lines_read k i bytes ls p).lawful
