-- The table holds the coefficients of the lines' combination. Assumes nothing.
use Rattle.std.proofs.Common.{◌≡◌, ℕ, zero, suc, ◌+◌, ◌*◌, ◌^◌, ◌<◌, ◌≤◌, Bool, true, false, ◌&&◌, ◌||◌, eqb, List, [], ◌∷◌, length, get_or, drop, replicate, ℤ, pos, ◌+ℤ◌, ◌-ℤ◌, ◌*ℤ◌, neg_ℤ, Ok, Err, Result, sym, refl, ap, ◌∙◌, subst, ap₂, inl, inr, arith}
use lib.Bits.{bit_and, bit_or, or_lt, and_le_l}
use lib.IntN.{+ℤ_idl, +ℤ_assoc}
use Rattle.std.specs.List.{AllByRecursion}
use Rattle.std.proofs.lemmas.Int.{ints}
use Rattle.std.proofs.lemmas.Bool.{cases_eq, eq-eqb, ne_eqb}
use Rattle.std.proofs.lemmas.List.{get_or-set_same, get_or-set_other, length-set, get_or-replicate}
use Rattle.polymatroid.specs.Sets.{secret, InGround}
use Rattle.polymatroid.specs.Tests.{all_below}
use Rattle.polymatroid.specs.Inequality.{form, LawfulAt, Lawful}
use Rattle.polymatroid.specs.Certificate.{combination, coefficient, unit}
use Rattle.polymatroid.specs.declared.inequality.Inequality.{Inequality}
use Rattle.polymatroid.specs.declared.inequality.Inequality.TheVariants.{Monotonicity, Submodularity, Correctness, Privacy}
use Rattle.polymatroid.specs.declared.inequality.Line.{Line}
use Rattle.polymatroid.proofs.Integers.{mul_add, mul_sub, neg_mul}
use Rattle.record.specs.declared.faults.Reason.TheVariants.{LeftOver, SumDiffers}
use Rattle.record.specs.declared.faults.RecordFault.{RecordFault}
use Rattle.record.specs.Faults.{outside, of_line}
use Rattle.record.specs.Reading.{tried, and_then, refused_as}
use Rattle.certificate.specs.declared.header.Header.{Header}
use Rattle.certificate.specs.Lines.{numbered_line, lines_of}
use Rattle.certificate.specs.Format.{Certificate, total_of, header_in, header_of, certificate}
use Rattle.certificate.specs.Judge.{equal, claimed, adds_up, judge}
use Rattle.access.proofs.Members.{ground_byte}
use Rattle.certificate.proofs.Lawful.{lines_lawful}
use Rattle.verdict.specs.Sums.{add_at, add_form, add_line, sums_of, settled}

-- ---- one addition, at one set
at_set : (t : List ℤ) (i : ℕ) (v : ℤ) (s : ℕ) → i < length t → get_or (add_at t i v) s (pos 0) ≡ get_or t s (pos 0) +ℤ v *ℤ unit s i
at_set t i v s l = elim (cases_eq s i) [
  | inl e ↦ rw (e, get_or-set_same t i (get_or t i (pos 0) +ℤ v) (pos 0) l, eq-eqb i i refl) (omega (arith, ints))
  | inr ne ↦ rw (get_or-set_other t i s (get_or t i (pos 0) +ℤ v) (pos 0) ne, ne_eqb s i ne) (omega (arith, ints))
]

-- a table of 256 numbers, with z at s
record Holds (s : ℕ) (t : List ℤ) (z : ℤ) : Type 0 where
  long : length t ≡ 256
  here : get_or t s (pos 0) ≡ z

plus : {s : ℕ} {t : List ℤ} {z : ℤ} (i : ℕ) (m : ℤ) → i < 256 → Holds s t z → Holds s (add_at t i m) (z +ℤ m *ℤ unit s i)
plus {s} {t} {z} i m l k = record {
  long = length-set t i (get_or t i (pos 0) +ℤ m) ∙ k.long;
  here = at_set t i m s (omega (arith, k.long)) ∙ ap (λ y. y +ℤ m *ℤ unit s i) k.here;
}

minus : {s : ℕ} {t : List ℤ} {z : ℤ} (i : ℕ) (m : ℤ) → i < 256 → Holds s t z → Holds s (add_at t i (neg_ℤ m)) (z -ℤ m *ℤ unit s i)
minus {s} {t} {z} i m l k =
    let p = plus i (neg_ℤ m) l k in
    record { long = p.long; here = p.here ∙ ap (λ y. z +ℤ y) (neg_mul m (unit s i)) }

-- ---- one line
two_terms : (z m x y : ℤ) → z +ℤ m *ℤ x -ℤ m *ℤ y ≡ z +ℤ m *ℤ (x -ℤ y)
two_terms z m x y = rw (mul_sub m x y) (omega (arith, ints))

three_terms : (z m x y w : ℤ) → z +ℤ m *ℤ x -ℤ m *ℤ y -ℤ m *ℤ w ≡ z +ℤ m *ℤ (x -ℤ y -ℤ w)
three_terms z m x y w = rw (mul_sub m (x -ℤ y) w, mul_sub m x y) (omega (arith, ints))

four_terms : (z m u x y w : ℤ) → z +ℤ m *ℤ u +ℤ m *ℤ x -ℤ m *ℤ y -ℤ m *ℤ w ≡ z +ℤ m *ℤ (u +ℤ x -ℤ y -ℤ w)
four_terms z m u x y w = rw (mul_sub m (u +ℤ x -ℤ y) w, mul_sub m (u +ℤ x) y, mul_add m u x) (omega (arith, ints))

module _ (n : ℕ) (few : n ≤ 7) (qualified : ℕ → Bool) where
  form_added : {s : ℕ} {t : List ℤ} {z : ℤ} (m : ℤ) (i : Inequality) → LawfulAt n qualified m i → Holds s t z →
      Holds s (add_form t m i) (z +ℤ m *ℤ form i (unit s))
  form_added {s} {t} {z} m (Monotonicity a b) k start =
      subst (Holds s _) (two_terms z m (unit s b) (unit s a)) (minus a m (ground_byte n a few k.0) (plus b m (ground_byte n b few k.1) start))
  form_added {s} {t} {z} m (Submodularity a b) k start =
      let la : a < 256 = ground_byte n a few k.0 in
      let lb : b < 256 = ground_byte n b few k.1 in
      subst (Holds s _) (four_terms z m (unit s a) (unit s b) (unit s (bit_or a b)) (unit s (bit_and a b)))
      (minus (bit_and a b) m (omega (arith, and_le_l a b)) (minus (bit_or a b) m (or_lt 8 a b la lb) (plus b m lb (plus a m la start))))
  form_added {s} {t} {z} m (Correctness a) k start =
      let la : a < 256 = ground_byte n a few k.0.0 in
      subst (Holds s _) (two_terms z m (unit s (bit_or a secret)) (unit s a)) (minus a m la (plus (bit_or a secret) m (or_lt 8 a secret la (omega arith)) start))
  form_added {s} {t} {z} m (Privacy a) k start =
      let la : a < 256 = ground_byte n a few k.0.0 in
      subst (Holds s _) (three_terms z m (unit s (bit_or a secret)) (unit s a) (unit s secret))
      (minus secret m (omega arith) (minus a m la (plus (bit_or a secret) m (or_lt 8 a secret la (omega arith)) start)))

-- ---- all lines
abbrev add_lines : List ℤ → List Line → List ℤ
add_lines t [] = t
add_lines t (l ∷ ls) = add_lines (add_line t l) ls

abbrev zeros : List ℤ
zeros = replicate 256 (pos 0)

module _ (n : ℕ) (few : n ≤ 7) (qualified : ℕ → Bool) where
  lines_added : {s : ℕ} {t : List ℤ} {z : ℤ} (ls : List Line) → AllByRecursion (Lawful n qualified) ls → Holds s t z →
      get_or (add_lines t ls) s (pos 0) ≡ z +ℤ combination ls (unit s)
  lines_added {s} {t} {z} [] all k = k.here ∙ omega (arith, ints)
  lines_added {s} {t} {z} (l ∷ ls) all k =
      lines_added {t = add_line t l} ls all.1 (form_added n few qualified l.multiplier l.inequality all.0 k) ∙
      +ℤ_assoc z (l.multiplier *ℤ form l.inequality (unit s)) (combination ls (unit s))

  coefficients : (s : ℕ) (ls : List Line) → InGround n s → AllByRecursion (Lawful n qualified) ls → coefficient (combination ls) s ≡ get_or (add_lines zeros ls) s (pos 0)
  coefficients s ls l all =
      let empty : Holds s zeros (pos 0) = record { long = refl; here = get_or-replicate 256 s (pos 0) (pos 0) (ground_byte n s few l) } in
      sym (lines_added ls all empty ∙ +ℤ_idl (combination ls (unit s)))

-- ---- the same reading, into a table in place of a list
module _ (n : ℕ) (qualified : ℕ → Bool) where
  ended : (b : Bool) (e : RecordFault) (t : List ℤ) → tried b e (Ok t) ≡ and_then (tried b e (Ok [])) (λ ls. Ok (add_lines t ls))
  ended true e t = refl
  ended false e t = refl

  one_more : (r : Result (List Line) RecordFault) (l : Line) (t : List ℤ) →
      and_then {E = RecordFault} r (λ ls. Ok (add_lines (add_line t l) ls)) ≡ and_then {E = RecordFault} (and_then r (λ ls. Ok (l ∷ ls))) (λ ls. Ok (add_lines t ls))
  one_more (Ok ls) l t = refl
  one_more (Err e) l t = refl

  turn : (k i : ℕ) (bytes : List ℕ) (t : List ℤ) (r : Result Line RecordFault) →
      ((t : List ℤ) → sums_of n qualified k (i + 1) (drop 6 bytes) t ≡ and_then (lines_of n qualified k (i + 1) (drop 6 bytes)) (λ ls. Ok (add_lines t ls))) →
      and_then r (λ l. sums_of n qualified k (i + 1) (drop 6 bytes) (add_line t l))
      ≡ and_then {E = RecordFault} (and_then r (λ l. and_then (lines_of n qualified k (i + 1) (drop 6 bytes)) (λ ls. Ok (l ∷ ls)))) (λ ls. Ok (add_lines t ls))
  turn k i bytes t (Ok l) ih = ih (add_line t l) ∙ one_more (lines_of n qualified k (i + 1) (drop 6 bytes)) l t
  turn k i bytes t (Err e) ih = refl

  sums_are : (k i : ℕ) (bytes : List ℕ) (t : List ℤ) → sums_of n qualified k i bytes t ≡ and_then (lines_of n qualified k i bytes) (λ ls. Ok (add_lines t ls))
  sums_are zero i bytes t = ended (eqb (length bytes) 0) (outside LeftOver) t
  sums_are (suc k) i bytes t = turn k i bytes t (refused_as of_line (numbered_line n qualified i bytes)) (sums_are k (i + 1) (drop 6 bytes))

-- ---- the test of the table is the test of the lines
same_below : (k : ℕ) (f g : ℕ → Bool) → ((s : ℕ) → s < k → f s ≡ g s) → all_below k f ≡ all_below k g
same_below zero f g e = refl
same_below (suc k) f g e = ap₂ (λ x y. x && y) (e k (omega arith)) (same_below k f g (λ s l. e s (omega arith)))

-- what is judged by the lines, and by their table
abbrev by_lines : Certificate → Result (ℕ × ℕ) RecordFault
by_lines c = tried (adds_up c) (outside SumDiffers) (Ok (c.header.count, total_of c.header))

abbrev by_table : Header → List ℤ → Result (ℕ × ℕ) RecordFault
by_table h t = tried (settled h t) (outside SumDiffers) (Ok (h.count, total_of h))

module _ (qualified : ℕ → Bool) (h : Header) (few : h.participants ≤ 7) where
  settles : (ls : List Line) → AllByRecursion (Lawful h.participants qualified) ls → adds_up (certificate h ls) ≡ settled h (add_lines zeros ls)
  settles ls all =
      same_below (2 ^ (h.participants + 1)) _ _ (λ s l. ap (λ z. eqb s 0 || equal z (claimed h s)) (coefficients h.participants few qualified s ls l all))

  alike : (r : Result (List Line) RecordFault) → ((ls : List Line) → r ≡ Ok ls → AllByRecursion (Lawful h.participants qualified) ls) →
      and_then {E = RecordFault} (and_then r (λ ls. Ok (certificate h ls))) by_lines ≡ and_then {E = RecordFault} (and_then r (λ ls. Ok (add_lines zeros ls))) (by_table h)
  alike (Ok ls) lawful = ap (λ b. tried b (outside SumDiffers) (Ok (h.count, total_of h))) (settles ls (lawful ls refl))
  alike (Err f) lawful = refl

-- a head that is read is what stands in the bytes
pub head_is : (n : ℕ) (bytes : List ℕ) (h : Header) → Ok h ≡ header_of n bytes → h ≡ header_in n bytes
head_is n bytes h e = grind arith

-- the judgement on what follows a head that is read, by the table of its lines
by_its_lines : (qualified : ℕ → Bool) (h : Header) → h.participants ≤ 7 → (bytes : List ℕ) → Ok h ≡ header_of h.participants bytes →
    judge h.participants qualified bytes
    ≡ and_then (sums_of h.participants qualified h.lines 1 (drop (2 * h.participants + 9) bytes) zeros) (by_table h)
by_its_lines qualified h few bytes e =
    let n : ℕ = h.participants in
    let rest : List ℕ = drop (2 * n + 9) bytes in
    ap (λ r. and_then {E = RecordFault} (and_then (refused_as outside r) (λ g. and_then (lines_of n qualified g.lines 1 rest) (λ ls. Ok (certificate g ls)))) by_lines) (sym e) ∙
    alike qualified h few (lines_of n qualified h.lines 1 rest) (λ ls p. lines_lawful n qualified h.lines 1 rest ls p) ∙
    ap (λ r. and_then r (by_table h)) (sym (sums_are n qualified h.lines 1 rest zeros))

pub judged : (n : ℕ) (qualified : ℕ → Bool) (h : Header) (bytes rest : List ℕ) (r : Result (List ℤ) RecordFault) → h.participants ≤ 7 → Ok h ≡ header_of n bytes →
    r ≡ sums_of n qualified h.lines 1 rest zeros → rest ≡ drop (2 * n + 9) bytes → and_then r (by_table h) ≡ judge n qualified bytes
judged n qualified h bytes rest r few e p at =
    let same : h.participants ≡ n = ap (λ (g : Header). g.participants) (head_is n bytes h e) in
    ap (λ x. and_then x (by_table h)) (p ∙ ap (λ b. sums_of n qualified h.lines 1 b zeros) at) ∙
    sym (
    subst (λ k. judge k qualified bytes ≡ and_then (sums_of k qualified h.lines 1 (drop (2 * k + 9) bytes) zeros) (by_table h)) same
    (by_its_lines qualified h few bytes (e ∙ ap (λ k. header_of k bytes) (sym same))))
