-- The bytes of a lawful line are read as that line. Assumes nothing.
use Rattle.std.proofs.Common.{◌≡◌, ℕ, suc, ◌+◌, ◌*◌, ◌/◌, ◌%◌, ◌≤◌, Bool, List, [], ◌∷◌, ◌++◌, length, drop, ℤ, Ok, Result, refl, ap, ◌∙◌, arith, w16, to_z, of_z}
use Rattle.std.specs.List.{AllByRecursion, flat_map}
use Rattle.std.proofs.lemmas.Int.{ints, to_z-of_z}
use Rattle.std.proofs.lemmas.Nat.{div-add-mod'}
use Rattle.std.proofs.lemmas.Bool.{le-leb}
use Rattle.polymatroid.specs.Inequality.{LawfulAt, Lawful}
use Rattle.polymatroid.specs.declared.inequality.Inequality.{Inequality}
use Rattle.polymatroid.specs.declared.inequality.Inequality.TheVariants.{Monotonicity, Submodularity, Correctness, Privacy}
use Rattle.polymatroid.specs.declared.inequality.Line.{Line}
use Rattle.record.specs.declared.faults.Reason.{Reason}
use Rattle.record.specs.declared.faults.Reason.TheVariants.{CutShort}
use Rattle.record.specs.Reading.{tried, holds}
use Rattle.record.proofs.Trying.{tried_pass}
use Rattle.certificate.proofs.Lawful.{Says, monotonicity_says, submodularity_says, correctness_says, privacy_says}
use Rattle.certificate.specs.Lines.{multiplier_limit, InRange, line, monotonicity, submodularity, correctness, privacy, line_of, lines_of, encode_at, encode_line}

-- ---- the multiplier
back : (m : ℤ) → InRange multiplier_limit m → to_z w16 (of_z w16 m / 256 * 256 + of_z w16 m % 256) ≡ m
back m r = ap (to_z w16) (div-add-mod' (of_z w16 m) 256) ∙ to_z-of_z w16 m (omega (arith, ints, r))

module _ (n : ℕ) (qualified : ℕ → Bool) where
  -- ---- a line
  long : (m : ℤ) (i : Inequality) (rest : List ℕ) (r : Result Line Reason) → 6 ≤ length (encode_at m i ++ rest) → tried (holds 6 (encode_at m i ++ rest)) CutShort r ≡ r
  long m i rest r l = tried_pass (holds 6 (encode_at m i ++ rest)) CutShort r (le-leb 6 (length (encode_at m i ++ rest)) l)

  own : (m : ℤ) (i : Inequality) → LawfulAt n qualified m i → InRange multiplier_limit m → Says n qualified m i (line m i)
  own m i l r = record { is = refl; lawful = l; ranged = r }

  line_at : (m : ℤ) (i : Inequality) (rest : List ℕ) → LawfulAt n qualified m i → InRange multiplier_limit m → line_of n qualified (encode_at m i ++ rest) ≡ Ok (line m i)
  line_at m (Monotonicity a b) rest l r = long m (Monotonicity a b) rest _ (omega arith) ∙ ap (λ z. monotonicity n z a b) (back m r) ∙ (monotonicity_says n qualified m a b (line m (Monotonicity a b))).1 (own m (Monotonicity a b) l r)
  line_at m (Submodularity a b) rest l r = long m (Submodularity a b) rest _ (omega arith) ∙ ap (λ z. submodularity n z a b) (back m r) ∙ (submodularity_says n qualified m a b (line m (Submodularity a b))).1 (own m (Submodularity a b) l r)
  line_at m (Correctness a) rest l r = long m (Correctness a) rest _ (omega arith) ∙ ap (λ z. correctness n qualified z a 0) (back m r) ∙ (correctness_says n qualified m a 0 (line m (Correctness a))).1 (own m (Correctness a) l r, refl)
  line_at m (Privacy a) rest l r = long m (Privacy a) rest _ (omega arith) ∙ ap (λ z. privacy n qualified z a 0) (back m r) ∙ (privacy_says n qualified m a 0 (line m (Privacy a))).1 (own m (Privacy a) l r, refl)

  drop_line : (m : ℤ) (i : Inequality) (rest : List ℕ) → drop 6 (encode_at m i ++ rest) ≡ rest
  drop_line m (Monotonicity a b) rest = refl
  drop_line m (Submodularity a b) rest = refl
  drop_line m (Correctness a) rest = refl
  drop_line m (Privacy a) rest = refl

  -- ---- all lines
  after_line : (k i : ℕ) (bytes rest : List ℕ) (l : Line) (ls : List Line) → line_of n qualified bytes ≡ Ok l → drop 6 bytes ≡ rest → lines_of n qualified k (i + 1) rest ≡ Ok ls →
      lines_of n qualified (suc k) i bytes ≡ Ok (l ∷ ls)
  after_line k i bytes rest l ls p d q = rw (p, d, q)

  pub lines_taken : (i : ℕ) (ls : List Line) → AllByRecursion (Lawful n qualified) ls → AllByRecursion (λ l. InRange multiplier_limit l.multiplier) ls → lines_of n qualified (length ls) i (flat_map encode_line ls) ≡ Ok ls
  lines_taken i [] lawful ranged = refl
  lines_taken i (l ∷ ls) lawful ranged =
      after_line (length ls) i (encode_line l ++ flat_map encode_line ls) (flat_map encode_line ls) l ls
      (line_at l.multiplier l.inequality (flat_map encode_line ls) lawful.0 ranged.0)
      (drop_line l.multiplier l.inequality (flat_map encode_line ls))
      (lines_taken (i + 1) ls lawful.1 ranged.1)
