-- The rank of a set's members is a polymatroid. Assumes nothing.
use mathlib.Core.Path.{◌≡◌, sym, subst}
use mathlib.Core.Bool.{Bool}
use mathlib.Core.List.Memᴰ
use mathlib.Core.List.{List, [], ◌++◌, Memᴰ}
use Prim.Native.Nat.{ℕ, ◌+◌, ◌≤◌}
use native.Mathlib.Omega.{arith}
use lib.Dec.{T}
use lib.Bits.{bit_and, bit_or}
use Rattle.matroid.specs.Closure.{Among, Closure, rank}
use Rattle.matroid.specs.Members.{has, members}
use Rattle.polymatroid.specs.Polymatroid.{Polymatroid}
use Rattle.matroid.proofs.Lists.{in_both}
use Rattle.matroid.proofs.Ranks as ranks
use Rattle.matroid.proofs.Bits.{bit_and_left, bit_and_right, bit_zero, held, fewer, joint, joint_back}

module _ {E : Type 0} {cl : E → List E → Bool} (L : Closure E cl) (part : ℕ → List E) (k : ℕ) where
  pub none : rank cl (members part k 0) ≡ 0
  none =
      ranks.rank_order L (members part k 0) [] (λ x m. let r = held part k 0 x m in absurd (bit_zero r.0 r.2))
      (λ x m. absurd (Memᴰ.not-nil m))

  pub grows : (a b : ℕ) → bit_and a b ≡ a → rank cl (members part k a) ≤ rank cl (members part k b)
  grows a b e =
      ranks.rank_within L (members part k a) (members part k b)
      (fewer part k a b (λ i t. bit_and_right a b i (subst (λ s. T (has s i)) (sym e) t)))

  pub bounded : (a b : ℕ) → rank cl (members part k (bit_or a b)) + rank cl (members part k (bit_and a b)) ≤ rank cl (members part k a) + rank cl (members part k b)
  bounded a b =
      let A : List E = members part k a in
      let B : List E = members part k b in
      let I : List E = members part k (bit_and a b) in
      let in_a : Among I A = fewer part k (bit_and a b) a (λ i. bit_and_left a b i) in
      let in_b : Among I B = fewer part k (bit_and a b) b (λ i. bit_and_right a b i) in
      let whole : rank cl (members part k (bit_or a b)) ≡ rank cl (A ++ B) =
      ranks.rank_order L (members part k (bit_or a b)) (A ++ B) (joint part k a b) (joint_back part k a b) in
      let twice : rank cl (A ++ I) ≡ rank cl A =
      ranks.rank_order L (A ++ I) A
      (in_both (λ x. Memᴰ x A) A I (λ x m. m) in_a) (λ x m. Memᴰ.append_left I m) in
      omega (arith, ranks.rank_less L A I B in_b, whole, twice)

pub rank_polymatroid : {E : Type 0} {cl : E → List E → Bool} (L : Closure E cl) (part : ℕ → List E) (n : ℕ) → Polymatroid n (λ s. rank cl (members part (n + 1) s))
rank_polymatroid L part n = record {
  empty = none L part (n + 1);
  monotone = λ a b la lb within. grows L part (n + 1) a b within;
  submodular = λ a b la lb. bounded L part (n + 1) a b;
}
