-- The smaller of a threshold and a weight is a polymatroid. Assumes nothing.
use Rattle.std.proofs.Common.{◌≡◌, ℕ, zero, suc, ◌+◌, ◌≤◌, min, Bool, true, false, cond, T, List, sym, refl, subst, inl, inr, arith}
use lib.Bits.{bit_and, bit_or}
use Rattle.polymatroid.specs.Sets.{Within}
use Rattle.polymatroid.specs.Polymatroid.{Polymatroid}
use Rattle.matroid.specs.Members.{has}
use Rattle.matroid.proofs.Bits.{bit_and_left, bit_and_right, bit_or_left, bit_or_right, bit_or_cases, bit_zero, bit_and_both}
use Rattle.formula.specs.Thresholds.{weight_at, weight_below}
use Rattle.formula.specs.Theorems.{ThresholdsPolymatroid}

-- an element is in a union or an intersection as often as in the two sets
counted : (x y u i : Bool) (w : ℕ) → (T x → T u) → (T y → T u) → (T i → T x) → (T i → T y) → (T u → (T x → ⊥) → T y) → (T x → T y → T i)
    → cond u w 0 + cond i w 0 ≡ cond x w 0 + cond y w 0
counted true true true true w a b c d e f = refl
counted true true true false w a b c d e f = absurd (f tt tt)
counted true true false i w a b c d e f = absurd (a tt)
counted true false true true w a b c d e f = absurd (d tt)
counted true false true false w a b c d e f = refl
counted true false false i w a b c d e f = absurd (a tt)
counted false true true true w a b c d e f = absurd (c tt)
counted false true true false w a b c d e f = omega arith
counted false true false i w a b c d e f = absurd (b tt)
counted false false true i w a b c d e f = absurd (e tt (λ t. t))
counted false false false true w a b c d e f = absurd (c tt)
counted false false false false w a b c d e f = refl

fewer : (x y : Bool) (w : ℕ) → (T x → T y) → cond x w 0 ≤ cond y w 0
fewer true true w f = omega arith
fewer true false w f = absurd (f tt)
fewer false y w f = omega arith

none : (x : Bool) (w : ℕ) → (T x → ⊥) → cond x w 0 ≡ 0
none true w f = absurd (f tt)
none false w f = refl

module _ (weights : List ℕ) where
  weight_none : (k : ℕ) → weight_below weights k 0 ≡ 0
  weight_none zero = refl
  weight_none (suc k) = omega (arith, weight_none k, none (has 0 k) (weight_at weights k) (bit_zero k))

  weight_grows : (k a b : ℕ) → Within a b → weight_below weights k a ≤ weight_below weights k b
  weight_grows zero a b w = omega arith
  weight_grows (suc k) a b w =
      omega (
        arith,
        weight_grows k a b w,
        fewer (has a k) (has b k) (weight_at weights k) (λ t. bit_and_right a b k (subst (λ s. T (has s k)) (sym w) t)),
      )

  weight_within : (k a b : ℕ) → (weight_below weights k (bit_and a b) ≤ weight_below weights k a) × (weight_below weights k (bit_and a b) ≤ weight_below weights k b)
  weight_within zero a b = (omega arith, omega arith)
  weight_within (suc k) a b =
      let h = weight_within k a b in
      let w : ℕ = weight_at weights k in (
        omega (arith, h.0, fewer (has (bit_and a b) k) (has a k) w (bit_and_left a b k)),
        omega (arith, h.1, fewer (has (bit_and a b) k) (has b k) w (bit_and_right a b k)),
      )

  weight_adds : (k a b : ℕ) → weight_below weights k (bit_or a b) + weight_below weights k (bit_and a b) ≡ weight_below weights k a + weight_below weights k b
  weight_adds zero a b = refl
  weight_adds (suc k) a b =
      omega (
        arith,
        weight_adds k a b,
        counted (has a k) (has b k) (has (bit_or a b) k) (has (bit_and a b) k) (weight_at weights k)
            (bit_or_left a b k) (bit_or_right a b k) (bit_and_left a b k) (bit_and_right a b k)
            (λ t n. elim (bit_or_cases a b k t) [ inl x ↦ absurd (n x) | inr y ↦ y ]) (bit_and_both a b k),
      )

  pub threshold_polymatroid : (n t k : ℕ) → Polymatroid n (λ s. min t (weight_below weights k s))
  threshold_polymatroid n t k = record {
    empty = omega (arith, weight_none k);
    monotone = λ a b la lb w. omega (arith, weight_grows k a b w);
    submodular = λ a b la lb. omega (arith, weight_adds k a b, weight_within k a b);
  }

pub thresholds_lawful : ThresholdsPolymatroid
thresholds_lawful t l = threshold_polymatroid t.weights t.participants t.threshold (t.participants + 1)
