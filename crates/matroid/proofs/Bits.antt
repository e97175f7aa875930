-- The bits of a union and of an intersection, and the elements that a set's indexes hold. Assumes nothing.
use mathlib.Core.Path.{◌≡◌, sym, subst}
use mathlib.Core.Bool.{Bool, true, false, cond}
use mathlib.Core.List.Memᴰ
use mathlib.Core.List.{List, [], ◌++◌, Memᴰ}
use mathlib.Core.Logic.{◌⊎◌, inl, inr}
use Prim.Native.Nat.{ℕ, zero, suc, ◌/◌, ◌%◌, ◌^◌, ◌<◌}
use native.Mathlib.Omega.{arith}
use lib.Dec.{T, eqb, eqb→eq}
use lib.Bits.{bit_and, bit_or}
use Rattle.std.proofs.lemmas.Bool.{cases_eq}
use Rattle.std.proofs.lemmas.Nat.Bits.{bit_at_and, bit_at_or, bit_at-zero}
use Rattle.matroid.specs.Closure.{Among}
use Rattle.matroid.specs.Members.{has, members}
use Rattle.matroid.proofs.Lists.{in_both}

is_one : (x : ℕ) → x ≡ 1 → T (eqb x 1)
is_one x e = subst (λ y. T (eqb y 1)) (sym e) tt

pub bit_and_left : (a b i : ℕ) → T (has (bit_and a b) i) → T (has a i)
bit_and_left a b i t = is_one _ (omega (arith, eqb→eq _ _ t, bit_at_and a b i))

pub bit_and_right : (a b i : ℕ) → T (has (bit_and a b) i) → T (has b i)
bit_and_right a b i t = is_one _ (omega (arith, eqb→eq _ _ t, bit_at_and a b i))

pub bit_and_both : (a b i : ℕ) → T (has a i) → T (has b i) → T (has (bit_and a b) i)
bit_and_both a b i s t = is_one _ (omega (arith, eqb→eq _ _ s, eqb→eq _ _ t, bit_at_and a b i))

pub bit_or_left : (a b i : ℕ) → T (has a i) → T (has (bit_or a b) i)
bit_or_left a b i t = is_one _ (omega (arith, eqb→eq _ _ t, bit_at_or a b i))

pub bit_or_right : (a b i : ℕ) → T (has b i) → T (has (bit_or a b) i)
bit_or_right a b i t = is_one _ (omega (arith, eqb→eq _ _ t, bit_at_or a b i))

pub bit_or_cases : (a b i : ℕ) → T (has (bit_or a b) i) → T (has a i) ⊎ T (has b i)
bit_or_cases a b i t = elim (cases_eq (a / 2 ^ i % 2) 1) [ inl e ↦ inl (is_one _ e) | inr n ↦ inr (is_one _ (omega (arith, eqb→eq _ _ t, bit_at_or a b i))) ]

pub bit_zero : (i : ℕ) → T (has 0 i) → ⊥
bit_zero i t = omega (arith, eqb→eq _ _ t, bit_at-zero i)

module _ {E : Type 0} (part : ℕ → List E) where
  in_cond : (x : E) (b : Bool) (ws : List E) → Memᴰ x (cond b ws []) → T b × Memᴰ x ws
  in_cond x true ws m = (tt, m)
  in_cond x false ws m = absurd (Memᴰ.not-nil m)

  cond_in : (x : E) (b : Bool) (ws : List E) → T b → Memᴰ x ws → Memᴰ x (cond b ws [])
  cond_in x true ws t m = m
  cond_in x false ws t m = absurd t

  -- an element of the members is held by some index of the set
  pub held : (k s : ℕ) (x : E) → Memᴰ x (members part k s) → (i : ℕ) × (i < k) × T (has s i) × Memᴰ x (part i)
  held zero s x m = absurd (Memᴰ.not-nil m)
  held (suc k) s x m = elim (Memᴰ.append_cases (members part k s) m) [
    | inl j ↦ let r = held k s x j in let l = r.1 in (r.0, omega arith, r.2, r.3)
    | inr j ↦ let r = in_cond x (has s k) (part k) j in (k, omega arith, r.0, r.1)
  ]

  pub holds : (k s : ℕ) (x : E) (i : ℕ) → i < k → T (has s i) → Memᴰ x (part i) → Memᴰ x (members part k s)
  holds zero s x i l t m = absurd (omega arith)
  holds (suc k) s x i l t m = elim (cases_eq i k) [
    | inl e ↦ Memᴰ.append_right (members part k s)
        (cond_in x (has s k) (part k) (subst (λ j. T (has s j)) e t) (subst (λ j. Memᴰ x (part j)) e m))
    | inr n ↦ Memᴰ.append_left (cond (has s k) (part k) []) (holds k s x i (omega arith) t m)
  ]

  pub fewer : (k s t : ℕ) → ((i : ℕ) → T (has s i) → T (has t i)) → Among (members part k s) (members part k t)
  fewer k s t f x m = let r = held k s x m in holds k t x r.0 r.1 (f r.0 r.2) r.3

  pub joint : (k a b : ℕ) → Among (members part k (bit_or a b)) (members part k a ++ members part k b)
  joint k a b x m =
      let r = held k (bit_or a b) x m in
      elim (bit_or_cases a b r.0 r.2) [
        | inl t ↦ Memᴰ.append_left (members part k b) (holds k a x r.0 r.1 t r.3)
        | inr t ↦ Memᴰ.append_right (members part k a) (holds k b x r.0 r.1 t r.3)
      ]

  pub joint_back : (k a b : ℕ) → Among (members part k a ++ members part k b) (members part k (bit_or a b))
  joint_back k a b =
      in_both (λ x. Memᴰ x (members part k (bit_or a b))) (members part k a) (members part k b)
      (fewer k a (bit_or a b) (λ i. bit_or_left a b i)) (fewer k b (bit_or a b) (λ i. bit_or_right a b i))
