-- An array that a closure fills, where no call changes the closure. Assumes nothing.
use Rattle.std.proofs.Common.{◌≡◌, ℕ, zero, suc, ◌+◌, ◌<◌, ◌≤◌, List, get_or, subst, sym, inl, inr, arith}
use denote.Param.Members.{Mut, Called}
use Rattle.std.specs.Array.{IsFromFnResult, IsFromFnResultFrom}
use Rattle.std.proofs.lemmas.Bool.{cases_eq}

module _ {F B : Type 0} (g : Mut F (ℕ × Unit {0}) B) (f : F) (keeps : (k : ℕ) (y : B) (q : F) → Called g f (k, tt) y q → q ≡ f) where
  called_from : (ys : List B) (i n k : ℕ) (d : B) → IsFromFnResultFrom g f ys i n → i ≤ k → k < i + n → Called g f (k, tt) (get_or ys k d) f
  called_from ys i zero k d r a b = absurd (omega arith)
  called_from ys i (suc n) k d (q, y, at, called, rest) a b = elim (cases_eq k i) [
    | inl e ↦ subst (λ j. Called g f (j, tt) (get_or ys j d) f) (sym e) (this q y called (at.1 d) (keeps i y q called))
    | inr ne ↦ called_from ys (i + 1) n k d (subst (λ p. IsFromFnResultFrom g p ys (i + 1) n) (keeps i y q called) rest) (omega arith) (omega arith)
  ]
    where
      this : (q : F) (y : B) → Called g f (i, tt) y q → get_or ys i d ≡ y → q ≡ f → Called g f (i, tt) (get_or ys i d) f
      this q y h e same = subst (λ z. Called g f (i, tt) z f) (sym e) (subst (λ p. Called g f (i, tt) y p) same h)

  -- each element is what the closure gave at its index
  pub called_each : (ys : List B) (n k : ℕ) (d : B) → IsFromFnResult g f ys n → k < n → Called g f (k, tt) (get_or ys k d) f
  called_each ys n k d r l = called_from ys 0 n k d r.each (omega arith) (omega arith)
