-- Two linear forms that agree at every unit function but that of the empty set agree at every function that is 0 there.
-- Assumes nothing.
use Rattle.std.proofs.Common.{◌≡◌, ℕ, zero, suc, ◌<◌, ◌≤◌, cond, ltb, ℤ, pos, ◌+ℤ◌, ◌*ℤ◌, sym, refl, ap, ◌∙◌, inl, inr, arith}
use Rattle.std.proofs.lemmas.Int.{ints}
use Rattle.std.proofs.lemmas.Bool.{lt-ltb, le-ltb, eq-eqb, ne_eqb, cases_order}
use Rattle.polymatroid.specs.Certificate.{unit}

-- a linear form that reads its argument below m only
pub record Form (m : ℕ) (f : (ℕ → ℤ) → ℤ) : Type 0 where
  pub linear : (x y : ℕ → ℤ) (c : ℤ) → f (λ s. x s +ℤ c *ℤ y s) ≡ f x +ℤ c *ℤ f y
  pub local : (x y : ℕ → ℤ) → ((s : ℕ) → s < m → x s ≡ y s) → f x ≡ f y

-- x below k, and 0 from there on
abbrev cut : (ℕ → ℤ) → ℕ → ℕ → ℤ
cut x k s = cond (ltb s k) (x s) (pos 0)

cut_more : (x : ℕ → ℤ) (k s : ℕ) → cut x (suc k) s ≡ cut x k s +ℤ x k *ℤ unit k s
cut_more x k s = elim (cases_order s k) [
  | inl e ↦ rw e (rw (lt-ltb k (suc k) (omega arith), le-ltb k k (omega arith), eq-eqb k k refl) (omega (arith, ints)))
  | inr (inl l) ↦ rw (lt-ltb s (suc k) (omega arith), lt-ltb s k l, ne_eqb k s (omega arith)) (omega (arith, ints))
  | inr (inr l) ↦ rw (le-ltb s (suc k) (omega arith), le-ltb s k (omega arith), ne_eqb k s (omega arith)) (omega (arith, ints))
]

module _ (m : ℕ) (f g : (ℕ → ℤ) → ℤ) (ff : Form m f) (gg : Form m g) (x : ℕ → ℤ) (none : x 0 ≡ pos 0)
    (same : (s : ℕ) → 1 ≤ s → s < m → f (unit s) ≡ g (unit s)) where
  at_zero : (f : (ℕ → ℤ) → ℤ) → Form m f → f (cut x 0) ≡ pos 0
  at_zero f ff =
      ff.local (cut x 0) (λ s. pos 0) (λ s l. rw (le-ltb s 0 (omega arith))) ∙
      omega (arith, ints, ff.linear (λ s. pos 0) (λ s. pos 0) (pos 1))

  step : (f : (ℕ → ℤ) → ℤ) → Form m f → (k : ℕ) → f (cut x (suc k)) ≡ f (cut x k) +ℤ x k *ℤ f (unit k)
  step f ff k = ff.local (cut x (suc k)) (λ s. cut x k s +ℤ x k *ℤ unit k s) (λ s l. cut_more x k s) ∙ ff.linear (cut x k) (unit k) (x k)

  term : (k : ℕ) → k < m → x k *ℤ f (unit k) ≡ x k *ℤ g (unit k)
  term zero l = rw none (omega (arith, ints))
  term (suc k) l = ap (λ z. x (suc k) *ℤ z) (same (suc k) (omega arith) l)

  upto : (k : ℕ) → k ≤ m → f (cut x k) ≡ g (cut x k)
  upto zero l = at_zero f ff ∙ sym (at_zero g gg)
  upto (suc k) l =
      let ih = upto k (omega arith) in
      let t = term k l in
      let p = step f ff k in
      let q = step g gg k in
      cc

  whole : (f : (ℕ → ℤ) → ℤ) → Form m f → f x ≡ f (cut x m)
  whole f ff = ff.local x (cut x m) (λ s l. rw (lt-ltb s m l))

  pub agree : f x ≡ g x
  agree = whole f ff ∙ upto m (omega arith) ∙ sym (whole g gg)
