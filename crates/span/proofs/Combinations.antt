-- Linear combinations: sums, multiples, one vector more. Assumes nothing.
use Rattle.std.proofs.Common.{◌≡◌, ℕ, zero, suc, List, [], ◌∷◌, sym, refl, ap, ◌∙◌, ap₂}
use Rattle.field.specs.Laws.{Ops, Lawful, code}
use Rattle.field.proofs.Free as free
use Rattle.span.specs.Span.{Vector, combination}

-- coefficient c for one vector more
abbrev pub with : ℕ → (ℕ → ℕ) → ℕ → ℕ
with c cs zero = c
with c cs (suc i) = cs i

module _ (o : Ops) (L : Lawful o) where
  -- a combination is a code
  pub comb_code : (cs : ℕ → ℕ) (ws : List Vector) (k : ℕ) → code o.order (combination o cs ws k) ≡ combination o cs ws k
  comb_code cs [] k = free.code_zero L
  comb_code cs (w ∷ ws) k = free.code_add L _ _

  pub comb_zero : (ws : List Vector) (k : ℕ) → combination o (λ i. 0) ws k ≡ 0
  comb_zero [] k = refl
  comb_zero (w ∷ ws) k = ap₂ o.add (free.zero_mul L (w k)) (comb_zero ws k) ∙ free.zero_add L 0 ∙ free.code_zero L

  -- a first vector with a coefficient that counts as 0
  pub comb_none : (c : ℕ) (cs : ℕ → ℕ) (w : Vector) (ws : List Vector) (k : ℕ) → code o.order c ≡ 0
      → combination o (with c cs) (w ∷ ws) k ≡ combination o cs ws k
  comb_none c cs w ws k z =
      ap (λ x. o.add x (combination o cs ws k)) (free.none_mul L c (w k) z) ∙ free.zero_add L _ ∙ comb_code cs ws k

  -- the first vector by itself
  pub comb_first : (w : Vector) (ws : List Vector) (k : ℕ) → combination o (with 1 (λ i. 0)) (w ∷ ws) k ≡ code o.order (w k)
  comb_first w ws k = ap₂ o.add (free.one_mul L (w k)) (comb_zero ws k) ∙ free.add_zero L _ ∙ free.again L (w k)

  pub comb_add : (cs es : ℕ → ℕ) (ws : List Vector) (k : ℕ)
      → o.add (combination o cs ws k) (combination o es ws k) ≡ combination o (λ i. o.add (cs i) (es i)) ws k
  comb_add cs es [] k = free.zero_add L 0 ∙ free.code_zero L
  comb_add cs es (w ∷ ws) k =
      shuffle (o.mul (cs 0) (w k)) (combination o (λ i. cs (suc i)) ws k) (o.mul (es 0) (w k)) (combination o (λ i. es (suc i)) ws k)
      ∙ ap₂ o.add (sym (free.add_mul L (cs 0) (es 0) (w k))) (comb_add (λ i. cs (suc i)) (λ i. es (suc i)) ws k)
    where
      shuffle : (a b c e : ℕ) → o.add (o.add a b) (o.add c e) ≡ o.add (o.add a c) (o.add b e)
      shuffle a b c e =
          free.add_assoc L a b (o.add c e) ∙ ap (o.add a) (free.add_left_comm L b c e) ∙ sym (free.add_assoc L a c (o.add b e))

  pub comb_scale : (s : ℕ) (cs : ℕ → ℕ) (ws : List Vector) (k : ℕ)
      → o.mul s (combination o cs ws k) ≡ combination o (λ i. o.mul s (cs i)) ws k
  comb_scale s cs [] k = free.mul_zero L s
  comb_scale s cs (w ∷ ws) k =
      free.mul_add L s _ _ ∙ ap₂ o.add (sym (free.mul_assoc L s (cs 0) (w k))) (comb_scale s (λ i. cs (suc i)) ws k)
