-- An inverse is the one code whose product with a number is 1, and 0 where there is none. Assumes nothing.
use Rattle.std.proofs.Common.{◌≡◌, ℕ, ◌<◌, ◌≤◌, Option, Some, None, sym, ap, ◌∙◌, inl, inr, arith}
use Rattle.std.specs.Option.{MatchOption, unwrap_or}
use Rattle.std.proofs.lemmas.Bool.{cases_eq}
use Rattle.field.specs.Laws.{Laws, code}
use Rattle.field.proofs.Codes.{code_at}
use Rattle.field.proofs.Free as free

module _ {q : ℕ} {add mul : ℕ → ℕ → ℕ} {neg inv : ℕ → ℕ} (L : Laws q add mul neg inv) where
  -- two codes with the product 1
  only_one : (a b : ℕ) → b < q → mul a b ≡ 1 → (code q a ≡ 0 → ⊥) → b ≡ inv a
  only_one a b l h n =
      sym (code_at q b l) ∙ sym (free.undone L a n b) ∙ free.mul_left_comm L a (inv a) b ∙ ap (mul (inv a)) h
      ∙ free.mul_one L (inv a) ∙ code_at q (inv a) (L.inv_below a)

  -- what trying the codes in turn finds, with z = 0 where it finds none
  pub inverse_tried : (P : ℕ → Type 0) (a n z : ℕ) (r : Option ℕ) → n ≡ q → z ≡ 0
      → MatchOption r ((k : ℕ) → 0 ≤ k → k < n → mul a k ≡ 1 → ⊥) (λ b. (0 ≤ b) × (b < n) × (mul a b ≡ 1) × P b) → unwrap_or r z ≡ inv a
  inverse_tried P a n z None e none_is tried = elim (cases_eq (code q a) 0) [
    | inl o ↦ none_is ∙ sym (L.inv_code a ∙ ap inv o ∙ L.at_codes.inv_zero)
    | inr real ↦ absurd (tried (inv a) (omega arith) (omega (arith, L.inv_below a)) (free.mul_inv L a real))
  ]
  inverse_tried P a n z (Some b) e none_is found = only_one a b (omega (arith, found.1)) found.2 (λ o. omega (arith, found.2, free.none_mul L a b o))
