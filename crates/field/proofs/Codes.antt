-- What a number counts as in a field. Assumes nothing.
use Rattle.std.proofs.Common.{◌≡◌, ℕ, ◌<◌, ◌≤◌, sym, refl, arith}
use Rattle.std.proofs.lemmas.Bool.{cond_below, cond_above}
use Rattle.std.proofs.lemmas.Bool.Decides.{nat_tests}
use Rattle.field.specs.Laws.{code}

pub code_at : (q a : ℕ) → a < q → code q a ≡ a
code_at q a h = sym (cond_below a q a 0 h)

pub code_past : (q a : ℕ) → q ≤ a → code q a ≡ 0
code_past q a h = sym (cond_above a q a 0 0 h refl)

pub code_below : (q a : ℕ) → 0 < q → code q a < q
code_below q a h = grind (arith, nat_tests)

pub code_code : (q a : ℕ) → 0 < q → code q (code q a) ≡ code q a
code_code q a h = code_at q (code q a) (code_below q a h)
