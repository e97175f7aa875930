-- Only a bound is answered by 0. Assumes nothing.
use Rattle.std.proofs.Common.{◌≡◌, ℕ, ◌≤◌, List, Ok, Err, Result, refl, arith}
use Rattle.record.specs.declared.faults.Reason.{Reason}
use Rattle.record.specs.declared.faults.Reason.TheVariants.{CutShort, WrongMark, OutOfRange, SetNotAllowed, NotAntichain, Unlawful, SumDiffers, LeftOver, ParticipantsDiffer}
use Rattle.record.specs.declared.faults.Refusal.{Refusal}
use Rattle.record.specs.Faults.{number_of}
use Rattle.verdict.specs.Bounds.{lower_bound_in, Bounds}
use Rattle.verdict.proofs.Proven.{bounds}
use Rattle.quote.specs.Answer.{answered, answer_to}

numbered : (reason : Reason) → 1 ≤ number_of reason
numbered CutShort = omega arith
numbered WrongMark = omega arith
numbered OutOfRange = omega arith
numbered SetNotAllowed = omega arith
numbered NotAntichain = omega arith
numbered Unlawful = omega arith
numbered SumDiffers = omega arith
numbered LeftOver = omega arith
numbered ParticipantsDiffer = omega arith

zero_ok : (r : Result (ℕ × ℕ) Refusal) → answered r ≡ 0 → (bound : ℕ × ℕ) × (r ≡ Ok bound)
zero_ok (Ok bound) p = (bound, refl)
zero_ok (Err e) p = absurd (omega (arith, numbered e.reason))

pub zero_binds : (structure certificate : List ℕ) → answer_to structure certificate ≡ 0 → (count : ℕ) × ((total : ℕ) × Bounds structure count total)
zero_binds structure certificate p =
    let b = zero_ok (lower_bound_in structure certificate) p in
    (b.0.0, (b.0.1, bounds structure certificate b.0.0 b.0.1 b.1))
