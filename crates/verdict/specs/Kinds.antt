-- The four kinds of lines under one name. Assumes nothing.
use Rattle.std.specs.Prelude.{ℕ, Bool, not, ◌&&◌, ℤ, Result, ◌==◌}
use Rattle.polymatroid.specs.Tests.{in_ground, within, coalition}
use Rattle.polymatroid.specs.declared.inequality.Inequality.{Inequality}
use Rattle.polymatroid.specs.declared.inequality.Inequality.TheVariants.{Monotonicity as monotone, Submodularity as submodular, Correctness as correct, Privacy as private}
use Rattle.polymatroid.specs.declared.inequality.Line.{Line}
use Rattle.record.specs.declared.faults.Reason.{Reason}
use Rattle.certificate.specs.Lines.{monotonicity, submodularity, correctness, privacy, usable, positive, multiplier_limit}
use Rattle.verdict.specs.declared.kinds.Kind.{Kind}
use Rattle.verdict.specs.declared.kinds.Kind.TheVariants.{Monotonicity, Submodularity, Correctness, Privacy}

-- a line of the kind, or why there is none
abbrev pub of_kind : ℕ → (ℕ → Bool) → Kind → ℤ → ℕ → ℕ → Result Line Reason
of_kind n qualified Monotonicity = monotonicity n
of_kind n qualified Submodularity = submodularity n
of_kind n qualified Correctness = correctness n qualified
of_kind n qualified Privacy = privacy n qualified

-- what a kind asks of the multiplier
abbrev pub takes : Kind → ℤ → Bool
takes Monotonicity m = usable multiplier_limit m && positive m
takes Submodularity m = usable multiplier_limit m && positive m
takes Correctness m = usable multiplier_limit m
takes Privacy m = usable multiplier_limit m

-- where its sets may be
abbrev pub has_place : ℕ → Kind → ℕ → ℕ → Bool
has_place n Monotonicity a b = in_ground n a && in_ground n b
has_place n Submodularity a b = in_ground n a && in_ground n b
has_place n Correctness a b = coalition n a && b == 0
has_place n Privacy a b = coalition n a && b == 0

-- what it asks of them there
abbrev pub is_lawful : (ℕ → Bool) → Kind → ℕ → ℕ → Bool
is_lawful qualified Monotonicity a b = within a b && not (a == b)
is_lawful qualified Submodularity a b = not (within a b) && not (within b a)
is_lawful qualified Correctness a b = qualified a
is_lawful qualified Privacy a b = not (qualified a)

-- what it says of them
abbrev pub inequality_of : Kind → ℕ → ℕ → Inequality
inequality_of Monotonicity a b = monotone a b
inequality_of Submodularity a b = submodular a b
inequality_of Correctness a b = correct a
inequality_of Privacy a b = private a
