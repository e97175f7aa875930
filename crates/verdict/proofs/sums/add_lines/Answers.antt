use Rattle.std.proofs.Common.{suc, ◌-◌, arith, rules}
use Rattle.std.proofs.lemmas.List.{take_rest}
use Rattle.verdict.proofs.Steps.{peak_zeros}
use Rattle.verdict.proofs.sums.add_lines.Goals as goal
use Rattle.verdict.proofs.sums.add_lines.Goals.{else-loop-number-test, then-loop-number-test+in_ok-line+else-number-count}

pub loop-number-init : goal.loop-number-init
loop-number-init c = record { near = omega arith; long = search rules; small = omega (arith, peak_zeros 256); whole = λ k e. search rules }

pub returns-in_err-line : goal.returns-in_err-line
returns-in_err-line c =
    let w = c.loop-number.invariant.whole (suc (c.args.count - c.loop-number.number)) (omega arith) in
    search rules

pub loop-number-preserved : goal.loop-number-preserved
loop-number-preserved c = record {
  near = omega arith;
  long = search rules;
  small = omega arith;
  whole = λ k e. let w = c.loop-number.invariant.whole (suc k) (omega arith) in rw take_rest (search rules);
}

pub returns-then-not-is_empty : goal.returns-then-not-is_empty
returns-then-not-is_empty c = elim c.loop-number-test.branch [
  | else-loop-number-test w ↦ (let x = c.loop-number.invariant.whole 0 (omega arith) in search rules)
  | then-loop-number-test+in_ok-line+else-number-count w ↦ (let x = c.loop-number.invariant.whole 1 (omega arith) in let r = take_rest c.loop-number.rest.now 6 in search rules)
]

pub returns : goal.returns
returns c = elim c.loop-number-test.branch [
  | else-loop-number-test w ↦ (let x = c.loop-number.invariant.whole 0 (omega arith) in search rules)
  | then-loop-number-test+in_ok-line+else-number-count w ↦ (let x = c.loop-number.invariant.whole 1 (omega arith) in let r = take_rest c.loop-number.rest.now 6 in search rules)
]
