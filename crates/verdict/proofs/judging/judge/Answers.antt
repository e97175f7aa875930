use Rattle.std.proofs.Common.{◌≡◌, sym, ◌∙◌, rules}
use Rattle.std.proofs.lemmas.List.{take_rest}
use Rattle.access.specs.View.{participants_of, qualified_in}
use Rattle.certificate.specs.Judge.{judge as judgement}
use Rattle.certificate.proofs.Exact.{trusted}
use Rattle.verdict.proofs.Typed.{taken_exact}
use Rattle.verdict.proofs.Totals.{judged}
use Rattle.verdict.proofs.judging.judge.Goals as goal

pub returns-in_err-head-clause-taken : goal.returns-in_err-head-clause-taken
returns-in_err-head-clause-taken c = taken_exact c.args.bytes.now c.type_inv.bytes (participants_of c.args.structure.now) (qualified_in c.args.structure.now)

pub returns-in_err-table-clause-taken : goal.returns-in_err-table-clause-taken
returns-in_err-table-clause-taken c = taken_exact c.args.bytes.now c.type_inv.bytes (participants_of c.args.structure.now) (qualified_in c.args.structure.now)

pub returns-in_err-table-clause-value : goal.returns-in_err-table-clause-value
returns-in_err-table-clause-value c =
    let s = c.args.structure.now in
    let h = c.in_ok-head.head in
    let value = judged (participants_of s) (qualified_in s) h.header c.args.bytes.now _ _ h.few c.in_ok-head.ensures c.in_err-table.ensures (rw take_rest cc) in
    search rules

pub returns : goal.returns
returns c =
    let s = c.args.structure.now in
    let h = c.in_ok-head.head in
    let value : c.conclude.result ≡ judgement (participants_of s) (qualified_in s) c.args.bytes.now =
    c.conclude.ensures ∙ judged (participants_of s) (qualified_in s) h.header c.args.bytes.now _ _ h.few c.in_ok-head.ensures c.in_ok-table.ensures (rw take_rest cc) in
    record {
      value = value;
      taken = taken_exact c.args.bytes.now c.type_inv.bytes (participants_of s) (qualified_in s);
      binds = λ count total p. trusted (participants_of s) (qualified_in s) c.args.bytes.now count total (sym value ∙ p);
    }
