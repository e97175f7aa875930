use Rattle.std.proofs.Common.{rules}
use Rattle.std.proofs.lemmas.Result.{err_from_is_err_and}
use Rattle.access.proofs.Records.{refused_exactly, rest_lawful, read_value, read_out}
use Rattle.access.proofs.reading.read_structure.Goals as goal

pub returns-in_err-check-clause-exactly : goal.returns-in_err-check-clause-exactly
returns-in_err-check-clause-exactly c =
    let p = err_from_is_err_and c.from_residual.result c.from_residual.ensures.1 in
    rw p.1 (refused_exactly c.args.bytes.now c.in_err-check.field-0.0 c.in_err-check.ensures)

pub listing-requires : goal.listing-requires
listing-requires c = search (rules, rest_lawful)

pub returns : goal.returns
returns c =
    let value = read_value c.args.bytes.now c.in_ok-check.ensures c.listing.result (search rules) (search rules) in
    record {
      value = value;
      exactly = read_out c.args.bytes.now c.in_ok-check.ensures c.listing.result (search rules) (search rules);
    }
