use Rattle.std.proofs.Common.{arith}
use Rattle.std.proofs.lemmas.Result.{err_from_is_err_and}
use Rattle.tl_schema.proofs.Rows.{is_bad, is_bad_row, row_takes}
use Rattle.tl_schema.proofs.reading.row_of.Goals as goal

pub returns-clause-spelled : goal.returns-clause-spelled
returns-clause-spelled c = (row_takes c.args.bytes.now c.in_ok-row.row (λ i. omega (arith, c.type_inv.bytes i)) c.in_ok-row.ensures).0

pub returns-clause-fits : goal.returns-clause-fits
returns-clause-fits c = (row_takes c.args.bytes.now c.in_ok-row.row (λ i. omega (arith, c.type_inv.bytes i)) c.in_ok-row.ensures).1

pub returns-in_err-row-clause-bad : goal.returns-in_err-row-clause-bad
returns-in_err-row-clause-bad c = λ bad values fits e.
    let p = err_from_is_err_and c.from_residual.result c.from_residual.ensures.1 in
    is_bad c.args.bytes.now c.in_err-row.field-0.0 c.in_err-row.ensures (is_bad_row c.from_residual.result c.in_err-row.field-0.0 p.0 p.1 p.2 bad) values fits e
