use Rattle.std.proofs.Common.{arith}
use Rattle.tl_versions.proofs.RowReading.{is_no_row, is_row, told}
use Rattle.tl_versions.proofs.version.read_row.Goals as goal

pub returns-in-Ok : goal.returns-in-Ok
returns-in-Ok c = is_row c.args.bytes.now c.in-Ok.row c.in-Ok.ensures.spelled c.in-Ok.ensures.fits

pub returns-in-Err-BadRow : goal.returns-in-Err-BadRow
returns-in-Err-BadRow c =
    is_no_row c.args.bytes.now (λ i. omega (arith, c.type_inv.bytes i)) (c.in-Err-BadRow.ensures.bad (told c.in-Err-BadRow.field-0 c.in-Err-BadRow.field-0-is))
