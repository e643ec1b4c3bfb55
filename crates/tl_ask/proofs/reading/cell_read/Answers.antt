use Rattle.std.proofs.Common.{Err, ap, arith}
use Rattle.tl_versions.specs.Reading.{read_cell}
use Rattle.tl_ask.proofs.Spelled.{cell_is_read, none_read}
use Rattle.tl_ask.proofs.reading.cell_read.Goals as goal

pub returns-in-Ok : goal.returns-in-Ok
returns-in-Ok c = cell_is_read c.args.bytes.now c.in-Ok.versions (c.cells_are_read.ensures.again c.in-Ok.versions c.in-Ok.ensures.fits) c.in-Ok.ensures.spelled

pub returns-in-Err-BadCell : goal.returns-in-Err-BadCell
returns-in-Err-BadCell c = none_read (read_cell c.args.bytes.now) (λ versions e.
    let taken = c.cells_are_read.ensures.taken c.args.bytes.now versions (λ i. omega (arith, c.type_inv.bytes i)) e in
    c.in-Err-BadCell.ensures.bad (ap Err c.in-Err-BadCell.field-0-is) versions taken.1 taken.0)
