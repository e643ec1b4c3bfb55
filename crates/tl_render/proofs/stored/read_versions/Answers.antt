use Rattle.std.proofs.Common.{arith}
use Rattle.tl_render.proofs.ReadCells.{cell_is_spelled, spelled_read}
use Rattle.tl_render.proofs.stored.read_versions.Goals as goal

pub returns-in-Ok : goal.returns-in-Ok
returns-in-Ok c = spelled_read c.args.cell.now c.in-Ok.versions c.in-Ok.ensures.spelled c.in-Ok.ensures.fits

pub unreachable-requires : goal.unreachable-requires
unreachable-requires c =
    let s = cell_is_spelled c.args.cell.now (λ i. omega (arith, c.type_inv.cell i)) c.requires in
    c.decode.ensures.bad (let is = c.in-Err-BadCell.is in let fault = c.in-Err-BadCell.field-0-is in cc) s.0 s.1 s.2
