use Rattle.std.proofs.Common.{ap, arith, ◌∙◌}
use Rattle.tl_descriptor.specs.Reading.{read_set}
use Rattle.tl_descriptor.proofs.SetReading.{set_again}
use Rattle.tl_render.proofs.ReadCells.{set_is_spelled}
use Rattle.tl_render.proofs.stored.read_finished.Goals as goal

pub returns-in-Ok : goal.returns-in-Ok
returns-in-Ok c = ap read_set c.in-Ok.ensures.spelled ∙ set_again c.in-Ok.set c.in-Ok.ensures.fits

pub unreachable-requires : goal.unreachable-requires
unreachable-requires c =
    let s = set_is_spelled c.args.cell.now (λ i. omega (arith, c.type_inv.cell i)) c.requires in
    c.decode.ensures.bad (let is = c.in-Err-BadDescriptor.is in let fault = c.in-Err-BadDescriptor.field-0-is in cc) s.0 s.1 s.2
