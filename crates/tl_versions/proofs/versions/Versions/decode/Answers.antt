use Rattle.std.proofs.Common.{arith}
use Rattle.tl_versions.proofs.CellReading.{cell_taken, is_bad}
use Rattle.tl_versions.proofs.versions.Versions.decode.Goals as goal

pub returns-in-Ok-clause-spelled : goal.returns-in-Ok-clause-spelled
returns-in-Ok-clause-spelled c = (cell_taken c.args.bytes.now c.in-Ok.versions (λ i. omega (arith, c.type_inv.bytes i)) c.in-Ok.ensures).0

pub returns-in-Ok-clause-fits : goal.returns-in-Ok-clause-fits
returns-in-Ok-clause-fits c = (cell_taken c.args.bytes.now c.in-Ok.versions (λ i. omega (arith, c.type_inv.bytes i)) c.in-Ok.ensures).1

pub returns-in-Err-Bad-clause-bad : goal.returns-in-Err-Bad-clause-bad
returns-in-Err-Bad-clause-bad c = λ _. is_bad c.args.bytes.now c.in-Err-Bad.field-0 c.in-Err-Bad.field-0-is c.in-Err-Bad.ensures
