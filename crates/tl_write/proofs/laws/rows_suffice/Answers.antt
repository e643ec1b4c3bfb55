use Rattle.tl_write.proofs.Parts.{rows_suffice}
use Rattle.tl_write.proofs.laws.rows_suffice.Goals as goal

pub returns : goal.returns
returns c = rows_suffice
