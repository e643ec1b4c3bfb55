use Rattle.tl_write.proofs.Parts.{part_suffices}
use Rattle.tl_write.proofs.laws.part_suffices.Goals as goal

pub returns : goal.returns
returns c = part_suffices
