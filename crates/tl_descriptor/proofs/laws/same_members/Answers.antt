use Rattle.tl_descriptor.proofs.Order.{sets_are_same}
use Rattle.tl_descriptor.proofs.laws.same_members.Goals as goal

pub returns : goal.returns
returns c = sets_are_same
