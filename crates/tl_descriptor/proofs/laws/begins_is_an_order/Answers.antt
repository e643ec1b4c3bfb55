use Rattle.tl_descriptor.proofs.Order.{begins_both, begins_exactly, begins_itself, begins_on}
use Rattle.tl_descriptor.proofs.laws.begins_is_an_order.Goals as goal

pub returns : goal.returns
returns c = record { within = begins_exactly; reflexive = begins_itself; transitive = begins_on; antisymmetric = begins_both }
