use Rattle.tl_schema.proofs.EntryOrder.{in_order}
use Rattle.tl_schema.proofs.laws.entries_in_order.Goals as goal

pub returns : goal.returns
returns c = in_order
