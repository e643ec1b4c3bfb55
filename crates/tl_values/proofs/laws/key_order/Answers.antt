use Rattle.tl_values.proofs.KeyOrder.{keys_in_order}
use Rattle.tl_values.proofs.laws.key_order.Goals as goal

pub returns : goal.returns
returns c = keys_in_order
