use Rattle.tl_values.proofs.KeyOrder.{keys_apart}
use Rattle.tl_values.proofs.laws.keys_differ.Goals as goal

pub returns : goal.returns
returns c = keys_apart
