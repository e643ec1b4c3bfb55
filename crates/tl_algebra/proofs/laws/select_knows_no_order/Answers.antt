use Rattle.tl_algebra.proofs.Reorders.{no_order}
use Rattle.tl_algebra.proofs.laws.select_knows_no_order.Goals as goal

pub returns : goal.returns
returns c = no_order
