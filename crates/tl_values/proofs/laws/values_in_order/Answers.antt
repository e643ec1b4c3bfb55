use Rattle.tl_values.proofs.ValueOrder.{value_exact, value_total}
use Rattle.tl_values.proofs.laws.values_in_order.Goals as goal

pub returns : goal.returns
returns c = record { total = value_total; exact = value_exact }
