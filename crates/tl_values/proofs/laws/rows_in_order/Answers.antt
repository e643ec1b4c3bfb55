use Rattle.tl_values.proofs.ValueOrder.{row_exact, row_total}
use Rattle.tl_values.proofs.laws.rows_in_order.Goals as goal

pub returns : goal.returns
returns c = record { total = row_total; exact = row_exact }
