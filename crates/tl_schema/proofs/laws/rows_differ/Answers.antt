use Rattle.tl_schema.proofs.Rows.{rows_apart}
use Rattle.tl_schema.proofs.laws.rows_differ.Goals as goal

pub returns : goal.returns
returns c = rows_apart
