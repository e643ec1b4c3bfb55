use Rattle.tl_write.proofs.Counts.{change_counts}
use Rattle.tl_write.proofs.laws.change_counts_rows.Goals as goal

pub returns : goal.returns
returns c = change_counts
