use Rattle.tl_opening.proofs.Counts.{insert_counts}
use Rattle.tl_opening.proofs.laws.inserts_count.Goals as goal

pub returns : goal.returns
returns c = insert_counts
