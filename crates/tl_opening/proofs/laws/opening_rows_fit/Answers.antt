use Rattle.tl_opening.proofs.Stored.{home_rows_open}
use Rattle.tl_opening.proofs.laws.opening_rows_fit.Goals as goal

pub returns : goal.returns
returns c = home_rows_open
