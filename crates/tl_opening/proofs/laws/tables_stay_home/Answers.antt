use Rattle.tl_opening.proofs.Homes.{tables_stay}
use Rattle.tl_opening.proofs.laws.tables_stay_home.Goals as goal

pub returns : goal.returns
returns c = tables_stay
