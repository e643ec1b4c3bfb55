use Rattle.tl_opening.proofs.Homes.{inserts_stay}
use Rattle.tl_opening.proofs.laws.inserts_stay_home.Goals as goal

pub returns : goal.returns
returns c = inserts_stay
