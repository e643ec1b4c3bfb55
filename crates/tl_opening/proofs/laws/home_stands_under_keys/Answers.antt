use Rattle.tl_opening.proofs.Homes.{stands_under_keys}
use Rattle.tl_opening.proofs.laws.home_stands_under_keys.Goals as goal

pub returns : goal.returns
returns c = stands_under_keys
