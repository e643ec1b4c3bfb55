use Rattle.tl_isolation.proofs.Grouped.{suits_groups}
use Rattle.tl_isolation.proofs.law.bound_queries_suit_their_groups.Goals as goal

pub returns : goal.returns
returns c = suits_groups
