use Rattle.tl_recover.proofs.Rising.{after_first, after_next}
use Rattle.tl_recover.proofs.law.duties_go_on.Goals as goal

pub returns-clause-first : goal.returns-clause-first
returns-clause-first c = after_first

pub returns-clause-next : goal.returns-clause-next
returns-clause-next c = after_next
