use Rattle.tl_plan.proofs.Suffices.{change_part, passing, select_part}
use Rattle.tl_plan.proofs.laws.accesses_suffice.Goals as goal

pub returns-clause-covered : goal.returns-clause-covered
returns-clause-covered c = passing

pub returns-clause-select : goal.returns-clause-select
returns-clause-select c = select_part

pub returns-clause-change : goal.returns-clause-change
returns-clause-change c = change_part
