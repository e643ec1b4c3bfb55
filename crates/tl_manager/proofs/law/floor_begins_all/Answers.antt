use Rattle.tl_manager.proofs.Low.{begins_copy, begins_each, stays}
use Rattle.tl_manager.proofs.law.floor_begins_all.Goals as goal

pub returns-clause-copy : goal.returns-clause-copy
returns-clause-copy c = begins_copy

pub returns-clause-snapshots : goal.returns-clause-snapshots
returns-clause-snapshots c = begins_each

pub returns-clause-stays : goal.returns-clause-stays
returns-clause-stays c = stays
