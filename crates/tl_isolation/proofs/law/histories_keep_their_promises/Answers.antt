use Rattle.tl_isolation.proofs.Promised.{clash_is_real, conflict_is_real, ends_once, never_overlap}
use Rattle.tl_isolation.proofs.law.histories_keep_their_promises.Goals as goal

pub returns-clause-overlap : goal.returns-clause-overlap
returns-clause-overlap c = never_overlap

pub returns-clause-clash : goal.returns-clause-clash
returns-clause-clash c = clash_is_real

pub returns-clause-conflict : goal.returns-clause-conflict
returns-clause-conflict c = conflict_is_real

pub returns-clause-once : goal.returns-clause-once
returns-clause-once c = ends_once
