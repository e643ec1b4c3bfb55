use Rattle.tl_cells.proofs.Log.{reply_of-log, after-reply_of, ServesAll-push}
use Rattle.tl_cells.proofs.law.served_calls_follow_the_log.Goals as goal

pub returns-clause-follows : goal.returns-clause-follows
returns-clause-follows c = reply_of-log

pub returns-clause-goes_on : goal.returns-clause-goes_on
returns-clause-goes_on c = after-reply_of

pub returns-clause-grows : goal.returns-clause-grows
returns-clause-grows c = λ opening log state request m served. ServesAll-push opening log _ served (reply_of-log opening log state request m)
