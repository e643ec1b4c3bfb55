use Rattle.tl_manager.proofs.Log.{ServesAll-push, after-reply_of, gone_after, reply_of-log}
use Rattle.tl_manager.proofs.law.served_calls_follow_the_log.Goals as goal

pub returns-clause-follows : goal.returns-clause-follows
returns-clause-follows c = reply_of-log

pub returns-clause-goes_on : goal.returns-clause-goes_on
returns-clause-goes_on c = after-reply_of

pub returns-clause-grows : goal.returns-clause-grows
returns-clause-grows c = λ log state request m served. ServesAll-push log _ served (reply_of-log log state request m)

pub returns-clause-given_once : goal.returns-clause-given_once
returns-clause-given_once c = gone_after
