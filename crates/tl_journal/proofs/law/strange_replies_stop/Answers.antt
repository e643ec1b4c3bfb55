use Rattle.tl_journal.proofs.StrangeHeard.{heard_as_said, stops_alike, stops_at_strange}
use Rattle.tl_journal.proofs.law.strange_replies_stop.Goals as goal

pub returns-clause-stops : goal.returns-clause-stops
returns-clause-stops c = stops_at_strange

pub returns-clause-heard : goal.returns-clause-heard
returns-clause-heard c = heard_as_said

pub returns-clause-alike : goal.returns-clause-alike
returns-clause-alike c = stops_alike
