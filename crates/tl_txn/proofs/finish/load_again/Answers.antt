use Rattle.tl_journal.specs.Ask.{LoadCommits}
use Rattle.tl_txn.proofs.finish.load_again.Goals as goal

pub returns : goal.returns
returns c = c.going.ensures c.args.layout LoadCommits c.load_commits.ensures
