use Rattle.tl_node.proofs.Others.{commits_learnt}
use Rattle.tl_node.proofs.ends.commit_with.Goals as goal

pub returns-in-Ok : goal.returns-in-Ok
returns-in-Ok c =
    commits_learnt c.args.core.now c.learn_other.new.core c.args.txn c.args.stage c.args.manager c.args.floor.now c.commit_now.result c.in-Ok.ensures.ok c.commit_now.ensures
