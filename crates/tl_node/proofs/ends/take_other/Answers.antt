use Rattle.tl_node.proofs.Others.{commits_after, commits_stay, stays_waiting, waits_ready}
use Rattle.tl_node.proofs.ends.take_other.Goals as goal

pub commit_with-requires : goal.commit_with-requires
commit_with-requires c = waits_ready c.args.core.now c.args.txn c.args.stage c.args.manager c.args.asked c.args.reply.now c.requires

pub returns-in-Some-clause-after : goal.returns-in-Some-clause-after
returns-in-Some-clause-after c =
    commits_after c.args.core.now c.args.txn c.args.stage c.args.manager c.args.asked c.args.reply.now c.requires c.transactions_follow_the_node.ensures.starts_commits
    c.in-Some.floor.now c.commit_with.new.core c.commit_with.result c.in-Some.ensures c.commit_with.ensures

pub returns-in-Some-clause-stays : goal.returns-in-Some-clause-stays
returns-in-Some-clause-stays c =
    commits_stay c.args.core.now c.commit_with.new.core c.args.txn c.args.stage c.args.manager c.in-Some.floor.now c.commit_with.result c.commit_with.ensures

pub returns-in-None-clause-after : goal.returns-in-None-clause-after
returns-in-None-clause-after c =
    stays_waiting c.args.core.now c.args.txn c.args.stage c.args.manager c.args.asked c.args.reply.now c.requires c.in-None.ensures
