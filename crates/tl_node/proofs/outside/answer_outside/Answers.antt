use Rattle.tl_node.proofs.Leaving.{stays_learnt}
use Rattle.tl_node.proofs.OutsideReplies.{idle_comes, idle_strange}
use Rattle.tl_node.proofs.outside.answer_outside.Goals as goal

pub returns-in-Some-clause-after : goal.returns-in-Some-clause-after
returns-in-Some-clause-after c =
    idle_comes c.args.core.now c.learn_and_leave.new.core c.args.reply.now c.in-Some.floor.now c.learn_and_leave.result c.requires c.in-Some.ensures c.learn_and_leave.ensures

pub returns-in-Some-clause-stays : goal.returns-in-Some-clause-stays
returns-in-Some-clause-stays c = stays_learnt c.args.core.now c.learn_and_leave.new.core c.in-Some.floor.now c.learn_and_leave.result c.learn_and_leave.ensures

pub returns-in-None-clause-after : goal.returns-in-None-clause-after
returns-in-None-clause-after c = idle_strange c.args.core.now c.args.reply.now c.requires c.in-None.ensures
