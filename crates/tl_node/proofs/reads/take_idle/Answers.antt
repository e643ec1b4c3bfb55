use Rattle.tl_node.specs.View.{stage_of}
use Rattle.tl_node.proofs.IdleAfter.{idle_strange, idle_takes}
use Rattle.tl_node.proofs.Presents.{idle_no_end}
use Rattle.tl_node.proofs.reads.take_idle.Goals as goal

pub returns-in-Some-clause-after : goal.returns-in-Some-clause-after
returns-in-Some-clause-after c = λ live is.
    idle_takes c.args.core.now c.args.stage live c.args.reply.now c.requires.present c.learn_and_idle.new.core c.args.txn c.in-Some.floor.now c.learn_and_idle.result is c.in-Some.ensures
    c.learn_and_idle.ensures.after

pub returns-in-None-clause-after : goal.returns-in-None-clause-after
returns-in-None-clause-after c = λ live is. idle_strange c.args.core.now c.args.stage live c.args.reply.now c.requires.present c.in-None.ensures

pub learn_and_idle-requires-clause-present : goal.learn_and_idle-requires-clause-present
learn_and_idle-requires-clause-present c = idle_no_end c.args.core.now (stage_of c.args.stage) c.requires.present
