use Rattle.tl_node.proofs.Stopping.{stopped_so}
use Rattle.tl_node.proofs.node.take_work.Goals as goal

pub returns-in-Stopped-clause-after : goal.returns-in-Stopped-clause-after
returns-in-Stopped-clause-after c = stopped_so c.args.core.now c.args.work c.in-Stopped.field-0 c.args.reply.now c.in-Stopped.is c.requires
