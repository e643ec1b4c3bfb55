use Rattle.std.proofs.Common.{ap}
use Rattle.tl_node.specs.declared.work.Next.TheVariants as next
use Rattle.tl_node.proofs.Ending.{reserved_goes}
use Rattle.tl_node.proofs.ends.ready_answer.Goals as goal

pub returns-in-Ok : goal.returns-in-Ok
returns-in-Ok c =
    reserved_goes c.args.core.now c.last.new.core c.args.txn c.args.stage c.args.answer c.in-Ok.last (next.Goes c.running.result) c.in-Ok.ensures
    (ap next.Goes c.running.ensures)
