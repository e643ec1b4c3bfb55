use Rattle.tl_node.proofs.Shown.{shown_by}
use Rattle.tl_node.proofs.node.ask_txn.Goals as goal

pub returns : goal.returns
returns c = shown_by c.ask.result c.args.txn.now.next (λ asked. record { place = asked.0; request = asked.1.now }) c.ask.ensures
