use Rattle.std.proofs.Common.{None, ap, ◌∙◌}
use Rattle.tl_txn.specs.declared.txn.Txn.{Txn}
use Rattle.tl_node.specs.declared.work.Course.TheVariants as way
use Rattle.tl_node.specs.declared.work.Work.TheVariants as work
use Rattle.tl_node.proofs.Leads.{leads_up}
use Rattle.tl_node.proofs.running.give_up.Goals as goal

pub returns : goal.returns
returns c = λ statement to.
    leads_up c.args.core.now statement c.args.txn c.args.stage c.running.result c.requires.own to
    (c.running.ensures ∙ ap (λ (t : Txn). work.Runs (record { txn = t; stage = c.args.stage; course = way.Ends None })) c.in_ok-rollback.ensures.ok)
