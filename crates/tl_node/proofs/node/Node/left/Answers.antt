use Rattle.std.proofs.Common.{sym, ap, ◌∙◌}
use Rattle.tl_manager.specs.declared.request.ManagerRequest.TheVariants as request
use Rattle.tl_journal.specs.Node.{owed_by}
use Rattle.tl_node.specs.View.{NodeValue}
use Rattle.tl_node.proofs.Stopping.{owes_now}
use Rattle.tl_node.proofs.node.Node.left.Goals as goal

pub returns : goal.returns
returns c =
    c.new.ensures
    ∙ ap (λ nodes. request.Post c.self.inside.core.number nodes) (c.owed_by.ensures ∙ sym (owes_now c.self.inside.core c.self.inside.work c.self.invariant))
    ∙ ap (λ (v : NodeValue). request.Post v.node.number (owed_by v.node.doing)) c.self.view_is
