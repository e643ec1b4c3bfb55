use Rattle.std.proofs.Common.{ap, ◌∙◌}
use Rattle.std.specs.Prelude.{slice_get}
use Rattle.tl_node.specs.View.{NodeValue}
use Rattle.tl_node.proofs.node.Node.statement.Goals as goal

pub returns : goal.returns
returns c = c.get.ensures.value ∙ ap (λ (v : NodeValue). slice_get v.session c.args.at) c.self.view_is
