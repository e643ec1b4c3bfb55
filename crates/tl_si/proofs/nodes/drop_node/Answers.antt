use Rattle.std.proofs.Common.{◌==◌, not, rules}
use Rattle.std.proofs.lemmas.Fn.{filter_same}
use Rattle.tl_isolation.specs.declared.state.NodeState.{NodeState}
use Rattle.tl_si.proofs.nodes.drop_node.Goals as goal

pub returns : goal.returns
returns c = filter_same _ (λ (o : NodeState). not (o.node == c.args.node)) _ (λ x b f k. search rules) _ _ c.retain.ensures.filtered
