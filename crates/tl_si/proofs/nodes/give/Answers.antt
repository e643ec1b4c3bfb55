use Rattle.std.proofs.Common.{◌≡◌, List, Some, subst}
use Rattle.std.specs.Prelude.{OnOk}
use Rattle.tl_isolation.specs.declared.state.NodeState.{NodeState}
use Rattle.tl_si.proofs.InHand.{given_same}
use Rattle.tl_si.proofs.nodes.give.Goals as goal

pub returns : goal.returns
returns c =
    subst (λ (nodes : List NodeState). OnOk c.put_node.result (c.put_node.new.nodes.items ≡ nodes))
    (given_same c.args.node (Some c.args.told) c.args.nodes.now.items c.take_node.new.nodes.items c.take_node.result c.take_node.ensures.taken c.take_node.ensures.others)
    c.put_node.ensures
