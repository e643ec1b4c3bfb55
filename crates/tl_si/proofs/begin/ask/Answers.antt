use Rattle.std.proofs.Common.{ℕ, List, Some, ap, ◌∙◌}
use Rattle.std.proofs.lemmas.Bool.{both_ways}
use Rattle.tl_isolation.specs.declared.state.NodeState.{NodeState}
use Rattle.tl_isolation.specs.State.{node_of, put_node}
use Rattle.tl_si.specs.Shown.{shown}
use Rattle.tl_si.proofs.begin.ask.Goals as goal

pub returns-then-not-may_ask : goal.returns-then-not-may_ask
returns-then-not-may_ask c catalog a = both_ways c.may_ask.result c.if-not-may_ask.true ((c.may_ask.ensures catalog).1 a)

pub returns : goal.returns
returns c catalog = (
  (c.may_ask.ensures catalog).0 c.if-not-may_ask.false,
  ap (λ (nodes : List NodeState). record (shown c.args.state.now) { nodes = nodes })
      (c.in_ok-note.ensures
      ∙ ap (λ (n : ℕ). put_node (record (node_of c.args.node c.args.state.now.nodes.items) { noted = Some n }) c.args.state.now.nodes.items) c.len-commits.ensures),
)
