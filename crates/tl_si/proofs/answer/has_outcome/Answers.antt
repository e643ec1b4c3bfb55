use Rattle.std.proofs.Common.{List, sym, ap, ◌∙◌}
use Rattle.std.specs.Option.{option_copied}
use Rattle.tl_isolation.specs.declared.state.NodeState.{NodeState}
use Rattle.tl_isolation.specs.State.{node_of}
use Rattle.tl_si.proofs.Same.{told_where}
use Rattle.tl_si.proofs.answer.has_outcome.Goals as goal

pub returns-in-Some : goal.returns-in-Some
returns-in-Some c =
    told_where _ c.in-Some.outcome.now c.args.told.now c.same_answer.result
    (sym (c.outcome_of.ensures ∙ ap (λ (nodes : List NodeState). (node_of c.args.node nodes).outcome) c.as_slice.ensures.value) ∙ ap option_copied c.in-Some.is)
    c.same_answer.ensures
