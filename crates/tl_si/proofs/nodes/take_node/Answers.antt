use Rattle.std.proofs.Common.{ℕ, ◌==◌, not, Bool, List, Option, filter, ap, sym, ◌∙◌}
use Rattle.std.specs.Prelude.{position, unwrap_or}
use Rattle.tl_lemmas.proofs.Lists.{passes}
use Rattle.tl_isolation.specs.declared.state.NodeState.{NodeState}
use Rattle.tl_isolation.specs.State.{idle}
use Rattle.tl_si.proofs.Find.{found_at, none_at, others_kept}
use Rattle.tl_si.proofs.nodes.take_node.Goals as goal

abbrev is_of : ℕ → NodeState → Bool
is_of node s = s.node == node

pub returns-in-Some-clause-taken : goal.returns-in-Some-clause-taken
returns-in-Some-clause-taken c =
    let found = found_at (is_of c.args.node) c.args.nodes.now.items c.in-Some.at c.remove.result
    (sym c.in-Some.is ∙ c.place_of.ensures ∙ ap (position (is_of c.args.node)) c.deref.ensures.value) c.remove.ensures.value in
    sym (ap (λ (o : Option NodeState). unwrap_or o (idle c.args.node)) found.2)

pub returns-in-Some-clause-others : goal.returns-in-Some-clause-others
returns-in-Some-clause-others c =
    let found = found_at (is_of c.args.node) c.args.nodes.now.items c.in-Some.at c.remove.result
    (sym c.in-Some.is ∙ c.place_of.ensures ∙ ap (position (is_of c.args.node)) c.deref.ensures.value) c.remove.ensures.value in
    ap (λ (nodes : List NodeState). filter (λ o. not (o.node == c.args.node)) nodes) c.remove.ensures.items
    ∙ others_kept (is_of c.args.node) c.args.nodes.now.items c.in-Some.at c.remove.result found.1
    (passes (is_of c.args.node) c.args.nodes.now.items c.remove.result found.2)

pub returns-in-None-clause-taken : goal.returns-in-None-clause-taken
returns-in-None-clause-taken c =
    sym (ap (λ (o : Option NodeState). unwrap_or o (idle c.args.node))
    (none_at (is_of c.args.node) c.args.nodes.now.items (sym c.in-None.is ∙ c.place_of.ensures ∙ ap (position (is_of c.args.node)) c.deref.ensures.value)))
