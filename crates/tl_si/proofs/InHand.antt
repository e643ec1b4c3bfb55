-- What a node has in hand, taken from the list and put back.
use Rattle.std.proofs.Common.{◌≡◌, ℕ, ◌==◌, not, List, [], ◌∷◌, ◌++◌, Option, Some, None, filter, refl, sym, ap, subst, ◌∙◌}
use Rattle.std.specs.Prelude.{find, unwrap_or, if◌then◌else◌}
use Rattle.std.proofs.lemmas.Bool.{eqb-true}
use Rattle.tl_lemmas.proofs.Lists.{passes}
use Rattle.tl_isolation.specs.declared.entry.Answer.{Answer}
use Rattle.tl_isolation.specs.declared.state.NodeState.{NodeState}
use Rattle.tl_isolation.specs.State.{idle, is_idle, node_of, put_node}
use Rattle.tl_isolation.proofs.Known.{node_at}

abbrev AreOthers : ℕ → List NodeState → List NodeState → Type 0
AreOthers node left nodes = filter (λ o. not (o.node == node)) left ≡ filter (λ o. not (o.node == node)) nodes

put_same : (s : NodeState) (left nodes : List NodeState) → AreOthers s.node left nodes → put_node s left ≡ put_node s nodes
put_same s left nodes e = ap (λ (others : List NodeState). others ++ (if is_idle s then [] else s ∷ [])) e

pub noted_same : (node : ℕ) (noted : Option ℕ) (nodes left : List NodeState) (taken : NodeState) → taken ≡ node_of node nodes → AreOthers node left nodes
    → put_node (record taken { noted = noted }) left ≡ put_node (record (node_of node nodes) { noted = noted }) nodes
noted_same node noted nodes left taken is others =
    ap (λ (s : NodeState). put_node (record s { noted = noted }) left) is
    ∙ put_same (record (node_of node nodes) { noted = noted }) left nodes (subst (λ (n : ℕ). AreOthers n left nodes) (sym (node_at node nodes)) others)

pub given_same : (node : ℕ) (outcome : Option Answer) (nodes left : List NodeState) (taken : NodeState) → taken ≡ node_of node nodes → AreOthers node left nodes
    → put_node (record taken { outcome = outcome }) left ≡ put_node (record (node_of node nodes) { outcome = outcome }) nodes
given_same node outcome nodes left taken is others =
    ap (λ (s : NodeState). put_node (record s { outcome = outcome }) left) is
    ∙ put_same (record (node_of node nodes) { outcome = outcome }) left nodes (subst (λ (n : ℕ). AreOthers n left nodes) (sym (node_at node nodes)) others)
