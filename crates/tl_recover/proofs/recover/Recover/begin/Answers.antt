use Rattle.std.proofs.Common.{◌≡◌, ℕ, true, List, ◌∷◌, refl, sym, subst}
use Rattle.tl_base.specs.NodeSet.{has_node, with_node}
use Rattle.tl_base.specs.declared.node.NodeSet.{NodeSet}
use Rattle.tl_journal.specs.Node.{nodes_in}
use Rattle.tl_recover.proofs.Least.{begun}
use Rattle.tl_recover.proofs.recover.Recover.begin.Goals as goal
use Rattle.tl_protocol.proofs.Held.{vanished_here}

pub least_of-first-requires : goal.least_of-first-requires
least_of-first-requires c = subst (λ (set : NodeSet). has_node set c.args.node ≡ true) (sym c.insert.ensures) (vanished_here c.args.also c.args.node)

pub returns : goal.returns
returns c =
    let least = c.least_of-first.result in
    record {
      layout = refl;
      all = c.insert.ensures;
      first = begun c.args.layout (with_node c.args.also c.args.node) least c.finding-phase.result
          (subst (λ (set : NodeSet). (later : List ℕ) × (nodes_in set ≡ least ∷ later)) c.insert.ensures c.least_of-first.ensures)
          c.finding-phase.ensures;
    }
