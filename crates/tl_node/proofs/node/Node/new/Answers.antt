use Rattle.tl_node.proofs.Beginning.{new_fits, new_stands}
use Rattle.tl_node.proofs.node.Node.new.Goals as goal

pub invariant_of-result : goal.invariant_of-result
invariant_of-result c = new_fits c.in_ok-core.core c.args.setup.now.settings c.args.setup.now.catalog c.args.session.now c.in_ok-first.first c.in_ok-core.ensures c.in_ok-first.ensures

pub returns-clause-opens : goal.returns-clause-opens
returns-clause-opens c = new_stands c.in_ok-core.core c.args.setup.now.settings c.args.setup.now.catalog c.args.session.now c.in_ok-first.first c.in_ok-core.ensures c.in_ok-first.ensures

pub returns-clause-session : goal.returns-clause-session
returns-clause-session c = c.in_ok-core.ensures.statements
