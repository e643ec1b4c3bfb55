-- The nodes that a node is to recover, as its code keeps them.
use Rattle.std.specs.Prelude.{ℕ, Option, Some}
use Rattle.tl_base.specs.NodeSet.{no_nodes, with_node}
use Rattle.tl_base.specs.declared.node.NodeSet.{NodeSet}
use Rattle.tl_manager.specs.declared.request.Reply.{Reply}
use Rattle.tl_ask.specs.Hears.{hears_manager}
use Rattle.tl_node.specs.Hears.{claim_heard}
use Rattle.tl_node.specs.declared.hears.Claim.{Claim}
use Rattle.tl_node.specs.declared.hears.Claim.TheVariants as claim
use Rattle.tl_node.specs.declared.work.Outside.TheVariants as outside
use Rattle.tl_node.specs.declared.work.Work.{Work}
use Rattle.tl_node.specs.declared.work.Work.TheVariants as work

abbrev pub owed_at : Work → NodeSet
owed_at (work.Recovers gone recover) = recover.all
owed_at (work.Stopped nodes) = nodes
owed_at other = no_nodes

-- the node that was claimed, and the others of the notice
abbrev pub owed_of_claim : ℕ → Option Claim → NodeSet
owed_of_claim gone (Some (claim.Given also)) = with_node also gone
owed_of_claim gone other = no_nodes

-- what a node claims with the reply is its duty at once
abbrev pub owed_next : Work → Reply → NodeSet
owed_next (work.Outside (outside.Claims gone asked)) told = owed_of_claim gone (claim_heard (hears_manager told))
owed_next other told = owed_at other
