-- What a manager's reply says to a node.
use Rattle.std.specs.Prelude.{Bool, true, false, Option, Some, None}
use Rattle.tl_descriptor.specs.Tids.{TidSet}
use Rattle.tl_manager.specs.declared.request.ManagerReply.TheVariants as manager
use Rattle.tl_manager.specs.declared.request.Reply.{Reply}
use Rattle.tl_manager.specs.declared.request.Reply.TheVariants as reply
use Rattle.tl_journal.specs.Ask.{Heard, Told, Strange}
use Rattle.tl_node.specs.declared.hears.Claim.{Claim}
use Rattle.tl_node.specs.declared.hears.Claim.TheVariants as claim

-- all that a manager's reply says
abbrev pub manager_says : Reply → Heard
manager_says (reply.Manager told) = Told told
manager_says (reply.Store told) = Strange

-- the low-water mark
abbrev pub floor_heard : Heard → Option TidSet
floor_heard (Told (manager.FloorIs floor)) = Some floor
floor_heard other = None

-- what a claim came to
abbrev pub claim_heard : Heard → Option Claim
claim_heard (Told manager.There) = Some claim.There
claim_heard (Told (manager.Given also)) = Some (claim.Given also)
claim_heard other = None

-- that the transaction is over
abbrev pub is_ended : Heard → Bool
is_ended (Told manager.Ended) = true
is_ended other = false
