-- The state of a manager, what it answers to a request, and its state after one.
use Rattle.std.specs.Prelude.{ℕ, List, [], ◌∷◌, ◌++◌, Option, Some, None, if◌then◌else◌}
use Rattle.std.specs.FinMap as map
use Rattle.tl_base.specs.declared.node.NodeSet.{NodeSet}
use Rattle.tl_descriptor.specs.Tids.{TidSet}
use Rattle.tl_descriptor.specs.declared.run.Run.{Run}
use Rattle.tl_manager.specs.declared.active.Active.{Active}
use Rattle.tl_manager.specs.declared.request.ManagerRequest.{ManagerRequest}
use Rattle.tl_manager.specs.declared.request.ManagerRequest.TheVariants.{Begin, Range, End, Orphans, Floor, Post, Claim}
use Rattle.tl_manager.specs.declared.request.ManagerReply.{ManagerReply}
use Rattle.tl_manager.specs.declared.request.ManagerReply.TheVariants as reply
use Rattle.tl_manager.specs.Floor.{floor_of, newer}
use Rattle.tl_manager.specs.Notices.{Notices, with_notice}
use Rattle.tl_manager.specs.Ranges.{drawn, first_number, range_of}
use Rattle.tl_manager.specs.Transactions.{is_active, tids_of, without}

-- copy is the newest set of finished transactions that was shown; active stands in the order in which they began
pub record ManagerState : Type 0 where
  pub copy : TidSet
  pub ranges : List Run
  pub active : List Active
  pub notices : Notices

-- a manager that knows of no finished transaction but tid 0
abbrev pub opening_copy : TidSet
opening_copy = record { base = 0; runs = [] }

-- a Begin with this first number, this copy, and those that are active before it
abbrev pub begin_reply : Option ℕ → TidSet → List Active → ManagerReply
begin_reply None copy active = reply.NeedRange
begin_reply (Some tid) copy active = reply.Began tid copy (floor_of copy active)

abbrev pub end_reply : ℕ → List Active → ManagerReply
end_reply tid active = if is_active tid active then reply.Ended else reply.NotActive

-- a Claim of this notice
abbrev pub claim_reply : Option NodeSet → ManagerReply
claim_reply None = reply.There
claim_reply (Some also) = reply.Given also

abbrev pub reply_of : ManagerState → ManagerRequest → ManagerReply
reply_of s (Begin node seen) = begin_reply (first_number s.ranges) (newer s.copy seen) s.active
reply_of s (Range low high) = reply.Ranged
reply_of s (End tid) = end_reply tid s.active
reply_of s (Orphans node) = reply.Orphaned (tids_of node s.active)
reply_of s (Floor seen) = reply.FloorIs (floor_of (newer s.copy seen) s.active)
reply_of s (Post node also) = reply.Posted
reply_of s (Claim node) = claim_reply (map.get s.notices node)

-- a transaction of this node begins, where there is a number
abbrev pub after_begin : Option ℕ → ℕ → TidSet → ManagerState → ManagerState
after_begin None node copy s = s
after_begin (Some tid) node copy s =
    record s { copy = copy; ranges = drawn s.ranges; active = s.active ++ record { tid = tid; node = node; snapshot = copy } ∷ [] }

abbrev pub next_of : ManagerState → ManagerRequest → ManagerState
next_of s (Begin node seen) = after_begin (first_number s.ranges) node (newer s.copy seen) s
next_of s (Range low high) = record s { ranges = s.ranges ++ range_of low high }
next_of s (End tid) = record s { active = without tid s.active }
next_of s (Orphans node) = s
next_of s (Floor seen) = record s { copy = newer s.copy seen }
next_of s (Post node also) = record s { notices = with_notice node also s.notices }
next_of s (Claim node) = record s { notices = map.remove s.notices node }
