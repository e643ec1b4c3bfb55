-- A manager serves its log: every reply follows from the requests and replies before it.
use Rattle.std.specs.Prelude.{◌≡◌, ◌≤◌, ◌==◌, ℕ, Bool, true, false, not, List, [], ◌∷◌, ◌++◌, drop, filter, flat_map, fold, length, map, Option, Some, None, if◌then◌else◌}
use Rattle.std.specs.List.{list_all, list_any}
use Rattle.std.specs.FinMap as finite
use Rattle.tl_base.specs.Along.{Along}
use Rattle.tl_base.specs.NodeSet.{no_nodes}
use Rattle.tl_base.specs.declared.node.NodeSet.{NodeSet}
use Rattle.tl_descriptor.specs.Tids.{TidSet}
use Rattle.tl_manager.specs.declared.active.Active.{Active}
use Rattle.tl_manager.specs.declared.request.ManagerRequest.{ManagerRequest}
use Rattle.tl_manager.specs.declared.request.ManagerRequest.TheVariants.{Begin, Range, End, Orphans, Floor, Post, Claim}
use Rattle.tl_manager.specs.declared.request.ManagerReply.{ManagerReply}
use Rattle.tl_manager.specs.declared.request.ManagerReply.TheVariants as reply
use Rattle.tl_manager.specs.Floor.{floor_of, newer}
use Rattle.tl_manager.specs.Notices.{joined}
use Rattle.tl_manager.specs.Ranges.{has_number, numbers_of}
use Rattle.tl_manager.specs.State.{ManagerState, begin_reply, claim_reply, end_reply, opening_copy}
use Rattle.tl_manager.specs.Transactions.{tids_of}

-- one request, with what was answered
pub record Call : Type 0 where
  pub request : ManagerRequest
  pub reply : ManagerReply

-- the numbers that a request brings
abbrev pub brought_by : ManagerRequest → List ℕ
brought_by (Range low high) = numbers_of (record { low = low; high = high })
brought_by request = []

abbrev pub brought : List Call → List ℕ
brought = flat_map (λ c. brought_by c.request)

-- the transaction that a call began
abbrev pub begun_by : ManagerRequest → ManagerReply → List Active
begun_by (Begin node seen) (reply.Began tid snapshot floor) = record { tid = tid; node = node; snapshot = snapshot } ∷ []
begun_by request answer = []

abbrev pub begun : List Call → List Active
begun = flat_map (λ c. begun_by c.request c.reply)

-- the numbers of the transactions that began, in order
abbrev pub given : List Call → List ℕ
given log = map (λ (transaction : Active). transaction.tid) (begun log)

-- the numbers left: those that were brought, less one from the front for each transaction that began
abbrev pub left : List Call → List ℕ
left log = drop (length (begun log)) (brought log)

abbrev pub first_of : List ℕ → Option ℕ
first_of [] = None
first_of (tid ∷ tids) = Some tid

-- whether a request ends a transaction
abbrev pub ends : ℕ → ManagerRequest → Bool
ends tid (End ended) = tid == ended
ends tid request = false

-- the transactions that began, in order, and that no later call ends
abbrev pub active_after : List Call → List Active
active_after [] = []
active_after (c ∷ cs) = filter (λ transaction. not (list_any (λ later. ends transaction.tid later.request) cs)) (begun_by c.request c.reply) ++ active_after cs

-- the copy after a call
abbrev pub shown : TidSet → ManagerRequest → ManagerReply → TidSet
shown copy (Floor seen) answer = newer copy seen
shown copy (Begin node seen) (reply.Began tid snapshot floor) = newer copy seen
shown copy request answer = copy

-- the newest set that was shown
abbrev pub copy_after : List Call → TidSet
copy_after = fold (λ copy c. shown copy c.request c.reply) opening_copy

-- the set that a request posts for a node
abbrev pub posted_by : ℕ → ManagerRequest → List NodeSet
posted_by node (Post dead also) = if node == dead then also ∷ [] else []
posted_by node request = []

-- whether a call gave the notice of a node away
abbrev pub gives : ℕ → ManagerRequest → ManagerReply → Bool
gives node (Claim dead) (reply.Given also) = node == dead
gives node request answer = false

-- the sets that were posted for a node and not given since
abbrev pub posted : ℕ → List Call → List NodeSet
posted node [] = []
posted node (c ∷ cs) = (if list_any (λ later. gives node later.request later.reply) cs then [] else posted_by node c.request) ++ posted node cs

-- a notice is there where a set was posted, and is the union of the sets
abbrev pub union_of : List NodeSet → Option NodeSet
union_of [] = None
union_of (nodes ∷ more) = Some (fold joined no_nodes (nodes ∷ more))

abbrev pub notice_after : List Call → ℕ → Option NodeSet
notice_after log node = union_of (posted node log)

-- the reply that a request has to have after a log
abbrev pub reply_after : List Call → ManagerRequest → ManagerReply
reply_after log (Begin node seen) = begin_reply (first_of (left log)) (newer (copy_after log) seen) (active_after log)
reply_after log (Range low high) = reply.Ranged
reply_after log (End tid) = end_reply tid (active_after log)
reply_after log (Orphans node) = reply.Orphaned (tids_of node (active_after log))
reply_after log (Floor seen) = reply.FloorIs (floor_of (newer (copy_after log) seen) (active_after log))
reply_after log (Post node also) = reply.Posted
reply_after log (Claim node) = claim_reply (notice_after log node)

abbrev pub Serves : List Call → Call → Type 0
Serves past c = c.reply ≡ reply_after past c.request

-- each reply of the log follows from what stands before it
abbrev pub ServesAll : List Call → Type 0
ServesAll log = Along Serves [] log

-- the state is what the log says
pub record Matches (log : List Call) (s : ManagerState) : Type 0 where
  pub copy : s.copy ≡ copy_after log
  pub numbers : flat_map numbers_of s.ranges ≡ left log
  -- no range is empty, and no number was given that had not been brought
  pub ranges : list_all has_number s.ranges ≡ true
  pub enough : length (begun log) ≤ length (brought log)
  pub active : s.active ≡ active_after log
  pub notices : (node : ℕ) → finite.get s.notices node ≡ notice_after log node
