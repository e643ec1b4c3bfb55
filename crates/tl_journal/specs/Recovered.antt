-- What a RECOVER's answer says of the death notice that it claimed: Recovered once nothing is left of all the nodes that it
-- was given, There where it was given none.
use Rattle.std.specs.Prelude.{◌≡◌, ◌≤◌, ℕ, ◌==◌, Bool, true, false, ◌&&◌, ◌||◌, List, [], ◌∷◌, ◌++◌, None, Contains}
use Rattle.std.specs.List.{list_any}
use Rattle.tl_base.specs.NodeSet.{has_node}
use Rattle.tl_base.specs.declared.node.NodeSet.{NodeSet}
use Rattle.tl_base.specs.declared.place.Settings.{Settings}
use Rattle.tl_manager.specs.declared.request.ManagerReply.TheVariants as manager
use Rattle.tl_manager.specs.declared.request.ManagerRequest.TheVariants as asked
use Rattle.tl_manager.specs.declared.request.Reply.TheVariants as reply
use Rattle.tl_manager.specs.declared.request.Request.{Request}
use Rattle.tl_manager.specs.declared.request.Request.TheVariants as request
use Rattle.tl_manager.specs.Serves.{active_after}
use Rattle.tl_manager.specs.Transactions.{tids_of}
use Rattle.tl_isolation.specs.declared.bound.Bound.{Bound}
use Rattle.tl_isolation.specs.declared.entry.Answer.{Answer}
use Rattle.tl_isolation.specs.declared.entry.Answer.TheVariants as answer
use Rattle.tl_isolation.specs.declared.entry.Entry.TheVariants as entry
use Rattle.tl_isolation.specs.declared.entry.Said.{Said}
use Rattle.tl_isolation.specs.declared.script.Script.{Script}
use Rattle.tl_isolation.specs.History.{state_after}
use Rattle.tl_isolation.specs.Script.{answers_by, setup_of}
use Rattle.tl_isolation.specs.State.{held_by}
use Rattle.tl_journal.specs.declared.event.Event.{Event}
use Rattle.tl_journal.specs.Bytes.{home_of}
use Rattle.tl_journal.specs.Journal.{entries_told, manager_log}
use Rattle.tl_journal.specs.Law.{IsRun}

-- whether the request claims a death notice
abbrev pub is_claim : Request → Bool
is_claim (request.Manager (asked.Claim gone)) = true
is_claim r = false

-- whether the event is a claim of this node
abbrev pub claims : ℕ → Event → Bool
claims n e = (e.node == n) && is_claim e.request

-- the claim of node n's present statement was given the notice of this node, which names these beside it: since then n has
-- answered nothing and claimed nothing
pub record WasGiven (past : List Event) (n gone : ℕ) (also : NodeSet) : Type 0 where
  pub before : List Event
  pub claim : Event
  pub since : List Event
  pub past_is : past ≡ before ++ claim ∷ since
  pub own : claim.node ≡ n
  pub asks : claim.request ≡ request.Manager (asked.Claim gone)
  pub given : claim.reply ≡ reply.Manager (manager.Given also)
  pub unanswered : answers_by n (entries_told (claim ∷ since)) ≡ []
  pub last : list_any (claims n) since ≡ false

-- no transaction of the node is held, and none is active at its manager
pub record HasNone (script : Script) (settings : Settings) (past : List Event) (node : ℕ) : Type 0 where
  pub held : held_by node (state_after (setup_of script settings) (entries_told past)).held ≡ None
  pub active : tids_of node (active_after (manager_log (home_of settings node) past)) ≡ []

-- the claim was given a notice, and after the event neither the claimed node nor one that was given with it has a
-- transaction
pub record IsRecovered (script : Script) (settings : Settings) (past : List Event) (e : Event) (n gone : ℕ) : Type 0 where
  pub own : e.node ≡ n
  pub also : NodeSet
  pub claim : WasGiven past n gone also
  pub done : (node : ℕ) → 1 ≤ node → (gone == node || has_node also node) ≡ true → HasNone script settings (past ++ e ∷ []) node

-- the event is the claim, and there was no notice
pub record IsThere (e : Event) (n gone : ℕ) : Type 0 where
  pub own : e.node ≡ n
  pub asks : e.request ≡ request.Manager (asked.Claim gone)
  pub none : e.reply ≡ reply.Manager manager.There

-- where node n may say this at an event
abbrev pub OfRecovery : Script → Settings → List Event → Event → ℕ → Answer → Type 0
OfRecovery script settings past e n (answer.Recovered gone) = IsRecovered script settings past e n gone
OfRecovery script settings past e n (answer.There gone) = IsThere e n gone
OfRecovery script settings past e n told = Unit {0}

-- so says each event
abbrev pub RecoversWhole : Script → Settings → List Event → Event → Type 0
RecoversWhole script settings past e =
    (n : ℕ) (statement : Bound) (said : Said) → Contains e.entries (entry.Said n statement said) → OfRecovery script settings past e n said.answer

-- of a run
abbrev pub RecoveriesAreWhole : Type 0
RecoveriesAreWhole = (script : Script) (settings : Settings) (past : List Event) (e : Event) (rest : List Event) → IsRun script settings (past ++ e ∷ rest)
    → RecoversWhole script settings past e
