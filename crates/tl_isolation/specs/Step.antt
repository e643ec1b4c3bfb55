-- The machine of snapshot isolation: where an entry is allowed, and what it changes. There are no cells, versions,
-- stamps, log or recovery in it. Each entry has one rule in `Allowed` and one in `after`.
use Rattle.std.specs.Prelude.{◌≡◌, ◌≤◌, ℕ, ◌==◌, Bool, true, false, not, ◌&&◌, ◌||◌, List, [], ◌∷◌, ◌++◌, Option, Some, None, Result, Ok, Err, map, drop, length, is_none, slice_get, if◌then◌else◌}
use Rattle.std.specs.List.{list_any}
use Rattle.tl_base.specs.NodeSet.{has_node, with_node}
use Rattle.tl_schema.specs.declared.catalog.Catalog.{Catalog}
use Rattle.tl_algebra.specs.declared.edit.Edit.{Edit}
use Rattle.tl_write.specs.declared.fault.ChangeFault.{ChangeFault}
use Rattle.tl_write.specs.declared.write.Effect.{Effect}
use Rattle.tl_write.specs.declared.write.Write.{Write}
use Rattle.tl_write.specs.Own.{is_written, put_writes}
use Rattle.tl_isolation.specs.declared.bound.Bound.{Bound}
use Rattle.tl_isolation.specs.declared.bound.Bound.TheVariants as bound
use Rattle.tl_isolation.specs.declared.entry.Answer.{Answer}
use Rattle.tl_isolation.specs.declared.entry.Answer.TheVariants as answer
use Rattle.tl_isolation.specs.declared.entry.Said.{Said}
use Rattle.tl_isolation.specs.declared.entry.Entry.{Entry}
use Rattle.tl_isolation.specs.declared.entry.Entry.TheVariants as entry
use Rattle.tl_isolation.specs.declared.state.TxnPhase.TheVariants as phase
use Rattle.tl_isolation.specs.declared.state.Transaction.{Transaction}
use Rattle.tl_isolation.specs.declared.state.SiState.{SiState}
use Rattle.tl_isolation.specs.Meaning.{SelectAnswers, change_of, told_of}
use Rattle.tl_isolation.specs.State.{view_of, held_by, held_as, without_held, put_held, idle, node_of, put_node, is_live, is_trying, is_undoing, is_lost, is_fresh, is_open, is_refusal}

-- whether there is one, and it passes
abbrev pub holds : {A : Type 0} → (A → Bool) → Option A → Bool
holds p None = false
holds p (Some x) = p x

abbrev pub has_vanished : SiState → ℕ → Bool
has_vanished state node = has_node state.vanished node

abbrev pub outcome_of : SiState → ℕ → Option Answer
outcome_of state node = (node_of node state.nodes).outcome

abbrev pub noted_of : SiState → ℕ → Option ℕ
noted_of state node = (node_of node state.nodes).noted

-- the node holds no transaction
abbrev pub HoldsNone : SiState → ℕ → Type 0
HoldsNone state node = held_by node state.held ≡ None

-- the node holds a transaction with P
abbrev pub Holds : SiState → ℕ → (Transaction → Type 0) → Type 0
Holds state node P = (t : Transaction) × (held_by node state.held ≡ Some t) × P t

-- the transaction of this number is held, with P
abbrev pub IsHeld : SiState → ℕ → (Transaction → Type 0) → Type 0
IsHeld state tid P = (t : Transaction) × (held_as tid state.held ≡ Some t) × P t

-- no transaction of this node is lost
abbrev pub none_lost : SiState → ℕ → Bool
none_lost state node = not (list_any (λ t. (t.node == node) && is_lost t.phase) state.held)

-- what a change comes to on what the transaction sees
abbrev pub effect_on : Catalog → SiState → Transaction → Edit → Result Effect ChangeFault
effect_on catalog state t edit = change_of catalog edit (view_of state t) t.own

-- a statement is answered at once in a transaction that BEGIN opened; in a fresh one its answer waits for the commit
abbrev pub takes_statement : Bool → Transaction → Bool
takes_statement answered t = if answered then is_open t else is_fresh t

-- where a node may say this of a statement
abbrev pub MaySay : Catalog → SiState → ℕ → Bound → Answer → Bool → Type 0
MaySay catalog state node bound.Begin answer.Begun answered = (answered ≡ true) × Holds state node (λ t. is_fresh t ≡ true)
MaySay catalog state node bound.Begin answer.Nested answered = (answered ≡ true) × Holds state node (λ t. is_open t ≡ true)
MaySay catalog state node (bound.Recover gone) answer.Nested answered = (answered ≡ true) × Holds state node (λ t. is_open t ≡ true)
MaySay catalog state node bound.Commit answer.Outside answered =
    (answered ≡ true) × HoldsNone state node × (outcome_of state node ≡ None)
MaySay catalog state node bound.Rollback answer.Outside answered =
    (answered ≡ true) × HoldsNone state node × (outcome_of state node ≡ None)
MaySay catalog state node (bound.Recover gone) (answer.Recovered told) answered =
    (answered ≡ true) × (told ≡ gone) × HoldsNone state node × (none_lost state gone ≡ true)
MaySay catalog state node (bound.Recover gone) (answer.There told) answered =
    (answered ≡ true) × (told ≡ gone) × HoldsNone state node
MaySay catalog state node (bound.Select query) told answered =
    Holds state node (λ t. (takes_statement answered t ≡ true) × SelectAnswers query (view_of state t) told)
MaySay catalog state node (bound.Change edit) told answered =
    Holds state node (λ t. (takes_statement answered t ≡ true) × (told_of (effect_on catalog state t edit) ≡ Some told))
MaySay catalog state node bound told answered = ⊥

-- a transaction outside BEGIN whose statement was said and not refused
abbrev pub awaits_commit : Transaction → Bool
awaits_commit t = holds (λ a. not (is_refusal a)) t.unanswered

abbrev pub was_refused : Transaction → Bool
was_refused t = holds is_refusal t.unanswered

abbrev pub may_try : Transaction → Bool
may_try t = is_live t.phase && (t.opened || awaits_commit t)

-- a commit after the snapshot or a transaction that tried, of this number, writes the key
abbrev pub is_rival : SiState → Transaction → ℕ → List ℕ → Bool
is_rival state t rival key =
    list_any (λ c. (c.tid == rival) && is_written key c.writes) (drop t.first state.commits)
    || list_any (λ h. (h.tid == rival) && h.tried && is_written key h.own) state.held

-- the transaction meets a rival in the own record at this place
abbrev pub MayClash : SiState → ℕ → ℕ → Transaction → Type 0
MayClash state rival at t =
    (is_trying t.phase ≡ true) × ((rival == t.tid) ≡ false)
    × ((w : Write) × (slice_get t.own at ≡ Some w) × (is_rival state t rival w.key ≡ true))

-- no commit after the snapshot has a record of the own writes
abbrev pub is_alone : SiState → Transaction → Bool
is_alone state t =
    not (list_any (λ c. list_any (λ w. is_written w.key c.writes) t.own) (drop t.first state.commits))

-- it tried and met no rival
abbrev pub is_ready : Transaction → Bool
is_ready t = is_trying t.phase || (is_lost t.phase && t.tried && is_none t.rival)

abbrev pub MayCommit : SiState → Transaction → Type 0
MayCommit state t = (is_ready t ≡ true) × (is_alone state t ≡ true)

abbrev pub may_undo : Transaction → Bool
may_undo t = is_undoing t.phase || is_lost t.phase || (is_live t.phase && (t.opened || was_refused t))

-- where an entry is allowed
abbrev pub Allowed : Catalog → SiState → Entry → Type 0
Allowed catalog state (entry.Asked node) =
    (has_vanished state node ≡ false) × HoldsNone state node × (outcome_of state node ≡ None)
Allowed catalog state (entry.Began node tid first) =
    ((noted : ℕ) × (noted_of state node ≡ Some noted) × (noted ≤ first))
    × (first ≤ length state.commits) × ((tid == 0) ≡ false) × (list_any (λ begun. begun == tid) state.begun ≡ false)
Allowed catalog state (entry.Said node bound said) =
    (has_vanished state node ≡ false) × MaySay catalog state node bound said.answer said.answered
Allowed catalog state (entry.Tried tid) = IsHeld state tid (λ t. may_try t ≡ true)
Allowed catalog state (entry.Clash tid rival at) = IsHeld state tid (MayClash state rival at)
Allowed catalog state (entry.Committed tid) = IsHeld state tid (MayCommit state)
Allowed catalog state (entry.Undone tid) = IsHeld state tid (λ t. may_undo t ≡ true)
Allowed catalog state (entry.Answered node statement told) = outcome_of state node ≡ Some told
Allowed catalog state (entry.Vanished node ending) = has_vanished state node ≡ false

abbrev pub with_noted : ℕ → Option ℕ → SiState → SiState
with_noted node noted state =
    record state { nodes = put_node (record (node_of node state.nodes) { noted = noted }) state.nodes }

abbrev pub with_outcome : ℕ → Option Answer → SiState → SiState
with_outcome node outcome state =
    record state { nodes = put_node (record (node_of node state.nodes) { outcome = outcome }) state.nodes }

-- the held transaction, changed
abbrev pub with_held : Option Transaction → (Transaction → Transaction) → SiState → SiState
with_held None f state = state
with_held (Some t) f state = record state { held = put_held (f t) state.held }

abbrev pub begin : ℕ → ℕ → ℕ → Transaction
begin node tid first =
    record {
      tid = tid;
      node = node;
      first = first;
      own = [];
      phase = phase.Live;
      opened = false;
      tried = false;
      rival = None;
      unanswered = None;
    }

-- BEGIN opens a fresh transaction
abbrev pub open_by_begin : Transaction → Transaction
open_by_begin t = if is_fresh t then record t { opened = true } else t

-- an answer that has still to be given is kept
abbrev pub keep_answer : Answer → Bool → Transaction → Transaction
keep_answer told answered t = if answered then t else record t { unanswered = Some told }

-- the own writes with those of a change after them; a refused change writes nothing
abbrev pub own_after : Result Effect ChangeFault → List Write → List Write
own_after (Ok effect) own = put_writes effect.writes own
own_after (Err refusal) own = own

-- what a statement changes in the node's transaction
abbrev pub take_statement : Catalog → SiState → Bound → Said → Transaction → Transaction
take_statement catalog state bound.Begin said t = open_by_begin t
take_statement catalog state (bound.Select query) said t = keep_answer said.answer said.answered t
take_statement catalog state (bound.Change edit) said t =
    record (keep_answer said.answer said.answered t) { own = own_after (effect_on catalog state t edit) t.own }
take_statement catalog state bound said t = t

abbrev pub try_commit : Transaction → Transaction
try_commit t = record t { phase = phase.Trying; tried = true }

abbrev pub meet_rival : ℕ → Transaction → Transaction
meet_rival rival t = record t { phase = phase.Undoing; rival = Some rival }

abbrev pub lose : ℕ → Transaction → Transaction
lose node t = if t.node == node then record t { phase = phase.Lost } else t

-- what is answered once the transaction is committed
abbrev pub commit_answer : Option Answer → Answer
commit_answer None = answer.Committed
commit_answer (Some told) = told

-- what is answered once the transaction is undone: the rival, or the refusal
abbrev pub undo_answer : Option ℕ → Option Answer → Answer
undo_answer (Some rival) unanswered = answer.Conflict rival
undo_answer None (Some refusal) = refusal
undo_answer None None = answer.RolledBack

-- the transaction is no longer held, and its node has this answer to give unless it has vanished
abbrev pub end_with : Answer → Transaction → SiState → SiState
end_with told t state =
    let ended : SiState = record state { held = without_held t.tid state.held } in
    if is_lost t.phase then ended else with_outcome t.node (Some told) ended

abbrev pub commit : Option Transaction → SiState → SiState
commit None state = state
commit (Some t) state =
    end_with (commit_answer t.unanswered) t (record state { commits = state.commits ++ record { tid = t.tid; writes = t.own } ∷ [] })

abbrev pub undo : Option Transaction → SiState → SiState
undo None state = state
undo (Some t) state = end_with (undo_answer t.rival t.unanswered) t state

-- each answered statement removes the note
abbrev pub forget_note : ℕ → Bool → SiState → SiState
forget_note node answered state = if answered then with_noted node None state else state

-- what an entry changes
abbrev pub after : Catalog → SiState → Entry → SiState
after catalog state (entry.Asked node) = with_noted node (Some (length state.commits)) state
after catalog state (entry.Began node tid first) =
    with_noted node None (record state { begun = state.begun ++ tid ∷ []; held = state.held ++ begin node tid first ∷ [] })
after catalog state (entry.Said node bound said) =
    forget_note node said.answered (with_held (held_by node state.held) (take_statement catalog state bound said) state)
after catalog state (entry.Tried tid) = with_held (held_as tid state.held) try_commit state
after catalog state (entry.Clash tid rival at) = with_held (held_as tid state.held) (meet_rival rival) state
after catalog state (entry.Committed tid) = commit (held_as tid state.held) state
after catalog state (entry.Undone tid) = undo (held_as tid state.held) state
after catalog state (entry.Answered node statement told) = record state { nodes = put_node (idle node) state.nodes }
after catalog state (entry.Vanished node ending) =
    record state {
      vanished = with_node state.vanished node;
      held = map (lose node) state.held;
      nodes = put_node (idle node) state.nodes;
    }
