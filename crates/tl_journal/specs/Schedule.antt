-- When a node vanishes, and whose turn it is.
use Rattle.std.specs.Prelude.{◌≡◌, ◌<◌, ◌⊎◌, ℕ, ◌-◌, ◌==◌, Bool, true, false, not, ◌&&◌, ◌||◌, nat_le, nat_lt, List, [], ◌∷◌, ◌++◌, Option, Some, None, filter, find, length, if◌then◌else◌}
use Rattle.std.specs.List.{list_any}
use Rattle.tl_base.specs.declared.place.Settings.{Settings}
use Rattle.tl_base.specs.declared.store.StoreReply.{StoreReply}
use Rattle.tl_base.specs.declared.store.StoreReply.TheVariants as stored
use Rattle.tl_base.specs.declared.store.StoreRequest.{StoreRequest}
use Rattle.tl_base.specs.declared.store.StoreRequest.TheVariants as store
use Rattle.tl_manager.specs.declared.request.ManagerReply.TheVariants as told
use Rattle.tl_manager.specs.declared.request.Request.{Request}
use Rattle.tl_manager.specs.declared.request.Request.TheVariants as request
use Rattle.tl_manager.specs.declared.request.Reply.{Reply}
use Rattle.tl_manager.specs.declared.request.Reply.TheVariants as reply
use Rattle.tl_isolation.specs.declared.entry.Entry.{Entry}
use Rattle.tl_isolation.specs.declared.entry.Entry.TheVariants as entry
use Rattle.tl_isolation.specs.declared.entry.Ending.{Ending}
use Rattle.tl_isolation.specs.declared.entry.Ending.TheVariants as ending
use Rattle.tl_isolation.specs.declared.script.Script.{Script}
use Rattle.tl_isolation.specs.declared.script.Session.{Session}
use Rattle.tl_isolation.specs.declared.script.TurnItem.{TurnItem}
use Rattle.tl_isolation.specs.declared.script.TurnItem.TheVariants.{One, Until}
use Rattle.tl_isolation.specs.declared.script.Vanish.{Vanish}
use Rattle.tl_isolation.specs.declared.script.VanishKind.{VanishKind}
use Rattle.tl_isolation.specs.declared.script.VanishKind.TheVariants as kind
use Rattle.tl_isolation.specs.Script.{answers_by}
use Rattle.tl_journal.specs.declared.event.Event.{Event}
use Rattle.tl_journal.specs.Journal.{entries_told, has_vanished, is_post, node_after, session_of}
use Rattle.tl_journal.specs.Strange.{is_stopped}

-- whether a key begins with this byte
abbrev pub is_kind : ℕ → List ℕ → Bool
is_kind byte [] = false
is_kind byte (first ∷ key) = first == byte

-- whether bytes are those of a leaf: a tree node of level 0
abbrev pub is_leaf : List ℕ → Bool
is_leaf value = is_kind 0 value

-- a conditional store that was done, of this kind
abbrev pub counts_store : VanishKind → StoreRequest → StoreReply → Bool
counts_store kind.Any asked answered = true
counts_store kind.RecordStore (store.StoreIf key stamp value) (stored.Stored fresh) = is_kind 4 key
counts_store kind.FlagStore (store.StoreIf key stamp value) (stored.Stored fresh) = is_kind 3 key && nat_lt 0 stamp
counts_store kind.LeafStore (store.StoreIf key stamp value) (stored.Stored fresh) = is_kind 6 key && nat_lt 0 stamp && is_leaf value
counts_store kind.SplitStore (store.StoreIf key stamp value) (stored.Stored fresh) = is_kind 6 key && (stamp == 0)
counts_store k asked answered = false

abbrev pub is_any : VanishKind → Bool
is_any kind.Any = true
is_any k = false

abbrev pub counts : VanishKind → Request → Reply → Bool
counts k (request.Store asked) (reply.Store answered) = counts_store k asked answered
counts k asked answered = is_any k

-- the requests of a node, its death notice aside
abbrev pub requests_of : ℕ → List Event → List Event
requests_of node events = filter (λ (e : Event). (e.node == node) && not (is_post e.request)) events

-- how many of its requests are counted by a @vanish
abbrev pub counted : Vanish → List Event → ℕ
counted v events = length (filter (λ (e : Event). counts v.kind e.request e.reply) (requests_of v.node events))

abbrev pub vanish_of : Script → ℕ → Option Vanish
vanish_of script node = find (λ (v : Vanish). v.node == node) script.vanishes

-- the count of the node's @vanish is reached
abbrev pub is_due : Script → List Event → ℕ → Bool
is_due script events node = by (vanish_of script node)
  where
    by : Option Vanish → Bool
    by None = false
    by (Some v) = nat_le v.count (counted v events)

-- all statements of the node are answered; there are none where it has no session
abbrev pub is_done : Script → List Event → ℕ → Bool
is_done script events node = by (session_of script node)
  where
    by : Option Session → Bool
    by None = true
    by (Some session) = nat_le (length session.statements) (length (answers_by node (entries_told events)))

-- the node wanted memory at a reply at which it had something to say, and didn't say it: it asks nothing more
abbrev pub was_cut : Script → Settings → List Event → ℕ → Bool
was_cut script settings events node = by (session_of script node)
  where
    by : Option Session → Bool
    by None = false
    by (Some session) = is_stopped (node_after settings script events session).doing

-- its budget is used up, and it has one more request to make
abbrev pub is_spent : Script → Settings → List Event → ℕ → Bool
is_spent script settings events node =
    nat_le settings.budget (length (requests_of node events)) && (not (is_done script events node) && not (was_cut script settings events node))

abbrev pub latest : List Event → Option Event
latest [] = None
latest (e ∷ []) = Some e
latest (e ∷ f ∷ es) = latest (f ∷ es)

abbrev pub is_answer : Entry → Bool
is_answer (entry.Said node bound said) = true
is_answer (entry.Answered node statement told) = true
is_answer e = false

-- the last request of the node gave no answer
abbrev pub gave_none : ℕ → List Event → Bool
gave_none node events = by (latest (requests_of node events))
  where
    by : Option Event → Bool
    by None = false
    by (Some before) = not (list_any is_answer before.entries)

-- Whether a node that asks no more ended so: as vanished exactly where its count is reached; as spent where that isn't, its
-- budget is used up and it has one more request to make; as out of memory where its count isn't reached and it has more to
-- do, and it wanted memory at its last reply, which then gave no answer, or before a reply that its budget still allows
abbrev pub EndsSo : Script → Settings → List Event → ℕ → Ending → Type 0
EndsSo script settings past node ending.Vanished = is_due script past node ≡ true
EndsSo script settings past node ending.Spent = (is_due script past node ≡ false) × (is_spent script settings past node ≡ true)
EndsSo script settings past node ending.OutOfMemory =
    (is_due script past node ≡ false) × (is_done script past node ≡ false)
    × ((gave_none node past ≡ true) ⊎ (length (requests_of node past) < settings.budget))

-- no request is made where the count is reached or the budget is used up
abbrev pub MayAsk : Script → Settings → List Event → ℕ → Type 0
MayAsk script settings past node = (is_due script past node ≡ false) × (length (requests_of node past) < settings.budget)

-- no more turns are the node's
abbrev pub is_over : Script → List Event → ℕ → Bool
is_over script events node = is_done script events node || has_vanished events node

-- the items of the schedule that are left, and the node that had the last turn behind them
pub record Clock : Type 0 where
  pub items : List TurnItem
  pub last : ℕ

abbrev pub is_finished : Script → List Event → TurnItem → Bool
is_finished script events (One node times) = (times == 0) || is_over script events node
is_finished script events (Until node statement) =
    nat_le statement (length (answers_by node (entries_told events))) || is_over script events node

-- the items from the first one on that isn't finished
abbrev pub unfinished : Script → List Event → List TurnItem → List TurnItem
unfinished script events [] = []
unfinished script events (item ∷ items) = if is_finished script events item then unfinished script events items else item ∷ items

abbrev pub node_of : TurnItem → ℕ
node_of (One node times) = node
node_of (Until node statement) = node

abbrev pub node_numbers : List ℕ
node_numbers = 1 ∷ 2 ∷ 3 ∷ 4 ∷ 5 ∷ 6 ∷ 7 ∷ 8 ∷ 9 ∷ 10 ∷ 11 ∷ 12 ∷ 13 ∷ 14 ∷ 15 ∷ 16 ∷ []

-- of the nodes with turns left the lowest above this number, or else the lowest
abbrev pub next_round : Script → List Event → ℕ → Option ℕ
next_round script events after =
    find (λ n. not (is_over script events n)) (filter (λ n. nat_lt after n) node_numbers ++ filter (λ n. nat_le n after) node_numbers)

-- whose turn it is
abbrev pub turn_by : Script → List Event → ℕ → List TurnItem → Option ℕ
turn_by script events after [] = next_round script events after
turn_by script events after (item ∷ items) = Some (node_of item)

abbrev pub turn_at : Script → List Event → Clock → Option ℕ
turn_at script events clock = turn_by script events clock.last (unfinished script events clock.items)

abbrev pub taken : TurnItem → TurnItem
taken (One node times) = One node (times - 1)
taken (Until node statement) = Until node statement

-- the clock after a turn of this node
abbrev pub ticked : ℕ → List TurnItem → Clock → Clock
ticked node [] clock = record { items = []; last = node }
ticked node (item ∷ items) clock = record clock { items = taken item ∷ items }

-- A death notice directly behind a request of its node belongs to the same turn. Where it is a turn of its own, that of a node
-- that had the turn before too and found no memory for a request, it is passed over all the same. Nobody's turn changes by that:
-- the node is over then, so an item of it is finished, and the next round from it and from the node before comes to the same
abbrev pub is_behind : List Event → Event → Bool
is_behind past e = is_post e.request && by (latest past)
  where
    by : Option Event → Bool
    by None = false
    by (Some before) = before.node == e.node

abbrev pub clock_from : Script → List Event → Clock → List Event → Clock
clock_from script past clock [] = clock
clock_from script past clock (e ∷ es) =
    clock_from script (past ++ e ∷ []) (if is_behind past e then clock else ticked e.node (unfinished script past clock.items) clock) es

abbrev pub clock_after : Script → List Event → Clock
clock_after script events = clock_from script [] (record { items = script.turns; last = 0 }) events

-- a node that has asked and is still there owes its death notice, where its count is reached, or it wanted memory at a reply
-- and didn't say what it had to say, or its budget is used up and it has one more request to make
abbrev pub owes_notice : Script → Settings → List Event → ℕ → Bool
owes_notice script settings events node =
    (nat_lt 0 (length (requests_of node events)) && not (has_vanished events node))
    && (is_due script events node || (was_cut script settings events node || is_spent script settings events node))

-- the node that owes it directly behind its request, before anything else happens
abbrev pub owing : Script → Settings → List Event → Option ℕ
owing script settings past = by (latest past)
  where
    by : Option Event → Option ℕ
    by None = None
    by (Some before) = if owes_notice script settings past before.node then Some before.node else None

-- The event stands in the order of the schedule. A notice that is owed comes before anything else. One that isn't owed is a
-- turn of its node, or stands directly behind a request of it whose reply gave no answer: at a reply where nothing is to be
-- said, that a node wanted memory shows by its notice alone
abbrev pub InTurn : Script → Settings → List Event → Event → Type 0
InTurn script settings past e = by (owing script settings past)
  where
    by : Option ℕ → Type 0
    by (Some node) = (e.node ≡ node) × (is_post e.request ≡ true)
    by None = ((is_behind past e ≡ true) × (gave_none e.node past ≡ true)) ⊎ (turn_at script past (clock_after script past) ≡ Some e.node)

-- no place replies that it is full, or that a transaction isn't active
abbrev pub is_refusal : Reply → Bool
is_refusal (reply.Store (stored.Full old)) = true
is_refusal (reply.Manager told.NotActive) = true
is_refusal r = false
