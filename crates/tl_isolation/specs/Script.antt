-- A history speaks the script: its answers are those of the script's statements, each once and in order.
use Rattle.std.specs.Prelude.{◌≡◌, ◌⊎◌, ℕ, ◌+◌, ◌==◌, Bool, true, false, not, ◌&&◌, List, [], ◌∷◌, Option, find, length, slice_get, option_and_then, unwrap_or, ◌||◌, if◌then◌else◌}
use Rattle.std.specs.declared.option.Option.TheVariants.{Some, None}
use Rattle.std.specs.List.{list_any, filter_map, AllByRecursion}
use Rattle.tl_base.specs.declared.place.Settings.{Settings}
use Rattle.tl_base.specs.Along.{Along}
use Rattle.tl_schema.specs.declared.catalog.Setup.{Setup}
use Rattle.tl_isolation.specs.declared.bound.Bound.{Bound}
use Rattle.tl_isolation.specs.declared.bound.Bound.TheVariants as bound
use Rattle.tl_isolation.specs.declared.entry.Answer.{Answer}
use Rattle.tl_isolation.specs.declared.entry.Answer.TheVariants as answer
use Rattle.tl_isolation.specs.declared.entry.Entry.{Entry}
use Rattle.tl_isolation.specs.declared.entry.Entry.TheVariants as entry
use Rattle.tl_isolation.specs.declared.script.Script.{Script}
use Rattle.tl_isolation.specs.declared.script.Session.{Session}
use Rattle.tl_isolation.specs.declared.state.Transaction.{Transaction}
use Rattle.tl_isolation.specs.Step.{holds}
use Rattle.tl_isolation.specs.State.{held_as, is_lost}
use Rattle.tl_isolation.specs.History.{state_after}

-- what a run of the script begins with
abbrev pub setup_of : Script → Settings → Setup
setup_of script settings = record { catalog = script.catalog; rows = script.rows; settings = settings }

-- the answer that an entry gives at a node, if it gives one
abbrev pub answer_at : ℕ → Entry → Option Answer
answer_at node (entry.Said told_by bound said) = given (told_by == node) said.answered
  where
    given : Bool → Bool → Option Answer
    given true true = Some said.answer
    given true false = None
    given false answered = None
answer_at node (entry.Answered told_by statement told) = given (told_by == node)
  where
    given : Bool → Option Answer
    given true = Some told
    given false = None
answer_at node e = None

-- the answers of a node, in order
abbrev pub answers_by : ℕ → List Entry → List Answer
answers_by node entries = filter_map (answer_at node) entries

-- the node's next statement that has no answer yet
abbrev pub next_statement : Script → ℕ → List Entry → Option Bound
next_statement script node past =
    option_and_then (λ s. slice_get s.statements (length (answers_by node past))) (find (λ s. s.node == node) script.sessions)

abbrev pub begins_transaction : Bound → Bool
begins_transaction bound.Begin = true
begins_transaction bound.Commit = false
begins_transaction bound.Rollback = false
begins_transaction (bound.Recover gone) = false
begins_transaction (bound.Select query) = true
begins_transaction (bound.Change edit) = true

abbrev pub ends_transaction : Bound → Bool
ends_transaction bound.Begin = false
ends_transaction bound.Commit = true
ends_transaction bound.Rollback = true
ends_transaction (bound.Recover gone) = false
ends_transaction (bound.Select query) = false
ends_transaction (bound.Change edit) = false

abbrev pub is_begun : Answer → Bool
is_begun answer.Begun = true
is_begun told = false

-- whether an entry tells that the node's transaction is, or isn't, opened by BEGIN
abbrev pub opening_at : ℕ → Entry → Option Bool
opening_at node (entry.Began begun_by tid first) = if begun_by == node then Some false else None
opening_at node (entry.Said told_by bound.Begin said) =
    if (told_by == node) && is_begun said.answer then Some true else None
opening_at node e = None

-- whether the node's transaction is opened by BEGIN after these entries, where it was or wasn't before them
abbrev pub opened_after : ℕ → Bool → List Entry → Bool
opened_after node opened [] = opened
opened_after node opened (e ∷ es) = opened_after node (unwrap_or (opening_at node e) opened) es

-- whether the node's last transaction so far was opened by BEGIN
abbrev pub was_opened : ℕ → List Entry → Bool
was_opened node past = opened_after node false past

-- the next statement is there, and passes
abbrev pub NextPasses : (Bound → Bool) → Script → ℕ → List Entry → Type 0
NextPasses p script node past = holds p (next_statement script node past) ≡ true

abbrev pub is_commit : Bound → Bool
is_commit bound.Commit = true
is_commit b = false

abbrev pub is_rollback : Bound → Bool
is_rollback bound.Rollback = true
is_rollback b = false

-- a transaction that BEGIN opened, and whose node hasn't vanished
abbrev pub stays_open : Transaction → Bool
stays_open t = t.opened && not (is_lost t.phase)

-- where an entry stands by the script: each answer is for the node's next statement, a transaction begins where the
-- next statement calls for one, and one that BEGIN opened ends where the script says so or at a clash
abbrev pub SpeaksAt : Script → Settings → List Entry → Entry → Type 0
SpeaksAt script settings past (entry.Said node bound said) =
    (said.statement ≡ length (answers_by node past) + 1) × (next_statement script node past ≡ Some bound)
SpeaksAt script settings past (entry.Answered node statement told) =
    (statement ≡ length (answers_by node past) + 1)
    × NextPasses (λ next. not (was_opened node past) || ends_transaction next) script node past
SpeaksAt script settings past (entry.Began node tid first) = NextPasses begins_transaction script node past
SpeaksAt script settings past (entry.Tried tid) =
    (t : Transaction) → held_as tid (state_after (setup_of script settings) past).held ≡ Some t
    → stays_open t ≡ true → NextPasses is_commit script t.node past
SpeaksAt script settings past (entry.Undone tid) =
    (t : Transaction) → held_as tid (state_after (setup_of script settings) past).held ≡ Some t
    → stays_open t ≡ true → t.rival ≡ None → NextPasses is_rollback script t.node past
SpeaksAt script settings past (entry.Asked node) = Unit {0}
SpeaksAt script settings past (entry.Clash tid rival at) = Unit {0}
SpeaksAt script settings past (entry.Committed tid) = Unit {0}
SpeaksAt script settings past (entry.Vanished node ending) = Unit {0}

abbrev pub vanishes_at : ℕ → Entry → Bool
vanishes_at node (entry.Vanished gone ending) = gone == node
vanishes_at node e = false

-- all statements of the session are answered, or its node has vanished
abbrev pub IsAnswered : List Entry → Session → Type 0
IsAnswered entries s =
    (length (answers_by s.node entries) ≡ length s.statements) ⊎ (list_any (vanishes_at s.node) entries ≡ true)

-- the history speaks the script
abbrev pub Speaks : Script → Settings → List Entry → Type 0
Speaks script settings entries =
    Along (SpeaksAt script settings) [] entries × AllByRecursion (IsAnswered entries) script.sessions
