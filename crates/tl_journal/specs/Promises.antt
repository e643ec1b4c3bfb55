-- What a run that has come to its end promises besides.
use Rattle.std.specs.Prelude.{◌≡◌, ◌≤◌, ◌⊎◌, ℕ, List, length, Contains}
use Rattle.std.specs.declared.option.Option.TheVariants.{Some, None}
use Rattle.tl_base.specs.declared.place.Settings.{Settings}
use Rattle.tl_isolation.specs.declared.entry.Answer.TheVariants as answer
use Rattle.tl_isolation.specs.declared.entry.Ending.{Ending}
use Rattle.tl_isolation.specs.declared.entry.Ending.TheVariants as ending
use Rattle.tl_isolation.specs.declared.entry.Entry.TheVariants as entry
use Rattle.tl_isolation.specs.declared.script.Script.{Script}
use Rattle.tl_isolation.specs.declared.script.Session.{Session}
use Rattle.tl_isolation.specs.Script.{answers_by}
use Rattle.tl_journal.specs.declared.event.Event.{Event}
use Rattle.tl_journal.specs.Journal.{entries_told, session_of}
use Rattle.tl_journal.specs.Law.{IsRun}
use Rattle.tl_journal.specs.Schedule.{vanish_of}
use Rattle.tl_journal.specs.Outcome.{HasRun}

abbrev pub Ended : ℕ → Ending → List Event → Type 0
Ended node e events = Contains (entries_told events) (entry.Vanished node e)

-- all statements of a node without @vanish are answered, unless it spent its budget or met want of memory
abbrev pub AnswersAll : Type 0
AnswersAll = (script : Script) (settings : Settings) (events : List Event) → IsRun script settings events → HasRun script settings events
    → (node : ℕ) (session : Session) → session_of script node ≡ Some session → vanish_of script node ≡ None
    → (length (answers_by node (entries_told events)) ≡ length session.statements)
    ⊎ (Ended node ending.Spent events ⊎ Ended node ending.OutOfMemory events)

-- one node alone meets no conflict, whether it vanishes or not
abbrev pub NeverConflicts : Type 0
NeverConflicts = (script : Script) (settings : Settings) (events : List Event) → IsRun script settings events
    → length script.sessions ≤ 1 → (node statement rival : ℕ) → Contains (entries_told events) (entry.Answered node statement (answer.Conflict rival)) → ⊥
