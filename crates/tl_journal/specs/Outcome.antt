-- A run of a script that has come to its end.
use Rattle.std.specs.Prelude.{◌≡◌, ◌<◌, ◌^◌, ℕ, false, true, List, length}
use Rattle.tl_base.specs.declared.place.Settings.{Settings}
use Rattle.tl_isolation.specs.declared.script.Script.{Script}
use Rattle.tl_journal.specs.declared.event.Event.{Event}
use Rattle.tl_journal.specs.Run.{IsJournal}
use Rattle.tl_journal.specs.Schedule.{is_over, owes_notice}

-- the events are a journal of the script, in the order of its schedule and within the budget, and no node has more to do or
-- owes its death notice
pub record HasRun (script : Script) (settings : Settings) (events : List Event) : Type 0 where
  pub journal : IsJournal script settings events
  pub few : length events < 2 ^ 32
  pub over : (node : ℕ) → is_over script events node ≡ true
  pub settled : (node : ℕ) → owes_notice script settings events node ≡ false
