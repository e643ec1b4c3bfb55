-- What a journal of a run is.
use Rattle.std.specs.Prelude.{◌≡◌, ◌⊎◌, false, true, List, [], ◌∷◌}
use Rattle.tl_base.specs.Along.{Along}
use Rattle.tl_base.specs.declared.place.Settings.{Settings}
use Rattle.tl_isolation.specs.declared.entry.Ending.{Ending}
use Rattle.tl_isolation.specs.declared.entry.Entry.TheVariants as entry
use Rattle.tl_isolation.specs.declared.script.Script.{Script}
use Rattle.tl_journal.specs.declared.event.Event.{Event}
use Rattle.tl_journal.specs.Journal.{AreServed, IsEvent, is_post}
use Rattle.tl_journal.specs.Schedule.{EndsSo, InTurn, MayAsk, is_refusal}

-- a death notice has the ending that is due, and a request is made where none is
abbrev pub EndsAt : Script → Settings → List Event → Event → Type 0
EndsAt script settings past e =
    ((is_post e.request ≡ true) × ((ending : Ending) × (e.entries ≡ entry.Vanished e.node ending ∷ []) × EndsSo script settings past e.node ending))
    ⊎ ((is_post e.request ≡ false) × MayAsk script settings past e.node)

-- What the law asks of events, whatever the turns and the endings. One after the other
pub record IsTrace (script : Script) (settings : Settings) (events : List Event) : Type 0 where
  -- they are served by the places, each reply following from the requests and replies before it,
  pub served : AreServed script settings events
  -- and are the requests that each running node makes next, told as its replies say, or death notices of vanishing nodes
  pub events_are : Along (IsEvent script settings) [] events

-- What a journal of a run of this script is: a trace, whose events
pub record IsJournal (script : Script) (settings : Settings) (events : List Event) : Type 0 where
  pub trace : IsTrace script settings events
  -- are made within the budget, and end where the script, the budget and memory say,
  pub ends : Along (EndsAt script settings) [] events
  -- are answered by places that aren't full, and know their transactions,
  pub answered : Along (λ (past : List Event) (e : Event). is_refusal e.reply ≡ false) [] events
  -- and stand in the order of the schedule, where there is one
  pub in_turn : settings.threads ≡ false → Along (InTurn script settings) [] events
