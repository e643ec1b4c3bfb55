-- What the crates below prove of runs and places, as the driver's proof takes it.
use Rattle.std.specs.Prelude.{◌≡◌, ℕ, false, List, Some}
use Rattle.std.specs.List.{AllByRecursion}
use Rattle.tl_base.specs.declared.place.Settings.{Settings}
use Rattle.tl_isolation.specs.declared.script.Script.{Script}
use Rattle.tl_isolation.specs.declared.script.Session.{Session}
use Rattle.tl_journal.specs.declared.event.Event.{Event}
use Rattle.tl_journal.specs.Journal.{AreServed, IsCall, has_vanished, node_after, session_of}
use Rattle.tl_journal.specs.Law.{IsRun}
use Rattle.tl_node.specs.Fits.{OwnSuitsNode}
use Rattle.tl_node.specs.Seen.{seen}
use Rattle.tl_places.specs.Places.{AreAt, PlacesState}

-- the own writes of a running node stand under their own keys
abbrev pub OwnSuitsRuns : Type 0
OwnSuitsRuns = (script : Script) (settings : Settings) (events : List Event) → IsRun script settings events
    → (number : ℕ) (session : Session) → session_of script number ≡ Some session → has_vanished events number ≡ false
    → OwnSuitsNode script.catalog (seen settings script.catalog (node_after settings script events session))

-- where the events of a run have brought its places there, each place serves what it was asked
abbrev pub LogsAreServed : Type 0
LogsAreServed = (script : Script) (settings : Settings) (events : List Event) (places : PlacesState) → AreAt script settings events places
    → AllByRecursion (λ (e : Event). IsCall e.place e.request e.reply) events → AreServed script settings events
