-- What a turn does.
use Rattle.std.specs.Prelude.{◌≡◌, ◌⊎◌, ℕ, Bool, true, false, List, [], ◌∷◌, ◌++◌, Option, Some, None, nat_le, not}
use Rattle.tl_isolation.specs.declared.entry.Ending.{Ending}
use Rattle.tl_isolation.specs.declared.entry.Ending.TheVariants as ending_of
use Rattle.tl_isolation.specs.declared.entry.Entry.TheVariants as entry
use Rattle.tl_isolation.specs.declared.script.Script.{Script}
use Rattle.tl_isolation.specs.declared.script.Session.{Session}
use Rattle.tl_isolation.specs.declared.script.Vanish.{Vanish}
use Rattle.tl_base.specs.declared.place.Settings.{Settings}
use Rattle.tl_journal.specs.declared.event.Event.{Event}
use Rattle.tl_journal.specs.Journal.{has_vanished, is_post, session_of}
use Rattle.tl_journal.specs.Schedule.{EndsSo, MayAsk, gave_none, is_done, is_due, is_over, is_spent, owes_notice, was_cut}
use Rattle.tl_world.specs.declared.world.Turned.{Turned}
use Rattle.tl_world.specs.declared.world.Turned.TheVariants as turned
use Rattle.tl_world.specs.Stands.{StandsBut, StandsOn, WorldValue}

-- a request of the node
pub record IsRequestOf (node : ℕ) (e : Event) : Type 0 where
  pub of_node : e.node ≡ node
  pub request : is_post e.request ≡ false

-- the death notice of the node, which ended so
pub record IsNotice (node : ℕ) (ending : Ending) (e : Event) : Type 0 where
  pub of_node : e.node ≡ node
  pub notice : is_post e.request ≡ true
  pub entries : e.entries ≡ entry.Vanished node ending ∷ []

-- the notice stands directly behind a request since it is owed, or since the node wanted memory at a reply that gave no answer
abbrev pub IsDirect : Script → Settings → List Event → ℕ → Ending → Type 0
IsDirect script settings events node ending =
    (owes_notice script settings events node ≡ true) ⊎ ((ending ≡ ending_of.OutOfMemory) × (gave_none node events ≡ true))

-- without a request the node ends as it has to; or it makes one where it may ask, and ends behind it
abbrev pub EndsBehind : Script → ℕ → WorldValue → Ending → List Event → Type 0
EndsBehind script node old ending [] = EndsSo script old.settings old.events node ending
EndsBehind script node old ending (e ∷ []) =
    IsRequestOf node e × MayAsk script old.settings old.events node × EndsSo script old.settings (old.events ++ e ∷ []) node ending
    × IsDirect script old.settings (old.events ++ e ∷ []) node ending
EndsBehind script node old ending (e ∷ f ∷ es) = ⊥

-- nothing is left for the node to do, or there is no such node; or it made one request; or it ended, behind its request or
-- without one, and its death notice stands
abbrev pub TurnsTo : Script → ℕ → WorldValue → Turned → WorldValue → Type 0
TurnsTo script node old turned.Done new = (new ≡ old) × (is_over script old.events node ≡ true)
TurnsTo script node old turned.Went new =
    (new.settings ≡ old.settings) × (e : Event) × (new.events ≡ old.events ++ e ∷ []) × IsRequestOf node e × MayAsk script old.settings old.events node
    × (is_due script new.events node ≡ false) × (was_cut script old.settings new.events node ≡ false) × (is_spent script old.settings new.events node ≡ false)
TurnsTo script node old (turned.Ended ending) new =
    (new.settings ≡ old.settings) × (es : List Event) × (e : Event) × (new.events ≡ old.events ++ es ++ e ∷ []) × EndsBehind script node old ending es × IsNotice node ending e

-- a node of the script that hasn't vanished
abbrev pub is_there : Script → List Event → ℕ → Bool
is_there script events node = by (session_of script node)
  where
    by : Option Session → Bool
    by None = false
    by (Some session) = not (has_vanished events node)

-- such a node vanishes, and its death notice stands; another one can't
abbrev pub VanishesTo : Script → ℕ → WorldValue → Bool → WorldValue → Type 0
VanishesTo script node old true new =
    (is_there script old.events node ≡ true)
    × ((new.settings ≡ old.settings) × (e : Event) × (new.events ≡ old.events ++ e ∷ []) × IsNotice node ending_of.Vanished e)
VanishesTo script node old false new = (is_there script old.events node ≡ false) × (new ≡ old)

-- ---- by what a slot has

-- the count of the node's @vanish is reached
abbrev pub due_by : Option Vanish → ℕ → Bool
due_by None count = false
due_by (Some v) count = nat_le v.count count

-- ---- the parts of a turn

-- after its request the node goes on, or asks nothing more for want of memory, and then it gave no answer
abbrev pub GoesOn : Script → ℕ → WorldValue → Bool → WorldValue → Type 0
GoesOn script number old false new = StandsOn script new
GoesOn script number old true new =
    StandsBut number script new × (is_done script new.events number ≡ is_done script old.events number) × (gave_none number new.events ≡ true)

pub record Goes (script : Script) (number : ℕ) (old : WorldValue) (wants : Bool) (new : WorldValue) : Type 0 where
  pub event : Event
  pub events : new.events ≡ old.events ++ event ∷ []
  pub settings : new.settings ≡ old.settings
  pub request : IsRequestOf number event
  pub on : GoesOn script number old wants new

-- a node that is about to vanish has vanished, and its death notice stands
pub record Ends (script : Script) (number : ℕ) (ending : Ending) (old new : WorldValue) : Type 0 where
  pub event : Event
  pub events : new.events ≡ old.events ++ event ∷ []
  pub settings : new.settings ≡ old.settings
  pub notice : IsNotice number ending event
  pub stands : StandsOn script new
