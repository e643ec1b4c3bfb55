-- Where a clash is told, the version of the rival stands in the record.
use Rattle.std.specs.Prelude.{◌≡◌, ℕ, List, ◌∷◌, ◌++◌, Some, Contains, slice_get}
use Rattle.tl_base.specs.declared.place.Settings.{Settings}
use Rattle.tl_manager.specs.declared.active.Active.{Active}
use Rattle.tl_versions.specs.Versions.{stranger}
use Rattle.tl_write.specs.declared.write.Write.{Write}
use Rattle.tl_isolation.specs.declared.entry.Entry.TheVariants as entry
use Rattle.tl_isolation.specs.declared.script.Script.{Script}
use Rattle.tl_isolation.specs.declared.state.Transaction.{Transaction}
use Rattle.tl_isolation.specs.History.{state_after}
use Rattle.tl_isolation.specs.Script.{setup_of}
use Rattle.tl_isolation.specs.State.{held_as}
use Rattle.tl_protocol.specs.World.{World}
use Rattle.tl_journal.specs.declared.event.Event.{Event}
use Rattle.tl_journal.specs.Journal.{entries_told}
use Rattle.tl_journal.specs.Law.{Holds, IsRun}

-- the transaction is held, and active at its manager; of what the store holds before the event, the first version outside its
-- snapshot in the cell of its own record at this place is the rival's
pub record RivalStands (script : Script) (settings : Settings) (past : List Event) (tid rival place : ℕ) : Type 0 where
  pub world : World
  pub holds : Holds script settings past world
  pub transaction : Transaction
  pub held : held_as tid (state_after (setup_of script settings) (entries_told past)).held ≡ Some transaction
  pub own : Write
  pub own_is : slice_get transaction.own place ≡ Some own
  pub active : Active
  pub active_is : world.active transaction.node ≡ Some active
  pub tid_is : active.tid ≡ tid
  pub rival_is : stranger active.snapshot (world.cells own.key).versions ≡ Some rival

-- so at each clash that the event tells
abbrev pub ClashesStand : Script → Settings → List Event → Event → Type 0
ClashesStand script settings past e = (tid rival place : ℕ) → Contains e.entries (entry.Clash tid rival place) → RivalStands script settings past tid rival place

-- of a run
abbrev pub RivalsStand : Type 0
RivalsStand = (script : Script) (settings : Settings) (past : List Event) (e : Event) (rest : List Event) → IsRun script settings (past ++ e ∷ rest)
    → ClashesStand script settings past e
