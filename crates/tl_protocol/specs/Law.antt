-- The law of the protocol: whatever is done in whatever order, whichever nodes vanish and whoever recovers them.
use Rattle.std.specs.Prelude.{◌≡◌, ℕ, true, List, Some}
use Rattle.tl_schema.specs.declared.catalog.Setup.{Setup}
use Rattle.tl_manager.specs.declared.active.Active.{Active}
use Rattle.tl_isolation.specs.declared.entry.Entry.{Entry}
use Rattle.tl_isolation.specs.declared.state.SiState.{SiState}
use Rattle.tl_isolation.specs.History.{IsHistory, state_after}
use Rattle.tl_isolation.specs.Tables.{OpensFitting}
use Rattle.tl_protocol.specs.World.{World, runs}
use Rattle.tl_protocol.specs.Run.{Layout, Reach}
use Rattle.tl_protocol.specs.Stands.{StandsFor, HasInLog, HasOneMender}

-- the entries told are one history
abbrev pub OneHistory : Type 0
OneHistory = (layout : Layout) (setup : Setup) (w : World) (state : SiState) (entries : List Entry) → OpensFitting setup → Reach layout setup w state entries
    → IsHistory setup entries × (state ≡ state_after setup entries)

-- at every moment the store stands for the tables
abbrev pub StoreStands : Type 0
StoreStands = (layout : Layout) (setup : Setup) (w : World) (state : SiState) (entries : List Entry) → OpensFitting setup → Reach layout setup w state entries
    → StandsFor w state entries

-- a running node's transaction is active at its manager, and its log cell is as the node left it
abbrev pub NodesKnow : Type 0
NodesKnow = (layout : Layout) (setup : Setup) (w : World) (state : SiState) (entries : List Entry) → OpensFitting setup → Reach layout setup w state entries
    → (n : ℕ) → runs w n ≡ true → HasInLog w n (w.phases n)

-- each transaction of a vanished node stands in one death notice or in one running node's duties
abbrev pub EachIsMended : Type 0
EachIsMended = (layout : Layout) (setup : Setup) (w : World) (state : SiState) (entries : List Entry) → OpensFitting setup → Reach layout setup w state entries
    → (d : ℕ) (x : Active) → w.gone d ≡ true → w.active d ≡ Some x → HasOneMender w d
