-- Runs: from the opening state, one move after another.
use Rattle.std.specs.Prelude.{◌≤◌, ℕ, ◌==◌, false, List, [], ◌∷◌, ◌++◌, Option, Some, None, if◌then◌else◌}
use Rattle.tl_values.specs.declared.value.Value.{Value}
use Rattle.tl_schema.specs.declared.catalog.Setup.{Setup}
use Rattle.tl_manager.specs.State.{opening_copy}
use Rattle.tl_versions.specs.declared.version.Version.{Version}
use Rattle.tl_isolation.specs.declared.entry.Entry.{Entry}
use Rattle.tl_isolation.specs.declared.state.SiState.{SiState}
use Rattle.tl_isolation.specs.State.{opening_state}
use Rattle.tl_isolation.specs.History.{state_from}
use Rattle.tl_isolation.specs.Tables.{opening_writes}
use Rattle.tl_protocol.specs.Store.{Key, written}
use Rattle.tl_protocol.specs.World.{Undrawn, Opening, Idle, NoDuty, World}
use Rattle.tl_protocol.specs.Move.{Move}
use Rattle.tl_protocol.specs.Next.{next}
use Rattle.tl_protocol.specs.Told.{told}

-- the managers, and with which stamps the cells open
pub record Layout : Type 0 where
  pub home : ℕ → ℕ
  pub top : ℕ
  pub at_home : (n : ℕ) → home n ≤ top
  pub stamps : Key → ℕ
  pub commits_stamp : ℕ

-- an opening row stands under tid 0
abbrev pub opening_versions : Option (Option (List Value)) → List Version
opening_versions None = []
opening_versions (Some row) = record { tid = 0; row = row } ∷ []

abbrev pub opening_world : Layout → Setup → World
opening_world layout setup =
    record {
      catalog = setup.catalog;
      home = layout.home;
      top = layout.top;
      cells = λ k. record { stamp = layout.stamps k; versions = opening_versions (written k (opening_writes setup.catalog setup.rows)) };
      commits = record { stamp = layout.commits_stamp; finished = opening_copy };
      logs = λ tid. None;
      counter = 0;
      copies = λ manager. opening_copy;
      numbers = λ tid. if tid == 0 then Opening else Undrawn;
      active = λ n. None;
      notices = λ n. None;
      phases = λ n. Idle;
      recoveries = λ n. NoDuty;
      floors = λ n manager. opening_copy;
      gone = λ n. false;
    }

-- this state is reached, with these entries told, which lead the machine of snapshot isolation here
pub data Reach (layout : Layout) (setup : Setup) : World → SiState → List Entry → Type 0 where
  Start : Reach layout setup (opening_world layout setup) (opening_state setup) []
  Step : {w : World} {state : SiState} {entries : List Entry} → Reach layout setup w state entries → (move : Move w)
      → Reach layout setup (next w move) (state_from setup.catalog state (told state.commits w move)) (entries ++ told state.commits w move)
