-- The shards and the managers of a run, and that they are where the events of a run have brought them.
use Rattle.std.specs.Prelude.{◌≡◌, ℕ, List, [], ◌∷◌, ◌++◌, Some, length, slice_get}
use Rattle.tl_base.specs.declared.place.PlaceId.{PlaceId}
use Rattle.tl_base.specs.declared.place.Settings.{Settings}
use Rattle.tl_cells.specs.Cells.{ShardState}
use Rattle.tl_cells.specs.Serves as shard
use Rattle.tl_manager.specs.Serves as manager
use Rattle.tl_manager.specs.State.{ManagerState}
use Rattle.tl_manager.specs.declared.request.Request.{Request}
use Rattle.tl_manager.specs.declared.request.Reply.{Reply}
use Rattle.tl_isolation.specs.declared.entry.Entry.{Entry}
use Rattle.tl_isolation.specs.declared.script.Script.{Script}
use Rattle.tl_isolation.specs.Script.{setup_of}
use Rattle.tl_journal.specs.declared.event.Event.{Event}
use Rattle.tl_journal.specs.Journal.{manager_log, shard_log}

pub record PlacesState : Type 0 where
  pub shards : List ShardState
  pub managers : List ManagerState

-- a shard that has served this log, and is where it has brought it
pub record ShardHasServed (log : List shard.Call) (state : ShardState) : Type 0 where
  pub matches : shard.Matches 0 log state
  pub served : shard.ServesAll 0 log

-- a manager that has
pub record ManagerHasServed (log : List manager.Call) (state : ManagerState) : Type 0 where
  pub matches : manager.Matches log state
  pub served : manager.ServesAll log

-- each place has served what it was asked in these events, and a shard before them what it opens with
pub record AreAt (script : Script) (settings : Settings) (events : List Event) (p : PlacesState) : Type 0 where
  pub shard_count : length p.shards ≡ settings.shards
  pub each_shard : (s : ℕ) (state : ShardState) → slice_get p.shards s ≡ Some state
      → ShardHasServed (shard_log settings (setup_of script settings) s events) state
  pub manager_count : length p.managers ≡ settings.managers
  pub each_manager : (m : ℕ) (state : ManagerState) → slice_get p.managers m ≡ Some state → ManagerHasServed (manager_log m events) state

-- a request of a node was served: so one event more has brought the places from p to q, whatever is told of it
abbrev pub HaveServed : PlaceId → Request → Reply → PlacesState → PlacesState → Type 0
HaveServed place request reply p q =
    (script : Script) (settings : Settings) (events : List Event) (node : ℕ) (entries : List Entry)
    → AreAt script settings events p
    → AreAt script settings (events ++ record { node = node; place = place; request = request; reply = reply; entries = entries } ∷ []) q
