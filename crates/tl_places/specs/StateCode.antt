-- The code of the places' state.
use Rattle.std.specs.Prelude.{List, refl}
use Rattle.std.specs.Coded.{Coded, code_by, coded×, coded_list}
use Rattle.tl_cells.specs.Cells.{ShardState}
use Rattle.tl_cells.specs.StateCode as shard
use Rattle.tl_manager.specs.State.{ManagerState}
use Rattle.tl_manager.specs.StateCode as manager
use Rattle.tl_places.specs.Places.{PlacesState}

-- a state is stored as those of its shards and of its managers
abbrev pub places_code : Coded PlacesState
places_code =
    code_by (List ShardState × List ManagerState) (coded× (coded_list shard.state_code) (coded_list manager.state_code)) (λ s. (s.shards, s.managers))
    (λ p. record { shards = p.0; managers = p.1 }) (λ _. refl)
