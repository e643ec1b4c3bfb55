-- Which requests take no memory.
use Rattle.std.specs.Prelude.{◌+◌, ◌==◌, ◌||◌, Bool, false, is_none, not, nat_lt, unwrap_or}
use Rattle.std.specs.FinMap as map
use Rattle.tl_base.specs.declared.store.StoreRequest.{StoreRequest}
use Rattle.tl_base.specs.declared.store.StoreRequest.TheVariants.{Load, StoreIf, Add, Page}
use Rattle.tl_cells.specs.Cells.{ShardState, cell_under, greatest}

-- a load of an absent cell, a store that is turned away, and a sum at a counter that is there or would pass its end
abbrev pub takes_no_memory : ShardState → StoreRequest → Bool
takes_no_memory s (Load key) = is_none (map.get s.cells key)
takes_no_memory s (StoreIf key stamp value) = not ((cell_under key s.cells).stamp == stamp) || s.last == greatest
takes_no_memory s (Add key by) = map.contains_key s.counters key || nat_lt greatest (unwrap_or (map.get s.counters key) 0 + by)
takes_no_memory s (Page from before limit) = false
