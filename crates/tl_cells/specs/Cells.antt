-- The state of a shard, what it answers to a request, and its state after one.
use Rattle.std.specs.Prelude.{ℕ, ◌+◌, ◌^◌, ◌==◌, List, [], map, filter, take, length, nat_lt, unwrap_or, ◌&&◌, if◌then◌else◌}
use Rattle.std.specs.Ordering.{nat_cmp, is_le, is_lt}
use Rattle.std.specs.Cmp.Lexicographic.{slice_cmp}
use Rattle.std.specs.FinMap as map
use Rattle.tl_base.specs.declared.store.Item.{Item}
use Rattle.tl_base.specs.declared.store.StoreRequest.{StoreRequest}
use Rattle.tl_base.specs.declared.store.StoreRequest.TheVariants.{Load, StoreIf, Add, Page}
use Rattle.tl_base.specs.declared.store.StoreReply.{StoreReply}
use Rattle.tl_base.specs.declared.store.StoreReply.TheVariants as reply
use Rattle.tl_cells.specs.declared.cell.Cell.{Cell}

-- the cells of a shard by their keys, in the order of bytes
abbrev pub Cells : Type 0
Cells = map.FinMap (slice_cmp nat_cmp) Cell

-- counters and cells are two name spaces; last is the greatest stamp that was given
pub record ShardState : Type 0 where
  pub cells : Cells
  pub counters : map.FinMap (slice_cmp nat_cmp) ℕ
  pub last : ℕ

-- what an absent cell reads as
abbrev pub absent : Cell
absent = record { stamp = 0; value = [] }

abbrev pub cell_under : List ℕ → Cells → Cell
cell_under key cells = unwrap_or (map.get cells key) absent

-- the end of stamps and counters
abbrev pub greatest : ℕ
greatest = 2 ^ 62

abbrev pub item_of : List ℕ × Cell → Item
item_of e = record { key = e.0; stamp = e.1.stamp; value = e.1.value }

-- the cells whose key is at least from and below before, in the order of keys
abbrev pub cells_within : List ℕ → List ℕ → Cells → List Item
cells_within from before cells =
    map item_of (filter (λ e. is_le (slice_cmp nat_cmp from e.0) && is_lt (slice_cmp nat_cmp e.0 before)) (map.entries cells))

abbrev pub page_of : ℕ → List Item → StoreReply
page_of limit items = reply.Items (take limit items) (nat_lt limit (length items))

-- a store at a cell that has this stamp
abbrev pub store_reply : ℕ → ℕ → ℕ → StoreReply
store_reply found stamp last =
    if found == stamp then (if last == greatest then reply.Full last else reply.Stored (last + 1)) else reply.Moved found

abbrev pub add_reply : ℕ → ℕ → StoreReply
add_reply old by = if nat_lt greatest (old + by) then reply.Full old else reply.Count old

abbrev pub reply_of : ShardState → StoreRequest → StoreReply
reply_of s (Load key) = reply.Cell (cell_under key s.cells).stamp (cell_under key s.cells).value
reply_of s (StoreIf key stamp value) = store_reply (cell_under key s.cells).stamp stamp s.last
reply_of s (Add key by) = add_reply (unwrap_or (map.get s.counters key) 0) by
reply_of s (Page from before limit) = page_of limit (cells_within from before s.cells)

-- the state after a request that was answered so
abbrev pub after_reply : ShardState → StoreRequest → StoreReply → ShardState
after_reply s (StoreIf key stamp value) (reply.Stored fresh) =
    record s { cells = map.insert s.cells key (record { stamp = fresh; value = value }); last = fresh }
after_reply s (Add key by) (reply.Count old) = record s { counters = map.insert s.counters key (old + by) }
after_reply s request answer = s

abbrev pub next_of : ShardState → StoreRequest → ShardState
next_of s request = after_reply s request (reply_of s request)
