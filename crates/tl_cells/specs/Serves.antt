-- A shard serves its log: every reply follows from the requests and replies before it.
use Rattle.std.specs.Prelude.{◌≡◌, ℕ, ◌+◌, Bool, true, false, List, [], ◌∷◌, ◌++◌, unwrap_or, length, nat_eq}
use Rattle.std.specs.Ordering.{nat_cmp}
use Rattle.std.specs.Cmp.Lexicographic.{slice_cmp, pointwise}
use Rattle.std.specs.FinMap as map
use Rattle.std.specs.FinMap.Entries.{find}
use Rattle.tl_base.specs.Along.{Along}
use Rattle.tl_base.specs.declared.store.StoreRequest.{StoreRequest}
use Rattle.tl_base.specs.declared.store.StoreRequest.TheVariants.{Load, StoreIf, Add, Page}
use Rattle.tl_base.specs.declared.store.StoreReply.{StoreReply}
use Rattle.tl_base.specs.declared.store.StoreReply.TheVariants as reply
use Rattle.tl_cells.specs.declared.cell.Cell.{Cell}
use Rattle.tl_cells.specs.Cells.{ShardState, absent, store_reply, add_reply, page_of, cells_within}

-- one request, with what was answered
pub record Call : Type 0 where
  pub request : StoreRequest
  pub reply : StoreReply

-- the cell that a call stored, with its key
abbrev pub store_of : StoreRequest → StoreReply → List (List ℕ × Cell)
store_of (StoreIf key stamp value) (reply.Stored fresh) = (key, record { stamp = fresh; value = value }) ∷ []
store_of request answer = []

-- the stores of a log, the newest first
abbrev pub stores : List Call → List (List ℕ × Cell)
stores [] = []
stores (c ∷ cs) = stores cs ++ store_of c.request c.reply

-- the cell under a key: its last store, or an absent one
abbrev pub cell_at : List Call → List ℕ → Cell
cell_at log key = unwrap_or (find (slice_cmp nat_cmp) key (stores log)) absent

-- the opening stamp plus the number of stores
abbrev pub last_stamp : ℕ → List Call → ℕ
last_stamp opening log = opening + length (stores log)

-- what a call added to the counter under a key
abbrev pub added : List ℕ → StoreRequest → StoreReply → ℕ
added key (Add counter by) (reply.Count old) = at (pointwise nat_eq key counter)
  where
    at : Bool → ℕ
    at true = by
    at false = 0
added key request answer = 0

-- the counter under a key: the sum of what was added
abbrev pub count_at : List Call → List ℕ → ℕ
count_at [] key = 0
count_at (c ∷ cs) key = added key c.request c.reply + count_at cs key

-- the reply that a request has to have after a log
abbrev pub reply_after : ℕ → List Call → StoreRequest → StoreReply
reply_after opening log (Load key) = reply.Cell (cell_at log key).stamp (cell_at log key).value
reply_after opening log (StoreIf key stamp value) = store_reply (cell_at log key).stamp stamp (last_stamp opening log)
reply_after opening log (Add key by) = add_reply (count_at log key) by
reply_after opening log (Page from before limit) = page_of limit (cells_within from before (map.from_entries (stores log)))

abbrev pub Serves : ℕ → List Call → Call → Type 0
Serves opening past c = c.reply ≡ reply_after opening past c.request

-- each reply of the log follows from what stands before it
abbrev pub ServesAll : ℕ → List Call → Type 0
ServesAll opening log = Along (Serves opening) [] log

-- the state is what the log says
pub record Matches (opening : ℕ) (log : List Call) (s : ShardState) : Type 0 where
  pub cells : s.cells ≡ map.from_entries (stores log)
  pub counters : (key : List ℕ) → unwrap_or (map.get s.counters key) 0 ≡ count_at log key
  pub last : s.last ≡ last_stamp opening log
