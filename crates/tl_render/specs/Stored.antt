-- The rows that the store shows at the end of a run, read off what was stored last under each key.
use Rattle.std.specs.Prelude.{◌≡◌, ℕ, true, List, [], ◌∷◌, Option, Some, None, IsSome, if◌then◌else◌}
use Rattle.std.specs.FinMap as finmap
use Rattle.std.specs.List.{AllByRecursion}
use Rattle.tl_base.specs.declared.place.Settings.{Settings}
use Rattle.tl_base.specs.declared.store.StoreReply.TheVariants as answered
use Rattle.tl_base.specs.declared.store.StoreRequest.TheVariants as store
use Rattle.tl_values.specs.declared.value.Value.{Value}
use Rattle.tl_descriptor.specs.Reading.{read_set}
use Rattle.tl_descriptor.specs.Tids.{TidSet}
use Rattle.tl_manager.specs.declared.request.Reply.{Reply}
use Rattle.tl_manager.specs.declared.request.Reply.TheVariants as reply
use Rattle.tl_manager.specs.declared.request.Request.{Request}
use Rattle.tl_manager.specs.declared.request.Request.TheVariants as request
use Rattle.tl_manager.specs.State.{opening_copy}
use Rattle.tl_versions.specs.declared.version.Version.{Version}
use Rattle.tl_versions.specs.Reading.{read_cell}
use Rattle.tl_write.specs.Tables.{Tables}
use Rattle.tl_isolation.specs.declared.script.Script.{Script}
use Rattle.tl_protocol.specs.Store.{Key, last_of, row_shown, same_key}
use Rattle.tl_journal.specs.declared.event.Event.{Event}
use Rattle.tl_journal.specs.Law.{IsRun}
use Rattle.tl_journal.specs.Served.{is_record_key}

-- the bytes of a cell, with its key
abbrev pub Stored : Type 0
Stored = Key × List ℕ

-- these are the events of a run of the script, under some settings
abbrev pub IsOfRun : Script → List Event → Type 0
IsOfRun script events = (settings : Settings) × IsRun script settings events

-- what a request stored, if it stored anything
abbrev pub stored_by : Request → Reply → Option Stored
stored_by (request.Store (store.StoreIf key stamp value)) (reply.Store (answered.Stored fresh)) = Some (key, value)
stored_by asked told = None

-- the bytes that were stored, if they were stored under this key
abbrev pub stored_at : Key → Option Stored → Option (List ℕ)
stored_at key None = None
stored_at key (Some s) = if same_key s.0 key then Some s.1 else None

-- the bytes that were stored last under this key, if any were
abbrev pub last_stored : List Event → Key → Option (List ℕ)
last_stored [] key = None
last_stored (e ∷ es) key = last_of (stored_at key (stored_by e.request e.reply)) (last_stored es key)

-- the finished transactions by what was stored last in the commits cell
abbrev pub finished_in : Option (List ℕ) → Option TidSet
finished_in None = Some opening_copy
finished_in (Some bytes) = read_set bytes

-- the bytes of each record spell versions
abbrev pub AreRead : List Stored → Type 0
AreRead cells = AllByRecursion (λ (c : Stored). is_record_key c.0 ≡ true → IsSome (read_cell c.1)) cells

-- the row that the set shows of these versions, if they were read
abbrev pub row_in : TidSet → Option (List Version) → Option (List Value)
row_in set None = None
row_in set (Some versions) = row_shown set versions

-- the row, or none, takes its place under the key
abbrev pub put_row : Key → Option (List Value) → Tables → Tables
put_row key None rows = finmap.remove rows key
put_row key (Some row) rows = finmap.insert rows key row

-- the row that the set shows of a record's cell takes its place
abbrev pub with_cell : TidSet → Stored → Tables → Tables
with_cell set c rows = if is_record_key c.0 then put_row c.0 (row_in set (read_cell c.1)) rows else rows

-- the rows of these cells, one after the other
abbrev pub with_cells : TidSet → List Stored → Tables → Tables
with_cells set [] rows = rows
with_cells set (c ∷ cs) rows = with_cells set cs (with_cell set c rows)
