-- Where a request goes, its bytes, and what the bytes of a reply say.
use Rattle.std.specs.Prelude.{ℕ, ◌-◌, ◌%◌, Bool, List, [], ◌∷◌, Option, Some, None}
use Rattle.std.specs.Int.{w64, to_be_bytes}
use Rattle.tl_base.specs.declared.place.PlaceId.{PlaceId}
use Rattle.tl_base.specs.declared.place.PlaceId.TheVariants as place
use Rattle.tl_base.specs.declared.place.Settings.{Settings}
use Rattle.tl_base.specs.declared.store.Item.{Item}
use Rattle.tl_base.specs.declared.store.StoreReply.{StoreReply}
use Rattle.tl_base.specs.declared.store.StoreReply.TheVariants as answered
use Rattle.tl_base.specs.declared.store.StoreRequest.TheVariants as store
use Rattle.tl_cells.specs.Place.{shard_of_key}
use Rattle.tl_descriptor.specs.Tids.{TidSet}
use Rattle.tl_descriptor.specs.Reading as sets
use Rattle.tl_logrec.specs.declared.entry.LogEntry.{LogEntry}
use Rattle.tl_logrec.specs.Entry as logs
use Rattle.tl_logrec.specs.Reading as log_reading
use Rattle.tl_manager.specs.declared.request.Reply.{Reply}
use Rattle.tl_manager.specs.declared.request.Reply.TheVariants as reply
use Rattle.tl_manager.specs.declared.request.Request.{Request}
use Rattle.tl_manager.specs.declared.request.Request.TheVariants as request
use Rattle.tl_versions.specs.declared.version.Version.{Version}
use Rattle.tl_versions.specs.Cell as cells
use Rattle.tl_versions.specs.Reading as cell_reading
use Rattle.tl_protocol.specs.Store.{Key}
use Rattle.tl_journal.specs.Ask.{Ask, LoadCommits, StoreCommits, LoadLog, StoreLog, LoadRecord, StoreRecord, ReadPage, DrawNumbers, AskManager, Found, Heard, Commits, Log, Record, Page, Stored, Moved, Numbers, Told, Strange}

-- the key of the commits cell, of the counter of transaction numbers, and of a log cell
abbrev pub commits_key : List ℕ
commits_key = 1 ∷ []

abbrev pub counter_key : List ℕ
counter_key = 2 ∷ []

abbrev pub log_key : ℕ → List ℕ
log_key tid = 3 ∷ to_be_bytes w64 tid

-- how many cells a page has at most
abbrev pub page_limit : ℕ
page_limit = 64

abbrev pub shard_at : Settings → List ℕ → PlaceId
shard_at settings key = place.Shard (shard_of_key key settings.shards)

abbrev pub place_of : Settings → Ask → PlaceId
place_of settings LoadCommits = shard_at settings commits_key
place_of settings (StoreCommits stamp set) = shard_at settings commits_key
place_of settings (LoadLog tid) = shard_at settings (log_key tid)
place_of settings (StoreLog stamp log) = shard_at settings (log_key log.tid)
place_of settings (LoadRecord key) = shard_at settings key
place_of settings (StoreRecord key stamp versions) = shard_at settings key
place_of settings (ReadPage shard from before) = place.Shard shard
place_of settings DrawNumbers = shard_at settings counter_key
place_of settings (AskManager manager asked) = place.Manager manager

abbrev pub written : Ask → Request
written LoadCommits = request.Store (store.Load commits_key)
written (StoreCommits stamp set) = request.Store (store.StoreIf commits_key stamp (sets.spelling set))
written (LoadLog tid) = request.Store (store.Load (log_key tid))
written (StoreLog stamp log) = request.Store (store.StoreIf (log_key log.tid) stamp (logs.spelling log))
written (LoadRecord key) = request.Store (store.Load key)
written (StoreRecord key stamp versions) = request.Store (store.StoreIf key stamp (cells.spelling versions))
written (ReadPage shard from before) = request.Store (store.Page from before page_limit)
written DrawNumbers = request.Store (store.Add counter_key 16)
written (AskManager manager asked) = request.Manager asked

abbrev pub commits_in : ℕ → Option TidSet → Heard
commits_in stamp None = Strange
commits_in stamp (Some set) = Commits (record { stamp = stamp; finished = set })

abbrev pub entry_in : ℕ → Option LogEntry → Heard
entry_in stamp None = Strange
entry_in stamp (Some log) = Log (Some (record { stamp = stamp; entry = log }))

-- a log cell that was never stored has no bytes
abbrev pub log_in : ℕ → List ℕ → Heard
log_in stamp [] = Log None
log_in stamp (byte ∷ bytes) = entry_in stamp (log_reading.read_entry (byte ∷ bytes))

abbrev pub record_in : ℕ → Option (List Version) → Heard
record_in stamp None = Strange
record_in stamp (Some versions) = Record (record { stamp = stamp; versions = versions })

abbrev pub found_before : Key → Option (List Version) → Option (List Found) → Option (List Found)
found_before key None more = None
found_before key (Some versions) None = None
found_before key (Some versions) (Some found) = Some (record { key = key; versions = versions } ∷ found)

abbrev pub found_in : List Item → Option (List Found)
found_in [] = Some []
found_in (item ∷ items) = found_before item.key (cell_reading.read_cell item.value) (found_in items)

abbrev pub page_in : Option (List Found) → Bool → Heard
page_in None more = Strange
page_in (Some found) more = Page found more

-- of a conditional store
abbrev pub store_heard : StoreReply → Heard
store_heard (answered.Stored stamp) = Stored stamp
store_heard (answered.Moved stamp) = Moved
store_heard other = Strange

abbrev pub shard_heard : Ask → StoreReply → Heard
shard_heard LoadCommits (answered.Cell stamp value) = commits_in stamp (sets.read_set value)
shard_heard (LoadLog tid) (answered.Cell stamp value) = log_in stamp value
shard_heard (LoadRecord key) (answered.Cell stamp value) = record_in stamp (cell_reading.read_cell value)
shard_heard (ReadPage shard from before) (answered.Items list more) = page_in (found_in list) more
shard_heard DrawNumbers (answered.Count old) = Numbers old
shard_heard (StoreCommits stamp set) told = store_heard told
shard_heard (StoreLog stamp log) told = store_heard told
shard_heard (StoreRecord key stamp versions) told = store_heard told
shard_heard asked told = Strange

abbrev pub manager_heard : Ask → Reply → Heard
manager_heard (AskManager manager asked) (reply.Manager told) = Told told
manager_heard asked told = Strange

-- what the reply says to one who asked this
abbrev pub heard : Ask → Reply → Heard
heard (AskManager manager asked) told = manager_heard (AskManager manager asked) told
heard asked (reply.Store told) = shard_heard asked told
heard asked (reply.Manager told) = Strange

-- the manager of a node
abbrev pub home_of : Settings → ℕ → ℕ
home_of settings node = (node - 1) % settings.managers
