-- What a node asks can be written, and what it hears can be written again: keys, rows, sets and lists of a bounded size.
use Rattle.std.proofs.Common.{◌≡◌, ℕ, ◌≤◌, true, false, List, length, Option, Some, None}
use Rattle.std.specs.Prelude.{◌^◌}
use Rattle.std.specs.List.{AllByRecursion}
use Rattle.tl_values.specs.declared.value.Value.{Value}
use Rattle.tl_schema.specs.Row.{row_spelling}
use Rattle.tl_descriptor.specs.Tids.{TidSet, IsCanonical, has}
use Rattle.tl_logrec.specs.Entry.{FitsEntry}
use Rattle.tl_logrec.specs.declared.entry.LogEntry.{LogEntry}
use Rattle.tl_versions.specs.Cell.{FitsChange, IsCell}
use Rattle.tl_versions.specs.declared.version.Version.{Version}
use Rattle.tl_write.specs.Own.{is_rising}
use Rattle.tl_journal.specs.Binding.{IsBrief, KeyFits, WriteFits}
use Rattle.tl_protocol.specs.Store.{Key, CommitsCell, LogCell}
use Rattle.tl_protocol.specs.World.{Txn, Loaded}
use Rattle.tl_journal.specs.Ask.{Ask, LoadCommits, StoreCommits, LoadLog, StoreLog, LoadRecord, StoreRecord, ReadPage, DrawNumbers, AskManager, Found, Heard, Commits, Log, Record, Page}
use Rattle.tl_journal.specs.Reads.{Read, Point, Range, Reads}
use Rattle.tl_journal.specs.Served.{is_record_key}

-- a set of at most so many runs
pub record SetFits (few : ℕ) (set : TidSet) : Type 0 where
  pub canonical : IsCanonical set
  pub runs : length set.runs ≤ few

-- a row as changes leave it
pub record RowFits (row : List Value) : Type 0 where
  pub change : FitsChange row
  pub brief : length (row_spelling row) ≤ 1024

-- at most so many versions
pub record VersionsFit (few : ℕ) (versions : List Version) : Type 0 where
  pub cell : IsCell versions
  pub brief : AllByRecursion (λ (v : Version). IsBrief v.row) versions
  pub number : length versions ≤ few

abbrev pub KeysFit : List Key → Type 0
KeysFit keys = AllByRecursion KeyFits keys

pub record EntryFits (entry : LogEntry) : Type 0 where
  pub tid : entry.tid ≤ 2 ^ 62
  pub spelled : FitsEntry entry
  pub keys : KeysFit entry.writes

abbrev pub AskFits : ℕ → Ask → Type 0
AskFits few LoadCommits = Unit {0}
AskFits few (StoreCommits stamp set) = SetFits few set
AskFits few (LoadLog tid) = tid ≤ 2 ^ 62
AskFits few (StoreLog stamp entry) = EntryFits entry
AskFits few (LoadRecord key) = is_record_key key ≡ true
AskFits few (StoreRecord key stamp versions) = KeyFits key × VersionsFit few versions
AskFits few (ReadPage shard from before) = (is_record_key from ≡ true) × (is_record_key before ≡ true)
AskFits few DrawNumbers = Unit {0}
AskFits few (AskManager m request) = Unit {0}

abbrev pub LogFits : Option LogCell → Type 0
LogFits None = Unit {0}
LogFits (Some log) = EntryFits log.entry

-- a cell of a page
pub record FoundFits (few : ℕ) (f : Found) : Type 0 where
  pub is_record : is_record_key f.key ≡ true
  pub versions : VersionsFit few f.versions

abbrev pub HeardFits : ℕ → Heard → Type 0
HeardFits few (Commits c) = SetFits few c.finished
HeardFits few (Log log) = LogFits log
HeardFits few (Record cell) = VersionsFit few cell.versions
HeardFits few (Page found more) = AllByRecursion (FoundFits few) found
HeardFits few heard = Unit {0}

-- its writes rise, and it sees no version of its own
pub record TxnFits (t : Txn) : Type 0 where
  pub tid : t.tid ≤ 2 ^ 62
  pub unseen : has t.snapshot t.tid ≡ false
  pub own : AllByRecursion WriteFits t.own
  pub few : length t.own ≤ 4096
  pub rising : is_rising t.own ≡ true

abbrev pub HandFits : ℕ → Option Loaded → Type 0
HandFits few None = Unit {0}
HandFits few (Some l) = KeyFits l.key × VersionsFit few l.versions

abbrev pub SeenFits : ℕ → Option CommitsCell → Type 0
SeenFits few None = Unit {0}
SeenFits few (Some c) = SetFits few c.finished

-- the range of a read lies among the record keys
abbrev pub ReadFits : Read → Type 0
ReadFits (Point key) = is_record_key key ≡ true
ReadFits (Range shard from first before) = (is_record_key from ≡ true) × (is_record_key first ≡ true) × (is_record_key before ≡ true)

-- a row that was read can be written again
pub record ReadsFit (reads : Reads) : Type 0 where
  pub left : AllByRecursion ReadFits reads.left
  pub later : AllByRecursion (AllByRecursion ReadFits) reads.later
  pub rows : AllByRecursion RowFits reads.rows
  pub earlier : AllByRecursion (AllByRecursion RowFits) reads.earlier
