-- The reads of a statement: the records and ranges that its accesses name, and the rows that they bring.
use Rattle.std.specs.Prelude.{ℕ, ◌+◌, Bool, true, false, nat_lt, List, [], ◌∷◌, ◌++◌, map, filter, filter_map, if◌then◌else◌}
use Rattle.std.specs.Option.{option_to_list}
use Rattle.tl_values.specs.declared.value.Value.{Value}
use Rattle.tl_schema.specs.declared.access.Access.{Access}
use Rattle.tl_schema.specs.declared.access.Access.TheVariants as access
use Rattle.tl_schema.specs.declared.catalog.Catalog.{Catalog}
use Rattle.tl_schema.specs.Record.{record_key}
use Rattle.tl_descriptor.specs.Tids.{TidSet}
use Rattle.tl_algebra.specs.declared.edit.Edit.{Edit}
use Rattle.tl_algebra.specs.declared.edit.Edit.TheVariants.{Insert, Update, Delete}
use Rattle.tl_algebra.specs.declared.query.Query.{Query}
use Rattle.tl_versions.specs.declared.version.Version.{Version}
use Rattle.tl_isolation.specs.declared.bound.Bound.{Bound}
use Rattle.tl_isolation.specs.declared.bound.Bound.TheVariants as bound
use Rattle.tl_isolation.specs.Tables.{table_of}
use Rattle.tl_plan.specs.Access.{access_of, accesses_of}
use Rattle.tl_plan.specs.Plan.{is_looked_up, numbers_of}
use Rattle.tl_protocol.specs.Store.{Key, row_shown}
use Rattle.tl_journal.specs.Ask.{Found}

-- one record, or the records of a range of store keys, shard after shard: the shard in hand, where its page begins,
-- and where the range begins and ends
pub data Read : Type 0 where
  Point : Key → Read
  Range : ℕ → Key → Key → Key → Read

-- the reads that are left for the table in hand and for those behind it; the rows that were found of the table in
-- hand and of those before it
pub record Reads : Type 0 where
  pub left : List Read
  pub later : List (List Read)
  pub rows : List (List Value)
  pub earlier : List (List (List Value))

-- the records of a table stand under these bytes, and then those of the primary key
abbrev pub table_key : ℕ → Key → Key
table_key number key = 4 ∷ number ∷ key

abbrev pub range_of : ℕ → Key → Key → Read
range_of number low high = Range 0 (table_key number low) (table_key number low) (table_key number high)

abbrev pub read_of : ℕ → Access → Read
read_of number (access.Point key) = Point (table_key number key)
read_of number (access.KeyRange low high) = range_of number low high
read_of number (access.IndexRange index low high) = range_of number (1 ∷ []) (4 ∷ [])
read_of number access.Whole = range_of number (1 ∷ []) (4 ∷ [])

-- a table of FROM has one read
abbrev pub reads_of : List ℕ → List Access → List (List Read)
reads_of [] accesses = []
reads_of (number ∷ numbers) [] = []
reads_of (number ∷ numbers) (access ∷ accesses) = (read_of number access ∷ []) ∷ reads_of numbers accesses

abbrev pub edit_reads : Catalog → Edit → List Read
edit_reads catalog (Insert number rows) =
    map (λ row. Point (record_key number (table_of catalog number) row)) (filter (is_looked_up (table_of catalog number)) rows)
edit_reads catalog (Update number sets where_) = read_of number (access_of (table_of catalog number) 0 where_) ∷ []
edit_reads catalog (Delete number where_) = read_of number (access_of (table_of catalog number) 0 where_) ∷ []

abbrev pub query_reads : Catalog → Query → List (List Read)
query_reads catalog query =
    reads_of (numbers_of query) (accesses_of (map (table_of catalog) (numbers_of query)) 0 query.filter)

-- what a statement reads, for each of its tables
abbrev pub all_reads : Catalog → Bound → List (List Read)
all_reads catalog (bound.Select query) = query_reads catalog query
all_reads catalog (bound.Change edit) = edit_reads catalog edit ∷ []
all_reads catalog statement = []

-- the table in hand is read: go on with the first of those behind it that has a read
abbrev pub next_table : List (List Read) → List (List Value) → List (List (List Value)) → Reads
next_table [] rows earlier = record { left = []; later = []; rows = rows; earlier = earlier }
next_table ([] ∷ later) rows earlier = next_table later [] (earlier ++ rows ∷ [])
next_table ((read ∷ left) ∷ later) rows earlier =
    record { left = read ∷ left; later = later; rows = []; earlier = earlier ++ rows ∷ [] }

abbrev pub begin_reads : List (List Read) → Reads
begin_reads [] = record { left = []; later = []; rows = []; earlier = [] }
begin_reads ([] ∷ later) = next_table later [] []
begin_reads ((read ∷ left) ∷ later) = record { left = read ∷ left; later = later; rows = []; earlier = [] }

-- nothing is left to read
abbrev pub is_read : Reads → Bool
is_read reads = by reads.left
  where
    by : List Read → Bool
    by [] = true
    by (read ∷ left) = false

-- the rows of each table, once all is read
abbrev pub tables_read : Reads → List (List (List Value))
tables_read reads = reads.earlier ++ reads.rows ∷ []

abbrev pub after_read : Reads → List Read → List (List Value) → Reads
after_read reads [] rows = next_table reads.later (reads.rows ++ rows) reads.earlier
after_read reads (read ∷ left) rows = record reads { left = read ∷ left; rows = reads.rows ++ rows }

-- a cell was loaded
abbrev pub take_cell : TidSet → List Version → Reads → List Read → Reads
take_cell snapshot versions reads left = after_read reads left (option_to_list (row_shown snapshot versions))

abbrev pub rows_found : TidSet → List Found → List (List Value)
rows_found snapshot found = filter_map (λ (f : Found). row_shown snapshot f.versions) found

-- the key behind the last one of a page, in byte order
abbrev pub key_behind : Key → List Found → Key
key_behind from [] = from
key_behind from (f ∷ fs) = key_behind (f.key ++ 0 ∷ []) fs

-- a page of the range was read: the range goes on behind it, or at the next shard, or it is read
abbrev pub range_left : ℕ → ℕ → Key → Key → Key → Bool → List Found → List Read
range_left shards shard from first before true found = Range shard (key_behind from found) first before ∷ []
range_left shards shard from first before false found =
    if nat_lt (shard + 1) shards then Range (shard + 1) first first before ∷ [] else []

abbrev pub take_page : ℕ → TidSet → ℕ → Key → Key → Key → List Found → Bool → Reads → List Read → Reads
take_page shards snapshot shard from first before found more reads left =
    after_read reads (range_left shards shard from first before more found ++ left) (rows_found snapshot found)
