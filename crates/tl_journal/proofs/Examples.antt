-- Journals as lists of what each node hears, with the answers that it gives: both what it asks and what it tells are
-- written out by hand, and the definitions compute to them.
use Rattle.std.proofs.Common.{◌≡◌, ℕ, Bool, true, false, List, [], ◌∷◌, ◌++◌, Option, Some, None, Result, refl, sym, ap, ◌∙◌, arith}
use Rattle.std.specs.Prelude.{filter, is_some, length, map}
use Rattle.std.specs.FinMap as finmap
use Rattle.std.specs.Cmp.Lexicographic.{nat_list_cmp_total}
use Rattle.tl_lemmas.proofs.Lists.{no_length}
use Rattle.tl_base.specs.NodeSet.{no_nodes}
use Rattle.tl_base.specs.declared.place.Settings.{Settings}
use Rattle.tl_values.specs.declared.value.Kind.TheVariants as kind
use Rattle.tl_values.specs.declared.value.Value.{Value}
use Rattle.tl_schema.specs.declared.access.Access.{Access}
use Rattle.tl_schema.specs.declared.catalog.Catalog.{Catalog}
use Rattle.tl_schema.specs.declared.catalog.Table.{Table}
use Rattle.tl_descriptor.specs.Tids.{TidSet}
use Rattle.tl_logrec.specs.declared.entry.Flag.TheVariants as flag
use Rattle.tl_manager.specs.declared.request.ManagerReply.TheVariants as told
use Rattle.tl_manager.specs.declared.request.ManagerRequest.TheVariants as manager
use Rattle.tl_versions.specs.declared.version.Version.{Version}
use Rattle.tl_algebra.specs.declared.edit.Edit.TheVariants.{Insert}
use Rattle.tl_algebra.specs.declared.expression.Expression.TheVariants as expression
use Rattle.tl_algebra.specs.declared.expression.Operator.TheVariants as sign
use Rattle.tl_algebra.specs.declared.query.Output.TheVariants as output
use Rattle.tl_algebra.specs.declared.query.Query.{Query}
use Rattle.tl_algebra.specs.Truth.{lets_through}
use Rattle.tl_write.specs.declared.fault.ChangeFault.{ChangeFault}
use Rattle.tl_write.specs.declared.write.Effect.{Effect}
use Rattle.tl_write.specs.declared.write.Write.{Write}
use Rattle.tl_write.specs.Change.{Add, judged, nothing, replaced}
use Rattle.tl_write.specs.Own.{key_cmp}
use Rattle.tl_write.specs.Tables.{Tables, is_in, laid_over, records_in, tables_of, write_of}
use Rattle.tl_schema.specs.Record.{record_key}
use Rattle.tl_isolation.specs.declared.bound.Bound.{Bound}
use Rattle.tl_isolation.specs.declared.bound.Bound.TheVariants as bound
use Rattle.tl_isolation.specs.declared.entry.Answer.{Answer}
use Rattle.tl_isolation.specs.declared.entry.Answer.TheVariants as answer
use Rattle.tl_isolation.specs.declared.entry.Entry.{Entry}
use Rattle.tl_isolation.specs.declared.entry.Entry.TheVariants as entry
use Rattle.tl_isolation.specs.declared.script.Session.{Session}
use Rattle.tl_isolation.specs.declared.state.Commit.{Commit as Committed}
use Rattle.tl_protocol.specs.Store.{Key}
use Rattle.tl_isolation.specs.Meaning.{change_of}
use Rattle.tl_isolation.specs.Step.{own_after}
use Rattle.tl_isolation.specs.Tables.{table_of}
use Rattle.tl_protocol.specs.Told.{says}
use Rattle.tl_protocol.specs.World.{Stage, Fresh, Opened, Answering, Txn}
use Rattle.tl_protocol.proofs.Account.{access_equal, all_query, bank, changing_one, equals, setting_all, with_balance}
use Rattle.tl_protocol.proofs.Meanings.{Row, Updating, edit_of}
use Rattle.tl_journal.specs.Ask.{Ask, LoadCommits, StoreCommits, LoadLog, StoreLog, LoadRecord, StoreRecord, ReadPage, DrawNumbers, AskManager, Found, Heard, Commits, Log, Record, Page, Stored, Numbers, Told}
use Rattle.tl_journal.specs.Reads.{Reads, begin_reads, read_of}
use Rattle.tl_journal.specs.Node.{Node, Outside, Inside, opening_node, owed_by}
use Rattle.tl_journal.specs.Asks.{asks, asks_read}
use Rattle.tl_journal.specs.Memory.{node_then}
use Rattle.tl_journal.specs.Takes.{after_reply, own_said, stopped, stores_first, takes, takes_read, view_changed, with_doing}
use Rattle.tl_journal.specs.Says.{says_at, says_read}

-- ---- a node along what it hears

-- what a node asks, request by request, where it hears this
abbrev pub asked_by : Settings → Catalog → Node → List (Heard × Answer) → List (Option Ask)
asked_by settings catalog node [] = []
asked_by settings catalog node (h ∷ hs) = asks settings catalog node ∷ asked_by settings catalog (takes settings catalog node h.0 h.1) hs

-- the node after it
abbrev pub node_by : Settings → Catalog → Node → List (Heard × Answer) → Node
node_by settings catalog node [] = node
node_by settings catalog node (h ∷ hs) = node_by settings catalog (takes settings catalog node h.0 h.1) hs

-- what is told of it; of these commits a snapshot counts those that it has
abbrev pub told_by : Settings → Catalog → List Committed → Node → List (Heard × Answer) → List Entry
told_by settings catalog commits node [] = []
told_by settings catalog commits node (h ∷ hs) =
    says_at settings catalog commits node h.0 h.1 ++ told_by settings catalog commits (takes settings catalog node h.0 h.1) hs

-- along what it hears a node asks and tells these, and comes to that node
pub record Walks (settings : Settings) (catalog : Catalog) (commits : List Committed) (from : Node) (hears : List (Heard × Answer))
    (asked : List (Option Ask)) (said_so : List Entry) (to : Node) : Type 0 where
  pub asks_so : asked_by settings catalog from hears ≡ asked
  pub tells_so : told_by settings catalog commits from hears ≡ said_so
  pub comes_to : node_by settings catalog from hears ≡ to

entries_behind : (xs ys zs : List Entry) → xs ++ (ys ++ zs) ≡ (xs ++ ys) ++ zs
entries_behind [] ys zs = refl
entries_behind (x ∷ xs) ys zs = ap (λ l. x ∷ l) (entries_behind xs ys zs)

module _ (settings : Settings) (catalog : Catalog) (commits : List Committed) where
  asked_behind : (node : Node) (hs more : List (Heard × Answer))
      → asked_by settings catalog node (hs ++ more) ≡ asked_by settings catalog node hs ++ asked_by settings catalog (node_by settings catalog node hs) more
  asked_behind node [] more = refl
  asked_behind node (h ∷ hs) more = ap (λ l. asks settings catalog node ∷ l) (asked_behind (takes settings catalog node h.0 h.1) hs more)

  node_behind : (node : Node) (hs more : List (Heard × Answer))
      → node_by settings catalog node (hs ++ more) ≡ node_by settings catalog (node_by settings catalog node hs) more
  node_behind node [] more = refl
  node_behind node (h ∷ hs) more = node_behind (takes settings catalog node h.0 h.1) hs more

  told_behind : (node : Node) (hs more : List (Heard × Answer))
      → told_by settings catalog commits node (hs ++ more)
      ≡ told_by settings catalog commits node hs ++ told_by settings catalog commits (node_by settings catalog node hs) more
  told_behind node [] more = refl
  told_behind node (h ∷ hs) more =
      ap (λ l. says_at settings catalog commits node h.0 h.1 ++ l) (told_behind (takes settings catalog node h.0 h.1) hs more)
      ∙ entries_behind (says_at settings catalog commits node h.0 h.1) (told_by settings catalog commits (takes settings catalog node h.0 h.1) hs)
      (told_by settings catalog commits (node_by settings catalog (takes settings catalog node h.0 h.1) hs) more)

  -- a walk, and another one behind it
  pub and_then : {from mid to : Node} {hs more : List (Heard × Answer)} {a b : List (Option Ask)} {s t : List Entry}
      → Walks settings catalog commits from hs a s mid → Walks settings catalog commits mid more b t to
      → Walks settings catalog commits from (hs ++ more) (a ++ b) (s ++ t) to
  and_then {from} {mid} {to} {hs} {more} {a} {b} {s} {t} v w =
      record {
        asks_so = asked_behind from hs more ∙ (λ i. v.asks_so i ++ asked_by settings catalog (v.comes_to i) more) ∙ ap (λ l. a ++ l) w.asks_so;
        tells_so = told_behind from hs more ∙ (λ i. v.tells_so i ++ told_by settings catalog commits (v.comes_to i) more) ∙ ap (λ l. s ++ l) w.tells_so;
        comes_to = node_behind from hs more ∙ ap (λ n. node_by settings catalog n more) v.comes_to ∙ w.comes_to;
      }

-- ---- what a change writes

entries_empty : finmap.entries (finmap.empty {X = List Value} {R = key_cmp}) ≡ []
entries_empty =
    no_length _ (sym (finmap.len-entries (finmap.empty {X = List Value} {R = key_cmp})) ∙ finmap.len-empty key_cmp (List Value))

-- the rows with their keys, each in its place
abbrev placed : ℕ → Table → List Row → List (Key × Row) → List (Key × Row)
placed number table [] es = es
placed number table (row ∷ rows) es = placed number table rows (finmap.put key_cmp (record_key number table row) row es)

entries_laid : (number : ℕ) (table : Table) (rows : List Row) (tables : Tables)
    → finmap.entries (laid_over tables (map (write_of number table) rows)) ≡ placed number table rows (finmap.entries tables)
entries_laid number table [] tables = refl
entries_laid number table (row ∷ rows) tables =
    entries_laid number table rows (finmap.insert tables (record_key number table row) row)
    ∙ ap (placed number table rows) (finmap.entries-insert nat_list_cmp_total tables (record_key number table row) row)

pub records_so : (number : ℕ) (table : Table) (rows : List Row)
    → records_in number (tables_of number table rows) ≡ filter (λ (e : Key × Row). is_in number e.0) (placed number table rows [])
records_so number table rows =
    ap (filter (λ (e : Key × Row). is_in number e.0)) (entries_laid number table rows finmap.empty ∙ ap (placed number table rows) entries_empty)

module _ (u : Updating bank) (rows : List Row) where
  abbrev result_by : (Row → Option Row) → (Row → Bool) → List (Key × Row) → Result Effect ChangeFault
  result_by changed takes_it records =
      judged (table_of bank u.number) (finmap.contains_key (tables_of u.number (table_of bank u.number) rows)) []
      (map (λ (e : Key × Row). replaced e.0 (changed e.1)) (filter (λ (e : Key × Row). takes_it e.1) records)) nothing

  abbrev pub result_of : Result Effect ChangeFault
  result_of = result_by u.changed u.takes (filter (λ (e : Key × Row). is_in u.number e.0) (placed u.number (table_of bank u.number) rows []))

  pub result_so : change_of bank (edit_of bank u) (view_changed bank (edit_of bank u) [] (rows ∷ [])) [] ≡ result_of
  result_so =
      ap (λ (f : Row → Option Row). result_by f (lets_through u.where_) (records_in u.number (tables_of u.number (table_of bank u.number) rows)))
      (λ i row. u.changed_so row i)
      ∙ ap (λ (p : Row → Bool). result_by u.changed p (records_in u.number (tables_of u.number (table_of bank u.number) rows))) (λ i row. u.takes_so row i)
      ∙ ap (result_by u.changed u.takes) (records_so u.number (table_of bank u.number) rows)

  pub own_so : own_said bank (bound.Change (edit_of bank u)) [] (rows ∷ []) ≡ own_after result_of []
  own_so = ap (λ (r : Result Effect ChangeFault). own_after r []) result_so

-- ---- what the rows have in common

-- the default words
abbrev pub by_default : Settings
by_default = record { shards = 4; managers = 1; fan = 32; budget = 20000; threads = false }

-- the key of the record with this number in the table 0: the byte 4, the table, and the key bytes of the INT
abbrev pub key : ℕ → Key
key id = 4 ∷ 0 ∷ 2 ∷ 128 ∷ 0 ∷ 0 ∷ 0 ∷ 0 ∷ 0 ∷ 0 ∷ id ∷ []

-- the finished transactions up to this one
abbrev pub upto : ℕ → TidSet
upto base = record { base = base; runs = [] }

abbrev pub version : ℕ → ℕ → ℕ → Version
version tid id balance = record { tid = tid; row = Some (with_balance id balance) }

-- where no statement is said the answer is any
abbrev quiet : Heard → Heard × Answer
quiet heard = (heard, answer.Begun)

abbrev pub commits_are : ℕ → TidSet → Heard × Answer
commits_are stamp finished = quiet (Commits (record { stamp = stamp; finished = finished }))

abbrev pub cell_is : ℕ → List Version → Heard
cell_is stamp versions = Record (record { stamp = stamp; versions = versions })

abbrev pub stored : ℕ → Heard × Answer
stored stamp = quiet (Stored stamp)

abbrev pub ended : Heard × Answer
ended = quiet (Told told.Ended)

-- an answer that waits for the end of its transaction
abbrev pub waits : ℕ → ℕ → Bound → Answer → Entry
waits node statement b said_so = entry.Said node b (record { statement = statement; answer = said_so; answered = false })

-- ---- a session of one node: INSERT INTO t VALUES (1, 10), and SELECT * FROM t WHERE k = 1

abbrev pub table_t : Table
table_t =
    record {
      name = 116 ∷ [];
      columns = record { name = 107 ∷ []; kind = kind.Int; not_null = true } ∷ record { name = 118 ∷ []; kind = kind.Int; not_null = false } ∷ [];
      key = 0 ∷ [];
      indexes = [];
    }

abbrev pub catalog_t : Catalog
catalog_t = record { tables = table_t ∷ [] }

abbrev pub insert_one : Bound
insert_one = bound.Change (Insert 0 (with_balance 1 10 ∷ []))

abbrev pub query_one : Query
query_one =
    record {
      from = record { table = 0; on = None } ∷ [];
      filter = Some (equals 0 1);
      group = [];
      outputs = output.Expression (expression.Place 0) ∷ output.Expression (expression.Place 1) ∷ [];
      sort = [];
      limit = None;
    }

abbrev pub select_one : Bound
select_one = bound.Select query_one

abbrev pub session_one : Session
session_one = record { node = 1; statements = insert_one ∷ select_one ∷ [] }

abbrev pub start_one : Node
start_one = opening_node by_default session_one

-- the opening rows are committed, and then the transactions 1 and 2
abbrev pub commits_one : List Committed
commits_one = record { tid = 0; writes = [] } ∷ record { tid = 1; writes = [] } ∷ record { tid = 2; writes = [] } ∷ []

abbrev pub one_row : Answer
one_row = answer.Rows (with_balance 1 10 ∷ [])

-- it begins where its manager has no numbers: a range is drawn and brought, and the same begin is asked again
abbrev pub first_begins : ℕ → List (Heard × Answer)
first_begins stamp =
    commits_are stamp (upto 0) ∷ quiet (Told told.NeedRange) ∷ quiet (Numbers 0) ∷ quiet (Told told.Ranged)
    ∷ quiet (Told (told.Began 1 (upto 0) (upto 0))) ∷ []

abbrev pub first_begins_asked : List (Option Ask)
first_begins_asked =
    Some LoadCommits ∷ Some (AskManager 0 (manager.Begin 1 (upto 0))) ∷ Some DrawNumbers ∷ Some (AskManager 0 (manager.Range 1 16))
    ∷ Some (AskManager 0 (manager.Begin 1 (upto 0))) ∷ []

abbrev pub begun_one : Node
begun_one = node_by by_default catalog_t start_one (first_begins 1)

abbrev pub insert_txn : List Write → Txn
insert_txn own = record { tid = 1; snapshot = upto 0; own = own; stage = Answering (answer.Changed 1) }

abbrev pub inserted_one : Node
inserted_one = with_doing begun_one (Inside (insert_txn (record { key = key 1; row = Some (with_balance 1 10) } ∷ [])))

-- its reads: no row has the key
pub inserts_one : takes by_default catalog_t begun_one (cell_is 0 []) (answer.Changed 1) ≡ inserted_one
inserts_one =
    ap (λ (is_there : Key → Bool). with_doing begun_one (Inside (insert_txn (own_after (judged table_t is_there [] (Add (key 1) (with_balance 1 10) ∷ []) nothing) []))))
    (λ i k. is_some {T = List Value} (finmap.get-empty {X = List Value} key_cmp k i))

-- it commits, and the next statement begins
abbrev insert_rest : List (Heard × Answer)
insert_rest =
    stored 2 ∷ quiet (cell_is 0 []) ∷ stored 3 ∷ stored 4 ∷ commits_are 1 (upto 0) ∷ stored 5 ∷ ended
    ∷ commits_are 5 (upto 1) ∷ quiet (Told (told.Began 2 (upto 1) (upto 1))) ∷ []

abbrev insert_rest_asked : List (Option Ask)
insert_rest_asked =
    Some (StoreLog 0 (record { tid = 1; node = 1; flag = flag.Trying; writes = key 1 ∷ [] })) ∷ Some (LoadRecord (key 1))
    ∷ Some (StoreRecord (key 1) 0 (version 1 1 10 ∷ [])) ∷ Some (StoreLog 2 (record { tid = 1; node = 1; flag = flag.Decided; writes = key 1 ∷ [] }))
    ∷ Some LoadCommits ∷ Some (StoreCommits 1 (upto 1)) ∷ Some (AskManager 0 (manager.End 1))
    ∷ Some LoadCommits ∷ Some (AskManager 0 (manager.Begin 1 (upto 1))) ∷ []

abbrev insert_rest_told : List Entry
insert_rest_told =
    entry.Tried 1 ∷ entry.Committed 1 ∷ entry.Answered 1 1 (answer.Changed 1) ∷ entry.Asked 1 ∷ entry.Began 1 2 2 ∷ []

abbrev pub selecting_one : Node
selecting_one = node_by by_default catalog_t inserted_one insert_rest

abbrev pub select_txn : Stage → Txn
select_txn stage = record { tid = 2; snapshot = upto 1; own = []; stage = stage }

abbrev pub selected_one : Node
selected_one = with_doing selecting_one (Inside (select_txn (Answering one_row)))

-- what its reads come to, by the access
abbrev pub reads_by : Access → Reads
reads_by a = begin_reads ((read_of 0 a ∷ []) ∷ [])

pub selects_one : Walks by_default catalog_t commits_one selecting_one ((cell_is 3 (version 1 1 10 ∷ []), one_row) ∷ []) (Some (LoadRecord (key 1)) ∷ [])
    (waits 1 2 select_one one_row ∷ []) selected_one
selects_one =
    record {
      asks_so = ap (λ (a : Access). Some (asks_read (reads_by a).left) ∷ []) (access_equal 1);
      tells_so = ap
          (λ (a : Access). says_read selecting_one select_one (select_txn Fresh)
          (after_reply by_default (upto 1) (reads_by a) (reads_by a).left (cell_is 3 (version 1 1 10 ∷ []))) one_row ++ []) (access_equal 1);
      comes_to = ap
          (λ (a : Access). takes_read by_default catalog_t selecting_one select_one (select_txn Fresh) (reads_by a) (cell_is 3 (version 1 1 10 ∷ [])) one_row)
          (access_equal 1);
    }

-- it finishes: the commits cell is loaded and stored, and the transaction ends
abbrev select_rest : List (Heard × Answer)
select_rest = commits_are 5 (upto 1) ∷ stored 6 ∷ ended ∷ []

abbrev select_rest_asked : List (Option Ask)
select_rest_asked = Some LoadCommits ∷ Some (StoreCommits 5 (upto 2)) ∷ Some (AskManager 0 (manager.End 2)) ∷ []

abbrev pub end_one : Node
end_one =
    record {
      number = 1;
      todo = [];
      answers = answer.Changed 1 ∷ one_row ∷ [];
      floors = upto 1 ∷ [];
      asked_others = 0;
      doing = Outside;
    }

abbrev pub heard_one : List (Heard × Answer)
heard_one = first_begins 1 ++ (((cell_is 0 [], answer.Changed 1) ∷ []) ++ (insert_rest ++ (((cell_is 3 (version 1 1 10 ∷ []), one_row) ∷ []) ++ select_rest)))

abbrev pub asked_one : List (Option Ask)
asked_one = first_begins_asked ++ ((Some (LoadRecord (key 1)) ∷ []) ++ (insert_rest_asked ++ ((Some (LoadRecord (key 1)) ∷ []) ++ select_rest_asked)))

abbrev pub told_one : List Entry
told_one =
    entry.Asked 1 ∷ entry.Began 1 1 1 ∷ waits 1 1 insert_one (answer.Changed 1) ∷ entry.Tried 1 ∷ entry.Committed 1 ∷ entry.Answered 1 1 (answer.Changed 1)
    ∷ entry.Asked 1 ∷ entry.Began 1 2 2 ∷ waits 1 2 select_one one_row ∷ entry.Tried 2 ∷ entry.Committed 2 ∷ entry.Answered 1 2 one_row ∷ []

pub walks_session : Walks by_default catalog_t commits_one start_one heard_one asked_one told_one end_one
walks_session =
    and_then by_default catalog_t commits_one
    (begins_walk)
    (and_then by_default catalog_t commits_one inserts_walk
    (and_then by_default catalog_t commits_one insert_walk (and_then by_default catalog_t commits_one selects_one select_walk)))
  where
    begins_walk : Walks by_default catalog_t commits_one start_one (first_begins 1) first_begins_asked (entry.Asked 1 ∷ entry.Began 1 1 1 ∷ []) begun_one
    begins_walk = record { asks_so = refl; tells_so = refl; comes_to = refl }

    inserts_walk : Walks by_default catalog_t commits_one begun_one ((cell_is 0 [], answer.Changed 1) ∷ []) (Some (LoadRecord (key 1)) ∷ [])
        (waits 1 1 insert_one (answer.Changed 1) ∷ []) inserted_one
    inserts_walk = record { asks_so = refl; tells_so = refl; comes_to = inserts_one }

    insert_walk : Walks by_default catalog_t commits_one inserted_one insert_rest insert_rest_asked insert_rest_told selecting_one
    insert_walk = record { asks_so = refl; tells_so = refl; comes_to = refl }

    select_walk : Walks by_default catalog_t commits_one selected_one select_rest select_rest_asked
        (entry.Tried 2 ∷ entry.Committed 2 ∷ entry.Answered 1 2 one_row ∷ []) end_one
    select_walk = record { asks_so = refl; tells_so = refl; comes_to = refl }

pub asks_session : asked_by by_default catalog_t start_one heard_one ≡ asked_one
asks_session = walks_session.asks_so

pub tells_session : told_by by_default catalog_t commits_one start_one heard_one ≡ told_one
tells_session = walks_session.tells_so

pub answers_session : (node_by by_default catalog_t start_one heard_one).answers ≡ answer.Changed 1 ∷ one_row ∷ []
answers_session = ap (λ (n : Node). n.answers) walks_session.comes_to

-- ---- a conflict: both take the same account's row, and node 2 commits second

abbrev pub take_ten : Updating bank
take_ten = changing_one sign.Subtract 10 1 refl refl

abbrev pub add_five : Updating bank
add_five = changing_one sign.Add 5 1 refl refl

abbrev pub change_by : Updating bank → Bound
change_by u = bound.Change (edit_of bank u)

abbrev pub session_by : ℕ → Updating bank → Session
session_by node u = record { node = node; statements = bound.Begin ∷ change_by u ∷ bound.Commit ∷ [] }

-- the opening rows are committed, and then the transaction 1
abbrev pub commits_conflict : List Committed
commits_conflict = record { tid = 0; writes = [] } ∷ record { tid = 1; writes = [] } ∷ []

abbrev pub start_by : ℕ → Updating bank → Node
start_by node u = opening_node by_default (session_by node u)

-- it begins, where the manager has numbers
abbrev pub second_begins : List (Heard × Answer)
second_begins = commits_are 1 (upto 0) ∷ quiet (Told (told.Began 2 (upto 0) (upto 0))) ∷ []

abbrev pub second_begins_asked : List (Option Ask)
second_begins_asked = Some LoadCommits ∷ Some (AskManager 0 (manager.Begin 2 (upto 0))) ∷ []

abbrev pub opened_txn : ℕ → List Write → Txn
opened_txn tid own = record { tid = tid; snapshot = upto 0; own = own; stage = Opened }

-- a node whose BEGIN is answered
abbrev pub begun_by : ℕ → Updating bank → Node
begun_by node u =
    record {
      number = node;
      todo = change_by u ∷ bound.Commit ∷ [];
      answers = answer.Begun ∷ [];
      floors = upto 0 ∷ [];
      asked_others = 0;
      doing = Inside (opened_txn node []);
    }

-- and once its UPDATE is
abbrev pub changed_by : ℕ → Updating bank → List Write → Node
changed_by node u own =
    record {
      number = node;
      todo = bound.Commit ∷ [];
      answers = answer.Begun ∷ answer.Changed 1 ∷ [];
      floors = upto 0 ∷ [];
      asked_others = 0;
      doing = Inside (opened_txn node own);
    }

abbrev pub first_cell : Heard
first_cell = cell_is 2 (version 0 1 100 ∷ [])

abbrev changes_heard : List (Heard × Answer)
changes_heard = (first_cell, answer.Changed 1) ∷ []

begins_first : Walks by_default bank commits_conflict (start_by 1 take_ten) (first_begins 1) first_begins_asked
    (entry.Asked 1 ∷ entry.Began 1 1 1 ∷ says 1 1 bound.Begin answer.Begun ∷ []) (begun_by 1 take_ten)
begins_first = record { asks_so = refl; tells_so = refl; comes_to = refl }

begins_second : Walks by_default bank commits_conflict (start_by 2 add_five) second_begins second_begins_asked
    (entry.Asked 2 ∷ entry.Began 2 2 1 ∷ says 2 1 bound.Begin answer.Begun ∷ []) (begun_by 2 add_five)
begins_second = record { asks_so = refl; tells_so = refl; comes_to = refl }

pub changes_first : Walks by_default bank commits_conflict (begun_by 1 take_ten) changes_heard (Some (LoadRecord (key 1)) ∷ [])
    (says 1 2 (change_by take_ten) (answer.Changed 1) ∷ []) (changed_by 1 take_ten (record { key = key 1; row = Some (with_balance 1 90) } ∷ []))
changes_first =
    record {
      asks_so = ap (λ (a : Access). Some (asks_read (reads_by a).left) ∷ []) (access_equal 1);
      tells_so = ap
          (λ (a : Access). says_read (begun_by 1 take_ten) (change_by take_ten) (opened_txn 1 [])
          (after_reply by_default (upto 0) (reads_by a) (reads_by a).left first_cell) (answer.Changed 1) ++ []) (access_equal 1);
      comes_to = ap
          (λ (a : Access). takes_read by_default bank (begun_by 1 take_ten) (change_by take_ten) (opened_txn 1 []) (reads_by a) first_cell (answer.Changed 1))
          (access_equal 1)
          ∙ ap (changed_by 1 take_ten) (own_so take_ten (with_balance 1 100 ∷ []));
    }

pub changes_second : Walks by_default bank commits_conflict (begun_by 2 add_five) changes_heard (Some (LoadRecord (key 1)) ∷ [])
    (says 2 2 (change_by add_five) (answer.Changed 1) ∷ []) (changed_by 2 add_five (record { key = key 1; row = Some (with_balance 1 105) } ∷ []))
changes_second =
    record {
      asks_so = ap (λ (a : Access). Some (asks_read (reads_by a).left) ∷ []) (access_equal 1);
      tells_so = ap
          (λ (a : Access). says_read (begun_by 2 add_five) (change_by add_five) (opened_txn 2 [])
          (after_reply by_default (upto 0) (reads_by a) (reads_by a).left first_cell) (answer.Changed 1) ++ []) (access_equal 1);
      comes_to = ap
          (λ (a : Access). takes_read by_default bank (begun_by 2 add_five) (change_by add_five) (opened_txn 2 []) (reads_by a) first_cell (answer.Changed 1))
          (access_equal 1)
          ∙ ap (changed_by 2 add_five) (own_so add_five (with_balance 1 100 ∷ []));
    }

-- it commits
abbrev commit_heard : List (Heard × Answer)
commit_heard = stored 3 ∷ quiet first_cell ∷ stored 4 ∷ stored 5 ∷ commits_are 1 (upto 0) ∷ stored 6 ∷ ended ∷ []

abbrev commit_asked : List (Option Ask)
commit_asked =
    Some (StoreLog 0 (record { tid = 1; node = 1; flag = flag.Trying; writes = key 1 ∷ [] })) ∷ Some (LoadRecord (key 1))
    ∷ Some (StoreRecord (key 1) 2 (version 1 1 90 ∷ version 0 1 100 ∷ []))
    ∷ Some (StoreLog 3 (record { tid = 1; node = 1; flag = flag.Decided; writes = key 1 ∷ [] }))
    ∷ Some LoadCommits ∷ Some (StoreCommits 1 (upto 1)) ∷ Some (AskManager 0 (manager.End 1)) ∷ []

-- it tries to commit, and its first load meets the rival; no record is stored, so the log cell is marked undone at once
abbrev conflict_heard : List (Heard × Answer)
conflict_heard =
    stored 2 ∷ quiet (cell_is 4 (version 1 1 90 ∷ version 0 1 100 ∷ [])) ∷ stored 3 ∷ commits_are 6 (upto 1) ∷ stored 7 ∷ ended ∷ []

abbrev conflict_asked : List (Option Ask)
conflict_asked =
    Some (StoreLog 0 (record { tid = 2; node = 2; flag = flag.Trying; writes = key 1 ∷ [] })) ∷ Some (LoadRecord (key 1))
    ∷ Some (StoreLog 2 (record { tid = 2; node = 2; flag = flag.Undone; writes = key 1 ∷ [] }))
    ∷ Some LoadCommits ∷ Some (StoreCommits 6 (upto 2)) ∷ Some (AskManager 0 (manager.End 2)) ∷ []

-- a node that has answered all, in this row
abbrev pub end_by : ℕ → Answer → Node
end_by node last =
    record {
      number = node;
      todo = [];
      answers = answer.Begun ∷ answer.Changed 1 ∷ last ∷ [];
      floors = upto 0 ∷ [];
      asked_others = 0;
      doing = Outside;
    }

abbrev pub heard_conflict_first : List (Heard × Answer)
heard_conflict_first = first_begins 1 ++ (changes_heard ++ commit_heard)

abbrev pub asked_conflict_first : List (Option Ask)
asked_conflict_first = first_begins_asked ++ ((Some (LoadRecord (key 1)) ∷ []) ++ commit_asked)

abbrev pub told_conflict_first : List Entry
told_conflict_first =
    entry.Asked 1 ∷ entry.Began 1 1 1 ∷ says 1 1 bound.Begin answer.Begun ∷ says 1 2 (change_by take_ten) (answer.Changed 1)
    ∷ entry.Tried 1 ∷ entry.Committed 1 ∷ entry.Answered 1 3 answer.Committed ∷ []

pub walks_conflict_first : Walks by_default bank commits_conflict (start_by 1 take_ten) heard_conflict_first asked_conflict_first told_conflict_first (end_by 1 answer.Committed)
walks_conflict_first = and_then by_default bank commits_conflict begins_first (and_then by_default bank commits_conflict changes_first commits_walk)
  where
    commits_walk : Walks by_default bank commits_conflict (changed_by 1 take_ten (record { key = key 1; row = Some (with_balance 1 90) } ∷ [])) commit_heard commit_asked
        (entry.Tried 1 ∷ entry.Committed 1 ∷ entry.Answered 1 3 answer.Committed ∷ []) (end_by 1 answer.Committed)
    commits_walk = record { asks_so = refl; tells_so = refl; comes_to = refl }

abbrev pub heard_conflict_second : List (Heard × Answer)
heard_conflict_second = second_begins ++ (changes_heard ++ conflict_heard)

abbrev pub asked_conflict_second : List (Option Ask)
asked_conflict_second = second_begins_asked ++ ((Some (LoadRecord (key 1)) ∷ []) ++ conflict_asked)

abbrev pub told_conflict_second : List Entry
told_conflict_second =
    entry.Asked 2 ∷ entry.Began 2 2 1 ∷ says 2 1 bound.Begin answer.Begun ∷ says 2 2 (change_by add_five) (answer.Changed 1)
    ∷ entry.Tried 2 ∷ entry.Clash 2 1 0 ∷ entry.Undone 2 ∷ entry.Answered 2 3 (answer.Conflict 1) ∷ []

pub walks_conflict_second : Walks by_default bank commits_conflict (start_by 2 add_five) heard_conflict_second asked_conflict_second told_conflict_second (end_by 2 (answer.Conflict 1))
walks_conflict_second = and_then by_default bank commits_conflict begins_second (and_then by_default bank commits_conflict changes_second conflicts_walk)
  where
    conflicts_walk : Walks by_default bank commits_conflict (changed_by 2 add_five (record { key = key 1; row = Some (with_balance 1 105) } ∷ [])) conflict_heard conflict_asked
        (entry.Tried 2 ∷ entry.Clash 2 1 0 ∷ entry.Undone 2 ∷ entry.Answered 2 3 (answer.Conflict 1) ∷ []) (end_by 2 (answer.Conflict 1))
    conflicts_walk = record { asks_so = refl; tells_so = refl; comes_to = refl }

pub answers_conflict_first : (node_by by_default bank (start_by 1 take_ten) heard_conflict_first).answers ≡ answer.Begun ∷ answer.Changed 1 ∷ answer.Committed ∷ []
answers_conflict_first = ap (λ (n : Node). n.answers) walks_conflict_first.comes_to

pub answers_conflict_second : (node_by by_default bank (start_by 2 add_five) heard_conflict_second).answers ≡ answer.Begun ∷ answer.Changed 1 ∷ answer.Conflict 1 ∷ []
answers_conflict_second = ap (λ (n : Node). n.answers) walks_conflict_second.comes_to

-- where it wants memory at that load, it has met no rival: nothing is told, and it asks nothing more
abbrev storing_second : Node
storing_second =
    record (changed_by 2 add_five (record { key = key 1; row = Some (with_balance 1 105) } ∷ [])) {
      doing = stores_first (opened_txn 2 (record { key = key 1; row = Some (with_balance 1 105) } ∷ [])) 2;
    }

pub cut_at_rival : node_then by_default bank storing_second (cell_is 4 (version 1 1 90 ∷ version 0 1 100 ∷ [])) answer.Begun [] ≡ stopped storing_second
cut_at_rival = refl

-- ---- a recovery: node 1 sets all balances to 0 and vanishes after its second record store; node 2 recovers it

abbrev pub set_zero : Updating bank
set_zero = setting_all 0 refl

abbrev pub session_writer : Session
session_writer = record { node = 1; statements = change_by set_zero ∷ [] }

abbrev pub select_all : Bound
select_all = bound.Select all_query

abbrev pub session_recoverer : Session
session_recoverer = record { node = 2; statements = select_all ∷ bound.Recover 1 ∷ select_all ∷ [] }

-- the opening rows are committed, and then the transactions 2 and 3
abbrev pub commits_recovery : List Committed
commits_recovery = record { tid = 0; writes = [] } ∷ record { tid = 2; writes = [] } ∷ record { tid = 3; writes = [] } ∷ []

abbrev pub start_writer : Node
start_writer = opening_node by_default session_writer

abbrev pub start_recoverer : Node
start_recoverer = opening_node by_default session_recoverer

-- a Page of all records of the table at this shard
abbrev pub page_at : ℕ → Option Ask
page_at shard = Some (ReadPage shard (4 ∷ 0 ∷ 1 ∷ []) (4 ∷ 0 ∷ 4 ∷ []))

abbrev pub pages_asked : List (Option Ask)
pages_asked = page_at 0 ∷ page_at 1 ∷ page_at 2 ∷ page_at 3 ∷ []

-- that has these cells, and is the last one of the shard
abbrev pub page_is : List Found → Heard
page_is found = Page found false

abbrev pub found_at : ℕ → List Version → List Found
found_at id versions = record { key = key id; versions = versions } ∷ []

abbrev pub opening_version : ℕ → Version
opening_version id = version 0 id 100

-- the pages: the records 1, 2 and 3 stand at the shards 1, 2 and 3
abbrev writer_begins : List (Heard × Answer)
writer_begins =
    first_begins 1
    ++ (quiet (page_is []) ∷ quiet (page_is (found_at 1 (opening_version 1 ∷ []))) ∷ quiet (page_is (found_at 2 (opening_version 2 ∷ []))) ∷ [])

abbrev writer_begins_asked : List (Option Ask)
writer_begins_asked = first_begins_asked ++ (page_at 0 ∷ page_at 1 ∷ page_at 2 ∷ [])

abbrev pub all_hundred : List Row
all_hundred = with_balance 1 100 ∷ with_balance 2 100 ∷ with_balance 3 100 ∷ []

abbrev pub zero_writes : List Write
zero_writes =
    record { key = key 1; row = Some (with_balance 1 0) } ∷ record { key = key 2; row = Some (with_balance 2 0) }
    ∷ record { key = key 3; row = Some (with_balance 3 0) } ∷ []

abbrev pub reading_writer : Node
reading_writer = node_by by_default bank start_writer writer_begins

abbrev writing_txn : List Write → Txn
writing_txn own = record { tid = 1; snapshot = upto 0; own = own; stage = Answering (answer.Changed 3) }

abbrev pub writer_with : List Write → Node
writer_with own =
    record {
      number = 1;
      todo = change_by set_zero ∷ [];
      answers = [];
      floors = upto 0 ∷ [];
      asked_others = 0;
      doing = Inside (writing_txn own);
    }

abbrev pub last_page : Heard
last_page = page_is (found_at 3 (opening_version 3 ∷ []))

pub writer_changes : takes by_default bank reading_writer last_page (answer.Changed 3) ≡ writer_with zero_writes
writer_changes = ap writer_with (own_so set_zero all_hundred)

-- it tries to commit, up to the store of its second record
abbrev writer_stores : List (Heard × Answer)
writer_stores =
    stored 3 ∷ quiet (cell_is 2 (opening_version 1 ∷ [])) ∷ stored 4 ∷ quiet (cell_is 1 (opening_version 2 ∷ [])) ∷ stored 2 ∷ []

abbrev pub all_keys : List Key
all_keys = key 1 ∷ key 2 ∷ key 3 ∷ []

abbrev writer_stores_asked : List (Option Ask)
writer_stores_asked =
    Some (StoreLog 0 (record { tid = 1; node = 1; flag = flag.Trying; writes = all_keys }))
    ∷ Some (LoadRecord (key 1)) ∷ Some (StoreRecord (key 1) 2 (version 1 1 0 ∷ opening_version 1 ∷ []))
    ∷ Some (LoadRecord (key 2)) ∷ Some (StoreRecord (key 2) 1 (version 1 2 0 ∷ opening_version 2 ∷ [])) ∷ []

abbrev pub heard_writer : List (Heard × Answer)
heard_writer = writer_begins ++ (((last_page, answer.Changed 3) ∷ []) ++ writer_stores)

abbrev pub asked_writer : List (Option Ask)
asked_writer = writer_begins_asked ++ ((page_at 3 ∷ []) ++ writer_stores_asked)

abbrev pub told_writer : List Entry
told_writer = entry.Asked 1 ∷ entry.Began 1 1 1 ∷ waits 1 1 (change_by set_zero) (answer.Changed 3) ∷ entry.Tried 1 ∷ []

abbrev pub end_writer : Node
end_writer = node_by by_default bank (writer_with zero_writes) writer_stores

pub walks_recovery_writer : Walks by_default bank commits_recovery start_writer heard_writer asked_writer told_writer end_writer
walks_recovery_writer = and_then by_default bank commits_recovery begins_walk (and_then by_default bank commits_recovery changes_walk stores_walk)
  where
    begins_walk : Walks by_default bank commits_recovery start_writer writer_begins writer_begins_asked (entry.Asked 1 ∷ entry.Began 1 1 1 ∷ []) reading_writer
    begins_walk = record { asks_so = refl; tells_so = refl; comes_to = refl }

    changes_walk : Walks by_default bank commits_recovery reading_writer ((last_page, answer.Changed 3) ∷ []) (page_at 3 ∷ [])
        (waits 1 1 (change_by set_zero) (answer.Changed 3) ∷ []) (writer_with zero_writes)
    changes_walk = record { asks_so = refl; tells_so = refl; comes_to = writer_changes }

    stores_walk : Walks by_default bank commits_recovery (writer_with zero_writes) writer_stores writer_stores_asked (entry.Tried 1 ∷ []) end_writer
    stores_walk = record { asks_so = refl; tells_so = refl; comes_to = refl }

-- it has answered nothing, and its death notice names no node
pub answers_recovery_writer : (node_by by_default bank start_writer heard_writer).answers ≡ []
answers_recovery_writer = ap (λ (n : Node). n.answers) walks_recovery_writer.comes_to

pub notice_recovery_writer : owed_by (node_by by_default bank start_writer heard_writer).doing ≡ no_nodes
notice_recovery_writer = ap (λ (n : Node). owed_by n.doing) walks_recovery_writer.comes_to

abbrev pub hundreds : Answer
hundreds = answer.Rows all_hundred

-- the transaction 2 is finished, and 1 isn't
abbrev pub second_alone : TidSet
second_alone = record { base = 0; runs = record { low = 2; high = 2 } ∷ [] }

abbrev pub written_twice : ℕ → List Version
written_twice id = version 1 id 0 ∷ opening_version id ∷ []

-- SELECT * FROM account: it begins, reads the pages, and finishes
abbrev pub heard_before : List (Heard × Answer)
heard_before =
    commits_are 1 (upto 0) ∷ quiet (Told (told.Began 2 (upto 0) (upto 0)))
    ∷ quiet (page_is []) ∷ quiet (page_is (found_at 1 (written_twice 1))) ∷ quiet (page_is (found_at 2 (written_twice 2))) ∷ (last_page, hundreds)
    ∷ commits_are 1 (upto 0) ∷ stored 5 ∷ ended ∷ []

abbrev pub asked_before : List (Option Ask)
asked_before =
    Some LoadCommits ∷ Some (AskManager 0 (manager.Begin 2 (upto 0))) ∷ page_at 0 ∷ page_at 1 ∷ page_at 2 ∷ page_at 3
    ∷ Some LoadCommits ∷ Some (StoreCommits 1 second_alone) ∷ Some (AskManager 0 (manager.End 2)) ∷ []

-- RECOVER 1: the notice, the orphan, its log cell; the records, of which the third has no version of the transaction 1;
-- the log cell again; the commits cell; the end
abbrev pub heard_recovering : List (Heard × Answer)
heard_recovering =
    quiet (Told (told.Given no_nodes)) ∷ quiet (Told (told.Orphaned (1 ∷ [])))
    ∷ quiet (Log (Some (record { stamp = 3; entry = record { tid = 1; node = 1; flag = flag.Trying; writes = all_keys } })))
    ∷ quiet (cell_is 4 (written_twice 1)) ∷ stored 6 ∷ quiet (cell_is 2 (written_twice 2)) ∷ stored 3 ∷ quiet (cell_is 1 (opening_version 3 ∷ []))
    ∷ stored 7 ∷ commits_are 5 second_alone ∷ stored 8 ∷ ended ∷ []

abbrev pub asked_recovering : List (Option Ask)
asked_recovering =
    Some (AskManager 0 (manager.Claim 1)) ∷ Some (AskManager 0 (manager.Orphans 1)) ∷ Some (LoadLog 1)
    ∷ Some (LoadRecord (key 1)) ∷ Some (StoreRecord (key 1) 4 (opening_version 1 ∷ []))
    ∷ Some (LoadRecord (key 2)) ∷ Some (StoreRecord (key 2) 2 (opening_version 2 ∷ [])) ∷ Some (LoadRecord (key 3))
    ∷ Some (StoreLog 3 (record { tid = 1; node = 1; flag = flag.Undone; writes = all_keys }))
    ∷ Some LoadCommits ∷ Some (StoreCommits 5 (upto 2)) ∷ Some (AskManager 0 (manager.End 1)) ∷ []

-- SELECT * FROM account
abbrev pub heard_behind : List (Heard × Answer)
heard_behind =
    commits_are 8 (upto 2) ∷ quiet (Told (told.Began 3 (upto 2) (upto 2)))
    ∷ quiet (page_is []) ∷ quiet (page_is (found_at 1 (opening_version 1 ∷ []))) ∷ quiet (page_is (found_at 2 (opening_version 2 ∷ []))) ∷ (last_page, hundreds)
    ∷ commits_are 8 (upto 2) ∷ stored 9 ∷ ended ∷ []

abbrev pub asked_behind_it : List (Option Ask)
asked_behind_it =
    Some LoadCommits ∷ Some (AskManager 0 (manager.Begin 2 (upto 2))) ∷ page_at 0 ∷ page_at 1 ∷ page_at 2 ∷ page_at 3
    ∷ Some LoadCommits ∷ Some (StoreCommits 8 (upto 3)) ∷ Some (AskManager 0 (manager.End 3)) ∷ []

abbrev pub heard_recoverer : List (Heard × Answer)
heard_recoverer = heard_before ++ (heard_recovering ++ heard_behind)

abbrev pub asked_recoverer : List (Option Ask)
asked_recoverer = asked_before ++ (asked_recovering ++ asked_behind_it)

abbrev pub told_recoverer : List Entry
told_recoverer =
    entry.Asked 2 ∷ entry.Began 2 2 1 ∷ waits 2 1 select_all hundreds ∷ entry.Tried 2 ∷ entry.Committed 2 ∷ entry.Answered 2 1 hundreds
    ∷ entry.Undone 1 ∷ says 2 2 (bound.Recover 1) (answer.Recovered 1)
    ∷ entry.Asked 2 ∷ entry.Began 2 3 2 ∷ waits 2 3 select_all hundreds ∷ entry.Tried 3 ∷ entry.Committed 3 ∷ entry.Answered 2 3 hundreds ∷ []

abbrev pub end_recoverer : Node
end_recoverer =
    record {
      number = 2;
      todo = [];
      answers = hundreds ∷ answer.Recovered 1 ∷ hundreds ∷ [];
      floors = upto 2 ∷ [];
      asked_others = 0;
      doing = Outside;
    }

pub walks_recovery_recoverer : Walks by_default bank commits_recovery start_recoverer heard_recoverer asked_recoverer told_recoverer end_recoverer
walks_recovery_recoverer = record { asks_so = refl; tells_so = refl; comes_to = refl }

pub answers_recovery_recoverer : (node_by by_default bank start_recoverer heard_recoverer).answers ≡ hundreds ∷ answer.Recovered 1 ∷ hundreds ∷ []
answers_recovery_recoverer = refl
