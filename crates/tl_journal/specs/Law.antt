-- The law of journals: whatever the turns of the nodes' requests, whichever nodes vanish between any two and whoever recovers them.
use Rattle.std.specs.Prelude.{◌≡◌, ℕ, ◌<◌, ◌≤◌, ◌^◌, Bool, false, true, List, [], ◌∷◌, ◌++◌, length, drop, take, Option, Some, None}
use Rattle.std.specs.List.{AllByRecursion}
use Rattle.tl_base.specs.Along.{Along}
use Rattle.tl_base.specs.declared.node.NodeSet.{NodeSet}
use Rattle.tl_base.specs.declared.place.Settings.{Settings}
use Rattle.tl_values.specs.declared.value.Value.{Value}
use Rattle.tl_schema.specs.declared.catalog.Catalog.{Catalog}
use Rattle.tl_schema.specs.Record.{record_key}
use Rattle.tl_cells.specs.Place.{shard_of_key}
use Rattle.tl_cells.specs.Serves.{cell_at}
use Rattle.tl_descriptor.specs.Reading as sets
use Rattle.tl_descriptor.specs.Tids.{TidSet, has}
use Rattle.tl_logrec.specs.Reading.{read_entry}
use Rattle.tl_manager.specs.declared.active.Active.{Active}
use Rattle.tl_manager.specs.declared.request.ManagerReply.TheVariants as manager
use Rattle.tl_manager.specs.declared.request.Reply.TheVariants as reply
use Rattle.tl_manager.specs.Serves.{active_after, notice_after}
use Rattle.tl_manager.specs.Transactions.{tids_of}
use Rattle.tl_write.specs.declared.write.Write.{Write}
use Rattle.tl_write.specs.Tables.{is_in}
use Rattle.tl_isolation.specs.declared.script.Script.{Script}
use Rattle.tl_isolation.specs.declared.script.Session.{Session}
use Rattle.tl_isolation.specs.declared.state.Commit.{Commit}
use Rattle.tl_isolation.specs.History.{IsHistory, state_after}
use Rattle.tl_isolation.specs.Script.{IsAnswered, SpeaksAt, setup_of}
use Rattle.tl_isolation.specs.Tables.{table_of}
use Rattle.tl_protocol.specs.Next.{owed}
use Rattle.tl_protocol.specs.Stands.{HasOneMender, StandsFor}
use Rattle.tl_protocol.specs.Store.{Key, LogCell, same_key}
use Rattle.tl_protocol.specs.Told.{count_in}
use Rattle.tl_protocol.specs.World.{World}
use Rattle.tl_versions.specs.Reading.{read_cell}
use Rattle.tl_journal.specs.declared.event.Event.{Event}
use Rattle.tl_journal.specs.Ask.{Ask}
use Rattle.tl_journal.specs.Asks.{asks}
use Rattle.tl_journal.specs.Binding.{IsBound}
use Rattle.tl_journal.specs.Bytes.{commits_key, home_of, log_key}
use Rattle.tl_journal.specs.Journal.{entries_told, has_vanished, is_post, manager_log, node_after, session_of, shard_log}
use Rattle.tl_journal.specs.Node.{Doing, Inside, Reading, owed_by}
use Rattle.tl_journal.specs.Run.{IsTrace}
use Rattle.tl_journal.specs.Schedule.{is_over}
use Rattle.tl_journal.specs.Served.{AreNodes, is_record_key}
use Rattle.tl_journal.specs.Strange.{is_strange}

-- a trace of a script that the reader lets through; every journal is one (`IsJournal`)
pub record IsRun (script : Script) (settings : Settings) (events : List Event) : Type 0 where
  pub bound : IsBound script settings
  pub shards : 1 ≤ settings.shards
  pub few_shards : settings.shards ≤ 16
  pub managers : 1 ≤ settings.managers
  pub few_managers : settings.managers ≤ 4
  pub few : length events < 2 ^ 32
  pub trace : IsTrace script settings events

-- the entries that it tells are one history
abbrev pub OneHistory : Type 0
OneHistory = (script : Script) (settings : Settings) (events : List Event) → IsRun script settings events
    → IsHistory (setup_of script settings) (entries_told events)

-- which speaks the script: each answer is that of its node's next statement
abbrev pub SpeaksScript : Type 0
SpeaksScript = (script : Script) (settings : Settings) (events : List Event) → IsRun script settings events
    → Along (SpeaksAt script settings) [] (entries_told events)

-- the whole of it, where a node has nothing more to do: all its statements are answered, or it has vanished
abbrev pub SpeaksWhole : Type 0
SpeaksWhole = (script : Script) (settings : Settings) (events : List Event) → IsRun script settings events
    → (node : ℕ) (session : Session) → session_of script node ≡ Some session → is_over script events node ≡ true → IsAnswered (entries_told events) session

-- a log cell that was never stored has no bytes
abbrev pub IsLogCell : ℕ → List ℕ → Option LogCell → Type 0
IsLogCell tid bytes None = bytes ≡ []
IsLogCell tid bytes (Some log) = (read_entry bytes ≡ Some log.entry) × (log.entry.tid ≡ tid)

abbrev pub IsActive : Settings → (ℕ → Option Active) → ℕ → Active → Type 0
IsActive settings active m x = (active x.node ≡ Some x) × (home_of settings x.node ≡ m)

-- the number of what is active at a node, if there is something
abbrev pub tids_in : Option Active → List ℕ
tids_in None = []
tids_in (Some x) = x.tid ∷ []

-- the active transactions of a manager are those of its nodes, each once
pub record AreActive (settings : Settings) (active : ℕ → Option Active) (m : ℕ) (xs : List Active) : Type 0 where
  pub each : AllByRecursion (IsActive settings active m) xs
  pub tids : (n : ℕ) → home_of settings n ≡ m → tids_of n xs ≡ tids_in (active n)

-- there is no notice, or it names these nodes
abbrev pub IsNotice : Option (ℕ → Bool) → Option NodeSet → Type 0
IsNotice None None = Unit {0}
IsNotice None (Some set) = ⊥
IsNotice (Some nodes) None = ⊥
IsNotice (Some nodes) (Some set) = AreNodes nodes set

-- what stands under this key in its shard after these events
abbrev pub bytes_at : Script → Settings → List Event → Key → List ℕ
bytes_at script settings past key = (cell_at (shard_log settings (setup_of script settings) (shard_of_key key settings.shards) past) key).value

-- a key that is not that of a record, of the commits cell or of a log cell
pub record IsOther (key : Key) : Type 0 where
  pub no_record : is_record_key key ≡ false
  pub no_commits : same_key commits_key key ≡ false
  pub no_log : (tid : ℕ) → tid ≤ 2 ^ 62 → same_key (log_key tid) key ≡ false

-- the shards, the managers and the nodes hold after these events what this world has: of each record its versions, the set
-- of the finished transactions, the log cells, the active transactions with their snapshots, the death notices, and whom a
-- running node is to recover
pub record Holds (script : Script) (settings : Settings) (past : List Event) (w : World) : Type 0 where
  pub catalog : w.catalog ≡ script.catalog
  pub records : (key : Key) → is_record_key key ≡ true → read_cell (bytes_at script settings past key) ≡ Some (w.cells key).versions
  pub commits : sets.read_set (bytes_at script settings past commits_key) ≡ Some w.commits.finished
  pub logs : (tid : ℕ) → tid ≤ 2 ^ 62 → IsLogCell tid (bytes_at script settings past (log_key tid)) (w.logs tid)
  -- no cell stands under another key in its shard
  pub others : (key : Key) → IsOther key → bytes_at script settings past key ≡ []
  pub active : (m : ℕ) → m < settings.managers → AreActive settings w.active m (active_after (manager_log m past))
  pub notices : (n : ℕ) → IsNotice (w.notices n) (notice_after (manager_log (home_of settings n) past) n)
  pub vanished : (n : ℕ) → w.gone n ≡ has_vanished past n
  pub duties : (n : ℕ) (session : Session) → session_of script n ≡ Some session → has_vanished past n ≡ false
      → AreNodes (owed (w.recoveries n)) (owed_by (node_after settings script past session).doing)

-- after each event what the shards and the managers hold stands for the tables of the history so far
abbrev pub StoreStands : Type 0
StoreStands = (script : Script) (settings : Settings) (past rest : List Event) → IsRun script settings (past ++ rest)
    → (w : World) × Holds script settings past w × StandsFor w (state_after (setup_of script settings) (entries_told past)) (entries_told past)

-- each transaction that a vanished node left active has exactly one who mends it: a death notice that names the node, or a
-- running node that is to recover it
abbrev pub IsMended : Script → Settings → List Event → Type 0
IsMended script settings past =
    (w : World) × Holds script settings past w × ((d : ℕ) (x : Active) → w.gone d ≡ true → w.active d ≡ Some x → HasOneMender w d)

-- so it is after each event
abbrev pub EachIsMended : Type 0
EachIsMended = (script : Script) (settings : Settings) (past rest : List Event) → IsRun script settings (past ++ rest) → IsMended script settings past

-- of these commits the set has the first ones and no others
abbrev pub AreFirst : TidSet → List Commit → Type 0
AreFirst set commits =
    let n = count_in set commits in
    AllByRecursion (λ (c : Commit). has set c.tid ≡ true) (take n commits) × AllByRecursion (λ (c : Commit). has set c.tid ≡ false) (drop n commits)

-- of the commits so far the snapshot of a transaction that begins at this event has the first ones and no others
abbrev pub BeginsWithFirst : Script → Settings → List Event → Event → Type 0
BeginsWithFirst script settings past e =
    (tid : ℕ) (snapshot floor : TidSet) → e.reply ≡ reply.Manager (manager.Began tid snapshot floor)
    → AreFirst snapshot (state_after (setup_of script settings) (entries_told past)).commits

-- so has that of each
abbrev pub FirstCommits : Type 0
FirstCommits = (script : Script) (settings : Settings) (past : List Event) (e : Event) (rest : List Event) → IsRun script settings (past ++ e ∷ rest)
    → BeginsWithFirst script settings past e

-- the reply of this event isn't strange: it is one that a place may give for the request, each cell is a cell for its key, the
-- node that asked doesn't stop at it, whatever it answers, and it holds no transaction number where none can stand
abbrev pub IsNotStrange : Script → Settings → List Event → Event → Type 0
IsNotStrange script settings past e =
    is_post e.request ≡ false
    → (session : Session) → session_of script e.node ≡ Some session
    → (ask : Ask) → asks settings script.catalog (node_after settings script past session) ≡ Some ask
    → is_strange settings script.catalog (node_after settings script past session) ask e.reply ≡ false

-- no place replies anything strange, where fewer than 2^32 rows open the tables
abbrev pub NothingStrange : Type 0
NothingStrange = (script : Script) (settings : Settings) (past : List Event) (e : Event) (rest : List Event) → IsRun script settings (past ++ e ∷ rest)
    → length script.rows < 2 ^ 32 → IsNotStrange script settings past e

-- what a transaction that takes statements has written
abbrev pub own_in : Doing → List Write
own_in (Inside t) = t.own
own_in (Reading t reads) = t.own
own_in doing = []

-- a row that is written into a table stands under its own record key
abbrev pub StandsUnderKey : Catalog → Write → Type 0
StandsUnderKey catalog w =
    (number : ℕ) (row : List Value) → is_in number w.key ≡ true → w.row ≡ Some row → w.key ≡ record_key number (table_of catalog number) row

-- so does each row that a node's transaction, which takes statements still, has written so far
abbrev pub OwnRowsStandUnderKeys : Type 0
OwnRowsStandUnderKeys = (script : Script) (settings : Settings) (past rest : List Event) → IsRun script settings (past ++ rest)
    → (n : ℕ) (session : Session) → session_of script n ≡ Some session → has_vanished past n ≡ false
    → AllByRecursion (StandsUnderKey script.catalog) (own_in (node_after settings script past session).doing)
