-- A node and the node as its code sees it hear, do, tell and ask the same.
use Rattle.std.proofs.Common.{◌≡◌, ℕ, Bool, true, false, List, [], ◌∷◌, Option, Some, None, refl, sym, ap, ◌∙◌}
use Rattle.std.specs.Prelude.{nat_le, if◌then◌else◌}
use Rattle.tl_base.specs.NodeSet.{no_nodes}
use Rattle.tl_base.specs.declared.place.Settings.{Settings}
use Rattle.tl_base.specs.declared.store.StoreReply.TheVariants as stored
use Rattle.tl_schema.specs.declared.catalog.Catalog.{Catalog}
use Rattle.tl_descriptor.specs.Tids.{TidSet}
use Rattle.tl_logrec.specs.declared.entry.LogEntry.{LogEntry}
use Rattle.tl_manager.specs.declared.request.Reply.{Reply}
use Rattle.tl_manager.specs.declared.request.Reply.TheVariants as reply
use Rattle.tl_values.specs.declared.value.Value.{Value}
use Rattle.tl_versions.specs.declared.version.Version.{Version}
use Rattle.tl_write.specs.declared.write.Write.{Write}
use Rattle.tl_isolation.specs.declared.bound.Bound.{Bound}
use Rattle.tl_isolation.specs.declared.entry.Answer.{Answer}
use Rattle.tl_manager.specs.State.{opening_copy}
use Rattle.tl_protocol.specs.Move.{is_empty}
use Rattle.tl_protocol.specs.Next.{end_answer}
use Rattle.tl_protocol.specs.Store.{Key, CommitsCell, LogCell}
use Rattle.tl_protocol.specs.World.{Stage, Fresh, Opened, Answering, Txn, Loaded, Decision}
use Rattle.tl_journal.specs.Ask.{Ask, LoadCommits, StoreCommits, LoadLog, StoreLog, LoadRecord, StoreRecord, ReadPage, DrawNumbers, AskManager, Heard, Commits, Stored, Moved}
use Rattle.tl_journal.specs.Asks.{Course, ToRead, ToCommit, asks, asks_finish, asks_removing, asks_storing, asks_stripping}
use Rattle.tl_journal.specs.Bytes.{heard}
use Rattle.tl_ask.specs.Given.{shown_heard}
use Rattle.tl_journal.specs.Node.{Storing, Removing, Claimed, Lost, Doing, Inside, Reading, Trying, Stores, Removes, Closing, Ending, Stripping, Finishing, Stopped, Node, owed_by}
use Rattle.tl_journal.specs.Reads.{Read, Reads, tables_read}
use Rattle.tl_journal.specs.Strange.{is_stopped}
use Rattle.tl_journal.specs.Takes.{after_reply, goes_on, said, takes_closing, takes_commit, takes_finishing, takes_read, takes_removing, takes_storing, takes_stripping, takes_trying, with_doing}
use Rattle.tl_ask.specs.Thin.{bare, thin_commits, thin_loaded}
use Rattle.tl_node.specs.Seen.{seen, settled_by}

-- two nodes that are the same as code sees them
pub record AreAlike (settings : Settings) (catalog : Catalog) (x y : Node) : Type 0 where
  pub seen_is : seen settings catalog x ≡ seen settings catalog y
  pub asks_is : asks settings catalog x ≡ asks settings catalog y
  pub owed_is : owed_by x.doing ≡ owed_by y.doing
  pub stopped_is : is_stopped x.doing ≡ is_stopped y.doing

pub same_alike : (settings : Settings) (catalog : Catalog) (x y : Node) → x ≡ y → AreAlike settings catalog x y
same_alike settings catalog x y e = record {
  seen_is = ap (seen settings catalog) e;
  asks_is = ap (asks settings catalog) e;
  owed_is = ap (λ (n : Node). owed_by n.doing) e;
  stopped_is = ap (λ (n : Node). is_stopped n.doing) e;
}

-- ---- requests that lack dead data are of the same kind

store_alike : (k j : Key) (stamp other : ℕ) (vs us : List Version) (p : Reply) → heard (StoreRecord k stamp vs) p ≡ heard (StoreRecord j other us) p
store_alike k j stamp other vs us (reply.Store p) = refl
store_alike k j stamp other vs us (reply.Manager p) = refl

commits_alike : (stamp other : ℕ) (x y : TidSet) (p : Reply) → heard (StoreCommits stamp x) p ≡ heard (StoreCommits other y) p
commits_alike stamp other x y (reply.Store p) = refl
commits_alike stamp other x y (reply.Manager p) = refl

-- ---- what a node does doesn't lie in what it did

said_any : (catalog : Catalog) (n : Node) (x y : Doing) (statement : Bound) (t : Txn) (stage : Stage) (rows : List (List (List Value))) (told : Answer)
    → said catalog (with_doing n x) statement (record t { stage = stage }) rows told ≡ said catalog (with_doing n y) statement (record t { stage = stage }) rows told
said_any catalog n x y statement t Fresh rows told = refl
said_any catalog n x y statement t Opened rows told = refl
said_any catalog n x y statement t (Answering before) rows told = refl

goes_any : (catalog : Catalog) (n : Node) (x y : Doing) (statement : Bound) (t : Txn) (reads : Reads) (left : List Read) (told : Answer)
    → goes_on catalog (with_doing n x) statement t (record reads { left = left }) told ≡ goes_on catalog (with_doing n y) statement t (record reads { left = left }) told
goes_any catalog n x y statement t reads [] told = said_any catalog n x y statement t t.stage (tables_read reads) told
goes_any catalog n x y statement t reads (read ∷ left) told = refl

-- ---- requests by their kinds

abbrev pub kind : Ask → Ask
kind LoadCommits = LoadCommits
kind (StoreCommits stamp set) = StoreCommits 0 opening_copy
kind (LoadLog tid) = LoadLog tid
kind (StoreLog stamp log) = StoreLog stamp log
kind (LoadRecord key) = LoadRecord key
kind (StoreRecord key stamp versions) = StoreRecord [] 0 []
kind (ReadPage shard from before) = ReadPage shard from before
kind DrawNumbers = DrawNumbers
kind (AskManager manager asked) = AskManager manager asked

pub kind_heard : (catalog : Catalog) (ask : Ask) (p : Reply) → shown_heard catalog (kind ask) p ≡ shown_heard catalog ask p
kind_heard catalog LoadCommits p = refl
kind_heard catalog (StoreCommits stamp set) p = commits_alike 0 stamp opening_copy set p
kind_heard catalog (LoadLog tid) p = refl
kind_heard catalog (StoreLog stamp log) p = refl
kind_heard catalog (LoadRecord key) p = refl
kind_heard catalog (StoreRecord key stamp versions) p = store_alike [] key 0 stamp [] versions p
kind_heard catalog (ReadPage shard from before) p = refl
kind_heard catalog DrawNumbers p = refl
kind_heard catalog (AskManager manager asked) p = refl

pub same_kind : (catalog : Catalog) (ask other : Ask) (p : Reply) → kind ask ≡ kind other → shown_heard catalog ask p ≡ shown_heard catalog other p
same_kind catalog ask other p e = sym (kind_heard catalog ask p) ∙ ap (λ (a : Ask). shown_heard catalog a p) e ∙ kind_heard catalog other p

pub storing_kind : (m : Node) (s : Storing) (l : Option Loaded) → kind (asks_storing m s (thin_loaded l)) ≡ kind (asks_storing m s l)
storing_kind m s None = refl
storing_kind m s (Some l) = refl

pub removing_kind : (m : Node) (r : Removing) (l : Option Loaded) → kind (asks_removing m r (thin_loaded l)) ≡ kind (asks_removing m r l)
removing_kind m r None = refl
removing_kind m r (Some l) = refl

pub finish_kind : (tid : ℕ) (c : Option CommitsCell) → kind (asks_finish tid (thin_commits c)) ≡ kind (asks_finish tid c)
finish_kind tid None = refl
finish_kind tid (Some c) = refl

pub stripping_kind : (o : Lost) (log : LogCell) (keys : List Key) (l : Option Loaded)
    → kind (asks_stripping o log keys (thin_loaded l)) ≡ kind (asks_stripping o log keys l)
stripping_kind o log [] None = refl
stripping_kind o log (key ∷ keys) None = refl
stripping_kind o log keys (Some l) = refl

-- ---- what a transaction that takes statements is seen as

pub settled_elim : (P : Doing → Type 0) (settings : Settings) (t : Txn) (course : Course) → P (Inside t)
    → ((reads : Reads) → course ≡ ToRead reads → P (Reading t reads))
    → (course ≡ ToCommit → is_empty t.own ≡ false → nat_le settings.managers 1 ≡ true → P (Trying t))
    → P (settled_by settings t course)
settled_elim P settings t (ToRead reads) inside reading trying = reading reads refl
settled_elim P settings t ToCommit inside reading trying = by (is_empty t.own) (nat_le settings.managers 1) refl refl
  where
    by : (empty one : Bool) → is_empty t.own ≡ empty → nat_le settings.managers 1 ≡ one
        → P (if empty then Inside t else (if one then Trying t else Inside t))
    by true one e f = inside
    by false true e f = trying refl e f
    by false false e f = inside
settled_elim P settings t course inside reading trying = inside

-- ---- what the node does with the reply

pub stores_same : (n : Node) (s : Storing) (l : Option Loaded) (left : List Write) (h : Heard)
    → takes_storing (with_doing n (Stores s (thin_loaded l))) s (thin_loaded l) left h ≡ takes_storing (with_doing n (Stores s l)) s l left h
stores_same n s None left h = refl
stores_same n s (Some l) (o ∷ left) (Stored stamp) = refl
stores_same n s (Some l) left Moved = refl
stores_same n s (Some l) left h = refl

pub removes_same : (n : Node) (r : Removing) (l : Option Loaded) (left : List Write) (h : Heard)
    → takes_removing (with_doing n (Removes r (thin_loaded l))) r (thin_loaded l) left h ≡ takes_removing (with_doing n (Removes r l)) r l left h
removes_same n r None left h = refl
removes_same n r (Some l) (o ∷ left) (Stored stamp) = refl
removes_same n r (Some l) left Moved = refl
removes_same n r (Some l) left h = refl

pub strips_same : (n : Node) (c : Claimed) (o : Lost) (log : LogCell) (keys : List Key) (l : Option Loaded) (h : Heard)
    → takes_stripping (with_doing n (Stripping c o log keys (thin_loaded l))) c o log keys (thin_loaded l) h
    ≡ takes_stripping (with_doing n (Stripping c o log keys l)) c o log keys l h
strips_same n c o log keys None h = refl
strips_same n c o log (key ∷ keys) (Some l) (Stored stamp) = refl
strips_same n c o log keys (Some l) Moved = refl
strips_same n c o log keys (Some l) h = refl

pub finishes_same : (n : Node) (c : Claimed) (o : Lost) (committed : Bool) (x : Option CommitsCell) (h : Heard)
    → takes_finishing (with_doing n (Finishing c o committed (thin_commits x))) c o committed (thin_commits x) h
    ≡ takes_finishing (with_doing n (Finishing c o committed x)) c o committed x h
finishes_same n c o committed None h = refl
finishes_same n c o committed (Some x) (Stored stamp) = refl
finishes_same n c o committed (Some x) Moved = refl
finishes_same n c o committed (Some x) h = refl

-- the log cell is stored
pub tries_same : (settings : Settings) (n : Node) (t : Txn) (log : LogEntry) (p : Reply)
    → takes_trying (with_doing n (Trying t)) t (heard (StoreLog 0 log) p) ≡ takes_commit settings (with_doing n (Inside t)) t (heard (StoreLog 0 log) p)
tries_same settings n t log (reply.Store (stored.Stored stamp)) = refl
tries_same settings n t log (reply.Store p) = refl
tries_same settings n t log (reply.Manager p) = refl

module _ (settings : Settings) (catalog : Catalog) (n : Node) where
  closed_alike : (todo : List Bound) (t : Txn) (d : Decision) (c : Option CommitsCell)
      → AreAlike settings catalog (record n { todo = todo; doing = Closing (bare t) d c }) (record n { todo = todo; doing = Closing t d c })
  closed_alike [] t d c = record { seen_is = refl; asks_is = refl; owed_is = refl; stopped_is = refl }
  closed_alike (statement ∷ later) t d c = record { seen_is = refl; asks_is = refl; owed_is = refl; stopped_is = refl }

  pub closes_alike : (t : Txn) (d : Decision) (c : Option CommitsCell) (h : Heard)
      → AreAlike settings catalog (takes_closing (with_doing n (Closing (bare t) d (thin_commits c))) (bare t) d (thin_commits c) h) (takes_closing (with_doing n (Closing t d c)) t d c h)
  closes_alike t d None (Commits c) = closed_alike n.todo t d (Some c)
  closes_alike t d (Some c) (Stored stamp) = same_alike settings catalog (with_doing n (Ending t.tid (end_answer t.stage d))) (with_doing n (Ending t.tid (end_answer t.stage d))) refl
  closes_alike t d (Some c) Moved = closed_alike n.todo t d None
  closes_alike t d c h = same_alike settings catalog (with_doing n (Stopped no_nodes)) (with_doing n (Stopped no_nodes)) refl

  read_so : (x y : Doing) (statement : Bound) (t : Txn) (reads other : Reads) (h : Heard) (told : Answer) (o : Option Reads) → owed_by x ≡ owed_by y
      → after_reply settings t.snapshot reads reads.left h ≡ o → after_reply settings t.snapshot other other.left h ≡ o
      → takes_read settings catalog (with_doing n x) statement t reads h told ≡ takes_read settings catalog (with_doing n y) statement t other h told
  read_so x y statement t reads other h told None e f g = rw (f, g) (ap (λ nodes. with_doing n (Stopped nodes)) e)
  read_so x y statement t reads other h told (Some after) e f g = rw (f, g) (goes_any catalog n x y statement t after after.left told)

  pub reads_same : (x y : Doing) (statement : Bound) (t : Txn) (reads : Reads) (h : Heard) (told : Answer) → owed_by x ≡ owed_by y
      → takes_read settings catalog (with_doing n x) statement t reads h told ≡ takes_read settings catalog (with_doing n y) statement t reads h told
  reads_same x y statement t reads h told e =
      read_so x y statement t reads reads h told (after_reply settings t.snapshot reads reads.left h) e refl refl
