-- The moves of the protocol: each is one request of one node with its reply, or what a node says at a reply. A move takes
-- the facts that make it possible, and there is no other way to change the state.
use Rattle.std.specs.Prelude.{◌≡◌, ◌<◌, ◌≤◌, ◌⊎◌, ℕ, ◌+◌, ◌^◌, ◌==◌, Bool, true, false, not, List, [], ◌∷◌, Option, Some, None, slice_get}
use Rattle.std.specs.List.{list_all, list_any}
use Rattle.tl_schema.specs.declared.catalog.Catalog.{Catalog}
use Rattle.tl_values.specs.declared.value.Value.{Value}
use Rattle.tl_descriptor.specs.Tids.{TidSet}
use Rattle.tl_manager.specs.declared.active.Active.{Active}
use Rattle.tl_manager.specs.Floor.{newer}
use Rattle.tl_manager.specs.State.{opening_copy}
use Rattle.tl_versions.specs.Versions.{stranger}
use Rattle.tl_algebra.specs.declared.edit.Edit.{Edit}
use Rattle.tl_algebra.specs.declared.query.Query.{Query}
use Rattle.tl_write.specs.declared.write.Write.{Write}
use Rattle.tl_write.specs.Own.{is_written}
use Rattle.tl_write.specs.Tables.{Tables, laid_over}
use Rattle.tl_isolation.specs.declared.bound.Bound.{Bound}
use Rattle.tl_isolation.specs.declared.bound.Bound.TheVariants as bound
use Rattle.tl_isolation.specs.declared.entry.Answer.{Answer}
use Rattle.tl_isolation.specs.declared.entry.Ending.{Ending}
use Rattle.tl_isolation.specs.Meaning.{SelectAnswers, change_of, told_of}
use Rattle.tl_isolation.specs.State.{is_refusal}
use Rattle.tl_isolation.specs.Step.{own_after}
use Rattle.tl_isolation.specs.Tables.{AreHome, Suits}
use Rattle.tl_protocol.specs.Store.{Key, LogCell, CommitsCell, row_shown, same_key, log_stamp}
use Rattle.tl_protocol.specs.World.{Ready, Stage, Fresh, Opened, Answering, Txn, Fact, Covers, Attempt, Loaded, Decision, Idle, Noted, Drawn, Live, Trying, Undoing, Closing, Ending as IsEnding, Duties, Orphan, NoDuty, Next, Reading, Stripping, Finishing, Closed, World, runs, At, Recovers, Agrees, Holds, IsFloor, IsLeast}

abbrev pub is_empty : {A : Type 0} → List A → Bool
is_empty [] = true
is_empty (x ∷ xs) = false

-- BEGIN or RECOVER, which a transaction that BEGIN opened refuses
abbrev pub is_nested : Bound → Bool
is_nested bound.Begin = true
is_nested (bound.Recover gone) = true
is_nested statement = false

-- COMMIT or ROLLBACK, which is refused outside a transaction
abbrev pub is_outside : Bound → Bool
is_outside bound.Commit = true
is_outside bound.Rollback = true
is_outside statement = false

abbrev pub takes_statements : Stage → Bool
takes_statements Fresh = true
takes_statements Opened = true
takes_statements (Answering told) = false

-- COMMIT may come, or the one statement wasn't refused
abbrev pub may_commit : Stage → Bool
may_commit Fresh = false
may_commit Opened = true
may_commit (Answering told) = not (is_refusal told)

-- ROLLBACK may come, or the one statement was refused
abbrev pub may_give_up : Stage → Bool
may_give_up Fresh = false
may_give_up Opened = true
may_give_up (Answering told) = is_refusal told

-- a set of finished transactions that the node may tell a manager
abbrev pub IsTold : World → ℕ → TidSet → Type 0
IsTold w n seen =
    (seen ≡ opening_copy) ⊎ ((t : Txn) × (facts : List Fact) × (w.phases n ≡ Live t facts) × (seen ≡ t.snapshot))

-- what a change does to these tables beside the own writes: its answer, and the own writes after it
pub record Changes (catalog : Catalog) (edit : Edit) (tables : Tables) (own : List Write) (told : Answer) (after : List Write) : Type 0 where
  pub answer : told_of (change_of catalog edit (laid_over tables own) own) ≡ Some told
  pub leaves : own_after (change_of catalog edit (laid_over tables own) own) own ≡ after

-- a version of the transaction stands in each record that it writes, or in none
abbrev pub all_stored : Attempt → Bool
all_stored a = list_all (λ (o : Write). a.stored o.key) a.txn.own

abbrev pub none_stored : Attempt → Bool
none_stored a = list_all (λ (o : Write). not (a.stored o.key)) a.txn.own

abbrev pub is_named : Key → List Key → Bool
is_named k keys = list_any (λ key. same_key key k) keys

-- each record that the log cell names is seen to
abbrev pub all_seen : LogCell → (Key → Bool) → Bool
all_seen cell seen = list_all seen cell.entry.writes

pub data Move (w : World) : Type 0 where
  -- Begin. The commits cell is loaded
  Ask : (n : ℕ) → At w n Idle → Move w
  -- the manager has no number left: 16 are drawn from the counter
  Draw : (n : ℕ) (seen : TidSet) → At w n (Noted seen) → w.counter + 16 ≤ 2 ^ 62 → Move w
  -- and brought to the manager
  Bring : (n : ℕ) (seen : TidSet) (low : ℕ) → At w n (Drawn seen low) → Move w
  -- the manager begins the transaction
  Begin : (n tid : ℕ) (seen floor : TidSet) → At w n (Noted seen) → w.numbers tid ≡ Ready (w.home n)
      → IsFloor w (w.home n) (newer (w.copies (w.home n)) seen) floor → Move w
  -- a manager tells its low-water mark
  Learn : (n manager : ℕ) (seen floor : TidSet) → runs w n ≡ true → IsTold w n seen
      → IsFloor w manager (newer (w.copies manager) seen) floor → Move w
  -- Statements. A record cell, or the record cells of a range, are loaded
  Look : (n : ℕ) (t : Txn) (facts : List Fact) (looked : Key → Bool) → At w n (Live t facts) → Move w
  -- it is known that each row of the snapshot that is covered stands at one of these keys
  Cover : (n : ℕ) (t : Txn) (facts : List Fact) (covers : Key → List Value → Bool) (looked : Key → Bool) → At w n (Live t facts)
      → Holds (λ k. row_shown t.snapshot (w.cells k).versions) (Covers covers looked) → Move w
  SayBegun : (n statement : ℕ) (t : Txn) (facts : List Fact) → At w n (Live t facts) → t.stage ≡ Fresh → Move w
  SayNested : (n statement : ℕ) (b : Bound) (t : Txn) (facts : List Fact) → At w n (Live t facts) → t.stage ≡ Opened
      → is_nested b ≡ true → Move w
  SayOutside : (n statement : ℕ) (b : Bound) → At w n Idle → is_outside b ≡ true → Move w
  -- a SELECT or a change is answered as all tables answer it that have the rows that were read
  SaySelect : (n statement : ℕ) (query : Query) (told : Answer) (t : Txn) (facts : List Fact) → At w n (Live t facts)
      → takes_statements t.stage ≡ true
      → ((tables : Tables) → AreHome w.catalog tables → Agrees tables facts → SelectAnswers query (laid_over tables t.own) told) → Move w
  SayChange : (n statement : ℕ) (edit : Edit) (told : Answer) (own : List Write) (t : Txn) (facts : List Fact) → At w n (Live t facts)
      → takes_statements t.stage ≡ true → Suits w.catalog edit
      → ((tables : Tables) → AreHome w.catalog tables → Agrees tables facts → Changes w.catalog edit tables t.own told own) → Move w
  -- Commit. The log cell is stored, with the keys of all own writes
  Try : (n stamp : ℕ) (t : Txn) (facts : List Fact) → At w n (Live t facts) → may_commit t.stage ≡ true
      → is_empty t.own ≡ false → log_stamp (w.logs t.tid) ≡ 0 → 0 < stamp → Move w
  -- where there are none the commits cell is loaded at once
  TryNothing : (n : ℕ) (t : Txn) (facts : List Fact) → At w n (Live t facts) → may_commit t.stage ≡ true
      → is_empty t.own ≡ true → Move w
  -- the cell of an own record is loaded, without a version outside the snapshot
  LoadOwn : (n : ℕ) (k : Key) (a : Attempt) → At w n (Trying a None) → is_written k a.txn.own ≡ true → a.stored k ≡ false
      → stranger a.txn.snapshot (w.cells k).versions ≡ None → Move w
  -- or with one
  Clash : (n at rival : ℕ) (o : Write) (a : Attempt) → At w n (Trying a None) → slice_get a.txn.own at ≡ Some o
      → a.stored o.key ≡ false → stranger a.txn.snapshot (w.cells o.key).versions ≡ Some rival → Move w
  -- the cell is stored with the new version in front, pruned by a low-water mark
  StoreOwn : (n stamp : ℕ) (floor : TidSet) (a : Attempt) (l : Loaded) → At w n (Trying a (Some l))
      → (w.cells l.key).stamp ≡ l.stamp → l.stamp < stamp → IsLeast w n floor → Move w
  MovedOwn : (n : ℕ) (a : Attempt) (l : Loaded) → At w n (Trying a (Some l)) → ((w.cells l.key).stamp == l.stamp) ≡ false → Move w
  -- the log cell says that it is committed
  Decide : (n stamp : ℕ) (a : Attempt) → At w n (Trying a None) → all_stored a ≡ true
      → log_stamp (w.logs a.txn.tid) ≡ a.log → a.log < stamp → Move w
  -- Undo. Its version is removed from the records in which it stands
  LoadUndo : (n : ℕ) (k : Key) (a : Attempt) (rival : Option ℕ) → At w n (Undoing a rival None) → a.stored k ≡ true → Move w
  StoreUndo : (n stamp : ℕ) (a : Attempt) (rival : Option ℕ) (l : Loaded) → At w n (Undoing a rival (Some l))
      → (w.cells l.key).stamp ≡ l.stamp → l.stamp < stamp → Move w
  MovedUndo : (n : ℕ) (a : Attempt) (rival : Option ℕ) (l : Loaded) → At w n (Undoing a rival (Some l))
      → ((w.cells l.key).stamp == l.stamp) ≡ false → Move w
  -- the log cell says that none is left
  MarkUndone : (n stamp : ℕ) (a : Attempt) (rival : Option ℕ) → At w n (Undoing a rival None) → none_stored a ≡ true
      → log_stamp (w.logs a.txn.tid) ≡ a.log → a.log < stamp → Move w
  -- ROLLBACK, or the end of a refused statement: the commits cell is loaded
  GiveUp : (n : ℕ) (t : Txn) (facts : List Fact) → At w n (Live t facts) → may_give_up t.stage ≡ true → Move w
  -- Finish. The commits cell is loaded, and stored with the transaction in it
  LoadCommits : (n : ℕ) (t : Txn) (d : Decision) → At w n (Closing t d None) → Move w
  StoreCommits : (n stamp : ℕ) (t : Txn) (d : Decision) (c : CommitsCell) → At w n (Closing t d (Some c))
      → w.commits.stamp ≡ c.stamp → c.stamp < stamp → Move w
  MovedCommits : (n : ℕ) (t : Txn) (d : Decision) (c : CommitsCell) → At w n (Closing t d (Some c))
      → (w.commits.stamp == c.stamp) ≡ false → Move w
  -- the manager ends it, and its answer is given
  End : (n statement tid : ℕ) (told : Answer) → At w n (IsEnding tid told) → Move w
  -- the node vanishes, and its death notice is posted
  Vanish : (n : ℕ) (ending : Ending) → runs w n ≡ true → Move w
  -- RECOVER. There is no death notice
  There : (n statement gone : ℕ) → At w n Idle → w.recoveries n ≡ NoDuty → w.notices gone ≡ None → Move w
  -- the death notice is taken
  Claim : (n gone : ℕ) (also : ℕ → Bool) → At w n Idle → w.recoveries n ≡ NoDuty → w.notices gone ≡ Some also → Move w
  -- the manager of a duty tells its transaction
  FindOrphan : (n : ℕ) (duties : Duties) (x : Active) (d : ℕ) → Recovers w n (Next duties) → duties.left d ≡ true
      → w.active d ≡ Some x → Move w
  FindNone : (n : ℕ) (duties : Duties) (d : ℕ) → Recovers w n (Next duties) → duties.left d ≡ true → w.active d ≡ None → Move w
  -- its log cell is loaded
  ReadLog : (n : ℕ) (duties : Duties) (o : Orphan) → Recovers w n (Reading duties o) → Move w
  -- its version is removed from each record that the log cell names
  LoadLost : (n : ℕ) (k : Key) (duties : Duties) (o : Orphan) (log : LogCell) (seen : Key → Bool)
      → Recovers w n (Stripping duties o log seen None) → is_named k log.entry.writes ≡ true → seen k ≡ false → Move w
  StoreLost : (n stamp : ℕ) (duties : Duties) (o : Orphan) (log : LogCell) (seen : Key → Bool) (l : Loaded)
      → Recovers w n (Stripping duties o log seen (Some l)) → (w.cells l.key).stamp ≡ l.stamp → l.stamp < stamp → Move w
  MovedLost : (n : ℕ) (duties : Duties) (o : Orphan) (log : LogCell) (seen : Key → Bool) (l : Loaded)
      → Recovers w n (Stripping duties o log seen (Some l)) → ((w.cells l.key).stamp == l.stamp) ≡ false → Move w
  -- the log cell says that none is left
  MarkLost : (n stamp : ℕ) (duties : Duties) (o : Orphan) (log : LogCell) (seen : Key → Bool)
      → Recovers w n (Stripping duties o log seen None) → all_seen log seen ≡ true
      → log_stamp (w.logs o.tid) ≡ log.stamp → log.stamp < stamp → Move w
  -- the commits cell is loaded, and stored with the transaction in it, unless it is there
  LoadFinish : (n : ℕ) (duties : Duties) (o : Orphan) (committed : Bool) → Recovers w n (Finishing duties o committed None) → Move w
  StoreFinish : (n stamp : ℕ) (duties : Duties) (o : Orphan) (committed : Bool) (c : CommitsCell)
      → Recovers w n (Finishing duties o committed (Some c)) → w.commits.stamp ≡ c.stamp → c.stamp < stamp → Move w
  MovedFinish : (n : ℕ) (duties : Duties) (o : Orphan) (committed : Bool) (c : CommitsCell)
      → Recovers w n (Finishing duties o committed (Some c)) → (w.commits.stamp == c.stamp) ≡ false → Move w
  -- its manager ends it
  EndLost : (n : ℕ) (duties : Duties) (o : Orphan) → Recovers w n (Closed duties o) → Move w
  -- no duty is left
  SayRecovered : (n statement : ℕ) (duties : Duties) → At w n Idle → w.recoveries n ≡ Next duties
      → ((d : ℕ) → duties.left d ≡ false) → Move w
