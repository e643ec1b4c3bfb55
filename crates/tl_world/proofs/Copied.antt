-- Where a SELECT or a change is said, nothing else is told, and nobody is to be recovered.
use Rattle.std.proofs.Common.{◌≡◌, ℕ, Bool, true, false, List, [], ◌∷◌, ◌++◌, Option, Some, None, refl}
use Rattle.std.specs.Prelude.{◌||◌}
use Rattle.std.specs.List.{list_any}
use Rattle.tl_lemmas.proofs.Tests.{never_both}
use Rattle.tl_base.specs.NodeSet.{no_nodes}
use Rattle.tl_base.specs.declared.place.Settings.{Settings}
use Rattle.tl_schema.specs.declared.catalog.Catalog.{Catalog}
use Rattle.tl_values.specs.declared.value.Value.{Value}
use Rattle.tl_manager.specs.declared.request.ManagerReply.TheVariants as manager
use Rattle.tl_versions.specs.Versions.{stranger}
use Rattle.tl_write.specs.declared.write.Write.{Write}
use Rattle.tl_isolation.specs.declared.bound.Bound.{Bound}
use Rattle.tl_isolation.specs.declared.bound.Bound.TheVariants as bound
use Rattle.tl_isolation.specs.declared.entry.Answer.{Answer}
use Rattle.tl_isolation.specs.declared.entry.Entry.{Entry}
use Rattle.tl_isolation.specs.declared.entry.Entry.TheVariants as entry
use Rattle.tl_isolation.specs.declared.state.Commit.{Commit as Committed}
use Rattle.tl_protocol.specs.Store.{CommitsCell}
use Rattle.tl_protocol.specs.World.{Stage, Fresh, Opened, Answering, Txn, Loaded, Decision, Commit, Undo}
use Rattle.tl_journal.specs.Ask.{Heard, Commits, Record, Stored, Told}
use Rattle.tl_journal.specs.Asks.{Course, ToBegin, ToRead, ToIdle, ToCommit, ToGiveUp, course_in, course_outside}
use Rattle.tl_journal.specs.Bytes.{home_of}
use Rattle.tl_journal.specs.Memory.{has_said, unsaid}
use Rattle.tl_journal.specs.Node.{Storing, Claimed, Lost, Doing, Outside, Noted, Inside, Reading, Trying, Stores, Closing, Ending, Recovering, Finishing, EndingLost, Node, owed_by}
use Rattle.tl_journal.specs.Reads.{Read, Reads, all_reads, begin_reads, tables_read}
use Rattle.tl_journal.specs.Says.{says_at, says_closing, says_commit, says_doing, says_end_lost, says_ending, says_finishing, says_idle, says_inside, says_noted, says_outside, says_read, says_recovered, says_recovering, says_rival, says_statement, says_storing}
use Rattle.tl_journal.specs.Takes.{after_reply, goes_on, idles, learnt, said, takes, takes_doing, takes_inside, takes_read, with_doing}
use Rattle.tl_world.specs.Told.{takes_memory}

-- a statement is said that takes memory to copy
abbrev pub is_long : Entry → Bool
is_long (entry.Said node statement said) = takes_memory statement
is_long e = false

abbrev pub are_long : List Entry → Bool
are_long entries = list_any is_long entries

-- it alone is told, whatever is answered
pub record IsAlone (es : List Entry) (others : Answer → List Entry) : Type 0 where
  pub entry_is : Entry
  pub alone : es ≡ entry_is ∷ []
  pub nothing : (x : Answer) → unsaid (others x) ≡ []
  pub says : (x : Answer) → has_said (others x) ≡ true

-- ---- lists of entries

pub long_behind : (es : List Entry) (e : Entry) → is_long e ≡ true → are_long (es ++ e ∷ []) ≡ true
long_behind [] e f = rw f refl
long_behind (x ∷ es) e f = or_so (is_long x) (are_long (es ++ e ∷ [])) (long_behind es e f)
  where
    or_so : (a b : Bool) → b ≡ true → (a || b) ≡ true
    or_so true b f = refl
    or_so false b f = f

pub none_before : (es : List Entry) (e x : Entry) → es ++ e ∷ [] ≡ x ∷ [] → es ≡ []
none_before [] e x f = refl
none_before (y ∷ []) e x f = cc
none_before (y ∷ z ∷ es) e x f = cc

quiet : (es : List Entry) (others : Answer → List Entry) → are_long es ≡ false → are_long es ≡ true → IsAlone es others
quiet es others f g = absurd (never_both (are_long es) g f)

-- ---- where no such statement is said

closing_short : (t : Txn) (d : Decision) (c : Option CommitsCell) (h : Heard) → are_long (says_closing t d c h) ≡ false
closing_short t Commit (Some c) (Stored stamp) = refl
closing_short t (Undo rival) (Some c) (Stored stamp) = refl
closing_short t d c h = refl

commit_short : (t : Txn) (h : Heard) → are_long (says_commit t h) ≡ false
commit_short t (Commits c) = refl
commit_short t (Stored stamp) = refl
commit_short t h = refl

finishing_short : (o : Lost) (committed : Bool) (x : Option CommitsCell) (h : Heard) → are_long (says_finishing o committed x h) ≡ false
finishing_short o true (Some x) (Stored stamp) = refl
finishing_short o false (Some x) (Stored stamp) = refl
finishing_short o committed x h = refl

storing_short : (s : Storing) (l : Option Loaded) (left : List Write) (h : Heard) → are_long (says_storing s l left h) ≡ false
storing_short s None (o ∷ left) (Record cell) = by (stranger s.txn.snapshot cell.versions)
  where
    by : (rival : Option ℕ) → are_long (says_rival s rival) ≡ false
    by None = refl
    by (Some rival) = refl
storing_short s l left h = refl

module _ (settings : Settings) (catalog : Catalog) (commits : List Committed) (n : Node) where
  begin_short : (statement : Bound) (h : Heard) → are_long (says_outside n statement ToBegin h) ≡ false
  begin_short statement (Commits c) = refl
  begin_short statement h = refl

  outside_short : (statement : Bound) (h : Heard) → are_long (says_outside n statement (course_outside statement) h) ≡ false
  outside_short bound.Commit (Told (manager.FloorIs floor)) = refl
  outside_short bound.Commit h = refl
  outside_short bound.Rollback (Told (manager.FloorIs floor)) = refl
  outside_short bound.Rollback h = refl
  outside_short (bound.Recover gone) (Told manager.There) = refl
  outside_short (bound.Recover gone) h = refl
  outside_short bound.Begin h = begin_short bound.Begin h
  outside_short (bound.Select query) h = begin_short (bound.Select query) h
  outside_short (bound.Change edit) h = begin_short (bound.Change edit) h

  noted_short : (statement : Bound) (h : Heard) → are_long (says_noted commits n statement h) ≡ false
  noted_short bound.Begin (Told (manager.Began tid snapshot floor)) = refl
  noted_short statement (Told (manager.Began tid snapshot floor)) = refl
  noted_short statement h = refl

  ending_short : (so : Answer) (h : Heard) → are_long (says_ending n so h) ≡ false
  ending_short so (Told manager.Ended) = refl
  ending_short so h = refl

  recovered_short : (c : Claimed) (tids left : List ℕ) → are_long (says_recovered n c tids left) ≡ false
  recovered_short c [] [] = refl
  recovered_short c tids left = refl

  recovering_short : (c : Claimed) (left : List ℕ) (h : Heard) → are_long (says_recovering n c left h) ≡ false
  recovering_short c (d ∷ left) (Told (manager.Orphaned tids)) = recovered_short c tids left
  recovering_short c left h = refl

  end_lost_short : (c : Claimed) (o : Lost) (h : Heard) → are_long (says_end_lost n c o h) ≡ false
  end_lost_short c o (Told manager.Ended) = recovered_short c o.others c.left
  end_lost_short c o h = refl

  -- ---- where one is said it alone is told

  read_alone : (statement : Bound) (t : Txn) (told : Answer) (o : Option Reads) → are_long (says_read n statement t o told) ≡ true
      → IsAlone (says_read n statement t o told) (λ x. says_read n statement t o x)
  read_alone statement t told None f = absurd (never_both false f refl)
  read_alone statement t told (Some after) f = by after.left f
    where
      by : (left : List Read) → are_long (says_read n statement t (Some (record after { left = left })) told) ≡ true
          → IsAlone (says_read n statement t (Some (record after { left = left })) told) (λ x. says_read n statement t (Some (record after { left = left })) x)
      by [] f = record { entry_is = says_statement n statement t told; alone = refl; nothing = λ x. refl; says = λ x. refl }
      by (read ∷ left) f = absurd (never_both false f refl)

  idle_alone : (statement : Bound) (t : Txn) (told : Answer) (h : Heard) → are_long (says_idle n statement t h told) ≡ true
      → IsAlone (says_idle n statement t h told) (λ x. says_idle n statement t h x)
  idle_alone bound.Begin t told (Told (manager.FloorIs floor)) f = absurd (never_both false f refl)
  idle_alone (bound.Recover gone) t told (Told (manager.FloorIs floor)) f = absurd (never_both false f refl)
  idle_alone statement t told (Told (manager.FloorIs floor)) f =
      record { entry_is = says_statement n statement t told; alone = refl; nothing = λ x. refl; says = λ x. refl }
  idle_alone statement t told h f = absurd (never_both false f refl)

  inside_alone : (statement : Bound) (t : Txn) (course : Course) (told : Answer) (h : Heard) → are_long (says_inside settings n statement t course h told) ≡ true
      → IsAlone (says_inside settings n statement t course h told) (λ x. says_inside settings n statement t course h x)
  inside_alone statement t (ToRead reads) told h f = read_alone statement t told (after_reply settings t.snapshot reads reads.left h) f
  inside_alone statement t ToIdle told h f = idle_alone statement t told h f
  inside_alone statement t ToCommit told h f = quiet (says_commit t h) (λ x. says_commit t h) (commit_short t h) f
  inside_alone statement t course told h f = absurd (never_both false f refl)

  -- ---- whom it is to recover

  said_owes : (m : Node) (statement : Bound) (t : Txn) (stage : Stage) (rows : List (List (List Value))) (told : Answer)
      → owed_by (said catalog m statement (record t { stage = stage }) rows told).doing ≡ no_nodes
  said_owes m statement t Fresh rows told = refl
  said_owes m statement t Opened rows told = refl
  said_owes m statement t (Answering before) rows told = refl

  read_owes : (d : Doing) → owed_by d ≡ no_nodes → (statement : Bound) (t : Txn) (reads : Reads) (h : Heard) (told : Answer) (o : Option Reads)
      → after_reply settings t.snapshot reads reads.left h ≡ o → owed_by (takes_read settings catalog (with_doing n d) statement t reads h told).doing ≡ no_nodes
  read_owes d e statement t reads h told None f = rw f e
  read_owes d e statement t reads h told (Some after) f = rw f (by after.left)
    where
      by : (left : List Read) → owed_by (goes_on catalog (with_doing n d) statement t (record after { left = left }) told).doing ≡ no_nodes
      by [] = said_owes (with_doing n d) statement t t.stage (tables_read after) told
      by (read ∷ left) = refl

  idles_owes : (m : Node) (statement : Bound) (t : Txn) (reads : Reads) (told : Answer) → owed_by (idles catalog m statement t reads told).doing ≡ no_nodes
  idles_owes m bound.Begin t reads told = refl
  idles_owes m (bound.Recover gone) t reads told = refl
  idles_owes m bound.Commit t reads told = said_owes m bound.Commit t t.stage (tables_read reads) told
  idles_owes m bound.Rollback t reads told = said_owes m bound.Rollback t t.stage (tables_read reads) told
  idles_owes m (bound.Select query) t reads told = said_owes m (bound.Select query) t t.stage (tables_read reads) told
  idles_owes m (bound.Change edit) t reads told = said_owes m (bound.Change edit) t t.stage (tables_read reads) told

  inside_owes : (statement : Bound) (t : Txn) (course : Course) (h : Heard) (told : Answer)
      → owed_by (takes_inside settings catalog (with_doing n (Inside t)) statement t course h told).doing ≡ no_nodes
  inside_owes statement t (ToRead reads) h told = read_owes (Inside t) refl statement t reads h told (after_reply settings t.snapshot reads reads.left h) refl
  inside_owes statement t ToIdle (Told (manager.FloorIs floor)) told =
      idles_owes (learnt (with_doing n (Inside t)) (home_of settings n.number) floor) statement t (begin_reads (all_reads catalog statement)) told
  inside_owes statement t ToIdle h told = refl
  inside_owes statement t ToCommit (Commits c) told = refl
  inside_owes statement t ToCommit (Stored stamp) told = refl
  inside_owes statement t ToCommit (Told (manager.FloorIs floor)) told = refl
  inside_owes statement t ToCommit h told = refl
  inside_owes statement t ToGiveUp (Commits c) told = refl
  inside_owes statement t ToGiveUp h told = refl
  inside_owes statement t course h told = refl

  -- ---- whatever it does

  pub record AloneAs (statement : Bound) (d : Doing) (h : Heard) (told : Answer) : Type 0 where
    pub all : IsAlone (says_doing settings catalog commits n statement d h told) (λ x. says_doing settings catalog commits n statement d h x)
    pub owes : owed_by (takes_doing settings catalog (with_doing n d) statement d h told).doing ≡ no_nodes
    pub owed : owed_by d ≡ no_nodes

  none : (statement : Bound) (d : Doing) (h : Heard) (told : Answer) → are_long (says_doing settings catalog commits n statement d h told) ≡ true
      → are_long (says_doing settings catalog commits n statement d h told) ≡ false → AloneAs statement d h told
  none statement d h told f g = absurd (never_both (are_long (says_doing settings catalog commits n statement d h told)) f g)

  doing_alone : (statement : Bound) (d : Doing) (h : Heard) (told : Answer) → are_long (says_doing settings catalog commits n statement d h told) ≡ true
      → AloneAs statement d h told
  doing_alone statement Outside h told f = none statement Outside h told f (outside_short statement h)
  doing_alone statement (Noted seen) h told f = none statement (Noted seen) h told f (noted_short statement h)
  doing_alone statement (Inside t) h told f = record {
    all = inside_alone statement t (course_in catalog t.stage statement) told h f;
    owes = inside_owes statement t (course_in catalog t.stage statement) h told;
    owed = refl;
  }
  doing_alone statement (Reading t reads) h told f = record {
    all = read_alone statement t told (after_reply settings t.snapshot reads reads.left h) f;
    owes = read_owes (Reading t reads) refl statement t reads h told (after_reply settings t.snapshot reads reads.left h) refl;
    owed = refl;
  }
  doing_alone statement (Trying t) h told f = none statement (Trying t) h told f (commit_short t h)
  doing_alone statement (Stores s l) h told f = none statement (Stores s l) h told f (storing_short s l s.left h)
  doing_alone statement (Closing t d c) h told f = none statement (Closing t d c) h told f (closing_short t d c h)
  doing_alone statement (Ending tid so) h told f = none statement (Ending tid so) h told f (ending_short so h)
  doing_alone statement (Recovering c) h told f = none statement (Recovering c) h told f (recovering_short c c.left h)
  doing_alone statement (Finishing c o committed x) h told f = none statement (Finishing c o committed x) h told f (finishing_short o committed x h)
  doing_alone statement (EndingLost c o) h told f = none statement (EndingLost c o) h told f (end_lost_short c o h)
  doing_alone statement d h told f = absurd (never_both false f refl)

-- nothing but what is said is told, and nobody is to be recovered
pub record SaidAlone (settings : Settings) (catalog : Catalog) (commits : List Committed) (n : Node) (h : Heard) (told : Answer) : Type 0 where
  pub all : IsAlone (says_at settings catalog commits n h told) (λ x. says_at settings catalog commits n h x)
  pub owes : owed_by (takes settings catalog n h told).doing ≡ no_nodes
  pub owed : owed_by n.doing ≡ no_nodes

pub said_alone : (settings : Settings) (catalog : Catalog) (commits : List Committed) (n : Node) (h : Heard) (told : Answer)
    → are_long (says_at settings catalog commits n h told) ≡ true → SaidAlone settings catalog commits n h told
said_alone settings catalog commits n h told f = by n.todo f
  where
    by : (todo : List Bound) → are_long (says_at settings catalog commits (record n { todo = todo }) h told) ≡ true
        → SaidAlone settings catalog commits (record n { todo = todo }) h told
    by [] f = absurd (never_both false f refl)
    by (statement ∷ later) f =
        let c = doing_alone settings catalog commits (record n { todo = statement ∷ later }) statement n.doing h told f in
        record { all = c.all; owes = c.owes; owed = c.owed }
