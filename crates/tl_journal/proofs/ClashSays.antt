-- At which reply a node tells a clash.
use Rattle.std.proofs.Common.{◌≡◌, ℕ, Bool, true, false, List, [], ◌∷◌, length, Option, Some, None, refl}
use Rattle.std.specs.List.{AllByRecursion}
use Rattle.tl_base.specs.declared.place.Settings.{Settings}
use Rattle.tl_schema.specs.declared.catalog.Catalog.{Catalog}
use Rattle.tl_manager.specs.declared.request.ManagerReply.TheVariants as reply
use Rattle.tl_versions.specs.Versions.{stranger}
use Rattle.tl_write.specs.declared.write.Write.{Write}
use Rattle.tl_isolation.specs.declared.bound.Bound.{Bound}
use Rattle.tl_isolation.specs.declared.bound.Bound.TheVariants as bound
use Rattle.tl_isolation.specs.declared.entry.Answer.{Answer}
use Rattle.tl_isolation.specs.declared.entry.Entry.{Entry}
use Rattle.tl_isolation.specs.declared.entry.Entry.TheVariants as entry
use Rattle.tl_isolation.specs.declared.state.Commit.{Commit as Committed}
use Rattle.tl_protocol.specs.Store.{Cell, CommitsCell}
use Rattle.tl_protocol.specs.World.{Txn, Loaded, Decision, Commit, Undo}
use Rattle.tl_protocol.specs.Told.{finished_as, finished_so}
use Rattle.tl_journal.specs.Ask.{Heard, Commits, Record, Stored, Told}
use Rattle.tl_journal.specs.Asks.{Course, ToBegin, ToRead, ToIdle, ToCommit, ToRecover, course_in, course_outside}
use Rattle.tl_journal.specs.Memory.{unsaid}
use Rattle.tl_journal.specs.Node.{Storing, Claimed, Lost, Doing, Outside, Noted, Inside, Reading, Trying, Stores, Closing, Ending, Recovering, Finishing, EndingLost, Node}
use Rattle.tl_journal.specs.Reads.{Read, Reads}
use Rattle.tl_journal.specs.Says.{says_at, says_begun, says_closing, says_commit, says_doing, says_end_lost, says_ending, says_finishing, says_idle, says_inside, says_noted, says_outside, says_read, says_recovered, says_recovering, says_rival, says_statement, says_storing}
use Rattle.tl_journal.specs.Takes.{after_reply}

-- the node stores its writes, and has loaded the cell of the next one: it has a version outside the snapshot
pub record Meets (doing : Doing) (heard : Heard) (tid rival place : ℕ) : Type 0 where
  pub s : Storing
  pub own : Write
  pub later : List Write
  pub cell : Cell
  pub doing_is : doing ≡ Stores s None
  pub left_is : s.left ≡ own ∷ later
  pub heard_is : heard ≡ Record cell
  pub rival_is : stranger s.txn.snapshot cell.versions ≡ Some rival
  pub tid_is : s.txn.tid ≡ tid
  pub place_is : length s.stored ≡ place

module _ (F : ℕ → ℕ → ℕ → Type 0) where
  abbrev pub ClashTells : Entry → Type 0
  ClashTells (entry.Clash tid rival place) = F tid rival place
  ClashTells e = Unit {0}

  abbrev pub AllTell : List Entry → Type 0
  AllTell es = AllByRecursion ClashTells es

  pub unsaid_tell : (es : List Entry) → AllTell (unsaid es)
  unsaid_tell [] = tt
  unsaid_tell (entry.Said n b said ∷ es) = unsaid_tell es
  unsaid_tell (entry.Clash tid rival at ∷ es) = unsaid_tell es
  unsaid_tell (e ∷ es) = (tt, unsaid_tell es)

  module _ (settings : Settings) (node : Node) where
    begun_tells : (statement : Bound) → AllTell (says_begun node statement)
    begun_tells bound.Begin = (tt, tt)
    begun_tells statement = tt

    outside_tells : (statement : Bound) (course : Course) (heard : Heard) → AllTell (says_outside node statement course heard)
    outside_tells statement ToBegin (Commits c) = (tt, tt)
    outside_tells statement ToIdle (Told (reply.FloorIs floor)) = (tt, tt)
    outside_tells statement (ToRecover gone) (Told reply.There) = (tt, tt)
    outside_tells statement course heard = tt

    noted_tells : (commits : List Committed) (statement : Bound) (heard : Heard) → AllTell (says_noted commits node statement heard)
    noted_tells commits statement (Told (reply.Began tid snapshot floor)) = (tt, begun_tells statement)
    noted_tells commits statement heard = tt

    read_tells : (statement : Bound) (t : Txn) (o : Option Reads) (told : Answer) → AllTell (says_read node statement t o told)
    read_tells statement t None told = tt
    read_tells statement t (Some after) told = by after.left
      where
        by : (left : List Read) → AllTell (says_read node statement t (Some (record after { left = left })) told)
        by [] = (tt, tt)
        by (read ∷ left) = tt

    idle_tells : (statement : Bound) (t : Txn) (heard : Heard) (told : Answer) → AllTell (says_idle node statement t heard told)
    idle_tells bound.Begin t (Told (reply.FloorIs floor)) told = (tt, tt)
    idle_tells (bound.Recover gone) t (Told (reply.FloorIs floor)) told = (tt, tt)
    idle_tells statement t (Told (reply.FloorIs floor)) told = (tt, tt)
    idle_tells statement t heard told = tt

    commit_tells : (t : Txn) (heard : Heard) → AllTell (says_commit t heard)
    commit_tells t (Commits c) = (tt, tt)
    commit_tells t (Stored stamp) = (tt, tt)
    commit_tells t heard = tt

    inside_tells : (statement : Bound) (t : Txn) (course : Course) (heard : Heard) (told : Answer) → AllTell (says_inside settings node statement t course heard told)
    inside_tells statement t (ToRead reads) heard told = read_tells statement t (after_reply settings t.snapshot reads reads.left heard) told
    inside_tells statement t ToIdle heard told = idle_tells statement t heard told
    inside_tells statement t ToCommit heard told = commit_tells t heard
    inside_tells statement t course heard told = tt

    storing_tells : (s : Storing) (l : Option Loaded) (left : List Write) (heard : Heard)
        → ((own : Write) (later : List Write) (cell : Cell) (rival : ℕ) → l ≡ None → left ≡ own ∷ later → heard ≡ Record cell → stranger s.txn.snapshot cell.versions ≡ Some rival
        → F s.txn.tid rival (length s.stored)) → AllTell (says_storing s l left heard)
    storing_tells s None (o ∷ left) (Record cell) met = by (stranger s.txn.snapshot cell.versions) refl
      where
        by : (rival : Option ℕ) → stranger s.txn.snapshot cell.versions ≡ rival → AllTell (says_rival s rival)
        by None e = tt
        by (Some rival) e = (met o left cell rival refl refl refl e, tt)
    storing_tells s l left heard met = tt

    finished_tells : (d : Decision) (tid : ℕ) → AllTell (finished_as d tid ∷ [])
    finished_tells Commit tid = (tt, tt)
    finished_tells (Undo rival) tid = (tt, tt)

    closing_tells : (t : Txn) (d : Decision) (c : Option CommitsCell) (heard : Heard) → AllTell (says_closing t d c heard)
    closing_tells t d (Some c) (Stored stamp) = finished_tells d t.tid
    closing_tells t d c heard = tt

    ending_tells : (told : Answer) (heard : Heard) → AllTell (says_ending node told heard)
    ending_tells told (Told reply.Ended) = (tt, tt)
    ending_tells told heard = tt

    lost_tells : (committed : Bool) (tid : ℕ) → AllTell (finished_so committed tid ∷ [])
    lost_tells true tid = (tt, tt)
    lost_tells false tid = (tt, tt)

    finishing_tells : (o : Lost) (committed : Bool) (c : Option CommitsCell) (heard : Heard) → AllTell (says_finishing o committed c heard)
    finishing_tells o committed (Some c) (Stored stamp) = lost_tells committed o.tid
    finishing_tells o committed c heard = tt

    recovered_tells : (c : Claimed) (tids left : List ℕ) → AllTell (says_recovered node c tids left)
    recovered_tells c [] [] = (tt, tt)
    recovered_tells c tids left = tt

    recovering_tells : (c : Claimed) (left : List ℕ) (heard : Heard) → AllTell (says_recovering node c left heard)
    recovering_tells c (d ∷ left) (Told (reply.Orphaned tids)) = recovered_tells c tids left
    recovering_tells c left heard = tt

    end_lost_tells : (c : Claimed) (o : Lost) (heard : Heard) → AllTell (says_end_lost node c o heard)
    end_lost_tells c o (Told reply.Ended) = recovered_tells c o.others c.left
    end_lost_tells c o heard = tt

module _ (settings : Settings) (catalog : Catalog) (commits : List Committed) (node : Node) (heard : Heard) (told : Answer) where
  doing_tells : (statement : Bound) (doing : Doing) → AllTell (Meets doing heard) (says_doing settings catalog commits node statement doing heard told)
  doing_tells statement Outside = outside_tells (Meets Outside heard) settings node statement (course_outside statement) heard
  doing_tells statement (Noted seen) = noted_tells (Meets (Noted seen) heard) settings node commits statement heard
  doing_tells statement (Inside t) = inside_tells (Meets (Inside t) heard) settings node statement t (course_in catalog t.stage statement) heard told
  doing_tells statement (Reading t reads) = read_tells (Meets (Reading t reads) heard) settings node statement t (after_reply settings t.snapshot reads reads.left heard) told
  doing_tells statement (Trying t) = commit_tells (Meets (Trying t) heard) settings node t heard
  doing_tells statement (Stores s l) =
      storing_tells (Meets (Stores s l) heard) settings node s l s.left heard (λ own later cell rival none left is strange. record {
        s = s;
        own = own;
        later = later;
        cell = cell;
        doing_is = alone l none;
        left_is = left;
        heard_is = is;
        rival_is = strange;
        tid_is = refl;
        place_is = refl;
      })
    where
      alone : (x : Option Loaded) → x ≡ None → Stores s x ≡ Stores s None
      alone x e = λ i. Stores s (e i)
  doing_tells statement (Closing t d c) = closing_tells (Meets (Closing t d c) heard) settings node t d c heard
  doing_tells statement (Ending tid said_so) = ending_tells (Meets (Ending tid said_so) heard) settings node said_so heard
  doing_tells statement (Recovering c) = recovering_tells (Meets (Recovering c) heard) settings node c c.left heard
  doing_tells statement (Finishing c o committed x) = finishing_tells (Meets (Finishing c o committed x) heard) settings node o committed x heard
  doing_tells statement (EndingLost c o) = end_lost_tells (Meets (EndingLost c o) heard) settings node c o heard
  doing_tells statement doing = tt

  pub says_meets : AllTell (Meets node.doing heard) (says_at settings catalog commits node heard told)
  says_meets = by node.todo
    where
      by : (todo : List Bound) → AllTell (Meets node.doing heard) (says_at settings catalog commits (record node { todo = todo }) heard told)
      by [] = tt
      by (statement ∷ later) = doing_tells statement node.doing
