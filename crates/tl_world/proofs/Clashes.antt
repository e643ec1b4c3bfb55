-- A clash leaves whom a node is to recover.
use Rattle.std.proofs.Common.{◌≡◌, ℕ, Bool, true, false, List, [], ◌∷◌, Option, Some, None, refl}
use Rattle.tl_base.specs.NodeSet.{no_nodes}
use Rattle.tl_base.specs.declared.place.Settings.{Settings}
use Rattle.tl_schema.specs.declared.catalog.Catalog.{Catalog}
use Rattle.tl_manager.specs.declared.request.ManagerReply.TheVariants as manager
use Rattle.tl_versions.specs.Versions.{stranger}
use Rattle.tl_write.specs.declared.write.Write.{Write}
use Rattle.tl_isolation.specs.declared.bound.Bound.{Bound}
use Rattle.tl_isolation.specs.declared.bound.Bound.TheVariants as bound
use Rattle.tl_isolation.specs.declared.entry.Answer.{Answer}
use Rattle.tl_isolation.specs.declared.entry.Entry.{Entry}
use Rattle.tl_isolation.specs.declared.state.Commit.{Commit as Committed}
use Rattle.tl_protocol.specs.Store.{CommitsCell}
use Rattle.tl_protocol.specs.World.{Txn, Loaded, Decision, Commit, Undo}
use Rattle.tl_journal.specs.Ask.{Heard, Commits, Record, Stored, Moved, Told}
use Rattle.tl_journal.specs.Asks.{Course, ToBegin, ToRead, ToIdle, ToCommit, ToRecover, course_in, course_outside}
use Rattle.tl_journal.specs.Memory.{has_said}
use Rattle.tl_journal.specs.Node.{Storing, Claimed, Lost, Doing, Outside, Noted, Inside, Reading, Trying, Stores, Closing, Ending, Recovering, Finishing, EndingLost, Node, owed_by}
use Rattle.tl_journal.specs.Reads.{Read, Reads}
use Rattle.tl_journal.specs.Says.{says_at, says_closing, says_commit, says_doing, says_end_lost, says_ending, says_finishing, says_idle, says_inside, says_noted, says_outside, says_read, says_recovered, says_recovering}
use Rattle.tl_journal.specs.Takes.{after_reply, finds, takes, takes_doing, takes_storing, with_doing}
use Rattle.tl_world.proofs.Meant.{are_saying}

-- a clash isn't among them
abbrev Agree : List Entry → Type 0
Agree es = has_said es ≡ are_saying es

closing_agrees : (t : Txn) (d : Decision) (c : Option CommitsCell) (h : Heard) → Agree (says_closing t d c h)
closing_agrees t Commit (Some c) (Stored stamp) = refl
closing_agrees t (Undo rival) (Some c) (Stored stamp) = refl
closing_agrees t d c h = refl

commit_agrees : (t : Txn) (h : Heard) → Agree (says_commit t h)
commit_agrees t (Commits c) = refl
commit_agrees t (Stored stamp) = refl
commit_agrees t h = refl

finishing_agrees : (o : Lost) (committed : Bool) (x : Option CommitsCell) (h : Heard) → Agree (says_finishing o committed x h)
finishing_agrees o true (Some x) (Stored stamp) = refl
finishing_agrees o false (Some x) (Stored stamp) = refl
finishing_agrees o committed x h = refl

module _ (settings : Settings) (catalog : Catalog) (commits : List Committed) (n : Node) (told : Answer) where
  outside_agrees : (statement : Bound) (course : Course) (h : Heard) → Agree (says_outside n statement course h)
  outside_agrees statement ToBegin (Commits c) = refl
  outside_agrees statement ToIdle (Told (manager.FloorIs floor)) = refl
  outside_agrees statement (ToRecover gone) (Told manager.There) = refl
  outside_agrees statement course h = refl

  noted_agrees : (statement : Bound) (h : Heard) → Agree (says_noted commits n statement h)
  noted_agrees bound.Begin (Told (manager.Began tid snapshot floor)) = refl
  noted_agrees statement (Told (manager.Began tid snapshot floor)) = refl
  noted_agrees statement h = refl

  read_agrees : (statement : Bound) (t : Txn) (o : Option Reads) → Agree (says_read n statement t o told)
  read_agrees statement t None = refl
  read_agrees statement t (Some after) = by after.left
    where
      by : (left : List Read) → Agree (says_read n statement t (Some (record after { left = left })) told)
      by [] = refl
      by (read ∷ left) = refl

  idle_agrees : (statement : Bound) (t : Txn) (h : Heard) → Agree (says_idle n statement t h told)
  idle_agrees bound.Begin t (Told (manager.FloorIs floor)) = refl
  idle_agrees (bound.Recover gone) t (Told (manager.FloorIs floor)) = refl
  idle_agrees statement t (Told (manager.FloorIs floor)) = refl
  idle_agrees statement t h = refl

  inside_agrees : (statement : Bound) (t : Txn) (course : Course) (h : Heard) → Agree (says_inside settings n statement t course h told)
  inside_agrees statement t (ToRead reads) h = read_agrees statement t (after_reply settings t.snapshot reads reads.left h)
  inside_agrees statement t ToIdle h = idle_agrees statement t h
  inside_agrees statement t ToCommit h = commit_agrees t h
  inside_agrees statement t course h = refl

  ending_agrees : (so : Answer) (h : Heard) → Agree (says_ending n so h)
  ending_agrees so (Told manager.Ended) = refl
  ending_agrees so h = refl

  recovered_agrees : (c : Claimed) (tids left : List ℕ) → Agree (says_recovered n c tids left)
  recovered_agrees c [] [] = refl
  recovered_agrees c tids left = refl

  recovering_agrees : (c : Claimed) (left : List ℕ) (h : Heard) → Agree (says_recovering n c left h)
  recovering_agrees c (d ∷ left) (Told (manager.Orphaned tids)) = recovered_agrees c tids left
  recovering_agrees c left h = refl

  end_lost_agrees : (c : Claimed) (o : Lost) (h : Heard) → Agree (says_end_lost n c o h)
  end_lost_agrees c o (Told manager.Ended) = recovered_agrees c o.others c.left
  end_lost_agrees c o h = refl

  -- ---- the clash

  stores_owe : (s : Storing) (l : Option Loaded) (left : List Write) (h : Heard)
      → owed_by (takes_storing (with_doing n (Stores s l)) s l left h).doing ≡ no_nodes
  stores_owe s None [] (Stored stamp) = refl
  stores_owe s None (o ∷ left) (Record cell) = by (stranger s.txn.snapshot cell.versions)
    where
      by : (rival : Option ℕ) → owed_by (finds (with_doing n (Stores s None)) s o.key cell rival).doing ≡ no_nodes
      by None = refl
      by (Some rival) = refl
  stores_owe s (Some l) (o ∷ left) (Stored stamp) = refl
  stores_owe s (Some l) left Moved = refl
  stores_owe s l left h = refl

  agreed : (es : List Entry) → Agree es → has_said es ≡ true → are_saying es ≡ false → ⊥
  agreed es a f g = by (has_said es) (are_saying es) a f g
    where
      by : (a b : Bool) → a ≡ b → a ≡ true → b ≡ false → ⊥
      by a b e f g = cc

  doing_owes : (statement : Bound) (d : Doing) (h : Heard) → has_said (says_doing settings catalog commits n statement d h told) ≡ true
      → are_saying (says_doing settings catalog commits n statement d h told) ≡ false
      → owed_by (takes_doing settings catalog (with_doing n d) statement d h told).doing ≡ owed_by d
  doing_owes statement Outside h f g = absurd (agreed (says_outside n statement (course_outside statement) h) (outside_agrees statement (course_outside statement) h) f g)
  doing_owes statement (Noted seen) h f g = absurd (agreed (says_noted commits n statement h) (noted_agrees statement h) f g)
  doing_owes statement (Inside t) h f g =
      absurd (agreed (says_inside settings n statement t (course_in catalog t.stage statement) h told) (inside_agrees statement t (course_in catalog t.stage statement) h) f g)
  doing_owes statement (Reading t reads) h f g =
      absurd (agreed (says_read n statement t (after_reply settings t.snapshot reads reads.left h) told) (read_agrees statement t (after_reply settings t.snapshot reads reads.left h)) f g)
  doing_owes statement (Trying t) h f g = absurd (agreed (says_commit t h) (commit_agrees t h) f g)
  doing_owes statement (Stores s l) h f g = stores_owe s l s.left h
  doing_owes statement (Closing t d c) h f g = absurd (agreed (says_closing t d c h) (closing_agrees t d c h) f g)
  doing_owes statement (Ending tid so) h f g = absurd (agreed (says_ending n so h) (ending_agrees so h) f g)
  doing_owes statement (Recovering c) h f g = absurd (agreed (says_recovering n c c.left h) (recovering_agrees c c.left h) f g)
  doing_owes statement (Finishing c o committed x) h f g = absurd (agreed (says_finishing o committed x h) (finishing_agrees o committed x h) f g)
  doing_owes statement (EndingLost c o) h f g = absurd (agreed (says_end_lost n c o h) (end_lost_agrees c o h) f g)
  doing_owes statement d h f g = absurd (agreed [] refl f g)

pub clash_owes : (settings : Settings) (catalog : Catalog) (commits : List Committed) (n : Node) (h : Heard) (told : Answer)
    → has_said (says_at settings catalog commits n h told) ≡ true → are_saying (says_at settings catalog commits n h told) ≡ false
    → owed_by (takes settings catalog n h told).doing ≡ owed_by n.doing
clash_owes settings catalog commits n h told f g = by n.todo f g
  where
    by : (todo : List Bound) → has_said (says_at settings catalog commits (record n { todo = todo }) h told) ≡ true
        → are_saying (says_at settings catalog commits (record n { todo = todo }) h told) ≡ false
        → owed_by (takes settings catalog (record n { todo = todo }) h told).doing ≡ owed_by n.doing
    by [] f g = refl
    by (statement ∷ later) f g = doing_owes settings catalog commits (record n { todo = statement ∷ later }) told statement n.doing h f g
