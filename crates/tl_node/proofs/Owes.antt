-- A node that has answered all its statements has nobody to recover.
use Rattle.std.proofs.Common.{◌≡◌, ◌⊎◌, ℕ, Bool, true, false, List, [], ◌∷◌, Option, Some, None, refl, sym, inl, inr}
use Rattle.std.specs.Prelude.{if◌then◌else◌}
use Rattle.tl_base.specs.NodeSet.{no_nodes}
use Rattle.tl_base.specs.declared.place.Settings.{Settings}
use Rattle.tl_schema.specs.declared.catalog.Catalog.{Catalog}
use Rattle.tl_values.specs.declared.value.Value.{Value}
use Rattle.tl_descriptor.specs.Tids.{TidSet, has}
use Rattle.tl_logrec.specs.declared.entry.Flag.{Flag}
use Rattle.tl_logrec.specs.declared.entry.Flag.TheVariants as flag
use Rattle.tl_manager.specs.declared.request.ManagerReply.TheVariants as manager
use Rattle.tl_versions.specs.Versions.{is_written, stranger}
use Rattle.tl_write.specs.declared.write.Write.{Write}
use Rattle.tl_isolation.specs.declared.bound.Bound.{Bound}
use Rattle.tl_isolation.specs.declared.bound.Bound.TheVariants as bound
use Rattle.tl_isolation.specs.declared.entry.Answer.{Answer}
use Rattle.tl_protocol.specs.Store.{CommitsCell, Key, LogCell}
use Rattle.tl_protocol.specs.World.{Stage, Fresh, Opened, Answering, Txn, Loaded, Decision}
use Rattle.tl_journal.specs.Ask.{Ask, Heard, Commits, Log, Record, Stored, Moved, Numbers, Told}
use Rattle.tl_journal.specs.Asks.{Course, ToBegin, ToRead, ToIdle, ToCommit, ToGiveUp, ToRecover, asks, course_in, course_outside}
use Rattle.tl_journal.specs.Node.{Storing, Removing, Claimed, Lost, Doing, Outside, Noted, Drawing, Bringing, Inside, Reading, Trying, Stores, Removes, Closing, Ending, Recovering, ReadingLog, Stripping, Finishing, EndingLost, Stopped, Node, owed_by}
use Rattle.tl_journal.specs.Reads.{Read, Reads, all_reads, begin_reads, tables_read}
use Rattle.tl_journal.specs.Takes.{after_reply, by_flag, finds, goes_on, idles, learnt, next_duty, next_lost, said, takes, takes_bringing, takes_closing, takes_commit, takes_doing, takes_drawing, takes_end_lost, takes_ending, takes_finishing, takes_give_up, takes_idle, takes_inside, takes_log, takes_noted, takes_outside, takes_read, takes_recovering, takes_removing, takes_storing, takes_stripping, takes_trying}
use Rattle.tl_journal.specs.Bytes.{home_of}
use Rattle.tl_node.specs.Seen.{seen}
use Rattle.tl_node.proofs.AlikeSays.{doing_owed}

-- the node has the same to do, or nobody to recover
abbrev Keeps : Node → Node → Type 0
Keeps n x = (x.todo ≡ n.todo) ⊎ (owed_by x.doing ≡ no_nodes)

module _ (settings : Settings) (catalog : Catalog) (n : Node) where
  outside_keeps : (course : Course) (h : Heard) → Keeps n (takes_outside settings n course h)
  outside_keeps ToBegin (Commits c) = inl refl
  outside_keeps ToIdle (Told (manager.FloorIs floor)) = inr refl
  outside_keeps (ToRecover gone) (Told manager.There) = inr refl
  outside_keeps (ToRecover gone) (Told (manager.Given also)) = inl refl
  outside_keeps course h = inl refl

  noted_keeps : (statement : Bound) (seen : TidSet) (h : Heard) → Keeps n (takes_noted settings n statement seen h)
  noted_keeps bound.Begin seen (Told (manager.Began tid snapshot floor)) = inr refl
  noted_keeps statement seen (Told (manager.Began tid snapshot floor)) = inl refl
  noted_keeps statement seen (Told manager.NeedRange) = inl refl
  noted_keeps statement seen h = inl refl

  drawing_keeps : (seen : TidSet) (h : Heard) → Keeps n (takes_drawing n seen h)
  drawing_keeps seen (Numbers old) = inl refl
  drawing_keeps seen h = inl refl

  bringing_keeps : (seen : TidSet) (h : Heard) → Keeps n (takes_bringing n seen h)
  bringing_keeps seen (Told manager.Ranged) = inl refl
  bringing_keeps seen h = inl refl

  said_keeps : (m : Node) → m.todo ≡ n.todo → (statement : Bound) (t : Txn) (stage : Stage) (rows : List (List (List Value))) (told : Answer)
      → Keeps n (said catalog m statement (record t { stage = stage }) rows told)
  said_keeps m e statement t Fresh rows told = inl e
  said_keeps m e statement t Opened rows told = inr refl
  said_keeps m e statement t (Answering before) rows told = inl e

  goes_keeps : (statement : Bound) (t : Txn) (reads : Reads) (left : List Read) (told : Answer) → Keeps n (goes_on catalog n statement t (record reads { left = left }) told)
  goes_keeps statement t reads [] told = said_keeps n refl statement t t.stage (tables_read reads) told
  goes_keeps statement t reads (read ∷ left) told = inl refl

  read_keeps : (statement : Bound) (t : Txn) (reads : Reads) (h : Heard) (told : Answer) (o : Option Reads) → after_reply settings t.snapshot reads reads.left h ≡ o
      → Keeps n (takes_read settings catalog n statement t reads h told)
  read_keeps statement t reads h told None e = rw e (inl refl)
  read_keeps statement t reads h told (Some after) e = rw e (goes_keeps statement t after after.left told)

  idles_keeps : (m : Node) → m.todo ≡ n.todo → (statement : Bound) (t : Txn) (reads : Reads) (told : Answer) → Keeps n (idles catalog m statement t reads told)
  idles_keeps m e bound.Begin t reads told = inr refl
  idles_keeps m e (bound.Recover gone) t reads told = inr refl
  idles_keeps m e bound.Commit t reads told = said_keeps m e bound.Commit t t.stage (tables_read reads) told
  idles_keeps m e bound.Rollback t reads told = said_keeps m e bound.Rollback t t.stage (tables_read reads) told
  idles_keeps m e (bound.Select query) t reads told = said_keeps m e (bound.Select query) t t.stage (tables_read reads) told
  idles_keeps m e (bound.Change edit) t reads told = said_keeps m e (bound.Change edit) t t.stage (tables_read reads) told

  idle_keeps : (statement : Bound) (t : Txn) (h : Heard) (told : Answer) → Keeps n (takes_idle settings catalog n statement t h told)
  idle_keeps statement t (Told (manager.FloorIs floor)) told =
      idles_keeps (learnt n (home_of settings n.number) floor) refl statement t (begin_reads (all_reads catalog statement)) told
  idle_keeps statement t h told = inl refl

  commit_keeps : (t : Txn) (h : Heard) → Keeps n (takes_commit settings n t h)
  commit_keeps t (Commits c) = inl refl
  commit_keeps t (Stored stamp) = inl refl
  commit_keeps t (Told (manager.FloorIs floor)) = inl refl
  commit_keeps t h = inl refl

  give_up_keeps : (t : Txn) (h : Heard) → Keeps n (takes_give_up n t h)
  give_up_keeps t (Commits c) = inl refl
  give_up_keeps t h = inl refl

  inside_keeps : (statement : Bound) (t : Txn) (course : Course) (h : Heard) (told : Answer) → Keeps n (takes_inside settings catalog n statement t course h told)
  inside_keeps statement t (ToRead reads) h told = read_keeps statement t reads h told (after_reply settings t.snapshot reads reads.left h) refl
  inside_keeps statement t ToIdle h told = idle_keeps statement t h told
  inside_keeps statement t ToCommit h told = commit_keeps t h
  inside_keeps statement t ToGiveUp h told = give_up_keeps t h
  inside_keeps statement t course h told = inl refl

  trying_keeps : (t : Txn) (h : Heard) → Keeps n (takes_trying n t h)
  trying_keeps t (Stored stamp) = inl refl
  trying_keeps t h = inl refl

  storing_keeps : (s : Storing) (l : Option Loaded) (left : List Write) (h : Heard) → Keeps n (takes_storing n s l left h)
  storing_keeps s None [] (Stored stamp) = inl refl
  storing_keeps s None (o ∷ left) (Record cell) = by (stranger s.txn.snapshot cell.versions)
    where
      by : (rival : Option ℕ) → Keeps n (finds n s o.key cell rival)
      by None = inl refl
      by (Some rival) = inl refl
  storing_keeps s (Some l) (o ∷ left) (Stored stamp) = inl refl
  storing_keeps s (Some l) left Moved = inl refl
  storing_keeps s l left h = inl refl

  removing_keeps : (r : Removing) (l : Option Loaded) (left : List Write) (h : Heard) → Keeps n (takes_removing n r l left h)
  removing_keeps r None [] (Stored stamp) = inl refl
  removing_keeps r None (o ∷ left) (Record cell) = inl refl
  removing_keeps r (Some l) (o ∷ left) (Stored stamp) = inl refl
  removing_keeps r (Some l) left Moved = inl refl
  removing_keeps r l left h = inl refl

  closing_keeps : (t : Txn) (d : Decision) (c : Option CommitsCell) (h : Heard) → Keeps n (takes_closing n t d c h)
  closing_keeps t d None (Commits c) = inl refl
  closing_keeps t d (Some c) (Stored stamp) = inl refl
  closing_keeps t d (Some c) Moved = inl refl
  closing_keeps t d c h = inl refl

  ending_keeps : (told : Answer) (h : Heard) → Keeps n (takes_ending n told h)
  ending_keeps told (Told manager.Ended) = inr refl
  ending_keeps told h = inl refl

  duty_keeps : (c : Claimed) (left : List ℕ) → Keeps n (next_duty n (record c { left = left }))
  duty_keeps c [] = inr refl
  duty_keeps c (d ∷ left) = inl refl

  lost_keeps : (c : Claimed) (d : ℕ) (tids : List ℕ) → Keeps n (next_lost n c d tids)
  lost_keeps c d [] = duty_keeps c c.left
  lost_keeps c d (tid ∷ others) = inl refl

  recovering_keeps : (c : Claimed) (left : List ℕ) (h : Heard) → Keeps n (takes_recovering n c left h)
  recovering_keeps c (d ∷ left) (Told (manager.Orphaned tids)) = lost_keeps (record c { left = left }) d tids
  recovering_keeps c left h = inl refl

  flag_keeps : (c : Claimed) (o : Lost) (log : LogCell) (f : Flag) → Keeps n (by_flag n c o log f)
  flag_keeps c o log flag.Trying = inl refl
  flag_keeps c o log flag.Decided = inl refl
  flag_keeps c o log flag.Undone = inl refl

  log_keeps : (c : Claimed) (o : Lost) (h : Heard) → Keeps n (takes_log n c o h)
  log_keeps c o (Log None) = inl refl
  log_keeps c o (Log (Some log)) = flag_keeps c o log log.entry.flag
  log_keeps c o h = inl refl

  choice : (b : Bool) (x y : Node) → Keeps n x → Keeps n y → Keeps n (if b then x else y)
  choice true x y f g = f
  choice false x y f g = g

  stripping_keeps : (c : Claimed) (o : Lost) (log : LogCell) (keys : List Key) (l : Option Loaded) (h : Heard) → Keeps n (takes_stripping n c o log keys l h)
  stripping_keeps c o log [] None (Stored stamp) = inl refl
  stripping_keeps c o log (key ∷ keys) None (Record cell) =
      choice (is_written o.tid cell.versions)
      (record n { doing = Stripping c o log (key ∷ keys) (Some (record { key = key; stamp = cell.stamp; versions = cell.versions })) })
      (record n { doing = Stripping c o log keys None }) (inl refl) (inl refl)
  stripping_keeps c o log (key ∷ keys) (Some l) (Stored stamp) = inl refl
  stripping_keeps c o log keys (Some l) Moved = inl refl
  stripping_keeps c o log keys l h = inl refl

  finishing_keeps : (c : Claimed) (o : Lost) (committed : Bool) (x : Option CommitsCell) (h : Heard) → Keeps n (takes_finishing n c o committed x h)
  finishing_keeps c o committed None (Commits x) =
      choice (has x.finished o.tid) (record n { doing = EndingLost c o }) (record n { doing = Finishing c o committed (Some x) }) (inl refl) (inl refl)
  finishing_keeps c o committed (Some x) (Stored stamp) = inl refl
  finishing_keeps c o committed (Some x) Moved = inl refl
  finishing_keeps c o committed x h = inl refl

  end_lost_keeps : (c : Claimed) (o : Lost) (h : Heard) → Keeps n (takes_end_lost n c o h)
  end_lost_keeps c o (Told manager.Ended) = lost_keeps c o.node o.others
  end_lost_keeps c o h = inl refl

  doing_keeps : (statement : Bound) (d : Doing) (h : Heard) (told : Answer) → Keeps n (takes_doing settings catalog n statement d h told)
  doing_keeps statement Outside h told = outside_keeps (course_outside statement) h
  doing_keeps statement (Noted seen) h told = noted_keeps statement seen h
  doing_keeps statement (Drawing seen) h told = drawing_keeps seen h
  doing_keeps statement (Bringing seen low) h told = bringing_keeps seen h
  doing_keeps statement (Inside t) h told = inside_keeps statement t (course_in catalog t.stage statement) h told
  doing_keeps statement (Reading t reads) h told = read_keeps statement t reads h told (after_reply settings t.snapshot reads reads.left h) refl
  doing_keeps statement (Trying t) h told = trying_keeps t h
  doing_keeps statement (Stores s l) h told = storing_keeps s l s.left h
  doing_keeps statement (Removes r l) h told = removing_keeps r l r.left h
  doing_keeps statement (Closing t d c) h told = closing_keeps t d c h
  doing_keeps statement (Ending tid so) h told = ending_keeps so h
  doing_keeps statement (Recovering c) h told = recovering_keeps c c.left h
  doing_keeps statement (ReadingLog c o) h told = log_keeps c o h
  doing_keeps statement (Stripping c o log keys l) h told = stripping_keeps c o log keys l h
  doing_keeps statement (Finishing c o committed x) h told = finishing_keeps c o committed x h
  doing_keeps statement (EndingLost c o) h told = end_lost_keeps c o h
  doing_keeps statement (Stopped nodes) h told = inl refl

module _ (settings : Settings) (catalog : Catalog) where
  none_asked : (ask : Ask) → None ≡ Some ask → ⊥
  none_asked ask e = cc

  takes_keeps : (n : Node) (todo : List Bound) (ask : Ask) (h : Heard) (told : Answer) → asks settings catalog (record n { todo = todo }) ≡ Some ask
      → (([] ≡ todo) → ⊥) × Keeps (record n { todo = todo }) (takes settings catalog (record n { todo = todo }) h told)
  takes_keeps n [] ask h told e = absurd (none_asked ask e)
  takes_keeps n (statement ∷ later) ask h told e = (λ e. cc, doing_keeps settings catalog (record n { todo = statement ∷ later }) statement n.doing h told)

  owes_of : (n x : Node) (todo : List Bound) → (([] ≡ n.todo) → ⊥) → Keeps n (record x { todo = todo })
      → owed_by (seen settings catalog (record x { todo = todo })).doing ≡ owed_by x.doing
  owes_of n x [] some (inl e) = absurd (some e)
  owes_of n x [] some (inr e) = sym e
  owes_of n x (statement ∷ later) some k = doing_owed settings catalog statement x.doing

  -- after a request the code of the node is to recover whom the node of the law is to recover
  pub owes_after : (n : Node) (ask : Ask) (h : Heard) (told : Answer) → asks settings catalog n ≡ Some ask
      → owed_by (seen settings catalog (takes settings catalog n h told)).doing ≡ owed_by (takes settings catalog n h told).doing
  owes_after n ask h told e =
      let k = takes_keeps n n.todo ask h told e in
      owes_of n (takes settings catalog n h told) (takes settings catalog n h told).todo k.0 k.1
