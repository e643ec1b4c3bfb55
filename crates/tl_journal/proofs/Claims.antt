-- A node that recovers goes on with what its statement's claim was given.
use Rattle.std.proofs.Common.{◌≡◌, ℕ, Bool, true, false, cond, List, [], ◌∷◌, Option, Some, None, refl, sym, subst}
use Rattle.tl_base.specs.NodeSet.{with_node}
use Rattle.tl_base.specs.declared.node.NodeSet.{NodeSet}
use Rattle.tl_base.specs.declared.place.Settings.{Settings}
use Rattle.tl_schema.specs.declared.catalog.Catalog.{Catalog}
use Rattle.tl_values.specs.declared.value.Value.{Value}
use Rattle.tl_descriptor.specs.Tids.{TidSet, has}
use Rattle.tl_logrec.specs.declared.entry.Flag.{Flag}
use Rattle.tl_logrec.specs.declared.entry.Flag.TheVariants as flag
use Rattle.tl_manager.specs.declared.request.ManagerReply.TheVariants as manager
use Rattle.tl_versions.specs.Versions.{is_written, stranger}
use Rattle.tl_write.specs.declared.write.Write.{Write}
use Rattle.tl_isolation.specs.declared.bound.Bound.{Bound}
use Rattle.tl_isolation.specs.declared.bound.Bound.TheVariants as bound
use Rattle.tl_isolation.specs.declared.entry.Answer.{Answer}
use Rattle.tl_protocol.specs.Store.{Key, Cell, CommitsCell, LogCell}
use Rattle.tl_protocol.specs.World.{Stage, Fresh, Opened, Answering, Txn, Loaded, Decision}
use Rattle.tl_protocol.specs.Next.{begun_txn}
use Rattle.tl_journal.specs.Ask.{Heard, Commits, Log, Record, Stored, Moved, Numbers, Told}
use Rattle.tl_journal.specs.Asks.{Course, ToBegin, ToRead, ToIdle, ToCommit, ToGiveUp, ToRecover, course_in, course_outside}
use Rattle.tl_journal.specs.Bytes.{home_of}
use Rattle.tl_journal.specs.Node.{Storing, Removing, Claimed, Lost, Doing, Outside, Noted, Drawing, Bringing, Inside, Reading, Trying, Stores, Removes, Closing, Ending, Recovering, ReadingLog, Stripping, Finishing, EndingLost, Stopped, Node}
use Rattle.tl_journal.specs.Reads.{Read, Reads, all_reads, begin_reads, tables_read}
use Rattle.tl_journal.specs.Takes.{after_reply, begins, by_flag, finds, goes_on, idles, learnt, next_duty, next_lost, said, takes, takes_bringing, takes_closing, takes_commit, takes_doing, takes_drawing, takes_end_lost, takes_ending, takes_finishing, takes_give_up, takes_idle, takes_inside, takes_log, takes_noted, takes_outside, takes_read, takes_recovering, takes_removing, takes_storing, takes_stripping, takes_trying, with_doing}

-- what holds of the claim that a node goes on with, if it does
abbrev pub Follows : Doing → (Claimed → Type 0) → Type 0
Follows (Recovering c) P = P c
Follows (ReadingLog c o) P = P c
Follows (Stripping c o log keys l) P = P c
Follows (Finishing c o committed x) P = P c
Follows (EndingLost c o) P = P c
Follows doing P = Unit {0}

-- it goes on with one
abbrev pub GoesOn : Doing → (Claimed → Type 0) → Type 0
GoesOn (Recovering c) P = P c
GoesOn (ReadingLog c o) P = P c
GoesOn (Stripping c o log keys l) P = P c
GoesOn (Finishing c o committed x) P = P c
GoesOn (EndingLost c o) P = P c
GoesOn doing P = ⊥

pub both_of : (P Q : Claimed → Type 0) (doing : Doing) → GoesOn doing P → Follows doing Q → (c : Claimed) × P c × Q c
both_of P Q (Recovering c) p q = (c, p, q)
both_of P Q (ReadingLog c o) p q = (c, p, q)
both_of P Q (Stripping c o log keys l) p q = (c, p, q)
both_of P Q (Finishing c o committed x) p q = (c, p, q)
both_of P Q (EndingLost c o) p q = (c, p, q)
both_of P Q doing p q = absurd p

pub follows_with : (P Q : Claimed → Type 0) (doing : Doing) → ((c : Claimed) → P c → Q c) → Follows doing P → Follows doing Q
follows_with P Q (Recovering c) f p = f c p
follows_with P Q (ReadingLog c o) f p = f c p
follows_with P Q (Stripping c o log keys l) f p = f c p
follows_with P Q (Finishing c o committed x) f p = f c p
follows_with P Q (EndingLost c o) f p = f c p
follows_with P Q doing f p = tt

-- the claim was there before the reply, or the notice is given at it
abbrev pub IsSame : Claimed → Claimed → Type 0
IsSame c d = (c.node ≡ d.node) × (c.all ≡ d.all)

abbrev pub IsGiven : Course → Heard → Claimed → Type 0
IsGiven course told d = (course ≡ ToRecover d.node) × ((also : NodeSet) × (told ≡ Told (manager.Given also)) × (d.all ≡ with_node also d.node))

abbrev pub Comes : Doing → Bound → Heard → Claimed → Type 0
Comes Outside statement told d = IsGiven (course_outside statement) told d
Comes (Recovering c) statement told d = IsSame c d
Comes (ReadingLog c o) statement told d = IsSame c d
Comes (Stripping c o log keys l) statement told d = IsSame c d
Comes (Finishing c o committed x) statement told d = IsSame c d
Comes (EndingLost c o) statement told d = IsSame c d
Comes doing statement told d = ⊥

-- a reply leads a node on so
abbrev Leads : (Claimed → Type 0) → List Answer → Node → Type 0
Leads P answers new = Follows new.doing (λ c. (new.answers ≡ answers) × P c)

-- ---- no claim

abbrev IsFree : Node → Type 1
IsFree new = (P : Claimed → Type 0) → Follows new.doing P

module _ (settings : Settings) (catalog : Catalog) where
  begins_free : (node : Node) (statement : Bound) (t : Txn) → IsFree (begins node statement t)
  begins_free node bound.Begin t P = tt
  begins_free node statement t P = tt

  noted_free : (node : Node) (statement : Bound) (seen : TidSet) (told : Heard) → IsFree (takes_noted settings node statement seen told)
  noted_free node statement seen (Told (manager.Began tid snapshot floor)) P = begins_free (learnt node (home_of settings node.number) floor) statement (begun_txn tid snapshot) P
  noted_free node statement seen (Told manager.NeedRange) P = tt
  noted_free node statement seen told P = tt

  drawing_free : (node : Node) (seen : TidSet) (told : Heard) → IsFree (takes_drawing node seen told)
  drawing_free node seen (Numbers old) P = tt
  drawing_free node seen told P = tt

  bringing_free : (node : Node) (seen : TidSet) (told : Heard) → IsFree (takes_bringing node seen told)
  bringing_free node seen (Told manager.Ranged) P = tt
  bringing_free node seen told P = tt

  said_free : (node : Node) (statement : Bound) (t : Txn) (stage : Stage) (rows : List (List (List Value))) (told : Answer)
      → IsFree (said catalog node statement (record t { stage = stage }) rows told)
  said_free node statement t Fresh rows told P = tt
  said_free node statement t Opened rows told P = tt
  said_free node statement t (Answering before) rows told P = tt

  on_free : (node : Node) (statement : Bound) (t : Txn) (reads : Reads) (left : List Read) (told : Answer)
      → IsFree (goes_on catalog node statement t (record reads { left = left }) told)
  on_free node statement t reads [] told P = let read : Reads = record reads { left = [] } in said_free node statement t t.stage (tables_read read) told P
  on_free node statement t reads (read ∷ left) told P = tt

  read_free : (node : Node) (statement : Bound) (t : Txn) (reads : Reads) (answer : Heard) (told : Answer)
      → IsFree (takes_read settings catalog node statement t reads answer told)
  read_free node statement t reads answer told P = by (after_reply settings t.snapshot reads reads.left answer) refl
    where
      by : (o : Option Reads) → after_reply settings t.snapshot reads reads.left answer ≡ o → Follows (takes_read settings catalog node statement t reads answer told).doing P
      by None e = rw e tt
      by (Some after) e = rw e (on_free node statement t after after.left told P)

  idles_free : (node : Node) (statement : Bound) (t : Txn) (reads : Reads) (told : Answer) → IsFree (idles catalog node statement t reads told)
  idles_free node bound.Begin t reads told P = tt
  idles_free node (bound.Recover gone) t reads told P = tt
  idles_free node (bound.Select query) t reads told P = said_free node (bound.Select query) t t.stage (tables_read reads) told P
  idles_free node (bound.Change edit) t reads told P = said_free node (bound.Change edit) t t.stage (tables_read reads) told P
  idles_free node bound.Commit t reads told P = said_free node bound.Commit t t.stage (tables_read reads) told P
  idles_free node bound.Rollback t reads told P = said_free node bound.Rollback t t.stage (tables_read reads) told P

  idle_free : (node : Node) (statement : Bound) (t : Txn) (answer : Heard) (told : Answer) → IsFree (takes_idle settings catalog node statement t answer told)
  idle_free node statement t (Told (manager.FloorIs floor)) told P =
      idles_free (learnt node (home_of settings node.number) floor) statement t (begin_reads (all_reads catalog statement)) told P
  idle_free node statement t answer told P = tt

  commit_free : (node : Node) (t : Txn) (answer : Heard) → IsFree (takes_commit settings node t answer)
  commit_free node t (Commits c) P = tt
  commit_free node t (Stored stamp) P = tt
  commit_free node t (Told (manager.FloorIs floor)) P = tt
  commit_free node t answer P = tt

  give_up_free : (node : Node) (t : Txn) (answer : Heard) → IsFree (takes_give_up node t answer)
  give_up_free node t (Commits c) P = tt
  give_up_free node t answer P = tt

  inside_free : (node : Node) (statement : Bound) (t : Txn) (course : Course) (answer : Heard) (told : Answer)
      → IsFree (takes_inside settings catalog node statement t course answer told)
  inside_free node statement t (ToRead reads) answer told P = read_free node statement t reads answer told P
  inside_free node statement t ToIdle answer told P = idle_free node statement t answer told P
  inside_free node statement t ToCommit answer told P = commit_free node t answer P
  inside_free node statement t ToGiveUp answer told P = give_up_free node t answer P
  inside_free node statement t ToBegin answer told P = tt
  inside_free node statement t (ToRecover gone) answer told P = tt

  trying_free : (node : Node) (t : Txn) (answer : Heard) → IsFree (takes_trying node t answer)
  trying_free node t (Stored stamp) P = tt
  trying_free node t answer P = tt

  finds_free : (node : Node) (s : Storing) (key : Key) (cell : Cell) (rival : Option ℕ) → IsFree (finds node s key cell rival)
  finds_free node s key cell None P = tt
  finds_free node s key cell (Some rival) P = tt

  storing_free : (node : Node) (s : Storing) (l : Option Loaded) (left : List Write) (answer : Heard) → IsFree (takes_storing node s l left answer)
  storing_free node s None [] (Stored stamp) P = tt
  storing_free node s None (o ∷ left) (Record cell) P = finds_free node s o.key cell (stranger s.txn.snapshot cell.versions) P
  storing_free node s (Some l) (o ∷ left) (Stored stamp) P = tt
  storing_free node s (Some l) left Moved P = tt
  storing_free node s l left answer P = tt

  removing_free : (node : Node) (r : Removing) (l : Option Loaded) (left : List Write) (answer : Heard) → IsFree (takes_removing node r l left answer)
  removing_free node r None [] (Stored stamp) P = tt
  removing_free node r None (o ∷ left) (Record cell) P = tt
  removing_free node r (Some l) (o ∷ left) (Stored stamp) P = tt
  removing_free node r (Some l) left Moved P = tt
  removing_free node r l left answer P = tt

  closing_free : (node : Node) (t : Txn) (d : Decision) (c : Option CommitsCell) (answer : Heard) → IsFree (takes_closing node t d c answer)
  closing_free node t d None (Commits c) P = tt
  closing_free node t d (Some c) (Stored stamp) P = tt
  closing_free node t d (Some c) Moved P = tt
  closing_free node t d c answer P = tt

  ending_free : (node : Node) (told : Answer) (answer : Heard) → IsFree (takes_ending node told answer)
  ending_free node told (Told manager.Ended) P = tt
  ending_free node told answer P = tt

  -- ---- a claim

  outside_leads : (node : Node) (course : Course) (told : Heard) → Leads (IsGiven course told) node.answers (takes_outside settings node course told)
  outside_leads node ToBegin (Commits c) = tt
  outside_leads node ToIdle (Told (manager.FloorIs floor)) = tt
  outside_leads node (ToRecover gone) (Told manager.There) = tt
  outside_leads node (ToRecover gone) (Told (manager.Given also)) = (refl, (refl, (also, refl, refl)))
  outside_leads node course told = tt

  duty_leads : (node : Node) (c : Claimed) (left : List ℕ) → Leads (IsSame c) node.answers (next_duty node (record c { left = left }))
  duty_leads node c [] = tt
  duty_leads node c (d ∷ left) = (refl, (refl, refl))

  lost_leads : (node : Node) (c : Claimed) (left : List ℕ) (d : ℕ) (tids : List ℕ) → Leads (IsSame c) node.answers (next_lost node (record c { left = left }) d tids)
  lost_leads node c left d [] = duty_leads node c left
  lost_leads node c left d (tid ∷ others) = (refl, (refl, refl))

  recovering_leads : (node : Node) (c : Claimed) (left : List ℕ) (answer : Heard) → Leads (IsSame c) node.answers (takes_recovering node c left answer)
  recovering_leads node c (d ∷ left) (Told (manager.Orphaned tids)) = lost_leads node c left d tids
  recovering_leads node c left answer = tt

  flag_leads : (node : Node) (c : Claimed) (o : Lost) (log : LogCell) (f : Flag) → Leads (IsSame c) node.answers (by_flag node c o log f)
  flag_leads node c o log flag.Trying = (refl, (refl, refl))
  flag_leads node c o log flag.Decided = (refl, (refl, refl))
  flag_leads node c o log flag.Undone = (refl, (refl, refl))

  log_leads : (node : Node) (c : Claimed) (o : Lost) (answer : Heard) → Leads (IsSame c) node.answers (takes_log node c o answer)
  log_leads node c o (Log None) = (refl, (refl, refl))
  log_leads node c o (Log (Some log)) = flag_leads node c o log log.entry.flag
  log_leads node c o answer = tt

  stripping_leads : (node : Node) (c : Claimed) (o : Lost) (log : LogCell) (keys : List Key) (l : Option Loaded) (answer : Heard)
      → Leads (IsSame c) node.answers (takes_stripping node c o log keys l answer)
  stripping_leads node c o log [] None (Stored stamp) = (refl, (refl, refl))
  stripping_leads node c o log (key ∷ keys) None (Record cell) = by (is_written o.tid cell.versions)
    where
      by : (b : Bool)
          → Leads (IsSame c) node.answers
          (cond b (with_doing node (Stripping c o log (key ∷ keys) (Some (record { key = key; stamp = cell.stamp; versions = cell.versions }))))
          (with_doing node (Stripping c o log keys None)))
      by true = (refl, (refl, refl))
      by false = (refl, (refl, refl))
  stripping_leads node c o log (key ∷ keys) (Some l) (Stored stamp) = (refl, (refl, refl))
  stripping_leads node c o log keys (Some l) Moved = (refl, (refl, refl))
  stripping_leads node c o log keys l answer = tt

  finishing_leads : (node : Node) (c : Claimed) (o : Lost) (committed : Bool) (x : Option CommitsCell) (answer : Heard)
      → Leads (IsSame c) node.answers (takes_finishing node c o committed x answer)
  finishing_leads node c o committed None (Commits x) = by (has x.finished o.tid)
    where
      by : (b : Bool) → Leads (IsSame c) node.answers (cond b (with_doing node (EndingLost c o)) (with_doing node (Finishing c o committed (Some x))))
      by true = (refl, (refl, refl))
      by false = (refl, (refl, refl))
  finishing_leads node c o committed (Some x) (Stored stamp) = (refl, (refl, refl))
  finishing_leads node c o committed (Some x) Moved = (refl, (refl, refl))
  finishing_leads node c o committed x answer = tt

  end_lost_leads : (node : Node) (c : Claimed) (o : Lost) (answer : Heard) → Leads (IsSame c) node.answers (takes_end_lost node c o answer)
  end_lost_leads node c o (Told manager.Ended) = lost_leads node c c.left o.node o.others
  end_lost_leads node c o answer = tt

  doing_leads : (node : Node) (statement : Bound) (doing : Doing) (answer : Heard) (told : Answer) → node.doing ≡ doing
      → Leads (Comes doing statement answer) node.answers (takes_doing settings catalog node statement doing answer told)
  doing_leads node statement Outside answer told e = outside_leads node (course_outside statement) answer
  doing_leads node statement (Noted seen) answer told e = noted_free node statement seen answer _
  doing_leads node statement (Drawing seen) answer told e = drawing_free node seen answer _
  doing_leads node statement (Bringing seen low) answer told e = bringing_free node seen answer _
  doing_leads node statement (Inside t) answer told e = inside_free node statement t (course_in catalog t.stage statement) answer told _
  doing_leads node statement (Reading t reads) answer told e = read_free node statement t reads answer told _
  doing_leads node statement (Trying t) answer told e = trying_free node t answer _
  doing_leads node statement (Stores s l) answer told e = storing_free node s l s.left answer _
  doing_leads node statement (Removes r l) answer told e = removing_free node r l r.left answer _
  doing_leads node statement (Closing t d c) answer told e = closing_free node t d c answer _
  doing_leads node statement (Ending tid said_so) answer told e = ending_free node said_so answer _
  doing_leads node statement (Recovering c) answer told e = recovering_leads node c c.left answer
  doing_leads node statement (ReadingLog c o) answer told e = log_leads node c o answer
  doing_leads node statement (Stripping c o log keys l) answer told e = stripping_leads node c o log keys l answer
  doing_leads node statement (Finishing c o committed x) answer told e = finishing_leads node c o committed x answer
  doing_leads node statement (EndingLost c o) answer told e = end_lost_leads node c o answer
  doing_leads node statement (Stopped nodes) answer told e = subst (λ d. Follows d (λ c. (node.answers ≡ node.answers) × Comes (Stopped nodes) statement answer c)) (sym e) tt

  -- the claim after a reply
  pub takes_leads : (node : Node) (statement : Bound) (later : List Bound) (answer : Heard) (told : Answer) → node.todo ≡ statement ∷ later
      → Follows (takes settings catalog node answer told).doing (λ c. ((takes settings catalog node answer told).answers ≡ node.answers) × Comes node.doing statement answer c)
  takes_leads node statement later answer told e =
      subst (λ todo. (λ (x : Node). Leads (Comes node.doing statement answer) node.answers (takes settings catalog x answer told)) (record node { todo = todo })) (sym e)
      (doing_leads (record node { todo = statement ∷ later }) statement node.doing answer told refl)
