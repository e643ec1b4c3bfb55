-- No node of a run stops: a reply is of the kind that it asked for, and its log cell has the stamp that it knows.
use Rattle.std.proofs.Common.{◌≡◌, inl, inr, ℕ, ◌==◌, Bool, true, false, cond, List, [], ◌∷◌, Option, Some, None, refl, sym, ap, ◌∙◌, subst}
use Rattle.std.specs.Prelude.{nat_le, if◌then◌else◌}
use Rattle.std.proofs.lemmas.Bool.{both_ways, eq-eqb}
use Rattle.tl_base.specs.declared.place.Settings.{Settings}
use Rattle.tl_values.specs.declared.value.Value.{Value}
use Rattle.tl_schema.specs.declared.catalog.Catalog.{Catalog}
use Rattle.tl_schema.specs.declared.catalog.Setup.{Setup}
use Rattle.tl_descriptor.specs.Tids.{TidSet, has}
use Rattle.tl_logrec.specs.declared.entry.Flag.{Flag}
use Rattle.tl_logrec.specs.declared.entry.Flag.TheVariants as flag
use Rattle.tl_manager.specs.declared.request.ManagerRequest.TheVariants as manager
use Rattle.tl_versions.specs.Versions.{is_written, stranger}
use Rattle.tl_write.specs.declared.write.Write.{Write}
use Rattle.tl_isolation.specs.declared.bound.Bound.{Bound}
use Rattle.tl_isolation.specs.declared.bound.Bound.TheVariants as bound
use Rattle.tl_isolation.specs.declared.entry.Answer.{Answer}
use Rattle.tl_isolation.specs.declared.entry.Entry.{Entry}
use Rattle.tl_isolation.specs.declared.state.SiState.{SiState}
use Rattle.tl_protocol.specs.Store.{Key, Cell, CommitsCell, LogCell, log_stamp}
use Rattle.tl_protocol.specs.World.{Stage, Fresh, Opened, Answering, Txn, Fact, Loaded, Decision, Phase, Recovery, World}
use Rattle.tl_protocol.specs.World as protocol
use Rattle.tl_protocol.specs.Move.{is_empty}
use Rattle.tl_protocol.specs.Next.{begun_txn}
use Rattle.tl_protocol.specs.Run.{Layout}
use Rattle.tl_protocol.specs.Stands.{HasInLog}
use Rattle.tl_protocol.proofs.Inv.{NodeOk, base, shared}
use Rattle.tl_protocol.proofs.Reached.{Reached, reached}
use Rattle.tl_protocol.proofs.Standing.{nodes_know}
use Rattle.tl_protocol.proofs.Steps.{recovery_at}
use Rattle.tl_journal.specs.Ask.{Ask, LoadCommits, AskManager, Heard, Log, Stored, Moved}
use Rattle.tl_journal.specs.Asks.{Course, ToBegin, ToRead, ToIdle, ToCommit, ToGiveUp, ToRecover, asks, asks_commit, asks_doing, asks_duty, asks_finish, asks_inside, asks_outside, asks_read, asks_removing, asks_storing, asks_stripping, course_in, course_outside, other_manager, store_trying}
use Rattle.tl_journal.specs.Node.{Storing, Removing, Claimed, Lost, Doing, Outside, Noted, Drawing, Bringing, Inside, Reading, Trying, Stores, Removes, Closing, Ending, Recovering, ReadingLog, Stripping, Finishing, EndingLost, Stopped, Node}
use Rattle.tl_journal.specs.Reads.{Read, Point, Range, Reads, all_reads, begin_reads, tables_read, take_cell, take_page}
use Rattle.tl_journal.specs.Bytes.{home_of}
use Rattle.tl_manager.specs.Floor.{newer}
use Rattle.tl_journal.specs.Served as served
use Rattle.tl_journal.specs.Served.{Parts, Serves, parts_of}
use Rattle.tl_journal.specs.Strange.{is_stopped}
use Rattle.tl_journal.specs.Takes.{learnt, begins, by_flag, finds, goes_on, idles, next_duty, next_lost, said, takes, takes_bringing, takes_closing, takes_commit, takes_doing, takes_drawing, takes_end_lost, takes_ending, takes_finishing, takes_give_up, takes_inside, takes_log, takes_noted, takes_outside, takes_read, takes_recovering, takes_removing, takes_storing, takes_stripping, takes_trying, with_doing}
use Rattle.tl_journal.proofs.Attempts.{by_store}
use Rattle.tl_journal.proofs.Meets.{Before, HandOk, KeyHandOk, PhaseIs, RecoveryIs, attempt_left, attempt_of, orphan_of}
use Rattle.tl_journal.proofs.StrangeCounts.{HasRoom, IsPlain}
use Rattle.tl_journal.proofs.StrangeLefts.{CourseIs, LeftIs, course_is}

-- ---- where what is in hand goes on

abbrev Runs : Node → Type 0
Runs node = is_stopped node.doing ≡ false

begins_runs : (node : Node) (statement : Bound) (t : Txn) → Runs (begins node statement t)
begins_runs node bound.Begin t = refl
begins_runs node statement t = refl

module _ (catalog : Catalog) where
  said_runs : (node : Node) (statement : Bound) (t : Txn) (stage : Stage) (rows : List (List (List Value))) (told : Answer)
      → Runs (said catalog node statement (record t { stage = stage }) rows told)
  said_runs node statement t Fresh rows told = refl
  said_runs node statement t Opened rows told = refl
  said_runs node statement t (Answering before) rows told = refl

  pub on_runs : (node : Node) (statement : Bound) (t : Txn) (reads : Reads) (told : Answer) → Runs (goes_on catalog node statement t reads told)
  on_runs node statement t reads told = by reads.left
    where
      by : (left : List Read) → Runs (goes_on catalog node statement t (record reads { left = left }) told)
      by [] = said_runs node statement t t.stage (tables_read reads) told
      by (read ∷ left) = refl

  pub idles_runs : (node : Node) (statement : Bound) (t : Txn) (reads : Reads) (told : Answer) → Runs (idles catalog node statement t reads told)
  idles_runs node bound.Begin t reads told = refl
  idles_runs node (bound.Recover gone) t reads told = refl
  idles_runs node (bound.Select query) t reads told = said_runs node (bound.Select query) t t.stage (tables_read reads) told
  idles_runs node (bound.Change edit) t reads told = said_runs node (bound.Change edit) t t.stage (tables_read reads) told
  idles_runs node bound.Commit t reads told = said_runs node bound.Commit t t.stage (tables_read reads) told
  idles_runs node bound.Rollback t reads told = said_runs node bound.Rollback t t.stage (tables_read reads) told

finds_runs : (node : Node) (s : Storing) (key : Key) (cell : Cell) (rival : Option ℕ) → Runs (finds node s key cell rival)
finds_runs node s key cell None = refl
finds_runs node s key cell (Some rival) = refl

duty_runs : (node : Node) (c : Claimed) (left : List ℕ) → Runs (next_duty node (record c { left = left }))
duty_runs node c [] = refl
duty_runs node c (d ∷ left) = refl

lost_runs : (node : Node) (c : Claimed) (d : ℕ) (tids : List ℕ) → Runs (next_lost node c d tids)
lost_runs node c d [] = duty_runs node c c.left
lost_runs node c d (tid ∷ others) = refl

flag_runs : (node : Node) (c : Claimed) (o : Lost) (log : LogCell) (f : Flag) → Runs (by_flag node c o log f)
flag_runs node c o log flag.Trying = refl
flag_runs node c o log flag.Decided = refl
flag_runs node c o log flag.Undone = refl

log_runs : (node : Node) (c : Claimed) (o : Lost) (log : Option LogCell) → Runs (takes_log node c o (Log log))
log_runs node c o None = refl
log_runs node c o (Some log) = flag_runs node c o log log.entry.flag

-- ---- what a node knows of the cells that it stores

-- the stamp of the log cell; and what is in hand is the cell of the first record that is left
abbrev Knows : World → Doing → Type 0
Knows w (Inside t) = log_stamp (w.logs t.tid) ≡ 0
Knows w (Trying t) = log_stamp (w.logs t.tid) ≡ 0
Knows w (Stores s l) = (log_stamp (w.logs s.txn.tid) ≡ s.log) × HandOk s.left l
Knows w (Removes r l) = (log_stamp (w.logs r.txn.tid) ≡ r.log) × HandOk r.left l
Knows w (Stripping c o log keys l) = (log_stamp (w.logs log.entry.tid) ≡ log.stamp) × KeyHandOk keys l
Knows w doing = Unit {0}

module _ (settings : Settings) (catalog : Catalog) (w : World) (n : ℕ) where
  -- the places serve what is asked, if anything is, and aren't full
  abbrev pub Replied : Option Ask → Heard → Parts → Type 0
  Replied None heard after = ⊥
  Replied (Some ask) heard after = Serves settings (parts_of w) n ask heard after × HasRoom ask heard

  -- a store was made, or found another stamp
  by_stored : (P : Heard → Type 0) (found stamp : ℕ) (heard : Heard) (done : ℕ → Parts) (after : Parts)
      → ((fresh : ℕ) → P (Stored fresh)) → ((found == stamp) ≡ false → P Moved) → served.Stores found stamp heard done (parts_of w) after → IsPlain heard → P heard
  by_stored P found stamp heard done after f g s =
      by_store (λ x q. IsPlain x → P x) found stamp heard done (parts_of w) after (λ fresh same above plain. f fresh) (λ moved plain. g moved) (λ plain. absurd plain) s

  -- it found the stamp that stands
  unmoved : (P : Type 0) (found stamp : ℕ) → found ≡ stamp → (found == stamp) ≡ false → P
  unmoved P found stamp same moved = absurd (both_ways (found == stamp) moved (eq-eqb found stamp same))

  outside_runs : (node : Node) (statement : Bound) (heard : Heard) (after : Parts) → Serves settings (parts_of w) n (asks_outside settings node statement (course_outside statement)) heard after
      → Runs (takes_outside settings node (course_outside statement) heard)
  outside_runs node bound.Begin heard after v = subst (λ (x : Heard). Runs (takes_outside settings node ToBegin x)) (sym v.0) refl
  outside_runs node (bound.Select query) heard after v = subst (λ (x : Heard). Runs (takes_outside settings node ToBegin x)) (sym v.0) refl
  outside_runs node (bound.Change edit) heard after v = subst (λ (x : Heard). Runs (takes_outside settings node ToBegin x)) (sym v.0) refl
  outside_runs node bound.Commit heard after v = subst (λ (x : Heard). Runs (takes_outside settings node ToIdle x)) (sym v.0.1) refl
  outside_runs node bound.Rollback heard after v = subst (λ (x : Heard). Runs (takes_outside settings node ToIdle x)) (sym v.0.1) refl
  outside_runs node (bound.Recover gone) heard after (inl v) = subst (λ (x : Heard). Runs (takes_outside settings node (ToRecover gone) x)) (sym v.1) refl
  outside_runs node (bound.Recover gone) heard after (inr v) = subst (λ (x : Heard). Runs (takes_outside settings node (ToRecover gone) x)) (sym v.4) refl

  noted_runs : (node : Node) (statement : Bound) (m : ℕ) (seen : TidSet) (heard : Heard) (after : Parts)
      → Serves settings (parts_of w) n (AskManager m (manager.Begin node.number seen)) heard after → Runs (takes_noted settings node statement seen heard)
  noted_runs node statement m seen heard after (inl v) = subst (λ (x : Heard). Runs (takes_noted settings node statement seen x)) (sym v.2) (begins_runs (learnt node (home_of settings node.number) v.1) statement (begun_txn v.0 (newer (w.copies m) seen)))
  noted_runs node statement m seen heard after (inr v) = subst (λ (x : Heard). Runs (takes_noted settings node statement seen x)) (sym v.0) refl

  drawing_runs : (node : Node) (seen : TidSet) (heard : Heard) (after : Parts) → Replied (asks_doing settings catalog node bound.Begin (Drawing seen)) heard after
      → Runs (takes_drawing node seen heard)
  drawing_runs node seen heard after (inl v, plain) = subst (λ (x : Heard). Runs (takes_drawing node seen x)) (sym v.0) refl
  drawing_runs node seen heard after (inr v, plain) = absurd (subst IsPlain v.0 plain)

  read_runs : (node : Node) (statement : Bound) (t : Txn) (reads : Reads) (left : List Read) (heard : Heard) (after : Parts) (told : Answer) → is_empty left ≡ false
      → Serves settings (parts_of w) n (asks_read left) heard after → Runs (takes_read settings catalog node statement t (record reads { left = left }) heard told)
  read_runs node statement t reads [] heard after told some v = absurd cc
  read_runs node statement t reads (Point key ∷ left) heard after told some v =
      let all : Reads = record reads { left = Point key ∷ left } in
      subst (λ (x : Heard). Runs (takes_read settings catalog node statement t all x told)) (sym v.0) (on_runs catalog node statement t (take_cell t.snapshot (w.cells key).versions all left) told)
  read_runs node statement t reads (Range shard from first before ∷ left) heard after told some v =
      let all : Reads = record reads { left = Range shard from first before ∷ left } in
      subst (λ (x : Heard). Runs (takes_read settings catalog node statement t all x told)) (sym v.0.2)
      (on_runs catalog node statement t (take_page settings.shards t.snapshot shard from first before v.0.0 v.0.1 all left) told)

  -- the log cell is stored for the first time
  trying_runs : (P : Heard → Type 0) (node : Node) (t : Txn) (heard : Heard) (after : Parts) → log_stamp (w.logs t.tid) ≡ 0 → ((stamp : ℕ) → P (Stored stamp))
      → Replied (Some (store_trying node t)) heard after → P heard
  trying_runs P node t heard after none f v =
      by_stored P (log_stamp (w.logs t.tid)) 0 heard _ after f (unmoved (P Moved) (log_stamp (w.logs t.tid)) 0 none) v.0 v.1

  commit_runs : (node : Node) (t : Txn) (heard : Heard) (after : Parts) → log_stamp (w.logs t.tid) ≡ 0 → Replied (Some (asks_commit settings node t)) heard after
      → Runs (takes_commit settings node t heard)
  commit_runs node t heard after none = by (is_empty t.own) (nat_le settings.managers 1)
    where
      by : (x y : Bool) → Replied (Some (if x then LoadCommits else (if y then store_trying node t else AskManager (other_manager settings node) (manager.Floor t.snapshot)))) heard after
          → Runs (takes_commit settings node t heard)
      by true y v = subst (λ (x : Heard). Runs (takes_commit settings node t x)) (sym v.0.0) refl
      by false true v = trying_runs (λ (x : Heard). Runs (takes_commit settings node t x)) node t heard after none (λ stamp. refl) v
      by false false v = subst (λ (x : Heard). Runs (takes_commit settings node t x)) (sym v.0.0.1) refl

  inside_runs : (node : Node) (statement : Bound) (t : Txn) (course : Course) (heard : Heard) (after : Parts) (told : Answer) → CourseIs course → log_stamp (w.logs t.tid) ≡ 0
      → Replied (Some (asks_inside settings node t course)) heard after → Runs (takes_inside settings catalog node statement t course heard told)
  inside_runs node statement t (ToRead reads) heard after told c none v = read_runs node statement t reads reads.left heard after told c v.0
  inside_runs node statement t ToIdle heard after told c none v =
      subst (λ (x : Heard). Runs (takes_inside settings catalog node statement t ToIdle x told)) (sym v.0.0.1) (idles_runs catalog (learnt node (home_of settings node.number) v.0.0.0) statement t (begin_reads (all_reads catalog statement)) told)
  inside_runs node statement t ToCommit heard after told c none v = commit_runs node t heard after none v
  inside_runs node statement t ToGiveUp heard after told c none v = subst (λ (x : Heard). Runs (takes_give_up node t x)) (sym v.0.0) refl
  inside_runs node statement t ToBegin heard after told c none v = absurd c
  inside_runs node statement t (ToRecover gone) heard after told c none v = absurd c

  storing_runs : (node : Node) (s : Storing) (left : List Write) (l : Option Loaded) (heard : Heard) (after : Parts) → log_stamp (w.logs s.txn.tid) ≡ s.log → HandOk left l
      → Replied (Some (asks_storing node (record s { left = left }) l)) heard after → Runs (takes_storing node s l left heard)
  storing_runs node s [] None heard after same hand v =
      by_stored (λ (x : Heard). Runs (takes_storing node s None [] x)) (log_stamp (w.logs s.txn.tid)) s.log heard _ after (λ fresh. refl)
      (unmoved (Runs (takes_storing node s None [] Moved)) (log_stamp (w.logs s.txn.tid)) s.log same) v.0 v.1
  storing_runs node s (o ∷ left) None heard after same hand v =
      subst (λ (x : Heard). Runs (takes_storing node s None (o ∷ left) x)) (sym v.0.0) (finds_runs node s o.key (w.cells o.key) (stranger s.txn.snapshot (w.cells o.key).versions))
  storing_runs node s [] (Some l) heard after same hand v = absurd hand
  storing_runs node s (o ∷ left) (Some l) heard after same hand v =
      by_stored (λ (x : Heard). Runs (takes_storing node s (Some l) (o ∷ left) x)) (w.cells l.key).stamp l.stamp heard _ after (λ fresh. refl) (λ moved. refl) v.0 v.1

  removing_runs : (node : Node) (r : Removing) (left : List Write) (l : Option Loaded) (heard : Heard) (after : Parts) → log_stamp (w.logs r.txn.tid) ≡ r.log → HandOk left l
      → Replied (Some (asks_removing node (record r { left = left }) l)) heard after → Runs (takes_removing node r l left heard)
  removing_runs node r [] None heard after same hand v =
      by_stored (λ (x : Heard). Runs (takes_removing node r None [] x)) (log_stamp (w.logs r.txn.tid)) r.log heard _ after (λ fresh. refl)
      (unmoved (Runs (takes_removing node r None [] Moved)) (log_stamp (w.logs r.txn.tid)) r.log same) v.0 v.1
  removing_runs node r (o ∷ left) None heard after same hand v = subst (λ (x : Heard). Runs (takes_removing node r None (o ∷ left) x)) (sym v.0.0) refl
  removing_runs node r [] (Some l) heard after same hand v = absurd hand
  removing_runs node r (o ∷ left) (Some l) heard after same hand v =
      by_stored (λ (x : Heard). Runs (takes_removing node r (Some l) (o ∷ left) x)) (w.cells l.key).stamp l.stamp heard _ after (λ fresh. refl) (λ moved. refl) v.0 v.1

  closing_runs : (node : Node) (t : Txn) (d : Decision) (c : Option CommitsCell) (heard : Heard) (after : Parts) → Replied (Some (asks_finish t.tid c)) heard after
      → Runs (takes_closing node t d c heard)
  closing_runs node t d None heard after v = subst (λ (x : Heard). Runs (takes_closing node t d None x)) (sym v.0.0) refl
  closing_runs node t d (Some c) heard after v =
      by_stored (λ (x : Heard). Runs (takes_closing node t d (Some c) x)) w.commits.stamp c.stamp heard _ after (λ fresh. refl) (λ moved. refl) v.0 v.1

  -- ---- the transactions of vanished nodes

  recovering_runs : (node : Node) (c : Claimed) (left : List ℕ) (heard : Heard) (after : Parts) → is_empty left ≡ false
      → Replied (Some (asks_duty settings (record c { left = left }))) heard after → Runs (takes_recovering node c left heard)
  recovering_runs node c [] heard after some v = absurd cc
  recovering_runs node c (d ∷ left) heard after some ((inl v, same), room) =
      subst (λ (x : Heard). Runs (takes_recovering node c (d ∷ left) x)) (sym v.2) (lost_runs node (record c { left = left }) d (v.0.tid ∷ []))
  recovering_runs node c (d ∷ left) heard after some ((inr v, same), room) =
      subst (λ (x : Heard). Runs (takes_recovering node c (d ∷ left) x)) (sym v.1) (lost_runs node (record c { left = left }) d [])

  stripping_runs : (node : Node) (c : Claimed) (o : Lost) (log : LogCell) (keys : List Key) (l : Option Loaded) (heard : Heard) (after : Parts)
      → log_stamp (w.logs log.entry.tid) ≡ log.stamp → KeyHandOk keys l → Replied (Some (asks_stripping o log keys l)) heard after
      → Runs (takes_stripping node c o log keys l heard)
  stripping_runs node c o log [] None heard after same hand v =
      by_stored (λ (x : Heard). Runs (takes_stripping node c o log [] None x)) (log_stamp (w.logs log.entry.tid)) log.stamp heard _ after (λ fresh. refl)
      (unmoved (Runs (takes_stripping node c o log [] None Moved)) (log_stamp (w.logs log.entry.tid)) log.stamp same) v.0 v.1
  stripping_runs node c o log (key ∷ keys) None heard after same hand v =
      subst (λ (x : Heard). Runs (takes_stripping node c o log (key ∷ keys) None x)) (sym v.0.0) (by (is_written o.tid (w.cells key).versions))
    where
      by : (b : Bool)
          → Runs (cond b (with_doing node (Stripping c o log (key ∷ keys) (Some (record { key = key; stamp = (w.cells key).stamp; versions = (w.cells key).versions }))))
          (with_doing node (Stripping c o log keys None)))
      by true = refl
      by false = refl
  stripping_runs node c o log [] (Some l) heard after same hand v = absurd hand
  stripping_runs node c o log (key ∷ keys) (Some l) heard after same hand v =
      by_stored (λ (x : Heard). Runs (takes_stripping node c o log (key ∷ keys) (Some l) x)) (w.cells l.key).stamp l.stamp heard _ after (λ fresh. refl) (λ moved. refl) v.0 v.1

  finishing_runs : (node : Node) (c : Claimed) (o : Lost) (committed : Bool) (x : Option CommitsCell) (heard : Heard) (after : Parts) → Replied (Some (asks_finish o.tid x)) heard after
      → Runs (takes_finishing node c o committed x heard)
  finishing_runs node c o committed None heard after v =
      subst (λ (y : Heard). Runs (takes_finishing node c o committed None y)) (sym v.0.0) (by (has w.commits.finished o.tid))
    where
      by : (b : Bool) → Runs (cond b (with_doing node (EndingLost c o)) (with_doing node (Finishing c o committed (Some w.commits))))
      by true = refl
      by false = refl
  finishing_runs node c o committed (Some x) heard after v =
      by_stored (λ (y : Heard). Runs (takes_finishing node c o committed (Some x) y)) w.commits.stamp x.stamp heard _ after (λ fresh. refl) (λ moved. refl) v.0 v.1

  doing_runs : (node : Node) (statement : Bound) (doing : Doing) (heard : Heard) (after : Parts) (told : Answer) → LeftIs doing → Knows w doing
      → Replied (asks_doing settings catalog node statement doing) heard after → Runs (takes_doing settings catalog node statement doing heard told)
  doing_runs node statement Outside heard after told left knows v = outside_runs node statement heard after v.0
  doing_runs node statement (Noted seen) heard after told left knows v = noted_runs node statement _ seen heard after v.0
  doing_runs node statement (Drawing seen) heard after told left knows v = drawing_runs node seen heard after v
  doing_runs node statement (Bringing seen low) heard after told left knows v = subst (λ (x : Heard). Runs (takes_bringing node seen x)) (sym v.0.0) refl
  doing_runs node statement (Inside t) heard after told left knows v =
      inside_runs node statement t (course_in catalog t.stage statement) heard after told (course_is catalog t.stage statement) knows v
  doing_runs node statement (Reading t reads) heard after told left knows v = read_runs node statement t reads reads.left heard after told left v.0
  doing_runs node statement (Trying t) heard after told left knows v = trying_runs (λ (x : Heard). Runs (takes_trying node t x)) node t heard after knows (λ stamp. refl) v
  doing_runs node statement (Stores s l) heard after told left knows v = storing_runs node s s.left l heard after knows.0 knows.1 v
  doing_runs node statement (Removes r l) heard after told left knows v = removing_runs node r r.left l heard after knows.0 knows.1 v
  doing_runs node statement (Closing t d c) heard after told left knows v = closing_runs node t d c heard after v
  doing_runs node statement (Ending tid said_so) heard after told left knows v = subst (λ (x : Heard). Runs (takes_ending node said_so x)) (sym v.0.0) refl
  doing_runs node statement (Recovering c) heard after told left knows v = recovering_runs node c c.left heard after left v
  doing_runs node statement (ReadingLog c o) heard after told left knows v = subst (λ (x : Heard). Runs (takes_log node c o x)) (sym v.0.0) (log_runs node c o (w.logs o.tid))
  doing_runs node statement (Stripping c o log keys l) heard after told left knows v = stripping_runs node c o log keys l heard after knows.0 knows.1 v
  doing_runs node statement (Finishing c o committed x) heard after told left knows v = finishing_runs node c o committed x heard after v
  doing_runs node statement (EndingLost c o) heard after told left knows v =
      subst (λ (x : Heard). Runs (takes_end_lost node c o x)) (sym v.0.0) (lost_runs node c o.node o.others)
  doing_runs node statement (Stopped nodes) heard after told left knows v = absurd v

  todo_runs : (node : Node) (heard : Heard) (after : Parts) (told : Answer) → LeftIs node.doing → Knows w node.doing → Replied (asks settings catalog node) heard after
      → Runs (takes settings catalog node heard told)
  todo_runs node heard after told left knows = by node.todo
    where
      by : (todo : List Bound) → Replied (asks settings catalog (record node { todo = todo })) heard after → Runs (takes settings catalog (record node { todo = todo }) heard told)
      by [] v = absurd v
      by (statement ∷ later) v = doing_runs (record node { todo = statement ∷ later }) statement node.doing heard after told left knows v

-- ---- the protocol's invariant knows it

module _ (R : Txn → List Fact → Reads → Type 0) (layout : Layout) (setup : Setup) (settings : Settings) (w : World) (state : SiState)
    (entries : List Entry) (n : ℕ) (node : Node) (b : Before R layout setup settings w state entries n node) where
  in_log : (p : Phase) → w.phases n ≡ p → HasInLog w n p
  in_log p e = subst (HasInLog w n) e (nodes_know setup w state entries (reached b.opening b.reach) n b.runs)

  lost_stamp : (c : Claimed) (o : Lost) (log : LogCell) (keys : List Key) (l : Option Loaded) → RecoveryIs (Stripping c o log keys l) (w.recoveries n)
      → log_stamp (w.logs log.entry.tid) ≡ log.stamp
  lost_stamp c o log keys l k =
      let r : Reached setup w state entries = reached b.opening b.reach in
      let strip = (recovery_at w r.ledger r.ghost r.inv n (protocol.Stripping k.0 (orphan_of o) log k.1 l) (record { runs = b.runs; so_far = k.2 })).1 in
      let undoing : NodeOk (shared (base w) r.ghost) o.node (protocol.Undoing strip.a strip.rival None) (r.ledger.seats o.node) =
      subst (λ (p : Phase). NodeOk (shared (base w) r.ghost) o.node p (r.ledger.seats o.node)) strip.is_so (r.inv.core.nodes o.node) in
      ap (λ (x : LogCell). log_stamp (w.logs x.entry.tid)) strip.log_is ∙ ap log_stamp undoing.log ∙ ap (λ (x : LogCell). x.stamp) (sym strip.log_is)

  knows : (doing : Doing) → PhaseIs R doing (w.phases n) → RecoveryIs doing (w.recoveries n) → Knows w doing
  knows (Inside t) p r = ap log_stamp (in_log (protocol.Live t []) p.0).0
  knows (Trying t) p r = ap log_stamp (in_log (protocol.Live t []) p.0).0
  knows (Stores s l) p r = (ap log_stamp (in_log (protocol.Trying (attempt_of s) l) p.0).0, p.3)
  knows (Removes s l) p r = (ap log_stamp (in_log (protocol.Undoing (attempt_left s) (Some s.rival) l) p.0).0, p.3)
  knows (Stripping c o log keys l) p r = (lost_stamp c o log keys l r, r.7)
  knows doing p r = tt

  -- the node doesn't stop at what it hears
  pub goes_on_at : (ask : Ask) (heard : Heard) (after : Parts) (told : Answer) → asks settings setup.catalog node ≡ Some ask → LeftIs node.doing
      → Serves settings (parts_of w) n ask heard after → HasRoom ask heard → is_stopped (takes settings setup.catalog node heard told).doing ≡ false
  goes_on_at ask heard after told asked left serves room =
      todo_runs settings setup.catalog w n node heard after told left (knows node.doing b.node_is.phase b.node_is.recovery)
      (subst (λ (o : Option Ask). Replied settings setup.catalog w n o heard after) (sym asked) (serves, room))
