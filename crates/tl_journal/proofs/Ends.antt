-- A node commits, gives up, finishes and ends its transaction: how the protocol goes on.
use Rattle.std.proofs.Common.{◌≡◌, ℕ, ◌<◌, Bool, true, false, inr, List, [], ◌∷◌, Option, Some, None, refl, sym, ap, subst, ⊎_elim}
use Rattle.std.specs.Prelude.{◌+◌, nat_le, not, if◌then◌else◌}
use Rattle.tl_base.specs.declared.place.Settings.{Settings}
use Rattle.tl_schema.specs.declared.catalog.Catalog.{Catalog}
use Rattle.tl_schema.specs.declared.catalog.Setup.{Setup}
use Rattle.tl_descriptor.specs.Tids.{TidSet, inserted}
use Rattle.tl_logrec.specs.declared.entry.Flag.TheVariants as flag
use Rattle.tl_manager.specs.declared.request.ManagerRequest.TheVariants as asked
use Rattle.tl_manager.specs.Floor.{newer}
use Rattle.tl_isolation.specs.declared.bound.Bound.{Bound}
use Rattle.tl_isolation.specs.declared.bound.Bound.TheVariants as bound
use Rattle.tl_isolation.specs.declared.entry.Answer.{Answer}
use Rattle.tl_isolation.specs.declared.entry.Entry.{Entry}
use Rattle.tl_isolation.specs.declared.entry.Entry.TheVariants as entry
use Rattle.tl_isolation.specs.declared.state.SiState.{SiState}
use Rattle.tl_isolation.specs.State.{is_refusal}
use Rattle.tl_protocol.specs.Store.{CommitsCell, log_stamp, put}
use Rattle.tl_protocol.specs.World.{Stage, Fresh, Opened, Answering, Txn, Fact, Decision, Commit, Undo, World, At}
use Rattle.tl_protocol.specs.World as protocol
use Rattle.tl_protocol.specs.Move as move
use Rattle.tl_protocol.specs.Move.{Move, is_empty, may_commit, may_give_up}
use Rattle.tl_protocol.specs.Next.{end_answer, log_cell, next}
use Rattle.tl_protocol.specs.Told.{finished_as}
use Rattle.tl_protocol.specs.Run.{Layout}
use Rattle.tl_protocol.specs.Stands.{HasInLog}
use Rattle.tl_protocol.proofs.Frames.{put_same}
use Rattle.tl_journal.specs.Ask.{Ask, LoadCommits, StoreCommits, AskManager, Heard, Commits, Stored, Moved, Strange}
use Rattle.tl_journal.specs.Bytes.{home_of}
use Rattle.tl_journal.specs.Reads.{Read, Reads}
use Rattle.tl_journal.specs.Node.{Outside, Inside, Trying, Closing, Ending, Node}
use Rattle.tl_journal.specs.Asks.{ToCommit, ToGiveUp, asks_commit, asks_inside, course_in, other_manager, reading_course, store_trying}
use Rattle.tl_journal.specs.Takes.{answered, learnt, stopped, stores_first, takes_closing, takes_commit, takes_ending, takes_give_up, takes_inside, takes_trying, with_doing}
use Rattle.tl_journal.specs.Says.{says_closing, says_commit, says_ending, says_inside, statement_number}
use Rattle.tl_journal.specs.Served.{IsMark, Parts, Serves, Stores, parts_of, stored_log}
use Rattle.tl_journal.proofs.Meets.{Before, Goes, OwnOk, StatementIs, is_single}
use Rattle.tl_journal.proofs.Begins.{any_statement, so_far}
use Rattle.tl_journal.proofs.Goings.{Steps, going, is_floor, knows, steps_as, stops, turned, turned_learnt}

-- a statement with reads doesn't commit and doesn't give up
reading_goes_on : (reads : Reads) → (reading_course reads ≡ ToCommit → ⊥) × (reading_course reads ≡ ToGiveUp → ⊥)
reading_goes_on reads = by reads.left
  where
    by : (left : List Read) → (reading_course (record reads { left = left }) ≡ ToCommit → ⊥) × (reading_course (record reads { left = left }) ≡ ToGiveUp → ⊥)
    by [] = (λ e. cc, λ e. cc)
    by (read ∷ left) = (λ e. cc, λ e. cc)

-- COMMIT comes in a transaction that BEGIN opened, or the one statement was not refused
commits_so : (catalog : Catalog) (stage : Stage) (statement : Bound) → course_in catalog stage statement ≡ ToCommit
    → (stage ≡ Fresh → is_single statement ≡ true) → may_commit stage ≡ true
commits_so catalog Opened statement e s = refl
commits_so catalog (Answering told) statement e s = by (is_refusal told) e
  where
    by : (b : Bool) → (if b then ToGiveUp else ToCommit) ≡ ToCommit → not b ≡ true
    by true e = cc
    by false e = refl
commits_so catalog Fresh bound.Begin e s = cc
commits_so catalog Fresh bound.Commit e s = let h = s refl in cc
commits_so catalog Fresh bound.Rollback e s = cc
commits_so catalog Fresh (bound.Recover gone) e s = cc
commits_so catalog Fresh (bound.Select query) e s = absurd ((reading_goes_on _).0 e)
commits_so catalog Fresh (bound.Change edit) e s = absurd ((reading_goes_on _).0 e)

-- ROLLBACK comes in one, or the one statement was refused
gives_up_so : (catalog : Catalog) (stage : Stage) (statement : Bound) → course_in catalog stage statement ≡ ToGiveUp
    → (stage ≡ Fresh → is_single statement ≡ true) → may_give_up stage ≡ true
gives_up_so catalog Opened statement e s = refl
gives_up_so catalog (Answering told) statement e s = by (is_refusal told) e
  where
    by : (b : Bool) → (if b then ToGiveUp else ToCommit) ≡ ToGiveUp → b ≡ true
    by true e = refl
    by false e = cc
gives_up_so catalog Fresh bound.Begin e s = cc
gives_up_so catalog Fresh bound.Commit e s = cc
gives_up_so catalog Fresh bound.Rollback e s = let h = s refl in cc
gives_up_so catalog Fresh (bound.Recover gone) e s = cc
gives_up_so catalog Fresh (bound.Select query) e s = absurd ((reading_goes_on _).1 e)
gives_up_so catalog Fresh (bound.Change edit) e s = absurd ((reading_goes_on _).1 e)

-- what a commit asks, by whether there are writes, and whether there is one manager alone
abbrev by_writes : Settings → Node → Txn → Bool → Bool → Ask
by_writes settings node t empty alone =
    if empty then LoadCommits else (if alone then store_trying node t else AskManager (other_manager settings node) (asked.Floor t.snapshot))

module _ (R : Txn → List Fact → Reads → Type 0) (layout : Layout) (setup : Setup) (settings : Settings) where
  -- a transaction without writes has no log cell: the commits cell is loaded
  commits_nothing : (node : Node) (t : Txn) (w : World) (state : SiState) (entries : List Entry) (told : Heard) (after : Parts)
      → Before R layout setup settings w state entries node.number node → w.phases node.number ≡ protocol.Live t [] → w.recoveries node.number ≡ protocol.NoDuty
      → may_commit t.stage ≡ true → is_empty t.own ≡ true → told ≡ Commits w.commits → after ≡ parts_of w
      → Goes R layout setup settings w state entries (says_commit t told) node.number (takes_commit settings node t told) after
  commits_nothing node t w state entries told after b live recovery may none e parts =
      let n : ℕ = node.number in
      let at : At w n (protocol.Live t []) = record { runs = b.runs; so_far = live } in
      let first : Move w = move.TryNothing n t [] at may none in
      let new : Node = with_doing node (Closing t Commit (Some w.commits)) in
      subst (λ x. Goes R layout setup settings w state entries (says_commit t x) n (takes_commit settings node t x) after) (sym e)
      (going R layout setup settings w state entries n node b new after (entry.Tried t.tid ∷ []) first refl refl refl (sym parts)
      (turned R settings node new w (next w first) n b.node_is refl refl (λ j. refl)
      (put_same n (protocol.Closing t Commit (Some w.commits)) w.phases) recovery
      (any_statement (StatementIs (Closing t Commit (Some w.commits))) (λ s. tt) node.todo)))

  -- the log cell is stored
  tries : (node : Node) (t : Txn) (w : World) (state : SiState) (entries : List Entry) (stamp : ℕ) (after : Parts)
      → Before R layout setup settings w state entries node.number node → w.phases node.number ≡ protocol.Live t [] → w.recoveries node.number ≡ protocol.NoDuty
      → OwnOk t.own → may_commit t.stage ≡ true → is_empty t.own ≡ false → log_stamp (w.logs t.tid) ≡ 0 → 0 < stamp
      → after ≡ stored_log (parts_of w) (log_cell 0 node.number flag.Trying t).entry stamp
      → Goes R layout setup settings w state entries (entry.Tried t.tid ∷ []) node.number (with_doing node (stores_first t stamp)) after
  tries node t w state entries stamp after b live recovery own may some absent above parts =
      let n : ℕ = node.number in
      let at : At w n (protocol.Live t []) = record { runs = b.runs; so_far = live } in
      let first : Move w = move.Try n stamp t [] at may some absent above in
      let new : Node = with_doing node (stores_first t stamp) in
      going R layout setup settings w state entries n node b new after (entry.Tried t.tid ∷ []) first refl refl refl (sym parts)
      (turned R settings node new w (next w first) n b.node_is refl refl (λ j. refl)
      (put_same n (protocol.Trying (record { txn = t; log = stamp; stored = λ k. false }) None) w.phases, own, refl, tt) recovery
      (any_statement (StatementIs (stores_first t stamp)) (λ s. tt) node.todo))

  -- whether the log cell is stored or not
  tries_to : (node : Node) (t : Txn) (w : World) (state : SiState) (entries : List Entry) (told : Heard) (after : Parts) (takes : Heard → Node)
      → Before R layout setup settings w state entries node.number node → w.phases node.number ≡ protocol.Live t [] → w.recoveries node.number ≡ protocol.NoDuty
      → OwnOk t.own → may_commit t.stage ≡ true → is_empty t.own ≡ false
      → Stores (log_stamp (w.logs t.tid)) 0 told (stored_log (parts_of w) (log_cell 0 node.number flag.Trying t).entry) (parts_of w) after
      → ((stamp : ℕ) → takes (Stored stamp) ≡ with_doing node (stores_first t stamp)) → takes Moved ≡ stopped node → takes Strange ≡ stopped node
      → Goes R layout setup settings w state entries (says_commit t told) node.number (takes told) after
  tries_to node t w state entries told after takes b live recovery own may some served stored moved strange =
      ⊎_elim
      (λ h.
      subst (λ x. Goes R layout setup settings w state entries (says_commit t x) node.number (takes x) after) (sym h.1)
      (subst (λ x. Goes R layout setup settings w state entries (entry.Tried t.tid ∷ []) node.number x after) (sym (stored h.0))
      (tries node t w state entries h.0 after b live recovery own may some h.2 h.3 h.4)))
      (⊎_elim
      (λ h.
      subst (λ x. Goes R layout setup settings w state entries (says_commit t x) node.number (takes x) after) (sym h.0)
      (subst (λ x. Goes R layout setup settings w state entries [] node.number x after) (sym moved)
      (stops R layout setup settings w state entries node.number node b after (sym h.2))))
      (λ h.
      subst (λ x. Goes R layout setup settings w state entries (says_commit t x) node.number (takes x) after) (sym h.0)
      (subst (λ x. Goes R layout setup settings w state entries [] node.number x after) (sym strange)
      (stops R layout setup settings w state entries node.number node b after (sym h.1)))))
      served

  -- before that another manager is asked for its low-water mark
  asks_other : (node : Node) (t : Txn) (w : World) (state : SiState) (entries : List Entry) (m : ℕ) (floor : TidSet) (after : Parts)
      → Before R layout setup settings w state entries node.number node → w.phases node.number ≡ protocol.Live t [] → w.recoveries node.number ≡ protocol.NoDuty
      → OwnOk t.own → may_commit t.stage ≡ true → is_empty t.own ≡ false
      → IsMark settings w.active m (newer (w.copies m) t.snapshot) floor
      → after ≡ record (parts_of w) { copies = put m (newer (w.copies m) t.snapshot) w.copies }
      → Goes R layout setup settings w state entries [] node.number
      (record (learnt node m floor) { asked_others = node.asked_others + 1; doing = Trying t }) after
  asks_other node t w state entries m floor after b live recovery own may some mark parts =
      let n : ℕ = node.number in
      let first : Move w = move.Learn n m t.snapshot floor b.runs (inr (t, [], live, refl)) (is_floor settings w m (newer (w.copies m) t.snapshot) floor b.laid_out mark) in
      let new : Node = record (learnt node m floor) { asked_others = node.asked_others + 1; doing = Trying t } in
      going R layout setup settings w state entries n node b new after [] first refl refl refl (sym parts)
      (turned_learnt R settings node new w (next w first) n m floor b.node_is refl refl
      (λ j. ap (λ x. x j) (put_same n (put m floor (w.floors n)) w.floors)) (live, own, may, some) recovery
      (any_statement (StatementIs (Trying t)) (λ s. tt) node.todo))

  -- a commit, by whether there are writes and other managers
  commits : (node : Node) (t : Txn) → (e m : Bool) → is_empty t.own ≡ e → nat_le settings.managers 1 ≡ m
      → (w : World) (state : SiState) (entries : List Entry) (told : Heard) (after : Parts)
      → Before R layout setup settings w state entries node.number node → w.phases node.number ≡ protocol.Live t [] → w.recoveries node.number ≡ protocol.NoDuty
      → OwnOk t.own → may_commit t.stage ≡ true
      → Serves settings (parts_of w) node.number (by_writes settings node t e m) told after
      → Goes R layout setup settings w state entries (says_commit t told) node.number (takes_commit settings node t told) after
  commits node t true m empty alone w state entries told after b live recovery own may served =
      commits_nothing node t w state entries told after b live recovery may empty served.0 served.1
  commits node t false true empty alone w state entries told after b live recovery own may served =
      tries_to node t w state entries told after (takes_commit settings node t) b live recovery own may empty served (λ stamp. refl) refl refl
  commits node t false false empty alone w state entries told after b live recovery own may served =
      subst (λ x. Goes R layout setup settings w state entries (says_commit t x) node.number (takes_commit settings node t x) after) (sym served.0.1)
      (asks_other node t w state entries (other_manager settings node) served.0.0 after b live recovery own may empty served.0.2 served.1)

  -- COMMIT, or the end of a statement that was not refused
  pub commit_goes : (node : Node) (statement : Bound) (later : List Bound) (t : Txn) → course_in setup.catalog t.stage statement ≡ ToCommit
      → Steps R layout setup settings (so_far node (statement ∷ later) (Inside t))
  commit_goes node statement later t c =
      let n : ℕ = node.number in
      let here : Node = so_far node (statement ∷ later) (Inside t) in
      steps_as R layout setup settings here (asks_commit settings here t) (ap (λ x. Some (asks_inside settings here t x)) c)
      (λ w state entries told said after b serves means.
      subst
      (λ x.
      Goes R layout setup settings w state entries (says_inside settings here statement t x told said) n
      (takes_inside settings setup.catalog here statement t x told said) after) (sym c)
      (commits here t (is_empty t.own) (nat_le settings.managers 1) refl refl w state entries told after b b.node_is.phase.0 b.node_is.recovery
      b.node_is.phase.1 (commits_so setup.catalog t.stage statement c b.node_is.statement) serves))

  -- ROLLBACK, or the end of a statement that was refused
  pub give_up_goes : (node : Node) (statement : Bound) (later : List Bound) (t : Txn) → course_in setup.catalog t.stage statement ≡ ToGiveUp
      → Steps R layout setup settings (so_far node (statement ∷ later) (Inside t))
  give_up_goes node statement later t c =
      let n : ℕ = node.number in
      let here : Node = so_far node (statement ∷ later) (Inside t) in
      steps_as R layout setup settings here LoadCommits (ap (λ x. Some (asks_inside settings here t x)) c)
      (λ w state entries told said after b serves means.
      let at : At w n (protocol.Live t []) = record { runs = b.runs; so_far = b.node_is.phase.0 } in
      let first : Move w = move.GiveUp n t [] at (gives_up_so setup.catalog t.stage statement c b.node_is.statement) in
      let new : Node = with_doing here (Closing t (Undo None) (Some w.commits)) in
      subst
      (λ x.
      Goes R layout setup settings w state entries (says_inside settings here statement t x told said) n
      (takes_inside settings setup.catalog here statement t x told said) after) (sym c)
      (subst (λ x. Goes R layout setup settings w state entries [] n (takes_give_up here t x) after) (sym serves.0)
      (going R layout setup settings w state entries n here b new after [] first refl refl refl (sym serves.1)
      (turned R settings here new w (next w first) n b.node_is refl refl (λ j. refl)
      (put_same n (protocol.Closing t (Undo None) (Some w.commits)) w.phases) b.node_is.recovery tt))))

  -- another manager's low-water mark was asked for
  pub trying_goes : (node : Node) (statement : Bound) (later : List Bound) (t : Txn)
      → Steps R layout setup settings (so_far node (statement ∷ later) (Trying t))
  trying_goes node statement later t =
      let here : Node = so_far node (statement ∷ later) (Trying t) in
      steps_as R layout setup settings here (store_trying here t) refl
      (λ w state entries told said after b serves means.
      tries_to here t w state entries told after (takes_trying here t) b b.node_is.phase.0 b.node_is.recovery b.node_is.phase.1 b.node_is.phase.2
      b.node_is.phase.3 serves (λ stamp. refl) refl refl)

  -- the commits cell is loaded
  closing_loads : (node : Node) (statement : Bound) (later : List Bound) (t : Txn) (d : Decision)
      → Steps R layout setup settings (so_far node (statement ∷ later) (Closing t d None))
  closing_loads node statement later t d =
      let n : ℕ = node.number in
      let here : Node = so_far node (statement ∷ later) (Closing t d None) in
      steps_as R layout setup settings here LoadCommits refl
      (λ w state entries told said after b serves means.
      let at : At w n (protocol.Closing t d None) = record { runs = b.runs; so_far = b.node_is.phase } in
      let first : Move w = move.LoadCommits n t d at in
      let new : Node = with_doing here (Closing t d (Some w.commits)) in
      subst (λ x. Goes R layout setup settings w state entries (says_closing t d None x) n (takes_closing here t d None x) after) (sym serves.0)
      (going R layout setup settings w state entries n here b new after [] first refl refl refl (sym serves.1)
      (turned R settings here new w (next w first) n b.node_is refl refl (λ j. refl)
      (put_same n (protocol.Closing t d (Some w.commits)) w.phases) b.node_is.recovery tt)))

  -- and stored with the transaction in it, unless it is another by now
  closing_stores : (node : Node) (statement : Bound) (later : List Bound) (t : Txn) (d : Decision) (c : CommitsCell)
      → Steps R layout setup settings (so_far node (statement ∷ later) (Closing t d (Some c)))
  closing_stores node statement later t d c =
      let n : ℕ = node.number in
      let here : Node = so_far node (statement ∷ later) (Closing t d (Some c)) in
      steps_as R layout setup settings here (StoreCommits c.stamp (inserted c.finished t.tid)) refl
      (λ w state entries told said after b serves means.
      let at : At w n (protocol.Closing t d (Some c)) = record { runs = b.runs; so_far = b.node_is.phase } in
      ⊎_elim
      (λ h.
      let first : Move w = move.StoreCommits n h.0 t d c at h.2 h.3 in
      let new : Node = with_doing here (Ending t.tid (end_answer t.stage d)) in
      subst (λ x. Goes R layout setup settings w state entries (says_closing t d (Some c) x) n (takes_closing here t d (Some c) x) after) (sym h.1)
      (going R layout setup settings w state entries n here b new after (finished_as d t.tid ∷ []) first refl refl refl (sym h.4)
      (turned R settings here new w (next w first) n b.node_is refl refl (λ j. refl)
      (put_same n (protocol.Ending t.tid (end_answer t.stage d)) w.phases) b.node_is.recovery tt)))
      (⊎_elim
      (λ h.
      let first : Move w = move.MovedCommits n t d c at h.1 in
      let new : Node = with_doing here (Closing t d None) in
      subst (λ x. Goes R layout setup settings w state entries (says_closing t d (Some c) x) n (takes_closing here t d (Some c) x) after) (sym h.0)
      (going R layout setup settings w state entries n here b new after [] first refl refl refl (sym h.2)
      (turned R settings here new w (next w first) n b.node_is refl refl (λ j. refl)
      (put_same n (protocol.Closing t d None) w.phases) b.node_is.recovery tt)))
      (λ h.
      subst (λ x. Goes R layout setup settings w state entries (says_closing t d (Some c) x) n (takes_closing here t d (Some c) x) after) (sym h.0)
      (stops R layout setup settings w state entries n here b after (sym h.1))))
      serves)

  pub closing_goes : (node : Node) (statement : Bound) (later : List Bound) (t : Txn) (d : Decision) (c : Option CommitsCell)
      → Steps R layout setup settings (so_far node (statement ∷ later) (Closing t d c))
  closing_goes node statement later t d None = closing_loads node statement later t d
  closing_goes node statement later t d (Some c) = closing_stores node statement later t d c

  -- the manager ends it, and its answer is given
  pub ending_goes : (node : Node) (statement : Bound) (later : List Bound) (tid : ℕ) (said_so : Answer)
      → Steps R layout setup settings (so_far node (statement ∷ later) (Ending tid said_so))
  ending_goes node statement later tid said_so =
      let n : ℕ = node.number in
      let here : Node = so_far node (statement ∷ later) (Ending tid said_so) in
      steps_as R layout setup settings here (AskManager (home_of settings n) (asked.End tid)) refl
      (λ w state entries told said after b serves means.
      let at : At w n (protocol.Ending tid said_so) = record { runs = b.runs; so_far = b.node_is.phase } in
      let first : Move w = move.End n (statement_number node) tid said_so at in
      let new : Node = answered here said_so Outside in
      let known : HasInLog w n (protocol.Ending tid said_so) = subst (HasInLog w n) b.node_is.phase (knows R layout setup settings w state entries n here b) in
      subst (λ x. Goes R layout setup settings w state entries (says_ending here said_so x) n (takes_ending here said_so x) after) (sym serves.0)
      (going R layout setup settings w state entries n here b new after (entry.Answered n (statement_number node) said_so ∷ []) first refl refl refl
      (sym (serves.1 n (record { tid = tid; node = n; snapshot = known.0 }) known.1 refl))
      (turned R settings here new w (next w first) n b.node_is refl refl (λ j. refl)
      (put_same n protocol.Idle w.phases) b.node_is.recovery (any_statement (StatementIs Outside) (λ s. tt) later))))
