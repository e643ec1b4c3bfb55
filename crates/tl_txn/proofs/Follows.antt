-- What comes of a reply, phase by phase: for the node by the law, and for its transaction by the code.
use Rattle.std.proofs.Common.{◌≡◌, ℕ, ◌+◌, ◌^◌, Bool, true, false, List, [], ◌∷◌, ◌++◌, take, drop, Option, Some, None, refl, sym, ap, ◌∙◌, subst, arith}
use Rattle.std.specs.Prelude.{not, ◌&&◌, ◌||◌, nat_le, nat_lt, slice_get}
use Rattle.std.proofs.lemmas.Bool.Decides.{nat_tests}
use Rattle.std.proofs.lemmas.Bool.{or_right}
use Rattle.tl_base.specs.declared.place.Settings.{Settings}
use Rattle.tl_schema.specs.declared.catalog.Catalog.{Catalog}
use Rattle.tl_collect.specs.Floors.{least_of}
use Rattle.tl_descriptor.specs.Tids.{TidSet, has, inserted}
use Rattle.tl_logrec.specs.declared.entry.Flag.{Flag}
use Rattle.tl_logrec.specs.declared.entry.Flag.TheVariants as flag
use Rattle.tl_manager.specs.declared.mark.Mark.{Mark}
use Rattle.tl_manager.specs.declared.mark.Mark.TheVariants as mark
use Rattle.tl_manager.specs.declared.mark.TxnStep.{TxnStep}
use Rattle.tl_manager.specs.declared.mark.TxnStep.TheVariants as step
use Rattle.tl_manager.specs.declared.request.ManagerReply.TheVariants as manager
use Rattle.tl_manager.specs.State.{opening_copy}
use Rattle.tl_versions.specs.declared.version.Version.{Version}
use Rattle.tl_versions.specs.Versions.{is_written, prune, stranger}
use Rattle.tl_write.specs.declared.write.Write.{Write}
use Rattle.tl_isolation.specs.declared.bound.Bound.{Bound}
use Rattle.tl_isolation.specs.declared.entry.Answer.{Answer}
use Rattle.tl_isolation.specs.declared.entry.Entry.{Entry}
use Rattle.tl_isolation.specs.declared.entry.Entry.TheVariants as entry
use Rattle.tl_isolation.specs.declared.state.Commit.{Commit as Committed}
use Rattle.tl_protocol.specs.Next.{end_answer, log_cell, own_version}
use Rattle.tl_protocol.specs.Store.{Cell, CommitsCell}
use Rattle.tl_protocol.specs.Told.{finished_as}
use Rattle.tl_protocol.specs.World.{Stage, Commit, Undo}
use Rattle.tl_journal.specs.Ask.{Ask, StoreCommits, StoreLog, StoreRecord, Heard, Commits, Record, Stored, Moved, Numbers, Told, Strange}
use Rattle.tl_journal.specs.Asks.{Course, ToBegin, asks_removing, asks_storing}
use Rattle.tl_journal.specs.Node.{Doing, Outside, Noted, Drawing, Bringing, Inside, Trying, Stores, Removes, Closing, Ending, Node}
use Rattle.tl_journal.specs.Node as law
use Rattle.tl_journal.specs.Says as says
use Rattle.tl_journal.specs.Strange.{is_odd_for, is_stopped}
use Rattle.tl_journal.specs.Takes as law_takes
use Rattle.tl_journal.specs.Takes.{takes_doing, with_doing}
use Rattle.tl_ask.specs.Thin.{commits_if, loaded_if}
use Rattle.tl_txn.specs.Attempt.{Attempt, entry_of, txn_of}
use Rattle.tl_txn.specs.Doing.{closed, decided, doing_of, removing_of, storing_of, txn_in}
use Rattle.tl_txn.specs.Follows.{Begins, Ends, Goes, HasInHand, IsInHand, IsOfNode, MayHear, Suits}
use Rattle.tl_txn.specs.Marks.{entries_of}
use Rattle.tl_txn.specs.Taken as code
use Rattle.tl_txn.specs.Taken.{Taken, ask_removal, ask_store, next_versions, removal_at, takes, unless_odd}
use Rattle.tl_txn.specs.declared.phase.Decision.{Decision as TheDecision}
use Rattle.tl_txn.specs.declared.phase.Decision.TheVariants as decision
use Rattle.tl_txn.specs.declared.phase.Open.{Open}
use Rattle.tl_txn.specs.declared.phase.Phase.{Phase}
use Rattle.tl_txn.specs.declared.phase.Phase.TheVariants as phase
use Rattle.tl_txn.specs.declared.phase.Removing.{Removing as TheRemoving}
use Rattle.tl_txn.specs.declared.phase.Storing.{Storing as TheStoring}
use Rattle.tl_txn.proofs.FollowsLists.{among_first, first, first-drop, length-taken, none_left, one_left, one_taken}

odd_begin : (most tid : ℕ) (shown : Bool) → not (nat_le tid most && not shown) ≡ true → (nat_lt most tid || shown) ≡ true
odd_begin most tid true e = grind (arith, nat_tests)
odd_begin most tid false e = grind (arith, nat_tests)

odd_drawn : (most old : ℕ) → not (nat_le old most) ≡ true → nat_lt most old ≡ true
odd_drawn most old e = grind (arith, nat_tests)

module _ (settings : Settings) (catalog : Catalog) (commits : List Committed) (node : Node) (statement : Bound) (stage : Stage) where
  abbrev pub ByStep : Phase → Heard → Node → List Entry → Bool → Taken → Option TxnStep → Type 0
  ByStep before heard after said odd taken None = HasInHand before → MayHear before heard → (is_stopped after.doing || odd) ≡ true
  ByStep before heard after said odd taken (Some (step.Going mark)) = Goes settings catalog node statement stage after taken × (said ≡ entries_of node.number mark)
  ByStep before heard after said odd taken (Some (step.Ready mark)) = Begins settings commits node statement before heard after said taken mark
  ByStep before heard after said odd taken (Some (step.Leaf mark)) = ⊥
  ByStep before heard after said odd taken (Some (step.Ended mark)) = Ends node stage before after said taken mark
  ByStep before heard after said odd taken (Some (step.NoMemory mark)) = ⊥

  abbrev pub Outcome : Phase → Heard → Node → List Entry → Bool → Taken → Type 0
  Outcome before heard after said odd taken = ByStep before heard after said odd taken taken.step

  unless : (before : Phase) (heard : Heard) (after : Node) (said : List Entry) (odd b : Bool) (taken : Taken) → (b ≡ true → odd ≡ true)
      → Outcome before heard after said odd taken → Outcome before heard after said odd (unless_odd b taken)
  unless before heard after said odd true taken h o = λ in_hand heard_so. or_right (is_stopped after.doing) odd (h refl)
  unless before heard after said odd false taken h o = o

  -- ---- it begins

  asking : (heard : Heard) → Outcome phase.Asking heard (law_takes.takes_outside settings node ToBegin heard) (says.says_outside node statement ToBegin heard)
      (is_odd_for Outside heard) (code.takes_asking settings node.number heard)
  asking (Commits c) = (record { doing = Noted c.finished; after_is = refl; thin_is = refl; ask_is = refl; suits = tt; in_hand = tt }, refl)
  asking heard = λ in_hand heard_so. refl

  noted : (seen : TidSet) (heard : Heard) → Outcome (phase.Noted seen) heard (law_takes.takes_noted settings node statement seen heard)
      (says.says_noted commits node statement heard) (is_odd_for (Noted seen) heard) (code.takes_noted settings node.number seen heard)
  noted seen (Told (manager.Began tid snapshot floor)) =
      unless (phase.Noted seen) (Told (manager.Began tid snapshot floor)) _ _ _ _ _ (odd_begin (2 ^ 62) tid (has snapshot tid))
      (record {
        seen = seen;
        tid = tid;
        snapshot = snapshot;
        floor = floor;
        before_is = refl;
        heard_is = refl;
        told_is = refl;
        phase_is = refl;
        ask_is = refl;
        after_is = refl;
        says_is = refl;
      })
  noted seen (Told manager.NeedRange) = (record { doing = Drawing seen; after_is = refl; thin_is = refl; ask_is = refl; suits = tt; in_hand = tt }, refl)
  noted seen heard = λ in_hand heard_so. refl

  drawing : (seen : TidSet) (heard : Heard) → Outcome (phase.Drawing seen) heard (law_takes.takes_drawing node seen heard) []
      (is_odd_for (Drawing seen) heard) (code.takes_drawing settings node.number seen heard)
  drawing seen (Numbers old) =
      unless (phase.Drawing seen) (Numbers old) _ _ _ _ _ (odd_drawn (2 ^ 62) (old + 16))
      (record { doing = Bringing seen old; after_is = refl; thin_is = refl; ask_is = refl; suits = tt; in_hand = tt }, refl)
  drawing seen heard = λ in_hand heard_so. refl

  bringing : (seen : TidSet) (low : ℕ) (heard : Heard) → Outcome (phase.Bringing seen low) heard (law_takes.takes_bringing node seen heard) []
      (is_odd_for (Bringing seen low) heard) (code.takes_bringing settings node.number seen heard)
  bringing seen low (Told manager.Ranged) = (record { doing = Noted seen; after_is = refl; thin_is = refl; ask_is = refl; suits = tt; in_hand = tt }, refl)
  bringing seen low heard = λ in_hand heard_so. refl

  -- ---- it ends

  -- the finished transactions are loaded
  finishes : (before : Phase) (heard : Heard) (live : Open) (d : TheDecision) (c : CommitsCell) (said : List Entry) (told : Mark) → said ≡ entries_of node.number told
      → Outcome before heard (with_doing node (Closing (txn_in stage live) (decided d) (Some c))) said (has c.finished live.tid) (code.finishes live.tid d c told)
  finishes before heard live d c said told e =
      unless before heard (with_doing node (Closing (txn_in stage live) (decided d) (Some c))) said (has c.finished live.tid) (has c.finished live.tid)
      (code.going (code.closing live.tid d true) (StoreCommits c.stamp (inserted c.finished live.tid)) told) (λ f. f)
      (record { doing = Closing (txn_in stage live) (decided d) (Some c); after_is = refl; thin_is = refl; ask_is = refl; suits = tt; in_hand = tt }, e)

  trying_nothing : (live : Open) (heard : Heard) → Outcome (phase.TryingNothing live) heard (law_takes.takes_commit settings node (txn_in stage live) heard) (says.says_commit (txn_in stage live) heard)
      (is_odd_for (Inside (txn_in stage live)) heard) (code.takes_trying_nothing live heard)
  trying_nothing live (Commits c) =
      finishes (phase.TryingNothing live) (Commits c) live decision.Commit c (entry.Tried live.tid ∷ []) (mark.Tried live.tid) refl
  trying_nothing live Strange = λ in_hand heard_so. refl
  trying_nothing live heard = λ in_hand heard_so. absurd heard_so

  giving_up : (live : Open) (heard : Heard) → Outcome (phase.GivingUp live) heard (law_takes.takes_give_up node (txn_in stage live) heard) []
      (is_odd_for (Inside (txn_in stage live)) heard) (code.takes_giving_up live heard)
  giving_up live (Commits c) =
      finishes (phase.GivingUp live) (Commits c) live (decision.Undo None) c [] mark.Quiet refl
  giving_up live heard = λ in_hand heard_so. refl

  told_finished : (d : TheDecision) (tid : ℕ) → finished_as (decided d) tid ∷ [] ≡ entries_of node.number (code.finished_as d tid)
  told_finished decision.Commit tid = refl
  told_finished (decision.Undo rival) tid = refl

  closing : (tid : ℕ) (d : TheDecision) (loaded : Bool) (heard : Heard)
      → Outcome (phase.Closing tid d loaded) heard (law_takes.takes_closing node (closed stage tid) (decided d) (commits_if loaded) heard)
      (says.says_closing (closed stage tid) (decided d) (commits_if loaded) heard) (is_odd_for (Closing (closed stage tid) (decided d) (commits_if loaded)) heard)
      (code.takes_closing settings node.number tid d loaded heard)
  closing tid d false (Commits c) =
      finishes (phase.Closing tid d false) (Commits c) (record { tid = tid; snapshot = opening_copy; own = []; rows = [] }) d c [] mark.Quiet refl
  closing tid d true (Stored stamp) =
      (record { doing = Ending tid (end_answer stage (decided d)); after_is = refl; thin_is = refl; ask_is = refl; suits = tt; in_hand = tt }, told_finished d tid)
  closing tid d true Moved =
      (record { doing = Closing (closed stage tid) (decided d) None; after_is = refl; thin_is = refl; ask_is = refl; suits = tt; in_hand = tt }, refl)
  closing tid d loaded heard = λ in_hand heard_so. refl

  ending : (tid : ℕ) (d : TheDecision) (heard : Heard)
      → Outcome (phase.Ending tid d) heard (law_takes.takes_ending node (end_answer stage (decided d)) heard) (says.says_ending node (end_answer stage (decided d)) heard)
      (is_odd_for (Ending tid (end_answer stage (decided d))) heard) (code.takes_ending heard)
  ending tid d (Told manager.Ended) =
      record { tid = tid; decision = d; before_is = refl; told_is = refl; phase_is = refl; ask_is = refl; after_is = refl; says_is = refl }
  ending tid d heard = λ in_hand heard_so. refl

  -- ---- it stores its writes

  log_entry : (log : ℕ) (a : Attempt) (mark : Flag) → IsOfNode node.number node.floors a
      → StoreLog log (log_cell 0 node.number mark (txn_of stage a)).entry ≡ StoreLog log (entry_of a mark)
  log_entry log a mark h =
      ap (λ (n : ℕ). StoreLog log (entry_of (record { node = n; tid = a.tid; snapshot = a.snapshot; own = a.own; floor = a.floor }) mark)) (sym h.node_is)

  asked_store : (s : TheStoring) → IsOfNode node.number node.floors s.attempt
      → asks_storing node (storing_of stage s) None ≡ ask_store s (slice_get s.attempt.own s.stored)
  asked_store s h = by (drop s.stored s.attempt.own) ∙ ap (ask_store s) (first-drop s.stored s.attempt.own)
    where
      by : (left : List Write) → asks_storing node (record { txn = txn_of stage s.attempt; log = s.log; stored = take s.stored s.attempt.own; left = left }) None ≡ ask_store s (first left)
      by [] = log_entry s.log s.attempt flag.Decided h
      by (o ∷ left) = refl

  among : (r : TheRemoving) → removal_at r ≡ slice_get (take r.stored r.attempt.own) r.removed
  among r = among_first r.stored r.attempt.own r.removed

  asked_removal : (r : TheRemoving) → IsOfNode node.number node.floors r.attempt
      → asks_removing node (removing_of stage r) None ≡ ask_removal r (removal_at r)
  asked_removal r h = by (drop r.removed (take r.stored r.attempt.own)) ∙ ap (ask_removal r) (first-drop r.removed (take r.stored r.attempt.own) ∙ sym (among r))
    where
      by : (left : List Write) → asks_removing node (record { txn = txn_of stage r.attempt; log = r.log; rival = r.rival; left = left }) None ≡ ask_removal r (first left)
      by [] = log_entry r.log r.attempt flag.Undone h
      by (o ∷ left) = refl

  -- the next own record is asked for, by a node that stores what the code stores
  stores : (s : TheStoring) (node_s : law.Storing) (mark : Mark) → IsOfNode node.number node.floors s.attempt → node_s ≡ storing_of stage s
      → Goes settings catalog node statement stage (with_doing node (Stores node_s None)) (code.storing (record s { loaded = false }) mark)
  stores s node_s mark h e = record {
    doing = Stores node_s None;
    after_is = refl;
    thin_is = ap (λ (x : law.Storing). Stores x None) e;
    ask_is = ap (λ (x : law.Storing). Some (asks_storing node x None)) e ∙ ap (λ (ask : Ask). Some ask) (asked_store s h);
    suits = h;
    in_hand = tt;
  }

  removes : (r : TheRemoving) (node_r : law.Removing) (mark : Mark) → IsOfNode node.number node.floors r.attempt → node_r ≡ removing_of stage r
      → Goes settings catalog node statement stage (with_doing node (Removes node_r None)) (code.removing (record r { loaded = false }) mark)
  removes r node_r mark h e = record {
    doing = Removes node_r None;
    after_is = refl;
    thin_is = ap (λ (x : law.Removing). Removes x None) e;
    ask_is = ap (λ (x : law.Removing). Some (asks_removing node x None)) e ∙ ap (λ (ask : Ask). Some ask) (asked_removal r h);
    suits = h;
    in_hand = tt;
  }

  trying : (a : Attempt) (heard : Heard) → IsOfNode node.number node.floors a
      → Outcome (phase.Trying a) heard (law_takes.takes_trying node (txn_of stage a) heard) (says.says_commit (txn_of stage a) heard)
      (is_odd_for (Trying (txn_of stage a)) heard) (code.takes_trying a heard)
  trying a (Stored stamp) h = (stores (record { attempt = a; log = stamp; stored = 0; loaded = false }) (record { txn = txn_of stage a; log = stamp; stored = []; left = a.own }) (mark.Tried a.tid) h refl, refl)
  trying a heard h = λ in_hand heard_so. refl

  -- ---- an own record is loaded

  next_is : (a : Attempt) (key : List ℕ) (stamp : ℕ) (versions : List Version) → IsOfNode node.number node.floors a
      → StoreRecord key stamp (prune (least_of node.floors) (own_version key (txn_of stage a) ∷ versions)) ≡ StoreRecord key stamp (next_versions a key versions)
  next_is a key stamp versions h =
      ap (λ (low : TidSet). StoreRecord key stamp (prune low (own_version key (txn_of stage a) ∷ versions))) (sym h.floor_is)

  finds : (s : TheStoring) (o : Write) (cell : Cell) (r : Option ℕ) (odd : Bool) → IsOfNode node.number node.floors s.attempt → slice_get s.attempt.own s.stored ≡ Some o
      → Outcome (phase.Storing s) (Record cell) (law_takes.finds node (storing_of stage s) o.key cell r) (says.says_rival (storing_of stage s) r)
      odd (code.finds s o.key cell r)
  finds s o cell None odd h got = (
    record {
      doing = Stores (storing_of stage s) (Some (record { key = o.key; stamp = cell.stamp; versions = cell.versions }));
      after_is = refl;
      thin_is = refl;
      ask_is = ap (λ (ask : Ask). Some ask) (next_is s.attempt o.key cell.stamp cell.versions h);
      suits = h;
      in_hand = subst (IsInHand true) (sym got) tt;
    },
    refl,
  )
  finds s o cell (Some rival) odd h got =
      let r : TheRemoving = record { attempt = s.attempt; log = s.log; rival = rival; stored = s.stored; removed = 0; loaded = false } in (
        removes r (removing_of stage r) (mark.Clashed s.attempt.tid rival s.stored) h refl,
        ap (λ (at : ℕ). entry.Clash s.attempt.tid rival at ∷ []) (length-taken s.stored s.attempt.own o got),
      )

  -- no own record is left
  stored_all : (s : TheStoring) (loaded : Bool) (heard : Heard) → (HasInHand (phase.Storing s) → IsInHand loaded None)
      → Outcome (phase.Storing s) heard (law_takes.takes_storing node (storing_of stage s) (loaded_if loaded) [] heard)
      (says.says_storing (storing_of stage s) (loaded_if loaded) [] heard) (is_odd_for (Stores (storing_of stage s) (loaded_if loaded)) heard)
      (code.takes_storing s loaded None heard)
  stored_all s false (Stored stamp) f =
      (record { doing = Closing (txn_of stage s.attempt) Commit None; after_is = refl; thin_is = refl; ask_is = refl; suits = tt; in_hand = tt }, refl)
  stored_all s false heard f = λ in_hand heard_so. refl
  stored_all s true heard f = λ in_hand heard_so. absurd (f in_hand)

  -- this one is in hand
  stores_one : (s : TheStoring) (loaded : Bool) (o : Write) (heard : Heard) → IsOfNode node.number node.floors s.attempt → slice_get s.attempt.own s.stored ≡ Some o
      → Outcome (phase.Storing s) heard (law_takes.takes_storing node (storing_of stage s) (loaded_if loaded) (o ∷ drop (s.stored + 1) s.attempt.own) heard)
      (says.says_storing (storing_of stage s) (loaded_if loaded) (o ∷ drop (s.stored + 1) s.attempt.own) heard)
      (is_odd_for (Stores (storing_of stage s) (loaded_if loaded)) heard) (code.takes_storing s loaded (Some o) heard)
  stores_one s false o (Record cell) h got =
      let r : Option ℕ = stranger s.attempt.snapshot cell.versions in
      unless (phase.Storing s) (Record cell) (law_takes.finds node (storing_of stage s) o.key cell r) (says.says_rival (storing_of stage s) r)
      (is_written s.attempt.tid cell.versions) (is_written s.attempt.tid cell.versions) (code.finds s o.key cell r) (λ f. f)
      (finds s o cell r (is_written s.attempt.tid cell.versions) h got)
  stores_one s true o (Stored stamp) h got = (
    stores (record s { stored = s.stored + 1; loaded = false })
        (record (storing_of stage s) { stored = take s.stored s.attempt.own ++ o ∷ []; left = drop (s.stored + 1) s.attempt.own }) mark.Quiet h
        (ap (λ (stood : List Write). record (storing_of stage s) { stored = stood; left = drop (s.stored + 1) s.attempt.own }) (one_taken s.stored s.attempt.own o got)),
    refl,
  )
  stores_one s true o Moved h got = (stores s (storing_of stage s) mark.Quiet h refl, refl)
  stores_one s loaded o heard h got = λ in_hand heard_so. refl

  storing : (s : TheStoring) (heard : Heard) → IsOfNode node.number node.floors s.attempt
      → Outcome (phase.Storing s) heard (law_takes.takes_storing node (storing_of stage s) (loaded_if s.loaded) (drop s.stored s.attempt.own) heard)
      (says.says_storing (storing_of stage s) (loaded_if s.loaded) (drop s.stored s.attempt.own) heard)
      (is_odd_for (Stores (storing_of stage s) (loaded_if s.loaded)) heard) (code.takes_storing s s.loaded (slice_get s.attempt.own s.stored) heard)
  storing s heard h = by (slice_get s.attempt.own s.stored) refl
    where
      by : (own : Option Write) → slice_get s.attempt.own s.stored ≡ own
          → Outcome (phase.Storing s) heard (law_takes.takes_storing node (storing_of stage s) (loaded_if s.loaded) (drop s.stored s.attempt.own) heard)
          (says.says_storing (storing_of stage s) (loaded_if s.loaded) (drop s.stored s.attempt.own) heard)
          (is_odd_for (Stores (storing_of stage s) (loaded_if s.loaded)) heard) (code.takes_storing s s.loaded own heard)
      by None got =
          subst
          (λ (left : List Write).
          Outcome (phase.Storing s) heard (law_takes.takes_storing node (storing_of stage s) (loaded_if s.loaded) left heard)
          (says.says_storing (storing_of stage s) (loaded_if s.loaded) left heard)
          (is_odd_for (Stores (storing_of stage s) (loaded_if s.loaded)) heard) (code.takes_storing s s.loaded None heard))
          (sym (none_left s.stored s.attempt.own got)) (stored_all s s.loaded heard (λ in_hand. subst (IsInHand s.loaded) got in_hand))
      by (Some o) got =
          subst
          (λ (left : List Write).
          Outcome (phase.Storing s) heard (law_takes.takes_storing node (storing_of stage s) (loaded_if s.loaded) left heard)
          (says.says_storing (storing_of stage s) (loaded_if s.loaded) left heard)
          (is_odd_for (Stores (storing_of stage s) (loaded_if s.loaded)) heard) (code.takes_storing s s.loaded (Some o) heard))
          (sym (one_left s.stored s.attempt.own o got)) (stores_one s s.loaded o heard h got)

  -- ---- it removes its versions

  removed_all : (r : TheRemoving) (loaded : Bool) (heard : Heard) → (HasInHand (phase.Removing r) → IsInHand loaded None)
      → Outcome (phase.Removing r) heard (law_takes.takes_removing node (removing_of stage r) (loaded_if loaded) [] heard) []
      (is_odd_for (Removes (removing_of stage r) (loaded_if loaded)) heard) (code.takes_removing r loaded None heard)
  removed_all r false (Stored stamp) f =
      (record { doing = Closing (txn_of stage r.attempt) (Undo (Some r.rival)) None; after_is = refl; thin_is = refl; ask_is = refl; suits = tt; in_hand = tt }, refl)
  removed_all r false heard f = λ in_hand heard_so. refl
  removed_all r true heard f = λ in_hand heard_so. absurd (f in_hand)

  removes_one : (r : TheRemoving) (loaded : Bool) (o : Write) (heard : Heard) → IsOfNode node.number node.floors r.attempt → removal_at r ≡ Some o
      → Outcome (phase.Removing r) heard
      (law_takes.takes_removing node (removing_of stage r) (loaded_if loaded) (o ∷ drop (r.removed + 1) (take r.stored r.attempt.own)) heard) []
      (is_odd_for (Removes (removing_of stage r) (loaded_if loaded)) heard) (code.takes_removing r loaded (Some o) heard)
  removes_one r false o (Record cell) h got = (
    record {
      doing = Removes (removing_of stage r) (Some (record { key = o.key; stamp = cell.stamp; versions = cell.versions }));
      after_is = refl;
      thin_is = refl;
      ask_is = refl;
      suits = h;
      in_hand = subst (IsInHand true) (sym got) tt;
    },
    refl,
  )
  removes_one r true o (Stored stamp) h got = (removes (record r { removed = r.removed + 1; loaded = false }) (record (removing_of stage r) { left = drop (r.removed + 1) (take r.stored r.attempt.own) }) mark.Quiet h refl, refl)
  removes_one r true o Moved h got = (removes r (removing_of stage r) mark.Quiet h refl, refl)
  removes_one r loaded o heard h got = λ in_hand heard_so. refl

  removing : (r : TheRemoving) (heard : Heard) → IsOfNode node.number node.floors r.attempt
      → Outcome (phase.Removing r) heard
      (law_takes.takes_removing node (removing_of stage r) (loaded_if r.loaded) (drop r.removed (take r.stored r.attempt.own)) heard) []
      (is_odd_for (Removes (removing_of stage r) (loaded_if r.loaded)) heard) (code.takes_removing r r.loaded (removal_at r) heard)
  removing r heard h = by (removal_at r) refl
    where
      by : (own : Option Write) → removal_at r ≡ own
          → Outcome (phase.Removing r) heard
          (law_takes.takes_removing node (removing_of stage r) (loaded_if r.loaded) (drop r.removed (take r.stored r.attempt.own)) heard) []
          (is_odd_for (Removes (removing_of stage r) (loaded_if r.loaded)) heard) (code.takes_removing r r.loaded own heard)
      by None got =
          subst
          (λ (left : List Write).
          Outcome (phase.Removing r) heard (law_takes.takes_removing node (removing_of stage r) (loaded_if r.loaded) left heard) []
          (is_odd_for (Removes (removing_of stage r) (loaded_if r.loaded)) heard) (code.takes_removing r r.loaded None heard))
          (sym (none_left r.removed (take r.stored r.attempt.own) (sym (among r) ∙ got))) (removed_all r r.loaded heard (λ in_hand. subst (IsInHand r.loaded) got in_hand))
      by (Some o) got =
          subst
          (λ (left : List Write).
          Outcome (phase.Removing r) heard (law_takes.takes_removing node (removing_of stage r) (loaded_if r.loaded) left heard) []
          (is_odd_for (Removes (removing_of stage r) (loaded_if r.loaded)) heard) (code.takes_removing r r.loaded (Some o) heard))
          (sym (one_left r.removed (take r.stored r.attempt.own) o (sym (among r) ∙ got))) (removes_one r r.loaded o heard h got)

  -- ---- all of it

  -- a node that runs the transaction takes this, and tells that
  abbrev pub OutcomeOf : Phase → Heard → Answer → Type 0
  OutcomeOf phase heard told =
      Outcome phase heard (takes_doing settings catalog node statement (doing_of stage phase) heard told)
      (says.says_doing settings catalog commits node statement (doing_of stage phase) heard told) (is_odd_for (doing_of stage phase) heard)
      (takes settings node.number phase heard)

  pub outcome : (before : Phase) (heard : Heard) (told : Answer) → Suits catalog node statement stage before → OutcomeOf before heard told
  outcome phase.Asking heard told e =
      subst (λ (c : Course). Outcome phase.Asking heard (law_takes.takes_outside settings node c heard) (says.says_outside node statement c heard) (is_odd_for Outside heard) (code.takes_asking settings node.number heard))
      (sym e) (asking heard)
  outcome (phase.Noted seen) heard told e = noted seen heard
  outcome (phase.Drawing seen) heard told e = drawing seen heard
  outcome (phase.Bringing seen low) heard told e = bringing seen low heard
  outcome (phase.Ready live) heard told e = absurd e
  outcome (phase.Reading live r) heard told e = absurd e
  outcome (phase.TryingNothing live) heard told e =
      subst
      (λ (c : Course).
      Outcome (phase.TryingNothing live) heard (law_takes.takes_inside settings catalog node statement (txn_in stage live) c heard told)
      (says.says_inside settings node statement (txn_in stage live) c heard told) (is_odd_for (Inside (txn_in stage live)) heard) (code.takes_trying_nothing live heard))
      (sym e) (trying_nothing live heard)
  outcome (phase.Trying a) heard told e = trying a heard e
  outcome (phase.Storing s) heard told e = storing s heard e
  outcome (phase.Removing r) heard told e = removing r heard e
  outcome (phase.GivingUp live) heard told e =
      subst
      (λ (c : Course).
      Outcome (phase.GivingUp live) heard (law_takes.takes_inside settings catalog node statement (txn_in stage live) c heard told)
      (says.says_inside settings node statement (txn_in stage live) c heard told) (is_odd_for (Inside (txn_in stage live)) heard) (code.takes_giving_up live heard))
      (sym e) (giving_up live heard)
  outcome (phase.Closing tid d loaded) heard told e = closing tid d loaded heard
  outcome (phase.Ending tid d) heard told e = ending tid d heard
  outcome phase.Over heard told e = absurd e
  outcome phase.Stopped heard told e = absurd e

  -- by the step that the code makes
  pub at_step : (before : Phase) (heard : Heard) (told : Answer) (made : Option TxnStep) → Suits catalog node statement stage before
      → (takes settings node.number before heard).step ≡ made
      → ByStep before heard (takes_doing settings catalog node statement (doing_of stage before) heard told)
      (says.says_doing settings catalog commits node statement (doing_of stage before) heard told) (is_odd_for (doing_of stage before) heard)
      (takes settings node.number before heard) made
  at_step before heard told made h e =
      subst
      (ByStep before heard (takes_doing settings catalog node statement (doing_of stage before) heard told)
      (says.says_doing settings catalog commits node statement (doing_of stage before) heard told) (is_odd_for (doing_of stage before) heard)
      (takes settings node.number before heard)) e (outcome before heard told h)
