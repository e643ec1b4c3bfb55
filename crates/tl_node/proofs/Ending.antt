-- A node at the end of a transaction takes a reply as the law's node does.
use Rattle.std.proofs.Common.{◌≡◌, ℕ, ◌+◌, ◌<◌, ◌≤◌, zero, suc, Bool, true, false, inl, inr, List, [], ◌∷◌, length, drop, take, Option, Some, None, Result, Ok, Err, refl, sym, ap, ◌∙◌, subst, arith, length-take}
use Rattle.std.specs.Prelude.{◌⊎◌, IfOk, nat_le, slice_get, if◌then◌else◌}
use Rattle.std.specs.Vec.{vec_capacity, vec_len}
use Rattle.std.proofs.Math.ListN.{drop_of_length-le}
use Rattle.std.proofs.lemmas.Bool.Decides.{nat_tests}
use Rattle.tl_base.specs.declared.memory.NoMemory.{NoMemory}
use Rattle.tl_base.specs.declared.place.Settings.{Settings}
use Rattle.tl_schema.specs.declared.catalog.Catalog.{Catalog}
use Rattle.tl_collect.specs.Floors.{least_of}
use Rattle.tl_descriptor.specs.Tids.{inserted}
use Rattle.tl_logrec.specs.declared.entry.Flag.TheVariants as flag
use Rattle.tl_manager.specs.State.{opening_copy}
use Rattle.tl_manager.specs.declared.mark.Mark.{Mark}
use Rattle.tl_manager.specs.declared.mark.Mark.TheVariants as mark
use Rattle.tl_manager.specs.declared.mark.TxnStep.{TxnStep}
use Rattle.tl_manager.specs.declared.mark.TxnStep.TheVariants as step
use Rattle.tl_manager.specs.declared.request.Reply.{Reply}
use Rattle.tl_versions.specs.Versions.{prune, strip}
use Rattle.tl_write.specs.declared.write.Write.{Write}
use Rattle.tl_isolation.specs.declared.bound.Bound.{Bound}
use Rattle.tl_isolation.specs.declared.entry.Answer.{Answer}
use Rattle.tl_isolation.specs.declared.entry.Answer.TheVariants as answer
use Rattle.tl_isolation.specs.declared.entry.Entry.{Entry}
use Rattle.tl_isolation.specs.declared.entry.Said.{Said}
use Rattle.tl_isolation.specs.declared.state.Commit.{Commit as Committed}
use Rattle.tl_protocol.specs.Next.{end_answer, log_cell, own_version}
use Rattle.tl_protocol.specs.World as protocol
use Rattle.tl_journal.specs.Ask.{Ask, Heard}
use Rattle.tl_journal.specs.Asks.{asks, asks_doing, asks_removing, asks_storing}
use Rattle.tl_ask.specs.Given.{shown_heard}
use Rattle.tl_journal.specs.Memory.{is_ending, unsaid}
use Rattle.tl_journal.specs.Node.{Doing, Outside, Inside, Node}
use Rattle.tl_journal.specs.Node as law
use Rattle.tl_journal.specs.Says.{says_at}
use Rattle.tl_journal.specs.Strange.{is_stopped, is_strange_to}
use Rattle.tl_journal.specs.Takes.{takes_doing, with_doing}
use Rattle.tl_ask.specs.Thin.{loaded_if, thin}
use Rattle.tl_txn.specs.After.{IsKnown, IsTaken, IsTold, Stops, asked_next, does}
use Rattle.tl_txn.specs.Attempt.{txn_of}
use Rattle.tl_txn.specs.Calls.{conflict_in}
use Rattle.tl_txn.specs.Doing.{doing_of, removing_of, storing_of, txn_in}
use Rattle.tl_txn.specs.Follows.{CommitsNothing, GivesUp, Goes, GoesOn, HasInHand, HearsCommits, KeepsSo, MayHear, StepsNotOdd, StopsSo, Suits, TellsSo}
use Rattle.tl_txn.specs.Hears as awaited
use Rattle.tl_txn.specs.Marks.{entries_of}
use Rattle.tl_txn.specs.Run.{IsSameRun}
use Rattle.tl_txn.specs.Taken as code
use Rattle.tl_txn.specs.declared.after.After.{After}
use Rattle.tl_txn.specs.declared.phase.Decision.{Decision}
use Rattle.tl_txn.specs.declared.phase.Decision.TheVariants as decision
use Rattle.tl_txn.specs.declared.phase.Phase.{Phase}
use Rattle.tl_txn.specs.declared.phase.Phase.TheVariants as phase
use Rattle.tl_txn.specs.declared.phase.Removing.{Removing}
use Rattle.tl_txn.specs.declared.phase.Storing.{Storing}
use Rattle.tl_txn.specs.declared.txn.Txn.{Txn}
use Rattle.tl_node.specs.After.{ComesTo, IsAfter, Stays, heard_by, hears, marked}
use Rattle.tl_node.specs.Ends.{IsReadied, Readies, ReadiesAnswer, Reserves}
use Rattle.tl_node.specs.Fits.{FitsAll, FitsLast, IsEnding, IsFit, IsOpening, MayEnd}
use Rattle.tl_node.specs.Leaves.{IsKept}
use Rattle.tl_node.specs.Seen.{seen, settled}
use Rattle.tl_node.specs.View.{asked_by, doing_so, node_at, node_so, stage_of}
use Rattle.tl_node.specs.declared.kept.Core.{Core}
use Rattle.tl_node.specs.declared.work.Course.TheVariants as course
use Rattle.tl_node.specs.declared.work.Last.{Last}
use Rattle.tl_node.specs.declared.work.Next.{Next}
use Rattle.tl_node.specs.declared.work.Next.TheVariants as next
use Rattle.tl_node.specs.declared.work.Outside.{Outside as TheOutside}
use Rattle.tl_node.specs.declared.work.Stage.{Stage}
use Rattle.tl_node.specs.declared.work.Work.{Work}
use Rattle.tl_node.specs.declared.work.Work.TheVariants as work
use Rattle.tl_node.proofs.EndMarks.{GoesTo, IsBehind, StepsTo, is_finished, takes_fit}
use Rattle.tl_node.proofs.Opening.{node_with, none_left, same_node, some_left}
use Rattle.tl_node.proofs.Recovering.{is_inside, settled_same}
use Rattle.tl_node.proofs.Heard.{commits_shown, stored_commits, stored_log, stored_record}
use Rattle.tl_node.proofs.NotStrange.{kept_runs, not_strange_at}

-- ---- what it hears

module _ {A : Type 0} where
  slice_get-take : (n : ℕ) (xs : List A) (i : ℕ) → i < n → slice_get (take n xs) i ≡ slice_get xs i
  slice_get-take zero xs i h = absurd (omega arith)
  slice_get-take (suc n) [] i h = refl
  slice_get-take (suc n) (x ∷ xs) zero h = refl
  slice_get-take (suc n) (x ∷ xs) (suc i) h = slice_get-take n xs i (omega arith)

  none_at : (n : ℕ) (xs : List A) → drop n xs ≡ [] → slice_get xs n ≡ None
  none_at zero [] e = refl
  none_at zero (x ∷ xs) e = cc
  none_at (suc n) [] e = refl
  none_at (suc n) (x ∷ xs) e = none_at n xs e

  -- of the first n the i-th, where there is one
  among_first : (n : ℕ) (xs : List A) (i : ℕ) → (if nat_le n i then None else slice_get xs i) ≡ slice_get (take n xs) i
  among_first n xs i = by (nat_le n i) refl
    where
      by : (b : Bool) → nat_le n i ≡ b → (if b then None else slice_get xs i) ≡ slice_get (take n xs) i
      by true e = sym (none_at i (take n xs) (drop_of_length-le (take n xs) {i = i} (let h : n ≤ i = grind (arith, nat_tests) in omega (arith, length-take n xs))))
      by false e = sym (slice_get-take n xs i (grind (arith, nat_tests)))

storing_heard : (catalog : Catalog) (m : Node) (so : law.Storing) (loaded : Bool) (own : List Write) (at : ℕ) (told : Reply) → so.left ≡ drop at own
    → shown_heard catalog (asks_storing m so (loaded_if loaded)) told ≡ awaited.hears_own catalog loaded (slice_get own at) told
storing_heard catalog m so true own at told l = stored_record catalog [] 0 (prune (least_of m.floors) (own_version [] so.txn ∷ [])) told
storing_heard catalog m so false own at told l = by (slice_get own at) refl
  where
    by : (o : Option Write) → slice_get own at ≡ o → shown_heard catalog (asks_storing m so None) told ≡ awaited.hears_own catalog false o told
    by None e = ap (λ left. shown_heard catalog (asks_storing m (record so { left = left }) None) told) (l ∙ none_left at own e)
        ∙ stored_log catalog so.log (log_cell 0 m.number flag.Decided so.txn).entry told
    by (Some o) e = ap (λ left. shown_heard catalog (asks_storing m (record so { left = left }) None) told) (l ∙ some_left at own o e)

removing_heard : (catalog : Catalog) (m : Node) (so : law.Removing) (loaded : Bool) (own : List Write) (at : ℕ) (told : Reply) → so.left ≡ drop at own
    → shown_heard catalog (asks_removing m so (loaded_if loaded)) told ≡ awaited.hears_own catalog loaded (slice_get own at) told
removing_heard catalog m so true own at told l = stored_record catalog [] 0 (strip so.txn.tid []) told
removing_heard catalog m so false own at told l = by (slice_get own at) refl
  where
    by : (o : Option Write) → slice_get own at ≡ o → shown_heard catalog (asks_removing m so None) told ≡ awaited.hears_own catalog false o told
    by None e = ap (λ left. shown_heard catalog (asks_removing m (record so { left = left }) None) told) (l ∙ none_left at own e)
        ∙ stored_log catalog so.log (log_cell 0 m.number flag.Undone so.txn).entry told
    by (Some o) e = ap (λ left. shown_heard catalog (asks_removing m (record so { left = left }) None) told) (l ∙ some_left at own o e)

-- ---- by the phases that lie ahead

behind_by : (P : Phase → Type 0) → ((s : Storing) → P (phase.Storing s)) → ((r : Removing) → P (phase.Removing r))
    → ((tid : ℕ) (d : Decision) (loaded : Bool) → P (phase.Closing tid d loaded)) → (now : Phase) → IsBehind now → P now
behind_by P a b c (phase.Storing s) h = a s
behind_by P a b c (phase.Removing r) h = b r
behind_by P a b c (phase.Closing tid d loaded) h = c tid d loaded
behind_by P a b c other h = absurd h

goes_by : (P : Phase → Type 0) → ((s : Storing) → P (phase.Storing s)) → ((r : Removing) → P (phase.Removing r))
    → ((tid : ℕ) (d : Decision) (loaded : Bool) → P (phase.Closing tid d loaded)) → ((tid : ℕ) (d : Decision) → P (phase.Ending tid d))
    → (m : Mark) (now : Phase) → GoesTo m now → P now
goes_by P a b c d mark.Quiet now h = behind_by P a b c now h
goes_by P a b c d (mark.Tried tid) now h = behind_by P a b c now h
goes_by P a b c d (mark.Clashed tid rival at) now h = behind_by P a b c now h
goes_by P a b c d (mark.Committed tid) (phase.Ending t decision.Commit) h = d t decision.Commit
goes_by P a b c d (mark.Committed tid) other h = absurd h
goes_by P a b c d (mark.Undone tid) (phase.Ending t (decision.Undo rival)) h = d t (decision.Undo rival)
goes_by P a b c d (mark.Undone tid) other h = absurd h
goes_by P a b c d other now h = absurd h

goes_ending : (m : Mark) (now : Phase) → GoesTo m now → IsEnding now
goes_ending = goes_by IsEnding (λ s. tt) (λ r. tt) (λ tid d loaded. tt) (λ tid d. tt)

goes_apart : (stage : protocol.Stage) (m : Mark) (now : Phase) → GoesTo m now → is_inside (doing_of stage now) ≡ false
goes_apart stage = goes_by (λ now. is_inside (doing_of stage now) ≡ false) (λ s. refl) (λ r. refl) (λ tid d loaded. refl) (λ tid d. refl)

goes_runs : (stage : protocol.Stage) (m : Mark) (now : Phase) → GoesTo m now → is_stopped (doing_of stage now) ≡ false
goes_runs stage = goes_by (λ now. is_stopped (doing_of stage now) ≡ false) (λ s. refl) (λ r. refl) (λ tid d loaded. refl) (λ tid d. refl)

may_end : (core : Core) (txn : Txn) (stage : Stage) (now : Phase) (m : Mark) (last : Option Last) → GoesTo m now
    → IsReadied core (record txn { phase = now }) stage m last → MayEnd core (stage_of stage) now last
may_end core txn stage now mark.Quiet last h r = behind_by (λ p. MayEnd core (stage_of stage) p last) (λ s. r) (λ x. r) (λ tid d loaded. r) now h
may_end core txn stage now (mark.Tried tid) last h r = behind_by (λ p. MayEnd core (stage_of stage) p last) (λ s. r) (λ x. r) (λ t d loaded. r) now h
may_end core txn stage now (mark.Clashed tid rival at) last h r =
    behind_by (λ p. MayEnd core (stage_of stage) p last) (λ s. r) (λ x. r) (λ t d loaded. r) now h
may_end core txn stage (phase.Ending t decision.Commit) (mark.Committed tid) (Some last) h r = r
may_end core txn stage (phase.Ending t decision.Commit) (mark.Committed tid) None h r = absurd r
may_end core txn stage (phase.Ending t (decision.Undo rival)) (mark.Undone tid) (Some last) h r = r
may_end core txn stage (phase.Ending t (decision.Undo rival)) (mark.Undone tid) None h r = absurd r
may_end core txn stage now (mark.Committed tid) last h r = absurd h
may_end core txn stage now (mark.Undone tid) last h r = absurd h
may_end core txn stage now other last h r = absurd h

marked_so : (commits : List Committed) (number : ℕ) (told : Reply) (m : Mark) (now : Phase) → GoesTo m now → entries_of number m ≡ marked commits number told m
marked_so commits number told (mark.Began tid) now h = absurd h
marked_so commits number told m now h = refl

pub suits_alike : (catalog : Catalog) (a b : Node) (statement : Bound) (stage : protocol.Stage) (now : Phase) → a.number ≡ b.number → a.floors ≡ b.floors
    → Suits catalog a statement stage now → Suits catalog b statement stage now
suits_alike catalog a b statement stage (phase.Trying t) e f h = record { node_is = h.node_is ∙ e; floor_is = h.floor_is ∙ ap least_of f }
suits_alike catalog a b statement stage (phase.Storing s) e f h = record { node_is = h.node_is ∙ e; floor_is = h.floor_is ∙ ap least_of f }
suits_alike catalog a b statement stage (phase.Removing r) e f h = record { node_is = h.node_is ∙ e; floor_is = h.floor_is ∙ ap least_of f }
suits_alike catalog a b statement stage other e f h = h

no_end : (stage : protocol.Stage) (now : Phase) → is_finished now ≡ false → is_ending (doing_of stage now) ≡ false
no_end stage (phase.Ending tid d) e = absurd cc
no_end stage other e = refl

asked_so : (settings : Settings) (ask : Option Ask) → asked_next settings ask ≡ asked_by settings ask
asked_so settings None = refl
asked_so settings (Some ask) = refl

-- what is told at want of memory is what happened, but for a rival that was met
known : (commits : List Committed) (number : ℕ) (told : Reply) (es : List Entry) (x m : Mark) → entries_of number x ≡ marked commits number told x
    → es ≡ entries_of number x → IsKnown x m → (unsaid es ≡ marked commits number told m) ⊎ (es ≡ marked commits number told m)
known commits number told es (mark.Clashed tid rival place) m f e (inl h) = inr (e ∙ f ∙ ap (marked commits number told) (sym h))
known commits number told es (mark.Clashed tid rival place) m f e (inr h) = inl (ap unsaid e ∙ ap (marked commits number told) (sym h))
known commits number told es other m f e h = inr (e ∙ f ∙ ap (marked commits number told) (sym h))

-- ---- the reply

module _ (keeps : KeepsSo) (going : GoesOn) (tells_so : TellsSo) (stops_so : StopsSo) (not_odd : StepsNotOdd) (hears_commits : HearsCommits) (commits_nothing : CommitsNothing) (gives_up : GivesUp)
    (core : Core) (statement : Bound) (later : List Bound) (stage : Stage) (now : Phase) (told : Reply)
    (todo_is : drop (length core.answers.items) core.statements ≡ statement ∷ later)
    (ends : IsEnding now) (unfinished : is_finished now ≡ false)
    (suits : Suits core.catalog (node_so core Outside) statement (stage_of stage) now) (in_hand : HasInHand now) where
  abbrev pub st : protocol.Stage
  st = stage_of stage

  abbrev pub n : Node
  n = node_with core (statement ∷ later) (doing_of st now)

  abbrev pub sound : Heard
  sound = awaited.hears core.catalog now told

  abbrev pub outcome : code.Taken
  outcome = code.takes core.layout core.number now sound

  suits_n : Suits core.catalog n statement st now
  suits_n = suits_alike core.catalog (node_so core Outside) n statement st now refl refl suits

  pub hears_end : hears core.layout core.catalog n told ≡ sound
  hears_end = by now ends unfinished suits_n
    where
      by : (p : Phase) → IsEnding p → is_finished p ≡ false → Suits core.catalog n statement st p
          → heard_by core.catalog (asks_doing core.layout core.catalog n statement (doing_of st p)) told ≡ awaited.hears core.catalog p told
      by (phase.TryingNothing live) e f h = ap (λ a. heard_by core.catalog a told) (commits_nothing core.layout core.catalog n statement (txn_in st live) h e) ∙ commits_shown core.catalog told
      by (phase.GivingUp live) e f h = ap (λ a. heard_by core.catalog a told) (gives_up core.layout core.catalog n statement (txn_in st live) h) ∙ commits_shown core.catalog told
      by (phase.Trying a) e f h = stored_log core.catalog 0 (log_cell 0 core.number flag.Trying (txn_of st a)).entry told
      by (phase.Storing s) e f h = storing_heard core.catalog n (storing_of st s) s.loaded s.attempt.own s.stored told refl
      by (phase.Removing r) e f h = removing_heard core.catalog n (removing_of st r) r.loaded (take r.stored r.attempt.own) r.removed told refl
          ∙ ap (λ o. awaited.hears_own core.catalog r.loaded o told) (sym (among_first r.stored r.attempt.own r.removed))
      by (phase.Closing tid d false) e f h = commits_shown core.catalog told
      by (phase.Closing tid d true) e f h = stored_commits core.catalog 0 (inserted opening_copy tid) told
      by (phase.Ending tid d) e f h = absurd cc
      by other e f h = absurd e

  may_hear : MayHear now sound
  may_hear = by now
    where
      by : (p : Phase) → MayHear p (awaited.hears core.catalog p told)
      by (phase.TryingNothing live) = hears_commits told
      by other = tt

  goes_to : (m : Mark) → outcome.step ≡ Some (step.Going m) → GoesTo m outcome.phase
  goes_to m e = subst (λ s. StepsTo s outcome.phase) e (takes_fit core.layout core.number now sound ends unfinished)

  tells : (commits : List Committed) (m : Mark) → outcome.step ≡ Some (step.Going m)
      → says_at core.layout core.catalog commits n sound answer.Begun ≡ entries_of core.number m
  tells commits m e = tells_so core.layout core.catalog commits n statement st now (doing_of st now) sound answer.Begun m suits_n (keeps st now) e

  tells_marked : (commits : List Committed) (m : Mark) → outcome.step ≡ Some (step.Going m)
      → says_at core.layout core.catalog commits n sound answer.Begun ≡ marked commits core.number told m
  tells_marked commits m e = tells commits m e ∙ marked_so commits core.number told m outcome.phase (goes_to m e)

  goes : (new : Core) (txn : Txn) (m : Mark) (last : Option Last) → outcome.step ≡ Some (step.Going m) → txn.layout ≡ core.layout → txn.node ≡ core.number
      → txn.phase ≡ outcome.phase → txn.next ≡ asked_next core.layout outcome.ask → IsKept core new → IsReadied new txn stage m last
      → ComesTo core.layout core.catalog n sound told new m (Ok (next.Goes (work.Runs (record { txn = txn; stage = stage; course = course.Ends last }))))
  goes new txn m last e layout_is node_is phase_is next_is kept ready = record {
    fits = subst (λ todo. FitsAll new todo w) (sym todo_new) (record {
      own = record { layout = layout_is ∙ sym layout_stays; node = node_is ∙ sym number_stays };
      course = (
        subst IsEnding (sym phase_is) (goes_ending m outcome.phase (goes_to m e)),
        subst (λ c. Suits c (node_so new Outside) statement st txn.phase) (sym catalog_stays)
            (suits_alike core.catalog (with_doing n d) (node_so new Outside) statement st txn.phase (sym number_stays) (sym floors_stay)
            (subst (λ p. Suits core.catalog (with_doing n d) statement st p) (sym phase_is) after.suits)),
        subst HasInHand (sym phase_is) after.in_hand,
        may_end new txn stage txn.phase m last (subst (GoesTo m) (sym phase_is) (goes_to m e)) ready,
      );
    });
    not_strange =
        not_strange_at core.layout core.catalog n sound (with_doing n d) after.after_is
        (kept_runs d (doing_of st outcome.phase) after.thin_is (goes_runs st m outcome.phase (goes_to m e)))
        (not_odd core.layout core.number st now (doing_of st now) sound (step.Going m) (keeps st now) e);
    stands = record {
      settings_are = layout_stays;
      catalog_is = catalog_stays;
      node_is = same_node (node_at new w) (node_with core (statement ∷ later) (thin d)) number_stays todo_new kept.answers floors_stay
          (ap (λ (c : Core). c.asked_others) kept.rest) (ap (λ todo. doing_so todo w) todo_new ∙ ap (doing_of st) phase_is ∙ sym after.thin_is)
          ∙ ap (λ x. node_with core (statement ∷ later) (thin x)) (sym settled_is)
          ∙ ap (λ x. seen core.layout core.catalog x) (sym after.after_is);
      ask_is = next_is ∙ asked_so core.layout outcome.ask ∙ ap (asked_by core.layout) (sym after.ask_is)
          ∙ ap (λ x. asked_by core.layout (asks core.layout core.catalog x)) (sym after.after_is);
    };
    entries = λ commits. tells_marked commits m e;
  }
    where
      w : Work
      w = work.Runs (record { txn = txn; stage = stage; course = course.Ends last })

      layout_stays : new.layout ≡ core.layout
      layout_stays = ap (λ (c : Core). c.layout) kept.rest

      catalog_stays : new.catalog ≡ core.catalog
      catalog_stays = ap (λ (c : Core). c.catalog) kept.rest

      number_stays : new.number ≡ core.number
      number_stays = ap (λ (c : Core). c.number) kept.rest

      floors_stay : new.floors ≡ core.floors
      floors_stay = ap (λ (c : Core). c.floors) kept.rest

      todo_new : drop (length new.answers.items) new.statements ≡ statement ∷ later
      todo_new = ap (λ done. drop (length done) new.statements) kept.answers
          ∙ ap (λ all. drop (length core.answers.items) all) (ap (λ (c : Core). c.statements) kept.rest) ∙ todo_is

      after : Goes core.layout core.catalog n statement st (takes_doing core.layout core.catalog n statement (doing_of st now) sound answer.Begun) outcome
      after = going core.layout core.catalog n statement st now (doing_of st now) sound answer.Begun m suits_n (keeps st now) e

      d : Doing
      d = after.doing

      settled_is : settled core.layout core.catalog statement d ≡ d
      settled_is = settled_same core.layout core.catalog statement d (doing_of st outcome.phase) after.thin_is (goes_apart st m outcome.phase (goes_to m e))

  pub goes_to_end : (new : Core) (txn : Txn) (m : Mark) (result : Result Next NoMemory) → outcome.step ≡ Some (step.Going m) → txn.layout ≡ core.layout
      → txn.node ≡ core.number → txn.phase ≡ outcome.phase → txn.next ≡ asked_next core.layout outcome.ask → Readies core txn stage m new result
      → ComesTo core.layout core.catalog n sound told new m result
  goes_to_end new txn m (Ok x) e layout_is node_is phase_is next_is ready =
      subst (λ y. ComesTo core.layout core.catalog n sound told new m (Ok y)) (sym ready.next_is)
      (goes new txn m ready.last e layout_is node_is phase_is next_is ready.kept ready.readied)
  goes_to_end new txn m (Err fault) e layout_is node_is phase_is next_is kept = (
    record { left = refl; answers = kept.answers },
    record { no_end = no_end st now unfinished; entries = λ usual commits. inr (tells_marked commits m e) },
  )

  strange_so : outcome.step ≡ None → is_strange_to core.layout core.catalog n sound ≡ true
  strange_so e = stops_so core.layout core.catalog n statement st now (doing_of st now) sound answer.Begun suits_n (keeps st now) in_hand may_hear e

  pub stops : outcome.step ≡ None → ComesTo core.layout core.catalog n sound told core mark.Quiet (Ok next.Strange)
  stops e = (record { left = refl; answers = refl }, strange_so e)

  pub never : {X : Type 0} (s : TxnStep) → outcome.step ≡ Some s → ((m : Mark) → s ≡ step.Going m → ⊥) → X
  never (step.Going m) e h = absurd (h m refl)
  never (step.Ready m) e h = absurd (subst (λ s. StepsTo s outcome.phase) e (takes_fit core.layout core.number now sound ends unfinished))
  never (step.Leaf m) e h = absurd (subst (λ s. StepsTo s outcome.phase) e (takes_fit core.layout core.number now sound ends unfinished))
  never (step.Ended m) e h = absurd (subst (λ s. StepsTo s outcome.phase) e (takes_fit core.layout core.number now sound ends unfinished))
  never (step.NoMemory m) e h = absurd (subst (λ s. StepsTo s outcome.phase) e (takes_fit core.layout core.number now sound ends unfinished))

  pub wants : (fault : NoMemory) (m : Mark) (s : Option TxnStep) → outcome.step ≡ s → IsTold s m → ComesTo core.layout core.catalog n sound told core m (Err fault)
  wants fault m s e h = (record { left = refl; answers = refl }, record { no_end = no_end st now unfinished; entries = λ usual commits. by s e h usual commits })
    where
      both : (b : Bool) → b ≡ true → b ≡ false → ⊥
      both true e f = cc
      both false e f = cc

      by : (s : Option TxnStep) → outcome.step ≡ s → IsTold s m → is_strange_to core.layout core.catalog n sound ≡ false → (commits : List Committed)
          → (unsaid (says_at core.layout core.catalog commits n sound answer.Begun) ≡ marked commits core.number told m)
          ⊎ (says_at core.layout core.catalog commits n sound answer.Begun ≡ marked commits core.number told m)
      by None e h usual commits = absurd (both (is_strange_to core.layout core.catalog n sound) (strange_so e) usual)
      by (Some (step.Going x)) e h usual commits =
          known commits core.number told (says_at core.layout core.catalog commits n sound answer.Begun) x m
          (marked_so commits core.number told x outcome.phase (goes_to x e)) (tells commits x e) h
      by (Some (step.Ready x)) e h usual commits = never (step.Ready x) e (λ m f. cc)
      by (Some (step.Leaf x)) e h usual commits = never (step.Leaf x) e (λ m f. cc)
      by (Some (step.Ended x)) e h usual commits = never (step.Ended x) e (λ m f. cc)
      by (Some (step.NoMemory x)) e h usual commits = never (step.NoMemory x) e (λ m f. cc)

-- ---- the transaction as its code has it

-- the laws that are needed
pub record EndLaw : Type 0 where
  pub keeps : KeepsSo
  pub going : GoesOn
  pub tells_so : TellsSo
  pub stops_so : StopsSo
  pub not_odd : StepsNotOdd
  pub hears_commits : HearsCommits
  pub commits_nothing : CommitsNothing
  pub gives_up : GivesUp

pub kept_stays : (old new : Core) → IsKept old new → Stays old new
kept_stays old new kept = record {
  layout = ap (λ (c : Core). c.layout) kept.rest;
  catalog = ap (λ (c : Core). c.catalog) kept.rest;
  statements = ap (λ (c : Core). c.statements) kept.rest;
  number = ap (λ (c : Core). c.number) kept.rest;
}

-- it neither goes on nor wants memory
abbrev pub is_other : Option TxnStep → Bool
is_other (Some (step.Going m)) = false
is_other (Some (step.NoMemory m)) = false
is_other other = true

not_going : (s : TxnStep) → is_other (Some s) ≡ true → (m : Mark) → s ≡ step.Going m → ⊥
not_going (step.Going k) r m e = absurd cc
not_going (step.Ready k) r m e = cc
not_going (step.Leaf k) r m e = cc
not_going (step.Ended k) r m e = cc
not_going (step.NoMemory k) r m e = cc

unfinished_so : (core : Core) (stage : protocol.Stage) (now : Phase) → MayEnd core stage now None → is_finished now ≡ false
unfinished_so core stage (phase.Ending tid d) h = absurd h
unfinished_so core stage other h = refl

module _ (law : EndLaw) (core : Core) (txn after : Txn) (stage : Stage) (told : Reply) (made : Option TxnStep)
    (fits : IsFit core (work.Runs (record { txn = txn; stage = stage; course = course.Ends None })))
    (heeded : IsTaken txn.layout (code.takes txn.layout txn.node txn.phase (awaited.hears core.catalog txn.phase told)) (record { phase = after.phase; next = after.next; step = made }))
    (same_run : IsSameRun txn after) where
  abbrev pub w_before : Work
  w_before = work.Runs (record { txn = txn; stage = stage; course = course.Ends None })

  abbrev pub outcome_of : code.Taken
  outcome_of = code.takes core.layout core.number txn.phase (awaited.hears core.catalog txn.phase told)

  at_end : (new : Core) (m : Mark) (result : Result Next NoMemory)
      → ((statement : Bound) (later : List Bound) → drop (length core.answers.items) core.statements ≡ statement ∷ later → IsEnding txn.phase → is_finished txn.phase ≡ false
      → Suits core.catalog (node_so core Outside) statement (stage_of stage) txn.phase → HasInHand txn.phase → txn.layout ≡ core.layout → txn.node ≡ core.number
      → ComesTo core.layout core.catalog (node_with core (statement ∷ later) (doing_of (stage_of stage) txn.phase)) (awaited.hears core.catalog txn.phase told) told new m result)
      → IsAfter core.layout core.catalog (node_at core w_before) told new m result
  at_end new m result h = by (drop (length core.answers.items) core.statements) refl fits
    where
      by : (todo : List Bound) → drop (length core.answers.items) core.statements ≡ todo → FitsAll core todo w_before
          → IsAfter core.layout core.catalog (node_with core todo (doing_so todo w_before)) told new m result
      by [] e f = absurd f
      by (statement ∷ later) e f =
          let end : is_finished txn.phase ≡ false = unfinished_so core (stage_of stage) txn.phase f.course.3 in
          subst (λ x. ComesTo core.layout core.catalog (node_with core (statement ∷ later) (doing_of (stage_of stage) txn.phase)) x told new m result)
          (sym (hears_end law.keeps law.going law.tells_so law.stops_so law.not_odd law.hears_commits law.commits_nothing law.gives_up core statement later stage txn.phase told e
          f.course.0 end f.course.1 f.course.2))
          (h statement later e f.course.0 end f.course.1 f.course.2 f.own.layout f.own.node)

  taken_is : txn.layout ≡ core.layout → txn.node ≡ core.number
      → IsTaken core.layout outcome_of (record { phase = after.phase; next = after.next; step = made })
  taken_is e f =
      subst (λ l. IsTaken l (code.takes l core.number txn.phase (awaited.hears core.catalog txn.phase told)) (record { phase = after.phase; next = after.next; step = made })) e
      (subst (λ k. IsTaken txn.layout (code.takes txn.layout k txn.phase (awaited.hears core.catalog txn.phase told)) (record { phase = after.phase; next = after.next; step = made })) f heeded)

  does_so : (s : TxnStep) → made ≡ Some s → txn.layout ≡ core.layout → txn.node ≡ core.number
      → IsTaken core.layout outcome_of (record { phase = after.phase; next = after.next; step = Some s })
  does_so s e f g = subst (λ x. IsTaken core.layout outcome_of (record { phase = after.phase; next = after.next; step = x })) e (taken_is f g)

  pub end_going : (new : Core) (m : Mark) (result : Result Next NoMemory) → made ≡ Some (step.Going m) → Readies core after stage m new result
      → IsAfter core.layout core.catalog (node_at core w_before) told new m result
  end_going new m result e ready = at_end new m result
      (λ statement later todo_is ends unfinished suits in_hand layout_is node_is.
      let t : record { phase = after.phase; next = after.next; step = Some (step.Going m) } ≡ does core.layout outcome_of = does_so (step.Going m) e layout_is node_is in
      goes_to_end law.keeps law.going law.tells_so law.stops_so law.not_odd law.hears_commits law.commits_nothing law.gives_up core statement later stage txn.phase told todo_is
      ends unfinished suits in_hand new after m result (sym (ap (λ (a : After). a.step) t)) (same_run.layout_is ∙ layout_is) (same_run.node_is ∙ node_is)
      (ap (λ (a : After). a.phase) t) (ap (λ (a : After). a.next) t) ready)

  pub end_wanting : (fault : NoMemory) (m : Mark) → made ≡ Some (step.NoMemory m) → IsAfter core.layout core.catalog (node_at core w_before) told core m (Err fault)
  end_wanting fault m e = at_end core m (Err fault)
      (λ statement later todo_is ends unfinished suits in_hand layout_is node_is.
      let t : Stops outcome_of (record { phase = after.phase; next = after.next; step = Some (step.NoMemory m) }) m = does_so (step.NoMemory m) e layout_is node_is in
      wants law.keeps law.going law.tells_so law.stops_so law.not_odd law.hears_commits law.commits_nothing law.gives_up core statement later stage txn.phase told todo_is
      ends unfinished suits in_hand fault m outcome_of.step refl t.1)

  pub end_stops : made ≡ None → IsAfter core.layout core.catalog (node_at core w_before) told core mark.Quiet (Ok next.Strange)
  end_stops e = at_end core mark.Quiet (Ok next.Strange)
      (λ statement later todo_is ends unfinished suits in_hand layout_is node_is.
      let t : record { phase = after.phase; next = after.next; step = None } ≡ does core.layout outcome_of =
      subst (λ x. IsTaken core.layout outcome_of (record { phase = after.phase; next = after.next; step = x })) e (taken_is layout_is node_is) in
      stops law.keeps law.going law.tells_so law.stops_so law.not_odd law.hears_commits law.commits_nothing law.gives_up core statement later stage txn.phase told todo_is
      ends unfinished suits in_hand (sym (ap (λ (a : After). a.step) t)))

  -- no other step is told
  step_is : (s : TxnStep) → is_other (Some s) ≡ true → IsTaken core.layout outcome_of (record { phase = after.phase; next = after.next; step = Some s })
      → outcome_of.step ≡ Some s
  step_is (step.Ready m) r t = sym (ap (λ (a : After). a.step) t)
  step_is (step.Leaf m) r t = sym (ap (λ (a : After). a.step) t)
  step_is (step.Ended m) r t = sym (ap (λ (a : After). a.step) t)
  step_is (step.Going m) r t = absurd cc
  step_is (step.NoMemory m) r t = absurd cc

  never_told : (s : TxnStep) → made ≡ Some s → is_other (Some s) ≡ true → IsAfter core.layout core.catalog (node_at core w_before) told core mark.Quiet (Ok next.Strange)
  never_told s e r = at_end core mark.Quiet (Ok next.Strange)
      (λ statement later todo_is ends unfinished suits in_hand layout_is node_is.
      never law.keeps law.going law.tells_so law.stops_so law.not_odd law.hears_commits law.commits_nothing law.gives_up core statement later stage txn.phase told todo_is
      ends unfinished suits in_hand s (step_is s r (does_so s e layout_is node_is)) (not_going s r))

  pub end_other : (s : Option TxnStep) → made ≡ s → is_other s ≡ true → IsAfter core.layout core.catalog (node_at core w_before) told core mark.Quiet (Ok next.Strange)
  end_other None e r = end_stops e
  end_other (Some s) e r = never_told s e r

pub readied_stays : (old new : Core) (txn : Txn) (stage : Stage) (m : Mark) (result : Result Next NoMemory) → Readies old txn stage m new result → Stays old new
readied_stays old new txn stage m (Ok x) h = kept_stays old new h.kept
readied_stays old new txn stage m (Err fault) h = kept_stays old new h

-- ---- the answer is made ready

pub reserved : (old new : Core) (told : Answer) (result : Result Last NoMemory) → new ≡ record old { answers = new.answers } → new.answers.items ≡ old.answers.items
    → IfOk result (λ (last : Last). FitsLast new told last) → Reserves old told new result
reserved old new told (Ok last) e f h = (record { rest = e; answers = f }, h)
reserved old new told (Err fault) e f h = record { rest = e; answers = f }

-- what follows it, its answer twice, and room for it
pub last_so : (core : Core) (told copy : Answer) (said : Said) (o : TheOutside) (at : ℕ) → vec_len core.answers < vec_capacity core.answers
    → at ≡ length core.answers.items + 1 → IsOpening core at o → copy ≡ told
    → said ≡ record { statement = length core.answers.items + 1; answer = copy; answered = true }
    → FitsLast core told (record { kept = told; said = said; following = o })
last_so core told copy said o at room at_is opens copy_is said_is = record {
  kept = refl;
  said = said_is ∙ ap (λ (x : Answer). record { statement = length core.answers.items + 1; answer = x; answered = true }) copy_is;
  room = room;
  following = subst (λ n. IsOpening core n o) at_is opens;
}

pub reserved_goes : (old new : Core) (txn : Txn) (stage : Stage) (told : Answer) (last : Last) (x : Next) → Reserves old told new (Ok last)
    → x ≡ next.Goes (work.Runs (record { txn = txn; stage = stage; course = course.Ends (Some last) })) → ReadiesAnswer old txn stage told new (Ok x)
reserved_goes old new txn stage told last x h e = record { kept = h.0; last = last; next_is = e; fits = h.1 }

pub readied_same : (old new : Core) (txn : Txn) (stage : Stage) (a b : Answer) (result : Result Next NoMemory) → a ≡ b → ReadiesAnswer old txn stage a new result
    → ReadiesAnswer old txn stage b new result
readied_same old new txn stage a b result e h = subst (λ x. ReadiesAnswer old txn stage x new result) e h

pub none_readied : (old : Core) → IsKept old old
none_readied old = record { rest = refl; answers = refl }

-- for the commit
pub committed_ready : (old new : Core) (txn : Txn) (stage : Stage) (tid : ℕ) (result : Result Next NoMemory)
    → ReadiesAnswer old txn stage (end_answer (stage_of stage) protocol.Commit) new result → Readies old txn stage (mark.Committed tid) new result
committed_ready old new txn stage tid (Ok x) h = record { kept = h.kept; last = Some h.last; next_is = h.next_is; readied = h.fits }
committed_ready old new txn stage tid (Err fault) h = h

-- for the end without one
pub undone_ready : (old new : Core) (txn : Txn) (stage : Stage) (tid : ℕ) (result : Result Next NoMemory)
    → ReadiesAnswer old txn stage (end_answer (stage_of stage) (protocol.Undo (conflict_in txn.phase))) new result → Readies old txn stage (mark.Undone tid) new result
undone_ready old new txn stage tid (Ok x) h = record { kept = h.kept; last = Some h.last; next_is = h.next_is; readied = h.fits }
undone_ready old new txn stage tid (Err fault) h = h

-- on the way to the end nothing is made ready
pub way_ready : (old : Core) (txn : Txn) (stage : Stage) (m : Mark) (x : Next) → IsReadied old txn stage m None
    → x ≡ next.Goes (work.Runs (record { txn = txn; stage = stage; course = course.Ends None })) → Readies old txn stage m old (Ok x)
way_ready old txn stage m x h e = record { kept = none_readied old; last = None; next_is = e; readied = h }
