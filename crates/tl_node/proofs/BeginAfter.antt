-- A node whose transaction begins takes a reply.
use Rattle.std.proofs.Common.{◌≡◌, ℕ, ◌+◌, Bool, true, false, ◌⊎◌, inl, inr, List, [], ◌∷◌, length, drop, Option, Some, None, Result, Ok, Err, refl, sym, ap, ◌∙◌, subst}
use Rattle.tl_base.specs.declared.memory.NoMemory.{NoMemory}
use Rattle.tl_base.specs.declared.place.Settings.{Settings}
use Rattle.tl_descriptor.specs.Tids.{TidSet}
use Rattle.tl_manager.specs.declared.mark.Mark.{Mark}
use Rattle.tl_manager.specs.declared.mark.Mark.TheVariants as mark
use Rattle.tl_manager.specs.declared.mark.TxnStep.{TxnStep}
use Rattle.tl_manager.specs.declared.mark.TxnStep.TheVariants as step
use Rattle.tl_manager.specs.declared.request.ManagerReply.{ManagerReply}
use Rattle.tl_manager.specs.declared.request.ManagerReply.TheVariants as manager
use Rattle.tl_manager.specs.declared.request.ManagerRequest.TheVariants as request
use Rattle.tl_manager.specs.declared.request.Reply.{Reply}
use Rattle.tl_manager.specs.declared.request.Reply.TheVariants as reply
use Rattle.tl_isolation.specs.declared.bound.Bound.{Bound}
use Rattle.tl_isolation.specs.declared.bound.Bound.TheVariants as bound
use Rattle.tl_isolation.specs.declared.entry.Answer.TheVariants as answer
use Rattle.tl_isolation.specs.declared.entry.Entry.{Entry}
use Rattle.tl_isolation.specs.declared.state.Commit.{Commit}
use Rattle.tl_protocol.specs.World.{Fresh}
use Rattle.tl_journal.specs.Ask.{Ask, Heard, Told}
use Rattle.tl_journal.specs.Asks.{Course, ToBegin, asks_outside, course_outside}
use Rattle.tl_journal.specs.Bytes.{home_of}
use Rattle.tl_journal.specs.Memory.{is_ending, unsaid}
use Rattle.tl_journal.specs.Node.{Doing, Noted, Node}
use Rattle.tl_journal.specs.Says.{says_doing}
use Rattle.tl_journal.specs.Strange.{is_odd_for, is_stopped, is_strange_to}
use Rattle.tl_journal.specs.Takes.{takes_doing}
use Rattle.tl_ask.specs.Given.{shown_heard}
use Rattle.tl_ask.specs.Thin.{thin}
use Rattle.tl_txn.specs.After.{IsKnown, IsTaken, IsTold, asked_next}
use Rattle.tl_txn.specs.Doing.{doing_of}
use Rattle.tl_txn.specs.Hears as code
use Rattle.tl_txn.specs.Marks.{entries_of}
use Rattle.tl_txn.specs.Run.{IsSameRun}
use Rattle.tl_txn.specs.Taken.{Taken, takes}
use Rattle.tl_txn.specs.declared.after.After.{After}
use Rattle.tl_txn.specs.declared.phase.Phase.{Phase}
use Rattle.tl_txn.specs.declared.phase.Phase.TheVariants as phase
use Rattle.tl_txn.specs.declared.txn.Txn.{Txn}
use Rattle.tl_node.specs.Hears.{manager_says}
use Rattle.tl_node.proofs.Heard.{begin_says, commits_shown, manager_alike, numbers_shown}
use Rattle.tl_node.specs.After.{ComesTo, IsAfter, IsHeld, IsOpened, Wants, at_todo, hears, marked}
use Rattle.tl_node.specs.Begun.{HasBegun, began_mark}
use Rattle.tl_node.specs.Fits.{FitsAll, FitsRunning, HasPresent, IsBeginning, IsFit, IsOwn}
use Rattle.tl_node.specs.Seen.{settled}
use Rattle.tl_node.specs.View.{StandsFor, asked_by, doing_so, node_at, node_so, value_of}
use Rattle.tl_node.specs.declared.kept.Core.{Core}
use Rattle.tl_node.specs.declared.work.Course.TheVariants as way
use Rattle.tl_node.specs.declared.work.Next.{Next}
use Rattle.tl_node.specs.declared.work.Next.TheVariants as next
use Rattle.tl_node.specs.declared.work.Running.{Running}
use Rattle.tl_node.specs.declared.work.Stage.TheVariants as stage
use Rattle.tl_node.specs.declared.work.Work.{Work}
use Rattle.tl_node.specs.declared.work.Work.TheVariants as work
use Rattle.tl_node.proofs.Arrives.{Arrives, arrives_at}
use Rattle.tl_node.proofs.BeginSteps.{IsPlain, JustBegan, OutcomeOf, StillBegins, at_step}
use Rattle.tl_node.proofs.NotStrange.{not_strange_at}

-- a node that runs something is at a statement
pub running_present : (core : Core) (r : Running) → IsFit core (work.Runs r) → HasPresent core (λ statement. FitsRunning core statement r)
running_present core r fits = by (drop (length core.answers.items) core.statements) refl fits
  where
    by : (todo : List Bound) → drop (length core.answers.items) core.statements ≡ todo → FitsAll core todo (work.Runs r) → HasPresent core (λ statement. FitsRunning core statement r)
    by [] e h = absurd h
    by (statement ∷ later) e h = record { statement = statement; later = later; todo_is = e; holds = h }

pub manager_told : (told : Reply) (r : ManagerReply) → manager_says told ≡ Told r → told ≡ reply.Manager r
manager_told (reply.Manager x) r e = let f : x ≡ r = cc in ap (λ (y : ManagerReply). reply.Manager y) f
manager_told (reply.Store x) r e = cc

pub asked_same : (settings : Settings) (o : Option Ask) → asked_next settings o ≡ asked_by settings o
asked_same settings None = refl
asked_same settings (Some ask) = refl

plain_marked : (commits : List Commit) (number : ℕ) (told : Reply) (m : Mark) → IsPlain m → entries_of number m ≡ marked commits number told m
plain_marked commits number told mark.Quiet h = refl
plain_marked commits number told mark.Asked h = refl
plain_marked commits number told other h = absurd h

plain_known : (meant m : Mark) → IsPlain meant → IsKnown meant m → m ≡ meant
plain_known mark.Quiet m h e = e
plain_known mark.Asked m h e = e
plain_known other m h e = absurd h

abbrev pub first_run : Txn → Running
first_run txn = record { txn = txn; stage = stage.Fresh; course = way.Begins }

module _ (old : Core) (statement : Bound) (later : List Bound) (e : course_outside statement ≡ ToBegin) where
  -- the node of the law
  abbrev pub At : Phase → Node
  At p = at_todo old (statement ∷ later) (doing_of Fresh p)

  hears_so : (p : Phase) (told : Reply) → IsBeginning p → hears old.layout old.catalog (At p) told ≡ code.hears old.catalog p told
  hears_so phase.Asking told b = ap (λ (c : Course). shown_heard old.catalog (asks_outside old.layout (At phase.Asking) statement c) told) e ∙ commits_shown old.catalog told
  hears_so (phase.Noted seen) told b = manager_alike old.catalog (home_of old.layout old.number) (request.Begin old.number seen) told
  hears_so (phase.Drawing seen) told b = numbers_shown old.catalog told
  hears_so (phase.Bringing seen low) told b = manager_alike old.catalog (home_of old.layout old.number) (request.Range (low + 1) (low + 16)) told
  hears_so other told b = absurd b

  kept : (p : Phase) → IsBeginning p → doing_of Fresh p ≡ thin (settled old.layout old.catalog statement (doing_of Fresh p))
  kept phase.Asking b = refl
  kept (phase.Noted seen) b = refl
  kept (phase.Drawing seen) b = refl
  kept (phase.Bringing seen low) b = refl
  kept other b = absurd b

  no_end : (p : Phase) → IsBeginning p → is_ending (doing_of Fresh p) ≡ false
  no_end phase.Asking b = refl
  no_end (phase.Noted seen) b = refl
  no_end (phase.Drawing seen) b = refl
  no_end (phase.Bringing seen low) b = refl
  no_end other b = absurd b

  runs : (p : Phase) → IsBeginning p → is_stopped (doing_of Fresh p) ≡ false
  runs phase.Asking b = refl
  runs (phase.Noted seen) b = refl
  runs (phase.Drawing seen) b = refl
  runs (phase.Bringing seen low) b = refl
  runs other b = absurd b

  goes : (txn after : Txn) (told : Reply) (m : Mark) (taken : Taken) → drop (length old.answers.items) old.statements ≡ statement ∷ later → IsOwn old txn → IsSameRun txn after
      → after.phase ≡ taken.phase → after.next ≡ asked_next txn.layout taken.ask
      → StillBegins old.layout old.catalog (At txn.phase) statement (takes_doing old.layout old.catalog (At txn.phase) statement (doing_of Fresh txn.phase) (code.hears old.catalog txn.phase told) answer.Begun)
      (λ commits. says_doing old.layout old.catalog commits (At txn.phase) statement (doing_of Fresh txn.phase) (code.hears old.catalog txn.phase told) answer.Begun)
      (is_odd_for (doing_of Fresh txn.phase) (code.hears old.catalog txn.phase told)) taken m
      → ComesTo old.layout old.catalog (At txn.phase) (code.hears old.catalog txn.phase told) told old m (Ok (next.Goes (work.Runs (first_run after))))
  goes txn after told m taken todo_is own same phase_is next_is b =
      let d : Doing = doing_of Fresh taken.phase in
      let w : Work = work.Runs (first_run after) in
      let o : IsOpened old (statement ∷ later) d w =
      record {
        doing_is = ap (λ (p : Phase). doing_of Fresh p) phase_is ∙ kept taken.phase b.begins;
        ask_is = next_is ∙ ap (λ (settings : Settings). asked_next settings taken.ask) own.layout ∙ asked_same old.layout taken.ask ∙ ap (λ (ask : Option Ask). asked_by old.layout ask) (sym b.ask_is);
        fits = record {
          own = record { layout = same.layout_is ∙ own.layout; node = same.node_is ∙ own.node };
          course = (e, subst IsBeginning (sym phase_is) b.begins);
        };
      } in
      let a : Arrives old.layout old.catalog old w (at_todo old (statement ∷ later) d) = arrives_at old (statement ∷ later) w d todo_is o in
      record {
        fits = a.fits;
        not_strange = not_strange_at old.layout old.catalog (At txn.phase) (code.hears old.catalog txn.phase told) _ b.after_is (runs taken.phase b.begins) b.not_odd;
        stands = subst (λ (n : Node). StandsFor old.layout old.catalog n (value_of old w)) (sym b.after_is) a.stands;
        entries = λ commits. b.says_is commits ∙ plain_marked commits old.number told m b.plain;
      }

  -- by the step that the code makes
  made_so : (txn : Txn) (told : Reply) (made : Option TxnStep) → IsOwn old txn → IsBeginning txn.phase
      → (takes txn.layout txn.node txn.phase (code.hears old.catalog txn.phase told)).step ≡ made
      → OutcomeOf old.layout old.catalog (At txn.phase) statement txn.phase (code.hears old.catalog txn.phase told) made
  made_so txn told made own b is =
      at_step old.layout old.catalog (At txn.phase) statement txn.phase (code.hears old.catalog txn.phase told) made e b
      (subst (λ (number : ℕ). (takes old.layout number txn.phase (code.hears old.catalog txn.phase told)).step ≡ made) own.node
      (subst (λ (settings : Settings). (takes settings txn.node txn.phase (code.hears old.catalog txn.phase told)).step ≡ made) own.layout is))

  -- what is told at it
  abbrev pub Said : Phase → Heard → List Commit → List Entry
  Said p h commits = says_doing old.layout old.catalog commits (At p) statement (doing_of Fresh p) h answer.Begun

  unsaid_begun : (commits : List Commit) (tid : ℕ) (snapshot floor : TidSet) (seen : TidSet) (s : Bound)
      → unsaid (says_doing old.layout old.catalog commits (At (phase.Noted seen)) s (Noted seen) (Told (manager.Began tid snapshot floor)) answer.Begun)
      ≡ marked commits old.number (reply.Manager (manager.Began tid snapshot floor)) (mark.Began tid)
  unsaid_begun commits tid snapshot floor seen bound.Begin = refl
  unsaid_begun commits tid snapshot floor seen s = refl

  reply_is : (p : Phase) (told : Reply) (taken : Taken) (m : Mark) (h : JustBegan old.layout old.catalog (At p) statement p (code.hears old.catalog p told) taken m)
      → told ≡ reply.Manager (manager.Began h.tid h.snapshot h.floor)
  reply_is p told taken m h =
      manager_told told (manager.Began h.tid h.snapshot h.floor)
      (begin_says h.seen told (manager.Began h.tid h.snapshot h.floor) (ap (λ (q : Phase). code.hears old.catalog q told) (sym h.before_is) ∙ h.heard_is))

  unsaid_at : (p : Phase) (told : Reply) (taken : Taken) (meant m : Mark) → JustBegan old.layout old.catalog (At p) statement p (code.hears old.catalog p told) taken meant → IsKnown meant m
      → (commits : List Commit) → unsaid (Said p (code.hears old.catalog p told) commits) ≡ marked commits old.number told m
  unsaid_at p told taken meant m h known commits =
      let known_so : m ≡ mark.Began h.tid = subst (λ (x : Mark). IsKnown x m) h.mark_is known in
      ap (λ (q : Phase). unsaid (Said q (code.hears old.catalog q told) commits)) h.before_is
      ∙ ap (λ (x : Heard). unsaid (Said (phase.Noted h.seen) x commits)) (ap (λ (q : Phase). code.hears old.catalog q told) (sym h.before_is) ∙ h.heard_is)
      ∙ unsaid_begun commits h.tid h.snapshot h.floor h.seen statement
      ∙ ap (λ (r : Reply). marked commits old.number r (mark.Began h.tid)) (sym (reply_is p told taken meant h))
      ∙ ap (λ (x : Mark). marked commits old.number told x) (sym known_so)

  clash : (a b : Bool) → a ≡ true → a ≡ false → ⊥
  clash a b f g = cc

  entries_at : (txn : Txn) (told : Reply) (m : Mark) → IsOwn old txn → IsBeginning txn.phase → (made : Option TxnStep)
      → (takes txn.layout txn.node txn.phase (code.hears old.catalog txn.phase told)).step ≡ made → IsTold made m
      → is_strange_to old.layout old.catalog (At txn.phase) (code.hears old.catalog txn.phase told) ≡ false
      → (commits : List Commit) → (unsaid (Said txn.phase (code.hears old.catalog txn.phase told) commits) ≡ marked commits old.number told m)
      ⊎ (Said txn.phase (code.hears old.catalog txn.phase told) commits ≡ marked commits old.number told m)
  entries_at txn told m own b None is known strange commits =
      absurd (clash (is_strange_to old.layout old.catalog (At txn.phase) (code.hears old.catalog txn.phase told)) true (made_so txn told None own b is) strange)
  entries_at txn told m own b (Some (step.Going meant)) is known strange commits =
      let h : OutcomeOf old.layout old.catalog (At txn.phase) statement txn.phase (code.hears old.catalog txn.phase told) (Some (step.Going meant)) = made_so txn told (Some (step.Going meant)) own b is in
      inr (h.says_is commits ∙ plain_marked commits old.number told meant h.plain ∙ ap (λ (x : Mark). marked commits old.number told x) (sym (plain_known meant m h.plain known)))
  entries_at txn told m own b (Some (step.Ready meant)) is known strange commits =
      inl (unsaid_at txn.phase told (takes old.layout old.number txn.phase (code.hears old.catalog txn.phase told)) meant m (made_so txn told (Some (step.Ready meant)) own b is) known commits)
  entries_at txn told m own b (Some (step.Leaf meant)) is known strange commits = absurd (made_so txn told (Some (step.Leaf meant)) own b is)
  entries_at txn told m own b (Some (step.Ended meant)) is known strange commits = absurd (made_so txn told (Some (step.Ended meant)) own b is)
  entries_at txn told m own b (Some (step.NoMemory meant)) is known strange commits = absurd (made_so txn told (Some (step.NoMemory meant)) own b is)

  wants : (txn : Txn) (told : Reply) (m : Mark) → IsOwn old txn → IsBeginning txn.phase
      → IsTold (takes txn.layout txn.node txn.phase (code.hears old.catalog txn.phase told)).step m
      → IsHeld (At txn.phase) old × Wants old.layout old.catalog (At txn.phase) (code.hears old.catalog txn.phase told) told m
  wants txn told m own b known = (
    record { left = refl; answers = refl },
    record { no_end = no_end txn.phase b; entries = entries_at txn told m own b (takes txn.layout txn.node txn.phase (code.hears old.catalog txn.phase told)).step refl known },
  )

  -- the node as it stands
  stands_so : (txn : Txn) (told : Reply) (new : Core) (m : Mark) (result : Result Next NoMemory) → IsBeginning txn.phase → drop (length old.answers.items) old.statements ≡ statement ∷ later
      → ComesTo old.layout old.catalog (At txn.phase) (code.hears old.catalog txn.phase told) told new m result
      → IsAfter old.layout old.catalog (node_at old (work.Runs (first_run txn))) told new m result
  stands_so txn told new m result b todo_is comes =
      subst (λ (todo : List Bound). IsAfter old.layout old.catalog (at_todo old todo (doing_so todo (work.Runs (first_run txn)))) told new m result) (sym todo_is)
      (subst (λ (h : Heard). ComesTo old.layout old.catalog (At txn.phase) h told new m result) (sym (hears_so txn.phase told b)) comes)

-- ---- step by step, as the code takes the reply

module _ (old : Core) (txn : Txn) (told : Reply) (fits : IsFit old (work.Runs (first_run txn))) where
  abbrev Taken_of : Taken
  Taken_of = takes txn.layout txn.node txn.phase (code.hears old.catalog txn.phase told)

  abbrev AfterIs : Core → Mark → Result Next NoMemory → Type 0
  AfterIs new m result = IsAfter old.layout old.catalog (node_at old (work.Runs (first_run txn))) told new m result

  same_taken : {A : Type 0} → IsOwn old txn → (f : Taken → A) → f Taken_of ≡ f (takes old.layout old.number txn.phase (code.hears old.catalog txn.phase told))
  same_taken own f =
      ap (λ (settings : Settings). f (takes settings txn.node txn.phase (code.hears old.catalog txn.phase told))) own.layout
      ∙ ap (λ (number : ℕ). f (takes old.layout number txn.phase (code.hears old.catalog txn.phase told))) own.node

  same_asked : IsOwn old txn → Taken_of.ask ≡ (takes old.layout old.number txn.phase (code.hears old.catalog txn.phase told)).ask
  same_asked own = same_taken own (λ (t : Taken). t.ask)

  pub take_going : (after : Txn) (m : Mark) (w : Work) → IsSameRun txn after → IsTaken txn.layout Taken_of (record { phase = after.phase; next = after.next; step = Some (step.Going m) })
      → w ≡ work.Runs (first_run after) → AfterIs old m (Ok (next.Goes w))
  take_going after m w same is w_is =
      let p = running_present old (first_run txn) fits in
      let r = p.holds in
      let step_is : Taken_of.step ≡ Some (step.Going m) = sym (ap (λ (a : After). a.step) is) in
      subst (λ (x : Work). AfterIs old m (Ok (next.Goes x))) (sym w_is)
      (stands_so old p.statement p.later r.course.0 txn told old m (Ok (next.Goes (work.Runs (first_run after)))) r.course.1 p.todo_is
      (goes old p.statement p.later r.course.0 txn after told m (takes old.layout old.number txn.phase (code.hears old.catalog txn.phase told)) p.todo_is r.own same
      (ap (λ (a : After). a.phase) is ∙ same_taken r.own (λ (t : Taken). t.phase))
      (ap (λ (a : After). a.next) is ∙ ap (λ (ask : Option Ask). asked_next txn.layout ask) (same_asked r.own))
      (made_so old p.statement p.later r.course.0 txn told (Some (step.Going m)) r.own r.course.1 step_is)))

  just_begun : (after : Txn) (m : Mark) → IsTaken txn.layout Taken_of (record { phase = after.phase; next = after.next; step = Some (step.Ready m) })
      → (p : HasPresent old (λ statement. FitsRunning old statement (first_run txn)))
      → JustBegan old.layout old.catalog (At old p.statement p.later p.holds.course.0 txn.phase) p.statement txn.phase (code.hears old.catalog txn.phase told)
      (takes old.layout old.number txn.phase (code.hears old.catalog txn.phase told)) m
  just_begun after m is p =
      made_so old p.statement p.later p.holds.course.0 txn told (Some (step.Ready m)) p.holds.own p.holds.course.1 (sym (ap (λ (a : After). a.step) is))

  pub ready_begun : (after : Txn) (m : Mark) → IsTaken txn.layout Taken_of (record { phase = after.phase; next = after.next; step = Some (step.Ready m) }) → HasBegun after told
  ready_begun after m is =
      let p = running_present old (first_run txn) fits in
      let h = just_begun after m is p in
      record {
        tid = h.tid;
        snapshot = h.snapshot;
        floor = h.floor;
        told_is = reply_is old p.statement p.later p.holds.course.0 txn.phase told (takes old.layout old.number txn.phase (code.hears old.catalog txn.phase told)) m h;
        phase_is =
            ap (λ (a : After). a.phase) is
            ∙ ap (λ (settings : Settings). (takes settings txn.node txn.phase (code.hears old.catalog txn.phase told)).phase) p.holds.own.layout
            ∙ ap (λ (number : ℕ). (takes old.layout number txn.phase (code.hears old.catalog txn.phase told)).phase) p.holds.own.node
            ∙ h.phase_is;
        not_odd = h.not_odd;
      }

  pub take_ready : (after : Txn) (m : Mark) (new : Core) (result : Result Next NoMemory)
      → IsTaken txn.layout Taken_of (record { phase = after.phase; next = after.next; step = Some (step.Ready m) })
      → ((seen : TidSet) → ComesTo old.layout old.catalog (node_so old (Noted seen)) (manager_says told) told new (began_mark told) result) → AfterIs new m result
  take_ready after m new result is comes =
      let p = running_present old (first_run txn) fits in
      let h = just_begun after m is p in
      let told_is = reply_is old p.statement p.later p.holds.course.0 txn.phase told (takes old.layout old.number txn.phase (code.hears old.catalog txn.phase told)) m h in
      let m_is : m ≡ began_mark told = h.mark_is ∙ ap began_mark (sym told_is) in
      let heard_so : code.hears old.catalog (phase.Noted h.seen) told ≡ Told (manager.Began h.tid h.snapshot h.floor) =
      ap (λ (q : Phase). code.hears old.catalog q told) (sym h.before_is) ∙ h.heard_is in
      let says_so : manager_says told ≡ code.hears old.catalog (phase.Noted h.seen) told =
      begin_says h.seen told (manager.Began h.tid h.snapshot h.floor) heard_so ∙ sym heard_so in
      stands_so old p.statement p.later p.holds.course.0 txn told new m result p.holds.course.1 p.todo_is
      (subst (λ (q : Phase). ComesTo old.layout old.catalog (at_todo old (p.statement ∷ p.later) (doing_of Fresh q)) (code.hears old.catalog q told) told new m result) (sym h.before_is)
      (subst (λ (x : Mark). ComesTo old.layout old.catalog (at_todo old (p.statement ∷ p.later) (Noted h.seen)) (code.hears old.catalog (phase.Noted h.seen) told) told new x result) (sym m_is)
      (subst (λ (x : Heard). ComesTo old.layout old.catalog (at_todo old (p.statement ∷ p.later) (Noted h.seen)) x told new (began_mark told) result) says_so
      (subst (λ (todo : List Bound). ComesTo old.layout old.catalog (at_todo old todo (Noted h.seen)) (manager_says told) told new (began_mark told) result) p.todo_is (comes h.seen)))))

  pub take_wants : (after : Txn) (m : Mark) (e : NoMemory) → IsTaken txn.layout Taken_of (record { phase = after.phase; next = after.next; step = Some (step.NoMemory m) }) → AfterIs old m (Err e)
  take_wants after m e is =
      let p = running_present old (first_run txn) fits in
      stands_so old p.statement p.later p.holds.course.0 txn told old m (Err e) p.holds.course.1 p.todo_is (wants old p.statement p.later p.holds.course.0 txn told m p.holds.own p.holds.course.1 is.1)

  pub take_strange : (after : Txn) → IsTaken txn.layout Taken_of (record { phase = after.phase; next = after.next; step = None }) → AfterIs old mark.Quiet (Ok next.Strange)
  take_strange after is =
      let p = running_present old (first_run txn) fits in
      let step_is : Taken_of.step ≡ None = sym (ap (λ (a : After). a.step) is) in
      stands_so old p.statement p.later p.holds.course.0 txn told old mark.Quiet (Ok next.Strange) p.holds.course.1 p.todo_is
      (record { left = refl; answers = refl }, made_so old p.statement p.later p.holds.course.0 txn told None p.holds.own p.holds.course.1 step_is)

  pub never_leaf : (after : Txn) (m : Mark) → IsTaken txn.layout Taken_of (record { phase = after.phase; next = after.next; step = Some (step.Leaf m) }) → ⊥
  never_leaf after m is =
      let p = running_present old (first_run txn) fits in
      made_so old p.statement p.later p.holds.course.0 txn told (Some (step.Leaf m)) p.holds.own p.holds.course.1 (sym (ap (λ (a : After). a.step) is))

  pub never_ended : (after : Txn) (m : Mark) → IsTaken txn.layout Taken_of (record { phase = after.phase; next = after.next; step = Some (step.Ended m) }) → ⊥
  never_ended after m is =
      let p = running_present old (first_run txn) fits in
      made_so old p.statement p.later p.holds.course.0 txn told (Some (step.Ended m)) p.holds.own p.holds.course.1 (sym (ap (λ (a : After). a.step) is))
