-- A node that reads takes a reply.
use Rattle.std.proofs.Common.{◌≡◌, ℕ, ◌+◌, Bool, true, false, ◌⊎◌, inl, inr, List, [], ◌∷◌, ◌++◌, length, map, drop, Option, Some, None, Result, Ok, Err, refl, sym, ap, ◌∙◌, subst, append_assoc}
use Rattle.std.specs.Prelude.{◌||◌}
use Rattle.tl_lemmas.proofs.Tests.{never_both}
use Rattle.tl_base.specs.declared.memory.NoMemory.{NoMemory}
use Rattle.tl_base.specs.declared.place.Settings.{Settings}
use Rattle.tl_values.specs.declared.value.Value.{Value}
use Rattle.tl_manager.specs.declared.mark.Mark.{Mark}
use Rattle.tl_manager.specs.declared.mark.Mark.TheVariants as mark
use Rattle.tl_manager.specs.declared.mark.TxnStep.{TxnStep}
use Rattle.tl_manager.specs.declared.mark.TxnStep.TheVariants as step
use Rattle.tl_manager.specs.declared.request.Reply.{Reply}
use Rattle.tl_descriptor.specs.Tids.{TidSet}
use Rattle.tl_write.specs.declared.write.Write.{Write}
use Rattle.tl_write.specs.Change.{number_of}
use Rattle.tl_isolation.specs.declared.bound.Bound.{Bound}
use Rattle.tl_isolation.specs.declared.bound.Bound.TheVariants as bound
use Rattle.tl_isolation.specs.declared.entry.Answer.{Answer}
use Rattle.tl_isolation.specs.declared.entry.Answer.TheVariants as answer
use Rattle.tl_isolation.specs.declared.state.Commit.{Commit}
use Rattle.tl_plan.specs.Plan.{numbers_of}
use Rattle.tl_protocol.specs.World.{Txn}
use Rattle.tl_journal.specs.Ask.{Ask, Heard}
use Rattle.tl_journal.specs.Asks.{asks_read}
use Rattle.tl_schema.specs.declared.catalog.Catalog.{Catalog}
use Rattle.tl_ask.specs.Given.{shown_heard}
use Rattle.tl_journal.specs.Memory.{unsaid}
use Rattle.tl_journal.specs.Node.{Reading, Node}
use Rattle.tl_journal.specs.Reads as law
use Rattle.tl_journal.specs.Reads.{Reads, after_read, next_table, read_of}
use Rattle.tl_journal.specs.Says.{says_read}
use Rattle.tl_journal.specs.Strange.{is_odd_for, is_strange_to, is_stopped}
use Rattle.tl_journal.specs.Takes.{MeansRead, after_reply, goes_on}
use Rattle.tl_journal.proofs.StrangeStops.{on_runs}
use Rattle.tl_txn.specs.After.{IsKnown, IsTaken, IsTold, asked_next}
use Rattle.tl_txn.specs.Doing.{txn_in}
use Rattle.tl_txn.specs.Follows.{ReadsNeverEnd, StepsSo, law_read}
use Rattle.tl_txn.specs.Hears as code
use Rattle.tl_txn.specs.NodeReads.{Awaits, NodeReadEnds, NodeReadGoes, NodeReadsAll, NodeReadsOn, NodeReadsStop}
use Rattle.tl_txn.specs.Run.{IsSameRun}
use Rattle.tl_txn.specs.Taken.{Taken, takes, takes_reading}
use Rattle.tl_txn.specs.declared.after.After.{After}
use Rattle.tl_txn.specs.declared.phase.Open.{Open}
use Rattle.tl_txn.specs.declared.phase.Phase.{Phase}
use Rattle.tl_txn.specs.declared.phase.Phase.TheVariants as phase
use Rattle.tl_txn.specs.declared.phase.Read.{Read}
use Rattle.tl_txn.specs.declared.phase.Read.TheVariants as read
use Rattle.tl_txn.specs.declared.txn.Txn.{Txn as TheTxn}
use Rattle.tl_node.proofs.Heard.{page_shown}
use Rattle.tl_node.specs.After.{ComesTo, IsAfter, IsHeld, IsOpened, at_todo, hears, marked}
use Rattle.tl_node.specs.Fits.{FitsReading, FitsRunning, HasPresent, IsFit, IsOwn, IsReading, OwnSuitsStatement, TakesStatements}
use Rattle.tl_node.specs.ReadOn.{IsReadSo, read_behind}
use Rattle.tl_node.specs.Saying.{all_rows}
use Rattle.tl_node.specs.View.{StandsFor, asked_by, doing_so, head_of, node_at, reading_so, reads_in, stage_of, value_of}
use Rattle.tl_node.specs.declared.kept.Core.{Core}
use Rattle.tl_node.specs.declared.work.Course.TheVariants as way
use Rattle.tl_node.specs.declared.work.Next.{Next}
use Rattle.tl_node.specs.declared.work.Next.TheVariants as next
use Rattle.tl_node.specs.declared.work.Reading.{Reading as TheReading}
use Rattle.tl_node.specs.declared.work.Running.{Running}
use Rattle.tl_node.specs.declared.work.Stage.{Stage}
use Rattle.tl_node.specs.declared.work.Work.{Work}
use Rattle.tl_node.specs.declared.work.Work.TheVariants as work
use Rattle.tl_node.proofs.Arrives.{Arrives, arrives_at}
use Rattle.tl_node.proofs.BeginAfter.{asked_same, running_present}
use Rattle.tl_node.proofs.NotStrange.{not_strange_at}
use Rattle.tl_journal.proofs.CutShort.{unsaid_read}

-- ---- the reads

-- those behind the read in hand, of the same table
abbrev pub left_behind : Bound → TheReading → List law.Read
left_behind (bound.Change edit) reading = map (read_of (number_of edit)) (drop (reading.at + 1) reading.accesses)
left_behind statement reading = []

head_is : (r : Read) → head_of r ≡ law_read r
head_is (read.Point key) = refl
head_is (read.Range p) = refl

head_left : (r : Read) (left : List law.Read) → head_of r ∷ left ≡ law_read r ∷ left
head_left r left = ap (λ (x : law.Read). x ∷ left) (head_is r)

left_is : (statement : Bound) (reading : TheReading) (live : Open) (r : Read) → (reads_in statement reading live r).left ≡ law_read r ∷ left_behind statement reading
left_is (bound.Select query) reading live r = head_left r []
left_is (bound.Change edit) reading live r = head_left r (left_behind (bound.Change edit) reading)
left_is statement reading live r = head_left r []

reads_are : (a b : Reads) → a.left ≡ b.left → a.later ≡ b.later → a.rows ≡ b.rows → a.earlier ≡ b.earlier → a ≡ b
reads_are a b e f g h =
    ap (λ (left : List law.Read). record { left = left; later = a.later; rows = a.rows; earlier = a.earlier }) e
    ∙ ap (λ (later : List (List law.Read)). record { left = b.left; later = later; rows = a.rows; earlier = a.earlier }) f
    ∙ ap (λ (rows : List (List Value)). record { left = b.left; later = b.later; rows = rows; earlier = a.earlier }) g
    ∙ ap (λ (earlier : List (List (List Value))). record { left = b.left; later = b.later; rows = b.rows; earlier = earlier }) h

-- with these rows found more
reads_next : (statement : Bound) (reading : TheReading) (live after : Open) (r s : Read) (found : List (List Value)) → after.rows ≡ live.rows ++ found
    → reads_in statement reading after s
    ≡ record { left = law_read s ∷ left_behind statement reading; later = (reads_in statement reading live r).later; rows = (reads_in statement reading live r).rows ++ found; earlier = (reads_in statement reading live r).earlier }
reads_next (bound.Select query) reading live after r s found e = reads_are _ _ (ap (λ (x : law.Read). x ∷ []) (head_is s)) refl e refl
reads_next (bound.Change edit) reading live after r s found e =
    reads_are _ _ (ap (λ (x : law.Read). x ∷ left_behind (bound.Change edit) reading) (head_is s)) refl
    (ap (λ (rows : List (List Value)). all_rows reading.found ++ rows) e ∙ sym (append_assoc (all_rows reading.found) live.rows found)) refl
reads_next statement reading live after r s found e = reads_are _ _ (ap (λ (x : law.Read). x ∷ []) (head_is s)) refl e refl

behind_change : (all before rows found : List (List Value)) (left : List law.Read) (first : law.Read) → rows ≡ before ++ found
    → after_read (record { left = []; later = []; rows = all; earlier = [] }) left rows
    ≡ after_read (record { left = first ∷ left; later = []; rows = all ++ before; earlier = [] }) left found
behind_change all before rows found [] first e = reads_are _ _ refl refl (ap (λ (more : List (List Value)). all ++ more) e ∙ sym (append_assoc all before found)) refl
behind_change all before rows found (x ∷ left) first e = reads_are _ _ refl refl (ap (λ (more : List (List Value)). all ++ more) e ∙ sym (append_assoc all before found)) refl

pub behind_is : (statement : Bound) (reading : TheReading) (live after : Open) (r : Read) (found : List (List Value)) → after.rows ≡ live.rows ++ found
    → read_behind statement reading after.rows ≡ after_read (reads_in statement reading live r) (left_behind statement reading) found
behind_is (bound.Select query) reading live after r found e =
    ap (λ (rows : List (List Value)). next_table (law.reads_of (drop (reading.at + 1) (numbers_of query)) (drop (reading.at + 1) reading.accesses)) rows reading.found) e
behind_is (bound.Change edit) reading live after r found e =
    behind_change (all_rows reading.found) live.rows after.rows found (left_behind (bound.Change edit) reading) (head_of r) e
behind_is statement reading live after r found e = ap (λ (rows : List (List Value)). record { left = []; later = []; rows = rows; earlier = [] }) e

-- ---- what is heard

hears_first : (catalog : Catalog) (r : Read) (left : List law.Read) (told : Reply) → shown_heard catalog (asks_read (head_of r ∷ left)) told ≡ code.hears_reading catalog r told
hears_first catalog (read.Point key) left told = refl
hears_first catalog (read.Range p) left told = page_shown catalog p.shard p.from p.before told

-- ---- the phase

pub record ReadingIs (p : Phase) : Type 0 where
  pub live : Open
  pub r : Read
  pub is : p ≡ phase.Reading live r

reading_is : (p : Phase) → IsReading p → ReadingIs p
reading_is (phase.Reading live r) h = record { live = live; r = r; is = refl }
reading_is other h = absurd h

abbrev pub read_run : TheTxn → Stage → TheReading → Running
read_run txn said reading = record { txn = txn; stage = said; course = way.Reads reading }

some_same : (a b : Reads) → ◌≡◌ {A = Option Reads} (Some a) (Some b) → a ≡ b
some_same a b e = cc

module _ (old : Core) (statement : Bound) (later : List Bound) (said : Stage) (reading : TheReading) (live : Open) (r : Read) where
  abbrev pub T : Txn
  T = txn_in (stage_of said) live

  abbrev pub Law : Reads
  Law = reads_in statement reading live r

  -- the node of the law
  abbrev pub At : Node
  At = at_todo old (statement ∷ later) (Reading (txn_in (stage_of said) live) (reads_in statement reading live r))

  awaits : Awaits T Law live r (left_behind statement reading)
  awaits = record { snapshot_is = refl; left_are = left_is statement reading live r }

  hears_so : (told : Reply) → hears old.layout old.catalog At told ≡ code.hears_reading old.catalog r told
  hears_so told = by statement
    where
      by : (s : Bound) → shown_heard old.catalog (asks_read (reads_in s reading live r).left) told ≡ code.hears_reading old.catalog r told
      by (bound.Select query) = hears_first old.catalog r [] told
      by (bound.Change edit) = hears_first old.catalog r (map (read_of (number_of edit)) (drop (reading.at + 1) reading.accesses)) told
      by s = hears_first old.catalog r [] told

  -- the read goes on
  goes : (txn after : TheTxn) (told : Reply) (m : Mark) (taken : Taken) → drop (length old.answers.items) old.statements ≡ statement ∷ later → IsOwn old txn → IsSameRun txn after
      → FitsReading old statement reading → TakesStatements (stage_of said) → after.phase ≡ taken.phase → after.next ≡ asked_next txn.layout taken.ask
      → NodeReadGoes old.layout old.catalog At statement T Law live (left_behind statement reading) (code.hears_reading old.catalog r told) answer.Begun taken m
      → ComesTo old.layout old.catalog At (code.hears_reading old.catalog r told) told old m (Ok (next.Goes (work.Runs (read_run after said reading))))
  goes txn after told m taken todo_is own same fits takes phase_is next_is g =
      let w : Work = work.Runs (read_run after said reading) in
      let at_phase : after.phase ≡ phase.Reading g.next_live g.next_read = phase_is ∙ g.phase_is in
      let t_is : txn_in (stage_of said) g.next_live ≡ T =
      ap (λ (tid : ℕ). record { tid = tid; snapshot = g.next_live.snapshot; own = g.next_live.own; stage = stage_of said }) g.finds.tid_is
      ∙ ap (λ (snapshot : TidSet). record { tid = live.tid; snapshot = snapshot; own = g.next_live.own; stage = stage_of said }) g.finds.snapshot_is
      ∙ ap (λ (own : List Write). record { tid = live.tid; snapshot = live.snapshot; own = own; stage = stage_of said }) g.finds.own_is in
      let reads_so : reads_in statement reading g.next_live g.next_read ≡ g.next_reads =
      reads_next statement reading live g.next_live r g.next_read g.found g.finds.rows_are
      ∙ reads_are _ _ (sym g.awaits.left_are) (sym g.later_are) (sym g.rows_are) (sym g.earlier_are) in
      let o : IsOpened old (statement ∷ later) (Reading T g.next_reads) w =
      record {
        doing_is =
            ap (λ (p : Phase). reading_so statement (stage_of said) reading p) at_phase
            ∙ ap (λ (t : Txn). Reading t (reads_in statement reading g.next_live g.next_read)) t_is
            ∙ ap (λ (x : Reads). Reading T x) reads_so;
        ask_is =
            next_is ∙ ap (λ (settings : Settings). asked_next settings taken.ask) own.layout ∙ asked_same old.layout taken.ask
            ∙ ap (λ (ask : Option Ask). asked_by old.layout ask) (sym g.ask_is);
        fits = record {
          own = record { layout = same.layout_is ∙ own.layout; node = same.node_is ∙ own.node };
          course = (subst IsReading (sym at_phase) tt, fits, takes);
        };
      } in
      let a : Arrives old.layout old.catalog old w (at_todo old (statement ∷ later) (Reading T g.next_reads)) = arrives_at old (statement ∷ later) w (Reading T g.next_reads) todo_is o in
      record {
        fits = a.fits;
        not_strange = not_strange_at old.layout old.catalog At (code.hears_reading old.catalog r told) _ g.takes_is refl refl;
        stands = subst (λ (n : Node). StandsFor old.layout old.catalog n (value_of old w)) (sym g.takes_is) a.stands;
        entries = λ commits. g.says_is ∙ ap (λ (x : Mark). marked commits old.number told x) (sym g.mark_is);
      }

  -- it is done
  pub is_read : (after : TheTxn) (told : Reply) (m : Mark) (taken : Taken) → drop (length old.answers.items) old.statements ≡ statement ∷ later → after.phase ≡ taken.phase
      → ((told_so : Answer) → NodeReadEnds old.layout old.catalog At statement T Law live (left_behind statement reading) (code.hears_reading old.catalog r told) told_so taken m)
      → IsReadSo old At (code.hears_reading old.catalog r told) reading after.phase said
  is_read after told m taken todo_is phase_is ends =
      let e : NodeReadEnds old.layout old.catalog At statement T Law live (left_behind statement reading) (code.hears_reading old.catalog r told) answer.Begun taken m = ends answer.Begun in
      let t_is : txn_in (stage_of said) e.next_live ≡ T =
      ap (λ (tid : ℕ). record { tid = tid; snapshot = e.next_live.snapshot; own = e.next_live.own; stage = stage_of said }) e.finds.tid_is
      ∙ ap (λ (snapshot : TidSet). record { tid = live.tid; snapshot = snapshot; own = e.next_live.own; stage = stage_of said }) e.finds.snapshot_is
      ∙ ap (λ (own : List Write). record { tid = live.tid; snapshot = live.snapshot; own = own; stage = stage_of said }) e.finds.own_is in
      let behind : read_behind statement reading e.next_live.rows ≡ after_read Law (left_behind statement reading) e.found = behind_is statement reading live e.next_live r e.found e.finds.rows_are in
      let reply_is : after_reply old.layout T.snapshot Law Law.left (code.hears_reading old.catalog r told) ≡ Some (read_behind statement reading e.next_live.rows) =
      e.after_is ∙ ap (λ (x : Reads). Some x) (sym behind) in
      record {
        statement = statement;
        later = later;
        live = e.next_live;
        todo_is = todo_is;
        phase_is = phase_is ∙ e.phase_is;
        n_is = refl;
        takes_is = λ told_so.
            (ends told_so).takes_is
            ∙ ap (λ (x : Reads). goes_on old.catalog At statement T x told_so)
            (some_same (after_read Law (left_behind statement reading) (ends told_so).found) (read_behind statement reading e.next_live.rows) (sym (ends told_so).after_is ∙ reply_is))
            ∙ ap (λ (t : Txn). goes_on old.catalog At statement t (read_behind statement reading e.next_live.rows) told_so) (sym t_is);
        says_is = λ commits told_so.
            ap (λ (x : Option Reads). says_read At statement T x told_so) reply_is
            ∙ ap (λ (t : Txn). says_read At statement t (Some (read_behind statement reading e.next_live.rows)) told_so) (sym t_is);
        means_is = λ told_so h.
            subst (λ (x : Option Reads). MeansRead old.catalog statement T x told_so) (sym reply_is)
            (subst (λ (t : Txn). MeansRead old.catalog statement t (Some (read_behind statement reading e.next_live.rows)) told_so) t_is h);
        not_strange =
            not_strange_at old.layout old.catalog At (code.hears_reading old.catalog r told) _ e.takes_is
            (on_runs old.catalog At statement T (after_read Law (left_behind statement reading) e.found) answer.Begun) refl;
        no_end = refl;
        suits = λ suits. subst (λ (own : List Write). OwnSuitsStatement old.catalog statement own) (sym e.finds.own_is) suits;
      }

  -- memory was wanted, or the reply is strange
  entries_at : (told : Reply) (m : Mark) → NodeReadsOn → NodeReadsAll → NodeReadsStop → ReadsNeverEnd → StepsSo → (number : ℕ) (made : Option TxnStep)
      → (takes old.layout number (phase.Reading live r) (code.hears_reading old.catalog r told)).step ≡ made → IsTold made m
      → is_strange_to old.layout old.catalog At (code.hears_reading old.catalog r told) ≡ false
      → (commits : List Commit) → (unsaid (says_read At statement T (after_reply old.layout T.snapshot Law Law.left (code.hears_reading old.catalog r told)) answer.Begun) ≡ marked commits old.number told m)
      ⊎ (says_read At statement T (after_reply old.layout T.snapshot Law Law.left (code.hears_reading old.catalog r told)) answer.Begun ≡ marked commits old.number told m)
  entries_at told m on all stop ends steps number None is known strange commits =
      let h = stop old.layout old.catalog At statement T Law live r (left_behind statement reading) (code.hears_reading old.catalog r told) answer.Begun awaits is in
      absurd
      (never_both (is_strange_to old.layout old.catalog At (code.hears_reading old.catalog r told))
      (ap (λ (n : Node). is_stopped n.doing || is_odd_for At.doing (code.hears_reading old.catalog r told)) h.takes_is) strange)
  entries_at told m on all stop ends steps number (Some (step.Going meant)) is known strange commits =
      let g = on old.layout old.catalog At statement T Law live r (left_behind statement reading) (code.hears_reading old.catalog r told) answer.Begun meant awaits is in
      let m_is : m ≡ mark.Quiet = subst (λ (x : Mark). IsKnown x m) g.mark_is known in
      inr (g.says_is ∙ ap (λ (x : Mark). marked commits old.number told x) (sym m_is))
  entries_at told m on all stop ends steps number (Some (step.Ready meant)) is known strange commits =
      let e = all old.layout old.catalog At statement T Law live r (left_behind statement reading) (code.hears_reading old.catalog r told) answer.Begun meant awaits is in
      let m_is : m ≡ mark.Quiet = subst (λ (x : Mark). IsKnown x m) e.mark_is known in
      inl
      (unsaid_read At statement T (after_reply old.layout T.snapshot Law Law.left (code.hears_reading old.catalog r told)) answer.Begun
      ∙ ap (λ (x : Mark). marked commits old.number told x) (sym m_is))
  entries_at told m on all stop ends steps number (Some (step.Leaf meant)) is known strange commits =
      absurd ((steps old.layout number (phase.Reading live r) (code.hears_reading old.catalog r told) meant).0 is)
  entries_at told m on all stop ends steps number (Some (step.NoMemory meant)) is known strange commits =
      absurd ((steps old.layout number (phase.Reading live r) (code.hears_reading old.catalog r told) meant).1 is)
  entries_at told m on all stop ends steps number (Some (step.Ended meant)) is known strange commits =
      absurd (ends old.layout live r (code.hears_reading old.catalog r told) meant is)

  -- the node as it stands
  stands_so : (txn : TheTxn) (told : Reply) (new : Core) (m : Mark) (result : Result Next NoMemory) → txn.phase ≡ phase.Reading live r
      → drop (length old.answers.items) old.statements ≡ statement ∷ later → ComesTo old.layout old.catalog At (code.hears_reading old.catalog r told) told new m result
      → IsAfter old.layout old.catalog (node_at old (work.Runs (read_run txn said reading))) told new m result
  stands_so txn told new m result is todo_is comes =
      subst (λ (todo : List Bound). IsAfter old.layout old.catalog (at_todo old todo (doing_so todo (work.Runs (read_run txn said reading)))) told new m result) (sym todo_is)
      (subst (λ (p : Phase). IsAfter old.layout old.catalog (at_todo old (statement ∷ later) (reading_so statement (stage_of said) reading p)) told new m result) (sym is)
      (subst (λ (h : Heard). ComesTo old.layout old.catalog At h told new m result) (sym (hears_so told)) comes))

-- ---- step by step, as the code takes the reply

module _ (old : Core) (txn : TheTxn) (said : Stage) (reading : TheReading) (told : Reply) (fits : IsFit old (work.Runs (read_run txn said reading))) where
  abbrev pub Taken_of : Taken
  Taken_of = takes txn.layout txn.node txn.phase (code.hears old.catalog txn.phase told)

  abbrev pub AfterIs : Core → Mark → Result Next NoMemory → Type 0
  AfterIs new m result = IsAfter old.layout old.catalog (node_at old (work.Runs (read_run txn said reading))) told new m result

  pub present : HasPresent old (λ statement. FitsRunning old statement (read_run txn said reading))
  present = running_present old (read_run txn said reading) fits

  pub at : ReadingIs txn.phase
  at = reading_is txn.phase present.holds.course.0

  -- what the code makes of the reply
  made_so : {A : Type 0} (f : Taken → A) → f Taken_of ≡ f (takes old.layout old.number (phase.Reading at.live at.r) (code.hears_reading old.catalog at.r told))
  made_so f =
      ap (λ (settings : Settings). f (takes settings txn.node txn.phase (code.hears old.catalog txn.phase told))) present.holds.own.layout
      ∙ ap (λ (number : ℕ). f (takes old.layout number txn.phase (code.hears old.catalog txn.phase told))) present.holds.own.node
      ∙ ap (λ (p : Phase). f (takes old.layout old.number p (code.hears old.catalog p told))) at.is

  pub read_going : NodeReadsOn → (after : TheTxn) (m : Mark) (w : Work) → IsSameRun txn after
      → IsTaken txn.layout Taken_of (record { phase = after.phase; next = after.next; step = Some (step.Going m) }) → w ≡ work.Runs (read_run after said reading) → AfterIs old m (Ok (next.Goes w))
  read_going on after m w same is w_is =
      let step_is : (takes old.layout old.number (phase.Reading at.live at.r) (code.hears_reading old.catalog at.r told)).step ≡ Some (step.Going m) =
      sym (made_so (λ (t : Taken). t.step)) ∙ sym (ap (λ (a : After). a.step) is) in
      subst (λ (x : Work). AfterIs old m (Ok (next.Goes x))) (sym w_is)
      (stands_so old present.statement present.later said reading at.live at.r txn told old m (Ok (next.Goes (work.Runs (read_run after said reading)))) at.is present.todo_is
      (goes old present.statement present.later said reading at.live at.r txn after told m (takes_reading old.layout at.live at.r (code.hears_reading old.catalog at.r told)) present.todo_is present.holds.own same
      present.holds.course.1 present.holds.course.2 (ap (λ (a : After). a.phase) is ∙ made_so (λ (t : Taken). t.phase))
      (ap (λ (a : After). a.next) is ∙ ap (λ (ask : Option Ask). asked_next txn.layout ask) (made_so (λ (t : Taken). t.ask)))
      (on old.layout old.catalog (At old present.statement present.later said reading at.live at.r) present.statement (txn_in (stage_of said) at.live)
      (reads_in present.statement reading at.live at.r) at.live at.r (left_behind present.statement reading) (code.hears_reading old.catalog at.r told) answer.Begun m
      (awaits old present.statement present.later said reading at.live at.r) step_is)))

  -- a read is done
  pub read_done : NodeReadsAll → (after : TheTxn) (m : Mark) → IsTaken txn.layout Taken_of (record { phase = after.phase; next = after.next; step = Some (step.Ready m) })
      → IsReadSo old (At old present.statement present.later said reading at.live at.r) (code.hears_reading old.catalog at.r told) reading after.phase said
  read_done all after m is =
      let step_is : (takes old.layout old.number (phase.Reading at.live at.r) (code.hears_reading old.catalog at.r told)).step ≡ Some (step.Ready m) =
      sym (made_so (λ (t : Taken). t.step)) ∙ sym (ap (λ (a : After). a.step) is) in
      is_read old present.statement present.later said reading at.live at.r after told m (takes_reading old.layout at.live at.r (code.hears_reading old.catalog at.r told)) present.todo_is
      (ap (λ (a : After). a.phase) is ∙ made_so (λ (t : Taken). t.phase))
      (λ told_so.
      all old.layout old.catalog (At old present.statement present.later said reading at.live at.r) present.statement (txn_in (stage_of said) at.live)
      (reads_in present.statement reading at.live at.r) at.live at.r (left_behind present.statement reading) (code.hears_reading old.catalog at.r told) told_so m
      (awaits old present.statement present.later said reading at.live at.r) step_is)

  pub read_marked : NodeReadsAll → (after : TheTxn) (m : Mark) → IsTaken txn.layout Taken_of (record { phase = after.phase; next = after.next; step = Some (step.Ready m) }) → m ≡ mark.Quiet
  read_marked all after m is =
      let step_is : (takes old.layout old.number (phase.Reading at.live at.r) (code.hears_reading old.catalog at.r told)).step ≡ Some (step.Ready m) =
      sym (made_so (λ (t : Taken). t.step)) ∙ sym (ap (λ (a : After). a.step) is) in
      (all old.layout old.catalog (At old present.statement present.later said reading at.live at.r) present.statement (txn_in (stage_of said) at.live)
      (reads_in present.statement reading at.live at.r) at.live at.r (left_behind present.statement reading) (code.hears_reading old.catalog at.r told) answer.Begun m
      (awaits old present.statement present.later said reading at.live at.r) step_is).mark_is

  pub read_ready : IsReading txn.phase
  read_ready = present.holds.course.0

  pub take_ready : NodeReadsAll → (after : TheTxn) (m : Mark) (new : Core) (result : Result Next NoMemory)
      → IsTaken txn.layout Taken_of (record { phase = after.phase; next = after.next; step = Some (step.Ready m) })
      → ((n : Node) (sound : Heard) (r : Reply) → IsReadSo old n sound reading after.phase said → ComesTo old.layout old.catalog n sound r new mark.Quiet result) → AfterIs new m result
  take_ready all after m new result is comes =
      subst (λ (x : Mark). AfterIs new x result) (sym (read_marked all after m is))
      (stands_so old present.statement present.later said reading at.live at.r txn told new mark.Quiet result at.is present.todo_is
      (comes (At old present.statement present.later said reading at.live at.r) (code.hears_reading old.catalog at.r told) told (read_done all after m is)))

  held : IsHeld (At old present.statement present.later said reading at.live at.r) old
  held = record { left = refl; answers = refl }

  pub take_wants : NodeReadsOn → NodeReadsAll → NodeReadsStop → ReadsNeverEnd → StepsSo → (after : TheTxn) (m : Mark) (e : NoMemory)
      → IsTaken txn.layout Taken_of (record { phase = after.phase; next = after.next; step = Some (step.NoMemory m) }) → AfterIs old m (Err e)
  take_wants on all stop ends steps after m e is =
      stands_so old present.statement present.later said reading at.live at.r txn told old m (Err e) at.is present.todo_is (
        held,
        record {
          no_end = refl;
          entries =
              entries_at old present.statement present.later said reading at.live at.r told m on all stop ends steps old.number
              (takes old.layout old.number (phase.Reading at.live at.r) (code.hears_reading old.catalog at.r told)).step refl
              (subst (λ (made : Option TxnStep). IsTold made m) (made_so (λ (t : Taken). t.step)) is.1);
        },
      )

  pub take_strange : NodeReadsStop → (after : TheTxn) → IsTaken txn.layout Taken_of (record { phase = after.phase; next = after.next; step = None }) → AfterIs old mark.Quiet (Ok next.Strange)
  take_strange stop after is =
      let step_is : (takes old.layout old.number (phase.Reading at.live at.r) (code.hears_reading old.catalog at.r told)).step ≡ None = sym (made_so (λ (t : Taken). t.step)) ∙ sym (ap (λ (a : After). a.step) is) in
      let h = stop old.layout old.catalog (At old present.statement present.later said reading at.live at.r) present.statement (txn_in (stage_of said) at.live)
      (reads_in present.statement reading at.live at.r) at.live at.r (left_behind present.statement reading) (code.hears_reading old.catalog at.r told) answer.Begun
      (awaits old present.statement present.later said reading at.live at.r) step_is in
      stands_so old present.statement present.later said reading at.live at.r txn told old mark.Quiet (Ok next.Strange) at.is present.todo_is
      (held, ap (λ (n : Node). is_stopped n.doing || is_odd_for (At old present.statement present.later said reading at.live at.r).doing (code.hears_reading old.catalog at.r told)) h.takes_is)

  pub never_leaf : StepsSo → (after : TheTxn) (m : Mark) → IsTaken txn.layout Taken_of (record { phase = after.phase; next = after.next; step = Some (step.Leaf m) }) → ⊥
  never_leaf steps after m is = (steps txn.layout txn.node txn.phase (code.hears old.catalog txn.phase told) m).0 (sym (ap (λ (a : After). a.step) is))

  pub never_ended : ReadsNeverEnd → (after : TheTxn) (m : Mark) → IsTaken txn.layout Taken_of (record { phase = after.phase; next = after.next; step = Some (step.Ended m) }) → ⊥
  never_ended ends after m is =
      ends old.layout at.live at.r (code.hears_reading old.catalog at.r told) m (sym (made_so (λ (t : Taken). t.step)) ∙ sym (ap (λ (a : After). a.step) is))
