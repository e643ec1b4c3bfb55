-- A read is done: the node goes on with the next one, or says its statement.
use Rattle.std.proofs.Common.{◌≡◌, ℕ, ◌+◌, ◌<◌, ◌≤◌, inl, List, [], ◌∷◌, ◌++◌, length, map, drop, Some, Result, Ok, Err, refl, sym, ap, ◌∙◌, subst, arith, length-append}
use Rattle.std.specs.Prelude.{slice_get}
use Rattle.std.proofs.lemmas.List.{append-nil, drop_all, flat_map_more}
use Rattle.std.proofs.lemmas.Option.{slice_get_within}
use Rattle.tl_base.specs.declared.memory.NoMemory.{NoMemory}
use Rattle.tl_base.specs.declared.place.Settings.{Settings}
use Rattle.tl_values.specs.declared.value.Value.{Value}
use Rattle.tl_schema.specs.declared.access.Access.{Access}
use Rattle.tl_schema.specs.declared.catalog.Catalog.{Catalog}
use Rattle.tl_manager.specs.declared.mark.Mark.TheVariants as mark
use Rattle.tl_manager.specs.declared.request.Reply.{Reply}
use Rattle.tl_write.specs.Change.{number_of}
use Rattle.tl_write.specs.declared.write.Write.{Write}
use Rattle.tl_isolation.specs.declared.bound.Bound.{Bound}
use Rattle.tl_isolation.specs.declared.bound.Bound.TheVariants as bound
use Rattle.tl_isolation.specs.declared.entry.Answer.{Answer}
use Rattle.tl_isolation.specs.declared.entry.Answer.TheVariants as answer
use Rattle.tl_isolation.specs.declared.entry.Entry.{Entry}
use Rattle.tl_plan.specs.Plan.{accesses_in, numbers_of}
use Rattle.tl_protocol.specs.Move.{is_empty}
use Rattle.tl_protocol.specs.World.{Txn}
use Rattle.tl_journal.specs.Ask.{Ask, Heard}
use Rattle.tl_journal.specs.Memory.{unsaid}
use Rattle.tl_journal.specs.Node.{Doing, Outside, Reading, Node}
use Rattle.tl_journal.specs.Reads as law
use Rattle.tl_journal.specs.Reads.{Reads, after_read, next_table, read_of, reads_of, tables_read}
use Rattle.tl_journal.specs.Says.{says_read}
use Rattle.tl_journal.specs.Takes.{MeansRead, goes_on, takes, with_doing}
use Rattle.tl_ask.specs.Asked.{asked}
use Rattle.tl_manager.specs.declared.mark.Mark.{Mark}
use Rattle.tl_manager.specs.declared.mark.TxnStep.TheVariants as step
use Rattle.tl_txn.specs.After.{IsTaken}
use Rattle.tl_txn.specs.Calls.{IsReady, awaited, ask_read, reads, rows_in, rows_taken, without_rows}
use Rattle.tl_txn.specs.NodeReads.{NodeReadsAll}
use Rattle.tl_txn.specs.Run.{IsSameRun}
use Rattle.tl_txn.specs.Doing.{txn_in}
use Rattle.tl_txn.specs.declared.phase.Open.{Open}
use Rattle.tl_txn.specs.declared.phase.Phase.{Phase}
use Rattle.tl_txn.specs.declared.phase.Phase.TheVariants as phase
use Rattle.tl_txn.specs.declared.txn.Txn.{Txn as TheTxn}
use Rattle.tl_node.specs.After.{ComesTo, Goes, IsHeld, IsOpened, at_todo}
use Rattle.tl_node.specs.Fits.{FitsReading, FitsRunning, HasPresent, IsFit, IsOwn, IsReading, TakesStatements}
use Rattle.tl_node.specs.NextRead.{IsNextRead, table_number}
use Rattle.tl_node.specs.ReadOn.{IsReadSo, ReadsBy, ReadsFurther, SaysFound, read_behind}
use Rattle.tl_node.specs.Saying.{AreFound, SaysNext, all_rows}
use Rattle.tl_node.specs.View.{StandsFor, reading_so, stage_of, value_of}
use Rattle.tl_node.specs.declared.kept.Core.{Core}
use Rattle.tl_node.specs.declared.work.Course.TheVariants as way
use Rattle.tl_node.specs.declared.work.Next.{Next}
use Rattle.tl_node.specs.declared.work.Next.TheVariants as next
use Rattle.tl_node.specs.declared.work.Reading.{Reading as TheReading}
use Rattle.tl_node.specs.declared.work.Stage.{Stage}
use Rattle.tl_node.specs.declared.work.Work.{Work}
use Rattle.tl_node.specs.declared.work.Work.TheVariants as work
use Rattle.tl_node.proofs.Arrives.{Arrives, arrives_at}
use Rattle.tl_node.proofs.Found.{first_left}
use Rattle.tl_node.proofs.Idling.{said_alike}
use Rattle.tl_node.proofs.LeadsReads.{asks_at}
use Rattle.tl_node.proofs.BeginAfter.{running_present}
use Rattle.tl_node.proofs.ReadAfter.{Taken_of, read_done, read_run}
use Rattle.tl_node.proofs.Readings.{one_dropped, reads_at, reads_kept}
use Rattle.tl_journal.proofs.CutShort.{unsaid_read}

-- the read behind the one in hand, which found these rows
abbrev pub next_in : TheReading → List (List Value) → TheReading
next_in reading rows = record { accesses = reading.accesses; at = reading.at + 1; found = reading.found ++ rows ∷ [] }

rows_more : (found : List (List (List Value))) (rows : List (List Value)) → all_rows (found ++ rows ∷ []) ≡ all_rows found ++ rows
rows_more found rows = sym (flat_map_more (λ (rows : List (List Value)). rows) [] found rows)

-- ---- nothing is left

abbrev rows_of_all : Bound → TheReading → List (List Value) → List (List Value)
rows_of_all (bound.Change edit) reading rows = all_rows reading.found ++ rows
rows_of_all statement reading rows = rows

abbrev earlier_of_all : Bound → TheReading → List (List (List Value))
earlier_of_all (bound.Select query) reading = reading.found
earlier_of_all statement reading = []

abbrev all_read : Bound → TheReading → List (List Value) → Reads
all_read statement reading rows = record { left = []; later = []; rows = rows_of_all statement reading rows; earlier = earlier_of_all statement reading }

none_left : (numbers : List ℕ) → reads_of numbers [] ≡ []
none_left [] = refl
none_left (number ∷ numbers) = refl

all_behind : (statement : Bound) (reading : TheReading) (rows : List (List Value)) → length reading.accesses ≤ reading.at + 1 → read_behind statement reading rows ≡ all_read statement reading rows
all_behind (bound.Select query) reading rows h =
    ap (λ (accesses : List Access). next_table (reads_of (drop (reading.at + 1) (numbers_of query)) accesses) rows reading.found) (drop_all (reading.at + 1) reading.accesses h)
    ∙ ap (λ (later : List (List law.Read)). next_table later rows reading.found) (none_left (drop (reading.at + 1) (numbers_of query)))
all_behind (bound.Change edit) reading rows h =
    ap
    (λ (accesses : List Access).
    after_read (record { left = []; later = []; rows = all_rows reading.found; earlier = [] }) (map (read_of (number_of edit)) accesses) rows)
    (drop_all (reading.at + 1) reading.accesses h)
all_behind statement reading rows h = refl

-- a statement that isn't SELECT or a change has no read
none_other : (n : ℕ) (accesses : List Access) → accesses ≡ [] → n < length accesses → ⊥
none_other n accesses e within = omega (arith, ap (λ (xs : List Access). length xs) e, within)

all_found : (catalog : Catalog) (statement : Bound) (own : List Write) (reading : TheReading) (rows : List (List Value))
    → reading.accesses ≡ accesses_in catalog statement → reading.at < length reading.accesses
    → AreFound catalog statement own (tables_read (all_read statement reading rows)) (reading.found ++ rows ∷ [])
all_found catalog (bound.Select query) own reading rows e within = refl
all_found catalog (bound.Change edit) own reading rows e within = sym (rows_more reading.found rows)
all_found catalog statement own reading rows e within = absurd (none_other reading.at reading.accesses e within)

-- ---- one is left

next_behind : (statement : Bound) (reading : TheReading) (rows : List (List Value)) (number : ℕ) (access : Access)
    → table_number statement (reading.at + 1) ≡ Some number → slice_get reading.accesses (reading.at + 1) ≡ Some access
    → read_behind statement reading rows ≡ reads_at statement (next_in reading rows) (read_of number access) []
next_behind (bound.Select query) reading rows number access e f =
    ap (λ (numbers : List ℕ). next_table (reads_of numbers (drop (reading.at + 1) reading.accesses)) rows reading.found) (one_dropped (reading.at + 1) (numbers_of query) number e)
    ∙ ap (λ (accesses : List Access). next_table (reads_of (number ∷ drop (reading.at + 1 + 1) (numbers_of query)) accesses) rows reading.found)
    (one_dropped (reading.at + 1) reading.accesses access f)
next_behind (bound.Change edit) reading rows number access e f =
    let g : number_of edit ≡ number = cc in
    let behind : List law.Read = map (read_of (number_of edit)) (drop (reading.at + 1 + 1) reading.accesses) in
    ap
    (λ (accesses : List Access).
    after_read (record { left = []; later = []; rows = all_rows reading.found; earlier = [] }) (map (read_of (number_of edit)) accesses) rows)
    (one_dropped (reading.at + 1) reading.accesses access f)
    ∙ ap (λ (n : ℕ). record { left = read_of n access ∷ behind; later = []; rows = all_rows reading.found ++ rows; earlier = [] }) g
    ∙ ap (λ (all : List (List Value)). record { left = read_of number access ∷ behind; later = []; rows = all; earlier = [] })
    (sym (rows_more reading.found rows) ∙ sym (append-nil (all_rows (reading.found ++ rows ∷ []))))
next_behind statement reading rows number access e f = cc

goes_at : (catalog : Catalog) (node : Node) (statement : Bound) (t : Txn) (reading : TheReading) (first : law.Read) (told : Answer)
    → goes_on catalog node statement t (reads_at statement reading first []) told ≡ with_doing node (Reading t (reads_at statement reading first []))
goes_at catalog node (bound.Select query) t reading first told = refl
goes_at catalog node (bound.Change edit) t reading first told = refl
goes_at catalog node statement t reading first told = refl

says_none : (node : Node) (statement : Bound) (t : Txn) (reading : TheReading) (first : law.Read) (told : Answer)
    → says_read node statement t (Some (reads_at statement reading first [])) told ≡ []
says_none node (bound.Select query) t reading first told = refl
says_none node (bound.Change edit) t reading first told = refl
says_none node statement t reading first told = refl

-- ---- what it comes to

some_same : (a b : Bound) (xs ys : List Bound) (todo : List Bound) → todo ≡ a ∷ xs → todo ≡ b ∷ ys → a ≡ b
some_same a b xs ys todo e f = cc

module _ (old : Core) (n : Node) (sound : Heard) (told : Reply) (reading : TheReading) (said : Stage) (so_far : Phase) (so : IsReadSo old n sound reading so_far said) where
  abbrev T : Txn
  T = txn_in (stage_of said) so.live

  abbrev At : Doing → Node
  At doing = at_todo old (so.statement ∷ so.later) doing

  held : IsHeld n old
  held = record { left = ap (λ (m : Node). is_empty m.todo) so.n_is; answers = sym (ap (λ (m : Node). m.answers) so.n_is) }

  -- memory was wanted
  pub read_wants : (e : NoMemory) → ComesTo old.layout old.catalog n sound told old mark.Quiet (Err e)
  read_wants e = (
    held,
    record {
      no_end = so.no_end;
      entries = λ strange commits. inl
          (ap (λ (entries : List Entry). unsaid entries) (so.says_is commits answer.Begun)
          ∙ unsaid_read (At n.doing) so.statement (txn_in (stage_of said) so.live) (Some (read_behind so.statement reading so.live.rows)) answer.Begun);
    },
  )

  -- nothing is left to read: the law says the statement
  says_next : length reading.accesses ≤ reading.at + 1
      → SaysNext old n sound so.statement so.later (txn_in (stage_of said) so.live) (tables_read (all_read so.statement reading so.live.rows))
  says_next h =
      let all : read_behind so.statement reading so.live.rows ≡ all_read so.statement reading so.live.rows = all_behind so.statement reading so.live.rows h in
      record {
        todo_is = ap (λ (m : Node). m.todo) so.n_is;
        number_is = ap (λ (m : Node). m.number) so.n_is;
        answers_are = ap (λ (m : Node). m.answers) so.n_is;
        takes_is = λ told_so.
            so.takes_is told_so
            ∙ ap (λ (x : Reads). goes_on old.catalog (At n.doing) so.statement (txn_in (stage_of said) so.live) x told_so) all
            ∙ said_alike old.catalog (At Outside) n.doing so.statement (txn_in (stage_of said) so.live) (tables_read (all_read so.statement reading so.live.rows)) told_so;
        says_is = λ commits told_so.
            so.says_is commits told_so ∙ ap (λ (x : Reads). says_read (At n.doing) so.statement (txn_in (stage_of said) so.live) (Some x) told_so) all;
        means_is = λ told_so h.
            so.means_is told_so (subst (λ (x : Reads). MeansRead old.catalog so.statement (txn_in (stage_of said) so.live) (Some x) told_so) (sym all) h);
        not_strange = so.not_strange;
        no_end = so.no_end;
        suits = so.suits;
      }

  module _ (fits : FitsReading old so.statement reading) where
    says_all : (new : Core) (before : TheTxn) (found : List (List (List Value))) (result : Result Next NoMemory) → TakesStatements (stage_of said)
        → length reading.accesses ≤ reading.at + 1 → before.phase ≡ phase.Ready (without_rows so.live) → found ≡ reading.found ++ so.live.rows ∷ []
        → SaysFound old before said found new result → ComesTo old.layout old.catalog n sound told new mark.Quiet result
    says_all new before found result takes h is found_is says =
        says n sound told so.statement so.later (without_rows so.live) (tables_read (all_read so.statement reading so.live.rows)) is takes so.todo_is (says_next h)
        (subst (λ (x : List (List (List Value))). AreFound old.catalog so.statement so.live.own (tables_read (all_read so.statement reading so.live.rows)) x) (sym found_is)
        (all_found old.catalog so.statement so.live.own reading so.live.rows fits.accesses fits.within))

    -- a read is left
    opened_next : (before after : TheTxn) → IsOwn old before → TakesStatements (stage_of said) → before.phase ≡ phase.Ready (without_rows so.live)
        → (begins : IsNextRead so.statement (next_in reading so.live.rows) before after)
        → IsOpened old (so.statement ∷ so.later) (Reading (txn_in (stage_of said) so.live) (reads_at so.statement (next_in reading so.live.rows) (read_of begins.number begins.access) []))
        (work.Runs (record { txn = after; stage = said; course = way.Reads (next_in reading so.live.rows) }))
    opened_next before after own takes is begins =
        let first : law.Read = read_of begins.number begins.access in
        let following : TheReading = next_in reading so.live.rows in
        let at_phase : after.phase ≡ phase.Reading (without_rows so.live) (awaited (read_of begins.number begins.access)) =
        ap (λ (x : TheTxn). x.phase) begins.after_is ∙ ap (λ (p : Phase). reads (read_of begins.number begins.access) p) is in
        record {
          doing_is =
              ap (λ (p : Phase). reading_so so.statement (stage_of said) (next_in reading so.live.rows) p) at_phase
              ∙ ap (λ (x : Reads). Reading (txn_in (stage_of said) so.live) x) (reads_kept so.statement (next_in reading so.live.rows) so.live (read_of begins.number begins.access));
          ask_is =
              ap (λ (x : TheTxn). x.next) begins.after_is
              ∙ ap (λ (settings : Settings). Some (asked settings (ask_read (read_of begins.number begins.access)))) own.layout
              ∙ ap (λ (ask : Ask). Some (asked old.layout ask)) (sym (asks_at so.statement (next_in reading so.live.rows) (read_of begins.number begins.access)));
          fits = record {
            own = record {
              layout = ap (λ (x : TheTxn). x.layout) begins.after_is ∙ own.layout;
              node = ap (λ (x : TheTxn). x.node) begins.after_is ∙ own.node;
            };
            course = (
              subst IsReading (sym at_phase) tt,
              record {
                accesses = fits.accesses;
                within = slice_get_within reading.accesses (reading.at + 1) begins.access begins.access_is;
                found = length-append reading.found (so.live.rows ∷ []) ∙ ap (λ (k : ℕ). k + 1) fits.found;
              },
              takes,
            );
          };
        }

    goes_next : (before : TheTxn) (w : Work) → IsOwn old before → TakesStatements (stage_of said) → before.phase ≡ phase.Ready (without_rows so.live)
        → ReadsBy so.statement before said (next_in reading so.live.rows) w → Goes old.layout old.catalog n sound told mark.Quiet old w
    goes_next before w own takes is by =
        let wanted : Reads = reads_at so.statement (next_in reading so.live.rows) (read_of by.begins.number by.begins.access) [] in
        let behind : read_behind so.statement reading so.live.rows ≡ reads_at so.statement (next_in reading so.live.rows) (read_of by.begins.number by.begins.access) [] =
        next_behind so.statement reading so.live.rows by.begins.number by.begins.access by.begins.number_is by.begins.access_is in
        let a : Arrives old.layout old.catalog old (work.Runs (record { txn = by.after; stage = said; course = way.Reads (next_in reading so.live.rows) }))
        (at_todo old (so.statement ∷ so.later)
        (Reading (txn_in (stage_of said) so.live) (reads_at so.statement (next_in reading so.live.rows) (read_of by.begins.number by.begins.access) []))) =
        arrives_at old (so.statement ∷ so.later) _ _ so.todo_is (opened_next before by.after own takes is by.begins) in
        subst (λ (x : Work). Goes old.layout old.catalog n sound told mark.Quiet old x) (sym by.w_is)
        (record {
          fits = a.fits;
          not_strange = so.not_strange;
          stands =
              subst (λ (m : Node). StandsFor old.layout old.catalog m (value_of old (work.Runs (record { txn = by.after; stage = said; course = way.Reads (next_in reading so.live.rows) }))))
              (sym
              (so.takes_is answer.Begun
              ∙ ap (λ (x : Reads). goes_on old.catalog (At n.doing) so.statement (txn_in (stage_of said) so.live) x answer.Begun) behind
              ∙ goes_at old.catalog (At n.doing) so.statement (txn_in (stage_of said) so.live) (next_in reading so.live.rows) (read_of by.begins.number by.begins.access) answer.Begun))
              a.stands;
          entries = λ commits.
              so.says_is commits answer.Begun
              ∙ ap (λ (x : Reads). says_read (At n.doing) so.statement (txn_in (stage_of said) so.live) (Some x) answer.Begun) behind
              ∙ says_none (At n.doing) so.statement (txn_in (stage_of said) so.live) (next_in reading so.live.rows) (read_of by.begins.number by.begins.access) answer.Begun;
        })

    goes_further : (before : TheTxn) (result : Result Next NoMemory) → IsOwn old before → TakesStatements (stage_of said) → before.phase ≡ phase.Ready (without_rows so.live)
        → ReadsFurther old before said (next_in reading so.live.rows) result → ComesTo old.layout old.catalog n sound told old mark.Quiet result
    goes_further before (Ok (next.Goes w)) own takes is further =
        goes_next before w own takes is (further so.statement (first_left (length old.answers.items) old.statements so.statement so.later so.todo_is))
    goes_further before (Ok (next.Says w s)) own takes is further = absurd further
    goes_further before (Ok next.Strange) own takes is further = absurd further
    goes_further before (Err e) own takes is further = read_wants e

-- ---- as code goes on

fits_present : (old : Core) (reading : TheReading) (statement : Bound) (later : List Bound) → HasPresent old (λ statement. FitsReading old statement reading)
    → drop (length old.answers.items) old.statements ≡ statement ∷ later → FitsReading old statement reading
fits_present old reading statement later present todo_is =
    subst (λ (s : Bound). FitsReading old s reading)
    (some_same present.statement statement present.later later (drop (length old.answers.items) old.statements) present.todo_is todo_is) present.holds

module _ (old : Core) (reading : TheReading) (txn : TheTxn) (said : Stage) (takes : TakesStatements (stage_of said))
    (present : HasPresent old (λ statement. FitsReading old statement reading)) where
  taken_phase : (live : Open) → txn.phase ≡ phase.Ready live → rows_taken txn.phase ≡ phase.Ready (without_rows live)
  taken_phase live is = ap (λ (p : Phase). rows_taken p) is

  -- all is read
  pub reads_all : (new : Core) (before : TheTxn) (found : List (List (List Value))) (result : Result Next NoMemory) → length reading.accesses ≤ reading.at + 1
      → before ≡ record txn { phase = rows_taken txn.phase } → found ≡ reading.found ++ rows_in txn.phase ∷ [] → SaysFound old before said found new result
      → (n : Node) (sound : Heard) (told : Reply) → IsReadSo old n sound reading txn.phase said → ComesTo old.layout old.catalog n sound told new mark.Quiet result
  reads_all new before found result h same found_is says n sound told so =
      says_all old n sound told reading said txn.phase so (fits_present old reading so.statement so.later present so.todo_is) new before found result takes h
      (ap (λ (x : TheTxn). x.phase) same ∙ taken_phase so.live so.phase_is)
      (found_is ∙ ap (λ (p : Phase). reading.found ++ rows_in p ∷ []) so.phase_is) says

  -- a read is left
  pub reads_next : (before : TheTxn) (following : TheReading) (result : Result Next NoMemory) → IsOwn old txn
      → before ≡ record txn { phase = rows_taken txn.phase } → following ≡ next_in reading (rows_in txn.phase) → ReadsFurther old before said following result
      → (n : Node) (sound : Heard) (told : Reply) → IsReadSo old n sound reading txn.phase said → ComesTo old.layout old.catalog n sound told old mark.Quiet result
  reads_next before following result own same following_is further n sound told so =
      goes_further old n sound told reading said txn.phase so (fits_present old reading so.statement so.later present so.todo_is) before result
      (record { layout = ap (λ (x : TheTxn). x.layout) same ∙ own.layout; node = ap (λ (x : TheTxn). x.node) same ∙ own.node }) takes
      (ap (λ (x : TheTxn). x.phase) same ∙ taken_phase so.live so.phase_is)
      (subst (λ (x : TheReading). ReadsFurther old before said x result) (following_is ∙ ap (λ (p : Phase). next_in reading (rows_in p)) so.phase_is) further)

-- ---- what read_on asks for

module _ (old : Core) (txn : TheTxn) (said : Stage) (reading : TheReading) (told : Reply) (fits : IsFit old (work.Runs (read_run txn said reading))) where
  run : HasPresent old (λ statement. FitsRunning old statement (read_run txn said reading))
  run = running_present old (read_run txn said reading) fits

  pub reads_ready : NodeReadsAll → (after : TheTxn) (m : Mark)
      → IsTaken txn.layout (Taken_of old txn said reading told fits) (record { phase = after.phase; next = after.next; step = Some (step.Ready m) }) → IsReady after.phase
  reads_ready all after m is = subst IsReady (sym (read_done old txn said reading told fits all after m is).phase_is) tt

  pub reads_own : (after : TheTxn) → IsSameRun txn after → IsOwn old after
  reads_own after same = record { layout = same.layout_is ∙ run.holds.own.layout; node = same.node_is ∙ run.holds.own.node }

  pub reads_take : TakesStatements (stage_of said)
  reads_take = run.holds.course.2

  pub reads_present : HasPresent old (λ statement. FitsReading old statement reading)
  reads_present = record { statement = run.statement; later = run.later; todo_is = run.todo_is; holds = run.holds.course.1 }
