-- The law of journals, event by event.
use Rattle.std.proofs.Common.{◌≡◌, ℕ, ◌+◌, ◌<◌, ◌≤◌, Bool, true, false, List, [], ◌∷◌, ◌++◌, length, Option, None, Some, refl, sym, ap, ◌∙◌, subst, inl, inr, ⊎_elim, append_assoc, append-nil, arith}
use Rattle.std.specs.Prelude.{◌^◌, nat_le}
use Rattle.std.specs.List.{list_any}
use Rattle.std.proofs.lemmas.Bool.{both_ways, or_cases}
use Rattle.std.proofs.lemmas.Bool.Decides.{nat_tests}
use Rattle.std.proofs.lemmas.List.{length-append, length_push}
use Rattle.tl_base.specs.Along.{Along}
use Rattle.tl_base.specs.declared.node.NodeSet.{NodeSet}
use Rattle.tl_base.specs.declared.place.Settings.{Settings}
use Rattle.tl_manager.specs.Serves.{notice_after}
use Rattle.tl_isolation.specs.declared.script.Script.{Script}
use Rattle.tl_isolation.specs.declared.script.Session.{Session}
use Rattle.tl_isolation.specs.Script.{setup_of, IsAnswered, answers_by, vanishes_at}
use Rattle.tl_cells.specs.declared.cell.Cell.{Cell as ShardCell}
use Rattle.tl_protocol.specs.Store.{LogCell}
use Rattle.tl_journal.specs.declared.event.Event.{Event}
use Rattle.tl_journal.specs.Binding.{IsBound}
use Rattle.tl_journal.specs.Journal.{AreServed, IsEvent, answer_said, entries_told, has_vanished, manager_log, node_after, session_of}
use Rattle.tl_journal.specs.Bytes.{heard, home_of, log_key}
use Rattle.tl_journal.specs.Law.{Holds, IsLogCell, IsNotice, IsRun}
use Rattle.tl_journal.specs.Node.{Node}
use Rattle.tl_journal.specs.Schedule.{is_done, is_over}
use Rattle.tl_journal.proofs.Heeded.{heeded}
use Rattle.tl_journal.proofs.Managers.{NoticeIs}
use Rattle.tl_journal.proofs.Owed.{owed_is}
use Rattle.tl_journal.proofs.Opens.{found_number, layout_of, opens}
use Rattle.tl_journal.proofs.Posted.{before_stood, home_among, post_stood}
use Rattle.tl_journal.proofs.Requests.{cut_stood, request_stood}
use Rattle.tl_journal.proofs.Shards.{takes_at}
use Rattle.tl_journal.proofs.Speaking.{SpeakIs, opening_speaks}
use Rattle.tl_journal.proofs.Spoken.{Spoken, cut_spoken, post_spoken, request_spoken}
use Rattle.tl_journal.proofs.Store.{LogIs}
use Rattle.tl_journal.proofs.StoreLogs.{cell_in}
use Rattle.tl_journal.proofs.Stood.{Stood}

module _ (script : Script) (settings : Settings) (bound : IsBound script settings) (shards : 1 ≤ settings.shards) (managers : 1 ≤ settings.managers) where
  -- how it stands after these events
  record Stands (past : List Event) : Type 0 where
    pub stood : Stood (layout_of script settings) script settings past
    pub spoken : Spoken script settings past

  -- at the opening
  opening : Stands []
  opening = record {
    stood = opens script settings bound managers;
    spoken = record {
      along = tt;
      nodes = λ n session h runs. opening_speaks script settings session (subst (λ (i : ℕ). session_of script i ≡ Some session) (sym (found_number script.sessions n session h)) h);
      gone = λ n h. absurd (both_ways false refl h);
    };
  }

  -- one event more
  next : (past : List Event) (e : Event) (rest : List Event) → Stands past → AreServed script settings (past ++ e ∷ rest) → IsEvent script settings past e
      → length past + 1 < 2 ^ 32 → Stands (past ++ e ∷ [])
  next past e rest s served (inl r) few =
      let node : Node = node_after settings script past r.session in
      let stands = s.stood.nodes e.node r.session r.is_session r.runs in
      let least : 1 ≤ e.node = subst (λ (i : ℕ). 1 ≤ i) stands.is_so.number stands.fits.least in
      let b = before_stood (layout_of script settings) script settings past s.stood bound.opening e.node r.session r.is_session r.runs least in
      record {
        stood = request_stood (layout_of script settings) script settings past e s.stood shards r b
            (heeded (layout_of script settings) script settings past e rest s.stood bound shards few served r.session r.is_session r.runs b r.ask r.asked r.stands_at r.bytes)
            (takes_at settings script.catalog node (heard r.ask e.reply) (answer_said e.entries) shards stands.shards);
        spoken = request_spoken script settings past e s.spoken (layout_of script settings) s.stood r b;
      }
  next past e rest s served (inr (inl p)) few = record {
    stood = post_stood (layout_of script settings) script settings past e rest s.stood bound served p;
    spoken = post_spoken script settings past e s.spoken p;
  }
  next past e rest s served (inr (inr c)) few =
      let stands = s.stood.nodes e.node c.session c.is_session c.runs in
      let least : 1 ≤ e.node = subst (λ (i : ℕ). 1 ≤ i) stands.is_so.number stands.fits.least in
      let b = before_stood (layout_of script settings) script settings past s.stood bound.opening e.node c.session c.is_session c.runs least in
      record {
        stood = cut_stood (layout_of script settings) script settings past e s.stood c b
            (heeded (layout_of script settings) script settings past e rest s.stood bound shards few served c.session c.is_session c.runs b c.ask c.asked c.stands_at c.bytes);
        spoken = cut_spoken script settings past e s.spoken (layout_of script settings) s.stood c stands.is_so.number;
      }

  along : (past now later : List Event) → Stands past → AreServed script settings ((past ++ now) ++ later) → Along (IsEvent script settings) past now
      → length past + length now < 2 ^ 32 → Stands (past ++ now)
  along past [] later s served events few = subst Stands (sym (append-nil past)) s
  along past (e ∷ now) later s served events few =
      let whole : (past ++ e ∷ now) ++ later ≡ past ++ e ∷ (now ++ later) = append_assoc past (e ∷ now) later in
      let front : (past ++ e ∷ []) ++ now ≡ past ++ e ∷ now = append_assoc past (e ∷ []) now in
      let longer : length (past ++ e ∷ []) ≡ length past + 1 = length_push past e in
      subst Stands front
      (along (past ++ e ∷ []) now later (next past e (now ++ later) s (subst (AreServed script settings) whole served) events.0 (omega arith))
      (subst (λ (es : List Event). AreServed script settings (es ++ later)) (sym front) served) events.1 (omega arith))

-- what holds along a list holds along its front
along_front : {A : Type 0} (P : List A → A → Type 0) (past xs ys : List A) → Along P past (xs ++ ys) → Along P past xs
along_front P past [] ys h = tt
along_front P past (x ∷ xs) ys h = (h.0, along_front P (past ++ x ∷ []) xs ys h.1)

module _ (script : Script) (settings : Settings) where
  -- after each front of a run
  stands_at : (past rest : List Event) → (run : IsRun script settings (past ++ rest)) → Stands script settings run.bound run.shards run.managers past
  stands_at past rest run =
      let few : length (past ++ rest) < 2 ^ 32 = run.few in
      let both : length (past ++ rest) ≡ length past + length rest = length-append past rest in
      along script settings run.bound run.shards run.managers [] past rest (opening script settings run.bound run.shards run.managers) run.trace.served
      (along_front (IsEvent script settings) [] past rest run.trace.events_are) (omega arith)

  pub stood_at : (past rest : List Event) → IsRun script settings (past ++ rest) → Stood (layout_of script settings) script settings past
  stood_at past rest run = (stands_at past rest run).stood

  pub spoken_at : (past rest : List Event) → IsRun script settings (past ++ rest) → Spoken script settings past
  spoken_at past rest run = (stands_at past rest run).spoken

  done_is : (events : List Event) (n : ℕ) (session : Session) → session_of script n ≡ Some session
      → is_done script events n ≡ nat_le (length session.statements) (length (answers_by n (entries_told events)))
  done_is events n session h = rw h refl

  -- a node that has nothing more to do has answered all its statements, or has vanished
  pub spoken_whole : (events : List Event) (n : ℕ) (session : Session) → Stood (layout_of script settings) script settings events → Spoken script settings events
      → session_of script n ≡ Some session → is_over script events n ≡ true → IsAnswered (entries_told events) session
  spoken_whole events n session s i h over = by (has_vanished events n) refl
    where
      number : session.node ≡ n
      number = found_number script.sessions n session h

      -- no more statements than answers, of which there are as many as statements before those that are left
      all : (x y z : ℕ) → nat_le (x + y) z ≡ true → z ≡ x → z ≡ x + y
      all x y z le e = grind (arith, nat_tests)

      by : (b : Bool) → has_vanished events n ≡ b → IsAnswered (entries_told events) session
      by true g = inr (subst (λ (k : ℕ). list_any (vanishes_at k) (entries_told events) ≡ true) (sym number) (i.gone n g))
      by false g =
          let node : Node = node_after settings script events session in
          let speaks : SpeakIs script (entries_told events) session node = i.nodes n session h g in
          let own : node.number ≡ n = (s.nodes n session h g).is_so.number in
          let done : is_done script events n ≡ true = ⊎_elim (λ d. d) (λ v. absurd (both_ways true (sym v ∙ g) refl)) (or_cases (is_done script events n) (has_vanished events n) over) in
          let many : length session.statements ≡ length speaks.past + length node.todo = ap length speaks.statements ∙ length-append speaks.past node.todo in
          let answers : length (answers_by n (entries_told events)) ≡ length speaks.past =
          ap (λ (k : ℕ). length (answers_by k (entries_told events))) (sym own) ∙ ap length speaks.answers ∙ sym speaks.count in
          let le : nat_le (length speaks.past + length node.todo) (length (answers_by n (entries_told events))) ≡ true =
          ap (λ (k : ℕ). nat_le k (length (answers_by n (entries_told events)))) (sym many) ∙ sym (done_is events n session h) ∙ done in
          inl
          (ap (λ (k : ℕ). length (answers_by k (entries_told events))) number
          ∙ all (length speaks.past) (length node.todo) (length (answers_by n (entries_told events))) le answers ∙ sym many)

-- what the store holds of a log cell is its bytes
pub log_cell_is : (tid : ℕ) (c : ShardCell) (o : Option LogCell) → LogIs tid c o → IsLogCell tid c.value o
log_cell_is tid c None h = h.1
log_cell_is tid c (Some x) h = (h.read, h.own)

notice_is : (o : Option (ℕ → Bool)) (found : Option NodeSet) → NoticeIs o found → IsNotice o found
notice_is None None h = tt
notice_is None (Some set) h = absurd h
notice_is (Some nodes) None h = absurd h
notice_is (Some nodes) (Some set) h = h.0

-- so after each front of a run the places and the nodes hold what the world has
pub holds_at : (script : Script) (settings : Settings) (past : List Event) (s : Stood (layout_of script settings) script settings past) → Holds script settings past s.world
holds_at script settings past s = record {
  catalog = s.catalog;
  records = λ key is_record. (s.store.holds.cells key is_record).read;
  commits = s.store.holds.commits.read;
  logs = λ tid small. log_cell_is tid (cell_in settings (setup_of script settings) past (log_key tid)) (s.world.logs tid) (s.store.holds.logs tid small);
  others = λ key o. ap (λ (c : ShardCell). c.value) (s.store.holds.others key o);
  active = λ m l. (s.managers.each m l).active;
  notices = λ n. notice_is (s.world.notices n) (notice_after (manager_log (home_of settings n) past) n)
      ((s.managers.each (home_of settings n) (home_among settings n s.laid_out.some)).notices n refl);
  vanished = s.gone;
  duties = λ n session h runs. let node : Node = node_after settings script past session in
      owed_is node.doing (s.world.recoveries n) (s.nodes n session h runs).is_so.recovery;
}
