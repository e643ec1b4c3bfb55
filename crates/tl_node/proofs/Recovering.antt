-- A node that recovers others takes a reply as the law's node does.
use Rattle.std.proofs.Common.{◌≡◌, ℕ, Bool, true, false, inl, inr, List, [], ◌∷◌, length, drop, Option, Some, None, Result, Ok, Err, refl, sym, ap, ◌∙◌, subst}
use Rattle.std.specs.Prelude.{◌⊎◌, slice_get}
use Rattle.tl_base.specs.declared.memory.NoMemory.{NoMemory}
use Rattle.tl_base.specs.declared.node.NodeSet.{NodeSet}
use Rattle.tl_base.specs.declared.place.Settings.{Settings}
use Rattle.tl_schema.specs.declared.catalog.Catalog.{Catalog}
use Rattle.tl_descriptor.specs.Tids.{inserted}
use Rattle.tl_logrec.specs.declared.entry.Flag.TheVariants as flag
use Rattle.tl_manager.specs.State.{opening_copy}
use Rattle.tl_manager.specs.declared.request.ManagerRequest.TheVariants as request
use Rattle.tl_versions.specs.Versions.{strip}
use Rattle.tl_protocol.specs.Next.{marked as mark_cell}
use Rattle.tl_manager.specs.declared.mark.Mark.{Mark}
use Rattle.tl_manager.specs.declared.mark.Mark.TheVariants as mark
use Rattle.tl_manager.specs.declared.mark.TxnStep.{TxnStep}
use Rattle.tl_manager.specs.declared.mark.TxnStep.TheVariants as step
use Rattle.tl_manager.specs.declared.request.Reply.{Reply}
use Rattle.tl_isolation.specs.declared.bound.Bound.{Bound}
use Rattle.tl_isolation.specs.declared.bound.Bound.TheVariants as bound
use Rattle.tl_isolation.specs.declared.entry.Answer.{Answer}
use Rattle.tl_isolation.specs.declared.entry.Answer.TheVariants as answer
use Rattle.tl_isolation.specs.declared.state.Commit.{Commit}
use Rattle.tl_journal.specs.Ask.{Ask, Heard}
use Rattle.tl_journal.specs.Asks.{asks, asks_stripping}
use Rattle.tl_journal.specs.Bytes.{home_of}
use Rattle.tl_ask.specs.Given.{shown_heard}
use Rattle.tl_journal.specs.Memory.{is_ending, unsaid}
use Rattle.tl_journal.specs.Node.{Doing, Inside, Node}
use Rattle.tl_journal.specs.Says.{says_at}
use Rattle.tl_journal.specs.Strange.{is_stopped, is_strange_to}
use Rattle.tl_journal.specs.Takes.{MeansDoing, with_doing}
use Rattle.tl_protocol.specs.Store.{Key, LogCell}
use Rattle.tl_ask.specs.Thin.{thin}
use Rattle.tl_recover.specs.Doing.{doing_of, lost_of}
use Rattle.tl_recover.specs.Follows.{Awaits, Ends, GoesOn, GoesOnOrEnds, GoesOnSo, IsStrangeAlike, StepsNotOdd, Turn, after as after_turn, entries, entries_of, is_awaiting}
use Rattle.tl_recover.specs.Heeds as heeds
use Rattle.tl_recover.specs.Heeds.{HasMark, IsTaken, request_of}
use Rattle.tl_recover.specs.Taken as code
use Rattle.tl_recover.specs.declared.phase.Lost.{Lost}
use Rattle.tl_recover.specs.declared.phase.Phase.{Phase}
use Rattle.tl_recover.specs.declared.phase.Phase.TheVariants as phase
use Rattle.tl_recover.specs.declared.recover.Recover.{Recover}
use Rattle.tl_node.specs.After.{ComesTo, IsAfter, hears, marked}
use Rattle.tl_node.specs.Fits.{FitsAll, IsFit}
use Rattle.tl_node.specs.Leaves.{Leaves}
use Rattle.tl_node.specs.Seen.{seen, settled}
use Rattle.tl_node.specs.View.{asked_by, doing_so, node_at}
use Rattle.tl_node.specs.declared.kept.Core.{Core}
use Rattle.tl_node.specs.declared.work.Next.{Next}
use Rattle.tl_node.specs.declared.work.Next.TheVariants as next
use Rattle.tl_node.specs.declared.work.Work.TheVariants as work
use Rattle.tl_node.proofs.Leaving.{IsLeaving, left_comes}
use Rattle.tl_node.proofs.Opening.{node_with, none_left, same_node, some_left}
use Rattle.tl_node.proofs.Heard.{commits_shown, log_shown, manager_alike, stored_commits, stored_log, stored_record}
use Rattle.tl_node.proofs.RecoveryMarks.{is_finished, marks_so, takes_step}
use Rattle.tl_node.proofs.NotStrange.{kept_runs, not_strange_at}

-- ---- what it hears

hears_stripping : (catalog : Catalog) (lost : Lost) (log : LogCell) (at : ℕ) (told : Reply)
    → shown_heard catalog (asks_stripping (lost_of lost) log (drop at log.entry.writes) None) told ≡ heeds.hears_strip catalog false (slice_get log.entry.writes at) told
hears_stripping catalog lost log at told = by (slice_get log.entry.writes at) refl
  where
    by : (key : Option Key) → slice_get log.entry.writes at ≡ key
        → shown_heard catalog (asks_stripping (lost_of lost) log (drop at log.entry.writes) None) told ≡ heeds.hears_strip catalog false key told
    by None e = ap (λ keys. shown_heard catalog (asks_stripping (lost_of lost) log keys None) told) (none_left at log.entry.writes e) ∙ stored_log catalog log.stamp (mark_cell 0 flag.Undone log).entry told
    by (Some key) e = ap (λ keys. shown_heard catalog (asks_stripping (lost_of lost) log keys None) told) (some_left at log.entry.writes key e)

hears_phase : (core : Core) (gone : ℕ) (later : List Bound) (all : NodeSet) (now : Phase) (told : Reply) → is_awaiting now ≡ true
    → hears core.layout core.catalog (node_with core (bound.Recover gone ∷ later) (doing_of gone all now)) told ≡ heeds.hears core.catalog now told
hears_phase core gone later all (phase.Finding node) told e = manager_alike core.catalog (home_of core.layout node) (request.Orphans node) told
hears_phase core gone later all (phase.ReadingLog lost) told e = log_shown core.catalog lost.tid told
hears_phase core gone later all (phase.Stripping lost log at false) told e = hears_stripping core.catalog lost log at told
hears_phase core gone later all (phase.Stripping lost log at true) told e = stored_record core.catalog [] 0 (strip lost.tid []) told
hears_phase core gone later all (phase.Finishing lost committed false) told e = commits_shown core.catalog told
hears_phase core gone later all (phase.Finishing lost committed true) told e = stored_commits core.catalog 0 (inserted opening_copy lost.tid) told
hears_phase core gone later all (phase.EndingLost lost) told e = manager_alike core.catalog (home_of core.layout lost.node) (request.End lost.tid) told
hears_phase core gone later all phase.Over told e = absurd cc
hears_phase core gone later all phase.Stopped told e = absurd cc

-- ---- what the node is doing is nothing that is settled, ends or says a statement

abbrev pub is_inside : Doing → Bool
is_inside (Inside t) = true
is_inside other = false

not_inside : (gone : ℕ) (all : NodeSet) (now : Phase) → is_inside (doing_of gone all now) ≡ false
not_inside gone all (phase.Finding node) = refl
not_inside gone all (phase.ReadingLog lost) = refl
not_inside gone all (phase.Stripping lost log at loaded) = refl
not_inside gone all (phase.Finishing lost committed loaded) = refl
not_inside gone all (phase.EndingLost lost) = refl
not_inside gone all phase.Over = refl
not_inside gone all phase.Stopped = refl

pub settled_same : (settings : Settings) (catalog : Catalog) (statement : Bound) (now d : Doing) → thin now ≡ d → is_inside d ≡ false
    → settled settings catalog statement now ≡ now
settled_same settings catalog statement (Inside t) d e f = absurd (both true refl (ap is_inside e ∙ f))
  where
    both : (b : Bool) → b ≡ true → b ≡ false → ⊥
    both true e f = cc
    both false e f = cc
settled_same settings catalog statement now d e f = refl

-- a recovery that awaits a reply has not stopped
awaiting_runs : (gone : ℕ) (all : NodeSet) (now : Phase) → is_awaiting now ≡ true → is_stopped (doing_of gone all now) ≡ false
awaiting_runs gone all (phase.Finding node) e = refl
awaiting_runs gone all (phase.ReadingLog lost) e = refl
awaiting_runs gone all (phase.Stripping lost log at loaded) e = refl
awaiting_runs gone all (phase.Finishing lost committed loaded) e = refl
awaiting_runs gone all (phase.EndingLost lost) e = refl
awaiting_runs gone all phase.Over e = refl
awaiting_runs gone all phase.Stopped e = absurd cc

no_end : (gone : ℕ) (all : NodeSet) (now : Phase) → is_ending (doing_of gone all now) ≡ false
no_end gone all (phase.Finding node) = refl
no_end gone all (phase.ReadingLog lost) = refl
no_end gone all (phase.Stripping lost log at loaded) = refl
no_end gone all (phase.Finishing lost committed loaded) = refl
no_end gone all (phase.EndingLost lost) = refl
no_end gone all phase.Over = refl
no_end gone all phase.Stopped = refl

means_all : (settings : Settings) (catalog : Catalog) (statement : Bound) (gone : ℕ) (all : NodeSet) (now : Phase) (sound : Heard) (told : Answer)
    → MeansDoing settings catalog statement (doing_of gone all now) sound told
means_all settings catalog statement gone all (phase.Finding node) sound told = tt
means_all settings catalog statement gone all (phase.ReadingLog lost) sound told = tt
means_all settings catalog statement gone all (phase.Stripping lost log at loaded) sound told = tt
means_all settings catalog statement gone all (phase.Finishing lost committed loaded) sound told = tt
means_all settings catalog statement gone all (phase.EndingLost lost) sound told = tt
means_all settings catalog statement gone all phase.Over sound told = tt
means_all settings catalog statement gone all phase.Stopped sound told = tt

marked_alike : (commits : List Commit) (number : ℕ) (told : Reply) (m : Mark) → is_finished m ≡ true → entries_of m ≡ marked commits number told m
marked_alike commits number told mark.Quiet e = refl
marked_alike commits number told mark.Asked e = absurd cc
marked_alike commits number told (mark.Began tid) e = absurd cc
marked_alike commits number told (mark.Tried tid) e = absurd cc
marked_alike commits number told (mark.Clashed tid rival at) e = absurd cc
marked_alike commits number told (mark.Committed tid) e = refl
marked_alike commits number told (mark.Undone tid) e = refl
marked_alike commits number told mark.Answered e = absurd cc

asked_so : (settings : Settings) (ask : Option Ask) → request_of settings ask ≡ asked_by settings ask
asked_so settings None = refl
asked_so settings (Some ask) = refl

-- the steps that a recovery never tells, and none
abbrev pub is_refused : Option TxnStep → Bool
is_refused None = true
is_refused (Some (step.Ready m)) = true
is_refused (Some (step.Leaf m)) = true
is_refused other = false

-- ---- the reply

module _ (goes_on : GoesOn) (awaits : Awaits) (ends : Ends) (steps : GoesOnOrEnds) (strange_alike : IsStrangeAlike) (not_odd : StepsNotOdd)
    (core : Core) (gone : ℕ) (later : List Bound) (all : NodeSet) (now : Phase) (told : Reply)
    (todo_is : drop (length core.answers.items) core.statements ≡ bound.Recover gone ∷ later) (awaited : is_awaiting now ≡ true) where
  abbrev pub n : Node
  n = node_with core (bound.Recover gone ∷ later) (doing_of gone all now)

  abbrev pub sound : Heard
  sound = heeds.hears core.catalog now told

  abbrev pub turn : List Commit → Answer → Turn
  turn commits a = record {
    settings = core.layout;
    catalog = core.catalog;
    commits = commits;
    node = n;
    statement = bound.Recover gone;
    gone = gone;
    nodes = all;
    now = now;
    heard = sound;
    told = a;
  }

  abbrev pub outcome : code.Taken
  outcome = code.takes core.layout all now sound

  tells : (commits : List Commit) (m : Mark) → outcome.step ≡ Some (step.Going m)
      → says_at core.layout core.catalog commits n sound answer.Begun ≡ marked commits core.number told m
  tells commits m e = (goes_on (turn commits answer.Begun) m e).4
      ∙ marked_alike commits core.number told m (subst (λ s. marks_so s ≡ true) e (takes_step core.layout all now sound))

  pub goes : (after : Recover) (m : Mark) → outcome.step ≡ Some (step.Going m) → after.layout ≡ core.layout → after.all ≡ all
      → after.phase ≡ outcome.phase → after.next ≡ request_of core.layout outcome.ask
      → ComesTo core.layout core.catalog n sound told core m (Ok (next.Goes (work.Recovers gone after)))
  goes after m e layout_is all_is phase_is next_is = record {
    fits = subst (λ todo. FitsAll core todo (work.Recovers gone after)) (sym todo_is)
        (refl, layout_is, ap is_awaiting phase_is ∙ awaits (turn [] answer.Begun) m e);
    not_strange =
        not_strange_at core.layout core.catalog n sound (with_doing n next_doing) law.1
        (kept_runs next_doing (doing_of gone all outcome.phase) law.2 (awaiting_runs gone all outcome.phase (awaits (turn [] answer.Begun) m e)))
        (not_odd (turn [] answer.Begun) (step.Going m) e);
    stands = record {
      settings_are = refl;
      catalog_is = refl;
      node_is = same_node (node_at core (work.Recovers gone after)) (node_with core (bound.Recover gone ∷ later) (thin next_doing)) refl todo_is refl refl refl
          (ap (λ todo. doing_so todo (work.Recovers gone after)) todo_is ∙ doing_is)
          ∙ ap (λ d. node_with core (bound.Recover gone ∷ later) (thin d)) (sym settled_is)
          ∙ ap (λ m. seen core.layout core.catalog m) (sym law.1);
      ask_is = next_is ∙ asked_so core.layout outcome.ask ∙ ap (asked_by core.layout) (sym law.3)
          ∙ ap (λ m. asked_by core.layout (asks core.layout core.catalog m)) (sym law.1);
    };
    entries = λ commits. tells commits m e;
  }
    where
      law : GoesOnSo (turn [] answer.Begun) (after_turn (turn [] answer.Begun)) (entries (turn [] answer.Begun)) outcome m
      law = goes_on (turn [] answer.Begun) m e

      next_doing : Doing
      next_doing = law.0

      doing_is : doing_of gone after.all after.phase ≡ thin next_doing
      doing_is = ap (λ s. doing_of gone s after.phase) all_is ∙ ap (λ p. doing_of gone all p) phase_is ∙ sym law.2

      settled_is : settled core.layout core.catalog (bound.Recover gone) next_doing ≡ next_doing
      settled_is = settled_same core.layout core.catalog (bound.Recover gone) next_doing (doing_of gone all outcome.phase) law.2 (not_inside gone all outcome.phase)

  leaving : (m : Mark) → outcome.step ≡ Some (step.Ended m) → IsLeaving core n sound (bound.Recover gone) later (answer.Recovered gone)
  leaving m e = record {
    left = refl;
    answers = refl;
    not_strange =
        not_strange_at core.layout core.catalog n sound _ (ends (turn [] answer.Begun) m e).1 refl (not_odd (turn [] answer.Begun) (step.Ended m) e);
    no_end = no_end gone all now;
    takes_is = λ a. (ends (turn [] a) m e).1;
    means = λ a. means_all core.layout core.catalog (bound.Recover gone) gone all now sound a;
    says_is = λ commits a. (ends (turn commits a) m e).2;
  }

  pub leaves : (new : Core) (m : Mark) (result : Result Next NoMemory) → outcome.step ≡ Some (step.Ended m) → Leaves core (answer.Recovered gone) new result
      → ComesTo core.layout core.catalog n sound told new m result
  leaves new m result e left = subst (λ x. ComesTo core.layout core.catalog n sound told new x result) (sym (ends (turn [] answer.Begun) m e).0)
      (left_comes core new n sound told (bound.Recover gone) later (answer.Recovered gone) todo_is (leaving m e) result left)

  strange_so : outcome.step ≡ None → is_strange_to core.layout core.catalog n sound ≡ true
  strange_so e = strange_alike (turn [] answer.Begun) awaited e

  pub is_strange_so : (s : Option TxnStep) → outcome.step ≡ s → is_refused s ≡ true → ComesTo core.layout core.catalog n sound told core mark.Quiet (Ok next.Strange)
  is_strange_so None e h = (record { left = refl; answers = refl }, strange_so e)
  is_strange_so (Some (step.Going m)) e h = absurd cc
  is_strange_so (Some (step.Ended m)) e h = absurd cc
  is_strange_so (Some (step.Ready m)) e h = absurd (steps (turn [] answer.Begun) (step.Ready m) e)
  is_strange_so (Some (step.Leaf m)) e h = absurd (steps (turn [] answer.Begun) (step.Leaf m) e)
  is_strange_so (Some (step.NoMemory m)) e h = absurd cc

  pub wants : (fault : NoMemory) (m : Mark) (s : Option TxnStep) → outcome.step ≡ s → HasMark m s → ComesTo core.layout core.catalog n sound told core m (Err fault)
  wants fault m s e h = (record { left = refl; answers = refl }, record { no_end = no_end gone all now; entries = λ usual commits. by s e h usual commits })
    where
      both : (b : Bool) → b ≡ true → b ≡ false → ⊥
      both true e f = cc
      both false e f = cc

      by : (s : Option TxnStep) → outcome.step ≡ s → HasMark m s → is_strange_to core.layout core.catalog n sound ≡ false → (commits : List Commit)
          → (unsaid (says_at core.layout core.catalog commits n sound answer.Begun) ≡ marked commits core.number told m)
          ⊎ (says_at core.layout core.catalog commits n sound answer.Begun ≡ marked commits core.number told m)
      by None e h usual commits = absurd (both (is_strange_to core.layout core.catalog n sound) (strange_so e) usual)
      by (Some (step.Going x)) e h usual commits = inr (tells commits x e ∙ ap (marked commits core.number told) (sym h))
      by (Some (step.Ended x)) e h usual commits = inl (ap unsaid (ends (turn commits answer.Begun) x e).2
          ∙ ap (marked commits core.number told) (sym (h ∙ (ends (turn commits answer.Begun) x e).0)))
      by (Some (step.Ready x)) e h usual commits = absurd (steps (turn [] answer.Begun) (step.Ready x) e)
      by (Some (step.Leaf x)) e h usual commits = absurd (steps (turn [] answer.Begun) (step.Leaf x) e)
      by (Some (step.NoMemory x)) e h usual commits = absurd (steps (turn [] answer.Begun) (step.NoMemory x) e)

-- ---- the recovery as its code has it

-- the laws that are needed
pub record FollowsLaw : Type 0 where
  pub goes_on : GoesOn
  pub awaits : Awaits
  pub ends : Ends
  pub steps : GoesOnOrEnds
  pub strange_alike : IsStrangeAlike
  pub not_odd : StepsNotOdd

module _ (law : FollowsLaw) (core : Core) (gone : ℕ) (before after : Recover) (told : Reply) (step_told : Option TxnStep)
    (fits : IsFit core (work.Recovers gone before)) (heeded : IsTaken core.catalog before after told step_told) where
  -- what the code took the reply for, laid out as the node
  abbrev pub outcome_of : code.Taken
  outcome_of = code.takes core.layout before.all before.phase (heeds.hears core.catalog before.phase told)

  -- with the statement present, what the law says of the node's parts
  at_present : (new : Core) (m : Mark) (result : Result Next NoMemory)
      → ((later : List Bound) → drop (length core.answers.items) core.statements ≡ bound.Recover gone ∷ later → before.layout ≡ core.layout → is_awaiting before.phase ≡ true
      → ComesTo core.layout core.catalog (node_with core (bound.Recover gone ∷ later) (doing_of gone before.all before.phase)) (heeds.hears core.catalog before.phase told) told new m result)
      → IsAfter core.layout core.catalog (node_at core (work.Recovers gone before)) told new m result
  at_present new m result h = by (drop (length core.answers.items) core.statements) refl fits
    where
      by : (todo : List Bound) → drop (length core.answers.items) core.statements ≡ todo → FitsAll core todo (work.Recovers gone before)
          → IsAfter core.layout core.catalog (node_with core todo (doing_so todo (work.Recovers gone before))) told new m result
      by [] e f = absurd f
      by (statement ∷ later) e f =
          subst (λ s. IsAfter core.layout core.catalog (node_with core (s ∷ later) (doing_of gone before.all before.phase)) told new m result) (sym f.0)
          (subst (λ x. ComesTo core.layout core.catalog (node_with core (bound.Recover gone ∷ later) (doing_of gone before.all before.phase)) x told new m result)
          (sym (hears_phase core gone later before.all before.phase told f.2))
          (h later (e ∙ ap (λ s. s ∷ later) f.0) f.1 f.2))

  taken_is : before.layout ≡ core.layout → heeds.IsAfter core.layout outcome_of after.phase after.next step_told
  taken_is e = subst (λ l. heeds.IsAfter l (code.takes l before.all before.phase (heeds.hears core.catalog before.phase told)) after.phase after.next step_told) e heeded.after

  pub going_after : (m : Mark) → step_told ≡ Some (step.Going m)
      → IsAfter core.layout core.catalog (node_at core (work.Recovers gone before)) told core m (Ok (next.Goes (work.Recovers gone after)))
  going_after m e = at_present core m (Ok (next.Goes (work.Recovers gone after)))
      (λ later todo_is layout_is awaited. let t : heeds.IsAfter core.layout outcome_of after.phase after.next (Some (step.Going m)) =
      subst (λ s. heeds.IsAfter core.layout outcome_of after.phase after.next s) e (taken_is layout_is) in
      goes law.goes_on law.awaits law.ends law.steps law.strange_alike law.not_odd core gone later before.all before.phase told todo_is awaited
      after m (sym t.2) (heeded.layout ∙ layout_is) heeded.all t.0 t.1)

  pub ended_after : (new : Core) (m : Mark) (result : Result Next NoMemory) → step_told ≡ Some (step.Ended m) → Leaves core (answer.Recovered gone) new result
      → IsAfter core.layout core.catalog (node_at core (work.Recovers gone before)) told new m result
  ended_after new m result e left = at_present new m result
      (λ later todo_is layout_is awaited. let t : heeds.IsAfter core.layout outcome_of after.phase after.next (Some (step.Ended m)) =
      subst (λ s. heeds.IsAfter core.layout outcome_of after.phase after.next s) e (taken_is layout_is) in
      leaves law.goes_on law.awaits law.ends law.steps law.strange_alike law.not_odd core gone later before.all before.phase told todo_is awaited
      new m result (sym t.2) left)

  pub wanting_after : (fault : NoMemory) (m : Mark) → step_told ≡ Some (step.NoMemory m)
      → IsAfter core.layout core.catalog (node_at core (work.Recovers gone before)) told core m (Err fault)
  wanting_after fault m e = at_present core m (Err fault)
      (λ later todo_is layout_is awaited. let t : heeds.IsAfter core.layout outcome_of after.phase after.next (Some (step.NoMemory m)) =
      subst (λ s. heeds.IsAfter core.layout outcome_of after.phase after.next s) e (taken_is layout_is) in
      wants law.goes_on law.awaits law.ends law.steps law.strange_alike law.not_odd core gone later before.all before.phase told todo_is awaited
      fault m outcome_of.step refl t.2)

  pub refused_after : (s : Option TxnStep) → step_told ≡ s → is_refused s ≡ true
      → IsAfter core.layout core.catalog (node_at core (work.Recovers gone before)) told core mark.Quiet (Ok next.Strange)
  refused_after s e refused = at_present core mark.Quiet (Ok next.Strange)
      (λ later todo_is layout_is awaited. is_strange_so law.goes_on law.awaits law.ends law.steps law.strange_alike law.not_odd core gone later before.all before.phase told todo_is awaited
      s (sym (same s refused (subst (λ x. heeds.IsAfter core.layout outcome_of after.phase after.next x) e (taken_is layout_is)))) refused)
    where
      same : (s : Option TxnStep) → is_refused s ≡ true → heeds.IsAfter core.layout outcome_of after.phase after.next s → s ≡ outcome_of.step
      same None r t = t.2
      same (Some (step.Ready m)) r t = t.2
      same (Some (step.Leaf m)) r t = t.2
      same (Some other) r t = absurd cc
