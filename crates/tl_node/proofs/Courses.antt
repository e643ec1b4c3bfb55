-- What a node in a transaction shows for the function that takes its reply, by its course.
use Rattle.std.proofs.Common.{◌≡◌, List, [], ◌∷◌, length, drop, Result, refl, sym, ap, ◌∙◌, subst}
use Rattle.tl_base.specs.declared.memory.NoMemory.{NoMemory}
use Rattle.tl_manager.specs.declared.mark.Mark.{Mark}
use Rattle.tl_manager.specs.declared.request.ManagerRequest.TheVariants as request
use Rattle.tl_manager.specs.declared.request.Reply.{Reply}
use Rattle.tl_isolation.specs.declared.bound.Bound.{Bound}
use Rattle.tl_journal.specs.Ask.{Heard}
use Rattle.tl_journal.specs.Asks.{Course as TheCourse, ToIdle, asks_inside, course_in}
use Rattle.tl_journal.specs.Bytes.{home_of}
use Rattle.tl_ask.specs.Given.{shown_heard}
use Rattle.tl_journal.specs.Node.{Inside, Node}
use Rattle.tl_ask.specs.Hears.{hears_manager}
use Rattle.tl_ask.specs.declared.asked.Asked.{Asked}
use Rattle.tl_txn.specs.Calls.{IsReady}
use Rattle.tl_txn.specs.Doing.{doing_of, txn_in}
use Rattle.tl_txn.specs.Run.{IsSameRun}
use Rattle.tl_txn.specs.declared.phase.Open.{Open}
use Rattle.tl_txn.specs.declared.phase.Phase.{Phase}
use Rattle.tl_txn.specs.declared.phase.Phase.TheVariants as phase
use Rattle.tl_txn.specs.declared.txn.Txn.{Txn}
use Rattle.tl_node.proofs.Heard.{manager_alike}
use Rattle.tl_node.specs.After.{ComesTo, IsAfter, at_todo, hears}
use Rattle.tl_node.specs.Fits.{FitsAll, FitsRunning, HasPresent, IsFit, IsOwn, IsReadyWith}
use Rattle.tl_node.specs.View.{doing_so, node_at, node_so, stage_of}
use Rattle.tl_node.specs.declared.kept.Core.{Core}
use Rattle.tl_node.specs.declared.work.Course.{Course}
use Rattle.tl_node.specs.declared.work.Course.TheVariants as way
use Rattle.tl_node.specs.declared.work.Next.{Next}
use Rattle.tl_node.specs.declared.work.Running.{Running}
use Rattle.tl_node.specs.declared.work.Stage.TheVariants as stage
use Rattle.tl_node.specs.declared.work.Work.{Work}
use Rattle.tl_node.specs.declared.work.Work.TheVariants as work
use Rattle.tl_node.proofs.BeginAfter.{first_run, running_present}

module _ (core : Core) (r : Running) where
  abbrev pub on : Course → Work
  on course = work.Runs (record { txn = r.txn; stage = r.stage; course = course })

  pub fits_on : (course : Course) → r.course ≡ course → IsFit core (work.Runs r) → IsFit core (on course)
  fits_on course e = subst (λ (x : Course). IsFit core (on x)) e

  module _ (told : Reply) (new : Core) (m : Mark) (result : Result Next NoMemory) where
    abbrev pub After : Work → Type 0
    After w = IsAfter core.layout core.catalog (node_at core w) told new m result

    pub after_on : (course : Course) → r.course ≡ course → After (on course) → After (work.Runs r)
    after_on course e = subst (λ (x : Course). After (on x)) (sym e)

  -- nothing was said in a transaction that begins
  abbrev pub at_first : Work
  at_first = work.Runs (record { txn = r.txn; stage = stage.Fresh; course = way.Begins })

  pub fits_first : r.course ≡ way.Begins → IsFit core (work.Runs r) → IsFit core at_first
  fits_first e h = by (drop (length core.answers.items) core.statements) (fits_on way.Begins e h)
    where
      by : (todo : List Bound) → FitsAll core todo (on way.Begins) → FitsAll core todo at_first
      by [] f = absurd f
      by (statement ∷ later) f = record { own = f.own; course = f.course }

  doing_first : (todo : List Bound) → doing_so todo at_first ≡ doing_so todo (on way.Begins)
  doing_first [] = refl
  doing_first (statement ∷ later) = refl

  pub after_first : (told : Reply) (new : Core) (m : Mark) (result : Result Next NoMemory) → r.course ≡ way.Begins
      → IsAfter core.layout core.catalog (node_at core at_first) told new m result → IsAfter core.layout core.catalog (node_at core (work.Runs r)) told new m result
  after_first told new m result e h =
      after_on told new m result way.Begins e
      (subst (λ (n : Node). IsAfter core.layout core.catalog n told new m result) (ap (λ doing. node_so core doing) (doing_first (drop (length core.answers.items) core.statements))) h)

-- ---- the one request of a statement without reads

pub record IsIdling (core : Core) (r : Running) : Type 0 where
  pub live : Open
  pub phase_is : r.txn.phase ≡ phase.Ready live
  pub own : IsOwn core r.txn
  pub present : HasPresent core (λ statement. course_in core.catalog (stage_of r.stage) statement ≡ ToIdle)

record IsReadyFor (P : Type 0) (so_far : Phase) : Type 0 where
  live : Open
  is : so_far ≡ phase.Ready live
  holds : P

ready_for : (P : Type 0) (so_far : Phase) → IsReadyWith (λ live. P) so_far → IsReadyFor P so_far
ready_for P (phase.Ready live) h = record { live = live; is = refl; holds = h }
ready_for P other h = absurd h

module _ (core : Core) (r : Running) (a : Asked) (e : r.course ≡ way.Idles a) (fits : IsFit core (work.Runs r)) where
  pub idling : IsIdling core r
  idling = by (drop (length core.answers.items) core.statements) refl (fits_on core r (way.Idles a) e fits)
    where
      by : (todo : List Bound) → drop (length core.answers.items) core.statements ≡ todo → FitsAll core todo (on core r (way.Idles a)) → IsIdling core r
      by [] todo_is f = absurd f
      by (statement ∷ later) todo_is f =
          let x : IsReadyFor (course_in core.catalog (stage_of r.stage) statement ≡ ToIdle) r.txn.phase =
          ready_for (course_in core.catalog (stage_of r.stage) statement ≡ ToIdle) r.txn.phase f.course in
          record { live = x.live; phase_is = x.is; own = f.own; present = record { statement = statement; later = later; todo_is = todo_is; holds = x.holds } }

  pub idling_ready : IsReady r.txn.phase
  idling_ready = subst IsReady (sym idling.phase_is) tt

  -- it hears its manager
  hears_idle : (live : Open) (statement : Bound) (later : List Bound) (told : Reply) → course_in core.catalog (stage_of r.stage) statement ≡ ToIdle
      → hears core.layout core.catalog (at_todo core (statement ∷ later) (Inside (txn_in (stage_of r.stage) live))) told ≡ hears_manager told
  hears_idle live statement later told to =
      ap
      (λ (c : TheCourse).
      shown_heard core.catalog (asks_inside core.layout (at_todo core (statement ∷ later) (Inside (txn_in (stage_of r.stage) live))) (txn_in (stage_of r.stage) live) c) told) to
      ∙ manager_alike core.catalog (home_of core.layout core.number) (request.Floor live.snapshot) told

  pub after_idle : (told : Reply) (new : Core) (m : Mark) (result : Result Next NoMemory)
      → ((live : Open) → r.txn.phase ≡ phase.Ready live
      → ComesTo core.layout core.catalog (node_so core (Inside (txn_in (stage_of r.stage) live))) (hears_manager told) told new m result)
      → IsAfter core.layout core.catalog (node_at core (work.Runs r)) told new m result
  after_idle told new m result comes =
      let x : IsIdling core r = idling in
      let t = txn_in (stage_of r.stage) x.live in
      after_on core r told new m result (way.Idles a) e
      (by x.live x.phase_is (drop (length core.answers.items) core.statements) x.present.statement x.present.later x.present.todo_is x.present.holds (comes x.live x.phase_is))
    where
      by : (live : Open) → r.txn.phase ≡ phase.Ready live → (todo : List Bound) (statement : Bound) (later : List Bound) → todo ≡ statement ∷ later
          → course_in core.catalog (stage_of r.stage) statement ≡ ToIdle
          → ComesTo core.layout core.catalog (at_todo core todo (Inside (txn_in (stage_of r.stage) live))) (hears_manager told) told new m result
          → IsAfter core.layout core.catalog (at_todo core todo (doing_so todo (on core r (way.Idles a)))) told new m result
      by live is todo statement later todo_is to h =
          subst (λ (left : List Bound). IsAfter core.layout core.catalog (at_todo core left (doing_so left (on core r (way.Idles a)))) told new m result) (sym todo_is)
          (subst (λ (p : Phase). IsAfter core.layout core.catalog (at_todo core (statement ∷ later) (doing_of (stage_of r.stage) p)) told new m result) (sym is)
          (subst
          (λ (sound : Heard). ComesTo core.layout core.catalog (at_todo core (statement ∷ later) (Inside (txn_in (stage_of r.stage) live))) sound told new m result)
          (sym (hears_idle live statement later told to))
          (subst (λ (left : List Bound). ComesTo core.layout core.catalog (at_todo core left (Inside (txn_in (stage_of r.stage) live))) (hears_manager told) told new m result) todo_is h)))

-- ---- a transaction that begins

pub record IsBeginningFor (core : Core) (txn : Txn) : Type 0 where
  pub present : HasPresent core (λ statement. Unit {0})
  pub own : IsOwn core txn

pub beginning_for : (core : Core) (txn after : Txn) → IsFit core (work.Runs (first_run txn)) → IsSameRun txn after → IsBeginningFor core after
beginning_for core txn after fits same =
    let p : HasPresent core (λ statement. FitsRunning core statement (first_run txn)) = running_present core (first_run txn) fits in
    record {
      present = record { statement = p.statement; later = p.later; todo_is = p.todo_is; holds = tt };
      own = record { layout = same.layout_is ∙ p.holds.own.layout; node = same.node_is ∙ p.holds.own.node };
    }
