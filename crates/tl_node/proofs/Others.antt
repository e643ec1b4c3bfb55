-- Another manager has told its low-water mark: the node commits as the law's node does.
use Rattle.std.proofs.Common.{◌≡◌, ℕ, Bool, true, false, ◌||◌, inr, List, [], ◌∷◌, length, drop, Some, None, Result, Ok, Err, refl, sym, ap, ◌∙◌, subst}
use Rattle.std.specs.Prelude.{IfOk, nat_le, if◌then◌else◌}
use Rattle.tl_base.specs.declared.memory.NoMemory.{NoMemory}
use Rattle.tl_collect.specs.Floors.{least_of}
use Rattle.tl_descriptor.specs.Tids.{TidSet}
use Rattle.tl_logrec.specs.declared.entry.Flag.TheVariants as flag
use Rattle.tl_manager.specs.declared.mark.Mark.TheVariants as mark
use Rattle.tl_manager.specs.declared.request.ManagerReply.TheVariants as manager
use Rattle.tl_manager.specs.declared.request.ManagerRequest.TheVariants as request
use Rattle.tl_manager.specs.declared.request.Reply.{Reply}
use Rattle.tl_isolation.specs.declared.bound.Bound.{Bound}
use Rattle.tl_isolation.specs.declared.entry.Answer.TheVariants as answer
use Rattle.tl_isolation.specs.declared.state.Commit.{Commit as Committed}
use Rattle.tl_protocol.specs.Move.{is_empty}
use Rattle.tl_protocol.specs.World as protocol
use Rattle.tl_journal.specs.Ask.{LoadCommits, StoreLog, AskManager, Heard, Told, Strange}
use Rattle.tl_journal.specs.Asks.{ToCommit, asks, asks_inside, course_in, other_manager, store_trying}
use Rattle.tl_ask.specs.Given.{shown_heard}
use Rattle.tl_journal.specs.Node.{Doing, Outside, Inside, Trying, Node}
use Rattle.tl_journal.specs.Says.{says_at, says_inside}
use Rattle.tl_journal.specs.Strange.{is_odd_for, is_stopped, is_strange_to}
use Rattle.tl_journal.specs.Takes.{takes, takes_commit, takes_inside}
use Rattle.tl_ask.specs.Asked.{asked}
use Rattle.tl_ask.specs.Hears.{hears_manager}
use Rattle.tl_ask.specs.declared.asked.Asked.{Asked}
use Rattle.tl_txn.specs.Attempt.{Attempt, entry_of}
use Rattle.tl_txn.specs.Calls.{IsReady, ask_commit, attempt_of, commits}
use Rattle.tl_txn.specs.Doing.{doing_of, txn_in}
use Rattle.tl_txn.specs.Follows.{HasInHand, StartsCommit, StartsCommits, Suits}
use Rattle.tl_txn.specs.declared.phase.Open.{Open}
use Rattle.tl_txn.specs.declared.phase.Phase.{Phase}
use Rattle.tl_txn.specs.declared.phase.Phase.TheVariants as phase
use Rattle.tl_txn.specs.declared.txn.Txn.{Txn}
use Rattle.tl_node.specs.After.{ComesTo, IsAfter, Stays, hears}
use Rattle.tl_node.specs.Ends.{CommitsWith, committing, learns_other}
use Rattle.tl_node.specs.Fits.{FitsAll, FitsCourse, IsEnding, IsFit, MayEnd}
use Rattle.tl_node.specs.Hears.{floor_heard}
use Rattle.tl_node.specs.Seen.{seen}
use Rattle.tl_node.specs.View.{asked_by, doing_so, node_at, node_so, stage_of}
use Rattle.tl_node.specs.declared.kept.Core.{Core}
use Rattle.tl_node.specs.declared.work.Course.TheVariants as course
use Rattle.tl_node.specs.declared.work.Next.{Next}
use Rattle.tl_node.specs.declared.work.Next.TheVariants as next
use Rattle.tl_node.specs.declared.work.Stage.{Stage}
use Rattle.tl_node.specs.declared.work.Work.{Work}
use Rattle.tl_node.specs.declared.work.Work.TheVariants as work
use Rattle.tl_node.proofs.Opening.{node_with, same_node}
use Rattle.tl_node.proofs.OutsideReplies.{floor_told}
use Rattle.tl_node.proofs.Heard.{IsOfManager, manager_alike, of_manager}
use Rattle.tl_node.proofs.NotStrange.{not_strange_at}

-- a transaction that is to commit what it wrote, once another manager has told its low-water mark
pub record IsWaiting (core : Core) (statement : Bound) (stage : protocol.Stage) (m : ℕ) (now : Phase) : Type 0 where
  pub live : Open
  pub now_is : now ≡ phase.Ready live
  pub course_is : course_in core.catalog stage statement ≡ ToCommit
  pub writes : is_empty live.own ≡ false
  pub others : nat_le core.layout.managers 1 ≡ false
  pub manager_is : m ≡ other_manager core.layout (node_so core Outside)

waiting_so : (core : Core) (statement : Bound) (stage : Stage) (m : ℕ) (a : Asked) (now : Phase) → FitsCourse core statement stage now (course.AsksOther m a)
    → IsWaiting core statement (stage_of stage) m now
waiting_so core statement stage m a (phase.Ready live) h =
    record { live = live; now_is = refl; course_is = h.0.0; writes = h.0.1; others = h.1; manager_is = h.2 }
waiting_so core statement stage m a other h = absurd h.0

ready_so : (now : Phase) (live : Open) → now ≡ phase.Ready live → IsReady now
ready_so now live e = subst IsReady (sym e) tt

module _ (core : Core) (statement : Bound) (later : List Bound) (stage : Stage) (live : Open) (told : Reply)
    (todo_is : drop (length core.answers.items) core.statements ≡ statement ∷ later)
    (course_is : course_in core.catalog (stage_of stage) statement ≡ ToCommit) where
  abbrev pub st : protocol.Stage
  st = stage_of stage

  -- it is inside
  abbrev pub n : Node
  n = node_with core (statement ∷ later) (Inside (txn_in st live))

  hears_other : is_empty live.own ≡ false → nat_le core.layout.managers 1 ≡ false → hears core.layout core.catalog n told ≡ hears_manager told
  hears_other e f = ap (λ c. shown_heard core.catalog (asks_inside core.layout n (txn_in st live) c) told) course_is
      ∙ by (is_empty live.own) (nat_le core.layout.managers 1) e f
    where
      by : (a b : Bool) → a ≡ false → b ≡ false
          → shown_heard core.catalog (if a then LoadCommits else (if b then store_trying n (txn_in st live) else AskManager (other_manager core.layout n) (request.Floor live.snapshot))) told
          ≡ hears_manager told
      by false false e f = manager_alike core.catalog (other_manager core.layout n) (request.Floor live.snapshot) told
      by true b e f = cc
      by false true e f = cc

  -- where no low-water mark is told
  stops_other : floor_heard (hears_manager told) ≡ None → is_strange_to core.layout core.catalog n (hears_manager told) ≡ true
  stops_other e = ap (λ c. is_stopped (takes_inside core.layout core.catalog n statement (txn_in st live) c (hears_manager told) answer.Begun).doing
      || is_odd_for (Inside (txn_in st live)) (hears_manager told)) course_is ∙ by (hears_manager told) (of_manager told) e
    where
      by : (sound : Heard) → IsOfManager sound → floor_heard sound ≡ None
          → (is_stopped (takes_commit core.layout n (txn_in st live) sound).doing || is_odd_for (Inside (txn_in st live)) sound) ≡ true
      by (Told (manager.FloorIs floor)) m e = cc
      by (Told other) m e = refl
      by Strange m e = refl
      by other m e = absurd m

  pub other_stops : floor_heard (hears_manager told) ≡ None → ComesTo core.layout core.catalog n (hears_manager told) told core mark.Quiet (Ok next.Strange)
  other_stops e = (record { left = refl; answers = refl }, stops_other e)

  -- the law's node once it is told
  abbrev tried : ℕ → TidSet → Node
  tried m floor = node_with (learns_other core m floor) (statement ∷ later) (Trying (txn_in st live))

  takes_other : (floor : TidSet) → takes core.layout core.catalog n (Told (manager.FloorIs floor)) answer.Begun ≡ tried (other_manager core.layout n) floor
  takes_other floor = ap (λ c. takes_inside core.layout core.catalog n statement (txn_in st live) c (Told (manager.FloorIs floor)) answer.Begun) course_is

  says_other : (commits : List Committed) (floor : TidSet) → says_at core.layout core.catalog commits n (Told (manager.FloorIs floor)) answer.Begun ≡ []
  says_other commits floor = ap (λ c. says_inside core.layout n statement (txn_in st live) c (Told (manager.FloorIs floor)) answer.Begun) course_is

module _ (core : Core) (statement : Bound) (later : List Bound) (stage : Stage) (live : Open) (told : Reply)
    (todo_is : drop (length core.answers.items) core.statements ≡ statement ∷ later)
    (course_is : course_in core.catalog (stage_of stage) statement ≡ ToCommit)
    (starts : StartsCommits) (m : ℕ) (floor : TidSet) (m_is : m ≡ other_manager core.layout (node_so core Outside)) where
  abbrev mid : Core
  mid = learns_other core m floor

  -- what it tries
  abbrev attempt : Attempt
  attempt = attempt_of core.number (least_of mid.floors) live

  -- it waits
  abbrev pub waiting : Node
  waiting = node_with core (statement ∷ later) (Inside (txn_in (stage_of stage) live))

  -- and tries
  abbrev trying : Doing
  trying = Trying (txn_in (stage_of stage) live)

  goes_other : (txn : Txn) → txn.layout ≡ core.layout → txn.node ≡ core.number → txn.phase ≡ phase.Trying attempt
      → txn.next ≡ Some (asked core.layout (StoreLog 0 (entry_of attempt flag.Trying)))
      → ComesTo core.layout core.catalog waiting (Told (manager.FloorIs floor)) told mid mark.Quiet
      (Ok (next.Goes (work.Runs (record { txn = txn; stage = stage; course = course.Ends None }))))
  goes_other txn layout_is node_is phase_is next_is = record {
    fits = subst (λ todo. FitsAll mid todo w) (sym todo_is) (record {
      own = record { layout = layout_is; node = node_is };
      course = (
        subst (λ p. IsEnding p) (sym phase_is) tt,
        subst (λ p. Suits core.catalog (node_so mid Outside) statement (stage_of stage) p) (sym phase_is) commit.suits,
        subst (λ p. HasInHand p) (sym phase_is) tt,
        subst (λ p. MayEnd mid (stage_of stage) p None) (sym phase_is) refl,
      );
    });
    not_strange =
        not_strange_at core.layout core.catalog waiting (Told (manager.FloorIs floor)) _ (takes_other core statement later stage live told todo_is course_is floor) refl refl;
    stands = record {
      settings_are = refl;
      catalog_is = refl;
      node_is = same_node (node_at mid w) (node_with mid (statement ∷ later) trying) refl todo_is refl refl refl
          (ap (λ todo. doing_so todo w) todo_is ∙ ap (λ p. doing_of (stage_of stage) p) phase_is ∙ commit.doing_is)
          ∙ ap (λ x. seen core.layout core.catalog x) after_is;
      ask_is = next_is ∙ ap (λ x. Some (asked core.layout x)) (sym commit.ask_is) ∙ ap (λ x. asked_by core.layout (asks core.layout core.catalog x)) after_is;
    };
    entries = λ commits. says_other core statement later stage live told todo_is course_is commits floor;
  }
    where
      w : Work
      w = work.Runs (record { txn = txn; stage = stage; course = course.Ends None })

      commit : StartsCommit core.catalog (node_so mid trying) statement (stage_of stage) live attempt
      commit = starts core.catalog (node_so mid trying) statement (stage_of stage) live

      after_is : node_with mid (statement ∷ later) trying ≡ takes core.layout core.catalog waiting (Told (manager.FloorIs floor)) answer.Begun
      after_is = ap (λ k. tried core statement later stage live told todo_is course_is k floor) m_is
          ∙ sym (takes_other core statement later stage live told todo_is course_is floor)

  wants_other : (fault : NoMemory) (new : Core) → new.answers.items ≡ core.answers.items
      → ComesTo core.layout core.catalog waiting (Told (manager.FloorIs floor)) told new mark.Quiet (Err fault)
  wants_other fault new kept = (
    record { left = refl; answers = kept },
    record { no_end = refl; entries = λ usual commits. inr (says_other core statement later stage live told todo_is course_is commits floor) },
  )

  pub commits_other : (txn : Txn) (new : Core) (result : Result Next NoMemory) → is_empty live.own ≡ false → txn.layout ≡ core.layout → txn.node ≡ core.number
      → txn.phase ≡ phase.Ready live → CommitsWith core txn stage m floor new result
      → ComesTo core.layout core.catalog waiting (Told (manager.FloorIs floor)) told new mark.Quiet result
  commits_other txn new (Ok x) e layout_is node_is phase_is h =
      subst (λ c. ComesTo core.layout core.catalog waiting (Told (manager.FloorIs floor)) told c mark.Quiet (Ok x)) (sym h.0)
      (subst (λ y. ComesTo core.layout core.catalog waiting (Told (manager.FloorIs floor)) told mid mark.Quiet (Ok y)) (sym h.1)
      (goes_other (committing mid txn) layout_is node_is
      (ap (λ p. commits txn.node (least_of mid.floors) p) phase_is ∙ ap (λ k. commits k (least_of mid.floors) (phase.Ready live)) node_is
      ∙ ap (λ b. if b then phase.TryingNothing live else phase.Trying attempt) e)
      (ap (λ l. Some (asked l (ask_commit txn.node (least_of mid.floors) txn.phase))) layout_is
      ∙ ap (λ p. Some (asked core.layout (ask_commit txn.node (least_of mid.floors) p))) phase_is
      ∙ ap (λ k. Some (asked core.layout (ask_commit k (least_of mid.floors) (phase.Ready live)))) node_is
      ∙ ap (λ b. Some (asked core.layout (if b then LoadCommits else StoreLog 0 (entry_of attempt flag.Trying)))) e)))
  commits_other txn new (Err fault) e layout_is node_is phase_is h = wants_other fault new h.answers

-- ---- the node as its code has it

module _ (core : Core) (txn : Txn) (stage : Stage) (m : ℕ) (a : Asked) (told : Reply)
    (fits : IsFit core (work.Runs (record { txn = txn; stage = stage; course = course.AsksOther m a }))) where
  abbrev pub waits : Work
  waits = work.Runs (record { txn = txn; stage = stage; course = course.AsksOther m a })

  at_other : (new : Core) (result : Result Next NoMemory)
      → ((statement : Bound) (later : List Bound) (live : Open) → drop (length core.answers.items) core.statements ≡ statement ∷ later
      → course_in core.catalog (stage_of stage) statement ≡ ToCommit → is_empty live.own ≡ false → m ≡ other_manager core.layout (node_so core Outside)
      → txn.layout ≡ core.layout → txn.node ≡ core.number → txn.phase ≡ phase.Ready live
      → ComesTo core.layout core.catalog (node_with core (statement ∷ later) (Inside (txn_in (stage_of stage) live))) (hears_manager told) told new mark.Quiet result)
      → IsAfter core.layout core.catalog (node_at core waits) told new mark.Quiet result
  at_other new result h = by (drop (length core.answers.items) core.statements) refl fits
    where
      by : (todo : List Bound) → drop (length core.answers.items) core.statements ≡ todo → FitsAll core todo waits
          → IsAfter core.layout core.catalog (node_with core todo (doing_so todo waits)) told new mark.Quiet result
      by [] e f = absurd f
      by (statement ∷ later) e f = let x : IsWaiting core statement (stage_of stage) m txn.phase = waiting_so core statement stage m a txn.phase f.course in
          subst (λ p. IsAfter core.layout core.catalog (node_with core (statement ∷ later) (doing_of (stage_of stage) p)) told new mark.Quiet result) (sym x.now_is)
          (subst (λ sound. ComesTo core.layout core.catalog (node_with core (statement ∷ later) (Inside (txn_in (stage_of stage) x.live))) sound told new mark.Quiet result)
          (sym (hears_other core statement later stage x.live told e x.course_is x.writes x.others))
          (h statement later x.live e x.course_is x.writes x.manager_is f.own.layout f.own.node x.now_is))

  pub waits_ready : IsReady txn.phase
  waits_ready = by (drop (length core.answers.items) core.statements) fits
    where
      by : (todo : List Bound) → FitsAll core todo waits → IsReady txn.phase
      by [] f = absurd f
      by (statement ∷ later) f = let x : IsWaiting core statement (stage_of stage) m txn.phase = waiting_so core statement stage m a txn.phase f.course in
          ready_so txn.phase x.live x.now_is

  pub commits_after : StartsCommits → (floor : TidSet) (new : Core) (result : Result Next NoMemory) → Some floor ≡ floor_heard (hears_manager told)
      → CommitsWith core txn stage m floor new result → IsAfter core.layout core.catalog (node_at core waits) told new mark.Quiet result
  commits_after starts floor new result e h = at_other new result
      (λ statement later live todo_is course_is writes m_is layout_is node_is phase_is.
      subst (λ sound. ComesTo core.layout core.catalog (node_with core (statement ∷ later) (Inside (txn_in (stage_of stage) live))) sound told new mark.Quiet result)
      (sym (floor_told (hears_manager told) floor (sym e)))
      (commits_other core statement later stage live told todo_is course_is starts m floor m_is txn new result writes layout_is node_is phase_is h))

  pub stays_waiting : None ≡ floor_heard (hears_manager told) → IsAfter core.layout core.catalog (node_at core waits) told core mark.Quiet (Ok next.Strange)
  stays_waiting e = at_other core (Ok next.Strange)
      (λ statement later live todo_is course_is writes m_is layout_is node_is phase_is. other_stops core statement later stage live told todo_is course_is (sym e))

-- the settings, the catalog, the statements and the number stay
pub commits_stay : (old new : Core) (txn : Txn) (stage : Stage) (m : ℕ) (floor : TidSet) (result : Result Next NoMemory) → CommitsWith old txn stage m floor new result
    → Stays old new
commits_stay old new txn stage m floor (Ok x) h = subst (Stays old) (sym h.0) (record { layout = refl; catalog = refl; statements = refl; number = refl })
commits_stay old new txn stage m floor (Err fault) h = h.stays

-- where memory is wanted for the commit the low-water mark is known all the same
pub commits_learnt : (old new : Core) (txn : Txn) (stage : Stage) (m : ℕ) (floor : TidSet) (result : Result Next NoMemory) → new ≡ learns_other old m floor
    → IfOk result (λ (x : Next). x ≡ next.Goes (work.Runs (record { txn = committing new txn; stage = stage; course = course.Ends None })))
    → CommitsWith old txn stage m floor new result
commits_learnt old new txn stage m floor (Ok x) e h =
    (e, h ∙ ap (λ (c : Core). next.Goes (work.Runs (record { txn = committing c txn; stage = stage; course = course.Ends None }))) e)
commits_learnt old new txn stage m floor (Err fault) e h = record {
  stays = subst (Stays old) (sym e) (record { layout = refl; catalog = refl; statements = refl; number = refl });
  answers = ap (λ (c : Core). c.answers.items) e;
}
