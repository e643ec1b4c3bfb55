-- What the law's node does with a reply outside a transaction.
use Rattle.std.proofs.Common.{◌≡◌, ℕ, true, false, ◌||◌, List, [], ◌∷◌, length, drop, Some, None, Result, Ok, Err, refl, sym, ap, ◌∙◌, subst}
use Rattle.tl_base.specs.NodeSet.{with_node}
use Rattle.tl_base.specs.declared.memory.NoMemory.{NoMemory}
use Rattle.tl_base.specs.declared.node.NodeSet.{NodeSet}
use Rattle.tl_base.specs.declared.place.Settings.{Settings}
use Rattle.tl_descriptor.specs.Tids.{TidSet}
use Rattle.tl_manager.specs.State.{opening_copy}
use Rattle.tl_manager.specs.declared.mark.Mark.{Mark}
use Rattle.tl_manager.specs.declared.mark.Mark.TheVariants as mark
use Rattle.tl_manager.specs.declared.request.ManagerReply.TheVariants as manager
use Rattle.tl_manager.specs.declared.request.ManagerRequest.TheVariants as request
use Rattle.tl_manager.specs.declared.request.Reply.{Reply}
use Rattle.tl_isolation.specs.declared.bound.Bound.{Bound}
use Rattle.tl_isolation.specs.declared.bound.Bound.TheVariants as bound
use Rattle.tl_isolation.specs.declared.entry.Answer.TheVariants as answer
use Rattle.tl_journal.specs.Ask.{AskManager, Heard, Told}
use Rattle.tl_journal.specs.Asks.{Course, ToIdle, ToRecover, asks_doing, asks_outside, course_outside}
use Rattle.tl_journal.specs.Bytes.{home_of}
use Rattle.tl_ask.specs.Given.{shown_heard}
use Rattle.tl_journal.specs.Node.{Outside, Recovering, Node, nodes_in}
use Rattle.tl_journal.specs.Says.{says_outside}
use Rattle.tl_journal.specs.Strange.{is_stopped, is_strange_to}
use Rattle.tl_journal.specs.Takes.{stopped, takes_outside}
use Rattle.tl_schema.specs.declared.catalog.Catalog.{Catalog}
use Rattle.tl_ask.specs.declared.asked.Asked.{Asked}
use Rattle.tl_ask.specs.Hears.{hears_manager}
use Rattle.tl_recover.specs.Doing as recovery
use Rattle.tl_recover.specs.Follows.{Begins, is_awaiting}
use Rattle.tl_recover.specs.declared.phase.Phase.{Phase}
use Rattle.tl_recover.specs.declared.phase.Phase.TheVariants as phase
use Rattle.tl_txn.specs.declared.phase.Phase as txn_phase
use Rattle.tl_txn.specs.declared.phase.Phase.TheVariants as txn_phases
use Rattle.tl_txn.specs.declared.txn.Txn.{Txn}
use Rattle.tl_node.proofs.Heard.{manager_alike}
use Rattle.tl_node.specs.After.{ComesTo, IsAfter, hears}
use Rattle.tl_node.specs.Fits.{FitsAll, HasPresent, IsBeginning, IsFit}
use Rattle.tl_node.specs.Hears.{claim_heard, floor_heard}
use Rattle.tl_node.specs.Leaves.{Learns, Leaves, Recovers, learns}
use Rattle.tl_node.specs.View.{asked_by, doing_so, node_at, node_so}
use Rattle.tl_node.specs.declared.hears.Claim.TheVariants as claim
use Rattle.tl_node.specs.declared.kept.Core.{Core}
use Rattle.tl_node.specs.declared.work.Course.TheVariants as course
use Rattle.tl_node.specs.declared.work.Next.{Next}
use Rattle.tl_node.specs.declared.work.Next.TheVariants as next
use Rattle.tl_node.specs.declared.work.Outside.{Outside as TheOutside}
use Rattle.tl_node.specs.declared.work.Outside.TheVariants as outside
use Rattle.tl_node.specs.declared.work.Stage.TheVariants as stage
use Rattle.tl_node.specs.declared.work.Work.{Work}
use Rattle.tl_node.specs.declared.work.Work.TheVariants as work
use Rattle.tl_node.proofs.Leaving.{IsLeaving, left_comes, left_wants}
use Rattle.tl_node.proofs.Opening.{node_with, outside_doing, same_node, todo_outside}
use Rattle.tl_node.proofs.NotStrange.{not_strange_at}

-- ---- COMMIT and ROLLBACK

stops_idle : (settings : Settings) (n : Node) (sound : Heard) → floor_heard sound ≡ None → takes_outside settings n ToIdle sound ≡ stopped n
stops_idle settings n (Told (manager.FloorIs floor)) e = cc
stops_idle settings n (Told other) e = refl
stops_idle settings n sound e = refl

pub floor_told : (sound : Heard) (floor : TidSet) → floor_heard sound ≡ Some floor → sound ≡ Told (manager.FloorIs floor)
floor_told (Told (manager.FloorIs f)) floor e = cc
floor_told (Told other) floor e = cc
floor_told sound floor e = cc

module _ (core : Core) (statement : Bound) (later : List Bound) (course_is : course_outside statement ≡ ToIdle) where
  hears_idle : (told : Reply) → hears core.layout core.catalog (node_with core (statement ∷ later) Outside) told ≡ hears_manager told
  hears_idle told = by (course_outside statement) course_is
    where
      by : (course : Course) → course ≡ ToIdle → shown_heard core.catalog (asks_outside core.layout (node_with core (statement ∷ later) Outside) statement course) told ≡ hears_manager told
      by ToIdle e = manager_alike core.catalog (home_of core.layout core.number) (request.Floor opening_copy) told
      by course e = cc

  strange_idle : (sound : Heard) → floor_heard sound ≡ None
      → is_strange_to core.layout core.catalog (node_with core (statement ∷ later) Outside) sound ≡ true
  strange_idle sound e =
      ap (λ c. is_stopped (takes_outside core.layout (node_with core (statement ∷ later) Outside) c sound).doing || false) course_is
      ∙ ap (λ (m : Node). is_stopped m.doing || false) (stops_idle core.layout (node_with core (statement ∷ later) Outside) sound e)

  leaving_idle : (floor : TidSet)
      → IsLeaving (learns core floor) (node_with core (statement ∷ later) Outside) (Told (manager.FloorIs floor)) statement later answer.Outside
  leaving_idle floor = record {
    left = refl;
    answers = refl;
    not_strange =
        not_strange_at core.layout core.catalog (node_with core (statement ∷ later) Outside) (Told (manager.FloorIs floor)) _
        (ap (λ c. takes_outside core.layout (node_with core (statement ∷ later) Outside) c (Told (manager.FloorIs floor))) course_is) refl refl;
    no_end = refl;
    takes_is = λ a. ap (λ c. takes_outside core.layout (node_with core (statement ∷ later) Outside) c (Told (manager.FloorIs floor))) course_is;
    means = λ a. tt;
    says_is = λ commits a. ap (λ c. says_outside (node_with core (statement ∷ later) Outside) statement c (Told (manager.FloorIs floor))) course_is;
  }

abbrev IdlesTo : Core → Core → Reply → List Bound → Heard → Result Next NoMemory → Type 0
IdlesTo core new told todo sound result = ComesTo core.layout core.catalog (node_with core todo Outside) sound told new mark.Quiet result

pub idle_comes : (core new : Core) (told : Reply) (floor : TidSet) (result : Result Next NoMemory)
    → HasPresent core (λ statement. course_outside statement ≡ ToIdle) → Some floor ≡ floor_heard (hears_manager told) → Learns core floor new result
    → ComesTo core.layout core.catalog (node_so core Outside) (hears_manager told) told new mark.Quiet result
idle_comes core new told floor result present e learnt =
    subst (λ todo. IdlesTo core new told todo (hears_manager told) result) (sym present.todo_is)
    (subst (λ sound. IdlesTo core new told (present.statement ∷ present.later) sound result) (sym (floor_told (hears_manager told) floor (sym e)))
    (by result learnt))
  where
    by : (result : Result Next NoMemory) → Learns core floor new result
        → IdlesTo core new told (present.statement ∷ present.later) (Told (manager.FloorIs floor)) result
    by (Ok other) left = left_comes (learns core floor) new (node_with core (present.statement ∷ present.later) Outside) (Told (manager.FloorIs floor)) told
        present.statement present.later answer.Outside present.todo_is (leaving_idle core present.statement present.later present.holds floor) (Ok other) left
    by (Err fault) kept = left_wants (learns core floor) new (node_with core (present.statement ∷ present.later) Outside) (Told (manager.FloorIs floor)) told
        present.statement present.later answer.Outside present.todo_is (leaving_idle core present.statement present.later present.holds floor) kept.answers

pub idle_strange : (core : Core) (told : Reply) → HasPresent core (λ statement. course_outside statement ≡ ToIdle) → None ≡ floor_heard (hears_manager told)
    → ComesTo core.layout core.catalog (node_so core Outside) (hears_manager told) told core mark.Quiet (Ok next.Strange)
idle_strange core told present e =
    subst (λ todo. IdlesTo core core told todo (hears_manager told) (Ok next.Strange)) (sym present.todo_is)
    (record { left = refl; answers = refl }, strange_idle core present.statement present.later present.holds (hears_manager told) (sym e))

-- its parts, while it idles, stand for the node outside a transaction, which hears the manager
pub idle_after : (core new : Core) (told : Reply) (m : Mark) (result : Result Next NoMemory) (o : TheOutside) (todo : List Bound)
    → FitsAll core todo (work.Outside o) → hears core.layout core.catalog (node_with core todo Outside) told ≡ hears_manager told
    → ComesTo core.layout core.catalog (node_with core todo Outside) (hears_manager told) told new m result
    → IsAfter core.layout core.catalog (node_with core todo (doing_so todo (work.Outside o))) told new m result
idle_after core new told m result o todo fits same comes =
    subst (λ d. IsAfter core.layout core.catalog (node_with core todo d) told new m result) (sym (outside_doing core todo o (todo_outside core todo o fits)))
    (subst (λ sound. ComesTo core.layout core.catalog (node_with core todo Outside) sound told new m result) (sym same) comes)

pub present_idle : (core : Core) (todo : List Bound) (a : Asked) → FitsAll core todo (work.Outside (outside.Idles a))
    → (statement : Bound) × (later : List Bound) × (todo ≡ statement ∷ later) × (course_outside statement ≡ ToIdle)
present_idle core [] a fits = absurd cc
present_idle core (statement ∷ later) a fits = (statement, later, refl, fits)

pub hears_idling : (core : Core) (todo : List Bound) (a : Asked) (told : Reply) → FitsAll core todo (work.Outside (outside.Idles a))
    → hears core.layout core.catalog (node_with core todo Outside) told ≡ hears_manager told
hears_idling core [] a told fits = absurd cc
hears_idling core (statement ∷ later) a told fits = hears_idle core statement later fits told

-- ---- RECOVER

pub present_claim : (core : Core) (todo : List Bound) (gone : ℕ) (a : Asked) → FitsAll core todo (work.Outside (outside.Claims gone a))
    → (statement : Bound) × (later : List Bound) × (todo ≡ statement ∷ later) × (statement ≡ bound.Recover gone)
present_claim core [] gone a fits = absurd cc
present_claim core (statement ∷ later) gone a fits = (statement, later, refl, fits)

pub hears_claiming : (core : Core) (todo : List Bound) (gone : ℕ) (a : Asked) (told : Reply) → FitsAll core todo (work.Outside (outside.Claims gone a))
    → hears core.layout core.catalog (node_with core todo Outside) told ≡ hears_manager told
hears_claiming core [] gone a told fits = absurd cc
hears_claiming core (statement ∷ later) gone a told fits =
    subst (λ s. hears core.layout core.catalog (node_with core (s ∷ later) Outside) told ≡ hears_manager told) (sym fits)
    (manager_alike core.catalog (home_of core.layout gone) (request.Claim gone) told)

stops_claim : (settings : Settings) (n : Node) (gone : ℕ) (sound : Heard) → claim_heard sound ≡ None → takes_outside settings n (ToRecover gone) sound ≡ stopped n
stops_claim settings n gone (Told manager.There) e = cc
stops_claim settings n gone (Told (manager.Given also)) e = cc
stops_claim settings n gone (Told other) e = refl
stops_claim settings n gone sound e = refl

there_told : (sound : Heard) → claim_heard sound ≡ Some claim.There → sound ≡ Told manager.There
there_told (Told manager.There) e = refl
there_told (Told (manager.Given also)) e = cc
there_told (Told other) e = cc
there_told sound e = cc

given_told : (sound : Heard) (also : NodeSet) → claim_heard sound ≡ Some (claim.Given also) → sound ≡ Told (manager.Given also)
given_told (Told manager.There) also e = cc
given_told (Told (manager.Given others)) also e = cc
given_told (Told other) also e = cc
given_told sound also e = cc

-- the node at RECOVER
abbrev claiming : Core → ℕ → List Bound → Node
claiming core gone later = node_with core (bound.Recover gone ∷ later) Outside

leaving_claim : (core : Core) (gone : ℕ) (later : List Bound)
    → IsLeaving core (claiming core gone later) (Told manager.There) (bound.Recover gone) later (answer.There gone)
leaving_claim core gone later = record {
  left = refl;
  answers = refl;
  not_strange = refl;
  no_end = refl;
  takes_is = λ a. refl;
  means = λ a. tt;
  says_is = λ commits a. refl;
}

-- what is to be shown of a claim, where these statements are left
abbrev ClaimsTo : Core → Core → Reply → List Bound → Heard → Result Next NoMemory → Type 0
ClaimsTo core new told todo sound result = ComesTo core.layout core.catalog (node_with core todo Outside) sound told new mark.Quiet result

-- it is so where the statement is RECOVER and this is heard
claimed : (core new : Core) (gone : ℕ) (told : Reply) (sound : Heard) (result : Result Next NoMemory) → (present : HasPresent core (λ s. s ≡ bound.Recover gone))
    → hears_manager told ≡ sound
    → (drop (length core.answers.items) core.statements ≡ bound.Recover gone ∷ present.later
    → ClaimsTo core new told (bound.Recover gone ∷ present.later) sound result)
    → ClaimsTo core new told (drop (length core.answers.items) core.statements) (hears_manager told) result
claimed core new gone told sound result present e h =
    let todo_is : drop (length core.answers.items) core.statements ≡ bound.Recover gone ∷ present.later =
    present.todo_is ∙ ap (λ s. s ∷ present.later) present.holds in
    subst (λ todo. ClaimsTo core new told todo (hears_manager told) result) (sym todo_is)
    (subst (λ x. ClaimsTo core new told (bound.Recover gone ∷ present.later) x result) (sym e) (h todo_is))

pub claim_there : (core new : Core) (gone : ℕ) (told : Reply) (result : Result Next NoMemory) → HasPresent core (λ s. s ≡ bound.Recover gone)
    → Some claim.There ≡ claim_heard (hears_manager told) → Leaves core (answer.There gone) new result
    → ComesTo core.layout core.catalog (node_so core Outside) (hears_manager told) told new mark.Quiet result
claim_there core new gone told result present e left =
    claimed core new gone told (Told manager.There) result present (there_told (hears_manager told) (sym e))
    (λ todo_is. left_comes core new (claiming core gone present.later) (Told manager.There) told (bound.Recover gone) present.later (answer.There gone)
    todo_is (leaving_claim core gone present.later) result left)

pub claim_strange : (core : Core) (gone : ℕ) (told : Reply) → HasPresent core (λ s. s ≡ bound.Recover gone)
    → None ≡ claim_heard (hears_manager told)
    → ComesTo core.layout core.catalog (node_so core Outside) (hears_manager told) told core mark.Quiet (Ok next.Strange)
claim_strange core gone told present e =
    claimed core core gone told (hears_manager told) (Ok next.Strange) present refl
    (λ todo_is. (
      record { left = refl; answers = refl },
      ap (λ (m : Node). is_stopped m.doing || false) (stops_claim core.layout (claiming core gone present.later) gone (hears_manager told) (sym e)),
    ))

first_awaits : (now : Phase) (least : ℕ) → now ≡ phase.Finding least → is_awaiting now ≡ true
first_awaits now least e = ap is_awaiting e

pub claim_given : Begins → (core : Core) (gone : ℕ) (also : NodeSet) (told : Reply) (w : Work) → HasPresent core (λ s. s ≡ bound.Recover gone)
    → Some (claim.Given also) ≡ claim_heard (hears_manager told) → Recovers core gone also w
    → ComesTo core.layout core.catalog (node_so core Outside) (hears_manager told) told core mark.Quiet (Ok (next.Goes w))
claim_given law core gone also told (work.Recovers node recover) present e started =
    claimed core core gone told (Told (manager.Given also)) (Ok (next.Goes (work.Recovers node recover))) present
    (given_told (hears_manager told) also (sym e)) (λ todo_is. goes present.later todo_is)
  where
    least : ℕ
    least = started.1.first.0

    all : NodeSet
    all = with_node also gone

    begun : (Recovering (record { node = gone; all = all; left = nodes_in all }) ≡ recovery.doing_of gone all (phase.Finding least))
        × ((settings : Settings) (catalog : Catalog) (node : Node) (statement : Bound)
        → asks_doing settings catalog node statement (recovery.doing_of gone all (phase.Finding least)) ≡ Some (AskManager (home_of settings least) (request.Orphans least)))
    begun = law gone all least started.1.first.1 started.1.first.2

    doing_is : recovery.doing_of node recover.all recover.phase ≡ Recovering (record { node = gone; all = all; left = nodes_in all })
    doing_is = ap (λ n. recovery.doing_of n recover.all recover.phase) started.0
        ∙ ap (λ s. recovery.doing_of gone s recover.phase) started.1.all
        ∙ ap (λ p. recovery.doing_of gone all p) started.1.first.3
        ∙ sym begun.0

    goes : (later : List Bound) → drop (length core.answers.items) core.statements ≡ bound.Recover gone ∷ later
        → ClaimsTo core core told (bound.Recover gone ∷ later) (Told (manager.Given also)) (Ok (next.Goes (work.Recovers node recover)))
    goes later todo_is = record {
      fits = subst (λ todo. FitsAll core todo (work.Recovers node recover)) (sym todo_is)
          (ap (λ n. bound.Recover n) (sym started.0), started.1.layout, first_awaits recover.phase least started.1.first.3);
      not_strange = refl;
      stands = record {
        settings_are = refl;
        catalog_is = refl;
        node_is = same_node (node_at core (work.Recovers node recover))
            (node_with core (bound.Recover gone ∷ later) (Recovering (record { node = gone; all = all; left = nodes_in all })))
            refl todo_is refl refl refl
            (ap (λ todo. doing_so todo (work.Recovers node recover)) todo_is ∙ doing_is);
        ask_is = started.1.first.4
            ∙ ap (asked_by core.layout) (sym (begun.1 core.layout core.catalog
            (node_with core (bound.Recover gone ∷ later) (Recovering (record { node = gone; all = all; left = nodes_in all }))) (bound.Recover gone)))
            ∙ ap (λ d. asked_by core.layout (asks_doing core.layout core.catalog
            (node_with core (bound.Recover gone ∷ later) (Recovering (record { node = gone; all = all; left = nodes_in all }))) (bound.Recover gone) d)) (sym begun.0);
      };
      entries = λ commits. refl;
    }
claim_given law core gone also told (work.Outside o) present e started = absurd started
claim_given law core gone also told (work.Runs r) present e started = absurd started
claim_given law core gone also told (work.Stopped nodes) present e started = absurd started

-- ---- by the parts of the node

pub idles_present : (core : Core) (a : Asked) → IsFit core (work.Outside (outside.Idles a)) → HasPresent core (λ statement. course_outside statement ≡ ToIdle)
idles_present core a fits =
    let p : (statement : Bound) × (later : List Bound) × (drop (length core.answers.items) core.statements ≡ statement ∷ later) × (course_outside statement ≡ ToIdle) =
    present_idle core (drop (length core.answers.items) core.statements) a fits in
    record { statement = p.0; later = p.1; todo_is = p.2; holds = p.3 }

pub idles_after : (core new : Core) (a : Asked) (told : Reply) (result : Result Next NoMemory) → IsFit core (work.Outside (outside.Idles a))
    → ComesTo core.layout core.catalog (node_so core Outside) (hears_manager told) told new mark.Quiet result
    → IsAfter core.layout core.catalog (node_at core (work.Outside (outside.Idles a))) told new mark.Quiet result
idles_after core new a told result fits comes =
    idle_after core new told mark.Quiet result (outside.Idles a) (drop (length core.answers.items) core.statements) fits
    (hears_idling core (drop (length core.answers.items) core.statements) a told fits) comes

pub claims_present : (core : Core) (gone : ℕ) (a : Asked) → IsFit core (work.Outside (outside.Claims gone a)) → HasPresent core (λ statement. statement ≡ bound.Recover gone)
claims_present core gone a fits =
    let p : (statement : Bound) × (later : List Bound) × (drop (length core.answers.items) core.statements ≡ statement ∷ later) × (statement ≡ bound.Recover gone) =
    present_claim core (drop (length core.answers.items) core.statements) gone a fits in
    record { statement = p.0; later = p.1; todo_is = p.2; holds = p.3 }

pub claims_after : (core new : Core) (gone : ℕ) (a : Asked) (told : Reply) (result : Result Next NoMemory) → IsFit core (work.Outside (outside.Claims gone a))
    → ComesTo core.layout core.catalog (node_so core Outside) (hears_manager told) told new mark.Quiet result
    → IsAfter core.layout core.catalog (node_at core (work.Outside (outside.Claims gone a))) told new mark.Quiet result
claims_after core new gone a told result fits comes =
    idle_after core new told mark.Quiet result (outside.Claims gone a) (drop (length core.answers.items) core.statements) fits
    (hears_claiming core (drop (length core.answers.items) core.statements) gone a told fits) comes

-- a transaction that is to begin is one in its first phase
pub begins_fits : (core : Core) (txn : Txn) → IsFit core (work.Outside (outside.Begins txn))
    → IsFit core (work.Runs (record { txn = txn; stage = stage.Fresh; course = course.Begins }))
begins_fits core txn fits = by (drop (length core.answers.items) core.statements) fits
  where
    first : (p : txn_phase.Phase) → p ≡ txn_phases.Asking → IsBeginning p
    first txn_phases.Asking e = tt
    first other e = absurd cc

    by : (todo : List Bound) → FitsAll core todo (work.Outside (outside.Begins txn))
        → FitsAll core todo (work.Runs (record { txn = txn; stage = stage.Fresh; course = course.Begins }))
    by [] f = absurd cc
    by (statement ∷ later) f = record { own = f.1; course = (f.0, first txn.phase f.2) }

pub begins_after : (core new : Core) (txn : Txn) (told : Reply) (m : Mark) (result : Result Next NoMemory)
    → IsAfter core.layout core.catalog (node_at core (work.Runs (record { txn = txn; stage = stage.Fresh; course = course.Begins }))) told new m result
    → IsAfter core.layout core.catalog (node_at core (work.Outside (outside.Begins txn))) told new m result
begins_after core new txn told m result = by (drop (length core.answers.items) core.statements)
  where
    by : (todo : List Bound)
        → IsAfter core.layout core.catalog (node_with core todo (doing_so todo (work.Runs (record { txn = txn; stage = stage.Fresh; course = course.Begins })))) told new m result
        → IsAfter core.layout core.catalog (node_with core todo (doing_so todo (work.Outside (outside.Begins txn)))) told new m result
    by [] h = h
    by (statement ∷ later) h = h

-- a node whose statements are all answered stays as it is
pub done_after : (core : Core) (told : Reply) → IsFit core (work.Outside outside.Done)
    → IsAfter core.layout core.catalog (node_at core (work.Outside outside.Done)) told core mark.Quiet (Ok (next.Goes (work.Outside outside.Done)))
done_after core told fits = by (drop (length core.answers.items) core.statements) refl fits
  where
    by : (todo : List Bound) → drop (length core.answers.items) core.statements ≡ todo → FitsAll core todo (work.Outside outside.Done)
        → IsAfter core.layout core.catalog (node_with core todo (doing_so todo (work.Outside outside.Done))) told core mark.Quiet (Ok (next.Goes (work.Outside outside.Done)))
    by [] e f = record {
      fits = fits;
      not_strange = refl;
      stands = record {
        settings_are = refl;
        catalog_is = refl;
        node_is = ap (λ todo. node_with core todo (doing_so todo (work.Outside outside.Done))) e;
        ask_is = refl;
      };
      entries = λ commits. refl;
    }
    by (statement ∷ later) e f = absurd f

pub idles_so : (core new : Core) (o : TheOutside) (a : Asked) (told : Reply) (result : Result Next NoMemory) → o ≡ outside.Idles a → IsFit core (work.Outside o)
    → ComesTo core.layout core.catalog (node_so core Outside) (hears_manager told) told new mark.Quiet result
    → IsAfter core.layout core.catalog (node_at core (work.Outside o)) told new mark.Quiet result
idles_so core new o a told result e fits comes =
    subst (λ (x : TheOutside). IsAfter core.layout core.catalog (node_at core (work.Outside x)) told new mark.Quiet result) (sym e)
    (idles_after core new a told result (subst (λ (x : TheOutside). IsFit core (work.Outside x)) e fits) comes)

pub claims_so : (core new : Core) (o : TheOutside) (gone : ℕ) (a : Asked) (told : Reply) (result : Result Next NoMemory) → o ≡ outside.Claims gone a
    → IsFit core (work.Outside o) → ComesTo core.layout core.catalog (node_so core Outside) (hears_manager told) told new mark.Quiet result
    → IsAfter core.layout core.catalog (node_at core (work.Outside o)) told new mark.Quiet result
claims_so core new o gone a told result e fits comes =
    subst (λ (x : TheOutside). IsAfter core.layout core.catalog (node_at core (work.Outside x)) told new mark.Quiet result) (sym e)
    (claims_after core new gone a told result (subst (λ (x : TheOutside). IsFit core (work.Outside x)) e fits) comes)
