-- A node that stops at a reply keeps what it owes.
use Rattle.std.proofs.Common.{◌≡◌, ℕ, Bool, true, false, List, [], ◌∷◌, length, drop, Result, Ok, Err, refl, sym, ap, ◌∙◌, subst}
use Rattle.std.specs.Prelude.{if◌then◌else◌}
use Rattle.std.proofs.lemmas.Bool.{or_left}
use Rattle.tl_base.specs.NodeSet.{no_nodes}
use Rattle.tl_base.specs.declared.node.NodeSet.{NodeSet}
use Rattle.tl_base.specs.declared.memory.NoMemory.{NoMemory}
use Rattle.tl_manager.specs.declared.mark.Mark.{Mark}
use Rattle.tl_manager.specs.declared.mark.Mark.TheVariants as mark
use Rattle.tl_manager.specs.declared.request.ManagerReply.TheVariants as manager
use Rattle.tl_manager.specs.declared.request.Reply.{Reply}
use Rattle.tl_isolation.specs.declared.bound.Bound.{Bound}
use Rattle.tl_isolation.specs.declared.bound.Bound.TheVariants as bound
use Rattle.tl_isolation.specs.declared.entry.Answer.TheVariants as answer
use Rattle.tl_isolation.specs.declared.entry.Said.{Said}
use Rattle.tl_protocol.specs.Move.{is_empty}
use Rattle.tl_protocol.specs.World.{Fresh}
use Rattle.tl_protocol.specs.World as protocol
use Rattle.tl_journal.specs.Ask.{Heard, Told, Strange}
use Rattle.tl_journal.specs.Asks.{ToBegin, ToIdle, ToRecover, course_outside}
use Rattle.tl_journal.specs.Memory.{has_said}
use Rattle.tl_journal.specs.Node.{Doing, Outside, Stopped, Node, owed_by}
use Rattle.tl_journal.specs.Says.{says_doing, says_outside}
use Rattle.tl_journal.specs.Strange.{is_stopped, is_strange_to}
use Rattle.tl_journal.specs.Takes.{takes_doing, takes_outside}
use Rattle.tl_journal.proofs.StrangeHeard.{doing_stops}
use Rattle.tl_ask.specs.Hears.{hears_manager}
use Rattle.tl_recover.specs.Doing as recovery
use Rattle.tl_recover.specs.Follows.{is_awaiting}
use Rattle.tl_recover.specs.declared.phase.Phase as lost
use Rattle.tl_recover.specs.declared.phase.Phase.TheVariants as losts
use Rattle.tl_txn.specs.Doing.{doing_of}
use Rattle.tl_txn.specs.declared.phase.Open.{Open}
use Rattle.tl_txn.specs.declared.phase.Phase.{Phase}
use Rattle.tl_txn.specs.declared.phase.Phase.TheVariants as phase
use Rattle.tl_node.specs.After.{Goes, HasStopped, IsAfter, IsHeld, IsTold, IsToldAt, IsToldSo, Says, Stays, hears, may_be_given, owed_left}
use Rattle.tl_node.specs.Fits.{FitsAll, FitsCourse, IsBeginning, IsEnding, IsFit, IsReading, IsReadyWith}
use Rattle.tl_node.specs.Hears.{claim_heard}
use Rattle.tl_node.specs.Owed.{owed_at, owed_next, owed_of_claim}
use Rattle.tl_node.specs.View.{doing_so, node_at, outside_asks, reading_so, running_so, stage_of, value_of, work_asks, work_so}
use Rattle.tl_node.specs.declared.kept.Core.{Core}
use Rattle.tl_node.specs.declared.work.Course.{Course}
use Rattle.tl_node.specs.declared.work.Course.TheVariants as course
use Rattle.tl_node.specs.declared.told.Rest.{Rest}
use Rattle.tl_node.specs.declared.told.Rest.TheVariants as rest
use Rattle.tl_node.specs.declared.work.Next.{Next}
use Rattle.tl_node.specs.declared.work.Next.TheVariants as next
use Rattle.tl_node.specs.declared.work.Outside.{Outside as TheOutside}
use Rattle.tl_node.specs.declared.work.Outside.TheVariants as outside
use Rattle.tl_node.specs.declared.work.Reading.{Reading}
use Rattle.tl_node.specs.declared.work.Stage.{Stage}
use Rattle.tl_node.specs.declared.work.Work.{Work}
use Rattle.tl_node.specs.declared.work.Work.TheVariants as work
use Rattle.tl_node.proofs.Opening.{node_with}
use Rattle.tl_node.proofs.OutsideReplies.{hears_claiming}
use Rattle.tl_node.proofs.Owing.{IsForeign, IsOwn, foreign_keeps, own_keeps}

-- ---- by what a node does

-- what it does is its own, and owes none
abbrev IsFree : Bound → Doing → Type 0
IsFree statement d = IsOwn statement d × (owed_by d ≡ no_nodes)

begin_free : (statement : Bound) (stage : protocol.Stage) (now : Phase) → course_outside statement ≡ ToBegin → IsBeginning now → IsFree statement (doing_of stage now)
begin_free statement stage phase.Asking e h = ((λ gone f. apart (e) f), refl)
  where
    apart : {gone : ℕ} → course_outside statement ≡ ToBegin → course_outside statement ≡ ToRecover gone → ⊥
    apart e f = cc
begin_free statement stage (phase.Noted seen) e h = (tt, refl)
begin_free statement stage (phase.Drawing seen) e h = (tt, refl)
begin_free statement stage (phase.Bringing seen low) e h = (tt, refl)
begin_free statement stage other e h = absurd h

end_free : (statement : Bound) (stage : protocol.Stage) (now : Phase) → IsEnding now → IsFree statement (doing_of stage now)
end_free statement stage (phase.TryingNothing live) h = (tt, refl)
end_free statement stage (phase.GivingUp live) h = (tt, refl)
end_free statement stage (phase.Trying a) h = (tt, refl)
end_free statement stage (phase.Storing s) h = (tt, refl)
end_free statement stage (phase.Removing r) h = (tt, refl)
end_free statement stage (phase.Closing tid d loaded) h = (tt, refl)
end_free statement stage (phase.Ending tid d) h = (tt, refl)
end_free statement stage other h = absurd h

ready_free : (P : Open → Type 0) (statement : Bound) (stage : protocol.Stage) (now : Phase) → IsReadyWith P now → IsFree statement (doing_of stage now)
ready_free P statement stage (phase.Ready live) h = (tt, refl)
ready_free P statement stage other h = absurd h

reads_free : (statement : Bound) (stage : protocol.Stage) (reading : Reading) (now : Phase) → IsReading now → IsFree statement (reading_so statement stage reading now)
reads_free statement stage reading (phase.Reading live r) h = (tt, refl)
reads_free statement stage reading other h = absurd h

course_free : (core : Core) (statement : Bound) (stage : Stage) (now : Phase) (way : Course) → FitsCourse core statement stage now way
    → IsFree statement (running_so statement (stage_of stage) now way)
course_free core statement stage now course.Begins f = begin_free statement Fresh now f.0 f.1
course_free core statement stage now (course.Reads reading) f = reads_free statement (stage_of stage) reading now f.0
course_free core statement stage now (course.Idles a) f = ready_free _ statement (stage_of stage) now f
course_free core statement stage now (course.AsksOther manager a) f = ready_free _ statement (stage_of stage) now f.0
course_free core statement stage now (course.Ends last) f = end_free statement (stage_of stage) now f.0

recovery_owes : (gone : ℕ) (all : NodeSet) (now : lost.Phase) → is_awaiting now ≡ true → owed_by (recovery.doing_of gone all now) ≡ all
recovery_owes gone all (losts.Finding node) e = refl
recovery_owes gone all (losts.ReadingLog o) e = refl
recovery_owes gone all (losts.Stripping o log at loaded) e = refl
recovery_owes gone all (losts.Finishing o committed loaded) e = refl
recovery_owes gone all (losts.EndingLost o) e = refl
recovery_owes gone all losts.Over e = absurd cc
recovery_owes gone all losts.Stopped e = absurd cc

recovery_foreign : (gone : ℕ) (all : NodeSet) (now : lost.Phase) → is_awaiting now ≡ true → IsForeign (recovery.doing_of gone all now)
recovery_foreign gone all (losts.Finding node) e = tt
recovery_foreign gone all (losts.ReadingLog o) e = tt
recovery_foreign gone all (losts.Stripping o log at loaded) e = tt
recovery_foreign gone all (losts.Finishing o committed loaded) e = tt
recovery_foreign gone all (losts.EndingLost o) e = tt
recovery_foreign gone all losts.Over e = absurd cc
recovery_foreign gone all losts.Stopped e = absurd cc

-- ---- what it owes at rest

outside_owes : (statement : Bound) (core : Core) (o : TheOutside) → FitsAll core (statement ∷ []) (work.Outside o) → owed_by (work_so statement (work.Outside o)) ≡ no_nodes
outside_owes statement core outside.Done f = refl
outside_owes statement core (outside.Begins txn) f = ap (λ p. owed_by (doing_of Fresh p)) f.2
outside_owes statement core (outside.Idles a) f = refl
outside_owes statement core (outside.Claims gone a) f = refl

pub owes_now : (core : Core) (w : Work) → IsFit core w → owed_by (node_at core w).doing ≡ owed_at w
owes_now core w fits = by (drop (length core.answers.items) core.statements) w fits
  where
    by : (todo : List Bound) (w : Work) → FitsAll core todo w → owed_by (doing_so todo w) ≡ owed_at w
    by [] (work.Outside o) f = refl
    by [] (work.Runs r) f = absurd f
    by [] (work.Recovers gone recover) f = absurd f
    by [] (work.Stopped nodes) f = absurd f
    by (statement ∷ later) (work.Outside o) f = outside_owes statement core o f
    by (statement ∷ later) (work.Runs r) f = (course_free core statement r.stage r.txn.phase r.course f.course).1
    by (statement ∷ later) (work.Recovers gone recover) f = recovery_owes gone recover.all recover.phase f.2
    by (statement ∷ later) (work.Stopped nodes) f = refl

-- ---- what it owes where it stops at a reply

claim_owes : (core : Core) (gone : ℕ) (later : List Bound) (sound : Heard)
    → (if has_said (says_outside (node_with core (bound.Recover gone ∷ later) Outside) (bound.Recover gone) (ToRecover gone) sound) then no_nodes
    else owed_by (takes_outside core.layout (node_with core (bound.Recover gone ∷ later) Outside) (ToRecover gone) sound).doing) ≡ owed_of_claim gone (claim_heard sound)
claim_owes core gone later (Told manager.There) = refl
claim_owes core gone later (Told (manager.Given also)) = refl
claim_owes core gone later (Told other) = refl
claim_owes core gone later sound = refl

-- by what it hears
abbrev owed_hearing : Work → Heard → NodeSet
owed_hearing (work.Outside (outside.Claims gone a)) sound = owed_of_claim gone (claim_heard sound)
owed_hearing other sound = owed_at other

heard_owing : (core : Core) (w : Work) (sound : Heard) → IsFit core w → is_empty (node_at core w).todo ≡ false
    → owed_left core.layout core.catalog (node_at core w) sound ≡ owed_hearing w sound
heard_owing core w sound fits some = by (drop (length core.answers.items) core.statements) w fits some
  where
    free : (statement : Bound) (later : List Bound) (d : Doing) → IsFree statement d → owed_left core.layout core.catalog (node_with core (statement ∷ later) d) sound ≡ no_nodes
    free statement later d h =
        let n : Node = node_with core (statement ∷ later) d in
        subst (λ x. (if has_said (says_doing core.layout core.catalog [] n statement d sound answer.Begun) then x
        else owed_by (takes_doing core.layout core.catalog n statement d sound answer.Begun).doing) ≡ no_nodes) (sym h.1)
        (own_keeps core.layout core.catalog n statement d sound answer.Begun h.1 h.0)

    foreign : (statement : Bound) (later : List Bound) (d : Doing) → IsForeign d → owed_left core.layout core.catalog (node_with core (statement ∷ later) d) sound ≡ owed_by d
    foreign statement later d h = foreign_keeps core.layout core.catalog (node_with core (statement ∷ later) d) statement d sound answer.Begun refl h

    idle_free : (statement : Bound) → course_outside statement ≡ ToIdle → IsFree statement Outside
    idle_free statement e = ((λ gone f. apart gone e f), refl)
      where
        apart : (gone : ℕ) → course_outside statement ≡ ToIdle → course_outside statement ≡ ToRecover gone → ⊥
        apart gone e f = cc

    by : (todo : List Bound) (w : Work) → FitsAll core todo w → is_empty todo ≡ false
        → owed_left core.layout core.catalog (node_with core todo (doing_so todo w)) sound ≡ owed_hearing w sound
    by [] w f e = absurd cc
    by (statement ∷ later) (work.Outside outside.Done) f e = absurd f
    by (statement ∷ later) (work.Outside (outside.Begins txn)) f e =
        free statement later (doing_of Fresh txn.phase) (subst (λ p. IsFree statement (doing_of Fresh p)) (sym f.2) (begin_free statement Fresh phase.Asking f.0 tt))
    by (statement ∷ later) (work.Outside (outside.Idles a)) f e = free statement later Outside (idle_free statement f)
    by (statement ∷ later) (work.Outside (outside.Claims gone a)) f e =
        subst (λ s. owed_left core.layout core.catalog (node_with core (s ∷ later) Outside) sound ≡ owed_of_claim gone (claim_heard sound)) (sym f)
        (claim_owes core gone later sound)
    by (statement ∷ later) (work.Runs r) f e =
        free statement later (running_so statement (stage_of r.stage) r.txn.phase r.course) (course_free core statement r.stage r.txn.phase r.course f.course)
    by (statement ∷ later) (work.Recovers gone recover) f e =
        foreign statement later (recovery.doing_of gone recover.all recover.phase) (recovery_foreign gone recover.all recover.phase f.2)
        ∙ recovery_owes gone recover.all recover.phase f.2
    by (statement ∷ later) (work.Stopped nodes) f e = foreign statement later (Stopped nodes) tt

pub stops_owing : (core : Core) (w : Work) (told : Reply) → IsFit core w → is_empty (node_at core w).todo ≡ false
    → owed_left core.layout core.catalog (node_at core w) (hears core.layout core.catalog (node_at core w) told) ≡ owed_next w told
stops_owing core w told fits some =
    heard_owing core w (hears core.layout core.catalog (node_at core w) told) fits some ∙ by (drop (length core.answers.items) core.statements) w fits some
  where
    by : (todo : List Bound) (w : Work) → FitsAll core todo w → is_empty todo ≡ false
        → owed_hearing w (hears core.layout core.catalog (node_with core todo (doing_so todo w)) told) ≡ owed_next w told
    by [] w f e = absurd cc
    by (statement ∷ later) (work.Outside outside.Done) f e = absurd f
    by (statement ∷ later) (work.Outside (outside.Begins txn)) f e = refl
    by (statement ∷ later) (work.Outside (outside.Idles a)) f e = refl
    by (statement ∷ later) (work.Outside (outside.Claims gone a)) f e =
        subst (λ s. owed_of_claim gone (claim_heard (hears core.layout core.catalog (node_with core (s ∷ later) Outside) told)) ≡ owed_of_claim gone (claim_heard (hears_manager told))) (sym f)
        (ap (λ sound. owed_of_claim gone (claim_heard sound)) (hears_claiming core (bound.Recover gone ∷ later) gone a told refl))
    by (statement ∷ later) (work.Runs r) f e = refl
    by (statement ∷ later) (work.Recovers gone recover) f e = refl
    by (statement ∷ later) (work.Stopped nodes) f e = refl

-- ---- the node that has stopped

pub has_stopped : (core new : Core) (w : Work) (owed : NodeSet) (told : Reply) → IsFit core w → Stays core new → IsHeld (node_at core w) new → owed ≡ owed_next w told
    → HasStopped core.layout core.catalog (node_at core w) (hears core.layout core.catalog (node_at core w) told) (value_of new (work.Stopped owed))
has_stopped core new w owed told fits stays held e = record {
  number = stays.number;
  answers = held.answers;
  todo = todo_is;
  doing = ap (λ todo. doing_so todo (work.Stopped owed)) todo_is ∙ left (drop (length core.answers.items) core.statements) held.left
      ∙ ap Stopped (e ∙ sym (stops_owing core w told fits held.left));
  ask = refl;
  settings_stay = stays.layout;
  catalog_stays = stays.catalog;
}
  where
    todo_is : drop (length new.answers.items) new.statements ≡ drop (length core.answers.items) core.statements
    todo_is = ap (λ done. drop (length done) new.statements) held.answers ∙ ap (λ all. drop (length core.answers.items) all) stays.statements

    left : (todo : List Bound) → is_empty todo ≡ false → doing_so todo (work.Stopped owed) ≡ Stopped owed
    left [] h = absurd cc
    left (statement ∷ later) h = refl

-- it fits its parts
pub stopped_fits : (core new : Core) (w : Work) (owed : NodeSet) → Stays core new → IsHeld (node_at core w) new → IsFit new (work.Stopped owed)
stopped_fits core new w owed stays held =
    subst (λ todo. FitsAll new todo (work.Stopped owed)) (sym todo_is) (left (drop (length core.answers.items) core.statements) held.left)
  where
    todo_is : drop (length new.answers.items) new.statements ≡ drop (length core.answers.items) core.statements
    todo_is = ap (λ done. drop (length done) new.statements) held.answers ∙ ap (λ all. drop (length core.answers.items) all) stays.statements

    left : (todo : List Bound) → is_empty todo ≡ false → FitsAll new todo (work.Stopped owed)
    left [] h = absurd cc
    left (statement ∷ later) h = tt

-- ---- what is told of the reply

pub told_strange : (core new : Core) (w : Work) (owed : NodeSet) (told : Reply) (m : Mark) → IsFit core w → Stays core new → owed ≡ owed_next w told
    → IsAfter core.layout core.catalog (node_at core w) told new m (Ok next.Strange)
    → IsToldSo (value_of core w) told (value_of new (work.Stopped owed)) mark.Quiet rest.Strange
told_strange core new w owed told m fits stays e after = (has_stopped core new w owed told fits stays after.0 e, after.1, refl)

pub told_wants : (core new : Core) (w : Work) (owed : NodeSet) (told : Reply) (m : Mark) (fault : NoMemory) → IsFit core w → Stays core new → owed ≡ owed_next w told
    → IsAfter core.layout core.catalog (node_at core w) told new m (Err fault)
    → IsToldSo (value_of core w) told (value_of new (work.Stopped owed)) m rest.NoMemory
told_wants core new w owed told m fault fits stays e after = (has_stopped core new w owed told fits stays after.0 e, after.1)

pub told_goes : (core new : Core) (w v : Work) (told : Reply) (m : Mark) → IsAfter core.layout core.catalog (node_at core w) told new m (Ok (next.Goes v))
    → IsToldSo (value_of core w) told (value_of new v) m rest.Going
told_goes core new w v told m after = (after.not_strange, after.stands, after.entries)

pub told_says : (core new : Core) (w v : Work) (told : Reply) (m : Mark) (said : Said) → IsAfter core.layout core.catalog (node_at core w) told new m (Ok (next.Says v said))
    → IsToldSo (value_of core w) told (value_of new v) m (rest.Said said)
told_says core new w v told m said after = (after.not_strange, after.so)

-- a stopped node stays so
pub stopped_after : (core : Core) (nodes : NodeSet) (told : Reply) → IsFit core (work.Stopped nodes)
    → IsAfter core.layout core.catalog (node_at core (work.Stopped nodes)) told core mark.Quiet (Ok next.Strange)
stopped_after core nodes told fits = by (drop (length core.answers.items) core.statements) fits
  where
    by : (todo : List Bound) → FitsAll core todo (work.Stopped nodes)
        → IsAfter core.layout core.catalog (node_with core todo (doing_so todo (work.Stopped nodes))) told core mark.Quiet (Ok next.Strange)
    by [] f = absurd f
    by (statement ∷ later) f = (record { left = refl; answers = refl }, refl)

pub stopped_so : (core : Core) (w : Work) (nodes : NodeSet) (told : Reply) → w ≡ work.Stopped nodes → IsFit core w
    → IsAfter core.layout core.catalog (node_at core w) told core mark.Quiet (Ok next.Strange)
stopped_so core w nodes told e fits =
    subst (λ (x : Work). IsAfter core.layout core.catalog (node_at core x) told core mark.Quiet (Ok next.Strange)) (sym e)
    (stopped_after core nodes told (subst (λ (x : Work). IsFit core x) e fits))

-- ---- where this is the result

module _ (core new : Core) (w : Work) (told : Reply) (m : Mark) (result : Result Next NoMemory)
    (after : IsAfter core.layout core.catalog (node_at core w) told new m result) where
  after_so : (r : Result Next NoMemory) → result ≡ r → IsAfter core.layout core.catalog (node_at core w) told new m r
  after_so r e = subst (λ (x : Result Next NoMemory). IsAfter core.layout core.catalog (node_at core w) told new m x) e after

  pub goes_told : (v : Work) → result ≡ Ok (next.Goes v) → IsToldSo (value_of core w) told (value_of new v) m rest.Going
  goes_told v e = told_goes core new w v told m (after_so (Ok (next.Goes v)) e)

  pub goes_fits : (v : Work) → result ≡ Ok (next.Goes v) → IsFit new v
  goes_fits v e = let a : Goes core.layout core.catalog (node_at core w) (hears core.layout core.catalog (node_at core w) told) told m new v = after_so (Ok (next.Goes v)) e in a.fits

  pub says_told : (v : Work) (said : Said) → result ≡ Ok (next.Says v said) → IsToldSo (value_of core w) told (value_of new v) m (rest.Said said)
  says_told v said e = told_says core new w v told m said (after_so (Ok (next.Says v said)) e)

  pub says_fits : (v : Work) (said : Said) → result ≡ Ok (next.Says v said) → IsFit new v
  says_fits v said e =
      let a : Says core.layout core.catalog (node_at core w) (hears core.layout core.catalog (node_at core w) told) told m new v said = after_so (Ok (next.Says v said)) e in a.fits

  pub strange_told : (owed : NodeSet) → IsFit core w → Stays core new → owed ≡ owed_next w told → result ≡ Ok next.Strange
      → IsToldSo (value_of core w) told (value_of new (work.Stopped owed)) mark.Quiet rest.Strange
  strange_told owed fits stays e f = told_strange core new w owed told m fits stays e (after_so (Ok next.Strange) f)

  pub strange_fits : (owed : NodeSet) → Stays core new → result ≡ Ok next.Strange → IsFit new (work.Stopped owed)
  strange_fits owed stays f = stopped_fits core new w owed stays (after_so (Ok next.Strange) f).0

  pub wants_told : (owed : NodeSet) (fault : NoMemory) → IsFit core w → Stays core new → owed ≡ owed_next w told → result ≡ Err fault
      → IsToldSo (value_of core w) told (value_of new (work.Stopped owed)) m rest.NoMemory
  wants_told owed fault fits stays e f = told_wants core new w owed told m fault fits stays e (after_so (Err fault) f)

  pub wants_fits : (owed : NodeSet) (fault : NoMemory) → Stays core new → result ≡ Err fault → IsFit new (work.Stopped owed)
  wants_fits owed fault stays f = stopped_fits core new w owed stays (after_so (Err fault) f).0

-- ---- where no place gives the stamp of the reply to the request

-- a node that hears this has stopped
strange_at : (core : Core) (w : Work) → is_empty (node_at core w).todo ≡ false → is_strange_to core.layout core.catalog (node_at core w) Strange ≡ true
strange_at core w some = by (drop (length core.answers.items) core.statements) some
  where
    stops : (later : List Bound) (statement : Bound) (d : Doing)
        → is_stopped (takes_doing core.layout core.catalog (node_with core (statement ∷ later) d) statement d Strange answer.Begun).doing ≡ true
    stops later statement (Stopped nodes) = refl
    stops later statement d = doing_stops core.layout core.catalog (node_with core (statement ∷ later) d) answer.Begun statement d refl

    by : (todo : List Bound) → is_empty todo ≡ false → is_strange_to core.layout core.catalog (node_with core todo (doing_so todo w)) Strange ≡ true
    by [] e = absurd cc
    by (statement ∷ later) e = or_left _ _ (stops later statement (work_so statement w))

-- it asks, so a statement is left
asks_left : (core : Core) (w : Work) (told : Reply) → IsFit core w → may_be_given (work_asks w) told ≡ false → is_empty (node_at core w).todo ≡ false
asks_left core w told fits refused = by (drop (length core.answers.items) core.statements) w fits refused
  where
    by : (todo : List Bound) (w : Work) → FitsAll core todo w → may_be_given (work_asks w) told ≡ false → is_empty todo ≡ false
    by [] (work.Outside o) f e = absurd (asks_none o f e)
      where
        asks_none : (o : TheOutside) → o ≡ outside.Done → may_be_given (outside_asks o) told ≡ false → ⊥
        asks_none o f e = let g : may_be_given (outside_asks outside.Done) told ≡ false = subst (λ (x : TheOutside). may_be_given (outside_asks x) told ≡ false) f e in cc
    by [] (work.Runs r) f e = absurd f
    by [] (work.Recovers gone recover) f e = absurd f
    by [] (work.Stopped nodes) f e = absurd f
    by (statement ∷ later) w f e = refl

-- what it owes is what it was to recover
owes_at : (w : Work) → owed_hearing w Strange ≡ owed_at w
owes_at (work.Outside outside.Done) = refl
owes_at (work.Outside (outside.Begins txn)) = refl
owes_at (work.Outside (outside.Idles a)) = refl
owes_at (work.Outside (outside.Claims gone a)) = refl
owes_at (work.Runs r) = refl
owes_at (work.Recovers gone recover) = refl
owes_at (work.Stopped nodes) = refl

pub refused_told : (core : Core) (w : Work) (told : Reply) → IsFit core w → may_be_given (work_asks w) told ≡ false
    → IsTold (value_of core w) told (value_of core (work.Stopped (owed_at w))) mark.Quiet rest.Strange
refused_told core w told fits refused =
    subst (λ (b : Bool). IsToldAt (value_of core w) (if b then hears core.layout core.catalog (node_at core w) told else Strange) told (value_of core (work.Stopped (owed_at w))) mark.Quiet rest.Strange)
    (sym refused) (
      record {
        number = refl;
        answers = refl;
        todo = refl;
        doing = left (drop (length core.answers.items) core.statements) some ∙ ap Stopped (sym (heard_owing core w Strange fits some ∙ owes_at w));
        ask = refl;
        settings_stay = refl;
        catalog_stays = refl;
      },
      strange_at core w some,
      refl,
    )
  where
    some : is_empty (node_at core w).todo ≡ false
    some = asks_left core w told fits refused

    left : (todo : List Bound) → is_empty todo ≡ false → doing_so todo (work.Stopped (owed_at w)) ≡ Stopped (owed_at w)
    left [] h = absurd cc
    left (statement ∷ later) h = refl

pub refused_fits : (core : Core) (w : Work) (told : Reply) → IsFit core w → may_be_given (work_asks w) told ≡ false → IsFit core (work.Stopped (owed_at w))
refused_fits core w told fits refused = left (drop (length core.answers.items) core.statements) (asks_left core w told fits refused)
  where
    left : (todo : List Bound) → is_empty todo ≡ false → FitsAll core todo (work.Stopped (owed_at w))
    left [] h = absurd cc
    left (statement ∷ later) h = tt

-- one whose stamp may be
pub given_told : (core new : Core) (w v : Work) (told : Reply) (m : Mark) (r : Rest) → may_be_given (work_asks w) told ≡ true
    → IsToldSo (value_of core w) told (value_of new v) m r → IsTold (value_of core w) told (value_of new v) m r
given_told core new w v told m r given h =
    subst (λ (b : Bool). IsToldAt (value_of core w) (if b then hears core.layout core.catalog (node_at core w) told else Strange) told (value_of new v) m r) (sym given) h
