-- What a turn of a node comes to.
use Rattle.std.proofs.Common.{◌≡◌, ◌⊎◌, ℕ, ◌<◌, ◌≤◌, Bool, true, false, List, [], ◌∷◌, ◌++◌, length, Option, Some, None, append-nil, refl, sym, ap, ◌∙◌, subst, inl, inr, arith}
use Rattle.std.specs.Prelude.{nat_le, not, ◌&&◌, ◌||◌}
use Rattle.std.proofs.lemmas.Bool.Decides.{nat_tests}
use Rattle.std.proofs.lemmas.Bool.{and_from, and_left, le-leb, not-false, not-true, or_left}
use Rattle.tl_base.specs.declared.place.Settings.{Settings}
use Rattle.tl_isolation.specs.declared.entry.Ending.{Ending}
use Rattle.tl_isolation.specs.declared.entry.Ending.TheVariants as ending_of
use Rattle.tl_isolation.specs.declared.script.Script.{Script}
use Rattle.tl_isolation.specs.declared.script.Session.{Session}
use Rattle.tl_isolation.specs.Script.{answers_by}
use Rattle.tl_protocol.specs.Move.{is_empty}
use Rattle.tl_journal.specs.declared.event.Event.{Event}
use Rattle.tl_journal.specs.Journal.{entries_told, has_vanished, node_after, session_of}
use Rattle.tl_journal.specs.Law.{IsRun}
use Rattle.tl_journal.specs.Schedule.{EndsSo, MayAsk, gave_none, is_done, is_due, is_over, is_spent, owes_notice, requests_of, was_cut}
use Rattle.tl_journal.specs.Strange.{is_stopped}
use Rattle.tl_node.specs.View.{NodeValue}
use Rattle.tl_world.specs.declared.world.Turned.TheVariants as turned
use Rattle.tl_world.specs.Slot.{answered, has_more}
use Rattle.tl_world.specs.Stands.{EndingsStand, HasSlot, IsNode, IsRunning, IsRunningBut, MayEnd, SlotValue, Stands, StandsBut, StandsOn, WorldValue, slot_of}
use Rattle.tl_world.specs.Turns.{Ends, Goes, GoesOn, IsDirect, TurnsTo, VanishesTo, due_by, is_there}
use Rattle.tl_world.proofs.Dues.{answered_is, done_is, due_is, made_is, over_gone, over_none}
use Rattle.tl_world.proofs.Known.{has_session, stands_but}
use Rattle.tl_world.proofs.Others.{run_of}
use Rattle.tl_world.proofs.Settling.{after_both, after_notice, after_request, may_end, owes_none, owes_one}
use Rattle.tl_world.proofs.Stand.{there_is}

true_false : true ≡ false → ⊥
true_false e = cc

false_true : false ≡ true → ⊥
false_true e = cc

-- it runs, and has more to do
pub more_there : (o : Option NodeValue) → has_more o ≡ true → (v : NodeValue) × (o ≡ Some v)
more_there None e = absurd (false_true e)
more_there (Some v) e = (v, refl)

right_false : (a b : Bool) → b ≡ false → (a && b) ≡ false
right_false true b e = e
right_false false b e = refl

-- a node is over where it has answered all or has vanished
or_as : (a b c : Bool) → a ≡ c → b ≡ false → (a || b) ≡ not (not c)
or_as true b true e f = refl
or_as true b false e f = absurd (true_false e)
or_as false b true e f = absurd (false_true e)
or_as false b false e f = f

not_reached : (n m : ℕ) → m < n → nat_le n m ≡ false
not_reached n m h = grind (arith, nat_tests)

or_third : (a b c : Bool) → c ≡ true → (a || (b || c)) ≡ true
or_third true b c e = refl
or_third false true c e = refl
or_third false false c e = e

-- ---- by what a slot has

module _ (script : Script) (w : WorldValue) (s : StandsOn script w) (number : ℕ) where
  -- there is no such node
  pub none_so : slot_of w.slots number ≡ None → is_over script w.events number ≡ true
  none_so e = over_none script w (IsRunning script w.settings w.events) s number e

  pub none_answered : slot_of w.slots number ≡ None → is_over script w.events number ≡ false → ⊥
  none_answered e h = true_false (sym (none_so e) ∙ h)

  module _ (slot : SlotValue) (was : slot_of w.slots number ≡ Some slot) where
    pub nothing_left : (o : Option NodeValue) → slot.node ≡ o → has_more o ≡ false → is_over script w.events number ≡ true
    nothing_left None e h = over_gone script w (IsRunning script w.settings w.events) s number slot was e
    nothing_left (Some v) e h =
        or_left (is_done script w.events number) (has_vanished w.events number)
        (done_is script w s number slot v was e ∙ not-false (is_empty v.node.todo) h)

    -- a node that runs hasn't vanished, and wanted no memory
    pub runs_on : (v : NodeValue) → slot.node ≡ Some v → has_vanished w.events number ≡ false
    runs_on v e =
        let k = has_session (IsRunning script w.settings w.events) script w s number slot was in
        let known = there_is (IsRunning script w.settings w.events k.session) w.events k.session.node slot.node v k.is_slot.node_is e in
        subst (λ i. has_vanished w.events i ≡ false) k.own known.0

    pub uncut : (v : NodeValue) → slot.node ≡ Some v → was_cut script w.settings w.events number ≡ false
    uncut v e =
        let k = has_session (IsRunning script w.settings w.events) script w s number slot was in
        let known = there_is (IsRunning script w.settings w.events k.session) w.events k.session.node slot.node v k.is_slot.node_is e in
        of_session k.session k.is_session known.1.goes_on
      where
        of_session : (session : Session) → session_of script number ≡ Some session → is_stopped (node_after w.settings script w.events session).doing ≡ false
            → was_cut script w.settings w.events number ≡ false
        of_session session e h = rw e h

    -- so no more turns are its own
    pub over_so : is_over script w.events number ≡ not (has_more slot.node)
    over_so = by slot.node refl
      where
        by : (o : Option NodeValue) → slot.node ≡ o → is_over script w.events number ≡ not (has_more o)
        by None e = over_gone script w (IsRunning script w.settings w.events) s number slot was e
        by (Some v) e =
            or_as (is_done script w.events number) (has_vanished w.events number) (is_empty v.node.todo) (done_is script w s number slot v was e)
            (runs_on v e)

    -- how many statements it has answered
    pub answered_so : is_over script w.events number ≡ false → answered slot.node ≡ length (answers_by number (entries_told w.events))
    answered_so h = by slot.node refl
      where
        by : (o : Option NodeValue) → slot.node ≡ o → answered o ≡ length (answers_by number (entries_told w.events))
        by None e = absurd (true_false (sym (over_gone script w (IsRunning script w.settings w.events) s number slot was e) ∙ h))
        by (Some v) e = answered_is script w s number slot v was e

    not_done : (o : Option NodeValue) → slot.node ≡ o → has_more o ≡ true → is_done script w.events number ≡ false
    not_done None e h = absurd (false_true h)
    not_done (Some v) e h = done_is script w s number slot v was e ∙ not-true (is_empty v.node.todo) h

    pub left_to_do : has_more slot.node ≡ true → is_done script w.events number ≡ false
    left_to_do h = not_done slot.node refl h

    pub due_so : is_due script w.events number ≡ due_by slot.vanish slot.counted
    due_so = due_is script w (IsRunning script w.settings w.events) s number slot was

    pub made_so : slot.made ≡ length (requests_of number w.events)
    made_so = made_is script w (IsRunning script w.settings w.events) s number slot was

    pub spent_so : has_more slot.node ≡ true → w.settings.budget ≤ slot.made → is_spent script w.settings w.events number ≡ true
    spent_so more used =
        let v = more_there slot.node more in
        and_from (nat_le w.settings.budget (length (requests_of number w.events)))
        (not (is_done script w.events number) && not (was_cut script w.settings w.events number))
        (le-leb w.settings.budget (length (requests_of number w.events)) (subst (λ k. w.settings.budget ≤ k) made_so used))
        (and_from (not (is_done script w.events number)) (not (was_cut script w.settings w.events number)) (ap not (left_to_do more)) (ap not (uncut v.0 v.1)))

    done_so : (v : NodeValue) → slot.node ≡ Some v → has_more slot.node ≡ false → not (is_done script w.events number) ≡ false
    done_so v e h =
        let k : not (is_empty v.node.todo) ≡ false = ap has_more (sym e) ∙ h in
        ap not (done_is script w s number slot v was e ∙ not-false (is_empty v.node.todo) k)

    pub not_spent : (v : NodeValue) → slot.node ≡ Some v → (has_more slot.node ≡ false) ⊎ (slot.made < w.settings.budget)
        → is_spent script w.settings w.events number ≡ false
    not_spent v e (inl h) =
        right_false (nat_le w.settings.budget (length (requests_of number w.events)))
        (not (is_done script w.events number) && not (was_cut script w.settings w.events number))
        (and_left (not (is_done script w.events number)) (not (was_cut script w.settings w.events number)) (done_so v e h))
    not_spent v e (inr h) =
        and_left (nat_le w.settings.budget (length (requests_of number w.events)))
        (not (is_done script w.events number) && not (was_cut script w.settings w.events number))
        (not_reached w.settings.budget (length (requests_of number w.events)) (subst (λ k. k < w.settings.budget) made_so h))

-- the endings stand so in another world of these events
endings_so : (script : Script) (w new : WorldValue) (events : List Event) → new.settings ≡ w.settings → new.events ≡ events → EndingsStand script w.settings events
    → EndingsStand script new.settings new.events
endings_so script w new events same is h =
    subst (λ (x : Settings). EndingsStand script x new.events) (sym same) (subst (λ (es : List Event). EndingsStand script w.settings es) (sym is) h)

-- ---- a turn

module _ (script : Script) (w : WorldValue) (s : Stands script w) (number : ℕ) where
  run : IsRun script w.settings w.events
  run = run_of script w (IsRunning script w.settings w.events) s.on

  -- there is no such node
  pub none_over : slot_of w.slots number ≡ None → Stands script w × TurnsTo script number w turned.Done w
  none_over e = (s, (refl, none_so script w s.on number e))

  module _ (slot : SlotValue) (was : slot_of w.slots number ≡ Some slot) where
    -- nothing is left for it to do
    pub is_over_so : has_more slot.node ≡ false → Stands script w × TurnsTo script number w turned.Done w
    is_over_so h = (s, (refl, nothing_left script w s.on number slot was slot.node refl h))

    -- ---- it ends without a request

    after_end : (ending : Ending) (new : WorldValue) → Ends script number ending w new → MayEnd script w.settings w.events number ending → Stands script new
    after_end ending new h may = record {
      on = h.stands;
      endings = endings_so script w new (w.events ++ h.event ∷ []) h.settings h.events
          (after_notice script w.settings w.events h.event number ending s.endings run h.notice may);
    }

    ends_at : (ending : Ending) (new : WorldValue) → Ends script number ending w new → EndsSo script w.settings w.events number ending
        → Stands script new × TurnsTo script number w (turned.Ended ending) new
    ends_at ending new h so = (
      after_end ending new h (may_end script w.settings w.events number ending so),
      (h.settings, [], h.event, h.events ∙ ap (λ es. es ++ h.event ∷ []) (sym (append-nil w.events)), so, h.notice),
    )

    pub ends_due : due_by slot.vanish slot.counted ≡ true → (new : WorldValue) → Ends script number ending_of.Vanished w new
        → Stands script new × TurnsTo script number w (turned.Ended ending_of.Vanished) new
    ends_due due new h = ends_at ending_of.Vanished new h (due_so script w s.on number slot was ∙ due)

    pub ends_spent : has_more slot.node ≡ true → due_by slot.vanish slot.counted ≡ false → w.settings.budget ≤ slot.made → (new : WorldValue)
        → Ends script number ending_of.Spent w new → Stands script new × TurnsTo script number w (turned.Ended ending_of.Spent) new
    ends_spent more due used new h =
        ends_at ending_of.Spent new h (due_so script w s.on number slot was ∙ due, spent_so script w s.on number slot was more used)

    within : slot.made < w.settings.budget → length (requests_of number w.events) < w.settings.budget
    within few = subst (λ k. k < w.settings.budget) (made_so script w s.on number slot was) few

    pub ends_wanting : has_more slot.node ≡ true → due_by slot.vanish slot.counted ≡ false → slot.made < w.settings.budget → (new : WorldValue)
        → Ends script number ending_of.OutOfMemory w new → Stands script new × TurnsTo script number w (turned.Ended ending_of.OutOfMemory) new
    ends_wanting more due few new h =
        ends_at ending_of.OutOfMemory new h
        (due_so script w s.on number slot was ∙ due, left_to_do script w s.on number slot was more, inr (within few))

    -- ---- it makes a request

    module _ (more : has_more slot.node ≡ true) (due : due_by slot.vanish slot.counted ≡ false) (few : slot.made < w.settings.budget)
        (mid : WorldValue) (wants : Bool) (g : Goes script number w wants mid) (after : SlotValue) (is : slot_of mid.slots number ≡ Some after) where
      may_ask : MayAsk script w.settings w.events number
      may_ask = (due_so script w s.on number slot was ∙ due, within few)

      mid_due : is_due script mid.events number ≡ due_by after.vanish after.counted
      mid_due = by wants g.on
        where
          by : (b : Bool) → GoesOn script number w b mid → is_due script mid.events number ≡ due_by after.vanish after.counted
          by false h = due_is script mid (IsRunning script mid.settings mid.events) h number after is
          by true h = due_is script mid (IsRunningBut number script mid.settings mid.events) h.0 number after is

      -- whatever comes of it, it may vanish then
      pub may_vanish : StandsBut number script mid
      may_vanish = by wants g.on
        where
          by : (b : Bool) → GoesOn script number w b mid → StandsBut number script mid
          by false h = stands_but script mid h number
          by true h = h.0

      mid_run : IsRun script w.settings (w.events ++ g.event ∷ [])
      mid_run =
          subst (λ (x : Settings). IsRun script x (w.events ++ g.event ∷ [])) g.settings
          (subst (λ (es : List Event). IsRun script mid.settings es) g.events (run_of script mid (IsRunningBut number script mid.settings mid.events) may_vanish))

      -- its notice is owed, for any of these
      mid_owes : (is_due script (w.events ++ g.event ∷ []) number
          || (was_cut script w.settings (w.events ++ g.event ∷ []) number || is_spent script w.settings (w.events ++ g.event ∷ []) number)) ≡ true
          → owes_notice script w.settings (w.events ++ g.event ∷ []) number ≡ true
      mid_owes any =
          let v = more_there slot.node more in
          owes_one script w.settings w.events g.event number g.request (runs_on script w s.on number slot was v.0 v.1) any

      ends_behind : (ending : Ending) (new : WorldValue) → Ends script number ending mid new → EndsSo script w.settings (w.events ++ g.event ∷ []) number ending
          → IsDirect script w.settings (w.events ++ g.event ∷ []) number ending → Stands script new × TurnsTo script number w (turned.Ended ending) new
      ends_behind ending new h so direct =
          let events : new.events ≡ (w.events ++ g.event ∷ []) ++ h.event ∷ [] = h.events ∙ ap (λ es. es ++ h.event ∷ []) g.events in (
            record {
              on = h.stands;
              endings = endings_so script w new ((w.events ++ g.event ∷ []) ++ h.event ∷ []) (h.settings ∙ g.settings) events
                  (after_both script w.settings w.events g.event h.event number ending s.endings run mid_run g.request may_ask h.notice so);
            },
            (h.settings ∙ g.settings, g.event ∷ [], h.event, events, (g.request, may_ask, so, direct), h.notice),
          )

      due_then : due_by after.vanish after.counted ≡ true → is_due script (w.events ++ g.event ∷ []) number ≡ true
      due_then d = ap (λ (es : List Event). is_due script es number) (sym g.events) ∙ mid_due ∙ d

      pub not_due_then : due_by after.vanish after.counted ≡ false → is_due script (w.events ++ g.event ∷ []) number ≡ false
      not_due_then d = ap (λ (es : List Event). is_due script es number) (sym g.events) ∙ mid_due ∙ d

      pub then_due : due_by after.vanish after.counted ≡ true → (new : WorldValue) → Ends script number ending_of.Vanished mid new
          → Stands script new × TurnsTo script number w (turned.Ended ending_of.Vanished) new
      then_due d new h = ends_behind ending_of.Vanished new h (due_then d) (inl (mid_owes (or_left _ _ (due_then d))))

      pub then_wanting : wants ≡ true → due_by after.vanish after.counted ≡ false → (new : WorldValue) → Ends script number ending_of.OutOfMemory mid new
          → Stands script new × TurnsTo script number w (turned.Ended ending_of.OutOfMemory) new
      then_wanting e d new h =
          let on = subst (λ b. GoesOn script number w b mid) e g.on in
          let none : gave_none number (w.events ++ g.event ∷ []) ≡ true = ap (gave_none number) (sym g.events) ∙ on.2 in
          let left : is_done script (w.events ++ g.event ∷ []) number ≡ false =
          ap (λ (es : List Event). is_done script es number) (sym g.events) ∙ on.1 ∙ left_to_do script w s.on number slot was more in
          ends_behind ending_of.OutOfMemory new h (not_due_then d, left, inl none) (inr (refl, none))

-- it has made its request, and goes on
module _ (script : Script) (w : WorldValue) (s : Stands script w) (number : ℕ) (slot : SlotValue) (was : slot_of w.slots number ≡ Some slot)
    (more : has_more slot.node ≡ true) (due : due_by slot.vanish slot.counted ≡ false) (few : slot.made < w.settings.budget)
    (mid : WorldValue) (g : Goes script number w false mid) (after : SlotValue) (is : slot_of mid.slots number ≡ Some after) where
  here : (P : Settings → List Event → Type 0) → P mid.settings mid.events → P w.settings (w.events ++ g.event ∷ [])
  here P h = subst (λ (x : Settings). P x (w.events ++ g.event ∷ [])) g.settings (subst (λ (es : List Event). P mid.settings es) g.events h)

  pub then_spent : has_more after.node ≡ true → due_by after.vanish after.counted ≡ false → mid.settings.budget ≤ after.made → (new : WorldValue)
      → Ends script number ending_of.Spent mid new → Stands script new × TurnsTo script number w (turned.Ended ending_of.Spent) new
  then_spent m d used new h =
      let un = not_due_then script w s number slot was more due few mid false g after is d in
      let spent : is_spent script w.settings (w.events ++ g.event ∷ []) number ≡ true =
      here (λ x es. is_spent script x es number ≡ true) (spent_so script mid g.on number after is m used) in
      ends_behind script w s number slot was more due few mid false g after is ending_of.Spent new h (un, spent)
      (inl (mid_owes script w s number slot was more due few mid false g after is (or_third _ _ _ spent)))

  pub went : (v : NodeValue) → after.node ≡ Some v → due_by after.vanish after.counted ≡ false → (has_more after.node ≡ false) ⊎ (after.made < mid.settings.budget)
      → Stands script mid × TurnsTo script number w turned.Went mid
  went v there d h =
      let un = not_due_then script w s number slot was more due few mid false g after is d in
      let whole : was_cut script w.settings (w.events ++ g.event ∷ []) number ≡ false =
      here (λ x es. was_cut script x es number ≡ false) (uncut script mid g.on number after is v there) in
      let unspent : is_spent script w.settings (w.events ++ g.event ∷ []) number ≡ false =
      here (λ x es. is_spent script x es number ≡ false) (not_spent script mid g.on number after is v there h) in
      let may = may_ask script w s number slot was more due few mid false g after is in (
        record {
          on = g.on;
          endings = endings_so script w mid (w.events ++ g.event ∷ []) g.settings g.events
              (after_request script w.settings w.events g.event number s.endings (run script w s number) g.request may
              (owes_none script w.settings (w.events ++ g.event ∷ []) number un whole unspent));
        },
        (
          g.settings,
          g.event,
          g.events,
          g.request,
          may,
          ap (λ (es : List Event). is_due script es number) g.events ∙ un,
          ap (λ (es : List Event). was_cut script w.settings es number) g.events ∙ whole,
          ap (λ (es : List Event). is_spent script w.settings es number) g.events ∙ unspent,
        ),
      )

-- ---- a node vanishes

module _ (script : Script) (w : WorldValue) (s : Stands script w) (number : ℕ) where
  -- there is no such node
  pub none_to_vanish : slot_of w.slots number ≡ None → Stands script w × VanishesTo script number w false w
  none_to_vanish e = (s, (by (session_of script number) refl (subst (λ o. HasSlot (IsRunning script w.settings w.events) script w.events (session_of script number) o) e (s.on.slots number)), refl))
    where
      by : (o : Option Session) → session_of script number ≡ o → HasSlot (IsRunning script w.settings w.events) script w.events o None
          → is_there script w.events number ≡ false
      by None f h = rw f refl
      by (Some session) f h = absurd h

  there_so : (session : Session) (b : Bool) → session_of script number ≡ Some session → has_vanished w.events number ≡ b → is_there script w.events number ≡ not b
  there_so session b e f = rw e (ap not f)

  module _ (slot : SlotValue) (was : slot_of w.slots number ≡ Some slot) where
    -- it has vanished already
    pub gone_to_vanish : slot.node ≡ None → Stands script w × VanishesTo script number w false w
    gone_to_vanish gone =
        let k = has_session (IsRunning script w.settings w.events) script w s.on number slot was in
        let v : has_vanished w.events k.session.node ≡ true =
        subst (λ o. IsNode (IsRunning script w.settings w.events k.session) w.events k.session.node o) gone k.is_slot.node_is in
        (s, (there_so k.session true k.is_session (subst (λ i. has_vanished w.events i ≡ true) k.own v), refl))

    pub vanishes : (v : NodeValue) → slot.node ≡ Some v → (new : WorldValue) → Ends script number ending_of.Vanished w new
        → Stands script new × VanishesTo script number w true new
    vanishes v there new h =
        let k = has_session (IsRunning script w.settings w.events) script w s.on number slot was in (
          after_end script w s number slot was ending_of.Vanished new h (inr (s.endings.settled number)),
          (there_so k.session false k.is_session (runs_on script w s.on number slot was v there), (h.settings, h.event, h.events, h.notice)),
        )
