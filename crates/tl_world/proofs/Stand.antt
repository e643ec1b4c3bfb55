-- After a request, and after a death notice, a world stands where its events lead.
use Rattle.std.proofs.Common.{◌≡◌, ℕ, ◌+◌, ◌<◌, Bool, true, false, List, [], ◌∷◌, ◌++◌, length, Option, Some, refl, sym, ap, ◌∙◌, subst, inl, inr}
use Rattle.std.specs.Prelude.{◌==◌, ◌&&◌, ◌||◌, ◌^◌, not}
use Rattle.std.specs.List.{AllByRecursion}
use Rattle.std.proofs.lemmas.Bool.{eq-eqb, or_right}
use Rattle.tl_lemmas.proofs.Lists.{all_push}
use Rattle.tl_base.specs.declared.place.PlaceId.TheVariants as place
use Rattle.tl_manager.specs.declared.mark.Mark.{Mark}
use Rattle.tl_manager.specs.declared.request.ManagerRequest.{ManagerRequest}
use Rattle.tl_manager.specs.declared.request.ManagerRequest.TheVariants as asked_of
use Rattle.tl_manager.specs.declared.request.Reply.{Reply}
use Rattle.tl_manager.specs.declared.request.Request.TheVariants as request_of
use Rattle.tl_isolation.specs.declared.entry.Ending.{Ending}
use Rattle.tl_isolation.specs.declared.entry.Entry.{Entry}
use Rattle.tl_isolation.specs.declared.entry.Entry.TheVariants as entry
use Rattle.tl_isolation.specs.declared.entry.Said.{Said}
use Rattle.tl_isolation.specs.declared.script.Script.{Script}
use Rattle.tl_isolation.specs.declared.script.Session.{Session}
use Rattle.tl_isolation.specs.History.{state_after}
use Rattle.tl_isolation.specs.Script.{setup_of}
use Rattle.tl_journal.specs.declared.event.Event.{Event}
use Rattle.tl_journal.specs.Ask.{Ask}
use Rattle.tl_journal.specs.Asks.{asks}
use Rattle.tl_journal.specs.Bytes.{home_of, place_of, written}
use Rattle.tl_journal.specs.Journal.{AreServed, IsCall, IsEvent, IsPost, entries_told, has_vanished, is_post, node_after, posts}
use Rattle.tl_journal.specs.Law.{IsRun}
use Rattle.tl_journal.specs.Node.{Node, owed_by}
use Rattle.tl_journal.proofs.Elsewhere.{of_post}
use Rattle.tl_journal.proofs.Logs.{vanished_more}
use Rattle.tl_journal.proofs.Requests.{request_no_post}
use Rattle.tl_journal.proofs.Stood.{vanished_same}
use Rattle.tl_places.specs.Places.{AreAt, HaveServed, PlacesState}
use Rattle.tl_ask.specs.Asked.{asked}
use Rattle.tl_ask.specs.declared.asked.Asked.{Asked}
use Rattle.tl_node.specs.After.{IsTold, marked, said_so, statement_in}
use Rattle.tl_node.specs.View.{NodeValue}
use Rattle.tl_node.specs.declared.told.Rest.{Rest}
use Rattle.tl_node.specs.declared.told.Rest.TheVariants as rest
use Rattle.tl_node.proofs.AlikeTold.{todo_seen, told_of}
use Rattle.tl_world.specs.Premises.{LogsAreServed, OwnSuitsRuns}
use Rattle.tl_world.specs.Stands.{HasServed, IsLeft, IsNode, IsRunning, IsRunningBut, IsSlot, SlotValue, StandsOn, StandsBut, WorldValue, counted_more, ended, notice_event, request_event, requested, slot_of, world_with}
use Rattle.tl_world.specs.Told.{is_answered, marked_in, takes_memory}
use Rattle.tl_world.proofs.Commits.{marked_is}
use Rattle.tl_world.proofs.Counting.{counted_stays, counts_more, made_more, requests_stay}
use Rattle.tl_world.proofs.Known.{HasSession, asked_some, but_left, but_runs, has_session, left_but, runs_but, slot_number}
use Rattle.tl_world.proofs.Others.{run_of, stands_more, vanish_own}
use Rattle.tl_world.proofs.Requests.{Happens, Makes, event_of, first, grows, happens, left_unsaid, node_number, sane}

-- the node of a slot runs so
pub there_is : (P : NodeValue → Type 0) (events : List Event) (n : ℕ) (o : Option NodeValue) (v : NodeValue) → IsNode P events n o → o ≡ Some v
    → (has_vanished events n ≡ false) × P v
there_is P events n o v h e = subst (λ x. IsNode P events n x) e h

-- ---- a request

module _ (served_law : LogsAreServed) (own_law : OwnSuitsRuns) (script : Script) (w : WorldValue) (s : StandsOn script w) (few : length w.events + 1 < 2 ^ 32)
    (number : ℕ) (slot : SlotValue) (v : NodeValue) (was : slot_of w.slots number ≡ Some slot) (there : slot.node ≡ Some v) (p : Reply) (q : PlacesState) where
  abbrev k : HasSession (IsRunning script w.settings w.events) script w number slot
  k = has_session (IsRunning script w.settings w.events) script w s number slot was

  run : IsRun script w.settings w.events
  run = run_of script w (IsRunning script w.settings w.events) s

  abbrev session : Session
  session = k.session

  abbrev node : Node
  node = node_after w.settings script w.events session

  known : (has_vanished w.events session.node ≡ false) × IsRunning script w.settings w.events session v
  known = there_is (IsRunning script w.settings w.events session) w.events session.node slot.node v k.is_slot.node_is there

  runs : has_vanished w.events number ≡ false
  runs = subst (λ i. has_vanished w.events i ≡ false) k.own known.0

  module _ (ask : Ask) (asks_it : asks w.settings script.catalog node ≡ Some ask) (call : IsCall (place_of w.settings ask) (written ask) p)
      (served : HaveServed (place_of w.settings ask) (written ask) p w.places q) where
    abbrev event : List Entry → Event
    event entries = event_of w.settings number ask p entries

    at : (entries : List Entry) → AreAt script w.settings (w.events ++ event entries ∷ []) q
    at entries = served script w.settings w.events number entries s.places

    all_served : (entries : List Entry) → AreServed script w.settings (w.events ++ event entries ∷ [])
    all_served entries =
        served_law script w.settings (w.events ++ event entries ∷ []) q (at entries)
        (all_push (λ (e : Event). IsCall e.place e.request e.reply) w.events (event entries) s.trace.served.calls call)

    makes : Makes script w.settings w.events number session ask p
    makes = record { is_session = k.is_session; runs = runs; asked = asks_it; served = all_served; few = few; rows = s.few_rows }

    no_post : is_post (written ask) ≡ false
    no_post = request_no_post script w.settings w.events (event []) session ask refl asks_it

    -- the entry of a mark, as the law has it and as the driver does
    marks : (m : Mark)
        → marked (state_after (setup_of script w.settings) (entries_told w.events)).commits node.number p m ≡ marked_in w.commits number p m
    marks m =
        ap (λ i. marked (state_after (setup_of script w.settings) (entries_told w.events)).commits i p m) (node_number script w.settings w.events run number session k.is_session runs)
        ∙ sym (marked_is (state_after (setup_of script w.settings) (entries_told w.events)).commits number p m (first script w.settings w.events run number session ask p makes))
        ∙ ap (λ xs. marked_in xs number p m) (sym s.commits)

    -- the slot after it
    slot_after : (entries : List Entry) (after : NodeValue) (P : NodeValue → Type 0) → P after
        → IsSlot P script (w.events ++ event entries ∷ []) session (requested slot after (written ask) p)
    slot_after entries after P h =
        let own : number ≡ session.node = sym k.own in
        record {
          node_is = (vanished_same w.events (event entries) session.node no_post ∙ known.0, h);
          made_is = ap (λ i. i + 1) k.is_slot.made_is ∙ sym (made_more w.events (event entries) session.node own no_post);
          counted_is = ap (λ i. counted_more slot.vanish (written ask) p i) k.is_slot.counted_is
              ∙ sym (counts_more w.events (event entries) slot.vanish session.node (vanish_own script session.node slot.vanish k.is_slot.vanish_is) own no_post);
          vanish_is = k.is_slot.vanish_is;
        }

    slot_is : slot.number ≡ number
    slot_is = slot_number w.slots number slot was

    was_so : slot_of w.slots slot.number ≡ Some slot
    was_so = ap (slot_of w.slots) slot_is ∙ was

    -- where the node goes on
    goes_on : (entries : List Entry) (after : NodeValue) → IsEvent script w.settings w.events (event entries)
        → IsRunning script w.settings (w.events ++ event entries ∷ []) session after
        → StandsOn script (world_with w (requested slot after (written ask) p) q (event entries))
    goes_on entries after is h =
        stands_more script w (IsRunning script w.settings w.events) (IsRunning script w.settings (w.events ++ event entries ∷ [])) s (event entries) session
        (requested slot after (written ask) p) slot q (λ other x apart r. r) (λ other x apart r. r) k.is_session was_so slot_is
        (slot_after entries after (IsRunning script w.settings (w.events ++ event entries ∷ []) session) h)
        (grows script w.settings w.events run (event entries) few (all_served entries) is) (at entries)

    -- where it asks nothing more
    stops : (entries : List Entry) (after : NodeValue) → IsEvent script w.settings w.events (event entries)
        → IsLeft number after (node_after w.settings script (w.events ++ event entries ∷ []) session)
        → StandsBut number script (world_with w (requested slot after (written ask) p) q (event entries))
    stops entries after is h =
        stands_more script w (IsRunning script w.settings w.events) (IsRunningBut number script w.settings (w.events ++ event entries ∷ [])) s (event entries) session
        (requested slot after (written ask) p) slot q (λ other x apart r. r)
        (λ other x apart r. runs_but number script w.settings (w.events ++ event entries ∷ []) other x apart r) k.is_session was_so slot_is
        (slot_after entries after (IsRunningBut number script w.settings (w.events ++ event entries ∷ []) session)
        (left_but number script w.settings (w.events ++ event entries ∷ []) session after (eq-eqb number session.node (sym k.own)) h))
        (grows script w.settings w.events run (event entries) few (all_served entries) is) (at entries)

    -- what happens, by what the node tells
    so : (after : NodeValue) (m : Mark) (r : Rest) → IsTold v p after m r → Happens script w.settings w.events run number session ask p makes after m r
    so after m r t =
        happens script w.settings w.events run number session ask p makes after m r (own_law script w.settings w.events run number session k.is_session runs)
        (told_of w.settings script.catalog node ask p asks_it (sane script w.settings w.events run number session ask p makes) v known.1.stands after m r t)

    -- the node goes on, and says nothing
    goes : (after : NodeValue) (m : Mark) → IsTold v p after m rest.Going → after.session ≡ v.session
        → StandsOn script (world_with w (requested slot after (written ask) p) q (event (marked_in w.commits number p m)))
    goes after m t same =
        subst (λ es. StandsOn script (world_with w (requested slot after (written ask) p) q (event es))) (marks m)
        (let h = so after m rest.Going t in
        goes_on (marked (state_after (setup_of script w.settings) (entries_told w.events)).commits node.number p m) after h.0
        (record { statements = same ∙ known.1.statements; stands = h.1.0; owed = h.1.1; goes_on = h.1.2 }))

    todo_is : statement_in v.node.todo ≡ statement_in node.todo
    todo_is = ap (λ (n : Node). statement_in n.todo) known.1.stands.node_is ∙ ap statement_in (todo_seen w.settings script.catalog node)

    -- the entry of what is said, as the law has it and as the driver does
    said_is : (m : Mark) (said : Said)
        → marked (state_after (setup_of script w.settings) (entries_told w.events)).commits node.number p m ++ said_so node.number (statement_in node.todo) m said ∷ []
        ≡ marked_in w.commits number p m ++ said_so number (statement_in v.node.todo) m said ∷ []
    said_is m said =
        ap (λ es. es ++ said_so node.number (statement_in node.todo) m said ∷ []) (marks m)
        ∙ ap (λ i. marked_in w.commits number p m ++ said_so i (statement_in node.todo) m said ∷ []) (node_number script w.settings w.events run number session k.is_session runs)
        ∙ ap (λ b. marked_in w.commits number p m ++ said_so number b m said ∷ []) (sym todo_is)

    -- it says this
    says : (after : NodeValue) (m : Mark) (said : Said) → IsTold v p after m (rest.Said said) → after.session ≡ v.session
        → StandsOn script (world_with w (requested slot after (written ask) p) q (event (marked_in w.commits number p m ++ said_so number (statement_in v.node.todo) m said ∷ [])))
    says after m said t same =
        subst (λ es. StandsOn script (world_with w (requested slot after (written ask) p) q (event es))) (said_is m said)
        (let h = so after m (rest.Said said) t in
        goes_on
        (marked (state_after (setup_of script w.settings) (entries_told w.events)).commits node.number p m ++ said_so node.number (statement_in node.todo) m said ∷ []) after h.0
        (record { statements = same ∙ known.1.statements; stands = h.1.0; owed = h.1.1; goes_on = h.1.2 }))

    -- it wanted memory
    wants : (after : NodeValue) (m : Mark) → IsTold v p after m rest.NoMemory
        → StandsBut number script (world_with w (requested slot after (written ask) p) q (event (marked_in w.commits number p m)))
    wants after m t =
        subst (λ es. StandsBut number script (world_with w (requested slot after (written ask) p) q (event es))) (marks m)
        (let h = so after m rest.NoMemory t in
        stops (marked (state_after (setup_of script w.settings) (entries_told w.events)).commits node.number p m) after h.0 h.1)

    -- it says this, and the driver wants memory to tell it
    untold : (after : NodeValue) (m : Mark) (said : Said) → takes_memory (statement_in v.node.todo) ≡ true → is_answered m ≡ false → IsTold v p after m (rest.Said said)
        → StandsBut number script (world_with w (requested slot after (written ask) p) q (event (marked_in w.commits number p m)))
    untold after m said memory single t =
        subst (λ es. StandsBut number script (world_with w (requested slot after (written ask) p) q (event es))) (marks m)
        (let told = told_of w.settings script.catalog node ask p asks_it (sane script w.settings w.events run number session ask p makes) v known.1.stands after m (rest.Said said) t in
        let h = left_unsaid script w.settings w.events run number session ask p makes after m said (ap takes_memory (sym todo_is) ∙ memory) single
        (told (own_law script w.settings w.events run number session k.is_session runs)) in
        stops (marked (state_after (setup_of script w.settings) (entries_told w.events)).commits node.number p m) after h.0 h.1)

    -- no reply is strange
    sane_so : (after : NodeValue) (m : Mark) → IsTold v p after m rest.Strange → ⊥
    sane_so after m t = so after m rest.Strange t

-- ---- what the driver has of it

module _ (served_law : LogsAreServed) (own_law : OwnSuitsRuns) (script : Script) (w : WorldValue) (s : StandsOn script w) (few : length w.events + 1 < 2 ^ 32)
    (number : ℕ) (slot : SlotValue) (v : NodeValue) (a : Asked) (p : Reply) (q : PlacesState) (h : HasServed w number slot v a p q) where
  abbrev the_session : HasSession (IsRunning script w.settings w.events) script w number slot
  the_session = has_session (IsRunning script w.settings w.events) script w s number slot h.was

  the_known : (has_vanished w.events the_session.session.node ≡ false) × IsRunning script w.settings w.events the_session.session v
  the_known = there_is (IsRunning script w.settings w.events the_session.session) w.events the_session.session.node slot.node v the_session.is_slot.node_is h.there

  the_ask : (ask : Ask) × (asks w.settings script.catalog (node_after w.settings script w.events the_session.session) ≡ Some ask) × (asked w.settings ask ≡ a)
  the_ask =
      asked_some w.settings (asks w.settings script.catalog (node_after w.settings script w.events the_session.session)) a
      (sym the_known.1.stands.ask_is ∙ h.asks_so)

  call_so : IsCall (place_of w.settings the_ask.0) (written the_ask.0) p
  call_so = subst (λ (x : Asked). IsCall x.place x.request p) (sym the_ask.2) h.call

  served_so : HaveServed (place_of w.settings the_ask.0) (written the_ask.0) p w.places q
  served_so = subst (λ (x : Asked). HaveServed x.place x.request p w.places q) (sym the_ask.2) h.served

  pub request_goes : (after : NodeValue) (m : Mark) → IsTold v p after m rest.Going → after.session ≡ v.session
      → StandsOn script (world_with w (requested slot after a.request p) q (request_event number a p (marked_in w.commits number p m)))
  request_goes after m t same =
      subst (λ (x : Asked). StandsOn script (world_with w (requested slot after x.request p) q (request_event number x p (marked_in w.commits number p m)))) the_ask.2
      (goes served_law own_law script w s few number slot v h.was h.there p q the_ask.0 the_ask.1 call_so served_so after m t same)

  pub request_says : (after : NodeValue) (m : Mark) (said : Said) → IsTold v p after m (rest.Said said) → after.session ≡ v.session
      → StandsOn script
      (world_with w (requested slot after a.request p) q (request_event number a p (marked_in w.commits number p m ++ said_so number (statement_in v.node.todo) m said ∷ [])))
  request_says after m said t same =
      subst
      (λ (x : Asked).
      StandsOn script
      (world_with w (requested slot after x.request p) q (request_event number x p (marked_in w.commits number p m ++ said_so number (statement_in v.node.todo) m said ∷ []))))
      the_ask.2
      (says served_law own_law script w s few number slot v h.was h.there p q the_ask.0 the_ask.1 call_so served_so after m said t same)

  pub request_wants : (after : NodeValue) (m : Mark) → IsTold v p after m rest.NoMemory
      → StandsBut number script (world_with w (requested slot after a.request p) q (request_event number a p (marked_in w.commits number p m)))
  request_wants after m t =
      subst (λ (x : Asked). StandsBut number script (world_with w (requested slot after x.request p) q (request_event number x p (marked_in w.commits number p m)))) the_ask.2
      (wants served_law own_law script w s few number slot v h.was h.there p q the_ask.0 the_ask.1 call_so served_so after m t)

  pub request_untold : (after : NodeValue) (m : Mark) (said : Said) → takes_memory (statement_in v.node.todo) ≡ true → is_answered m ≡ false
      → IsTold v p after m (rest.Said said)
      → StandsBut number script (world_with w (requested slot after a.request p) q (request_event number a p (marked_in w.commits number p m)))
  request_untold after m said memory single t =
      subst (λ (x : Asked). StandsBut number script (world_with w (requested slot after x.request p) q (request_event number x p (marked_in w.commits number p m)))) the_ask.2
      (untold served_law own_law script w s few number slot v h.was h.there p q the_ask.0 the_ask.1 call_so served_so after m said memory single t)

  pub request_sane : (after : NodeValue) (m : Mark) → IsTold v p after m rest.Strange → ⊥
  request_sane after m t = sane_so served_law own_law script w s few number slot v h.was h.there p q the_ask.0 the_ask.1 call_so served_so after m t

  pub request_is : is_post a.request ≡ false
  request_is =
      subst (λ (x : Asked). is_post x.request ≡ false) the_ask.2
      (no_post served_law own_law script w s few number slot v h.was h.there p q the_ask.0 the_ask.1 call_so served_so)

-- ---- a death notice

module _ (served_law : LogsAreServed) (script : Script) (w : WorldValue) (number : ℕ) (s : StandsBut number script w) (few : length w.events + 1 < 2 ^ 32)
    (slot : SlotValue) (v : NodeValue) (was : slot_of w.slots number ≡ Some slot) (there : slot.node ≡ Some v) (p : Reply) (q : PlacesState) (ending : Ending) where
  abbrev notice : ManagerRequest
  notice = asked_of.Post v.node.number (owed_by v.node.doing)

  abbrev posted : Event
  posted = notice_event w.settings number notice p ending

  gone : HasSession (IsRunningBut number script w.settings w.events) script w number slot
  gone = has_session (IsRunningBut number script w.settings w.events) script w s number slot was

  still : (has_vanished w.events gone.session.node ≡ false) × IsRunningBut number script w.settings w.events gone.session v
  still = there_is (IsRunningBut number script w.settings w.events gone.session) w.events gone.session.node slot.node v gone.is_slot.node_is there

  left : IsLeft number v (node_after w.settings script w.events gone.session)
  left = but_left number script w.settings w.events gone.session v (eq-eqb number gone.session.node (sym gone.own)) still.1

  pub post_stands : IsCall (place.Manager (home_of w.settings number)) (request_of.Manager notice) p
      → HaveServed (place.Manager (home_of w.settings number)) (request_of.Manager notice) p w.places q
      → StandsOn script (world_with w (ended slot) q posted)
  post_stands call served =
      let at : AreAt script w.settings (w.events ++ posted ∷ []) q = served script w.settings w.events number (entry.Vanished number ending ∷ []) s.places in
      let is : IsPost script w.settings w.events posted = record {
        session = gone.session;
        is_session = gone.is_session;
        runs = subst (λ i. has_vanished w.events i ≡ false) gone.own still.0;
        stands_at = refl;
        notice = ap (λ i. request_of.Manager (asked_of.Post i (owed_by v.node.doing))) left.own ∙ ap (λ nodes. request_of.Manager (asked_of.Post number nodes)) left.owed;
        ending = ending;
        told = refl;
      } in
      let own : slot.number ≡ number = slot_number w.slots number slot was in
      let other : (number == gone.session.node) && not (is_post posted.request) ≡ false = of_post number gone.session.node (is_post posted.request) refl in
      stands_more script w (IsRunningBut number script w.settings w.events) (IsRunning script w.settings (w.events ++ posted ∷ [])) s posted gone.session
      (ended slot) slot q (λ other x apart r. but_runs number script w.settings w.events other x apart r) (λ other x apart r. r) gone.is_session
      (ap (slot_of w.slots) own ∙ was) own
      (record {
        node_is = vanished_more w.events posted gone.session.node
            ∙ or_right (has_vanished w.events gone.session.node) (posts gone.session.node posted) (both_so (number == gone.session.node) (eq-eqb number gone.session.node (sym gone.own)));
        made_is = gone.is_slot.made_is ∙ ap length (sym (requests_stay w.events posted gone.session.node other));
        counted_is = gone.is_slot.counted_is
            ∙ sym (counted_stays w.events posted slot.vanish gone.session.node (vanish_own script gone.session.node slot.vanish gone.is_slot.vanish_is) other);
        vanish_is = gone.is_slot.vanish_is;
      })
      (grows script w.settings w.events (run_of script w (IsRunningBut number script w.settings w.events) s) posted few
      (served_law script w.settings (w.events ++ posted ∷ []) q at
      (all_push (λ (e : Event). IsCall e.place e.request e.reply) w.events posted s.trace.served.calls call))
      (inr (inl is)))
      at
    where
      both_so : (x : Bool) → x ≡ true → (x && true) ≡ true
      both_so true e = refl
      both_so false e = cc
