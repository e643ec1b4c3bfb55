-- A request and a death notice, as the driver's parts make them.
use Rattle.std.proofs.Common.{◌≡◌, ℕ, ◌+◌, ◌<◌, Bool, true, false, List, [], ◌∷◌, ◌++◌, length, Some, append-nil, refl, sym, ap, ◌∙◌, subst, inl, inr}
use Rattle.std.specs.Prelude.{◌^◌}
use Rattle.tl_base.specs.declared.place.PlaceId.TheVariants as place
use Rattle.tl_manager.specs.declared.mark.Mark.{Mark}
use Rattle.tl_manager.specs.declared.mark.Mark.TheVariants as mark
use Rattle.tl_manager.specs.declared.request.ManagerReply.TheVariants as manager
use Rattle.tl_manager.specs.declared.request.ManagerRequest.TheVariants as asked_of
use Rattle.tl_manager.specs.declared.request.Reply.{Reply}
use Rattle.tl_manager.specs.declared.request.Reply.TheVariants as reply
use Rattle.tl_manager.specs.declared.request.Request.TheVariants as request_of
use Rattle.tl_isolation.specs.declared.bound.Bound.{Bound}
use Rattle.tl_isolation.specs.declared.entry.Ending.{Ending}
use Rattle.tl_isolation.specs.declared.entry.Entry.{Entry}
use Rattle.tl_isolation.specs.declared.entry.Said.{Said}
use Rattle.tl_isolation.specs.declared.script.Script.{Script}
use Rattle.tl_journal.specs.declared.event.Event.{Event}
use Rattle.tl_journal.specs.Bytes.{home_of}
use Rattle.tl_journal.specs.Journal.{IsCall, is_post}
use Rattle.tl_journal.specs.Node.{owed_by}
use Rattle.tl_places.specs.Places.{HaveServed, PlacesState}
use Rattle.tl_ask.specs.declared.asked.Asked.{Asked}
use Rattle.tl_node.specs.After.{IsTold, said_so, statement_in}
use Rattle.tl_node.specs.View.{NodeValue}
use Rattle.tl_node.specs.declared.told.Rest.{Rest}
use Rattle.tl_node.specs.declared.told.Rest.TheVariants as rest
use Rattle.tl_world.specs.declared.request.Served.{Served}
use Rattle.tl_world.specs.Hearing.{Hears, Tells, committed_so}
use Rattle.tl_world.specs.Premises.{LogsAreServed, OwnSuitsRuns}
use Rattle.tl_world.specs.Stands.{HasServed, SlotValue, StandsOn, StandsBut, WorldValue, committed_by, committed_in, counted_more, ended, notice_event, requested, slot_of, with_slot, world_with}
use Rattle.tl_world.specs.Told.{began_in, marked_in}
use Rattle.tl_world.specs.Turns.{Ends, Goes, GoesOn}
use Rattle.tl_world.proofs.Dues.{done_same, none_given}
use Rattle.tl_world.proofs.Stand.{post_stands, request_goes, request_is, request_sane, request_says, request_untold, request_wants}

-- what a mark commits is what its entry commits
committed_is : (commits : List ℕ) (number : ℕ) (p : Reply) (m : Mark) → committed_in (marked_in commits number p m) ≡ committed_so m
committed_is commits number p (mark.Began tid) = by p
  where
    by : (p : Reply) → committed_in (began_in commits number tid p) ≡ []
    by (reply.Manager (manager.Began other snapshot floor)) = refl
    by p = refl
committed_is commits number p m = refl

committed_behind : (es : List Entry) (e : Entry) → committed_by e ≡ [] → committed_in (es ++ e ∷ []) ≡ committed_in es
committed_behind [] e f = ap (λ (xs : List ℕ). xs ++ []) f
committed_behind (x ∷ es) e f = ap (λ xs. committed_by x ++ xs) (committed_behind es e f)

said_commits : (number : ℕ) (b : Bound) (m : Mark) (said : Said) → committed_by (said_so number b m said) ≡ []
said_commits number b mark.Answered said = refl
said_commits number b m said = refl

-- the slot after a request
abbrev pub counted_slot : SlotValue → Served → SlotValue
counted_slot slot s = record slot { made = slot.made + 1; counted = counted_more slot.vanish s.request s.reply slot.counted }

abbrev pub served_event : ℕ → Served → List Entry → Event
served_event number s entries = record { node = number; place = s.place; request = s.request; reply = s.reply; entries = entries }

module _ (served_law : LogsAreServed) (own_law : OwnSuitsRuns) (script : Script) (w : WorldValue) (s : StandsOn script w) (few : length w.events + 1 < 2 ^ 32)
    (number : ℕ) (slot : SlotValue) (was : slot_of w.slots number ≡ Some slot) (own : slot.number ≡ number) (call : Served) (q : PlacesState)
    (v : NodeValue) (there : slot.node ≡ Some v) (asks_so : v.ask ≡ Some (record { place = call.place; request = call.request }))
    (is_call : IsCall call.place call.request call.reply) (served : HaveServed call.place call.request call.reply w.places q) where
  abbrev asks_it : Asked
  asks_it = record { place = call.place; request = call.request }

  has_served : HasServed w number slot v asks_it call.reply q
  has_served = record { was = was; there = there; asks_so = asks_so; call = is_call; served = served }

  abbrev new_world : NodeValue → List Entry → WorldValue
  new_world after entries = world_with w (requested slot after call.request call.reply) q (served_event number call entries)

  is_request : is_post call.request ≡ false
  is_request = request_is served_law own_law script w s few number slot v asks_it call.reply q has_served

  going : (after : NodeValue) (m : Mark) (r : Rest) (wants : Bool) (entries : List Entry) → IsTold v call.reply after m r → after.session ≡ v.session
      → Tells number (statement_in v.node.todo) m r (marked_in w.commits number call.reply m) wants entries
      → GoesOn script number w wants (new_world after entries) × (committed_in entries ≡ committed_so m)
  going after m rest.Going wants entries t same h =
      subst (λ b. GoesOn script number w b (new_world after entries) × (committed_in entries ≡ committed_so m)) (sym h.0)
      (subst (λ es. StandsOn script (new_world after es) × (committed_in es ≡ committed_so m)) (sym h.1)
      (request_goes served_law own_law script w s few number slot v asks_it call.reply q has_served after m t same, committed_is w.commits number call.reply m))
  going after m (rest.Said said) wants entries t same (inl h) =
      subst (λ b. GoesOn script number w b (new_world after entries) × (committed_in entries ≡ committed_so m)) (sym h.0)
      (subst (λ es. StandsOn script (new_world after es) × (committed_in es ≡ committed_so m)) (sym h.1) (
        request_says served_law own_law script w s few number slot v asks_it call.reply q has_served after m said t same,
        committed_behind (marked_in w.commits number call.reply m) (said_so number (statement_in v.node.todo) m said) (said_commits number (statement_in v.node.todo) m said)
            ∙ committed_is w.commits number call.reply m,
      ))
  going after m (rest.Said said) wants entries t same (inr h) =
      subst (λ b. GoesOn script number w b (new_world after entries) × (committed_in entries ≡ committed_so m)) (sym h.0)
      (subst (λ es. GoesOn script number w true (new_world after es) × (committed_in es ≡ committed_so m)) (sym h.3) (
        (
          request_untold served_law own_law script w s few number slot v asks_it call.reply q has_served after m said h.1 h.2 t,
          done_same script w.events (served_event number call (marked_in w.commits number call.reply m)) number number w.commits call.reply m refl,
          none_given w.events (served_event number call (marked_in w.commits number call.reply m)) number number w.commits call.reply m refl is_request refl,
        ),
        committed_is w.commits number call.reply m,
      ))
  going after m rest.Strange wants entries t same h =
      absurd (request_sane served_law own_law script w s few number slot v asks_it call.reply q has_served after m t)
  going after m rest.NoMemory wants entries t same h =
      subst (λ b. GoesOn script number w b (new_world after entries) × (committed_in entries ≡ committed_so m)) (sym h.0)
      (subst (λ es. GoesOn script number w true (new_world after es) × (committed_in es ≡ committed_so m)) (sym h.1) (
        (
          request_wants served_law own_law script w s few number slot v asks_it call.reply q has_served after m t,
          done_same script w.events (served_event number call (marked_in w.commits number call.reply m)) number number w.commits call.reply m refl,
          none_given w.events (served_event number call (marked_in w.commits number call.reply m)) number number w.commits call.reply m refl is_request refl,
        ),
        committed_is w.commits number call.reply m,
      ))

  slot_so : (new : SlotValue) (after : NodeValue) → new ≡ record slot { node = Some after } → counted_slot new call ≡ requested slot after call.request call.reply
  slot_so new after e = ap (λ x. counted_slot x call) e

  -- the driver's parts make a request of the node
  pub goes_of : (new : SlotValue) (commits : List ℕ) (entries : List Entry) (wants : Bool) → Hears v slot call.reply w.commits new commits entries wants
      → (slots : List SlotValue) → slots ≡ with_slot (counted_slot new call) w.slots
      → Goes script number w wants (record { settings = w.settings; places = q; slots = slots; commits = commits; events = w.events ++ served_event number call entries ∷ [] })
  goes_of new commits entries wants h slots e =
      let tells : Tells number (statement_in v.node.todo) h.mark h.said (marked_in w.commits number call.reply h.mark) wants entries =
      subst (λ i. Tells i (statement_in v.node.todo) h.mark h.said (marked_in w.commits i call.reply h.mark) wants entries) own h.tells in
      let g = going h.after h.mark h.said wants entries h.told_so h.session tells in
      let slots_are : with_slot (requested slot h.after call.request call.reply) w.slots ≡ slots = sym (e ∙ ap (λ x. with_slot x w.slots) (slot_so new h.after h.slot_is)) in
      let commits_are : w.commits ++ committed_in entries ≡ commits = ap (λ xs. w.commits ++ xs) g.1 ∙ sym h.committed in
      record {
        event = served_event number call entries;
        events = refl;
        settings = refl;
        request = record { of_node = refl; request = is_request };
        on = subst
            (λ xs. GoesOn script number w wants (record { settings = w.settings; places = q; slots = xs; commits = commits; events = w.events ++ served_event number call entries ∷ [] }))
            slots_are
            (subst
            (λ cs.
            GoesOn script number w wants
            (record {
              settings = w.settings;
              places = q;
              slots = with_slot (requested slot h.after call.request call.reply) w.slots;
              commits = cs;
              events = w.events ++ served_event number call entries ∷ [];
            }))
            commits_are g.0);
      }

-- and its death notice
pub ends_of : LogsAreServed → (script : Script) (w : WorldValue) (number : ℕ) → StandsBut number script w → length w.events + 1 < 2 ^ 32
    → (slot : SlotValue) (v : NodeValue) → slot_of w.slots number ≡ Some slot → slot.node ≡ Some v → (q : PlacesState) (ending : Ending)
    → HaveServed (place.Manager (home_of w.settings number)) (request_of.Manager (asked_of.Post v.node.number (owed_by v.node.doing))) (reply.Manager manager.Posted) w.places q
    → (slots : List SlotValue) → slots ≡ with_slot (ended slot) w.slots
    → Ends script number ending w
    (record {
      settings = w.settings;
      places = q;
      slots = slots;
      commits = w.commits;
      events = w.events ++ notice_event w.settings number (asked_of.Post v.node.number (owed_by v.node.doing)) (reply.Manager manager.Posted) ending ∷ [];
    })
ends_of served_law script w number s few slot v was there q ending served slots e =
    let notice = asked_of.Post v.node.number (owed_by v.node.doing) in
    record {
      event = notice_event w.settings number notice (reply.Manager manager.Posted) ending;
      events = refl;
      settings = refl;
      notice = record { of_node = refl; notice = refl; entries = refl };
      stands = subst
          (λ xs.
          StandsOn script
          (record {
            settings = w.settings;
            places = q;
            slots = xs;
            commits = w.commits;
            events = w.events ++ notice_event w.settings number notice (reply.Manager manager.Posted) ending ∷ [];
          }))
          (sym e)
          (subst
          (λ cs.
          StandsOn script
          (record {
            settings = w.settings;
            places = q;
            slots = with_slot (ended slot) w.slots;
            commits = cs;
            events = w.events ++ notice_event w.settings number notice (reply.Manager manager.Posted) ending ∷ [];
          }))
          (append-nil w.commits)
          (post_stands served_law script w number s few slot v was there (reply.Manager manager.Posted) q ending tt served));
    }
