-- A request and a death notice, by what becomes of the slots of a world.
use Rattle.std.proofs.Common.{◌≡◌, ◌⊎◌, ℕ, ◌+◌, ◌<◌, Bool, true, false, List, [], ◌∷◌, ◌++◌, length, slice_index_or, slice_set, Some, refl, sym, ap, ◌∙◌, subst, inl, inr, arith}
use Rattle.std.specs.Prelude.{◌==◌, ◌^◌, zero, suc}
use Rattle.std.proofs.lemmas.Bool.{cases_Bool, eq-eqb}
use Rattle.std.proofs.lemmas.List.{get_or-set_same}
use Rattle.std.proofs.lemmas.Option.{same_Some}
use Rattle.tl_base.specs.declared.place.PlaceId.TheVariants as place
use Rattle.tl_manager.specs.declared.request.ManagerReply.TheVariants as manager
use Rattle.tl_manager.specs.declared.request.ManagerRequest.{ManagerRequest}
use Rattle.tl_manager.specs.declared.request.ManagerRequest.TheVariants as asked_of
use Rattle.tl_manager.specs.declared.request.Reply.{Reply}
use Rattle.tl_manager.specs.declared.request.Reply.TheVariants as reply
use Rattle.tl_manager.specs.declared.request.Request.TheVariants as request_of
use Rattle.tl_isolation.specs.declared.entry.Ending.{Ending}
use Rattle.tl_isolation.specs.declared.entry.Entry.{Entry}
use Rattle.tl_isolation.specs.declared.entry.Entry.TheVariants as entry
use Rattle.tl_isolation.specs.declared.script.Script.{Script}
use Rattle.tl_journal.specs.declared.event.Event.{Event}
use Rattle.tl_journal.specs.Bytes.{home_of}
use Rattle.tl_journal.specs.Node.{owed_by}
use Rattle.tl_places.specs.Places.{HaveServed, PlacesState}
use Rattle.tl_node.specs.View.{NodeValue}
use Rattle.tl_world.specs.declared.request.Served.{Served}
use Rattle.tl_world.specs.Hearing.{Hears, SlotServed}
use Rattle.tl_world.specs.Premises.{LogsAreServed}
use Rattle.tl_world.specs.Slot.{spot}
use Rattle.tl_world.specs.Stands.{SlotValue, StandsOn, StandsBut, WorldValue, ended, slot_of, with_slot}
use Rattle.tl_world.specs.Turns.{Ends, Goes, due_by}
use Rattle.tl_world.proofs.Laws.{own_suits_runs}
use Rattle.tl_world.proofs.Spots.{StandsThere, spot_is}
use Rattle.tl_world.proofs.Steps.{counted_slot, ends_of, goes_of, served_event}

-- a slot keeps its place where another one of its number takes it
spot_with : (slots : List SlotValue) (x : SlotValue) (number k : ℕ) → x.number ≡ number → spot k (with_slot x slots) number ≡ spot k slots number
spot_with [] x number k own = refl
spot_with (s ∷ slots) x number k own = by (cases_Bool (s.number == x.number)) (spot_with slots x number (k + 1) own)
  where
    by : (s.number == x.number ≡ true) ⊎ (s.number == x.number ≡ false) → spot (k + 1) (with_slot x slots) number ≡ spot (k + 1) slots number
        → spot k (with_slot x (s ∷ slots)) number ≡ spot k (s ∷ slots) number
    by (inl f) h =
        let g : (s.number == number) ≡ true = ap (λ i. s.number == i) (sym own) ∙ f in
        let e : (x.number == number) ≡ true = eq-eqb x.number number own in
        rw f (rw (e, g) refl)
    by (inr f) h = let g : (s.number == number) ≡ false = ap (λ i. s.number == i) (sym own) ∙ f in rw f (rw g h)

plain : (n m : ℕ) → n ≡ 0 + m → n ≡ m
plain n m e = omega arith

module _ (slots : List SlotValue) (number at : ℕ) (there : spot 0 slots number ≡ Some at) where
  stands_there : StandsThere slots number 0 at
  stands_there = spot_is slots number 0 at there

  is_behind : at ≡ stands_there.behind
  is_behind = plain at stands_there.behind stands_there.at_is

  pub is_within : at < length slots
  is_within = subst (λ k. k < length slots) (sym is_behind) stands_there.within

  pub slot_was : (d : SlotValue) → slot_of slots number ≡ Some (slice_index_or slots at d)
  slot_was d = subst (λ k. slot_of slots number ≡ Some (slice_index_or slots k d)) (sym is_behind) (stands_there.slot_is d)

  pub slot_own : (d : SlotValue) → (slice_index_or slots at d).number ≡ number
  slot_own d = subst (λ k. (slice_index_or slots k d).number ≡ number) (sym is_behind) (stands_there.number_is d)

  pub slot_put : (x : SlotValue) → x.number ≡ number → slice_set slots at x ≡ with_slot x slots
  slot_put x own = subst (λ k. slice_set slots k x ≡ with_slot x slots) (sym is_behind) (stands_there.put x own)

  -- so it is with another slot there
  pub spot_put : (x : SlotValue) → x.number ≡ number → spot 0 (slice_set slots at x) number ≡ Some at
  spot_put x own = ap (λ xs. spot 0 xs number) (slot_put x own) ∙ spot_with slots x number 0 own ∙ there

  pub index_same : (x y : SlotValue) → x ≡ slice_index_or slots at x → y ≡ slice_index_or slots at y → x ≡ y
  index_same x y e f = e ∙ same_Some (slice_index_or slots at x) (slice_index_or slots at y) (sym (slot_was x) ∙ slot_was y) ∙ sym f

  pub put_is : (x d : SlotValue) → slice_index_or (slice_set slots at x) at d ≡ x
  put_is x d = get_or-set_same slots at x d is_within

  pub own_is : (x : SlotValue) → x ≡ slice_index_or slots at x → x.number ≡ number
  own_is x e = ap (λ (y : SlotValue). y.number) e ∙ slot_own x

  pub slot_there : (x : SlotValue) → x ≡ slice_index_or slots at x → slot_of slots number ≡ Some x
  slot_there x e = slot_was x ∙ ap Some (sym e)

-- what was put there last stands there
pub set_twice : (slots : List SlotValue) (at : ℕ) (x y : SlotValue) → slice_set (slice_set slots at x) at y ≡ slice_set slots at y
set_twice [] at x y = refl
set_twice (s ∷ slots) zero x y = refl
set_twice (s ∷ slots) (suc at) x y = ap (λ xs. s ∷ xs) (set_twice slots at x y)

-- ---- a request

-- the slot of the node, what its node has heard, and the slot after the request
module _ (slots : List SlotValue) (commits : List ℕ) (number at : ℕ) (there : spot 0 slots number ≡ Some at) (slot : SlotValue) (is : slot ≡ slice_index_or slots at slot)
    (v : NodeValue) (told : Reply) (heard : SlotValue) (after_commits : List ℕ) (entries : List Entry) (wants : Bool)
    (hears : Hears v slot told commits heard after_commits entries wants) where
  heard_own : heard.number ≡ number
  heard_own = ap (λ (x : SlotValue). x.number) hears.slot_is ∙ own_is slots number at there slot is

  spot_heard : spot 0 (slice_set slots at heard) number ≡ Some at
  spot_heard = spot_put slots number at there heard heard_own

  pub heard_within : at < length (slice_set slots at heard)
  heard_within = is_within (slice_set slots at heard) number at spot_heard

  module _ (again : SlotValue) (again_is : again ≡ slice_index_or (slice_set slots at heard) at again) where
    again_heard : again ≡ heard
    again_heard = again_is ∙ put_is slots number at there heard again

    pub again_made : again.made ≡ slot.made
    again_made = ap (λ (x : SlotValue). x.made) again_heard ∙ ap (λ (x : SlotValue). x.made) hears.slot_is

    pub again_due : due_by again.vanish again.counted ≡ due_by slot.vanish slot.counted
    again_due = ap (λ (x : SlotValue). due_by x.vanish x.counted) again_heard ∙ ap (λ (x : SlotValue). due_by x.vanish x.counted) hears.slot_is

    module _ (call : Served) (new : SlotValue) (new_is : new ≡ counted_slot again call) where
      new_heard : new ≡ counted_slot heard call
      new_heard = new_is ∙ ap (λ x. counted_slot x call) again_heard

      new_own : new.number ≡ number
      new_own = ap (λ (x : SlotValue). x.number) new_heard ∙ heard_own

      pub spot_counted : spot 0 (slice_set (slice_set slots at heard) at new) number ≡ Some at
      spot_counted = spot_put (slice_set slots at heard) number at spot_heard new new_own

      pub node_counted : (d : SlotValue) → (slice_index_or (slice_set (slice_set slots at heard) at new) at d).node ≡ Some hears.after
      node_counted d =
          ap (λ (x : SlotValue). x.node) (put_is (slice_set slots at heard) number at spot_heard new d ∙ new_heard)
          ∙ ap (λ (x : SlotValue). x.node) hears.slot_is

      slots_counted : slice_set (slice_set slots at heard) at new ≡ with_slot (counted_slot heard call) slots
      slots_counted =
          set_twice slots at heard new ∙ slot_put slots number at there new new_own ∙ ap (λ x. with_slot x slots) new_heard

pub request_made : LogsAreServed → (script : Script) (w : WorldValue) → StandsOn script w → length w.events + 1 < 2 ^ 32 → (number at : ℕ)
    → (there : spot 0 w.slots number ≡ Some at) → (first : SlotValue) → first ≡ slice_index_or w.slots at first → (call : Served) (q : PlacesState)
    → SlotServed first w.places call q → (slot : SlotValue) → slot ≡ slice_index_or w.slots at slot → (heard : SlotValue) (commits : List ℕ) (entries : List Entry) (wants : Bool)
    → ((v : NodeValue) → slot.node ≡ Some v → Hears v slot call.reply w.commits heard commits entries wants) → (again : SlotValue)
    → again ≡ slice_index_or (slice_set w.slots at heard) at again → (new : SlotValue) → new ≡ counted_slot again call → (told : List Entry) → told ≡ entries
    → (events : List Event) → events ≡ w.events ++ served_event number call told ∷ []
    → Goes script number w wants (record { settings = w.settings; places = q; slots = slice_set (slice_set w.slots at heard) at new; commits = commits; events = events })
request_made logs script w s few number at there first first_is call q served slot is heard commits entries wants hears again again_is new new_is told told_is events events_are =
    let same : first ≡ slot = index_same w.slots number at there first slot first_is is in
    let now : SlotServed slot w.places call q = subst (λ x. SlotServed x w.places call q) same served in
    let v = now.0 in
    let h = hears v now.1 in
    let slots_are = slots_counted w.slots w.commits number at there slot is v call.reply heard commits entries wants h again again_is call new new_is in
    let all : events ≡ w.events ++ served_event number call entries ∷ [] = events_are ∙ ap (λ es. w.events ++ served_event number call es ∷ []) told_is in
    subst
    (λ es. Goes script number w wants (record { settings = w.settings; places = q; slots = slice_set (slice_set w.slots at heard) at new; commits = commits; events = es }))
    (sym all)
    (goes_of logs own_suits_runs script w s few number slot (slot_there w.slots number at there slot is) (own_is w.slots number at there slot is) call q v now.1 now.2.asks_so
    now.2.call now.2.served heard commits entries wants h (slice_set (slice_set w.slots at heard) at new) slots_are)

-- ---- a death notice

-- the places after the notice of the node
abbrev pub Posts : PlacesState → PlacesState → ℕ → ManagerRequest → Reply → Type 0
Posts p q home notice told = HaveServed (place.Manager home) (request_of.Manager notice) told p q

-- its event
abbrev pub post_event : ℕ → ℕ → ManagerRequest → Reply → List Entry → Event
post_event number home notice told entries =
    record { node = number; place = place.Manager home; request = request_of.Manager notice; reply = told; entries = entries }

module _ (logs : LogsAreServed) (script : Script) (w : WorldValue) (number : ℕ) (s : StandsBut number script w) (few : length w.events + 1 < 2 ^ 32) (at : ℕ)
    (there : spot 0 w.slots number ≡ Some at) (slot : SlotValue) (is : slot ≡ slice_index_or w.slots at slot) (v : NodeValue) (node_is : slot.node ≡ Some v)
    (ending : Ending) (q : PlacesState) (slots : List SlotValue) (slots_are : slots ≡ slice_set w.slots at (ended slot)) where
  abbrev after : Event → WorldValue
  after e = record { settings = w.settings; places = q; slots = slots; commits = w.commits; events = w.events ++ e ∷ [] }

  -- it ends so where this notice is posted
  abbrev EndsBy : ℕ → ManagerRequest → Reply → List Entry → Type 0
  EndsBy home notice told entries = Posts w.places q home notice told → Ends script number ending w (after (post_event number home notice told entries))

  ends_plain : EndsBy (home_of w.settings number) (asked_of.Post v.node.number (owed_by v.node.doing)) (reply.Manager manager.Posted) (entry.Vanished number ending ∷ [])
  ends_plain served =
      ends_of logs script w number s few slot v (slot_was w.slots number at there slot ∙ ap Some (sym is)) node_is q ending served slots
      (slots_are ∙ slot_put w.slots number at there (ended slot) (ap (λ (x : SlotValue). x.number) is ∙ slot_own w.slots number at there slot))

  pub ended_so : (home : ℕ) (notice : ManagerRequest) (told : Reply) (entries : List Entry) → home ≡ home_of w.settings number
      → notice ≡ asked_of.Post v.node.number (owed_by v.node.doing) → told ≡ reply.Manager manager.Posted → entries ≡ entry.Vanished number ending ∷ []
      → Posts w.places q home notice told → (events : List Event) → events ≡ w.events ++ post_event number home notice told entries ∷ []
      → Ends script number ending w (record { settings = w.settings; places = q; slots = slots; commits = w.commits; events = events })
  ended_so home notice told entries a b c d posts events events_are =
      subst (λ es. Ends script number ending w (record { settings = w.settings; places = q; slots = slots; commits = w.commits; events = es })) (sym events_are)
      (subst (λ x. EndsBy x notice told entries) (sym a)
      (subst (λ x. EndsBy (home_of w.settings number) x told entries) (sym b)
      (subst (λ x. EndsBy (home_of w.settings number) (asked_of.Post v.node.number (owed_by v.node.doing)) x entries) (sym c)
      (subst (λ x. EndsBy (home_of w.settings number) (asked_of.Post v.node.number (owed_by v.node.doing)) (reply.Manager manager.Posted) x) (sym d) ends_plain))) posts)
