-- The parts of a turn, as the driver's functions do them.
use Rattle.std.proofs.Common.{◌≡◌, ◌⊎◌, ℕ, ◌<◌, ◌≤◌, Bool, true, false, List, slice_index_or, Option, Some, None, refl, sym, ap, ◌∙◌, subst, inl, inr, arith}
use Rattle.std.specs.Prelude.{◌&&◌, ◌^◌, nat_le, not}
use Rattle.std.specs.Option.{is_some}
use Rattle.std.proofs.lemmas.Bool.Decides.{nat_tests}
use Rattle.std.proofs.lemmas.Bool.{leb-true}
use Rattle.std.proofs.lemmas.Option.{same_Some}
use Rattle.tl_isolation.specs.declared.entry.Ending.{Ending}
use Rattle.tl_isolation.specs.declared.entry.Ending.TheVariants as ending_of
use Rattle.tl_isolation.specs.declared.script.Script.{Script}
use Rattle.tl_node.specs.View.{NodeValue}
use Rattle.tl_world.specs.declared.world.Turned.{Turned}
use Rattle.tl_world.specs.declared.world.Turned.TheVariants as turned_so
use Rattle.tl_world.specs.declared.world.World.{World}
use Rattle.tl_world.specs.Premises.{LogsAreServed}
use Rattle.tl_world.specs.Seen.{HasEnded, HasGoneOn, HasRoom, HasRoomForNotice, HasTurned, IsThere, Runs, seen_as}
use Rattle.tl_world.specs.Slot.{has_more, spent_by, spot}
use Rattle.tl_world.specs.Stands.{SlotValue, Stands, StandsBut, StandsOn, WorldValue, slot_of}
use Rattle.tl_world.specs.Turns.{Ends, Goes, TurnsTo, VanishesTo, due_by}
use Rattle.tl_world.proofs.Known.{stands_but}
use Rattle.tl_world.proofs.Serving.{index_same, slot_there, slot_was}
use Rattle.tl_world.proofs.Turning.{ends_due, ends_spent, ends_wanting, may_vanish, then_due, then_spent, then_wanting, vanishes, went}

none_false : true ≡ false → ⊥
none_false e = cc

both_of : (a b : Bool) → (a && b) ≡ true → (a ≡ true) × (b ≡ true)
both_of true true e = (refl, refl)
both_of true false e = absurd (none_false (sym e))
both_of false b e = absurd (none_false (sym e))

one_of : (a b : Bool) → (a && b) ≡ false → (a ≡ false) ⊎ (b ≡ false)
one_of true true e = absurd (none_false e)
one_of true false e = inr refl
one_of false b e = inl refl

more_than : (n m : ℕ) → nat_le n m ≡ false → m < n
more_than n m e = grind (arith, nat_tests)

spent_parts : (slot : SlotValue) (budget most : ℕ) → budget ≡ most → spent_by slot budget ≡ true → (has_more slot.node ≡ true) × (most ≤ slot.made)
spent_parts slot budget most e h =
    let both = both_of (has_more slot.node) (nat_le budget slot.made) h in
    (both.0, subst (λ (k : ℕ). k ≤ slot.made) e (leb-true budget slot.made both.1))

spent_not : (slot : SlotValue) (budget most : ℕ) → budget ≡ most → spent_by slot budget ≡ false → (has_more slot.node ≡ false) ⊎ (slot.made < most)
spent_not slot budget most e h = by (one_of (has_more slot.node) (nat_le budget slot.made) h)
  where
    by : (has_more slot.node ≡ false) ⊎ (nat_le budget slot.made ≡ false) → (has_more slot.node ≡ false) ⊎ (slot.made < most)
    by (inl f) = inl f
    by (inr f) = inr (subst (λ (k : ℕ). slot.made < k) e (more_than budget slot.made f))

-- the slot at the place of the node, whatever stands for one that isn't there
pub any_slot : (slots : List SlotValue) (number at : ℕ) → spot 0 slots number ≡ Some at → (slot : SlotValue) → slot ≡ slice_index_or slots at slot → (d : SlotValue)
    → slice_index_or slots at d ≡ slot
any_slot slots number at there slot is d =
    same_Some (slice_index_or slots at d) (slice_index_or slots at slot) (sym (slot_was slots number at there d) ∙ slot_was slots number at there slot) ∙ sym is

-- what is read there twice is the same
pub due_again : (slots : List SlotValue) (number at : ℕ) → spot 0 slots number ≡ Some at → (slot : SlotValue) → slot ≡ slice_index_or slots at slot → (again : SlotValue)
    → again ≡ slice_index_or slots at again → (b : Bool) → due_by slot.vanish slot.counted ≡ b → due_by again.vanish again.counted ≡ b
due_again slots number at there slot is again again_is b e =
    ap (λ (x : SlotValue). due_by x.vanish x.counted) (index_same slots number at there again slot again_is is) ∙ e

-- there is room for a death notice
pub room_for_notice : (w : World) → HasRoom w → HasRoomForNotice w
room_for_notice w h = record {
  events = omega (arith, h.events);
  last = h.last;
  last_empty = h.last_empty;
  few_events = omega (arith, h.few_events);
}

-- ---- the slot of a node, once there is room

module _ (old mid : World) (same : seen_as mid ≡ seen_as old) (number at : ℕ) (there : spot 0 old.slots.items number ≡ Some at) (slot : SlotValue)
    (is : slot ≡ slice_index_or old.slots.items at slot) where
  slot_mid : (d : SlotValue) → slice_index_or mid.slots.items at d ≡ slot
  slot_mid d = ap (λ (w : WorldValue). slice_index_or w.slots at d) same ∙ any_slot old.slots.items number at there slot is d

  pub is_there_so : (v : NodeValue) → slot.node ≡ Some v → IsThere mid number at
  is_there_so v e = record {
    spot_is = ap (λ (w : WorldValue). spot 0 w.slots number) same ∙ there;
    node = v;
    node_is = λ d. ap (λ (x : SlotValue). x.node) (slot_mid d) ∙ e;
  }

  pub more_so : has_more slot.node ≡ true → (d : SlotValue) → has_more (slice_index_or mid.slots.items at d).node ≡ true
  more_so more d = ap (λ (x : SlotValue). has_more x.node) (slot_mid d) ∙ more

-- a turn from there is one from here
pub turned_from : (old mid new : World) → seen_as mid ≡ seen_as old → (number : ℕ) (turned : Turned) → HasTurned number mid turned new → LogsAreServed → (script : Script)
    → Stands script (seen_as old) → Stands script (seen_as new) × TurnsTo script number (seen_as old) turned (seen_as new)
unfolding HasTurned
turned_from old mid new same number turned h logs script =
    subst (λ (w : WorldValue). Stands script w → Stands script (seen_as new) × TurnsTo script number w turned (seen_as new)) same (h logs script)

-- so is an end
ended_from : (old mid new : World) → seen_as mid ≡ seen_as old → (number : ℕ) (ending : Ending) (turned : Turned) → HasEnded number ending mid turned new
    → HasEnded number ending old turned new
unfolding HasEnded
ended_from old mid new same number ending turned h logs script =
    subst (λ (w : WorldValue). StandsBut number script w → (turned ≡ turned_so.Ended ending) × Ends script number ending w (seen_as new)) same (h logs script)

-- a node vanishes
pub vanished_from : (old mid new : World) → seen_as mid ≡ seen_as old → (number at : ℕ) → spot 0 old.slots.items number ≡ Some at → (slot : SlotValue)
    → slot ≡ slice_index_or old.slots.items at slot → (v : NodeValue) → slot.node ≡ Some v → (turned : Turned) → HasEnded number ending_of.Vanished mid turned new
    → LogsAreServed → (script : Script) → Stands script (seen_as old) → Stands script (seen_as new) × VanishesTo script number (seen_as old) true (seen_as new)
unfolding HasEnded
vanished_from old mid new same number at there slot is v e turned h logs script s =
    vanishes script (seen_as old) s number slot (slot_there old.slots.items number at there slot is) v e (seen_as new)
    (ended_from old mid new same number ending_of.Vanished turned h logs script (stands_but script (seen_as old) s.on number)).1

-- ---- a turn of a node that has more to do

module _ (old : World) (number at : ℕ) (there : IsThere old number at) (more : (d : SlotValue) → has_more (slice_index_or old.slots.items at d).node ≡ true)
    (slot : SlotValue) (is : slot ≡ slice_index_or old.slots.items at slot) where
  was : slot_of old.slots.items number ≡ Some slot
  was = slot_there old.slots.items number at there.spot_is slot is

  has : has_more slot.node ≡ true
  has = ap (λ (x : SlotValue). has_more x.node) is ∙ more slot

  -- it may make a request more
  pub runs_so : due_by slot.vanish slot.counted ≡ false → (budget : ℕ) → budget ≡ old.terms.budget → budget < 2 ^ 32 → spent_by slot budget ≡ false
      → Runs old.terms slot
  runs_so due budget is_budget fits spent = record {
    more = has;
    due = due;
    made = by (spent_not slot budget old.terms.budget is_budget spent);
    fits = subst (λ (k : ℕ). k < 2 ^ 32) is_budget fits;
  }
    where
      by : (has_more slot.node ≡ false) ⊎ (slot.made < old.terms.budget) → slot.made < old.terms.budget
      by (inl f) = absurd (none_false (sym has ∙ f))
      by (inr f) = f

  pub runs_any : Runs old.terms slot → (d : SlotValue) → Runs old.terms (slice_index_or old.slots.items at d)
  runs_any h d = subst (λ (x : SlotValue). Runs old.terms x) (sym (any_slot old.slots.items number at there.spot_is slot is d)) h

  module _ (turned : Turned) (new : World) where
    pub turns_due : due_by slot.vanish slot.counted ≡ true → HasEnded number ending_of.Vanished old turned new → HasTurned number old turned new
    unfolding HasEnded HasTurned
    turns_due due h logs script s =
        let e = h logs script (stands_but script (seen_as old) s.on number) in
        subst (λ (t : Turned). Stands script (seen_as new) × TurnsTo script number (seen_as old) t (seen_as new)) (sym e.0)
        (ends_due script (seen_as old) s number slot was due (seen_as new) e.1)

    pub turns_spent : due_by slot.vanish slot.counted ≡ false → (budget : ℕ) → budget ≡ old.terms.budget → spent_by slot budget ≡ true → HasEnded number ending_of.Spent old turned new
        → HasTurned number old turned new
    unfolding HasEnded HasTurned
    turns_spent due budget is_budget spent h logs script s =
        let e = h logs script (stands_but script (seen_as old) s.on number) in
        subst (λ (t : Turned). Stands script (seen_as new) × TurnsTo script number (seen_as old) t (seen_as new)) (sym e.0)
        (ends_spent script (seen_as old) s number slot was has due (spent_parts slot budget old.terms.budget is_budget spent).1 (seen_as new) e.1)

    -- there was no memory to serve its request
    pub turns_wanting : Runs old.terms slot → (mid : World) → seen_as mid ≡ seen_as old → HasEnded number ending_of.OutOfMemory mid turned new
        → HasTurned number old turned new
    unfolding HasEnded HasTurned
    turns_wanting runs mid same h logs script s =
        let e = ended_from old mid new same number ending_of.OutOfMemory turned h logs script (stands_but script (seen_as old) s.on number) in
        subst (λ (t : Turned). Stands script (seen_as new) × TurnsTo script number (seen_as old) t (seen_as new)) (sym e.0)
        (ends_wanting script (seen_as old) s number slot was has runs.due runs.made (seen_as new) e.1)

    -- it has made its request
    pub turns_on : Runs old.terms slot → (mid : World) (wants : Bool)
        → (LogsAreServed → (script : Script) → StandsOn script (seen_as old) → Goes script number (seen_as old) wants (seen_as mid))
        → HasGoneOn number wants mid turned new → HasTurned number old turned new
    unfolding HasGoneOn HasTurned
    turns_on runs mid wants made h logs script s = h logs script (seen_as old) s slot was runs (made logs script s.on)

-- ---- behind its request

module _ (mid : World) (number at : ℕ) (there : IsThere mid number at) (after : SlotValue) (is : after ≡ slice_index_or mid.slots.items at after) (wants : Bool)
    (turned : Turned) (new : World) where
  after_is : slot_of mid.slots.items number ≡ Some after
  after_is = slot_there mid.slots.items number at there.spot_is after is

  pub goes_due : due_by after.vanish after.counted ≡ true → HasEnded number ending_of.Vanished mid turned new → HasGoneOn number wants mid turned new
  unfolding HasEnded HasGoneOn
  goes_due due h logs script w s slot was runs g =
      let e = h logs script (may_vanish script w s number slot was runs.more runs.due runs.made (seen_as mid) wants g after after_is) in
      subst (λ (t : Turned). Stands script (seen_as new) × TurnsTo script number w t (seen_as new)) (sym e.0)
      (then_due script w s number slot was runs.more runs.due runs.made (seen_as mid) wants g after after_is due (seen_as new) e.1)

  pub goes_wanting : wants ≡ true → due_by after.vanish after.counted ≡ false → HasEnded number ending_of.OutOfMemory mid turned new
      → HasGoneOn number wants mid turned new
  unfolding HasEnded HasGoneOn
  goes_wanting want due h logs script w s slot was runs g =
      let e = h logs script (may_vanish script w s number slot was runs.more runs.due runs.made (seen_as mid) wants g after after_is) in
      subst (λ (t : Turned). Stands script (seen_as new) × TurnsTo script number w t (seen_as new)) (sym e.0)
      (then_wanting script w s number slot was runs.more runs.due runs.made (seen_as mid) wants g after after_is want due (seen_as new) e.1)

  pub goes_spent : wants ≡ false → due_by after.vanish after.counted ≡ false → (budget : ℕ) → budget ≡ mid.terms.budget → spent_by after budget ≡ true
      → HasEnded number ending_of.Spent mid turned new → HasGoneOn number wants mid turned new
  unfolding HasEnded HasGoneOn
  goes_spent plain due budget is_budget spent h logs script w s slot was runs g =
      let parts = spent_parts after budget mid.terms.budget is_budget spent in
      let e = h logs script (may_vanish script w s number slot was runs.more runs.due runs.made (seen_as mid) wants g after after_is) in
      subst (λ (t : Turned). Stands script (seen_as new) × TurnsTo script number w t (seen_as new)) (sym e.0)
      (then_spent script w s number slot was runs.more runs.due runs.made (seen_as mid) (subst (λ (b : Bool). Goes script number w b (seen_as mid)) plain g) after after_is
      parts.0 due parts.1 (seen_as new) e.1)

-- and stays
pub goes_went : (mid : World) (number at : ℕ) → IsThere mid number at → (after : SlotValue) → after ≡ slice_index_or mid.slots.items at after → (wants : Bool)
    → wants ≡ false → due_by after.vanish after.counted ≡ false → (budget : ℕ) → budget ≡ mid.terms.budget → spent_by after budget ≡ false
    → HasGoneOn number wants mid turned_so.Went mid
unfolding HasGoneOn
goes_went mid number at there after is wants plain due budget is_budget spent logs script w s slot was runs g =
    went script w s number slot was runs.more runs.due runs.made (seen_as mid) (subst (λ (b : Bool). Goes script number w b (seen_as mid)) plain g) after
    (slot_there mid.slots.items number at there.spot_is after is) there.node (ap (λ (x : SlotValue). x.node) is ∙ there.node_is after) due
    (spent_not after budget mid.terms.budget is_budget spent)

-- ---- whether a node is there

pub node_there : (o : Option NodeValue) (b : Bool) → is_some o ≡ not b → b ≡ false → (v : NodeValue) × (o ≡ Some v)
node_there None true e f = absurd (none_false f)
node_there None false e f = absurd (none_false (sym e))
node_there (Some v) b e f = (v, refl)

pub none_there : (o : Option NodeValue) (b : Bool) → is_some o ≡ not b → b ≡ true → o ≡ None
none_there None b e f = refl
none_there (Some v) true e f = absurd (none_false e)
none_there (Some v) false e f = absurd (none_false (sym f))
