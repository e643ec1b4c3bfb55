-- A node ends, and its death notice stands.
use Rattle.std.proofs.Common.{◌≡◌, ℕ, ◌+◌, ◌<◌, Bool, true, false, List, [], ◌∷◌, ◌++◌, length, slice_index_or, slice_set, Option, Some, None, sym, ap, ◌∙◌, subst}
use Rattle.std.specs.Prelude.{◌^◌, ◌↔◌}
use Rattle.tl_lemmas.proofs.Tests.{never_both}
use Rattle.tl_manager.specs.declared.request.ManagerReply.TheVariants as manager
use Rattle.tl_manager.specs.declared.request.ManagerRequest.{ManagerRequest}
use Rattle.tl_manager.specs.declared.request.ManagerRequest.TheVariants as asked_of
use Rattle.tl_manager.specs.declared.request.Reply.{Reply}
use Rattle.tl_manager.specs.declared.request.Reply.TheVariants as reply
use Rattle.tl_isolation.specs.declared.entry.Ending.{Ending}
use Rattle.tl_isolation.specs.declared.entry.Entry.{Entry}
use Rattle.tl_isolation.specs.declared.entry.Entry.TheVariants as entry
use Rattle.tl_isolation.specs.declared.script.Script.{Script}
use Rattle.tl_journal.specs.declared.event.Event.{Event}
use Rattle.tl_journal.specs.Bytes.{home_of}
use Rattle.tl_journal.specs.Node.{owed_by}
use Rattle.tl_journal.proofs.Posted.{home_among}
use Rattle.tl_places.specs.Places.{PlacesState}
use Rattle.tl_node.specs.View.{NodeValue}
use Rattle.tl_world.specs.declared.world.World.{World}
use Rattle.tl_world.specs.Premises.{LogsAreServed}
use Rattle.tl_world.specs.Seen.{IsThere, seen_as}
use Rattle.tl_world.specs.Stands.{SlotValue, StandsBut, ended}
use Rattle.tl_world.specs.Turns.{Ends}
use Rattle.tl_world.proofs.Serving.{Posts, ended_so, post_event}

module _ (old : World) (number at : ℕ) (there : IsThere old number at) (slot : SlotValue) (is : slot ≡ slice_index_or old.slots.items at slot) where
  node_is : slot.node ≡ Some there.node
  node_is = ap (λ (x : SlotValue). x.node) is ∙ there.node_is slot

  -- its slot has a node
  pub never_gone : slot.node ≡ None → ⊥
  never_gone e = by (sym node_is ∙ e)
    where
      by : ◌≡◌ {A = Option NodeValue} (Some there.node) None → ⊥
      by e = cc

  -- its home is one of the managers
  pub home_is : (script : Script) → StandsBut number script (seen_as old) → home_of old.terms number < length old.places.managers
  home_is script s = subst (λ (k : ℕ). home_of old.terms number < k) (sym s.places.manager_count) (home_among old.terms number s.managers)

  pub never_homeless : (home : ℕ) → home ≡ home_of old.terms number → (b : Bool) → (b ≡ true ↔ (home < length old.places.managers)) → b ≡ false → (script : Script)
      → StandsBut number script (seen_as old) → ⊥
  never_homeless home e b has f script s =
      never_both b (has.1 (subst (λ (k : ℕ). k < length old.places.managers) (sym e) (home_is script s))) f

  module _ (ending : Ending) (few : length old.events.items + 1 < 2 ^ 32) (left : SlotValue) (left_is : left ≡ ended slot) where
    node_so : (v : NodeValue) → ◌≡◌ {A = Option NodeValue} (Some v) slot.node → slot.node ≡ Some v
    node_so v e = sym e

    pub has_ended : (v : NodeValue) → ◌≡◌ {A = Option NodeValue} (Some v) slot.node → (home : ℕ) (notice : ManagerRequest) (told : Reply) (entries : List Entry)
        → home ≡ home_of old.terms number → notice ≡ asked_of.Post v.node.number (owed_by v.node.doing) → told ≡ reply.Manager manager.Posted
        → entries ≡ entry.Vanished number ending ∷ [] → (q : PlacesState) → Posts old.places q home notice told → (events : List Event)
        → events ≡ old.events.items ++ post_event number home notice told entries ∷ [] → (script : Script) → LogsAreServed → StandsBut number script (seen_as old)
        → Ends script number ending (seen_as old)
        (record { settings = old.terms; places = q; slots = slice_set old.slots.items at left; commits = old.commits.items; events = events })
    has_ended v e home notice told entries a b c d q posts events events_are script logs s =
        ended_so logs script (seen_as old) number s few at there.spot_is slot is v (node_so v e) ending q (slice_set old.slots.items at left)
        (ap (λ (x : SlotValue). slice_set old.slots.items at x) left_is) home notice told entries a b c d posts events events_are
