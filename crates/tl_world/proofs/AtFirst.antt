-- The world of a run stands as it opens.
use Rattle.std.proofs.Common.{◌≡◌, ℕ, zero, suc, ◌+◌, ◌<◌, ◌≤◌, Bool, true, false, List, [], ◌∷◌, ◌++◌, get_or, length, take, Option, Some, None, refl, sym, ap, ◌∙◌, subst, arith}
use Rattle.std.specs.Prelude.{◌==◌, ◌^◌, find, if◌then◌else◌}
use Rattle.std.specs.List.{AllByRecursion}
use Rattle.std.proofs.lemmas.List.{take_more}
use Rattle.tl_base.specs.declared.place.Settings.{Settings}
use Rattle.tl_schema.specs.declared.catalog.Catalog.{Catalog}
use Rattle.tl_isolation.specs.declared.bound.Bound.{Bound}
use Rattle.tl_isolation.specs.declared.script.Script.{Script}
use Rattle.tl_isolation.specs.declared.script.Session.{Session}
use Rattle.tl_isolation.specs.declared.script.Vanish.{Vanish}
use Rattle.tl_journal.specs.Binding.{IsBound}
use Rattle.tl_journal.specs.Node.{Node, opening_node, owed_by}
use Rattle.tl_places.specs.Places.{AreAt, PlacesState}
use Rattle.tl_node.specs.Seen.{seen}
use Rattle.tl_world.specs.Opening.{AreOpened, IsOpened}
use Rattle.tl_world.specs.Premises.{LogsAreServed}
use Rattle.tl_world.specs.Stands.{HasSlot, IsNode, IsRunning, IsSlot, SlotValue, Stands, StandsOn, WorldValue, counted_by, slot_of}

true_false : true ≡ false → ⊥
true_false e = cc

false_true : false ≡ true → ⊥
false_true e = cc

none_counted : (v : Option Vanish) → counted_by v [] ≡ 0
none_counted None = refl
none_counted (Some v) = refl

module _ (script : Script) (settings : Settings) where
  -- it is to recover nobody
  owed_first : (session : Session) → owed_by (seen settings script.catalog (opening_node settings session)).doing ≡ owed_by (opening_node settings session).doing
  owed_first session = by session.statements
    where
      by : (todo : List Bound)
          → owed_by (seen settings script.catalog (record (opening_node settings session) { todo = todo })).doing ≡ owed_by (opening_node settings session).doing
      by [] = refl
      by (statement ∷ later) = refl

  slot_first : (session : Session) (slot : SlotValue) → IsOpened script settings script.catalog session slot
      → IsSlot (IsRunning script settings [] session) script [] session slot
  slot_first session slot h = record {
    node_is = subst (λ o. IsNode (IsRunning script settings [] session) [] session.node o) (sym h.node_is) (
      refl,
      record {
        statements = h.statements;
        stands = h.stands;
        owed = ap (λ (n : Node). owed_by n.doing) h.stands.node_is ∙ owed_first session;
        goes_on = refl;
      },
    );
    made_is = h.made_is;
    counted_is = h.counted_is ∙ sym (none_counted slot.vanish);
    vanish_is = h.vanish_is;
  }

  pick : (a b : Bool) (session : Session) (slot : SlotValue) (o : Option Session) (x : Option SlotValue) → a ≡ b
      → IsSlot (IsRunning script settings [] session) script [] session slot → HasSlot (IsRunning script settings []) script [] o x
      → HasSlot (IsRunning script settings []) script [] (if a then Some session else o) (if b then Some slot else x)
  pick true true session slot o x e h g = h
  pick true false session slot o x e h g = absurd (true_false e)
  pick false true session slot o x e h g = absurd (false_true e)
  pick false false session slot o x e h g = g

  slots_first : (sessions : List Session) (slots : List SlotValue) → AreOpened script settings script.catalog sessions slots → (node : ℕ)
      → HasSlot (IsRunning script settings []) script [] (find (λ (s : Session). s.node == node) sessions) (slot_of slots node)
  slots_first [] [] h node = tt
  slots_first [] (slot ∷ slots) h node = absurd h
  slots_first (session ∷ sessions) [] h node = absurd h
  slots_first (session ∷ sessions) (slot ∷ slots) h node =
      pick (session.node == node) (slot.number == node) session slot (find (λ (s : Session). s.node == node) sessions) (slot_of slots node)
      (ap (λ k. k == node) (sym h.0.number_is)) (slot_first session slot h.0) (slots_first sessions slots h.1 node)

-- one session more has its slot
pub opened_more : (script : Script) (settings : Settings) (catalog : Catalog) (sessions : List Session) (slots : List SlotValue) (session : Session) (slot : SlotValue)
    → AreOpened script settings catalog sessions slots → IsOpened script settings catalog session slot
    → AreOpened script settings catalog (sessions ++ session ∷ []) (slots ++ slot ∷ [])
opened_more script settings catalog [] [] session slot h g = (g, tt)
opened_more script settings catalog [] (x ∷ slots) session slot h g = absurd h
opened_more script settings catalog (s ∷ sessions) [] session slot h g = absurd h
opened_more script settings catalog (s ∷ sessions) (x ∷ slots) session slot h g = (h.0, opened_more script settings catalog sessions slots session slot h.1 g)

-- what holds of each of a list holds of the one at this place
pub at_each : {X : Type 0} (P : X → Type 0) (xs : List X) (at : ℕ) (x : X) → AllByRecursion P xs → at < length xs → x ≡ get_or xs at x → P x
at_each P [] at x h lt e = absurd (omega arith)
at_each P (y ∷ ys) zero x h lt e = subst P (sym e) h.0
at_each P (y ∷ ys) (suc at) x h lt e = at_each P ys at x h.1 (omega arith) e

-- so it goes on, session by session
pub opened_next : (script : Script) (settings : Settings) (catalog : Catalog) (sessions : List Session) (slots : List SlotValue) (at : ℕ) (session : Session)
    (slot : SlotValue) → at < length sessions → session ≡ get_or sessions at session → IsOpened script settings catalog session slot
    → AreOpened script settings catalog (take at sessions) slots → AreOpened script settings catalog (take (at + 1) sessions) (slots ++ slot ∷ [])
opened_next script settings catalog sessions slots at session slot within is opened h =
    subst (λ (xs : List Session). AreOpened script settings catalog xs (slots ++ slot ∷ []))
    (sym (take_more sessions at session within ∙ ap (λ (x : Session). take at sessions ++ x ∷ []) (sym is)))
    (opened_more script settings catalog (take at sessions) slots session slot h opened)

-- the world before the first request
abbrev pub first_world : Settings → PlacesState → List SlotValue → WorldValue
first_world settings places slots = record { settings = settings; places = places; slots = slots; commits = 0 ∷ []; events = [] }

pub opens : LogsAreServed → (script : Script) (settings : Settings) → IsBound script settings → 1 ≤ settings.shards → settings.shards ≤ 16 → 1 ≤ settings.managers
    → settings.managers ≤ 4 → length script.rows < 2 ^ 32
    → (places : PlacesState) → AreAt script settings [] places → (slots : List SlotValue) → AreOpened script settings script.catalog script.sessions slots
    → StandsOn script (first_world settings places slots)
opens served_law script settings bound shards few_shards managers few_managers few places at slots h = record {
  bound = bound;
  shards = shards;
  few_shards = few_shards;
  managers = managers;
  few_managers = few_managers;
  few_rows = few;
  few = omega arith;
  trace = record { served = served_law script settings [] places at tt; events_are = tt };
  places = at;
  slots = λ node. slots_first script settings script.sessions slots h node;
  commits = refl;
}

-- nothing was asked, so nobody ended or owes a notice
settles : (script : Script) (settings : Settings) (places : PlacesState) (slots : List SlotValue) → StandsOn script (first_world settings places slots)
    → Stands script (first_world settings places slots)
settles script settings places slots on = record { on = on; endings = record { each = tt; prompt = tt; settled = λ node. refl } }

-- by what the parts of a new world are
pub opens_so : LogsAreServed → (script : Script) (settings : Settings) → IsBound script settings → 1 ≤ settings.shards → settings.shards ≤ 16 → 1 ≤ settings.managers
    → settings.managers ≤ 4 → length script.rows < 2 ^ 32
    → (w : WorldValue) → w.settings ≡ settings → AreAt script w.settings [] w.places → AreOpened script settings script.catalog script.sessions w.slots → w.commits ≡ 0 ∷ []
    → w.events ≡ [] → Stands script w
opens_so served_law script settings bound shards few_shards managers few_managers few w e at h f g =
    subst (λ x. Stands script x)
    (sym (λ i. record { settings = e i; places = w.places; slots = w.slots; commits = f i; events = g i }))
    (settles script settings w.places w.slots
    (opens served_law script settings bound shards few_shards managers few_managers few w.places (subst (λ x. AreAt script x [] w.places) e at) w.slots h))
