-- One event more: the world after it, by the slot of its node.
use Rattle.std.proofs.Common.{◌≡◌, ◌⊎◌, ℕ, Bool, true, false, List, [], ◌∷◌, ◌++◌, length, Option, Some, None, append-nil, refl, sym, ap, ◌∙◌, subst, inl, inr}
use Rattle.std.specs.Prelude.{◌==◌, ◌&&◌, ◌||◌, not}
use Rattle.std.proofs.lemmas.Bool.{cases_Bool, eqb-true}
use Rattle.std.proofs.lemmas.Option.{none-some}
use Rattle.tl_lemmas.proofs.Tests.{or_without}
use Rattle.tl_lemmas.proofs.Lists.{passes}
use Rattle.tl_base.specs.declared.place.Settings.{Settings}
use Rattle.tl_isolation.specs.declared.script.Script.{Script}
use Rattle.tl_isolation.specs.declared.script.Session.{Session}
use Rattle.tl_isolation.specs.declared.script.Vanish.{Vanish}
use Rattle.tl_isolation.specs.History.{IsHistory, state_after}
use Rattle.tl_isolation.specs.Script.{setup_of}
use Rattle.tl_isolation.specs.State.{opening_state}
use Rattle.tl_protocol.proofs.Reached.{reached}
use Rattle.tl_journal.specs.declared.event.Event.{Event}
use Rattle.tl_journal.specs.Journal.{entries_told, has_vanished, is_post, node_after, posts, session_of}
use Rattle.tl_journal.specs.Law.{IsRun}
use Rattle.tl_journal.specs.Node.{Node, owed_by}
use Rattle.tl_journal.specs.Schedule.{vanish_of}
use Rattle.tl_journal.specs.Strange.{is_stopped}
use Rattle.tl_journal.proofs.Elsewhere.{after_other}
use Rattle.tl_journal.proofs.Journals.{stood_at}
use Rattle.tl_journal.proofs.Logs.{entries_more, node_more, state_more, vanished_more}
use Rattle.tl_journal.proofs.Opens.{found_number}
use Rattle.tl_places.specs.Places.{AreAt, PlacesState}
use Rattle.tl_node.specs.View.{NodeValue, StandsFor}
use Rattle.tl_world.specs.Stands.{HasSlot, IsNode, IsRunning, IsSlot, SlotValue, StandsAs, WorldValue, committed_in, slot_of, with_slot}
use Rattle.tl_world.proofs.Commits.{commits_from, history_behind, tids}
use Rattle.tl_world.proofs.Counting.{counted_stays, requests_stay}
use Rattle.tl_world.proofs.Requests.{node_number}
use Rattle.tl_world.proofs.Slots.{slot_elsewhere, slot_there}

pub run_of : (script : Script) (w : WorldValue) (R : Session → NodeValue → Type 0) → StandsAs R script w → IsRun script w.settings w.events
run_of script w R s = record { bound = s.bound; shards = s.shards; few_shards = s.few_shards; managers = s.managers; few_managers = s.few_managers; few = s.few; trace = s.trace }

pub vanish_own : (script : Script) (node : ℕ) (v : Option Vanish) → v ≡ vanish_of script node → (x : Vanish) → v ≡ Some x → x.node ≡ node
vanish_own script node v e x is = eqb-true x.node node (passes (λ (y : Vanish). y.node == node) script.vanishes x (sym e ∙ is))

-- what holds of the nodes
pub node_so : (P Q : NodeValue → Type 0) (events : List Event) (n : ℕ) (o : Option NodeValue) → ((v : NodeValue) → P v → Q v) → IsNode P events n o → IsNode Q events n o
node_so P Q events n None f h = h
node_so P Q events n (Some v) f h = (h.0, f v h.1)

pub slot_so : (P Q : NodeValue → Type 0) (script : Script) (events : List Event) (session : Session) (slot : SlotValue) → ((v : NodeValue) → P v → Q v)
    → IsSlot P script events session slot → IsSlot Q script events session slot
slot_so P Q script events session slot f h = record {
  node_is = node_so P Q events session.node slot.node f h.node_is;
  made_is = h.made_is;
  counted_is = h.counted_is;
  vanish_is = h.vanish_is;
}

and_first : (a b : Bool) → a ≡ false → a && b ≡ false
and_first false b e = refl
and_first true b e = cc

module _ (script : Script) (settings : Settings) (past : List Event) (run : IsRun script settings past) (e : Event) where
  pub vanished_other : (n : ℕ) → (e.node == n) ≡ false → has_vanished (past ++ e ∷ []) n ≡ has_vanished past n
  vanished_other n apart = vanished_more past e n ∙ or_without (has_vanished past n) (posts n e) (and_first (e.node == n) (is_post e.request) apart)

  pub node_other : (session : Session) → session_of script session.node ≡ Some session → (e.node == session.node) ≡ false → has_vanished past session.node ≡ false
      → node_after settings script (past ++ e ∷ []) session ≡ node_after settings script past session
  node_other session is apart runs =
      node_more settings script past e session
      ∙ after_other settings script e (node_after settings script past session)
      (and_first (e.node == (node_after settings script past session).number) (not (is_post e.request))
      (ap (λ k. e.node == k) (node_number script settings past run session.node session is runs) ∙ apart))

  still_node : (session : Session) (o : Option NodeValue) → session_of script session.node ≡ Some session → (e.node == session.node) ≡ false
      → IsNode (IsRunning script settings past session) past session.node o
      → IsNode (IsRunning script settings (past ++ e ∷ []) session) (past ++ e ∷ []) session.node o
  still_node session None is apart h = vanished_other session.node apart ∙ h
  still_node session (Some v) is apart h = (
    vanished_other session.node apart ∙ h.0,
    record {
      statements = h.1.statements;
      stands = subst (λ (n : Node). StandsFor settings script.catalog n v) (sym (node_other session is apart h.0)) h.1.stands;
      owed = h.1.owed ∙ ap (λ (n : Node). owed_by n.doing) (sym (node_other session is apart h.0));
      goes_on = ap (λ (n : Node). is_stopped n.doing) (node_other session is apart h.0) ∙ h.1.goes_on;
    },
  )

  -- the slot of another node
  still_slot : (session : Session) (slot : SlotValue) → session_of script session.node ≡ Some session → (e.node == session.node) ≡ false
      → IsSlot (IsRunning script settings past session) script past session slot
      → IsSlot (IsRunning script settings (past ++ e ∷ []) session) script (past ++ e ∷ []) session slot
  still_slot session slot is apart h =
      let other : (e.node == session.node) && not (is_post e.request) ≡ false = and_first (e.node == session.node) (not (is_post e.request)) apart in
      record {
        node_is = still_node session slot.node is apart h.node_is;
        made_is = h.made_is ∙ ap length (sym (requests_stay past e session.node other));
        counted_is = h.counted_is ∙ sym (counted_stays past e slot.vanish session.node (vanish_own script session.node slot.vanish h.vanish_is) other);
        vanish_is = h.vanish_is;
      }

-- what was committed so far, and by the event
pub commits_more : (script : Script) (settings : Settings) (past : List Event) (e : Event) → IsRun script settings (past ++ e ∷ [])
    → tids (state_after (setup_of script settings) (entries_told (past ++ e ∷ []))).commits
    ≡ tids (state_after (setup_of script settings) (entries_told past)).commits ++ committed_in e.entries
commits_more script settings past e run =
    let whole : IsRun script settings ((past ++ e ∷ []) ++ []) = subst (IsRun script settings) (sym (append-nil (past ++ e ∷ []))) run in
    let s = stood_at script settings (past ++ e ∷ []) [] whole in
    let history : IsHistory (setup_of script settings) (entries_told (past ++ e ∷ [])) = (reached run.bound.opening s.reach).history in
    ap (λ state. tids state.commits) (state_more script settings past e)
    ∙ commits_from script.catalog (state_after (setup_of script settings) (entries_told past)) e.entries
    (history_behind script.catalog (opening_state (setup_of script settings)) (entries_told past) e.entries
    (subst (IsHistory (setup_of script settings)) (entries_more past e) history))

module _ (script : Script) (w : WorldValue) (R S : Session → NodeValue → Type 0) (s : StandsAs R script w) (e : Event) (session : Session) (slot old : SlotValue)
    (q : PlacesState)
    (ran : (other : Session) (v : NodeValue) → (e.node == other.node) ≡ false → R other v → IsRunning script w.settings w.events other v)
    (run : (other : Session) (v : NodeValue) → (e.node == other.node) ≡ false → IsRunning script w.settings (w.events ++ e ∷ []) other v → S other v)
    (is_session : session_of script e.node ≡ Some session) (was : slot_of w.slots slot.number ≡ Some old) (own : slot.number ≡ e.node)
    (now : IsSlot (S session) script (w.events ++ e ∷ []) session slot) where
  other_slot : (node : ℕ) (o : Option Session) (x : Option SlotValue) → session_of script node ≡ o → (e.node == node) ≡ false → HasSlot R script w.events o x
      → HasSlot S script (w.events ++ e ∷ []) o x
  other_slot node None None is apart h = tt
  other_slot node None (Some x) is apart h = h
  other_slot node (Some other) None is apart h = h
  other_slot node (Some other) (Some x) is apart h =
      let number : other.node ≡ node = found_number script.sessions node other is in
      let away : (e.node == other.node) ≡ false = ap (λ k. e.node == k) number ∙ apart in
      slot_so (IsRunning script w.settings (w.events ++ e ∷ []) other) (S other) script (w.events ++ e ∷ []) other x (λ v. run other v away)
      (still_slot script w.settings w.events (run_of script w R s) e other x (subst (λ k. session_of script k ≡ Some other) (sym number) is) away
      (slot_so (R other) (IsRunning script w.settings w.events other) script w.events other x (λ v. ran other v away) h))

  each_slot : (node : ℕ) → HasSlot S script (w.events ++ e ∷ []) (session_of script node) (slot_of (with_slot slot w.slots) node)
  each_slot node = by (cases_Bool (e.node == node))
    where
      by : (e.node == node ≡ true) ⊎ (e.node == node ≡ false) → HasSlot S script (w.events ++ e ∷ []) (session_of script node) (slot_of (with_slot slot w.slots) node)
      by (inl f) =
          let same : e.node ≡ node = eqb-true e.node node f in
          subst (λ k. HasSlot S script (w.events ++ e ∷ []) (session_of script k) (slot_of (with_slot slot w.slots) k)) same
          (subst (λ o. HasSlot S script (w.events ++ e ∷ []) o (slot_of (with_slot slot w.slots) e.node)) (sym is_session)
          (subst (λ o. HasSlot S script (w.events ++ e ∷ []) (Some session) o) (sym (ap (slot_of (with_slot slot w.slots)) (sym own) ∙ slot_there w.slots slot old was)) now))
      by (inr f) =
          subst (λ o. HasSlot S script (w.events ++ e ∷ []) (session_of script node) o) (sym (slot_elsewhere w.slots slot node (ap (λ k. k == node) own ∙ f)))
          (other_slot node (session_of script node) (slot_of w.slots node) refl f (s.slots node))

  -- the world after it
  pub stands_more : IsRun script w.settings (w.events ++ e ∷ []) → AreAt script w.settings (w.events ++ e ∷ []) q
      → StandsAs S script
      (record { settings = w.settings; places = q; slots = with_slot slot w.slots; commits = w.commits ++ committed_in e.entries; events = w.events ++ e ∷ [] })
  stands_more more at = record {
    bound = s.bound;
    shards = s.shards;
    few_shards = s.few_shards;
    managers = s.managers;
    few_managers = s.few_managers;
    few_rows = s.few_rows;
    few = more.few;
    trace = more.trace;
    places = at;
    slots = each_slot;
    commits = ap (λ xs. xs ++ committed_in e.entries) s.commits ∙ sym (commits_more script w.settings w.events e more);
  }
