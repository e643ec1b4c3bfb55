-- What is known of a running node of a world.
use Rattle.std.proofs.Common.{◌≡◌, ℕ, Bool, true, false, List, Option, Some, None, refl, sym, ap, ◌∙◌, subst}
use Rattle.std.specs.Prelude.{◌==◌}
use Rattle.std.proofs.lemmas.Bool.{eqb-true}
use Rattle.std.proofs.lemmas.Option.{none-some, same_Some}
use Rattle.tl_lemmas.proofs.Lists.{passes}
use Rattle.tl_base.specs.declared.place.Settings.{Settings}
use Rattle.tl_isolation.specs.declared.script.Script.{Script}
use Rattle.tl_isolation.specs.declared.script.Session.{Session}
use Rattle.tl_journal.specs.declared.event.Event.{Event}
use Rattle.tl_journal.specs.Ask.{Ask}
use Rattle.tl_journal.specs.Journal.{has_vanished, node_after, session_of}
use Rattle.tl_journal.specs.Node.{Node}
use Rattle.tl_journal.proofs.Opens.{found_number}
use Rattle.tl_ask.specs.Asked.{asked}
use Rattle.tl_ask.specs.declared.asked.Asked.{Asked}
use Rattle.tl_node.specs.View.{NodeValue, asked_by}
use Rattle.tl_node.proofs.AlikeTold.{number_seen}
use Rattle.tl_world.specs.Stands.{HasSlot, IsLeft, IsLeftIf, IsNode, IsRunning, IsRunningBut, IsSlot, SlotValue, StandsOn, StandsAs, StandsBut, WorldValue, slot_of}
use Rattle.tl_world.proofs.Others.{run_of}
use Rattle.tl_world.proofs.Requests.{node_number}

-- the session of a slot
pub record HasSession (R : Session → NodeValue → Type 0) (script : Script) (w : WorldValue) (number : ℕ) (slot : SlotValue) : Type 0 where
  pub session : Session
  pub is_session : session_of script number ≡ Some session
  pub own : session.node ≡ number
  pub is_slot : IsSlot (R session) script w.events session slot

pub slot_number : (slots : List SlotValue) (number : ℕ) (slot : SlotValue) → slot_of slots number ≡ Some slot → slot.number ≡ number
slot_number slots number slot e = eqb-true slot.number number (passes (λ (s : SlotValue). s.number == number) slots slot e)

pub has_session : (R : Session → NodeValue → Type 0) (script : Script) (w : WorldValue) → StandsAs R script w → (number : ℕ) (slot : SlotValue)
    → slot_of w.slots number ≡ Some slot → HasSession R script w number slot
has_session R script w s number slot was = by (session_of script number) refl (subst (λ o. HasSlot R script w.events (session_of script number) o) was (s.slots number))
  where
    by : (o : Option Session) → session_of script number ≡ o → HasSlot R script w.events o (Some slot) → HasSession R script w number slot
    by None e h = absurd h
    by (Some session) e h = record { session = session; is_session = e; own = found_number script.sessions number session e; is_slot = h }

-- what a node is asked by
pub asked_some : (settings : Settings) (o : Option Ask) (a : Asked) → asked_by settings o ≡ Some a → (ask : Ask) × (o ≡ Some ask) × (asked settings ask ≡ a)
asked_some settings None a e = absurd (none-some a e)
asked_some settings (Some ask) a e = (ask, refl, same_Some (asked settings ask) a e)

-- ---- a node that is about to vanish

left_if : (b : Bool) (number : ℕ) (script : Script) (settings : Settings) (events : List Event) (session : Session) (v : NodeValue) → (number == session.node) ≡ b
    → IsLeftIf b number script settings events session v → IsRunningBut number script settings events session v
left_if b number script settings events session v e h = subst (λ x. IsLeftIf x number script settings events session v) (sym e) h

-- another one runs
pub runs_but : (number : ℕ) (script : Script) (settings : Settings) (events : List Event) (session : Session) (v : NodeValue) → (number == session.node) ≡ false
    → IsRunning script settings events session v → IsRunningBut number script settings events session v
runs_but number script settings events session v e h = left_if false number script settings events session v e h

pub but_runs : (number : ℕ) (script : Script) (settings : Settings) (events : List Event) (session : Session) (v : NodeValue) → (number == session.node) ≡ false
    → IsRunningBut number script settings events session v → IsRunning script settings events session v
but_runs number script settings events session v e h = subst (λ x. IsLeftIf x number script settings events session v) e h

pub left_but : (number : ℕ) (script : Script) (settings : Settings) (events : List Event) (session : Session) (v : NodeValue) → (number == session.node) ≡ true
    → IsLeft number v (node_after settings script events session) → IsRunningBut number script settings events session v
left_but number script settings events session v e h = left_if true number script settings events session v e h

pub but_left : (number : ℕ) (script : Script) (settings : Settings) (events : List Event) (session : Session) (v : NodeValue) → (number == session.node) ≡ true
    → IsRunningBut number script settings events session v → IsLeft number v (node_after settings script events session)
but_left number script settings events session v e h = subst (λ x. IsLeftIf x number script settings events session v) e h

module _ (script : Script) (w : WorldValue) (s : StandsOn script w) (number : ℕ) where
  -- a running node has its number, and is to recover whom the law says
  running_left : (session : Session) (v : NodeValue) → session_of script session.node ≡ Some session → has_vanished w.events session.node ≡ false
      → IsRunning script w.settings w.events session v → IsLeft session.node v (node_after w.settings script w.events session)
  running_left session v is runs h = record {
    own = ap (λ (n : Node). n.number) h.stands.node_is ∙ number_seen w.settings script.catalog (node_after w.settings script w.events session)
        ∙ node_number script w.settings w.events (run_of script w (IsRunning script w.settings w.events) s) session.node session is runs;
    owed = h.owed;
  }

  one_but : (session : Session) (o : Option NodeValue) → session_of script session.node ≡ Some session
      → IsNode (IsRunning script w.settings w.events session) w.events session.node o
      → IsNode (IsRunningBut number script w.settings w.events session) w.events session.node o
  one_but session None is h = h
  one_but session (Some v) is h = (h.0, by (number == session.node) refl)
    where
      by : (b : Bool) → (number == session.node) ≡ b → IsRunningBut number script w.settings w.events session v
      by true e =
          let same : number ≡ session.node = eqb-true number session.node e in
          left_but number script w.settings w.events session v e
          (subst (λ k. IsLeft k v (node_after w.settings script w.events session)) (sym same) (running_left session v is h.0 h.1))
      by false e = runs_but number script w.settings w.events session v e h.1

  slot_but : (node : ℕ) (o : Option Session) (x : Option SlotValue) → session_of script node ≡ o → HasSlot (IsRunning script w.settings w.events) script w.events o x
      → HasSlot (IsRunningBut number script w.settings w.events) script w.events o x
  slot_but node None None is h = tt
  slot_but node None (Some x) is h = h
  slot_but node (Some session) None is h = h
  slot_but node (Some session) (Some x) is h =
      let own : session.node ≡ node = found_number script.sessions node session is in
      record {
        node_is = one_but session x.node (subst (λ k. session_of script k ≡ Some session) (sym own) is) h.node_is;
        made_is = h.made_is;
        counted_is = h.counted_is;
        vanish_is = h.vanish_is;
      }

  -- a world that stands may lose any of its nodes
  pub stands_but : StandsBut number script w
  stands_but = record {
    bound = s.bound;
    shards = s.shards;
    few_shards = s.few_shards;
    managers = s.managers;
    few_managers = s.few_managers;
    few_rows = s.few_rows;
    few = s.few;
    trace = s.trace;
    places = s.places;
    slots = λ node. slot_but node (session_of script node) (slot_of w.slots node) refl (s.slots node);
    commits = s.commits;
  }
