-- What holds of a run so far, before each turn, and what holds at its end.
use Rattle.std.proofs.Common.{◌≡◌, ◌∙◌, inl, inr, ℕ, ◌+◌, ◌<◌, ◌≤◌, Bool, true, false, List, [], ◌∷◌, ◌++◌, Option, Some, None, length, append_assoc, append-nil, length-append, ap, refl, sym, subst, arith}
use Rattle.std.specs.Prelude.{◌==◌, ◌&&◌, ◌||◌, not, if◌then◌else◌}
use Rattle.std.proofs.lemmas.Bool.{both_ways, or_left}
use Rattle.tl_lemmas.proofs.Lists.{found}
use Rattle.tl_base.specs.Along.{Along}
use Rattle.tl_base.specs.declared.place.Settings.{Settings}
use Rattle.tl_isolation.specs.declared.entry.Ending.{Ending}
use Rattle.tl_isolation.specs.declared.entry.Ending.TheVariants as ending
use Rattle.tl_isolation.specs.declared.entry.Entry.TheVariants as entry
use Rattle.tl_isolation.specs.declared.script.Script.{Script}
use Rattle.tl_isolation.specs.declared.script.Session.{Session}
use Rattle.tl_isolation.specs.declared.script.TurnItem.{TurnItem}
use Rattle.tl_journal.specs.Outcome.{HasRun}
use Rattle.tl_journal.specs.declared.event.Event.{Event}
use Rattle.tl_journal.specs.Journal.{has_vanished, is_post, session_of}
use Rattle.tl_journal.specs.Binding.{IsBound}
use Rattle.tl_journal.specs.Law.{IsRun}
use Rattle.tl_journal.specs.Run.{EndsAt}
use Rattle.tl_journal.specs.Schedule.{Clock, EndsSo, InTurn, MayAsk, clock_after, gave_none, is_behind, is_done, is_due, is_over, is_spent, latest, next_round, owes_notice, owing, turn_at, unfinished}
use Rattle.tl_journal.proofs.InOrder.{along_one, latest_more}
use Rattle.tl_journal.proofs.Opens.{found_number}
use Rattle.tl_world.specs.declared.world.Turned.{Turned}
use Rattle.tl_world.specs.declared.world.Turned.TheVariants as turned
use Rattle.tl_world.specs.Stands.{Stands, WorldValue}
use Rattle.tl_world.specs.Turns.{EndsBehind, IsDirect, IsNotice, IsRequestOf, TurnsTo}
use Rattle.tl_turns.specs.Clock.{after_turn, clock_of, passed}
use Rattle.tl_turns.specs.declared.clock.Clock as code
use Rattle.tl_turns.proofs.Clocks.{Agree, after_more, agree_later, agree_turned, behind_own, behind_stays, clock_then, same_turn}
use Rattle.tl_turns.proofs.Finished.{no_turn, turn_runs}
use Rattle.tl_turns.proofs.Refusals.{none_refused}
use Rattle.tl_turns.proofs.Rounds.{all_over}

-- the events so far end and take turns as they should
pub record IsSoFar (script : Script) (settings : Settings) (events : List Event) : Type 0 where
  pub ends : Along (EndsAt script settings) [] events
  pub in_turn : Along (InTurn script settings) [] events

-- and no notice is owed
abbrev Settled : Script → Settings → List Event → Type 0
Settled script settings events = (node : ℕ) → owes_notice script settings events node ≡ false

-- the clock has come as far as the schedule's
pub record Follows (script : Script) (events : List Event) (c : code.Clock) : Type 0 where
  pub agrees : Agree script events (clock_of c) (clock_after script events)
  pub count : c.events ≡ length events

pub nothing_yet : (script : Script) (settings : Settings) → IsSoFar script settings []
nothing_yet script settings = record { ends = tt; in_turn = tt }

-- ---- one event

module _ (script : Script) (settings : Settings) (past : List Event) where
  none_owing : Settled script settings past → owing script settings past ≡ None
  none_owing settled = by (latest past) refl
    where
      by : (o : Option Event) → latest past ≡ o → owing script settings past ≡ None
      by None e = rw e refl
      by (Some before) e = rw e (ap (λ (b : Bool). if b then Some before.node else None) (settled before.node))

  in_turn_at : (e : Event) → owing script settings past ≡ None → turn_at script past (clock_after script past) ≡ Some e.node → InTurn script settings past e
  in_turn_at e owes turn = rw owes (inr turn)

  -- who owes a notice directly behind its request
  owing_if : (e : Event) (b : Bool) → owes_notice script settings (past ++ e ∷ []) e.node ≡ b
      → owing script settings (past ++ e ∷ []) ≡ (if b then Some e.node else None)
  owing_if e b h = rw (latest_more past e) (ap (λ (c : Bool). if c then Some e.node else None) h)

  -- a notice behind a request of its node
  notice_in_turn : (e f : Event) (so : Ending) → f.node ≡ e.node → is_post f.request ≡ true → IsDirect script settings (past ++ e ∷ []) e.node so
      → InTurn script settings (past ++ e ∷ []) f
  notice_in_turn e f so own post (inl owed) = rw (owing_if e true owed) (own, post)
  notice_in_turn e f so own post (inr wanted) = by (owes_notice script settings (past ++ e ∷ []) e.node) refl
    where
      none : gave_none f.node (past ++ e ∷ []) ≡ true
      none = ap (λ (n : ℕ). gave_none n (past ++ e ∷ [])) own ∙ wanted.1

      by : (b : Bool) → owes_notice script settings (past ++ e ∷ []) e.node ≡ b → InTurn script settings (past ++ e ∷ []) f
      by true h = rw (owing_if e true h) (own, post)
      by false h = rw (owing_if e false h) (inl (behind_own past e f (sym own) post, none))

-- ---- one turn

module _ (script : Script) (settings : Settings) (past : List Event) (h : IsSoFar script settings past) (settled : Settled script settings past) (node : ℕ)
    (turn : turn_at script past (clock_after script past) ≡ Some node) where
  first_in_turn : (e : Event) → e.node ≡ node → InTurn script settings past e
  first_in_turn e own = in_turn_at script settings past e (none_owing script settings past settled) (turn ∙ ap (λ (n : ℕ). Some n) (sym own))

  request_ends : (e : Event) → IsRequestOf node e → MayAsk script settings past node → EndsAt script settings past e
  request_ends e r may = inr (r.request, subst (λ (n : ℕ). MayAsk script settings past n) (sym r.of_node) may)

  notice_ends : (before : List Event) (e : Event) (so : Ending) → IsNotice node so e → EndsSo script settings before node so → EndsAt script settings before e
  notice_ends before e so n ends =
      inl (
        n.notice,
        (
          so,
          n.entries ∙ ap (λ (k : ℕ). entry.Vanished k so ∷ []) (sym n.of_node),
          subst (λ (k : ℕ). EndsSo script settings before k so) (sym n.of_node) ends,
        ),
      )

  -- it made a request
  went : (e : Event) → IsRequestOf node e → MayAsk script settings past node → IsSoFar script settings (past ++ e ∷ [])
  went e r may = record {
    ends = along_one (EndsAt script settings) past e h.ends (request_ends e r may);
    in_turn = along_one (InTurn script settings) past e h.in_turn (first_in_turn e r.of_node);
  }

  -- it ended without a request
  ended : (e : Event) (so : Ending) → IsNotice node so e → EndsSo script settings past node so → IsSoFar script settings (past ++ e ∷ [])
  ended e so n ends = record {
    ends = along_one (EndsAt script settings) past e h.ends (notice_ends past e so n ends);
    in_turn = along_one (InTurn script settings) past e h.in_turn (first_in_turn e n.of_node);
  }

  -- it ended behind a request
  ended_behind : (e f : Event) (so : Ending) → IsRequestOf node e → MayAsk script settings past node → EndsSo script settings (past ++ e ∷ []) node so
      → IsDirect script settings (past ++ e ∷ []) node so → IsNotice node so f → IsSoFar script settings ((past ++ e ∷ []) ++ f ∷ [])
  ended_behind e f so r may ends direct n = record {
    ends = along_one (EndsAt script settings) (past ++ e ∷ []) f (along_one (EndsAt script settings) past e h.ends (request_ends e r may))
        (notice_ends (past ++ e ∷ []) f so n ends);
    in_turn = along_one (InTurn script settings) (past ++ e ∷ []) f (along_one (InTurn script settings) past e h.in_turn (first_in_turn e r.of_node))
        (notice_in_turn script settings past e f so (n.of_node ∙ sym r.of_node) n.notice
        (subst (λ (k : ℕ). IsDirect script settings (past ++ e ∷ []) k so) (sym r.of_node) direct));
  }

-- what a turn adds: an event of the node, and behind it at most its death notice
pub record Adds (script : Script) (node : ℕ) (past new : List Event) : Type 0 where
  pub first : Event
  pub own : first.node ≡ node
  pub rest : List Event
  pub events : new ≡ past ++ first ∷ rest
  pub agrees : (c : Clock) → Agree script (past ++ first ∷ []) c (clock_after script (past ++ first ∷ [])) → Agree script new c (clock_after script new)

record Turns (script : Script) (settings : Settings) (node : ℕ) (past new : List Event) : Type 0 where
  pub so_far : IsSoFar script settings new
  pub adds : Adds script node past new

module _ (script : Script) (old : WorldValue) (h : IsSoFar script old.settings old.events) (settled : Settled script old.settings old.events) (node : ℕ)
    (turn : turn_at script old.events (clock_after script old.events) ≡ Some node) where
  one_added : (e : Event) → e.node ≡ node → (new : List Event) → new ≡ old.events ++ e ∷ [] → IsSoFar script old.settings (old.events ++ e ∷ [])
      → Turns script old.settings node old.events new
  one_added e own new is so = record {
    so_far = subst (λ (es : List Event). IsSoFar script old.settings es) (sym is) so;
    adds = record {
      first = e;
      own = own;
      rest = [];
      events = is;
      agrees = λ c a. subst (λ (es : List Event). Agree script es c (clock_after script es)) (sym is) a;
    };
  }

  two_added : (e f : Event) → e.node ≡ node → f.node ≡ node → is_post f.request ≡ true → (new : List Event) → new ≡ (old.events ++ e ∷ []) ++ f ∷ []
      → IsSoFar script old.settings ((old.events ++ e ∷ []) ++ f ∷ []) → Turns script old.settings node old.events new
  two_added e f own of_node post new is so =
      let stays : clock_after script ((old.events ++ e ∷ []) ++ f ∷ []) ≡ clock_after script (old.events ++ e ∷ []) =
      after_more script (old.events ++ e ∷ []) f ∙ behind_stays script old.events e f (clock_after script (old.events ++ e ∷ [])) (own ∙ sym of_node) post in
      record {
        so_far = subst (λ (es : List Event). IsSoFar script old.settings es) (sym is) so;
        adds = record {
          first = e;
          own = own;
          rest = f ∷ [];
          events = is ∙ append_assoc old.events (e ∷ []) (f ∷ []);
          agrees = λ c a.
              subst (λ (es : List Event). Agree script es c (clock_after script es)) (sym is)
              (subst (λ (x : Clock). Agree script ((old.events ++ e ∷ []) ++ f ∷ []) c x) (sym stays)
              (agree_later script (old.events ++ e ∷ []) (f ∷ []) c (clock_after script (old.events ++ e ∷ [])) a));
        };
      }

  ends_turn : (so : Ending) (es : List Event) (e : Event) (new : List Event) → new ≡ (old.events ++ es) ++ e ∷ [] → EndsBehind script node old so es → IsNotice node so e
      → Turns script old.settings node old.events new
  ends_turn so [] e new is ends n =
      one_added e n.of_node new (is ∙ ap (λ (es : List Event). es ++ e ∷ []) (append-nil old.events)) (ended script old.settings old.events h settled node turn e so n ends)
  ends_turn so (f ∷ []) e new is ends n =
      two_added f e ends.0.of_node n.of_node n.notice new is (ended_behind script old.settings old.events h settled node turn f e so ends.0 ends.1 ends.2 ends.3 n)
  ends_turn so (f ∷ g ∷ es) e new is ends n = absurd ends

  turns : (t : Turned) (new : WorldValue) → TurnsTo script node old t new → Turns script old.settings node old.events new.events
  turns turned.Done new t =
      absurd (both_ways (is_over script old.events node) (turn_runs script old.events (clock_after script old.events) node turn) t.1)
  turns turned.Went new t =
      one_added t.1 t.3.of_node new.events t.2
      (went script old.settings old.events h settled node turn t.1 t.3 t.4)
  turns (turned.Ended so) new t = ends_turn so t.1 t.2 new.events t.3 t.4 t.5

settings_stay : (script : Script) (node : ℕ) (old new : WorldValue) (t : Turned) → TurnsTo script node old t new → new.settings ≡ old.settings
settings_stay script node old new turned.Done t = ap (λ (w : WorldValue). w.settings) t.0
settings_stay script node old new turned.Went t = t.0
settings_stay script node old new (turned.Ended so) t = t.0

-- ---- the whole run

-- what holds before each turn
pub record Holds (script : Script) (settings : Settings) (w : WorldValue) (c : code.Clock) : Type 0 where
  pub stands : Stands script w
  pub settings_are : w.settings ≡ settings
  pub so_far : IsSoFar script w.settings w.events
  pub follows : Follows script w.events c

-- before the first one
pub begins : (script : Script) (settings : Settings) (w : WorldValue) (c : code.Clock) → Stands script w → w.settings ≡ settings → w.events ≡ []
    → (clock_of c).items ≡ script.turns → c.last ≡ 0 → c.events ≡ 0 → Holds script settings w c
begins script settings w c stands same none items last count = record {
  stands = stands;
  settings_are = same;
  so_far = subst (λ (es : List Event). IsSoFar script w.settings es) (sym none) (nothing_yet script w.settings);
  follows = subst (λ (es : List Event). Follows script es c) (sym none)
      (record { agrees = record { items = ap (λ (us : List TurnItem). unfinished script [] us) items; last = last }; count = count });
}

-- what a turn makes of it
pub record Kept (script : Script) (settings : Settings) (old new : WorldValue) (c : code.Clock) : Type 0 where
  pub holds : Holds script settings new c
  pub more : length old.events < length new.events

longer : (past : List Event) (e : Event) (rest new : List Event) → new ≡ past ++ e ∷ rest → length past < length new
longer past e rest new is =
    let both : length (past ++ e ∷ rest) ≡ length past + length (e ∷ rest) = length-append past (e ∷ rest) in
    let same : length new ≡ length (past ++ e ∷ rest) = ap length is in
    omega arith

pub keeps : (script : Script) (settings : Settings) (old new : WorldValue) (node : ℕ) (t : Turned) (c passing after : code.Clock)
    → Holds script settings old c → turn_at script old.events (clock_of c) ≡ Some node
    → clock_of passing ≡ passed script old.events (clock_of c) → passing.events ≡ c.events
    → Stands script new → TurnsTo script node old t new
    → ((past : List Event) (e : Event) (rest : List Event) → new.events ≡ past ++ e ∷ rest → passing.events ≡ length past
    → clock_of after ≡ after_turn past e node (clock_of passing))
    → after.events ≡ length new.events → Kept script settings old new after
keeps script settings old new node t c passing after h turn passes count stands to ticks counts =
    let own : turn_at script old.events (clock_after script old.events) ≡ Some node = sym (same_turn script old.events (clock_of c) (clock_after script old.events) h.follows.agrees) ∙ turn in
    let turned_so : Turns script old.settings node old.events new.events = turns script old h.so_far h.stands.endings.settled node own t new to in
    let a : Adds script node old.events new.events = turned_so.adds in
    let same : new.settings ≡ old.settings = settings_stay script node old new t to in
    let ticked_so : clock_of after ≡ after_turn old.events a.first node (passed script old.events (clock_of c)) =
    ticks old.events a.first a.rest a.events (count ∙ h.follows.count) ∙ ap (after_turn old.events a.first node) passes in
    let agrees : Agree script (old.events ++ a.first ∷ []) (clock_of after) (clock_after script (old.events ++ a.first ∷ [])) =
    subst (λ (x : Clock). Agree script (old.events ++ a.first ∷ []) (clock_of after) x) (sym (after_more script old.events a.first))
    (subst (λ (x : Clock). Agree script (old.events ++ a.first ∷ []) x (clock_then script old.events a.first (clock_after script old.events))) (sym ticked_so)
    (agree_turned script old.events a.first node (clock_of c) (clock_after script old.events) a.own h.follows.agrees)) in
    record {
      holds = record {
        stands = stands;
        settings_are = same ∙ h.settings_are;
        so_far = subst (λ (x : Settings). IsSoFar script x new.events) (sym same) turned_so.so_far;
        follows = record { agrees = a.agrees (clock_of after) agrees; count = counts };
      };
      more = longer old.events a.first a.rest new.events a.events;
    }

-- no node is left out: one that isn't among the sixteen has no session
outside : (script : Script) (settings : Settings) (events : List Event) → IsBound script settings
    → ((n : ℕ) → 1 ≤ n → n ≤ 16 → is_over script events n ≡ true) → (n : ℕ) → is_over script events n ≡ true
outside script settings events bound among n = by (session_of script n) refl
  where
    by : (o : Option Session) → session_of script n ≡ o → is_over script events n ≡ true
    by None e = or_left (is_done script events n) (has_vanished events n) (rw e refl)
    by (Some session) e =
        let own : session.node ≡ n = found_number script.sessions n session e in
        let within : (1 ≤ session.node) × (session.node ≤ 16) =
        found (λ (s : Session). (1 ≤ s.node) × (s.node ≤ 16)) (λ (s : Session). s.node == n) script.sessions session bound.nodes e in
        among n (subst (λ (k : ℕ). 1 ≤ k) own within.0) (subst (λ (k : ℕ). k ≤ 16) own within.1)

-- where it is no node's turn
pub finishes : (script : Script) (settings : Settings) (w : WorldValue) (c : code.Clock) → Holds script settings w c
    → turn_at script w.events (clock_of c) ≡ None → HasRun script settings w.events
finishes script settings w c h none =
    let run : IsRun script w.settings w.events =
    record {
      bound = h.stands.on.bound;
      shards = h.stands.on.shards;
      few_shards = h.stands.on.few_shards;
      managers = h.stands.on.managers;
      few_managers = h.stands.on.few_managers;
      few = h.stands.on.few;
      trace = h.stands.on.trace;
    } in
    let next : next_round script w.events (clock_of c).last ≡ None = no_turn script w.events (clock_of c) none in
    subst (λ (x : Settings). HasRun script x w.events) h.settings_are
    (record {
      journal = record {
        trace = h.stands.on.trace;
        ends = h.so_far.ends;
        answered = none_refused script w.settings w.events run h.stands.on.few_rows;
        in_turn = λ _. h.so_far.in_turn;
      };
      few = h.stands.on.few;
      over = outside script w.settings w.events h.stands.on.bound (all_over (is_over script w.events) (clock_of c).last next);
      settled = h.stands.endings.settled;
    })
