-- The clock that code keeps follows the schedule's.
use Rattle.std.proofs.Common.{◌≡◌, ◌∙◌, ℕ, Bool, true, false, List, [], ◌∷◌, ◌++◌, Some, append_assoc, append-nil, ap, refl, sym}
use Rattle.std.specs.Prelude.{if◌then◌else◌}
use Rattle.std.proofs.lemmas.Bool.{eq-eqb}
use Rattle.tl_isolation.specs.declared.script.Script.{Script}
use Rattle.tl_isolation.specs.declared.script.TurnItem.{TurnItem}
use Rattle.tl_journal.specs.declared.event.Event.{Event}
use Rattle.tl_journal.specs.Journal.{is_post}
use Rattle.tl_journal.specs.Schedule.{Clock, clock_after, clock_from, is_behind, taken, ticked, turn_at, turn_by, unfinished}
use Rattle.tl_journal.proofs.InOrder.{latest_more}
use Rattle.tl_turns.specs.Clock.{after_turn, passed}
use Rattle.tl_turns.proofs.Finished.{passes_again, passes_twice}

-- a notice directly behind an event of its node doesn't
pub behind_own : (past : List Event) (e f : Event) → e.node ≡ f.node → is_post f.request ≡ true → is_behind (past ++ e ∷ []) f ≡ true
behind_own past e f own h = rw (h, latest_more past e) (eq-eqb e.node f.node own)

-- the schedule's clock after one event more
abbrev pub clock_then : Script → List Event → Event → Clock → Clock
clock_then script past e clock = if is_behind past e then clock else ticked e.node (unfinished script past clock.items) clock

from_more : (script : Script) (past : List Event) (clock : Clock) (es : List Event) (e : Event)
    → clock_from script past clock (es ++ e ∷ []) ≡ clock_then script (past ++ es) e (clock_from script past clock es)
from_more script past clock [] e = ap (λ (p : List Event). clock_then script p e clock) (sym (append-nil past))
from_more script past clock (x ∷ es) e =
    from_more script (past ++ x ∷ []) (clock_then script past x clock) es e
    ∙ ap (λ (p : List Event). clock_then script p e (clock_from script (past ++ x ∷ []) (clock_then script past x clock) es)) (append_assoc past (x ∷ []) es)

pub after_more : (script : Script) (past : List Event) (e : Event)
    → clock_after script (past ++ e ∷ []) ≡ clock_then script past e (clock_after script past)
after_more script past e = from_more script [] (record { items = script.turns; last = 0 }) past e

-- two clocks have the same items left, and the same last node
pub record Agree (script : Script) (events : List Event) (a b : Clock) : Type 0 where
  pub items : unfinished script events a.items ≡ unfinished script events b.items
  pub last : a.last ≡ b.last

-- so it is the same node's turn
pub same_turn : (script : Script) (events : List Event) (a b : Clock) → Agree script events a b → turn_at script events a ≡ turn_at script events b
same_turn script events a b h =
    ap (λ (us : List TurnItem). turn_by script events a.last us) h.items
    ∙ ap (λ (n : ℕ). turn_by script events n (unfinished script events b.items)) h.last

-- they agree where the one has passed the finished items
pub agree_passed : (script : Script) (events : List Event) (a b : Clock) → Agree script events a b → Agree script events (passed script events a) b
agree_passed script events a b h = record { items = passes_twice script events a.items ∙ h.items; last = h.last }

-- and still do where events are added
pub agree_later : (script : Script) (past more : List Event) (a b : Clock) → Agree script past a b → Agree script (past ++ more) a b
agree_later script past more a b h = record {
  items = sym (passes_again script past more a.items)
      ∙ ap (λ (us : List TurnItem). unfinished script (past ++ more) us) h.items
      ∙ passes_again script past more b.items;
  last = h.last;
}

ticked_same : (n m : ℕ) (us vs : List TurnItem) (a b : Clock) → n ≡ m → us ≡ vs → a.last ≡ b.last → ticked n us a ≡ ticked m vs b
ticked_same n m us vs a b e f g = ap (λ (k : ℕ). ticked k us a) e ∙ ap (λ (ws : List TurnItem). ticked m ws a) f ∙ by vs
  where
    by : (ws : List TurnItem) → ticked m ws a ≡ ticked m ws b
    by [] = refl
    by (item ∷ ws) = ap (λ (k : ℕ). record { items = taken item ∷ ws; last = k }) g

-- the clock that passed the finished items follows the schedule's over the first event of a turn
pub agree_turned : (script : Script) (past : List Event) (e : Event) (node : ℕ) (a b : Clock) → e.node ≡ node → Agree script past a b
    → Agree script (past ++ e ∷ []) (after_turn past e node (passed script past a)) (clock_then script past e b)
agree_turned script past e node a b own h = by (is_behind past e)
  where
    same : ticked node (unfinished script past a.items) (passed script past a) ≡ ticked e.node (unfinished script past b.items) b
    same = ticked_same node e.node (unfinished script past a.items) (unfinished script past b.items) (passed script past a) b (sym own) h.items h.last

    by : (t : Bool) → Agree script (past ++ e ∷ []) (if t then passed script past a else ticked node (unfinished script past a.items) (passed script past a))
        (if t then b else ticked e.node (unfinished script past b.items) b)
    by true = agree_later script past (e ∷ []) (passed script past a) b (agree_passed script past a b h)
    by false = record { items = ap (λ (x : Clock). unfinished script (past ++ e ∷ []) x.items) same; last = ap (λ (x : Clock). x.last) same }

-- a notice directly behind a request of its node leaves the schedule's clock
pub behind_stays : (script : Script) (past : List Event) (e f : Event) (b : Clock) → e.node ≡ f.node → is_post f.request ≡ true
    → clock_then script (past ++ e ∷ []) f b ≡ b
behind_stays script past e f b own h =
    ap (λ (t : Bool). if t then b else ticked f.node (unfinished script (past ++ e ∷ []) b.items) b) (behind_own past e f own h)
