-- Whose turn it is, where no item is left.
use Rattle.std.proofs.Common.{◌≡◌, ℕ, List, [], ◌++◌, Option, None, sym, ap, ◌∙◌}
use Rattle.std.specs.Option.{option_to_list}
use Rattle.tl_isolation.specs.declared.script.Script.{Script}
use Rattle.tl_isolation.specs.declared.script.TurnItem.{TurnItem}
use Rattle.tl_journal.specs.declared.event.Event.{Event}
use Rattle.tl_journal.specs.Schedule.{Clock, next_round, turn_at, turn_by}
use Rattle.tl_turns.specs.Clock.{HasItem, clock_of, passed}
use Rattle.tl_turns.specs.declared.clock.Clock as code

pub turn_none : (script : Script) (past : List Event) (old mid : code.Clock) (found : Option ℕ) → clock_of mid ≡ passed script past (clock_of old) → HasItem mid
    → mid.present ≡ None → found ≡ next_round script past mid.last → found ≡ turn_at script past (clock_of old)
turn_none script past old mid found e item none is =
    let items : (clock_of mid).items ≡ [] = ap (λ (o : Option TurnItem). option_to_list o ++ mid.later.now) none ∙ item none in
    is ∙ sym (ap (λ (xs : List TurnItem). turn_by script past mid.last xs) items) ∙ ap (λ (c : Clock). turn_by script past c.last c.items) e
