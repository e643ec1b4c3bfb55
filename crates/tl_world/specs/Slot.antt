-- Slots, where they stand.
use Rattle.std.specs.Prelude.{ℕ, ◌+◌, ◌==◌, ◌&&◌, Bool, false, nat_le, not, List, [], ◌∷◌, Option, Some, None, length, if◌then◌else◌}
use Rattle.tl_protocol.specs.Move.{is_empty}
use Rattle.tl_node.specs.View.{NodeValue}
use Rattle.tl_world.specs.Stands.{SlotValue}

-- where the slot of this number stands, in slots from this place on
abbrev pub spot : ℕ → List SlotValue → ℕ → Option ℕ
spot at [] number = None
spot at (slot ∷ slots) number = if slot.number == number then Some at else spot (at + 1) slots number

-- whether a node runs, and has more to do
abbrev pub has_more : Option NodeValue → Bool
has_more None = false
has_more (Some v) = not (is_empty v.node.todo)

-- whether it has more to do, and no request of this budget is left for it
abbrev pub spent_by : SlotValue → ℕ → Bool
spent_by slot budget = has_more slot.node && nat_le budget slot.made

-- how many statements a node has answered; none once it has ended
abbrev pub answered : Option NodeValue → ℕ
answered None = 0
answered (Some v) = length v.node.answers
