use Rattle.std.proofs.Common.{◌≡◌, drop}
use Rattle.tl_journal.specs.Strange.{are_above}
use Rattle.tl_ask.proofs.given.are_above.Given as goal

-- what is left decides
abbrev pub invariant-loop-item : goal.invariant-loop-item
invariant-loop-item l = are_above l.last (drop l.item-index l.items) ≡ are_above l.key l.items
