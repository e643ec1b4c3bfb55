use Rattle.std.proofs.Common.{◌≡◌, drop}
use Rattle.std.specs.List.{list_all}
use Rattle.tl_journal.specs.Strange.{is_item}
use Rattle.tl_ask.proofs.given.are_items.Given as goal

-- what is left decides
abbrev pub invariant-loop-item : goal.invariant-loop-item
invariant-loop-item l = list_all (is_item l.before) (drop l.item-index l.list) ≡ list_all (is_item l.before) l.list
