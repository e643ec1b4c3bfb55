use Rattle.std.proofs.Common.{◌≡◌, List, ◌++◌, Option, Some, None, drop}
use Rattle.tl_journal.specs.Ask.{Found}
use Rattle.tl_journal.specs.Bytes.{found_in}
use Rattle.tl_ask.proofs.hears.found_of.Given as goal

-- the cells so far, with those of what is left
abbrev joined : List Found → Option (List Found) → Option (List Found)
joined found None = None
joined found (Some more) = Some (found ++ more)

-- they are those of all
abbrev pub invariant-loop-item : goal.invariant-loop-item
invariant-loop-item l = joined l.found (found_in (drop l.item-index l.list)) ≡ found_in l.list
