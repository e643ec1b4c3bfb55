use Rattle.std.proofs.Common.{◌≡◌, ◌++◌, drop}
use Rattle.std.specs.List.{flat_map}
use Rattle.tl_journal.specs.Journal.{entries_told}
use Rattle.tl_render.specs.Printed.{ending_text, endings_of}
use Rattle.tl_render.proofs.session.push_endings.Given as goal

-- what is written and the text of what is left are the text of all
abbrev pub invariant-loop-event : goal.invariant-loop-event
invariant-loop-event l = l.out ++ flat_map ending_text (endings_of l.node (entries_told (drop l.event-index l.events))) ≡ l.initial.out ++ flat_map ending_text (endings_of l.node (entries_told l.events))
