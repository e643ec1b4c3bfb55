use Rattle.std.proofs.Common.{◌≡◌, ◌++◌, drop}
use Rattle.std.specs.List.{flat_map}
use Rattle.tl_isolation.specs.Script.{answers_by}
use Rattle.tl_journal.specs.Journal.{entries_told}
use Rattle.tl_render.specs.Printed.{answer_text}
use Rattle.tl_render.proofs.session.push_answers.Given as goal

-- what is written and the text of what is left are the text of all
abbrev pub invariant-loop-event : goal.invariant-loop-event
invariant-loop-event l = l.out ++ flat_map answer_text (answers_by l.node (entries_told (drop l.event-index l.events))) ≡ l.initial.out ++ flat_map answer_text (answers_by l.node (entries_told l.events))
