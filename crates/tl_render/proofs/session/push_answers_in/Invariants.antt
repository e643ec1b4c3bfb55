use Rattle.std.proofs.Common.{◌≡◌, ◌++◌, drop}
use Rattle.std.specs.List.{flat_map}
use Rattle.tl_isolation.specs.Script.{answers_by}
use Rattle.tl_render.specs.Printed.{answer_text}
use Rattle.tl_render.proofs.session.push_answers_in.Given as goal

-- what is written and the text of what is left are the text of all
abbrev pub invariant-loop-entry : goal.invariant-loop-entry
invariant-loop-entry l = l.out ++ flat_map answer_text (answers_by l.node (drop l.entry-index l.entries)) ≡ l.initial.out ++ flat_map answer_text (answers_by l.node l.entries)
