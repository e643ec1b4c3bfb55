use Rattle.std.proofs.Common.{List, ◌++◌, ap, ◌∙◌}
use Rattle.std.specs.List.{flat_map}
use Rattle.tl_isolation.specs.declared.entry.Entry.{Entry}
use Rattle.tl_isolation.specs.Script.{answers_by}
use Rattle.tl_journal.specs.Journal.{entries_told}
use Rattle.tl_render.specs.Printed.{answer_text}
use Rattle.tl_render.proofs.Told.{writes_next, answers-told}
use Rattle.tl_render.proofs.session.push_answers.Goals as goal

pub loop-event-preserved : goal.loop-event-preserved
loop-event-preserved c =
    writes_next (λ e. flat_map answer_text (answers_by c.args.node e.entries)) (λ es. flat_map answer_text (answers_by c.args.node (entries_told es))) (answers-told c.args.node) _ _ _
    c.args.events.now c.loop-event.event-index c.event-item.result c.loop-event-test.true c.event-item.is
    (c.in_ok-push_answers_in.ensures ∙ ap (λ (es : List Entry). c.loop-event.out ++ flat_map answer_text (answers_by c.args.node es)) c.as_slice.ensures) c.loop-event.invariant
