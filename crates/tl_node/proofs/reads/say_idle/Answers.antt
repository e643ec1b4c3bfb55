use Rattle.std.proofs.Common.{List, sym, ◌∙◌, subst}
use Rattle.tl_values.specs.declared.value.Value.{Value}
use Rattle.tl_isolation.specs.declared.entry.Answer.TheVariants as answer
use Rattle.tl_node.specs.Present.{IsNoEnd}
use Rattle.tl_node.specs.ReadOn.{SaysFound}
use Rattle.tl_node.proofs.Answered.{answered_kept, nested_not, nested_so}
use Rattle.tl_node.proofs.Idling.{idles_nested, idles_said}
use Rattle.tl_node.proofs.Presents.{idle_said, is_there}
use Rattle.tl_node.proofs.reads.say_idle.Goals as goal

pub returns-then-is_nested-clause-after : goal.returns-then-is_nested-clause-after
returns-then-is_nested-clause-after c =
    idles_nested c.args.core.now c.answer_on.new.core c.args.txn c.args.stage c.current-statement.result.now c.current-statement.ensures
    (nested_so c.current-statement.result.now (sym c.is_nested.ensures ∙ c.if-is_nested.true)) c.answer_on.result c.answer_on.ensures.after

pub returns-then-is_nested-clause-kept : goal.returns-then-is_nested-clause-kept
returns-then-is_nested-clause-kept c =
    answered_kept c.args.core.now answer.Nested c.args.txn.phase c.args.stage c.answer_on.new.core c.answer_on.result c.answer_on.ensures.after

pub returns-clause-after : goal.returns-clause-after
returns-clause-after c =
    idles_said c.args.core.now c.say.new.core c.args.txn c.args.stage c.current-statement.result.now c.current-statement.ensures
    (nested_not c.current-statement.result.now (sym c.is_nested.ensures ∙ c.if-is_nested.false)) c.say.result
    (subst (λ (found : List (List (List Value))). SaysFound c.args.core.now c.args.txn c.args.stage found c.say.new.core c.say.result) c.new-found.ensures c.say.ensures.after)

pub current-statement-requires : goal.current-statement-requires
current-statement-requires c = is_there c.args.core.now IsNoEnd c.requires.present

pub say-requires-clause-present : goal.say-requires-clause-present
say-requires-clause-present c =
    idle_said c.args.core.now c.current-statement.result.now c.requires.present c.current-statement.ensures (sym c.is_nested.ensures ∙ c.if-is_nested.false)
