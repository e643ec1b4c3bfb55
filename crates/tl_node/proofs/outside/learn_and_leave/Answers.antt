use Rattle.std.proofs.Common.{ap, ◌∙◌}
use Rattle.std.specs.Prelude.{slice_set}
use Rattle.tl_node.specs.declared.kept.Core.{Core}
use Rattle.tl_node.proofs.Leaving.{learnt_left}
use Rattle.tl_node.proofs.outside.learn_and_leave.Goals as goal

pub returns-in-Ok : goal.returns-in-Ok
returns-in-Ok c =
    learnt_left c.args.core.now c.learn.new.self c.answer_and_leave.new.core c.args.floor.now c.answer_and_leave.result
    (c.in-Ok.ensures.ok ∙ ap (λ m. record c.args.core.now { floors = slice_set c.args.core.now.floors m c.args.floor.now }) c.home.ensures)
    c.answer_and_leave.ensures

pub returns-in-Err : goal.returns-in-Err
returns-in-Err c = record {
  stays = record {
    layout = ap (λ (k : Core). k.layout) c.in-Err.ensures.err;
    catalog = ap (λ (k : Core). k.catalog) c.in-Err.ensures.err;
    statements = ap (λ (k : Core). k.statements) c.in-Err.ensures.err;
    number = ap (λ (k : Core). k.number) c.in-Err.ensures.err;
  };
  answers = ap (λ (k : Core). k.answers.items) c.in-Err.ensures.err;
}
