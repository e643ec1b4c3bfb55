use Rattle.std.proofs.Common.{ap, ◌∙◌}
use Rattle.std.specs.Prelude.{slice_set}
use Rattle.std.proofs.lemmas.Result.{err_from_is_err_and}
use Rattle.tl_node.proofs.Entering.{learnt_enters, learnt_own, learnt_stays, unlearnt}
use Rattle.tl_node.proofs.running.learn_and_enter.Goals as goal

pub enter-requires-clause-own : goal.enter-requires-clause-own
enter-requires-clause-own c =
    learnt_own c.args.core.now c.learn.new.self c.args.core.now c.args.floor.now
    (c.in_ok-learn.ensures.ok ∙ ap (λ m. record c.args.core.now { floors = slice_set c.args.core.now.floors m c.args.floor.now }) c.home.ensures) c.args.txn c.requires.own

pub returns-clause-after : goal.returns-clause-after
returns-clause-after c =
    learnt_enters c.args.core.now c.learn.new.self c.enter.new.core c.args.floor.now
    (c.in_ok-learn.ensures.ok ∙ ap (λ m. record c.args.core.now { floors = slice_set c.args.core.now.floors m c.args.floor.now }) c.home.ensures)
    c.args.txn.phase c.enter.result c.enter.ensures.rest c.enter.ensures.after

pub returns-clause-stays : goal.returns-clause-stays
returns-clause-stays c =
    learnt_stays c.args.core.now c.learn.new.self c.enter.new.core c.args.floor.now
    (c.in_ok-learn.ensures.ok ∙ ap (λ m. record c.args.core.now { floors = slice_set c.args.core.now.floors m c.args.floor.now }) c.home.ensures) c.enter.ensures.rest

pub returns-in_err-learn-clause-after : goal.returns-in_err-learn-clause-after
returns-in_err-learn-clause-after c = λ statement is.
    let p = err_from_is_err_and c.from_residual.result c.from_residual.ensures.1 in
    rw p.1 (unlearnt c.args.core.now c.learn.new.self c.in_err-learn.ensures.err)

pub returns-in_err-learn-clause-stays : goal.returns-in_err-learn-clause-stays
returns-in_err-learn-clause-stays c = (unlearnt c.args.core.now c.learn.new.self c.in_err-learn.ensures.err).stays
