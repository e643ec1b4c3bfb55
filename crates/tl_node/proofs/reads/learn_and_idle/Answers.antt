use Rattle.std.proofs.Common.{◌≡◌, ap, ◌∙◌}
use Rattle.std.specs.Prelude.{slice_set}
use Rattle.std.proofs.lemmas.Result.{err_from_is_err_and}
use Rattle.tl_node.specs.Present.{IsNoEnd}
use Rattle.tl_node.proofs.Answered.{err_kept}
use Rattle.tl_node.proofs.IdleAfter.{learnt_idle, learnt_own, learnt_stays, unlearnt}
use Rattle.tl_node.proofs.Presents.{learnt_present}
use Rattle.tl_node.proofs.reads.learn_and_idle.Goals as goal

pub say_idle-requires-clause-own : goal.say_idle-requires-clause-own
say_idle-requires-clause-own c =
    learnt_own c.args.core.now c.learn.new.self c.args.floor.now
    (c.in_ok-learn.ensures.ok ∙ ap (λ m. record c.args.core.now { floors = slice_set c.args.core.now.floors m c.args.floor.now }) c.home.ensures) c.args.txn c.requires.own

pub say_idle-requires-clause-present : goal.say_idle-requires-clause-present
say_idle-requires-clause-present c =
    learnt_present c.args.core.now c.learn.new.self c.args.floor.now IsNoEnd
    (c.in_ok-learn.ensures.ok ∙ ap (λ m. record c.args.core.now { floors = slice_set c.args.core.now.floors m c.args.floor.now }) c.home.ensures) c.requires.present

pub returns-clause-after : goal.returns-clause-after
returns-clause-after c =
    learnt_idle c.args.core.now c.learn.new.self c.say_idle.new.core c.args.floor.now c.args.txn c.args.stage c.say_idle.result
    (c.in_ok-learn.ensures.ok ∙ ap (λ m. record c.args.core.now { floors = slice_set c.args.core.now.floors m c.args.floor.now }) c.home.ensures)
    c.say_idle.ensures.after c.say_idle.ensures.rest
    (err_kept c.say_idle.result (c.say_idle.new.core.answers.items ≡ c.learn.new.self.answers.items) c.say_idle.ensures.kept)

pub returns-clause-stays : goal.returns-clause-stays
returns-clause-stays c =
    learnt_stays c.args.core.now c.learn.new.self c.say_idle.new.core c.args.floor.now
    (c.in_ok-learn.ensures.ok ∙ ap (λ m. record c.args.core.now { floors = slice_set c.args.core.now.floors m c.args.floor.now }) c.home.ensures) c.say_idle.ensures.rest

pub returns-in_err-learn-clause-after : goal.returns-in_err-learn-clause-after
returns-in_err-learn-clause-after c =
    let p = err_from_is_err_and c.from_residual.result c.from_residual.ensures.1 in
    rw p.1 (unlearnt c.args.core.now c.learn.new.self c.in_err-learn.ensures.err)

pub returns-in_err-learn-clause-stays : goal.returns-in_err-learn-clause-stays
returns-in_err-learn-clause-stays c = (unlearnt c.args.core.now c.learn.new.self c.in_err-learn.ensures.err).stays
