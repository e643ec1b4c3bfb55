use Rattle.std.proofs.Common.{Ok, refl, sym, ◌∙◌, subst, ℕ, arith, ◌≡◌}
use Rattle.std.specs.Prelude.{length, slice_get}
use Rattle.std.proofs.lemmas.Result.{err_from_is_err_and}
use Rattle.tl_isolation.specs.declared.bound.Bound.{Bound}
use Rattle.tl_node.specs.After.{Opens}
use Rattle.tl_node.specs.Begun.{Enters}
use Rattle.tl_node.specs.declared.work.Next.TheVariants as next
use Rattle.tl_node.specs.declared.work.Stage.TheVariants as stage
use Rattle.tl_node.proofs.Entering.{begin_so, enters_begin, enters_other, enters_wanting, of_none, of_present}
use Rattle.tl_node.proofs.running.enter.Goals as goal

pub returns-then-is_begin-clause-after : goal.returns-then-is_begin-clause-after
returns-then-is_begin-clause-after c =
    let core = c.args.core.now in
    of_present (λ (s : Bound). Enters s core c.args.txn.phase c.answer_on.new.core c.answer_on.result) (slice_get core.statements (length core.answers.items))
    c.in-Some.statement.now c.in-Some.ensures
    (enters_begin core c.answer_on.new.core c.args.txn.phase c.in-Some.statement.now c.answer_on.result
    (begin_so c.in-Some.statement.now (sym c.is_begin.ensures ∙ c.if-is_begin.true)) c.answer_on.ensures.after)

pub returns-clause-after : goal.returns-clause-after
returns-clause-after c =
    let core = c.args.core.now in
    let count : c.len.result ≡ length core.answers.items = omega (arith, c.len.ensures, core.answers.ok.0) in
    of_present (λ (s : Bound). Enters s core c.args.txn.phase core (Ok (next.Goes c.in_ok-work.work))) (slice_get core.statements (length core.answers.items))
    c.in-Some.statement.now c.in-Some.ensures
    (enters_other core c.args.txn.phase c.in-Some.statement.now c.in_ok-work.work (sym c.is_begin.ensures ∙ c.if-is_begin.false)
    (subst (λ (at : ℕ). Opens core at c.args.txn.phase stage.Fresh c.in_ok-work.work) count c.in_ok-work.ensures))

pub returns-in_err-work-clause-after : goal.returns-in_err-work-clause-after
returns-in_err-work-clause-after c = λ statement is.
    let p = err_from_is_err_and c.from_residual.result c.from_residual.ensures.1 in
    rw p.1 (enters_wanting c.args.core.now c.args.core.now c.args.txn.phase statement (record {}) (record { rest = refl; answers = refl }))

pub returns-in_default-clause-after : goal.returns-in_default-clause-after
returns-in_default-clause-after c =
    let core = c.args.core.now in
    of_none (λ (s : Bound). Enters s core c.args.txn.phase core (Ok next.Strange)) (slice_get core.statements (length core.answers.items)) c.in_default.ensures
