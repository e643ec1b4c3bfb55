use Rattle.std.proofs.Common.{◌≡◌, ℕ, ◌+◌, refl, subst, arith}
use Rattle.std.specs.Prelude.{length}
use Rattle.std.proofs.lemmas.Result.{err_from_is_err_and}
use Rattle.tl_node.specs.After.{Opens}
use Rattle.tl_node.specs.Begun.{SaysOn}
use Rattle.tl_node.specs.Named.{AreNamed, AreNamed-prop}
use Rattle.tl_node.specs.declared.kept.Core.{Core}
use Rattle.tl_node.proofs.Entering.{says_so}
use Rattle.tl_node.proofs.running.answer_on.Goals as goal

pub returns-clause-after : goal.returns-clause-after
returns-clause-after c =
    let mid : Core = c.prepare.new.self in
    let count : c.len.result ≡ length mid.answers.items = omega (arith, c.len.ensures, mid.answers.ok.0) in
    subst
    (λ (named : AreNamed mid.catalog mid.statements).
    SaysOn c.args.core.now c.args.answer c.args.txn.phase c.args.stage (record mid { answers = c.push_reserved.new.self; named = named }) c.in_ok-work.work c.in_ok-said.said)
    (AreNamed-prop mid.catalog mid.statements mid.named c.core-1.given.0)
    (says_so c.args.core.now (record mid { answers = c.push_reserved.new.self }) c.args.txn.phase mid c.args.answer c.args.stage c.in_ok-work.work c.in_ok-said.said
    c.in_ok-said.ensures.rest c.in_ok-said.ensures.items c.in_ok-said.ensures.said refl c.push_reserved.ensures.items
    (subst (λ (n : ℕ). Opens mid (n + 1) c.args.txn.phase c.args.stage c.in_ok-work.work) count c.in_ok-work.ensures))

pub returns-in_err-said-clause-after : goal.returns-in_err-said-clause-after
returns-in_err-said-clause-after c =
    let p = err_from_is_err_and c.from_residual.result c.from_residual.ensures.1 in
    rw p.1 (record { rest = c.in_err-said.ensures.rest; answers = c.in_err-said.ensures.items })

pub returns-in_err-work-clause-after : goal.returns-in_err-work-clause-after
returns-in_err-work-clause-after c =
    let p = err_from_is_err_and c.from_residual-in_err-work.result c.from_residual-in_err-work.ensures.1 in
    rw p.1 (record { rest = c.in_ok-said.ensures.rest; answers = c.in_ok-said.ensures.items })
