use Rattle.std.proofs.Common.{ap, ◌∙◌}
use Rattle.tl_isolation.specs.declared.bound.Bound.{Bound}
use Rattle.tl_journal.specs.Asks.{statement_course}
use Rattle.tl_node.specs.View.{stage_of}
use Rattle.tl_node.proofs.Opens.{by_reads, taking}
use Rattle.tl_node.proofs.running.open_statement.Goals as goal

pub returns-in_ok-work-in-Commit : goal.returns-in_ok-work-in-Commit
returns-in_ok-work-in-Commit c =
    let catalog = c.args.core.now.catalog in
    c.in_ok-work-in-Commit.ensures c.args.statement.now
    (taking catalog (stage_of c.args.stage) c.args.statement.now c.requires.takes ∙ ap (λ (s : Bound). statement_course catalog s) c.in-Commit.is)

pub returns-in_ok-work-in-Rollback : goal.returns-in_ok-work-in-Rollback
returns-in_ok-work-in-Rollback c =
    let catalog = c.args.core.now.catalog in
    c.in_ok-work-in-Rollback.ensures c.args.statement.now
    (taking catalog (stage_of c.args.stage) c.args.statement.now c.requires.takes ∙ ap (λ (s : Bound). statement_course catalog s) c.in-Rollback.is)

pub open_reads-requires-clause-to : goal.open_reads-requires-clause-to
open_reads-requires-clause-to c =
    let catalog = c.args.core.now.catalog in
    taking catalog (stage_of c.args.stage) c.args.statement.now c.requires.takes
    ∙ by_reads catalog c.args.statement.now c.in_default.not-Commit c.in_default.not-Rollback

pub returns-in_ok-work-in_default : goal.returns-in_ok-work-in_default
returns-in_ok-work-in_default c = c.in_ok-work-in_default.ensures
