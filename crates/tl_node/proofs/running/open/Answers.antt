use Rattle.std.proofs.Common.{sym, subst}
use Rattle.tl_node.specs.Leads.{Leads}
use Rattle.tl_node.specs.declared.work.Stage.{Stage}
use Rattle.tl_node.proofs.running.open.Goals as goal

pub returns-in_ok-work-in-Answering : goal.returns-in_ok-work-in-Answering
returns-in_ok-work-in-Answering c =
    subst (λ (s : Stage). Leads c.args.core.now c.args.statement.now c.args.txn.phase s c.in_ok-work-in-Answering.work) (sym c.in-Answering.is) (c.in_ok-work-in-Answering.ensures c.args.statement.now)

pub returns-in_ok-work-in-Fresh : goal.returns-in_ok-work-in-Fresh
returns-in_ok-work-in-Fresh c =
    subst (λ (s : Stage). Leads c.args.core.now c.args.statement.now c.args.txn.phase s c.in_ok-work-in-Fresh.work) (sym c.in-Fresh.is) c.in_ok-work-in-Fresh.ensures

pub returns-in_ok-work-in-Opened : goal.returns-in_ok-work-in-Opened
returns-in_ok-work-in-Opened c =
    subst (λ (s : Stage). Leads c.args.core.now c.args.statement.now c.args.txn.phase s c.in_ok-work-in-Opened.work) (sym c.in-Opened.is) c.in_ok-work-in-Opened.ensures
