use Rattle.std.proofs.Common.{sym}
use Rattle.tl_node.proofs.Opens.{none_opens, some_opens}
use Rattle.tl_node.proofs.Presents.{named_at}
use Rattle.tl_node.proofs.running.go_on.Goals as goal

pub returns : goal.returns
returns c =
    some_opens c.args.core.now c.args.at c.in-Some.statement.now c.args.txn.phase c.args.stage c.in_ok-work.work (sym c.in-Some.ensures.value) c.in_ok-work.ensures

pub returns-in_default : goal.returns-in_default
returns-in_default c = none_opens c.args.core.now c.args.at c.args.txn.phase c.args.stage (sym c.in_default.ensures.value)

pub open-requires-clause-named : goal.open-requires-clause-named
open-requires-clause-named c = named_at c.args.core.now.catalog c.args.core.now.statements c.args.at c.in-Some.statement.now c.args.core.now.named (sym c.in-Some.ensures.value)
