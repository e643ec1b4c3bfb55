use Rattle.std.proofs.Common.{sym}
use Rattle.std.proofs.Common.{suc, drop}
use Rattle.tl_node.specs.Fits.{IsFirst, IsOpening}
use Rattle.tl_node.proofs.Opening.{done_opening, first_opening, if_ok, none_left, some_left}
use Rattle.tl_node.proofs.outside.outside_at.Goals as goal

pub returns-in-Some : goal.returns-in-Some
returns-in-Some c =
    if_ok c.outside.result (IsFirst c.args.core.now c.in-Some.statement.now) (IsOpening c.args.core.now c.args.at)
    (λ o first. first_opening c.args.core.now c.args.at c.in-Some.statement.now (drop (suc c.args.at) c.args.core.now.statements) o
    (some_left c.args.at c.args.core.now.statements c.in-Some.statement.now (sym c.in-Some.ensures.value)) first)
    c.outside.ensures

pub returns-in-None : goal.returns-in-None
returns-in-None c = done_opening c.args.core.now c.args.at (none_left c.args.at c.args.core.now.statements (sym c.in-None.ensures.value))
