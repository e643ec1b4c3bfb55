use Rattle.std.proofs.Common.{arith}
use Rattle.std.proofs.lemmas.Bool.Decides.{nat_tests}
use Rattle.tl_lines.proofs.Lines.{as_it_is, without_it}
use Rattle.tl_lines.proofs.line.without_return.Goals as goal

pub returns-then-last-eq13 : goal.returns-then-last-eq13
returns-then-last-eq13 c = without_it c.args.line.now c.in-Some.front.now c.in-Some.last.now c.in-Some.ensures.cases.0 (grind (arith, nat_tests, c.if-last-eq13.true))

pub returns-else-last-eq13 : goal.returns-else-last-eq13
returns-else-last-eq13 c = as_it_is c.args.line.now c.in-Some.front.now c.in-Some.last.now c.in-Some.ensures.cases.0 (grind (arith, nat_tests, c.if-last-eq13.false))
