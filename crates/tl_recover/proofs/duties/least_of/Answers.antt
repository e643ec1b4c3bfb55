use Rattle.std.proofs.Common.{arith}
use Rattle.tl_recover.proofs.Least.{least_first, some_least}
use Rattle.tl_recover.proofs.duties.least_of.Goals as goal

pub returns-in-Some : goal.returns-in-Some
returns-in-Some c = least_first c.args.all c.in-Some.duty c.in-Some.ensures

pub returns-in-None : goal.returns-in-None
returns-in-None c = absurd (some_least c.args.all c.args.node c.requires (omega arith) (omega arith) c.in-None.ensures)
