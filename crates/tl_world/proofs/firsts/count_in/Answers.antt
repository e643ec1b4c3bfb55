use Rattle.std.proofs.Common.{rules}
use Rattle.tl_world.proofs.FromTheEnd.{first_end, first_step}
use Rattle.tl_world.proofs.firsts.count_in.Goals as goal

-- src/firsts.rt:15:5
pub loop-count-preserved : goal.loop-count-preserved
loop-count-preserved c = search (rules, first_step)

-- src/firsts.rt:10:1
pub returns : goal.returns
returns c = search (rules, first_end)
