use Rattle.tl_descriptor.proofs.Searches.{count_within, put_is}
use Rattle.tl_descriptor.proofs.runs.put.Goals as goal

pub put_at-requires-clause-place : goal.put_at-requires-clause-place
put_at-requires-clause-place c = rw (c.count_below-place.ensures, c.as_slice.ensures) (count_within c.args.tid c.args.runs.now)

pub returns-clause-ok : goal.returns-clause-ok
returns-clause-ok c =
    let place = rw c.as_slice.ensures at c.count_below-place.ensures in
    let before = rw c.as_slice-2.ensures at c.run_before-before.ensures.run in
    let after = rw c.as_slice-3.ensures at c.run_after-after.ensures.run in
    rw (← put_is c.args.base c.args.tid c.args.runs.now c.count_below-place.result c.run_before-before.result c.run_after-after.result c.requires.apart place before after) c.put_at.ensures.ok
