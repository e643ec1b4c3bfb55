use Rattle.std.proofs.Common.{◌≡◌, ◌∙◌, rules}
use Rattle.std.specs.FinMap as finmap
use Rattle.tl_si.specs.Places.{with_records}
use Rattle.tl_si.proofs.Table.{table_between}
use Rattle.tl_si.proofs.past.records_after.Goals as goal

pub returns : goal.returns
returns c =
    let done : c.loop-key.table ≡ with_records c.args.number c.args.commits.now c.args.first finmap.empty c.range-key-items.result = search rules in
    done ∙ table_between c.args.number c.args.commits.now c.args.first c.args.records.now c.in_ok-from.from c.in_ok-before.before c.range-key-items.result c.requires
    c.in_ok-from.ensures c.in_ok-before.ensures c.range-key-items.ensures.entries
