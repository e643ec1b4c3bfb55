use Rattle.std.proofs.Common.{List, subst}
use Rattle.tl_places.specs.Opening.{HaveStored, Stored}
use Rattle.tl_places.proofs.Begun.{cells_of_rows}
use Rattle.tl_places.proofs.Written.{are_records, are_short}
use Rattle.tl_places.proofs.opening.open_shards.Goals as goal

pub returns : goal.returns
returns c =
    subst (λ (stored : List Stored). HaveStored c.args.layout.shards stored c.store_rows.new.shards.items)
    (cells_of_rows c.args.script.now c.args.layout c.in_ok-rows.rows c.in_ok-rows.ensures.writes) c.in_ok-store_rows.ensures

pub store_rows-requires-clause-short : goal.store_rows-requires-clause-short
store_rows-requires-clause-short c = are_short c.args.script.now.catalog c.args.script.now.rows c.in_ok-rows.rows c.in_ok-rows.ensures.writes c.requires.writes

pub store_rows-requires-clause-records : goal.store_rows-requires-clause-records
store_rows-requires-clause-records c =
    are_records c.args.script.now.catalog c.args.script.now.rows c.in_ok-rows.rows c.in_ok-rows.ensures.writes c.requires.writes
