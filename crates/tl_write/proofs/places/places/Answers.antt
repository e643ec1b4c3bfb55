use Rattle.std.proofs.Common.{ap, ◌∙◌, map}
use Rattle.tl_write.specs.Tables.{laid_over, write_of, Tables}
use Rattle.tl_write.proofs.PlacesOn.{found_on, nothing_at, nothing_within, within_on}
use Rattle.tl_write.proofs.places.places.Goals as goal

pub loop-at-init : goal.loop-at-init
loop-at-init c = record {
  found = ap (λ (t : Tables). laid_over t (map (write_of c.args.number c.args.table.now) c.args.rows.now)) (nothing_at c.args.rows.now c.new-places.result c.new-places.ensures);
  within = nothing_within c.args.rows.now c.new-places.result c.new-places.ensures;
}

pub loop-at-preserved : goal.loop-at-preserved
loop-at-preserved c = record {
  found =
      found_on c.args.rows.now c.args.number c.args.table.now c.loop-at.places c.insert.new.self c.loop-at.at c.index-rows-at.result c.in_ok-record_key.field-0 c.loop-at-test.true c.index-rows-at.is c.in_ok-record_key.ensures.key c.in_ok-insert.ensures.ok
      ∙ c.loop-at.invariant.found;
  within = within_on c.args.rows.now c.loop-at.places c.insert.new.self c.in_ok-record_key.field-0 c.loop-at.at c.loop-at-test.true c.in_ok-insert.ensures.ok c.loop-at.invariant.within;
}
