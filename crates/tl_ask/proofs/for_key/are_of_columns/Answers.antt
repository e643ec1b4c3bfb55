use Rattle.tl_ask.proofs.Columns.{none_left}
use Rattle.tl_ask.proofs.for_key.are_of_columns.Goals as goal

pub returns-in-None : goal.returns-in-None
returns-in-None c =
    none_left c.args.columns.now c.args.places.now c.args.values.now c.loop-place.left.now c.loop-place.place-index c.loop-place-test.true
    c.loop-place.invariant c.in-None.ensures.cases
