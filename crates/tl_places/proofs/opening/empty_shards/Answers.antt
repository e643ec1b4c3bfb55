use Rattle.std.proofs.Common.{[], ◌+◌, sym, subst, List}
use Rattle.tl_cells.specs.Cells.{ShardState}
use Rattle.tl_places.specs.Opening.{HaveStored}
use Rattle.tl_places.proofs.Stores.{one_more}
use Rattle.tl_places.proofs.opening.empty_shards.Goals as goal

pub loop-preserved : goal.loop-preserved
loop-preserved c =
    subst (λ (shards : List ShardState). HaveStored (c.loop.counter + 1) [] shards) (sym c.in_ok-push.ensures.items)
    (one_more c.loop.counter c.loop.shards.items c.new.result c.new.ensures.opens c.loop.invariant)
