use Rattle.std.proofs.Common.{◌+◌, sym, subst, List}
use Rattle.tl_manager.specs.State.{ManagerState}
use Rattle.tl_places.specs.Opening.{AreNew}
use Rattle.tl_places.proofs.Fresh.{one_new}
use Rattle.tl_places.proofs.places.new_managers.Goals as goal

pub loop-preserved : goal.loop-preserved
loop-preserved c =
    subst (λ (managers : List ManagerState). AreNew (c.loop.counter + 1) managers) (sym c.in_ok-push.ensures.items)
    (one_new c.loop.counter c.loop.managers.items c.new.result c.new.ensures.opens c.loop.invariant)
