use Rattle.std.proofs.Common.{sym}
use Rattle.tl_manager.proofs.Places.{cleared_is}
use Rattle.tl_manager.proofs.board.Board.remove.Goals as goal

pub returns : goal.returns
returns c =
    rw (← c.self.view_is)
    (cleared_is c.self.inside.places c.place_of.result c.args.node (rw c.self.invariant c.place_of.ensures.within) (sym c.place_of.ensures.place))
