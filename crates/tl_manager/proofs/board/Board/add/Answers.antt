use Rattle.std.proofs.Common.{sym}
use Rattle.tl_manager.proofs.Places.{put_is}
use Rattle.tl_manager.proofs.board.Board.add.Goals as goal

pub returns : goal.returns
returns c =
    rw (c.joined.ensures, c.unwrap_or-nodes.ensures, c.get.ensures, c.new.ensures, ← c.self.view_is)
    (put_is c.self.inside.places c.place_of.result c.args.node _ (rw c.self.invariant c.place_of.ensures.within) (sym c.place_of.ensures.place))
