use Rattle.std.proofs.Common.{sym}
use Rattle.tl_manager.proofs.Places.{read_is}
use Rattle.tl_manager.proofs.board.Board.get.Goals as goal

pub returns : goal.returns
returns c = rw (← c.self.view_is) (read_is c.self.inside.places c.place_of.result c.args.node (sym c.place_of.ensures.place))
