use Rattle.std.proofs.Common.{◌≡◌, ◌≤◌, ◌++◌, length, map}
use Rattle.tl_cells.specs.Cells.{cells_within, item_of}
use Rattle.tl_cells.proofs.shard.Shard.page.Given as goal

abbrev pub invariant-loop-key : goal.invariant-loop-key
invariant-loop-key l = (l.list ++ map item_of l.key-iterator ≡ cells_within l.from l.before l.self.cells) × (length l.list ≤ l.limit)
