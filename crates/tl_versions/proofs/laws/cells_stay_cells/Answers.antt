use Rattle.tl_versions.proofs.Lists.{prune_cell, push_cell, strip_cell}
use Rattle.tl_versions.proofs.laws.cells_stay_cells.Goals as goal

pub returns : goal.returns
returns c = record { push = push_cell; strip = strip_cell; prune = prune_cell }
