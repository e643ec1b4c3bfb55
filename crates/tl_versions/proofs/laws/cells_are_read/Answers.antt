use Rattle.tl_versions.proofs.CellReading.{cell_again, cell_taken}
use Rattle.tl_versions.proofs.laws.cells_are_read.Goals as goal

pub returns : goal.returns
returns c = record { again = cell_again; taken = cell_taken }
