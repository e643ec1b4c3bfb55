use Rattle.tl_versions.proofs.Short.{fits_change}
use Rattle.tl_versions.proofs.version.prove_row.Goals as goal

pub returns : goal.returns
returns c = fits_change c.args.row.now c.requires (rw c.as_slice.ensures at c.prove_values.ensures)
