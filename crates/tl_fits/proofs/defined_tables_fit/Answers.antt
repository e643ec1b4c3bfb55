use Rattle.tl_fits.proofs.Defined.{defined_fits}
use Rattle.tl_fits.proofs.defined_tables_fit.Goals as goal

pub returns : goal.returns
returns c = defined_fits
