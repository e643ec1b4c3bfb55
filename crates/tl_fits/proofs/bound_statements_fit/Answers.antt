use Rattle.tl_fits.proofs.Bound.{bound_fits}
use Rattle.tl_fits.proofs.bound_statements_fit.Goals as goal

pub returns : goal.returns
returns c = bound_fits
