use Rattle.tl_fits.proofs.Catalogs.{fitting_is_within}
use Rattle.tl_fits.proofs.fitting_catalogs_are_within.Goals as goal

pub returns : goal.returns
returns c = fitting_is_within
