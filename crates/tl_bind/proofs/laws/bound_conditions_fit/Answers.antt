use Rattle.tl_bind.proofs.Fitting.{condition_fits}
use Rattle.tl_bind.proofs.laws.bound_conditions_fit.Goals as goal

pub returns : goal.returns
returns c = condition_fits
