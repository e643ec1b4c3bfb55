use Rattle.tl_versions.proofs.Lists.{no_stranger_absent}
use Rattle.tl_versions.proofs.laws.no_stranger_is_new.Goals as goal

pub returns : goal.returns
returns c = no_stranger_absent
