use Rattle.tl_algebra.proofs.Determined.{never_both, one}
use Rattle.tl_algebra.proofs.laws.select_has_one_answer.Goals as goal

pub returns : goal.returns
returns c = record { one = one; never_both = never_both }
