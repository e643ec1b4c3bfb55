use Rattle.tl_lines.proofs.Ranges.{directives_range}
use Rattle.tl_lines.proofs.laws.directives_are_in_range.Goals as goal

pub returns : goal.returns
returns c = directives_range
