use Rattle.tl_descriptor.proofs.Apart.{all_some}
use Rattle.tl_descriptor.proofs.descriptor.Descriptor.covers_all.Goals as goal

pub covers_runs-requires : goal.covers_runs-requires
covers_runs-requires c = rw c.as_slice.ensures (all_some c.other.inside.base c.other.inside.runs c.other.invariant.apart)
