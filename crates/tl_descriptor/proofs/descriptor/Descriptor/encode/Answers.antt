use Rattle.tl_descriptor.proofs.SetReading.{all_fit}
use Rattle.tl_descriptor.proofs.descriptor.Descriptor.encode.Goals as goal

pub write_many-requires : goal.write_many-requires
write_many-requires c = rw c.as_slice.ensures (all_fit c.self.inside.base c.self.inside.runs c.self.invariant.apart)
