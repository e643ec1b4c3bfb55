use Rattle.tl_descriptor.proofs.SetReading.{set_again, set_taken}
use Rattle.tl_descriptor.proofs.laws.sets_are_read.Goals as goal

pub returns : goal.returns
returns c = record { again = set_again; taken = set_taken }
