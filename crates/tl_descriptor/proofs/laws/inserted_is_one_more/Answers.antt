use Rattle.tl_descriptor.proofs.Members.{inserted_canonical, inserted_has, inserted_runs}
use Rattle.tl_descriptor.proofs.laws.inserted_is_one_more.Goals as goal

pub returns : goal.returns
returns c = record { members = inserted_has; canonical = inserted_canonical; runs = inserted_runs }
