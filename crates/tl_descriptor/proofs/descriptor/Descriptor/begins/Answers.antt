use Rattle.tl_descriptor.proofs.Order.{begins_answers}
use Rattle.tl_descriptor.proofs.descriptor.Descriptor.begins.Goals as goal

pub returns-clause-exact : goal.returns-clause-exact
returns-clause-exact c = begins_answers c.args.self.now c.args.other.now c.covers_all.result c.prove_canonical.ensures c.prove_canonical-2.ensures c.covers_all.ensures
