use Rattle.std.proofs.Common.{sym, ◌∙◌}
use Rattle.tl_descriptor.proofs.Members.{raised_alone_to, raised_canonical}
use Rattle.tl_descriptor.proofs.descriptor.Descriptor.raise.Goals as goal

pub invariant_of-self-in-None : goal.invariant_of-self-in-None
invariant_of-self-in-None c =
    let base = rw (← c.self.view_is) at c.requires.next in
    let alone = raised_alone_to c.args.tid c.self.inside.runs (rw (← c.as_slice.ensures) (sym c.run_after.ensures.run ∙ c.in-None.is)) in
    rw (← alone) (raised_canonical c.self.inside.base c.args.tid c.self.inside.runs base c.requires.fits c.self.invariant.apart)
