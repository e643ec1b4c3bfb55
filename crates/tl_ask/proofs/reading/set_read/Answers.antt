use Rattle.std.proofs.Common.{Err, ap, arith}
use Rattle.tl_descriptor.specs.Reading.{read_set}
use Rattle.tl_ask.proofs.Spelled.{none_read}
use Rattle.tl_ask.proofs.reading.set_read.Goals as goal

pub returns-in-Err-BadDescriptor : goal.returns-in-Err-BadDescriptor
returns-in-Err-BadDescriptor c = none_read (read_set c.args.bytes.now) (λ set e.
    let taken = c.sets_are_read.ensures.taken c.args.bytes.now set (λ i. omega (arith, c.type_inv.bytes i)) e in
    c.in-Err-BadDescriptor.ensures.bad (ap Err c.in-Err-BadDescriptor.field-0-is) set taken.1 taken.0)
