use Rattle.std.proofs.Common.{Err, ap, arith}
use Rattle.tl_logrec.specs.Reading.{read_entry}
use Rattle.tl_ask.proofs.Spelled.{none_read}
use Rattle.tl_ask.proofs.reading.entry_read.Goals as goal

pub returns-in-Err-BadLog-clause-read : goal.returns-in-Err-BadLog-clause-read
returns-in-Err-BadLog-clause-read c = none_read (read_entry c.args.bytes.now) (λ entry e.
    let taken = c.entries_are_read.ensures.taken c.args.bytes.now entry (λ i. omega (arith, c.type_inv.bytes i)) e in
    c.in-Err-BadLog.ensures.bad (ap Err c.in-Err-BadLog.field-0-is) entry taken.1 taken.0)
