use Rattle.std.specs.Prelude.{length, slice_get}
use Rattle.std.proofs.Common.{sym}
use Rattle.tl_isolation.specs.declared.bound.Bound.{Bound}
use Rattle.tl_node.specs.Fits.{FitsReading}
use Rattle.tl_node.specs.ReadOn.{ReadsBy}
use Rattle.tl_node.proofs.Answered.{present_so}
use Rattle.tl_node.proofs.Presents.{holds_of, is_there, reads_at}
use Rattle.tl_node.proofs.reads.read_further.Goals as goal

pub current-statement-requires : goal.current-statement-requires
current-statement-requires c = is_there c.args.core.now (λ (s : Bound). FitsReading c.args.core.now s c.args.reading) c.requires.present

pub read_next-requires-clause-reads : goal.read_next-requires-clause-reads
read_next-requires-clause-reads c =
    let core = c.args.core.now in
    let statement = c.current-statement.result.now in
    reads_at core statement c.args.reading (holds_of core (λ (s : Bound). FitsReading core s c.args.reading) c.requires.present statement c.current-statement.ensures)

pub read_next-requires-clause-within : goal.read_next-requires-clause-within
read_next-requires-clause-within c = c.requires.present.holds.within

pub returns : goal.returns
returns c =
    present_so (λ (s : Bound). ReadsBy s c.args.txn c.args.stage c.args.reading c.running.result) (slice_get c.args.core.now.statements (length c.args.core.now.answers.items))
    c.current-statement.result.now (sym c.current-statement.ensures)
    (record { after = c.read_next.new.txn; begins = c.in_ok-read_next.ensures.ok; w_is = c.running.ensures })
