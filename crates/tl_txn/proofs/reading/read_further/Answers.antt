use Rattle.tl_journal.specs.Ask.{ReadPage}
use Rattle.tl_txn.proofs.reading.read_further.Goals as goal

pub returns : goal.returns
returns c = let r = c.args.read in c.going.ensures c.args.layout (ReadPage r.shard r.from r.before) c.ask_page-ask.ensures
