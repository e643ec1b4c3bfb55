use Rattle.tl_journal.proofs.Named.{opening_tables}
use Rattle.tl_node_tests.proofs.places.places.Goals as goal

pub new-requires-clause-tables : goal.new-requires-clause-tables
new-requires-clause-tables c = opening_tables c.in_ok-script.script c.layout.result (c.in_ok-script.ensures.bound c.layout.result)

pub new-requires-clause-writes : goal.new-requires-clause-writes
new-requires-clause-writes c = (c.in_ok-script.ensures.bound c.layout.result).writes
