use Rattle.std.proofs.Common.{sym, ◌∙◌}
use Rattle.tl_node.proofs.Readings.{none_read}
use Rattle.tl_node.proofs.running.open_reads.Goals as goal

pub returns-then-is_empty : goal.returns-then-is_empty
returns-then-is_empty c =
    c.in_ok-work.ensures c.args.statement.now
    (c.requires.to ∙ none_read c.args.core.now.catalog c.args.statement.now (sym c.in_ok-accesses.ensures ∙ c.is_empty.ensures.0 c.if-is_empty.true))

pub returns : goal.returns
returns c = c.read_first.ensures
