use Rattle.std.proofs.Common.{sym, ◌∙◌}
use Rattle.tl_grammar.specs.Grammar.{column, name, order_column, order_number}
use Rattle.tl_tokens.specs.Seen.{seen}
use Rattle.tl_tokens.proofs.Choices.{reads_second}
use Rattle.tl_parse.proofs.select.sorted_by.Goals as goal

pub returns : goal.returns
unfolding order_column column name
returns c = reads_second c.order_number.result order_column order_number (seen c.args.at) c.missing.result (sym c.is_column.ensures ∙ c.if-is_column.false) c.missing.ensures c.order_number.ensures
