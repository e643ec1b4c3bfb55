use Rattle.std.proofs.Common.{sym, ◌∙◌}
use Rattle.tl_grammar.specs.Grammar.{column, column_operand, literal_operand, name, operand_form}
use Rattle.tl_tokens.specs.Seen.{seen}
use Rattle.tl_tokens.proofs.Choices.{reads_second}
use Rattle.tl_terms.proofs.operand.operand.Goals as goal

pub returns : goal.returns
unfolding operand_form column_operand column name
returns c = reads_second c.literal_operand.result column_operand literal_operand (seen c.args.at) c.missing.result (sym c.is_column.ensures ∙ c.if-is_column.false) c.missing.ensures c.literal_operand.ensures
