use Rattle.std.proofs.Common.{sym, ◌∙◌}
use Rattle.tl_grammar.specs.Form.{either}
use Rattle.tl_grammar.specs.Grammar.{column, column_operand, count, expr, factor, greatest, least, name, operand_form, plain, select_form, shown_expr, sum, term}
use Rattle.tl_tokens.specs.Seen.{seen}
use Rattle.tl_tokens.proofs.Choices.{reads_second}
use Rattle.tl_parse.proofs.select.select_form.Goals as goal

pub returns : goal.returns
unfolding select_form shown_expr expr term factor plain operand_form column_operand column name
returns c = reads_second c.of_rows.result (shown_expr 64) (either count (either sum (either least greatest))) (seen c.args.at) c.missing.result (sym c.is_expression.ensures ∙ c.if-is_expression.false) c.missing.ensures c.of_rows.ensures
