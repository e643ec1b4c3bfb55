use Rattle.std.proofs.Common.{sym, ◌∙◌}
use Rattle.tl_grammar.specs.Form.{either}
use Rattle.tl_grammar.specs.Grammar.{count, greatest, least, sum, word}
use Rattle.tl_tokens.specs.Seen.{seen}
use Rattle.tl_tokens.proofs.Choices.{reads_second}
use Rattle.tl_parse.proofs.select.of_rows.Goals as goal

pub returns : goal.returns
unfolding count word
returns c = reads_second c.of_a_column.result count (either sum (either least greatest)) (seen c.args.at) c.missing.result (sym c.is_word.ensures ∙ c.if-is_word.false) c.missing.ensures c.of_a_column.ensures
