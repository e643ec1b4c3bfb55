use Rattle.std.proofs.Common.{sym, ◌∙◌}
use Rattle.tl_grammar.specs.Grammar.{all_columns, items, sign, some_items}
use Rattle.tl_tokens.specs.Seen.{seen}
use Rattle.tl_tokens.proofs.Choices.{reads_second}
use Rattle.tl_parse.proofs.select.items.Goals as goal

pub returns : goal.returns
unfolding items all_columns sign
returns c = reads_second c.some_items.result all_columns (some_items 64) (seen c.args.at) c.missing.result (sym c.is_sign.ensures ∙ c.if-is_sign.false) c.missing.ensures c.some_items.ensures
