use Rattle.std.proofs.Common.{sym, ◌∙◌}
use Rattle.tl_grammar.specs.Grammar.{create_index, create_table, word}
use Rattle.tl_tokens.specs.Seen.{seen}
use Rattle.tl_tokens.proofs.Choices.{reads_second}
use Rattle.tl_parse.proofs.create.created.Goals as goal

pub returns : goal.returns
unfolding create_table word
returns c = reads_second c.create_index.result create_table create_index (seen c.args.at) c.missing.result (sym c.is_word.ensures ∙ c.if-is_word.false) c.missing.ensures c.create_index.ensures
