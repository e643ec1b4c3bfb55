use Rattle.std.proofs.Common.{sym, ◌∙◌}
use Rattle.tl_grammar.specs.Form.{either}
use Rattle.tl_grammar.specs.Grammar.{begin, commit, recover, rollback, select, word}
use Rattle.tl_tokens.specs.Seen.{seen}
use Rattle.tl_tokens.proofs.Choices.{reads_second}
use Rattle.tl_parse.proofs.statement.select_or_later.Goals as goal

pub returns : goal.returns
unfolding select word
returns c = reads_second c.begin_or_later.result (select 64) (either begin (either commit (either rollback recover))) (seen c.args.at) c.missing.result (sym c.is_word.ensures ∙ c.if-is_word.false) c.missing.ensures c.begin_or_later.ensures
