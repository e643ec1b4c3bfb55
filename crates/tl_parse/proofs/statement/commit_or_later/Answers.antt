use Rattle.std.proofs.Common.{sym, ◌∙◌}
use Rattle.tl_grammar.specs.Form.{either}
use Rattle.tl_grammar.specs.Grammar.{commit, recover, rollback, word}
use Rattle.tl_tokens.specs.Seen.{seen}
use Rattle.tl_tokens.proofs.Choices.{reads_second}
use Rattle.tl_parse.proofs.statement.commit_or_later.Goals as goal

pub returns : goal.returns
unfolding commit word
returns c = reads_second c.rollback_or_recover.result commit (either rollback recover) (seen c.args.at) c.missing.result (sym c.is_word.ensures ∙ c.if-is_word.false) c.missing.ensures c.rollback_or_recover.ensures
