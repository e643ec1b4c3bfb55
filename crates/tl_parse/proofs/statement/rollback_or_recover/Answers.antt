use Rattle.std.proofs.Common.{sym, ◌∙◌}
use Rattle.tl_grammar.specs.Grammar.{recover, rollback, word}
use Rattle.tl_tokens.specs.Seen.{seen}
use Rattle.tl_tokens.proofs.Choices.{reads_second}
use Rattle.tl_parse.proofs.statement.rollback_or_recover.Goals as goal

pub returns : goal.returns
unfolding rollback word
returns c = reads_second c.recover.result rollback recover (seen c.args.at) c.missing.result (sym c.is_word.ensures ∙ c.if-is_word.false) c.missing.ensures c.recover.ensures
