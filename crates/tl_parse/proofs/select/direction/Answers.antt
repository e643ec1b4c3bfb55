use Rattle.std.proofs.Common.{sym, ◌∙◌}
use Rattle.std.proofs.Common.{false}
use Rattle.tl_grammar.specs.Form.{either, pure}
use Rattle.tl_grammar.specs.Grammar.{ascending, descending, direction, word}
use Rattle.tl_tokens.specs.Seen.{seen}
use Rattle.tl_tokens.proofs.Choices.{reads_second}
use Rattle.tl_parse.proofs.select.direction.Goals as goal

pub returns : goal.returns
unfolding direction ascending word
returns c = reads_second c.descending_or_not.result ascending (either descending (pure false)) (seen c.args.at) c.missing.result (sym c.is_word.ensures ∙ c.if-is_word.false) c.missing.ensures c.descending_or_not.ensures
