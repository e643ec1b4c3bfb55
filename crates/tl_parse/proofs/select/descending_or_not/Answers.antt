use Rattle.std.proofs.Common.{Ok, false, refl, sym, ◌∙◌}
use Rattle.tl_grammar.specs.Form.{pure}
use Rattle.tl_grammar.specs.Grammar.{descending, word}
use Rattle.tl_tokens.specs.Seen.{seen}
use Rattle.tl_tokens.proofs.Choices.{reads_second}
use Rattle.tl_parse.proofs.select.descending_or_not.Goals as goal

pub returns : goal.returns
unfolding descending word
returns c = reads_second (Ok (false, c.missing.result)) descending (pure false) (seen c.args.at) c.missing.result (sym c.is_word.ensures ∙ c.if-is_word.false) c.missing.ensures refl
