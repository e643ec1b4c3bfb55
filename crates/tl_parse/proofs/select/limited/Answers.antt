use Rattle.std.proofs.Common.{None, Ok, Some, refl, sym, ◌∙◌}
use Rattle.tl_grammar.specs.Form.{◌>>=◌, pure}
use Rattle.tl_grammar.specs.Grammar.{limit, optional, word}
use Rattle.tl_tokens.specs.Seen.{seen}
use Rattle.tl_tokens.proofs.Choices.{reads_second}
use Rattle.tl_parse.proofs.select.limited.Goals as goal

pub returns : goal.returns
unfolding optional limit word
returns c = reads_second (Ok (None, c.missing.result)) (limit >>= (λ x. pure (Some x))) (pure None) (seen c.args.at) c.missing.result (sym c.is_word.ensures ∙ c.if-is_word.false) c.missing.ensures refl
