use Rattle.std.proofs.Common.{Ok, false, refl, sym, true, ◌∙◌}
use Rattle.tl_grammar.specs.Form.{◌>>=◌, pure}
use Rattle.tl_grammar.specs.Grammar.{given, not_null, word}
use Rattle.tl_tokens.specs.Seen.{seen}
use Rattle.tl_tokens.proofs.Choices.{reads_second}
use Rattle.tl_parse.proofs.create.given_not_null.Goals as goal

pub returns : goal.returns
unfolding given not_null word
returns c = reads_second (Ok (false, c.missing.result)) (not_null >>= (λ x. pure true)) (pure false) (seen c.args.at) c.missing.result (sym c.is_word.ensures ∙ c.if-is_word.false) c.missing.ensures refl
