use Rattle.std.proofs.Common.{Ok, false, refl, sym, true, ◌∙◌}
use Rattle.tl_grammar.specs.Form.{◌>>=◌, pure}
use Rattle.tl_grammar.specs.Grammar.{given, primary_key, word}
use Rattle.tl_tokens.specs.Seen.{seen}
use Rattle.tl_tokens.proofs.Choices.{reads_second}
use Rattle.tl_parse.proofs.create.given_primary_key.Goals as goal

pub returns : goal.returns
unfolding given primary_key word
returns c = reads_second (Ok (false, c.missing.result)) (primary_key >>= (λ x. pure true)) (pure false) (seen c.args.at) c.missing.result (sym c.is_word.ensures ∙ c.if-is_word.false) c.missing.ensures refl
