use Rattle.std.proofs.Common.{Ok, false, refl, sym, true, ◌∙◌}
use Rattle.tl_grammar.specs.Form.{◌>>=◌, pure}
use Rattle.tl_grammar.specs.Grammar.{given, sign}
use Rattle.tl_tokens.specs.Seen.{seen}
use Rattle.tl_tokens.proofs.Choices.{reads_second}
use Rattle.tl_tokens.proofs.cursor.given_sign.Goals as goal

pub returns : goal.returns
unfolding given sign
returns c = reads_second (Ok (false, c.missing.result)) ((sign c.args.x) >>= (λ x. pure true)) (pure false) (seen c.args.at) c.missing.result (sym c.is_sign.ensures ∙ c.if-is_sign.false) c.missing.ensures refl
