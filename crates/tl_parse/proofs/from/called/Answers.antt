use Rattle.std.proofs.Common.{None, Ok, Some, refl, sym, ◌∙◌}
use Rattle.tl_grammar.specs.Form.{either}
use Rattle.tl_grammar.specs.Form.{◌>>=◌, pure}
use Rattle.tl_grammar.specs.Grammar.{as_name, name, optional, word}
use Rattle.tl_tokens.specs.Seen.{seen}
use Rattle.tl_tokens.proofs.Choices.{reads_second}
use Rattle.tl_parse.proofs.from.called.Goals as goal

pub returns : goal.returns
unfolding optional as_name word
returns c = reads_second (Ok (None, c.missing.result)) ((either as_name name) >>= (λ x. pure (Some x))) (pure None) (seen c.args.at) c.missing.result (sym c.is_new_name.ensures ∙ c.if-is_new_name.false) c.missing.ensures refl
