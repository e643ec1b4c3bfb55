use Rattle.std.proofs.Common.{None, Ok, Some, refl, sym, ◌∙◌}
use Rattle.tl_grammar.specs.Form.{◌>>=◌, pure}
use Rattle.tl_grammar.specs.Grammar.{dot_name, optional, sign}
use Rattle.tl_tokens.specs.Seen.{seen}
use Rattle.tl_tokens.proofs.Choices.{reads_second}
use Rattle.tl_terms.proofs.operand.second_name.Goals as goal

pub returns : goal.returns
unfolding optional dot_name sign
returns c = reads_second (Ok (None, c.missing.result)) (dot_name >>= (λ x. pure (Some x))) (pure None) (seen c.args.at) c.missing.result (sym c.is_sign.ensures ∙ c.if-is_sign.false) c.missing.ensures refl
