use Rattle.std.proofs.Common.{None, Ok, Some, refl, sym, ◌∙◌}
use Rattle.tl_grammar.specs.Form.{◌>>=◌, pure}
use Rattle.tl_grammar.specs.Grammar.{in_brackets, names, optional, sign}
use Rattle.tl_tokens.specs.Seen.{seen}
use Rattle.tl_tokens.proofs.Choices.{reads_second}
use Rattle.tl_parse.proofs.insert.columns.Goals as goal

pub returns : goal.returns
unfolding optional names in_brackets sign
returns c = reads_second (Ok (None, c.missing.result)) (names >>= (λ x. pure (Some x))) (pure None) (seen c.args.at) c.missing.result (sym c.is_sign.ensures ∙ c.if-is_sign.false) c.missing.ensures refl
