use Rattle.std.proofs.Common.{None, Ok, Some, refl, sym, ◌∙◌}
use Rattle.tl_grammar.specs.Form.{◌>>=◌, pure}
use Rattle.tl_grammar.specs.Grammar.{optional, where_form, word}
use Rattle.tl_tokens.specs.Seen.{seen}
use Rattle.tl_tokens.proofs.Choices.{reads_second}
use Rattle.tl_terms.proofs.condition.filter.Goals as goal

pub returns : goal.returns
unfolding optional where_form word
returns c = reads_second (Ok (None, c.missing.result)) ((where_form 64) >>= (λ x. pure (Some x))) (pure None) (seen c.args.at) c.missing.result (sym c.is_word.ensures ∙ c.if-is_word.false) c.missing.ensures refl
