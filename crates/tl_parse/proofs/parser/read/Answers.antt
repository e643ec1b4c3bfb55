use Rattle.std.proofs.Common.{ap, ◌∙◌}
use Rattle.tl_tokens.specs.Lexemes.{tokens_of}
use Rattle.tl_parse.proofs.Answered.{found_answers}
use Rattle.tl_parse.proofs.parser.read.Goals as goal

pub returns-in-Ok : goal.returns-in-Ok
returns-in-Ok c = found_answers c.args.text.now c.args.tokens.now _ _ (ap tokens_of c.as_slice.ensures ∙ c.in_ok-lexemes.ensures) c.in-Ok.ensures
