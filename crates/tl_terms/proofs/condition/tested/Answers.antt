use Rattle.std.proofs.Common.{sym, ◌∙◌}
use Rattle.tl_grammar.specs.Grammar.{compared, comparison, null_test}
use Rattle.tl_tokens.specs.Seen.{seen}
use Rattle.tl_tokens.proofs.Choices.{reads_second}
use Rattle.tl_terms.proofs.condition.tested.Goals as goal

pub returns : goal.returns
unfolding compared comparison
returns c = reads_second c.null_test.result (compared c.args.left) (null_test c.args.left) (seen c.args.at) c.missing.result (sym c.is_comparison.ensures ∙ c.if-is_comparison.false) c.missing.ensures c.null_test.ensures
