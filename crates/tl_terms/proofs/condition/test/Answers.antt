use Rattle.std.proofs.Common.{arith}
use Rattle.std.proofs.lemmas.Grind.{common_steps}
use Rattle.tl_grammar.specs.Grammar.{test}
use Rattle.tl_terms.proofs.condition.test.Goals as goal

pub returns-in_err-left : goal.returns-in_err-left
unfolding test
returns-in_err-left c = grind (arith, common_steps)

pub returns-in_err-found : goal.returns-in_err-found
unfolding test
returns-in_err-found c = grind (arith, common_steps)

pub returns : goal.returns
unfolding test
returns c = grind (arith, common_steps)
