use Rattle.tl_grammar.proofs.Few.{few_law}
use Rattle.tl_grammar.proofs.law.tuples_are_few.Goals as goal

pub returns : goal.returns
returns c = record { few = few_law }
