use Rattle.tl_grammar.proofs.Whole.{whole_law}
use Rattle.tl_grammar.proofs.law.statements_are_whole.Goals as goal

pub returns : goal.returns
returns c = record { whole = whole_law }
