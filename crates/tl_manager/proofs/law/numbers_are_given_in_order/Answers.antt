use Rattle.tl_manager.proofs.Given.{in_order}
use Rattle.tl_manager.proofs.law.numbers_are_given_in_order.Goals as goal

pub returns-clause-first : goal.returns-clause-first
returns-clause-first c = λ log served. (in_order log served).first

pub returns-clause-enough : goal.returns-clause-enough
returns-clause-enough c = λ log served. (in_order log served).enough
