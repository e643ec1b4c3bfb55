use Rattle.std.proofs.Common.{ℕ, List, ◌∷◌, Some, None, refl, ap, ◌∙◌}
use Rattle.tl_manager.specs.declared.mark.TxnStep.TheVariants as step
use Rattle.tl_journal.specs.Node.{Recovering}
use Rattle.tl_recover.proofs.Follows.{fits_step, step_only}
use Rattle.tl_recover.proofs.FollowsDuties.{some_duty}
use Rattle.tl_recover.proofs.NotOdd.{not_odd}
use Rattle.tl_recover.proofs.Rising.{after_first}
use Rattle.tl_recover.proofs.law.recoveries_follow_the_node.Goals as goal

pub returns-clause-duty : goal.returns-clause-duty
returns-clause-duty c also gone some few = some_duty also gone some few

pub returns-clause-begins : goal.returns-clause-begins
returns-clause-begins c gone nodes first later e = (
  ap (λ (ns : List ℕ). Recovering (record { node = gone; all = nodes; left = ns })) e
      ∙ ap (λ (ns : List ℕ). Recovering (record { node = gone; all = nodes; left = first ∷ ns })) (after_first nodes first later e),
  λ settings catalog node statement. refl,
)

pub returns-clause-goes_on : goal.returns-clause-goes_on
returns-clause-goes_on c t told h = (fits_step t (Some (step.Going told)) h).0

pub returns-clause-awaits : goal.returns-clause-awaits
returns-clause-awaits c t told h = (fits_step t (Some (step.Going told)) h).1

pub returns-clause-ends : goal.returns-clause-ends
returns-clause-ends c t told h = fits_step t (Some (step.Ended told)) h

pub returns-clause-steps : goal.returns-clause-steps
returns-clause-steps c t told h = step_only t told h

pub returns-clause-strange : goal.returns-clause-strange
returns-clause-strange c t awaited h = fits_step t None h awaited

pub returns-clause-not_odd : goal.returns-clause-not_odd
returns-clause-not_odd c t told h = not_odd t told h
