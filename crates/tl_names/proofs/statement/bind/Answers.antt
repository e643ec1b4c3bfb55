use Rattle.std.proofs.Common.{sym, subst, ◌∙◌}
use Rattle.tl_scope.specs.Statement.{statement_faults}
use Rattle.tl_scope.proofs.Firsts.{least_first, least_nothing}
use Rattle.tl_names.specs.declared.error.BindError.{BindError}
use Rattle.tl_names.specs.Bind.{Refuses}
use Rattle.tl_names.proofs.statement.bind.Goals as goal

pub bound_of-requires-clause-faults : goal.bound_of-requires-clause-faults
bound_of-requires-clause-faults c =
    least_nothing (statement_faults c.args.catalog.now c.args.statement.now) (sym c.in_ok-fault.ensures ∙ c.in-None.is)

pub returns-in-Some-clause-bound : goal.returns-in-Some-clause-bound
returns-in-Some-clause-bound c =
    let faults = statement_faults c.args.catalog.now c.args.statement.now in
    subst (λ (e : BindError). Refuses e faults) (sym c.refusal.ensures) (least_first faults c.in-Some.fault (sym c.in_ok-fault.ensures ∙ c.in-Some.is))

pub returns-in_ok-bound_of-in-None-clause-bound : goal.returns-in_ok-bound_of-in-None-clause-bound
returns-in_ok-bound_of-in-None-clause-bound c =
    (least_nothing (statement_faults c.args.catalog.now c.args.statement.now) (sym c.in_ok-fault.ensures ∙ c.in-None.is), c.in_ok-bound_of-in-None.ensures.same)
