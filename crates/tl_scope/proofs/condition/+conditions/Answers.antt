use Rattle.std.proofs.Common.{List, ap, ◌∙◌}
use Rattle.tl_scope.specs.declared.fault.BindFault.{BindFault}
use Rattle.tl_scope.specs.Condition.{condition_faults}
use Rattle.tl_scope.specs.Fault.{earliest}
use Rattle.tl_scope.proofs.Faults.{loop_next}
use Rattle.tl_scope.proofs.condition.+conditions.Goals as goal

pub conditions_fault-loop-condition-preserved : goal.conditions_fault-loop-condition-preserved
conditions_fault-loop-condition-preserved t c =
    let l = c.loop-condition in
    loop_next (λ (fs : List BindFault). fs) (condition_faults c.args.scope.now) l.fault c.earliest-fault.result
    c.as_slice-condition-items.result.now l.condition-index c.condition-item.result c.loop-condition-test.true c.condition-item.is
    (c.earliest-fault.ensures ∙ ap (earliest l.fault) c.condition_fault.ensures)
    ∙ l.invariant
