use Rattle.std.proofs.Common.{◌≡◌, drop}
use Rattle.tl_scope.specs.Create.{column_form_faults}
use Rattle.tl_scope.specs.Fault.{each_from, earliest, least}
use Rattle.tl_scope.proofs.create.column_forms_fault.Given as goal

-- the first so far and of those that are left
abbrev pub invariant-loop-i : goal.invariant-loop-i
invariant-loop-i l = earliest l.fault (least (each_from column_form_faults l.i (drop l.i l.columns))) ≡ least (each_from column_form_faults 0 l.columns)
