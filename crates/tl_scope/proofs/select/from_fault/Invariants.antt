use Rattle.std.proofs.Common.{◌≡◌, ◌++◌, drop, length}
use Rattle.tl_scope.specs.Fault.{each_from, earliest, least}
use Rattle.tl_scope.specs.Scope.{scope_of}
use Rattle.tl_scope.specs.Select.{from_faults}
use Rattle.tl_scope.proofs.select.from_fault.Given as goal

-- the scope so far, and the first fault so far and of the items that are left
abbrev pub invariant-loop-i : goal.invariant-loop-i
invariant-loop-i l = record {
  scope : l.scope ++ scope_of l.catalog (drop l.i l.from) ≡ scope_of l.catalog l.from;
  length : length l.scope ≡ l.i;
  fault : earliest l.fault (least (each_from (from_faults l.catalog (scope_of l.catalog l.from)) l.i (drop l.i l.from))) ≡ least (each_from (from_faults l.catalog (scope_of l.catalog l.from)) 0 l.from);
}
