use Rattle.std.proofs.Common.{◌≡◌, drop, map}
use Rattle.tl_scope.specs.Create.{form_name}
use Rattle.tl_scope.specs.Fault.{earliest, least}
use Rattle.tl_scope.specs.Named.{repeated_after, repeated_faults}
use Rattle.tl_scope.proofs.create.repeated_column_fault.Given as goal

-- the first so far and of those that are left
abbrev pub invariant-loop-column : goal.invariant-loop-column
invariant-loop-column l = earliest l.repeats.fault (least (repeated_after l.repeats.seen (map form_name (drop l.column-index l.columns)))) ≡ least (repeated_faults (map form_name l.columns))
