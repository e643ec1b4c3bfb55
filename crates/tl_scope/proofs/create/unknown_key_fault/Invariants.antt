use Rattle.std.proofs.Common.{◌≡◌, drop}
use Rattle.std.specs.List.{flat_map}
use Rattle.tl_scope.specs.Create.{key_name_faults}
use Rattle.tl_scope.specs.Fault.{earliest, least}
use Rattle.tl_scope.proofs.create.unknown_key_fault.Given as goal

-- the first so far and of those that are left
abbrev pub invariant-loop-name : goal.invariant-loop-name
invariant-loop-name l = earliest l.fault (least (flat_map (key_name_faults l.columns) (drop l.name-index l.names))) ≡ least (flat_map (key_name_faults l.columns) l.names)
