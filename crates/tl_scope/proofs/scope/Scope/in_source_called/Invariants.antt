use Rattle.std.proofs.Common.{◌≡◌, drop}
use Rattle.tl_scope.specs.Scope.{in_source_called}
use Rattle.tl_scope.proofs.scope.Scope.in_source_called.Given as goal

-- it is among those that are left
abbrev pub invariant-loop-i : goal.invariant-loop-i
invariant-loop-i l = in_source_called l.table l.name l.i (drop l.i l.source-items) ≡ in_source_called l.table l.name 0 l.self
