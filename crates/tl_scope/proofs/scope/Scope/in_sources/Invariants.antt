use Rattle.std.proofs.Common.{◌≡◌, drop}
use Rattle.tl_scope.specs.Scope.{also, in_sources}
use Rattle.tl_scope.proofs.scope.Scope.in_sources.Given as goal

-- what is found so far and in those that are left
abbrev pub invariant-loop-i : goal.invariant-loop-i
invariant-loop-i l = also l.found (in_sources l.name l.i (drop l.i l.source-items)) ≡ in_sources l.name 0 l.self
