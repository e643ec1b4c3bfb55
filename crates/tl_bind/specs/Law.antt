-- What is bound fits.
use Rattle.std.specs.Prelude.{◌≡◌, true, List, []}
use Rattle.tl_values.specs.Key.{AreValues}
use Rattle.tl_isolation.specs.Kinds.{compares_alike}
use Rattle.tl_grammar.specs.declared.condition.Cond.{Cond}
use Rattle.tl_scope.specs.Condition.{condition_faults}
use Rattle.tl_scope.specs.Scope.{Source}
use Rattle.tl_bind.specs.Condition.{bound_condition, values_in}
use Rattle.tl_bind.specs.Place.{columns_in}

-- a condition without faults is bound to one that compares only what is of one kind
abbrev pub ConditionFits : Type 0
ConditionFits = (scope : List Source) (c : Cond) → condition_faults scope c ≡ [] → AreValues (values_in c) → compares_alike (columns_in scope) (bound_condition scope c) ≡ true
