-- A query has one outcome.
use Rattle.std.specs.Prelude.{◌≡◌, List, Ok, Err}
use Rattle.tl_values.specs.declared.value.Value.{Value}
use Rattle.tl_algebra.specs.declared.fault.ValueFault.TheVariants as fault
use Rattle.tl_algebra.specs.declared.query.Query.{Query}
use Rattle.tl_algebra.specs.Select.{Tells}

-- two answers to one query over the same tables are the same
abbrev pub SelectHasOneAnswer : Type 0
SelectHasOneAnswer = (q : Query) (tables : List (List (List Value))) (a b : List (List Value)) → Tells q tables (Ok a) → Tells q tables (Ok b) → a ≡ b

-- where there is an answer there is no overflow
abbrev pub SelectNeverDoesBoth : Type 0
SelectNeverDoesBoth = (q : Query) (tables : List (List (List Value))) (a : List (List Value)) → Tells q tables (Ok a) → Tells q tables (Err fault.Overflow) → ⊥
