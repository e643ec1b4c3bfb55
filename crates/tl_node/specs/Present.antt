-- What the present statement is.
use Rattle.std.specs.Prelude.{Bool, true, false}
use Rattle.tl_isolation.specs.declared.bound.Bound.{Bound}
use Rattle.tl_isolation.specs.declared.bound.Bound.TheVariants as bound

abbrev pub is_begin : Bound → Bool
is_begin bound.Begin = true
is_begin statement = false

-- a SELECT or a change, which is said once all is read
abbrev pub IsSaid : Bound → Type 0
IsSaid (bound.Select query) = Unit {0}
IsSaid (bound.Change edit) = Unit {0}
IsSaid statement = ⊥

-- a statement without reads; no end of a transaction is one
abbrev pub IsNoEnd : Bound → Type 0
IsNoEnd bound.Commit = ⊥
IsNoEnd bound.Rollback = ⊥
IsNoEnd statement = Unit {0}
