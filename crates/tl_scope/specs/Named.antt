-- The faults of lists of names.
use Rattle.std.specs.Prelude.{ℕ, Bool, true, false, List, [], ◌∷◌, ◌++◌, flat_map, Option, Some, None}
use Rattle.std.specs.List.{list_any}
use Rattle.tl_schema.specs.declared.catalog.Column.{Column}
use Rattle.tl_grammar.specs.declared.name.Name.{Name}
use Rattle.tl_scope.specs.declared.fault.BindKind.TheVariants as kind
use Rattle.tl_scope.specs.declared.fault.BindFault.{BindFault}
use Rattle.tl_scope.specs.Fault.{fault_if}
use Rattle.tl_scope.specs.Scope.{column_place, same}

abbrev pub is_none : {A : Type 0} → Option A → Bool
is_none None = true
is_none (Some x) = false

-- one of these names
abbrev pub is_among : List (List ℕ) → List ℕ → Bool
is_among names name = list_any (same name) names

-- names that stand before these, or earlier among them
abbrev pub repeated_after : List (List ℕ) → List Name → List BindFault
repeated_after before [] = []
repeated_after before (n ∷ ns) = fault_if (is_among before n.text) n.at kind.Twice ++ repeated_after (n.text ∷ before) ns

-- a name is given twice: at each place but its first
abbrev pub repeated_faults : List Name → List BindFault
repeated_faults names = repeated_after [] names

-- no column is called so
abbrev pub unknown_faults : List Column → Name → List BindFault
unknown_faults columns n = fault_if (is_none (column_place n.text columns)) n.at kind.UnknownColumn

-- the columns that INSERT or an index names
abbrev pub columns_faults : List Column → List Name → List BindFault
columns_faults columns names = flat_map (unknown_faults columns) names ++ repeated_faults names
