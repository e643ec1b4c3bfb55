-- The places of columns: through the columns of all FROM items, one item after the other.
use Rattle.std.specs.Prelude.{ℕ, ◌+◌, ◌-◌, ◌==◌, List, [], ◌∷◌, ◌++◌, length, if◌then◌else◌}
use Rattle.tl_schema.specs.declared.catalog.Column.{Column}
use Rattle.tl_grammar.specs.declared.name.ColumnName.{ColumnName}
use Rattle.tl_scope.specs.declared.found.Found.{Found}
use Rattle.tl_scope.specs.declared.found.Found.TheVariants.{NoTable, NoColumn, One, Several}
use Rattle.tl_scope.specs.Scope.{Source, column_found}

-- the columns of all items
abbrev pub columns_in : List Source → List Column
columns_in [] = []
columns_in (source ∷ sources) = source.columns ++ columns_in sources

-- the place of a column of the i-th item
abbrev pub place_at : ℕ → List Source → ℕ → ℕ
place_at column [] i = column
place_at column (source ∷ sources) i = if i == 0 then column else length source.columns + place_at column sources (i - 1)

-- what isn't one column is a fault
abbrev pub found_place : List Source → Found → ℕ
found_place scope NoTable = 0
found_place scope NoColumn = 0
found_place scope (One spot) = place_at spot.column scope spot.item
found_place scope Several = 0

abbrev pub place_of : List Source → ColumnName → ℕ
place_of scope c = found_place scope (column_found scope c)
