-- The access of a table, step by step over the parts of WHERE, as the code walks them.
use Rattle.std.specs.Prelude.{◌+◌, ℕ, Bool, true, false, List, [], ◌∷◌, Option, Some, None, filter_map, length, map, if◌then◌else◌}
use Rattle.std.specs.Borrow.{Bor}
use Rattle.std.specs.Option.{option_map}
use Rattle.tl_values.specs.declared.value.Value.{Value}
use Rattle.tl_values.specs.Key.{key_bytes}
use Rattle.tl_schema.specs.declared.access.Access.{Access}
use Rattle.tl_schema.specs.declared.access.Access.TheVariants as access
use Rattle.tl_schema.specs.declared.catalog.Table.{Table}
use Rattle.tl_algebra.specs.declared.condition.Condition.{Condition}
use Rattle.tl_algebra.specs.Select.{each}
use Rattle.tl_plan.specs.declared.tested.Tested.{Tested}
use Rattle.tl_plan.specs.Access.{ColumnTest, equal_to, greater_of, high_of, is_equality, lesser_of, low_of, range_by, test_of}

-- a test as the code has it
abbrev pub seen : Tested → ColumnTest
seen t = record { by = t.by; value = t.value.now }

-- the value of a test for equality
abbrev pub equality : Option ColumnTest → Option Value
equality None = None
equality (Some t) = if is_equality t.by then Some t.value else None

abbrev pub or_else : Option Value → Option Value → Option Value
or_else (Some v) rest = Some v
or_else None rest = rest

-- the value of the first part that tests the column at this place for equality
abbrev pub first_equal : ℕ → List Condition → Option Value
first_equal place [] = None
first_equal place (part ∷ parts) = or_else (equality (test_of place part)) (first_equal place parts)

-- whether there is a test
abbrev pub are_some : List ColumnTest → Bool
are_some [] = false
are_some (t ∷ ts) = true

-- the low bound so far and one part more
abbrev pub raised : List ℕ → Option ColumnTest → List ℕ
raised low None = low
raised low (Some t) = greater_of low (low_of t)

abbrev pub low_from : ℕ → List ℕ → List Condition → List ℕ
low_from place low [] = low
low_from place low (part ∷ parts) = low_from place (raised low (test_of place part)) parts

-- the same of the high bound
abbrev pub lowered : List ℕ → Option ColumnTest → List ℕ
lowered high None = high
lowered high (Some t) = lesser_of high (high_of t)

abbrev pub high_from : ℕ → List ℕ → List Condition → List ℕ
high_from place high [] = high
high_from place high (part ∷ parts) = high_from place (lowered high (test_of place part)) parts

-- the value that the parts test the column at this place to equal
abbrev pub equal_in : ℕ → List Condition → ℕ → Option Value
equal_in offset parts column = equal_to (filter_map (test_of (offset + column)) parts)

-- the range that the tests of the first of these columns leave
abbrev pub range_on : ℕ → List Condition → List ℕ → Access
range_on offset parts [] = access.Whole
range_on offset parts (column ∷ columns) = range_by (filter_map (test_of (offset + column)) parts)

-- the key bytes where each of these columns is tested for equality
abbrev pub point_of : ℕ → List Condition → List ℕ → Option (List ℕ)
point_of offset parts columns = option_map key_bytes (each (equal_in offset parts) columns)

abbrev pub access_on : Option (List ℕ) → Access → Access
access_on (Some key) range = access.Point key
access_on None range = range

-- how many columns the tables have together
abbrev pub width : List Table → ℕ
width [] = 0
width (table ∷ tables) = length table.columns + width tables

-- the tables behind their references
abbrev pub these : List (Bor Table) → List Table
these tables = map (λ (table : Bor Table). table.now) tables
