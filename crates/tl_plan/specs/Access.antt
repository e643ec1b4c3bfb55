-- Which records a statement reads of a table: its access, by the tests that stand in the outermost AND of WHERE.
use Rattle.std.specs.Prelude.{◌==◌, ◌+◌, ℕ, Bool, true, false, not, ◌&&◌, List, [], ◌∷◌, ◌++◌, Option, Some, None, fold, filter_map, length, if◌then◌else◌}
use Rattle.std.specs.Ordering.{nat_cmp, is_eq, is_lt}
use Rattle.std.specs.Cmp.Lexicographic.{slice_cmp}
use Rattle.tl_values.specs.declared.value.Comparison.{Comparison}
use Rattle.tl_values.specs.declared.value.Comparison.TheVariants as by
use Rattle.tl_values.specs.declared.value.Value.{Value}
use Rattle.tl_values.specs.Key.{key_bytes, value_key}
use Rattle.tl_values.specs.Value.{is_null}
use Rattle.tl_schema.specs.declared.access.Access.{Access}
use Rattle.tl_schema.specs.declared.access.Access.TheVariants as access
use Rattle.tl_schema.specs.declared.catalog.Table.{Table}
use Rattle.tl_algebra.specs.declared.condition.Condition.{Condition}
use Rattle.tl_algebra.specs.declared.condition.Condition.{Condition-F, out-Condition}
use Rattle.tl_algebra.specs.declared.condition.Condition.TheOpen as layer
use Rattle.tl_algebra.specs.declared.condition.Side.TheVariants as side
use Rattle.tl_algebra.specs.Select.{each}

-- a test of a column against a literal
pub record ColumnTest : Type 0 where
  pub by : Comparison
  pub value : Value

-- the parts of the outermost AND
abbrev pub parts_of : Option Condition → List Condition
parts_of None = []
parts_of (Some c) = parts (out-Condition c)
  where
    parts : Condition-F Condition → List Condition
    parts (layer.And each_part) = each_part
    parts whole = c ∷ []

-- the comparison with its sides changed
abbrev pub turned_round : Comparison → Comparison
turned_round by.Equal = by.Equal
turned_round by.NotEqual = by.NotEqual
turned_round by.Less = by.Greater
turned_round by.LessEqual = by.GreaterEqual
turned_round by.Greater = by.Less
turned_round by.GreaterEqual = by.LessEqual

-- all comparisons but <> bound a column
abbrev pub bounds : Comparison → Bool
bounds by.Equal = true
bounds by.NotEqual = false
bounds by.Less = true
bounds by.LessEqual = true
bounds by.Greater = true
bounds by.GreaterEqual = true

abbrev pub is_equality : Comparison → Bool
is_equality by.Equal = true
is_equality c = false

abbrev pub test_where : Bool → Comparison → Value → Option ColumnTest
test_where here c value = if here && bounds c && not (is_null value) then Some (record { by = c; value = value }) else None

-- the test of the column at this place, where the part is one: against a literal that isn't NULL, on either side
abbrev pub test_by : ℕ → Condition-F Condition → Option ColumnTest
test_by place (layer.Test (side.Place at) c (side.Literal value)) = test_where (at == place) c value
test_by place (layer.Test (side.Literal value) c (side.Place at)) = test_where (at == place) (turned_round c) value
test_by place part = None

abbrev pub test_of : ℕ → Condition → Option ColumnTest
test_of place part = test_by place (out-Condition part)

-- the tests of the column at this place
abbrev pub tests_of : ℕ → Option Condition → List ColumnTest
tests_of place where_ = filter_map (test_of place) (parts_of where_)

-- the value of the first test for equality
abbrev pub equal_to : List ColumnTest → Option Value
equal_to [] = None
equal_to (t ∷ ts) = if is_equality t.by then Some t.value else equal_to ts

abbrev pub is_below : List ℕ → List ℕ → Bool
is_below a b = is_lt (slice_cmp nat_cmp a b)

abbrev pub greater_of : List ℕ → List ℕ → List ℕ
greater_of a b = if is_below a b then b else a

abbrev pub lesser_of : List ℕ → List ℕ → List ℕ
lesser_of a b = if is_below b a then b else a

-- the key bytes from which on the column's value may stand by this test, and those below which it may
abbrev pub low_of : ColumnTest → List ℕ
low_of t = by_comparison t.by
  where
    by_comparison : Comparison → List ℕ
    by_comparison by.Equal = value_key t.value
    by_comparison by.GreaterEqual = value_key t.value
    by_comparison by.Greater = value_key t.value ++ 255 ∷ []
    by_comparison c = 1 ∷ []

abbrev pub high_of : ColumnTest → List ℕ
high_of t = by_comparison t.by
  where
    by_comparison : Comparison → List ℕ
    by_comparison by.Equal = value_key t.value ++ 255 ∷ []
    by_comparison by.LessEqual = value_key t.value ++ 255 ∷ []
    by_comparison by.Less = value_key t.value
    by_comparison c = 4 ∷ []

-- the greatest low and the least high; 01 is below and 04 above the key bytes of every value but NULL
abbrev pub low_bound : List ColumnTest → List ℕ
low_bound tests = fold (λ low t. greater_of low (low_of t)) (1 ∷ []) tests

abbrev pub high_bound : List ColumnTest → List ℕ
high_bound tests = fold (λ high t. lesser_of high (high_of t)) (4 ∷ []) tests

abbrev pub range_by : List ColumnTest → Access
range_by [] = access.Whole
range_by (t ∷ ts) = access.KeyRange (low_bound (t ∷ ts)) (high_bound (t ∷ ts))

-- the tests of the first column of the primary key
abbrev pub first_tests : ℕ → List ℕ → Option Condition → List ColumnTest
first_tests offset [] where_ = []
first_tests offset (column ∷ columns) where_ = tests_of (offset + column) where_

abbrev pub access_by : Option (List Value) → List ColumnTest → Access
access_by (Some values) tests = access.Point (key_bytes values)
access_by None tests = range_by tests

-- The access of a table whose columns stand from this place on: one record where each column of the primary key is
-- tested for equality; else a range of keys where its first column is tested; else all.
abbrev pub access_of : Table → ℕ → Option Condition → Access
access_of table offset where_ =
    access_by (each (λ column. equal_to (tests_of (offset + column) where_)) table.key) (first_tests offset table.key where_)

-- the accesses of the tables of a FROM, one behind the other
abbrev pub accesses_of : List Table → ℕ → Option Condition → List Access
accesses_of [] offset where_ = []
accesses_of (table ∷ tables) offset where_ = access_of table offset where_ ∷ accesses_of tables (offset + length table.columns) where_

-- whether a record with these bytes of its primary key, and this row, lies within the access. An access by an index covers all
-- until nodes keep indexes
abbrev pub covers : Access → List ℕ → List Value → Bool
covers (access.Point key) bytes row = is_eq (slice_cmp nat_cmp key bytes)
covers (access.KeyRange low high) bytes row = not (is_below bytes low) && is_below bytes high
covers (access.IndexRange index low high) bytes row = true
covers access.Whole bytes row = true
