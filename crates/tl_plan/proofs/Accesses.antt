-- The access that the code finds over the parts of WHERE is the one that WHERE gives.
use Rattle.std.proofs.Common.{◌≡◌, ℕ, List, [], ◌∷◌, Option, Some, None, refl}
use Rattle.std.specs.Option.{option_map}
use Rattle.tl_values.specs.declared.value.Value.{Value}
use Rattle.tl_values.specs.Key.{key_bytes}
use Rattle.tl_schema.specs.declared.access.Access.{Access}
use Rattle.tl_schema.specs.declared.catalog.Table.{Table}
use Rattle.tl_algebra.specs.declared.condition.Condition.{Condition}
use Rattle.tl_algebra.specs.Select.{each}
use Rattle.tl_plan.specs.Access.{ColumnTest, access_by, access_of, first_tests, parts_of, range_by}
use Rattle.tl_plan.specs.Steps.{access_on, equal_in, point_of, range_on}

range_on_is : (offset : ℕ) (columns : List ℕ) (where_ : Option Condition) → range_on offset (parts_of where_) columns ≡ range_by (first_tests offset columns where_)
range_on_is offset [] where_ = refl
range_on_is offset (column ∷ columns) where_ = refl

access_on_is : (o : Option (List Value)) (range : Access) (tests : List ColumnTest) → range ≡ range_by tests → access_on (option_map key_bytes o) range ≡ access_by o tests
access_on_is None range tests e = e
access_on_is (Some values) range tests e = refl

pub access_is : (table : Table) (offset : ℕ) (where_ : Option Condition) → access_on (point_of offset (parts_of where_) table.key) (range_on offset (parts_of where_) table.key) ≡ access_of table offset where_
access_is table offset where_ =
    access_on_is (each (equal_in offset (parts_of where_)) table.key) (range_on offset (parts_of where_) table.key) (first_tests offset table.key where_) (range_on_is offset table.key where_)
