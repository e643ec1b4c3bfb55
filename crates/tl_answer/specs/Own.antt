-- What is known of the own writes where a change is answered.
use Rattle.std.specs.Prelude.{◌≡◌, ℕ, true, List, Option, Some}
use Rattle.std.specs.List.{AllByRecursion}
use Rattle.tl_values.specs.declared.value.Value.{Value}
use Rattle.tl_schema.specs.declared.catalog.Catalog.{Catalog}
use Rattle.tl_schema.specs.declared.catalog.Table.{Table}
use Rattle.tl_schema.specs.Record.{record_key}
use Rattle.tl_algebra.specs.declared.edit.Edit.{Edit}
use Rattle.tl_write.specs.declared.write.Write.{Write}
use Rattle.tl_write.specs.Change.{number_of}
use Rattle.tl_write.specs.Tables.{is_in}
use Rattle.tl_isolation.specs.Tables.{table_of}

-- a row that is written into the table of this number stands under its own record key
abbrev pub StandsUnderKey : ℕ → Table → Write → Type 0
StandsUnderKey number table w =
    (row : List Value) → is_in number w.key ≡ true → ◌≡◌ {A = Option (List Value)} w.row (Some row) → w.key ≡ record_key number table row

-- so do all own rows of the table that is changed
pub record OwnSuits (catalog : Catalog) (edit : Edit) (own : List Write) : Type 0 where
  pub keyed : AllByRecursion (StandsUnderKey (number_of edit) (table_of catalog (number_of edit))) own
