-- The rows under its own keys are all that an INSERT looks at.
use Rattle.std.proofs.Common.{◌≡◌, ℕ, zero, suc, ◌&&◌, Bool, true, List, [], ◌∷◌, Option, Some, None, Ok, Err, refl, sym, ap, subst, ◌∙◌, arith}
use Rattle.std.specs.Prelude.{Contains}
use Rattle.std.specs.FinMap as finmap
use Rattle.std.specs.List.{AllByRecursion}
use Rattle.std.proofs.lemmas.Bool.{eq-eqb}
use Rattle.tl_values.specs.declared.value.Value.{Value}
use Rattle.tl_schema.specs.declared.catalog.Table.{Table}
use Rattle.tl_schema.specs.Record.{record_key}
use Rattle.tl_algebra.specs.declared.edit.Edit.TheVariants.{Insert}
use Rattle.tl_write.specs.declared.fault.ChangeFault.{ChangeFault}
use Rattle.tl_write.specs.declared.fault.ChangeFault.TheVariants as fault
use Rattle.tl_write.specs.declared.write.Effect.{Effect}
use Rattle.tl_write.specs.Change.{change_of}
use Rattle.tl_write.specs.Fault.{IsFault}
use Rattle.tl_write.specs.Law.{Has, IsListed, LooksAt}
use Rattle.tl_write.specs.Tables.{Tables, is_in, laid_over, tables_of}
use Rattle.tl_write.proofs.Parts.{rows_suffice}
use Rattle.tl_opening.specs.Insert.{Inserts, StandUnderKeys, found_under, with_found}

abbrev Row : Type 0
Row = List Value

-- the record key of a row is in its table
row_in : (number : ℕ) (table : Table) (row : Row) → is_in number (record_key number table row) ≡ true
row_in number table row = ap (λ (b : Bool). b && true) (eq-eqb number number refl)

module _ (number : ℕ) (table : Table) (tables : Tables) where
  abbrev found_of : List Row → List Row
  found_of rows = found_under number table tables rows

  -- what stands under the key of one of the rows is found
  here_found : (row : Row) (rows : List Row) (found : Row) → Has tables (record_key number table row) found → Contains (found_of (row ∷ rows)) found
  here_found row rows found has = subst (λ (o : Option Row). Contains (with_found o (found_of rows)) found) (sym has) (zero, omega arith, refl)

  later_found : (row : Row) (rows : List Row) (found : Row) → Contains (found_of rows) found → Contains (found_of (row ∷ rows)) found
  later_found row rows found c = by (finmap.get tables (record_key number table row))
    where
      by : (o : Option Row) → Contains (with_found o (found_of rows)) found
      by None = c
      by (Some x) = let within = c.1 in (suc c.0, omega arith, c.2)

  module _ (stand : StandUnderKeys number table tables) where
    own_key : (row found : Row) → Has tables (record_key number table row) found → record_key number table row ≡ record_key number table found
    own_key row found has = stand (record_key number table row) found has (row_in number table row)

    -- each row that is found stands there
    each_stands : (rows : List Row) → AllByRecursion (λ row. Has tables (record_key number table row) row) (found_of rows)
    each_stands [] = tt
    each_stands (row ∷ rows) = one (finmap.get tables (record_key number table row)) refl (each_stands rows)
      where
        one : (o : Option Row) → finmap.get tables (record_key number table row) ≡ o → AllByRecursion (λ row. Has tables (record_key number table row) row) (found_of rows)
            → AllByRecursion (λ row. Has tables (record_key number table row) row) (with_found o (found_of rows))
        one None e later = later
        one (Some found) e later = (subst (λ (k : List ℕ). Has tables k found) (own_key row found e) e, later)

    looks : (view rows : List Row) → ((found : Row) → Contains (found_of rows) found → Contains view found) → LooksAt (Insert number rows) table tables (IsListed number table view)
    looks view [] within = tt
    looks view (row ∷ rows) within = (
      λ found has. (within found (here_found row rows found has), sym (own_key row found has)),
      looks view rows (λ found c. within found (later_found row rows found c)),
    )

    view_suffices : (rows : List Row) → change_of (Insert number rows) table (tables_of number table (found_of rows)) [] ≡ change_of (Insert number rows) table tables []
    view_suffices rows = rows_suffice (Insert number rows) table (found_of rows) tables [] (each_stands rows) (looks (found_of rows) rows (λ found c. c))

    -- the change over the rows that are found
    same_change : (rows view : List Row) → view ≡ found_of rows → change_of (Insert number rows) table tables [] ≡ change_of (Insert number rows) table (tables_of number table view) []
    same_change rows view e =
        sym (ap (λ (v : List Row). change_of (Insert number rows) table (tables_of number table v) []) e ∙ view_suffices rows)

    pub inserted : (rows view : List Row) (effect : Effect) (after : Tables) → view ≡ found_of rows
        → change_of (Insert number rows) table (tables_of number table view) [] ≡ Ok effect → after ≡ laid_over tables effect.writes
        → Inserts (Ok tt) (change_of (Insert number rows) table tables []) tables after
    inserted rows view effect after e h i = (effect, same_change rows view e ∙ h, i)

    pub refused : (f : ChangeFault) (rows view : List Row) → view ≡ found_of rows → IsFault f (change_of (Insert number rows) table (tables_of number table view) [])
        → Inserts (Err f) (change_of (Insert number rows) table tables []) tables tables
    refused fault.Overflow rows view e h = (same_change rows view e ∙ h, refl)
    refused fault.Null rows view e h = (same_change rows view e ∙ h, refl)
    refused fault.Long rows view e h = (same_change rows view e ∙ h, refl)
    refused fault.Duplicate rows view e h = (same_change rows view e ∙ h, refl)
    refused fault.Many rows view e h = (same_change rows view e ∙ h, refl)
    refused fault.NoMemory rows view e h = tt
