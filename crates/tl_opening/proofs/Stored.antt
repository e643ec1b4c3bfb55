-- Rows at home can be stored, and open a database.
use Rattle.std.proofs.Common.{◌≡◌, ℕ, zero, suc, ◌<◌, ◌≤◌, ◌||◌, Bool, true, false, ltb, List, [], ◌∷◌, Option, Some, None, length, map, refl, sym, ap, subst, ◌∙◌, arith}
use Rattle.std.specs.Prelude.{slice_get, unwrap_or}
use Rattle.std.specs.FinMap as finmap
use Rattle.std.specs.List.{AllByRecursion}
use Rattle.std.proofs.lemmas.Bool.{ltb-false, or_parts}
use Rattle.std.proofs.lemmas.List.{length-map}
use Rattle.tl_values.specs.declared.value.Value.{Value}
use Rattle.tl_values.specs.Key.{key_bytes}
use Rattle.tl_schema.specs.declared.catalog.Catalog.{Catalog}
use Rattle.tl_schema.specs.declared.catalog.Table.{Table}
use Rattle.tl_schema.specs.Limits.{is_long}
use Rattle.tl_schema.specs.Record.{key_values, record_key}
use Rattle.tl_schema.specs.Row.{row_spelling}
use Rattle.tl_write.specs.declared.fault.ChangeFault.{ChangeFault}
use Rattle.tl_write.specs.declared.fault.ChangeFault.TheVariants as fault
use Rattle.tl_write.specs.Change.{first_of, where_so}
use Rattle.tl_write.proofs.Keys.{sorted_entries}
use Rattle.tl_versions.proofs.Short.{fits_change}
use Rattle.tl_isolation.specs.Tables.{FitsTable, IsAccepted, no_table, opening_writes, table_of}
use Rattle.tl_journal.specs.Binding.{KeyFits, TableFits, WriteFits}
use Rattle.tl_opening.specs.Law.{HomeRowsOpen}
use Rattle.tl_opening.specs.Rows.{opening_row, opening_rows}
use Rattle.tl_opening.proofs.Openings.{Entry, IsHomeEntry, entries_open, entries_written, entry_write, home_entries}

-- a row that isn't refused isn't long
short_row : (first : Option ChangeFault) (long : Bool) → first_of first (where_so long fault.Long) ≡ None → long ≡ false
short_row None true e = absurd cc
short_row None false e = refl
short_row (Some f) long e = absurd cc

-- it has a short key, and few bytes
sizes : (number : ℕ) (table : Table) (row : List Value) → is_long table row ≡ false → KeyFits (record_key number table row) × (length (row_spelling row) ≤ 1024)
sizes number table row e =
    let all = or_parts (ltb 1024 (length (row_spelling row)) || ltb 255 (length (key_bytes (key_values table row)))) _ e in
    let both = or_parts (ltb 1024 (length (row_spelling row))) (ltb 255 (length (key_bytes (key_values table row)))) all.0 in
    let key = ltb-false _ _ both.1 in
    (record { is_record = refl; short = omega arith }, ltb-false _ _ both.0)

-- a row that its table takes can be stored under its record key
row_stored : (number : ℕ) (table : Table) (row : List Value) → TableFits table → FitsTable table row → IsAccepted table row
    → WriteFits (entry_write (record_key number table row, row))
row_stored number table row narrow fits accepted =
    let size = sizes number table row (short_row _ (is_long table row) accepted) in
    let width : length row ≡ length table.columns = fits.width in
    let few : length table.columns ≤ 32 = narrow.columns in
    let brief : length (row_spelling row) ≤ 1024 = size.1 in
    record {
      key = size.0;
      row = fits_change row (record { count = omega arith; short = omega arith }) fits.values;
      brief = brief;
    }

-- the table of a number fits as all do
table_at : (tables : List Table) (number : ℕ) → number < length tables → AllByRecursion TableFits tables → TableFits (unwrap_or (slice_get tables number) no_table)
table_at [] number l h = absurd (omega arith)
table_at (t ∷ tables) zero l h = h.0
table_at (t ∷ tables) (suc number) l h = table_at tables number (omega arith) h.1

module _ (catalog : Catalog) (fit : AllByRecursion TableFits catalog.tables) where
  stored : (e : Entry) → IsHomeEntry catalog e → WriteFits (entry_write e)
  stored e h =
      subst (λ (key : List ℕ). WriteFits (entry_write (key, e.1))) (sym h.own_key)
      (row_stored h.number (table_of catalog h.number) e.1 (table_at catalog.tables h.number h.table fit) h.fits h.accepted)

  all_stored : (es : List Entry) → AllByRecursion (IsHomeEntry catalog) es → AllByRecursion WriteFits (map entry_write es)
  all_stored [] h = tt
  all_stored (e ∷ es) h = (stored e h.0, all_stored es h.1)

pub home_rows_open : HomeRowsOpen
home_rows_open catalog tables fit home =
    let es : List Entry = finmap.entries tables in
    let homes : AllByRecursion (IsHomeEntry catalog) es = home_entries catalog tables home in
    let written : opening_writes catalog (opening_rows tables) ≡ map entry_write es = entries_written catalog es (sorted_entries tables) homes in
    record {
      rows = entries_open catalog es homes;
      writes = subst (AllByRecursion WriteFits) (sym written) (all_stored catalog fit es homes);
      distinct = ap length written ∙ length-map es entry_write ∙ sym (length-map es opening_row);
    }
