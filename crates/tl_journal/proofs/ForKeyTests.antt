-- What is a cell for its key passes the tests of one: rows at home, and keys of records.
use Rattle.std.proofs.Common.{◌≡◌, ℕ, zero, suc, true, false, List, [], ◌∷◌, length, Option, Some, None, refl, sym, ap, ◌∙◌, subst}
use Rattle.std.specs.Prelude.{◌&&◌, not, nat_le, nat_lt, slice_get}
use Rattle.std.specs.List.{AllByRecursion, list_all}
use Rattle.std.proofs.lemmas.Bool.{and_from, and_parts, le-leb, lt-ltb, ltb-false, not_from_false, or_parts}
use Rattle.tl_values.specs.declared.value.Value.{Value}
use Rattle.tl_values.specs.Key.{AreValues, key_bytes}
use Rattle.tl_values.specs.Value.{is_null, value_at, values_at}
use Rattle.tl_values.proofs.KeyReading.{value_again}
use Rattle.tl_schema.specs.declared.catalog.Catalog.{Catalog}
use Rattle.tl_schema.specs.declared.catalog.Column.{Column}
use Rattle.tl_schema.specs.declared.catalog.Table.{Table}
use Rattle.tl_schema.specs.Limits.{breaks_not_null, is_long}
use Rattle.tl_schema.specs.Record.{key_values, record_key}
use Rattle.tl_versions.specs.declared.version.Version.{Version}
use Rattle.tl_isolation.specs.Kinds.{are_of_kinds, is_of_kind}
use Rattle.tl_isolation.specs.Tables.{FitsTable, IsAccepted, IsHome, table_of}
use Rattle.tl_protocol.specs.Stands.{IsKeyOf, IsVersionFor}
use Rattle.tl_protocol.specs.Store.{Key, same_key}
use Rattle.tl_journal.specs.ForKey.{are_values_of, first_passes, greatest_tid, is_change_for, is_home, is_key_in, is_key_of, is_of_column, is_record_for, is_row_of}
use Rattle.tl_journal.proofs.Keyed.{accepted_parts, key_of_values, key_short}
use Rattle.tl_write.proofs.Keys.{key_itself}

-- ---- rows

row_is : (table : Table) (row : List Value) → FitsTable table row → IsAccepted table row → is_row_of table row ≡ true
row_is table row fits accepted =
    let parts = accepted_parts (breaks_not_null table.columns row) (is_long table row) accepted in
    and_from (are_of_kinds table.columns row && not (breaks_not_null table.columns row)) (not (is_long table row))
    (and_from (are_of_kinds table.columns row) (not (breaks_not_null table.columns row)) fits.kinds
    (not_from_false (breaks_not_null table.columns row) parts.0))
    (not_from_false (is_long table row) parts.1)

pub home_is : (catalog : Catalog) (key : Key) (row : List Value) → IsHome catalog key row → is_home catalog key row ≡ true
home_is catalog key row h = subst (λ (k : Key). is_home catalog k row ≡ true) (sym h.own_key) at_home
  where
    at_home : is_home catalog (record_key h.number (table_of catalog h.number) row) row ≡ true
    at_home =
        let key : Key = record_key h.number (table_of catalog h.number) row in
        and_from (nat_lt h.number (length catalog.tables) && is_row_of (table_of catalog h.number) row) (same_key key key)
        (and_from (nat_lt h.number (length catalog.tables)) (is_row_of (table_of catalog h.number) row) (lt-ltb h.number (length catalog.tables) h.table)
        (row_is (table_of catalog h.number) row h.fits h.accepted)) (key_itself key)

change_is : (catalog : Catalog) (key : Key) (row : Option (List Value)) → ((r : List Value) → row ≡ Some r → IsHome catalog key r)
    → is_change_for catalog key row ≡ true
change_is catalog key None h = refl
change_is catalog key (Some row) h = home_is catalog key row (h row refl)

pub record_is : (catalog : Catalog) (key : Key) (versions : List Version) → AllByRecursion (IsVersionFor catalog key) versions
    → is_record_for catalog key versions ≡ true
record_is catalog key [] h = refl
record_is catalog key (v ∷ vs) h =
    and_from (nat_le v.tid greatest_tid && is_change_for catalog key v.row) (is_record_for catalog key vs)
    (and_from (nat_le v.tid greatest_tid) (is_change_for catalog key v.row) (le-leb v.tid greatest_tid h.0.tid) (change_is catalog key v.row h.0.home))
    (record_is catalog key vs h.1)

-- ---- keys

-- the value of a column in a row that its table accepts
column_is : (columns : List Column) (row : List Value) (place : ℕ) → are_of_kinds columns row ≡ true → breaks_not_null columns row ≡ false
    → is_of_column (slice_get columns place) (value_at row place) ≡ true
column_is [] row place k b = refl
column_is (c ∷ cs) [] place k b = absurd cc
column_is (c ∷ cs) (v ∷ vs) zero k b =
    and_from (is_of_kind c.kind v) (not (c.not_null && is_null v)) (and_parts (is_of_kind c.kind v) (are_of_kinds cs vs) k).0
    (not_from_false (c.not_null && is_null v) (or_parts (c.not_null && is_null v) (breaks_not_null cs vs) b).0)
column_is (c ∷ cs) (v ∷ vs) (suc place) k b =
    column_is cs vs place (and_parts (is_of_kind c.kind v) (are_of_kinds cs vs) k).1 (or_parts (c.not_null && is_null v) (breaks_not_null cs vs) b).1

values_are : (columns : List Column) (row : List Value) (key : List ℕ) → are_of_kinds columns row ≡ true → breaks_not_null columns row ≡ false
    → AreValues (values_at key row) → are_values_of columns key (key_bytes (values_at key row)) ≡ true
values_are columns row [] k b f = refl
values_are columns row (place ∷ key) k b f =
    let rest : List ℕ = key_bytes (values_at key row) in
    ap (first_passes (slice_get columns place) (λ (bytes : List ℕ). are_values_of columns key bytes)) (value_again (value_at row place) rest f.0)
    ∙ and_from (is_of_column (slice_get columns place) (value_at row place)) (are_values_of columns key rest) (column_is columns row place k b)
    (values_are columns row key k b f.1)

key_in : (table : Table) (row : List Value) → FitsTable table row → IsAccepted table row → is_key_in table (key_bytes (key_values table row)) ≡ true
key_in table row fits accepted =
    let parts = accepted_parts (breaks_not_null table.columns row) (is_long table row) accepted in
    let bytes : List ℕ = key_bytes (key_values table row) in
    and_from (nat_le (length bytes) 255) (are_values_of table.columns table.key bytes)
    (le-leb (length bytes) 255 (ltb-false 255 (length bytes) (key_short table row accepted)))
    (values_are table.columns row table.key fits.kinds parts.0 (key_of_values table.key row fits.values))

pub key_is : (catalog : Catalog) (key : Key) → IsKeyOf catalog key → is_key_of catalog key ≡ true
key_is catalog key (row, h) = subst (λ (k : Key). is_key_of catalog k ≡ true) (sym h.own_key) named
  where
    named : is_key_of catalog (record_key h.number (table_of catalog h.number) row) ≡ true
    named =
        let table : Table = table_of catalog h.number in
        and_from (nat_lt h.number (length catalog.tables)) (is_key_in table (key_bytes (key_values table row)))
        (lt-ltb h.number (length catalog.tables) h.table) (key_in table row h.fits h.accepted)

pub keys_are : (catalog : Catalog) (keys : List Key) → AllByRecursion (IsKeyOf catalog) keys → list_all (is_key_of catalog) keys ≡ true
keys_are catalog [] h = refl
keys_are catalog (key ∷ keys) h = and_from (is_key_of catalog key) (list_all (is_key_of catalog) keys) (key_is catalog key h.0) (keys_are catalog keys h.1)
