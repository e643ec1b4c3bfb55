-- A script that is read is bound: its statements and its opening rows fit its table.
use Rattle.std.proofs.Common.{◌≡◌, ℕ, ◌^◌, pos, negsuc, Bool, true, List, [], ◌∷◌, Option, Some, None, Ordering, Less, Equal, Greater, refl, sym, ap, subst, ◌∙◌, arith}
use Rattle.std.specs.Prelude.{ℤ, ◌&&◌, ◌||◌}
use Rattle.std.specs.Int.{w64}
use Rattle.std.specs.Int.RustNames.{FitsSigned}
use Rattle.std.specs.List.{AllByRecursion, list_all, list_any}
use Rattle.std.specs.Ordering.{match_ordering}
use Rattle.std.proofs.lemmas.Bool.{lt-ltb}
use Rattle.tl_values.specs.declared.value.Comparison.TheVariants as by
use Rattle.tl_values.specs.declared.value.Kind.{Kind}
use Rattle.tl_values.specs.declared.value.Kind.TheVariants as kind
use Rattle.tl_values.specs.declared.value.Value.TheVariants as value
use Rattle.tl_schema.specs.declared.catalog.Catalog.{Catalog}
use Rattle.tl_schema.specs.declared.catalog.OpeningRow.{OpeningRow}
use Rattle.tl_schema.specs.Record.{record_key}
use Rattle.tl_algebra.specs.declared.condition.Condition.{Condition}
use Rattle.tl_algebra.specs.declared.condition.Side.TheVariants as side
use Rattle.tl_algebra.specs.declared.expression.Expression.TheVariants as expression
use Rattle.tl_algebra.specs.declared.query.Output.TheVariants as output
use Rattle.tl_write.specs.declared.write.Write.{Write}
use Rattle.tl_write.specs.Own.{key_cmp, put_write}
use Rattle.tl_isolation.specs.Kinds.{condition_fits, every_kind, has_column, is_value, same_kind, side_gives}
use Rattle.tl_isolation.specs.Queries.{SuitsQuery, output_fits}
use Rattle.tl_isolation.specs.Tables as tables
use Rattle.tl_isolation.specs.Tables.{FitsTable, OpensTable, opening_writes, sets_its_kind}
use Rattle.tl_isolation.proofs.Computed.{alike_test, kind_of_literal, kind_of_place}
use Rattle.tl_journal.specs.Binding.{StatementFits, TableFits, WriteFits}
use Rattle.tl_script.specs.declared.statement.Statement.{Statement}
use Rattle.tl_script.specs.declared.statement.Statement.TheVariants.{Begin, Commit, Rollback, Recover, Insert, SelectAll, Select, Update, Delete}
use Rattle.tl_script.specs.Build.{bound_of, key_is, opening_row, query_of, row_of, set_other, table_of}
use Rattle.tl_script.specs.Statement.{Names}
use Rattle.tl_script.proofs.Ranges.{IsInRange}

-- the catalog of the one table
abbrev pub catalog_with : Names → Catalog
catalog_with names = record { tables = table_of names ∷ [] }

pub table_fits : (names : Names) → TableFits (table_of names)
table_fits names =
    record {
      keyed = record { columns = (omega arith, tt); some = refl; not_null = (refl, tt) };
      once = (refl, tt);
      key = omega arith;
      columns = omega arith;
      indexes = tt;
      few = omega arith;
    }

fits_table : (names : Names) (key other : ℤ) → FitsSigned w64 key → FitsSigned w64 other → FitsTable (table_of names) (row_of key other)
fits_table names key other k o = record { width = refl; values = (k, (o, tt)); kinds = refl }

-- a number that fits 64 bits is a value
number_fits : (n : ℤ) → FitsSigned w64 n → is_value (value.Int n) ≡ true
number_fits (pos n) f = lt-ltb n (2 ^ 63) f.sfits
number_fits (negsuc n) f = lt-ltb n (2 ^ 63) f.sfits

-- the key column is compared with one
key_alike : (names : Names) (key : ℤ) → FitsSigned w64 key → condition_fits (table_of names).columns (Some (key_is key)) ≡ true
key_alike names key f =
    alike_test (table_of names).columns (side.Place 0) by.Equal (side.Literal (value.Int key))
    ∙ ap (λ (b : Bool). b || list_any (λ k. side_gives (table_of names).columns (side.Place 0) k && side_gives (table_of names).columns (side.Literal (value.Int key)) k) (kind.Text ∷ kind.Bool ∷ [])) (number_fits key f)

-- the other column is set to one
set_fits : (names : Names) (other : ℤ) → FitsSigned w64 other → list_all (sets_its_kind (table_of names).columns) (set_other other ∷ []) ≡ true
set_fits names other f =
    ap (λ (g : Kind → Bool). g kind.Int && true) (kind_of_literal (table_of names).columns (value.Int other)) ∙ ap (λ (b : Bool). b && true) (number_fits other f)

-- a column is printed
place_fits : (names : Names) (at : ℕ) → has_column (same_kind kind.Int) (table_of names).columns at ≡ true
    → output_fits (table_of names).columns (output.Expression (expression.Place at)) ≡ true
place_fits names at e =
    ap (λ (g : Kind → Bool). list_any g every_kind) (kind_of_place (table_of names).columns at)
    ∙ ap (λ (b : Bool). b || list_any (λ k. has_column (same_kind k) (table_of names).columns at) (kind.Text ∷ kind.Bool ∷ [])) e

query_fits : (names : Names) (filter : Option Condition) → condition_fits (table_of names).columns filter ≡ true → SuitsQuery (catalog_with names) (query_of filter)
query_fits names filter e =
    record {
      some = omega arith;
      few = omega arith;
      tables = (omega arith, tt);
      starts = refl;
      ons = refl;
      passes = e;
      group = refl;
      prints = omega arith;
      outputs = λ i. place_fits names 0 refl i && (place_fits names 1 refl i && true);
      sort = refl;
      grouped = λ makes. absurd cc;
    }

-- what a line's statement is bound to fits the table
pub statement_fits : (names : Names) (s : Statement) → IsInRange s → StatementFits (catalog_with names) (bound_of s)
statement_fits names Begin r = tt
statement_fits names Commit r = tt
statement_fits names Rollback r = tt
statement_fits names (Recover node) r = (r.from, r.to)
statement_fits names (Insert key other) r =
    record { suits = record { table = omega arith; change = (fits_table names key other r.0 r.1, tt) }; written = omega arith }
statement_fits names SelectAll r = query_fits names None refl
statement_fits names (Select key) r = query_fits names (Some (key_is key)) (key_alike names key r)
statement_fits names (Update other key) r =
    record { suits = record { table = omega arith; change = (refl, set_fits names other r.0, key_alike names key r.1) }; written = (omega arith, (refl, tt)) }
statement_fits names (Delete key) r =
    record { suits = record { table = omega arith; change = key_alike names key r }; written = tt }

-- a row of two numbers that fit 64 bits
pub record IsOpening (o : OpeningRow) : Type 0 where
  pub key : ℤ
  pub other : ℤ
  pub is : o ≡ opening_row key other
  pub key_fits : FitsSigned w64 key
  pub other_fits : FitsSigned w64 other

abbrev pub AreOpening : List OpeningRow → Type 0
AreOpening rows = AllByRecursion IsOpening rows

-- the opening row as a write under its record key
abbrev pub write_of : Names → OpeningRow → Write
write_of names o = record { key = record_key o.table (tables.table_of (catalog_with names) o.table) o.row; row = Some o.row }

two_fit : (names : Names) (key other : ℤ) → FitsSigned w64 key → FitsSigned w64 other → WriteFits (write_of names (opening_row key other))
two_fit names key other k o = record {
  key = record { is_record = refl; short = omega arith };
  row = record { fits = record { count = omega arith; short = (tt, (tt, tt)); values = (k, (o, tt)) }; short = omega arith };
  brief = omega arith;
}

write_fits : (names : Names) (o : OpeningRow) → IsOpening o → WriteFits (write_of names o)
write_fits names o h = subst (λ (o : OpeningRow). WriteFits (write_of names o)) (sym h.is) (two_fit names h.key h.other h.key_fits h.other_fits)

abbrev pub RowFits : Names → OpeningRow → Type 0
RowFits names o = OpensTable (catalog_with names) o

row_fits : (names : Names) (o : OpeningRow) → IsOpening o → RowFits names o
row_fits names o h =
    subst (RowFits names) (sym h.is) (record { table = omega arith; fits = fits_table names h.key h.other h.key_fits h.other_fits; accepted = refl })

pub rows_fit : (names : Names) (rows : List OpeningRow) → AreOpening rows → AllByRecursion (RowFits names) rows
rows_fit names [] h = tt
rows_fit names (o ∷ rows) h = (row_fits names o h.0, rows_fit names rows h.1)

put_by : (P : Write → Type 0) (c : Ordering) (w x : Write) (xs put : List Write) → P w → P x → AllByRecursion P xs → AllByRecursion P put
    → AllByRecursion P (match_ordering c (w ∷ x ∷ xs) (w ∷ xs) (x ∷ put))
put_by P Less w x xs put f g h i = (f, (g, h))
put_by P Equal w x xs put f g h i = (f, h)
put_by P Greater w x xs put f g h i = (g, i)

pub put_all : (P : Write → Type 0) (w : Write) (ws : List Write) → P w → AllByRecursion P ws → AllByRecursion P (put_write w ws)
put_all P w [] f h = (f, tt)
put_all P w (x ∷ xs) f h = put_by P (key_cmp w.key x.key) w x xs (put_write w xs) f h.0 h.1 (put_all P w xs f h.1)

pub writes_fit : (names : Names) (rows : List OpeningRow) → AreOpening rows → AllByRecursion WriteFits (opening_writes (catalog_with names) rows)
writes_fit names [] h = tt
writes_fit names (o ∷ rows) h = put_all WriteFits (write_of names o) (opening_writes (catalog_with names) rows) (write_fits names o h.0) (writes_fit names rows h.1)
