-- What CREATE makes keeps the catalog fitting.
use Rattle.std.proofs.Common.{◌≡◌, ℕ, zero, suc, ◌<◌, ◌≤◌, Bool, false, List, [], ◌∷◌, length, length-append, map, Option, Some, None, refl, sym, ap, subst, ◌∙◌, arith}
use Rattle.std.specs.Prelude.{flat_map, nat_lt, position, slice_set}
use Rattle.std.proofs.lemmas.Bool.Decides.{nat_tests}
use Rattle.std.proofs.lemmas.List.{length-map, map-id}
use Rattle.std.proofs.lemmas.Option.{slice_get_within}
use Rattle.tl_lemmas.proofs.Lists.{all_map, all_push, all_set, weaker}
use Rattle.tl_schema.specs.declared.catalog.Catalog.{Catalog}
use Rattle.tl_schema.specs.declared.catalog.Column.{Column}
use Rattle.tl_schema.specs.declared.catalog.Index.{Index}
use Rattle.tl_schema.specs.declared.catalog.Table.{Table}
use Rattle.tl_journal.specs.Binding.{IndexFits, TableFits}
use Rattle.tl_grammar.specs.declared.name.Name.{Name}
use Rattle.tl_grammar.specs.declared.statement.Statement.{Statement}
use Rattle.tl_grammar.specs.declared.statement.Statement.TheVariants as statement
use Rattle.tl_grammar.specs.Whole.{HasOne, IsWhole}
use Rattle.tl_scope.specs.declared.fault.BindKind.TheVariants as kind
use Rattle.tl_scope.specs.Create.{create_index_faults, is_index, new_index_faults}
use Rattle.tl_scope.specs.Fault.{fault_if}
use Rattle.tl_scope.specs.Named.{columns_faults, is_none, repeated_faults, unknown_faults}
use Rattle.tl_scope.specs.Scope.{column_place, in_table, same, table_named}
use Rattle.tl_scope.specs.Statement.{statement_faults}
use Rattle.tl_scope.proofs.Firsts.{both_empty, no_fault}
use Rattle.tl_bind.specs.Select.{number_or_zero}
use Rattle.tl_names.specs.Define.{at_table, defined, index_defined, index_made, place_in, table_made, with_index}
use Rattle.tl_fits.specs.Fits.{CatalogFits}
use Rattle.tl_fits.proofs.Created.{create_fits, one_some}
use Rattle.tl_fits.proofs.Lists.{all_at, each_none, position_at, position_found}
use Rattle.tl_fits.proofs.Names.{each_once, place_once}

-- the columns of an index
module _ (columns : List Column) where
  abbrev is_called : List ℕ → Column → Bool
  is_called name c = same c.name name

  abbrev IsNamed : Name → Type 0
  IsNamed n = (i : ℕ) × (column_place n.text columns ≡ Some i)

  some_place : (o : Option ℕ) → is_none o ≡ false → (i : ℕ) × (o ≡ Some i)
  some_place None e = absurd cc
  some_place (Some i) e = (i, refl)

  named : (n : Name) → unknown_faults columns n ≡ [] → IsNamed n
  named n none = some_place (column_place n.text columns) (no_fault (is_none (column_place n.text columns)) n.at kind.UnknownColumn none)

  named_within : (n : Name) → IsNamed n → place_in columns n < length columns
  named_within n p =
      let at = position_at (is_called n.text) columns p.0 p.1 in
      subst (λ (m : ℕ). m < length columns) (sym (ap number_or_zero p.1)) (slice_get_within columns p.0 at.0 at.1)

  named_tells : (a b : Name) → IsNamed a → IsNamed b → place_in columns a ≡ place_in columns b → a.text ≡ b.text
  named_tells a b p q e =
      let same_place : p.0 ≡ q.0 = ap number_or_zero (sym p.1) ∙ e ∙ ap number_or_zero q.1 in
      place_once (λ (c : Column). c.name) columns p.0 a.text b.text (position_at (is_called a.text) columns p.0 p.1)
      (position_at (is_called b.text) columns p.0 (q.1 ∙ ap (λ (n : ℕ). Some n) (sym same_place)))

index_fits : (t : Table) (name : Name) (names : List Name) → HasOne names → columns_faults t.columns names ≡ [] → IndexFits t (index_made t.columns name names)
index_fits t name names some none =
    let parts = both_empty (flat_map (unknown_faults t.columns) names) (repeated_faults names) none in
    let all = weaker (λ (n : Name). unknown_faults t.columns n ≡ []) (IsNamed t.columns) (named t.columns) names (each_none (unknown_faults t.columns) names parts.0) in
    let long = length-map names (place_in t.columns) in
    record {
      some = one_some (map (place_in t.columns) names) (omega (arith, long, some));
      columns = all_map (IsNamed t.columns) (λ (place : ℕ). place < length t.columns) (place_in t.columns) (named_within t.columns) names all;
      once = each_once (λ (n : Name). n) (place_in t.columns) (λ (place : ℕ). place) (IsNamed t.columns) (named_tells t.columns) [] names (subst (λ (l : List Name). repeated_faults l ≡ []) (sym (map-id names)) parts.1) all;
    }

still_fits : (t : Table) (more index : Index) → IndexFits t index → IndexFits (with_index t more) index
still_fits t more index h = record { some = h.some; columns = h.columns; once = h.once }

indexed_fits : (t : Table) (name : Name) (names : List Name) → TableFits t → HasOne names → new_index_faults t name names ≡ [] → TableFits (with_index t (index_made t.columns name names))
indexed_fits t name names fits some none =
    let full = nat_lt 7 (length t.indexes) in
    let parts = both_empty (fault_if full name.at kind.TooMany) (columns_faults t.columns names) none in
    let room : full ≡ false = no_fault full name.at kind.TooMany parts.0 in
    let more = index_made t.columns name names in
    let long = length-append t.indexes (more ∷ []) in
    let few : length t.indexes ≤ 7 = grind (arith, nat_tests, room) in
    record {
      keyed = record { columns = fits.keyed.columns; some = fits.keyed.some; not_null = fits.keyed.not_null };
      once = fits.once;
      key = fits.key;
      columns = fits.columns;
      indexes = all_push (IndexFits (with_index t more)) t.indexes more (weaker (IndexFits t) (IndexFits (with_index t more)) (still_fits t more) t.indexes fits.indexes)
          (still_fits t more more (index_fits t name names some parts.1));
      few = omega (arith, long, few);
    }

set_length : {X : Type 0} (xs : List X) (i : ℕ) (y : X) → length (slice_set xs i y) ≡ length xs
set_length [] i y = refl
set_length (x ∷ xs) zero y = omega arith
set_length (x ∷ xs) (suc i) y = let rest = set_length xs i y in omega arith

module _ (catalog : Catalog) (name : Name) (table : Name) (names : List Name) (fits : CatalogFits catalog) (some : HasOne names) where
  indexed_by : (o : Option Table) → table_named catalog table.text ≡ o → in_table o table (λ (t : Table). new_index_faults t name names) ≡ []
      → CatalogFits (index_defined catalog name names (position (λ (t : Table). same t.name table.text) catalog.tables))
  indexed_by None is none = absurd cc
  indexed_by (Some t) is none =
      let p = position_found (λ (t : Table). same t.name table.text) catalog.tables t is in
      let made = with_index t (index_made t.columns name names) in
      let t_fits = all_at TableFits catalog.tables p.0 t fits.tables p.2 in
      let long = set_length catalog.tables p.0 made in
      let with_it : CatalogFits (at_table catalog name names p.0 (Some t)) =
      record { few = omega (arith, long, fits.few); tables = all_set TableFits catalog.tables p.0 made fits.tables (indexed_fits t name names t_fits some none) } in
      let there : at_table catalog name names p.0 (Some t) ≡ index_defined catalog name names (position (λ (t : Table). same t.name table.text) catalog.tables) =
      sym (ap (index_defined catalog name names) p.1 ∙ ap (at_table catalog name names p.0) p.2) in
      subst CatalogFits there with_it

  indexed : create_index_faults catalog name table names ≡ [] → CatalogFits (index_defined catalog name names (position (λ (t : Table). same t.name table.text) catalog.tables))
  indexed none =
      indexed_by (table_named catalog table.text) refl
      (both_empty (fault_if (is_index catalog name.text) name.at kind.Twice) (in_table (table_named catalog table.text) table (λ (t : Table). new_index_faults t name names)) none).1

pub defined_fits : (catalog : Catalog) (s : Statement) → CatalogFits catalog → IsWhole s → statement_faults catalog s ≡ [] → CatalogFits (defined catalog s)
defined_fits catalog (statement.CreateTable name columns key) fits whole none =
    let made = create_fits catalog name columns key whole.1 none in
    let long = length-append catalog.tables (table_made name columns key ∷ []) in
    let room = made.0 in
    record { few = omega (arith, long, room); tables = all_push TableFits catalog.tables (table_made name columns key) fits.tables made.1 }
defined_fits catalog (statement.CreateIndex name table columns) fits whole none = indexed catalog name table columns fits whole none
defined_fits catalog (statement.Insert table columns tuples) fits whole none = fits
defined_fits catalog (statement.Update table sets filter) fits whole none = fits
defined_fits catalog (statement.Delete table filter) fits whole none = fits
defined_fits catalog (statement.Select items from filter group order limit) fits whole none = fits
defined_fits catalog statement.Begin fits whole none = fits
defined_fits catalog statement.Commit fits whole none = fits
defined_fits catalog statement.Rollback fits whole none = fits
defined_fits catalog (statement.Recover node) fits whole none = fits
