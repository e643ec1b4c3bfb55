-- INSERT, UPDATE and DELETE without faults fit their table.
use Rattle.std.proofs.Common.{◌≡◌, ℕ, zero, suc, ◌==◌, Bool, true, false, List, [], ◌∷◌, ◌++◌, map, slice_get, Option, Some, None, refl, ap, sym, subst, ◌∙◌, arith}
use Rattle.std.specs.Prelude.{flat_map, not, unwrap_or}
use Rattle.std.specs.List.{AllByRecursion, list_all, list_any}
use Rattle.std.proofs.lemmas.List.{append-nil, length-map}
use Rattle.std.proofs.lemmas.Option.{slice_get_within}
use Rattle.tl_lemmas.proofs.Lists.{all_both, all_map, none_any, weaker}
use Rattle.tl_values.specs.declared.value.Kind.{Kind}
use Rattle.tl_values.specs.Key.{AreValues}
use Rattle.tl_schema.specs.declared.catalog.Catalog.{Catalog}
use Rattle.tl_schema.specs.declared.catalog.Column.{Column}
use Rattle.tl_schema.specs.declared.catalog.Table.{Table}
use Rattle.tl_algebra.specs.declared.edit.SetColumn.{SetColumn}
use Rattle.tl_isolation.specs.Kinds.{condition_fits, gives_kind, has_column}
use Rattle.tl_isolation.specs.Tables.{FitsTable, HasTable, SuitsTable, keeps_key, no_table, sets_its_kind, table_of}
use Rattle.tl_journal.specs.Binding.{EachOnce, EditFits}
use Rattle.tl_grammar.specs.declared.condition.Cond.{Cond}
use Rattle.tl_grammar.specs.declared.name.Name.{Name}
use Rattle.tl_grammar.specs.declared.statement.SetItem.{SetItem}
use Rattle.tl_grammar.specs.declared.statement.Tuple.{Tuple}
use Rattle.tl_grammar.specs.Whole.{HasOne, IsWholeSet}
use Rattle.tl_scope.specs.declared.fault.BindKind.TheVariants as kind
use Rattle.tl_scope.specs.Change.{column_kind, delete_faults, insert_faults, is_in_key, kind_at, named_faults, set_faults, set_name, set_place_faults, tuple_faults, update_faults}
use Rattle.tl_scope.specs.Condition.{differ, filter_faults}
use Rattle.tl_scope.specs.Expression.{expression_faults, expression_kind}
use Rattle.tl_scope.specs.Fault.{fault_if}
use Rattle.tl_scope.specs.Named.{repeated_faults}
use Rattle.tl_scope.specs.Scope.{Source, column_place, same, scope_in, table_named}
use Rattle.tl_scope.proofs.Firsts.{both_empty, no_fault}
use Rattle.tl_bind.specs.Change.{delete_of, insert_of, row_of, set_of, update_of}
use Rattle.tl_bind.specs.Condition.{bound_filter, filter_values}
use Rattle.tl_bind.specs.Expression.{bound_expression}
use Rattle.tl_bind.specs.Place.{columns_in}
use Rattle.tl_bind.specs.Select.{number_or_zero, table_number}
use Rattle.tl_bind.specs.Values.{SetHasValues, TupleHasValues}
use Rattle.tl_bind.proofs.Fitting as fitting
use Rattle.tl_fits.proofs.Expressions.{admitted, expression_fits}
use Rattle.tl_fits.proofs.Lists.{each_none, list_all_mapped, position_at, position_found}
use Rattle.tl_fits.proofs.Names.{each_once, place_once}
use Rattle.tl_fits.proofs.Rows.{row_fits}

-- a table that was found by its name stands at its number
pub named_table : (catalog : Catalog) (name : List ℕ) (t : Table) → table_named catalog name ≡ Some t → HasTable catalog (table_number catalog name) × (table_of catalog (table_number catalog name) ≡ t)
named_table catalog name t e =
    let p = position_found (λ (t : Table). same t.name name) catalog.tables t e in
    let number : p.0 ≡ table_number catalog name = sym (ap number_or_zero p.1) in (
      subst (λ (n : ℕ). HasTable catalog n) number (slice_get_within catalog.tables p.0 t p.2),
      subst (λ (n : ℕ). table_of catalog n ≡ t) number (ap (λ (o : Option Table). unwrap_or o no_table) p.2),
    )

pub filter_fits : (scope : List Source) (filter : Option Cond) → filter_faults scope filter ≡ [] → AreValues (filter_values filter) → condition_fits (columns_in scope) (bound_filter scope filter) ≡ true
filter_fits scope None none vs = refl
filter_fits scope (Some c) none vs = fitting.condition_fits scope c none vs

pub has_at : (passes : Kind → Bool) (columns : List Column) (at : ℕ) (c : Column) → slice_get columns at ≡ Some c → passes c.kind ≡ true → has_column passes columns at ≡ true
has_at passes [] at c e h = absurd cc
has_at passes (d ∷ ds) zero c e h = let is : d ≡ c = cc in subst (λ (x : Column). passes x.kind ≡ true) (sym is) h
has_at passes (d ∷ ds) (suc at) c e h = has_at passes ds at c e h

-- the columns of a table alone
alone : (t : Table) → columns_in (scope_in t) ≡ t.columns
alone t = append-nil t.columns

module _ (catalog : Catalog) (n : ℕ) (t : Table) (there : HasTable catalog n) (is : table_of catalog n ≡ t) where
  pub insert_fits : (named : Option (List Name)) (tuples : List Tuple) → insert_faults t.columns named tuples ≡ [] → HasOne tuples → AllByRecursion TupleHasValues tuples → EditFits catalog (insert_of n t named tuples)
  insert_fits named tuples none some values =
      let parts = both_empty (named_faults t.columns named) (flat_map (tuple_faults t.columns named) tuples) none in
      let rows =
      all_map (λ (tuple : Tuple). (tuple_faults t.columns named tuple ≡ []) × TupleHasValues tuple) (FitsTable t) (row_of t.columns named) (λ tuple h. row_fits t named tuple h.0 h.1) tuples
      (all_both (λ (tuple : Tuple). tuple_faults t.columns named tuple ≡ []) TupleHasValues tuples (each_none (tuple_faults t.columns named) tuples parts.1) values) in
      record {
        suits = record { table = there; change = subst (λ (z : Table). SuitsTable z (insert_of n t named tuples)) (sym is) rows };
        written = let same_length = length-map tuples (row_of t.columns named) in omega (arith, some);
      }

  pub delete_fits : (filter : Option Cond) → delete_faults t filter ≡ [] → AreValues (filter_values filter) → EditFits catalog (delete_of n t filter)
  delete_fits filter none values =
      let fits = subst (λ (columns : List Column). condition_fits columns (bound_filter (scope_in t) filter) ≡ true) (alone t) (filter_fits (scope_in t) filter none values) in
      record {
        suits = record { table = there; change = subst (λ (z : Table). SuitsTable z (delete_of n t filter)) (sym is) fits };
        written = tt;
      }

-- an item of SET without faults has a column, which is not of the key
abbrev IsPlaced : Table → SetItem → Type 0
IsPlaced t item = (i : ℕ) × (column_place item.column.text t.columns ≡ Some i) × (is_in_key t.key i ≡ false) × (differ (expression_kind (scope_in t) item.value) (kind_at t.columns (Some i)) ≡ false) × (expression_faults (scope_in t) item.value ≡ [])

placed_by : (t : Table) (item : SetItem) (o : Option ℕ) → column_place item.column.text t.columns ≡ o → set_place_faults t item.column.at o ≡ [] → differ (expression_kind (scope_in t) item.value) (kind_at t.columns o) ≡ false
    → expression_faults (scope_in t) item.value ≡ [] → IsPlaced t item
placed_by t item None e none d faults = absurd cc
placed_by t item (Some i) e none d faults = (i, e, no_fault (is_in_key t.key i) item.column.at kind.KeyChange none, d, faults)

placed : (t : Table) (item : SetItem) → set_faults t item ≡ [] → IsPlaced t item
placed t item none =
    let o = column_place item.column.text t.columns in
    let d = differ (expression_kind (scope_in t) item.value) (kind_at t.columns o) in
    let a = set_place_faults t item.column.at o in
    let b = fault_if d item.column.at kind.WrongType in
    let outer = both_empty (a ++ b) (expression_faults (scope_in t) item.value) none in
    let inner = both_empty a b outer.0 in
    placed_by t item o refl inner.0 (no_fault d item.column.at kind.WrongType inner.1) outer.1

module _ (t : Table) where
  abbrev columns_named : List ℕ → Column → Bool
  columns_named name c = same c.name name

  set_fits : (item : SetItem) → IsPlaced t item → IsWholeSet item → SetHasValues item → sets_its_kind t.columns (set_of t item) ≡ true
  set_fits item p whole values =
      let at = position_at (columns_named item.column.text) t.columns p.0 p.1 in
      let k : kind_at t.columns (Some p.0) ≡ Some at.0.kind = ap column_kind at.1 in
      let agrees = admitted (expression_kind (scope_in t) item.value) at.0.kind (subst (λ (o : Option Kind). differ (expression_kind (scope_in t) item.value) o ≡ false) k p.3) in
      let gives = expression_fits (scope_in t) item.value at.0.kind p.4 values whole agrees in
      let e = bound_expression (scope_in t) item.value in
      let here = subst (λ (columns : List Column). gives_kind columns e at.0.kind ≡ true) (alone t) gives in
      subst (λ (n : ℕ). has_column (gives_kind t.columns e) t.columns n ≡ true) (sym (ap number_or_zero p.1)) (has_at (gives_kind t.columns e) t.columns p.0 at.0 at.1 here)

  set_leaves : (item : SetItem) → IsPlaced t item → list_any (λ place. place == (set_of t item).column) t.key ≡ false
  set_leaves item p = subst (λ (n : ℕ). list_any (λ place. place == n) t.key ≡ false) (sym (ap number_or_zero p.1)) p.2

  set_tells : (a b : SetItem) → IsPlaced t a → IsPlaced t b → (set_of t a).column ≡ (set_of t b).column → a.column.text ≡ b.column.text
  set_tells a b p q e =
      let same_place : p.0 ≡ q.0 = ap number_or_zero (sym p.1) ∙ e ∙ ap number_or_zero q.1 in
      let there = position_at (columns_named b.column.text) t.columns p.0 (q.1 ∙ ap (λ (n : ℕ). Some n) (sym same_place)) in
      place_once (λ (c : Column). c.name) t.columns p.0 a.column.text b.column.text (position_at (columns_named a.column.text) t.columns p.0 p.1) there

  sets_fit : (sets : List SetItem) → AllByRecursion (IsPlaced t) sets → AllByRecursion IsWholeSet sets → AllByRecursion SetHasValues sets → list_all (sets_its_kind t.columns) (map (set_of t) sets) ≡ true
  sets_fit sets places whole values =
      list_all_mapped (sets_its_kind t.columns) (set_of t) sets
      (weaker (λ item. IsPlaced t item × (IsWholeSet item × SetHasValues item)) (λ item. sets_its_kind t.columns (set_of t item) ≡ true) (λ item h. set_fits item h.0 h.1.0 h.1.1) sets
      (all_both (IsPlaced t) (λ item. IsWholeSet item × SetHasValues item) sets places (all_both IsWholeSet SetHasValues sets whole values)))

  sets_leave : (sets : List SetItem) → AllByRecursion (IsPlaced t) sets → keeps_key t (map (set_of t) sets) ≡ true
  sets_leave sets places =
      ap not
      (none_any (λ (set : SetColumn). list_any (λ place. place == set.column) t.key) (map (set_of t) sets)
      (all_map (IsPlaced t) (λ (set : SetColumn). list_any (λ place. place == set.column) t.key ≡ false) (set_of t) set_leaves sets places))

  sets_once : (sets : List SetItem) → repeated_faults (map set_name sets) ≡ [] → AllByRecursion (IsPlaced t) sets → EachOnce (λ (set : SetColumn). set.column) (map (set_of t) sets)
  sets_once sets none places = each_once set_name (set_of t) (λ (set : SetColumn). set.column) (IsPlaced t) set_tells [] sets none places

pub update_fits : (catalog : Catalog) (n : ℕ) (t : Table) → HasTable catalog n → table_of catalog n ≡ t → (sets : List SetItem) (filter : Option Cond) → update_faults t sets filter ≡ [] → HasOne sets
    → AllByRecursion IsWholeSet sets → AllByRecursion SetHasValues sets → AreValues (filter_values filter) → EditFits catalog (update_of n t sets filter)
update_fits catalog n t there is sets filter none some whole values filter_has =
    let a = flat_map (set_faults t) sets in
    let b = repeated_faults (map set_name sets) in
    let outer = both_empty (a ++ b) (filter_faults (scope_in t) filter) none in
    let inner = both_empty a b outer.0 in
    let places = weaker (λ (item : SetItem). set_faults t item ≡ []) (IsPlaced t) (placed t) sets (each_none (set_faults t) sets inner.0) in
    let fits = subst (λ (columns : List Column). condition_fits columns (bound_filter (scope_in t) filter) ≡ true) (alone t) (filter_fits (scope_in t) filter outer.1 filter_has) in
    let same_length = length-map sets (set_of t) in
    record {
      suits = record { table = there; change = subst (λ (z : Table). SuitsTable z (update_of n t sets filter)) (sym is) (sets_leave t sets places, sets_fit t sets places whole values, fits) };
      written = (omega (arith, some), sets_once t sets inner.1 places);
    }
