-- A SELECT without faults fits its catalog.
use Rattle.std.proofs.Common.{◌≡◌, ℕ, ◌≤◌, ◌<◌, Bool, true, false, List, [], ◌∷◌, ◌++◌, length, length-append, map, Option, Some, None, refl, ap, sym, subst, ◌∙◌, arith}
use Rattle.std.proofs.lemmas.Bool.{not-false}
use Rattle.std.specs.Prelude.{flat_map, not}
use Rattle.std.specs.List.{AllByRecursion, list_all}
use Rattle.std.proofs.lemmas.List.{length-map}
use Rattle.tl_lemmas.proofs.Lists.{found, weaker}
use Rattle.tl_values.specs.Key.{AreValues}
use Rattle.tl_schema.specs.declared.catalog.Catalog.{Catalog}
use Rattle.tl_schema.specs.declared.catalog.Column.{Column}
use Rattle.tl_schema.specs.declared.catalog.Table.{Table}
use Rattle.tl_algebra.specs.declared.query.Sort.{Sort}
use Rattle.tl_isolation.specs.Kinds.{condition_fits}
use Rattle.tl_isolation.specs.Queries.{SuitsQuery, columns_of, is_column, item_is_over, output_fits, sort_fits}
use Rattle.tl_protocol.specs.Move.{is_empty}
use Rattle.tl_journal.specs.Binding.{TableFits}
use Rattle.tl_grammar.specs.declared.condition.Cond.{Cond}
use Rattle.tl_grammar.specs.declared.name.ColumnName.{ColumnName}
use Rattle.tl_grammar.specs.declared.select.FromItem.{FromItem}
use Rattle.tl_grammar.specs.declared.select.OrderItem.{OrderItem}
use Rattle.tl_grammar.specs.declared.select.SelectItem.{SelectItem}
use Rattle.tl_grammar.specs.Whole.{AreWholeItems, AreWholeJoins}
use Rattle.tl_scope.specs.declared.fault.BindKind.TheVariants as kind
use Rattle.tl_scope.specs.Condition.{filter_faults}
use Rattle.tl_scope.specs.Fault.{each_from}
use Rattle.tl_scope.specs.Named.{repeated_faults}
use Rattle.tl_scope.specs.Scope.{Source, called, column_at, column_faults, columns_named, columns_or, same, scope_of}
use Rattle.tl_scope.specs.Select.{all_are_grouped, from_faults, grouping, is_grouped, item_faults, items_faults, order_faults, printed, select_faults, shown_faults, star_faults}
use Rattle.tl_scope.proofs.Firsts.{both_empty, no_fault}
use Rattle.tl_bind.specs.Condition.{bound_filter, filter_values}
use Rattle.tl_bind.specs.Place.{columns_in, place_of}
use Rattle.tl_bind.specs.Select.{item_output, joins_from, outputs_of, query_of, sort_of}
use Rattle.tl_bind.specs.Values.{ItemsHaveValues, JoinHasValues}
use Rattle.tl_names.proofs.Within.{items_few}
use Rattle.tl_fits.specs.Fits.{CatalogFits}
use Rattle.tl_fits.proofs.Changes.{filter_fits}
use Rattle.tl_fits.proofs.Groups.{all_over, items_over, makes_same, sorts_over}
use Rattle.tl_fits.proofs.Joins.{IsThere, are_there, joined_columns, joined_length, joined_plain, joined_tables, ons_joined}
use Rattle.tl_fits.proofs.Lists.{each_none, list_all_mapped}
use Rattle.tl_fits.proofs.Outputs.{by_fits, column_fits, items_fit, star_fits, star_length, width_is}

-- a table that fits has a column
some_column : (n : ℕ) (key : List ℕ) → is_empty key ≡ false → AllByRecursion (λ (column : ℕ). column < n) key → 1 ≤ n
some_column n [] some within = absurd cc
some_column n (k ∷ ks) some within = let first = within.0 in omega arith

has_columns : (t : Table) → TableFits t → 1 ≤ length t.columns
has_columns t fits = some_column (length t.columns) t.key fits.keyed.some fits.keyed.columns

first_columns : (catalog : Catalog) (from : List FromItem) → CatalogFits catalog → AreWholeJoins from → AllByRecursion (IsThere catalog) from → 1 ≤ length (columns_in (scope_of catalog from))
first_columns catalog [] fits whole there = absurd whole
first_columns catalog (item ∷ items) fits whole there =
    let t = there.0 in
    let some = has_columns t.0 (found TableFits (λ (t : Table). same t.name item.table.text) catalog.tables t.0 fits.tables t.1) in
    let is = ap (λ (o : Option Table). length (columns_or o)) t.1 in
    let long = length-append (columns_named catalog item.table.text) (columns_in (scope_of catalog items)) in
    omega (arith, some, is, long)

some_joins : (from : List FromItem) → AreWholeJoins from → 1 ≤ length from
some_joins [] whole = absurd whole
some_joins (item ∷ items) whole = omega arith

-- what is printed
module _ (scope : List Source) (group : List ColumnName) (grouped : Bool) where
  outputs_fit : (items : Option (List SelectItem)) → items_faults scope group grouped items ≡ [] → AreWholeItems items → ItemsHaveValues items → list_all (output_fits (columns_in scope)) (outputs_of scope items) ≡ true
  outputs_fit None none whole values = star_fits (columns_in scope) 0 (length (columns_in scope)) (omega arith)
  outputs_fit (Some items) none whole values =
      items_fit scope (grouping scope group) grouped items (each_none (item_faults scope (grouping scope group) grouped) items none) whole.1 values

  outputs_some : (items : Option (List SelectItem)) → 1 ≤ length (columns_in scope) → AreWholeItems items → 1 ≤ length (outputs_of scope items)
  outputs_some None some whole = let long = star_length 0 (length (columns_in scope)) in omega (arith, some, long)
  outputs_some (Some items) some whole = let long = length-map items (item_output scope) in let one = whole.0 in omega (arith, long, one)

outputs_printed : (scope : List Source) (items : Option (List SelectItem)) → length (outputs_of scope items) ≡ printed scope items
outputs_printed scope None = star_length 0 (length (columns_in scope)) ∙ sym (width_is scope)
outputs_printed scope (Some items) = length-map items (item_output scope)

star_is_over : (scope : List Source) (group : List ColumnName) → is_grouped None group ≡ true → star_faults scope (grouping scope group) group ≡ [] → list_all (item_is_over (map (place_of scope) group)) (outputs_of scope None) ≡ true
star_is_over scope [] grouped none = absurd cc
star_is_over scope (c ∷ cs) grouped none =
    let all = all_are_grouped (grouping scope (c ∷ cs)) 0 scope in
    all_over scope (c ∷ cs) (not-false all (no_fault (not all) (column_at c) kind.Grouping none))

outputs_over : (scope : List Source) (group : List ColumnName) (items : Option (List SelectItem)) → is_grouped items group ≡ true → items_faults scope group (is_grouped items group) items ≡ []
    → list_all (item_is_over (map (place_of scope) group)) (outputs_of scope items) ≡ true
outputs_over scope group None grouped none = star_is_over scope group grouped none
outputs_over scope group (Some items) grouped none =
    items_over scope group items (each_none (item_faults scope (grouping scope group) true) items (subst (λ (b : Bool). items_faults scope group b (Some items) ≡ []) grouped none))

pub select_fits : (catalog : Catalog) (items : Option (List SelectItem)) (from : List FromItem) (filter : Option Cond) (group : List ColumnName) (order : List OrderItem) (limit : Option ℕ)
    → CatalogFits catalog → AreWholeItems items → AreWholeJoins from → ItemsHaveValues items → AllByRecursion JoinHasValues from → AreValues (filter_values filter)
    → select_faults catalog items from filter group order ≡ [] → SuitsQuery catalog (query_of catalog items from filter group order limit)
select_fits catalog items from filter group order limit fits whole_items whole_joins item_values join_values filter_has none =
    let scope = scope_of catalog from in
    let groups = grouping scope group in
    let grouped = is_grouped items group in
    let a = each_from (from_faults catalog scope) 0 from in
    let b = repeated_faults (map called from) in
    let outer = both_empty (a ++ b) (shown_faults scope items filter group order) none in
    let from_none = (both_empty a b outer.0).0 in
    let c = items_faults scope group grouped items in
    let d = filter_faults scope filter in
    let e = flat_map (column_faults scope) group in
    let f = flat_map (order_faults scope groups grouped (printed scope items)) order in
    let shown = both_empty (c ++ d ++ e) f outer.1 in
    let front = both_empty (c ++ d) e shown.0 in
    let first = both_empty c d front.0 in
    let order_none = each_none (order_faults scope groups grouped (printed scope items)) order shown.1 in
    let there = are_there catalog scope 0 from from_none in
    let columns : flat_map (columns_of catalog) (joins_from catalog scope 0 from) ≡ columns_in scope = joined_columns catalog scope 0 from there in
    let long = joined_length catalog scope 0 from in
    let count = outputs_printed scope items in
    let sorts = list_all_mapped (λ (s : Sort). sort_fits (columns_in scope) (printed scope items) s.by) (sort_of scope) order
    (weaker (λ (o : OrderItem). order_faults scope groups grouped (printed scope items) o ≡ []) (λ (o : OrderItem). sort_fits (columns_in scope) (printed scope items) (sort_of scope o).by ≡ true)
    (λ o h. by_fits scope groups grouped (printed scope items) o.by h) order order_none) in
    record {
      some = let one = some_joins from whole_joins in omega (arith, long, one);
      few = let four = items_few catalog scope 0 from (omega arith) from_none in omega (arith, long, four);
      tables = joined_tables catalog scope 0 from there;
      starts = joined_plain catalog scope from whole_joins;
      ons = ons_joined catalog scope [] 0 from refl refl from_none join_values;
      passes = subst (λ (l : List Column). condition_fits l (bound_filter scope filter) ≡ true) (sym columns) (filter_fits scope filter first.1 filter_has);
      group = subst (λ (l : List Column). list_all (is_column l) (map (place_of scope) group) ≡ true) (sym columns)
          (list_all_mapped (is_column (columns_in scope)) (place_of scope) group
          (weaker (λ (c : ColumnName). column_faults scope c ≡ []) (λ (c : ColumnName). is_column (columns_in scope) (place_of scope c) ≡ true) (column_fits scope) group (each_none (column_faults scope) group front.1)));
      prints = outputs_some scope group grouped items (first_columns catalog from fits whole_joins there) whole_items;
      outputs = subst (λ (l : List Column). list_all (output_fits l) (outputs_of scope items) ≡ true) (sym columns) (outputs_fit scope group grouped items first.0 whole_items item_values);
      sort = subst (λ (l : List Column). list_all (λ (s : Sort). sort_fits l (length (outputs_of scope items)) s.by) (map (sort_of scope) order) ≡ true) (sym columns)
          (subst (λ (n : ℕ). list_all (λ (s : Sort). sort_fits (columns_in scope) n s.by) (map (sort_of scope) order) ≡ true) (sym count) sorts);
      grouped = λ makes.
          let is = sym (makes_same scope items group) ∙ makes in (
            outputs_over scope group items is first.0,
            sorts_over scope group (printed scope items) order (subst (λ (b : Bool). AllByRecursion (λ (o : OrderItem). order_faults scope groups b (printed scope items) o ≡ []) order) is order_none),
          );
    }
