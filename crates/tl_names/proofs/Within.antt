-- Statements without faults are over few columns.
use Rattle.std.proofs.Common.{◌≡◌, ℕ, zero, suc, ◌+◌, ◌*◌, ◌≤◌, false, List, [], ◌∷◌, ◌++◌, length, map, take, Option, Some, None, refl, subst, arith, length-append}
use Rattle.std.specs.Prelude.{nat_lt, not, slice_get}
use Rattle.std.specs.List.{AllByRecursion}
use Rattle.tl_lemmas.proofs.Lists.{found}
use Rattle.tl_schema.specs.declared.catalog.Catalog.{Catalog}
use Rattle.tl_schema.specs.declared.catalog.Table.{Table}
use Rattle.tl_grammar.specs.declared.condition.Cond.{Cond}
use Rattle.tl_grammar.specs.declared.name.ColumnName.{ColumnName}
use Rattle.tl_grammar.specs.declared.select.FromItem.{FromItem}
use Rattle.tl_grammar.specs.declared.select.OrderItem.{OrderItem}
use Rattle.tl_grammar.specs.declared.select.SelectItem.{SelectItem}
use Rattle.tl_scope.specs.declared.fault.BindKind.TheVariants as kind
use Rattle.tl_grammar.specs.declared.name.Name.{Name}
use Rattle.tl_grammar.specs.declared.statement.ColumnForm.{ColumnForm}
use Rattle.tl_scope.specs.Condition.{filter_faults}
use Rattle.tl_scope.specs.Create.{column_form_faults, create_table_faults, form_name, has_one_key, key_faults, table_name_faults}
use Rattle.tl_scope.specs.Fault.{each_from, fault_if}
use Rattle.tl_scope.specs.Named.{is_none, repeated_faults}
use Rattle.tl_scope.specs.Scope.{Source, called, columns_named, columns_or, same, scope_of, table_named}
use Rattle.tl_scope.specs.Select.{from_faults, select_faults, shown_faults}
use Rattle.tl_scope.proofs.Firsts.{both_empty, no_fault}
use Rattle.tl_bind.specs.Place.{columns_in}
use Rattle.tl_names.specs.Bind.{IsWithin}

pub found_few : (catalog : Catalog) (name : List ℕ) (t : Table) → IsWithin catalog → table_named catalog name ≡ Some t → length t.columns ≤ 256
found_few catalog name t within e =
    let few : length t.columns ≤ 32 = found (λ (t : Table). length t.columns ≤ 32) (λ (t : Table). same t.name name) catalog.tables t within.columns e in
    omega (arith, few)

few_or : (o : Option Table) → ((t : Table) → o ≡ Some t → length t.columns ≤ 32) → length (columns_or o) ≤ 32
few_or None h = omega arith
few_or (Some t) h = h t refl

named_few : (catalog : Catalog) (name : List ℕ) → IsWithin catalog → length (columns_named catalog name) ≤ 32
named_few catalog name within =
    few_or (table_named catalog name) (λ t e. found (λ (t : Table). length t.columns ≤ 32) (λ (t : Table). same t.name name) catalog.tables t within.columns e)

columns_few : (catalog : Catalog) (from : List FromItem) → IsWithin catalog → length (columns_in (scope_of catalog from)) ≤ 32 * length from
columns_few catalog [] within = omega arith
columns_few catalog (item ∷ items) within =
    omega (arith, length-append (columns_named catalog item.table.text) (columns_in (scope_of catalog items)), named_few catalog item.table.text within, columns_few catalog items within)

-- there are four FROM items at most
pub items_few : (catalog : Catalog) (scope : List Source) (i : ℕ) (from : List FromItem) → i ≤ 4 → each_from (from_faults catalog scope) i from ≡ [] → i + length from ≤ 4
items_few catalog scope i [] le none = omega arith
items_few catalog scope i (item ∷ items) le none =
    let here = both_empty (from_faults catalog scope i item) (each_from (from_faults catalog scope) (i + 1) items) none in
    let a = fault_if (is_none (table_named catalog item.table.text)) item.table.at kind.UnknownTable in
    let b = fault_if (nat_lt 3 i) item.table.at kind.TooMany in
    let front = (both_empty (a ++ b) (filter_faults (take (i + 1) scope) item.on) here.0).0 in
    let few : nat_lt 3 i ≡ false = no_fault (nat_lt 3 i) item.table.at kind.TooMany (both_empty a b front).1 in
    let next : i + 1 ≤ 4 = grind (arith, few) in
    omega (arith, items_few catalog scope (i + 1) items next here.1)

pub select_few : (catalog : Catalog) (items : Option (List SelectItem)) (from : List FromItem) (filter : Option Cond) (group : List ColumnName) (order : List OrderItem) →
    select_faults catalog items from filter group order ≡ [] → IsWithin catalog → length (columns_in (scope_of catalog from)) ≤ 256
select_few catalog items from filter group order none within =
    let scope = scope_of catalog from in
    let a = each_from (from_faults catalog scope) 0 from in
    let b = repeated_faults (map called from) in
    let front = (both_empty (a ++ b) (shown_faults scope items filter group order) none).0 in
    let four = items_few catalog scope 0 from (omega arith) (both_empty a b front).0 in
    omega (arith, four, columns_few catalog from within)

at_few : (ts : List Table) (n : ℕ) (t : Table) → AllByRecursion (λ (t : Table). length t.columns ≤ 32) ts → slice_get ts n ≡ Some t → length t.columns ≤ 32
at_few [] n t h e = absurd cc
at_few (x ∷ ts) zero t h e = let is : x ≡ t = cc in subst (λ (t : Table). length t.columns ≤ 32) is h.0
at_few (x ∷ ts) (suc n) t h e = at_few ts n t h.1 e

pub numbered_few : (catalog : Catalog) (n : ℕ) (t : Table) → IsWithin catalog → slice_get catalog.tables n ≡ Some t → length t.columns ≤ 256
numbered_few catalog n t within e = let few = at_few catalog.tables n t within.columns e in omega (arith, few)

-- a table has 32 columns at most
pub forms_few : (i : ℕ) (columns : List ColumnForm) → i ≤ 32 → each_from column_form_faults i columns ≡ [] → i + length columns ≤ 32
forms_few i [] le none = omega arith
forms_few i (c ∷ cs) le none =
    let here = both_empty (column_form_faults i c) (each_from column_form_faults (i + 1) cs) none in
    let few : nat_lt 31 i ≡ false = no_fault (nat_lt 31 i) c.name.at kind.TooMany here.0 in
    let next : i + 1 ≤ 32 = grind (arith, few) in
    omega (arith, forms_few (i + 1) cs next here.1)

pub table_few : (catalog : Catalog) (name : Name) (columns : List ColumnForm) (key : Option (List Name)) → create_table_faults catalog name columns key ≡ [] → length columns ≤ 256
table_few catalog name columns key none =
    let a = table_name_faults catalog name in
    let b = fault_if (not (has_one_key columns key)) name.at kind.NoKey in
    let c = repeated_faults (map form_name columns) in
    let d = each_from column_form_faults 0 columns in
    let front = (both_empty (a ++ b ++ c ++ d) (key_faults columns key) none).0 in
    let few = forms_few 0 columns (omega arith) (both_empty (a ++ b ++ c) d front).1 in
    omega (arith, few)
