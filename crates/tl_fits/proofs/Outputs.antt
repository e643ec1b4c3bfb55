-- Printed columns and ORDER BY without faults fit the columns.
use Rattle.std.proofs.Common.{◌≡◌, ℕ, zero, suc, ◌+◌, ◌-◌, ◌<◌, ◌≤◌, ◌==◌, Bool, true, false, ◌||◌, ◌&&◌, List, [], ◌∷◌, length, length-append, map, slice_get, Option, Some, None, refl, ap, sym, subst, ◌∙◌, arith}
use Rattle.std.proofs.lemmas.Bool.{and_from}
use Rattle.std.specs.Prelude.{min, nat_lt, not}
use Rattle.std.specs.List.{AllByRecursion, list_all, list_any}
use Rattle.std.proofs.lemmas.Bool.Decides.{nat_tests}
use Rattle.tl_lemmas.proofs.Lists.{all_both, some_at, weaker}
use Rattle.tl_values.specs.declared.value.Kind.{Kind}
use Rattle.tl_values.specs.declared.value.Kind.TheVariants as type
use Rattle.tl_schema.specs.declared.catalog.Column.{Column}
use Rattle.tl_algebra.specs.declared.expression.Expression.TheVariants as bound
use Rattle.tl_algebra.specs.declared.query.Output.{Output}
use Rattle.tl_algebra.specs.declared.query.Output.TheVariants as output
use Rattle.tl_isolation.specs.Kinds.{every_kind, gives_kind, has_column}
use Rattle.tl_isolation.specs.Kinds as kinds
use Rattle.tl_isolation.specs.Queries.{is_column, output_fits, sort_fits}
use Rattle.tl_isolation.proofs.Computed.{kind_of_place}
use Rattle.tl_grammar.specs.declared.expression.Expr.{Expr}
use Rattle.tl_grammar.specs.declared.name.ColumnName.{ColumnName}
use Rattle.tl_grammar.specs.declared.select.OrderBy.{OrderBy}
use Rattle.tl_grammar.specs.declared.select.OrderBy.TheVariants as by
use Rattle.tl_grammar.specs.declared.select.SelectForm.{SelectForm}
use Rattle.tl_grammar.specs.declared.select.SelectForm.TheVariants as form
use Rattle.tl_grammar.specs.declared.select.SelectItem.{SelectItem}
use Rattle.tl_grammar.specs.Whole.{IsWholeItem, whole_form}
use Rattle.tl_scope.specs.declared.fault.BindKind.TheVariants as kind
use Rattle.tl_scope.specs.declared.found.Found.{Found}
use Rattle.tl_scope.specs.declared.found.Found.TheVariants.{NoTable, NoColumn, One, Several}
use Rattle.tl_scope.specs.Change.{column_kind}
use Rattle.tl_scope.specs.Condition.{differ}
use Rattle.tl_scope.specs.Expression.{expression_faults, expression_kind}
use Rattle.tl_scope.specs.Fault.{fault_if}
use Rattle.tl_scope.specs.Scope.{Source, column_at, column_faults, column_found, found_faults, kind_of}
use Rattle.tl_scope.specs.Select.{by_faults, form_faults, is_grouped_by, is_over, item_faults, printed, sum_column_faults, width}
use Rattle.tl_scope.proofs.Firsts.{both_empty, no_fault}
use Rattle.tl_bind.specs.Expression.{bound_expression}
use Rattle.tl_bind.specs.Place.{columns_in, found_place, place_at, place_of}
use Rattle.tl_bind.specs.Select.{by_of, columns_from, item_output, output_of}
use Rattle.tl_bind.specs.Values.{FormHasValues, ItemHasValues}
use Rattle.tl_bind.proofs.Fitting.{Admits, any_kind, same_self}
use Rattle.tl_bind.proofs.Places.{place_has_kind}
use Rattle.tl_fits.proofs.Changes.{has_at}
use Rattle.tl_fits.proofs.Expressions.{admitted, expression_fits}
use Rattle.tl_fits.proofs.Lists.{list_all_mapped}

kind_there : (passes : Kind → Bool) (columns : List Column) (at : ℕ) (k : Kind) → column_kind (slice_get columns at) ≡ Some k → passes k ≡ true → has_column passes columns at ≡ true
kind_there passes [] at k e p = absurd cc
kind_there passes (c ∷ cs) zero k e p = let is : c.kind ≡ k = cc in subst (λ (x : Kind). passes x ≡ true) (sym is) p
kind_there passes (c ∷ cs) (suc at) k e p = kind_there passes cs at k e p

-- a name that stands for one column is at its place
found_fits : (scope : List Source) (c : ColumnName) (f : Found) (passes : Kind → Bool) → column_found scope c ≡ f → found_faults c f ≡ [] → ((k : Kind) → kind_of f ≡ Some k → passes k ≡ true)
    → has_column passes (columns_in scope) (found_place scope f) ≡ true
found_fits scope c NoTable passes is none p = absurd cc
found_fits scope c NoColumn passes is none p = absurd cc
found_fits scope c Several passes is none p = absurd cc
found_fits scope c (One s) passes is none p = kind_there passes (columns_in scope) (place_at s.column scope s.item) s.kind (place_has_kind scope c s is) (p s.kind refl)

pub column_fits : (scope : List Source) (c : ColumnName) → column_faults scope c ≡ [] → is_column (columns_in scope) (place_of scope c) ≡ true
column_fits scope c none = found_fits scope c (column_found scope c) (λ (k : Kind). true) refl none (λ k e. refl)

same_as : (k : Kind) → k ≡ type.Int → kinds.same_kind type.Int k ≡ true
same_as k e = subst (λ (x : Kind). kinds.same_kind type.Int x ≡ true) (sym e) refl

number_column_fits : (scope : List Source) (c : ColumnName) → sum_column_faults scope c ≡ [] → has_column (kinds.same_kind type.Int) (columns_in scope) (place_of scope c) ≡ true
number_column_fits scope c none =
    let d = differ (kind_of (column_found scope c)) (Some type.Int) in
    let parts = both_empty (column_faults scope c) (fault_if d (column_at c) kind.WrongType) none in
    let agrees = no_fault d (column_at c) kind.WrongType parts.1 in
    found_fits scope c (column_found scope c) (kinds.same_kind type.Int) refl parts.0
    (λ k e. same_as k (admitted (Some k) type.Int (subst (λ (o : Option Kind). differ o (Some type.Int) ≡ false) e agrees)))

some_kind : (o : Option Kind) → (k : Kind) × Admits o k
some_kind None = (type.Int, tt)
some_kind (Some k) = (k, refl)

expression_of_kind : (scope : List Source) (e : Expr) → expression_faults scope e ≡ [] → whole_form (form.Expr e) ≡ true → FormHasValues (form.Expr e) → list_any (gives_kind (columns_in scope) (bound_expression scope e)) every_kind ≡ true
expression_of_kind scope e none whole values =
    let k = some_kind (expression_kind scope e) in
    any_kind (gives_kind (columns_in scope) (bound_expression scope e)) k.0 (expression_fits scope e k.0 none values whole k.1)

form_fits : (scope : List Source) (group : List Found) (grouped : Bool) (at : ℕ) (f : SelectForm) → form_faults scope group grouped at f ≡ [] → whole_form f ≡ true → FormHasValues f → output_fits (columns_in scope) (output_of scope f) ≡ true
form_fits scope group grouped at (form.Expr e) none whole values =
    expression_of_kind scope e (both_empty (fault_if (grouped && not (is_over scope group e)) at kind.Grouping) (expression_faults scope e) none).1 whole values
form_fits scope group grouped at form.CountRows none whole values = refl
form_fits scope group grouped at (form.Count c) none whole values = column_fits scope c none
form_fits scope group grouped at (form.Sum c) none whole values = number_column_fits scope c none
form_fits scope group grouped at (form.Min c) none whole values = column_fits scope c none
form_fits scope group grouped at (form.Max c) none whole values = column_fits scope c none

pub items_fit : (scope : List Source) (group : List Found) (grouped : Bool) (items : List SelectItem) → AllByRecursion (λ (item : SelectItem). item_faults scope group grouped item ≡ []) items → AllByRecursion IsWholeItem items
    → AllByRecursion ItemHasValues items → list_all (output_fits (columns_in scope)) (map (item_output scope) items) ≡ true
items_fit scope group grouped items none whole values =
    list_all_mapped (output_fits (columns_in scope)) (item_output scope) items
    (weaker (λ (item : SelectItem). (item_faults scope group grouped item ≡ []) × (IsWholeItem item × ItemHasValues item)) (λ (item : SelectItem). output_fits (columns_in scope) (item_output scope item) ≡ true)
    (λ item h. form_fits scope group grouped item.at item.form h.0 h.1.0 h.1.1) items
    (all_both (λ (item : SelectItem). item_faults scope group grouped item ≡ []) (λ (item : SelectItem). IsWholeItem item × ItemHasValues item) items none (all_both IsWholeItem ItemHasValues items whole values)))

-- `*`
abbrev columns_output : ℕ → Output
columns_output at = output.Expression (bound.Place at)

place_is_of_kind : (columns : List Column) (at : ℕ) → at < length columns → output_fits columns (columns_output at) ≡ true
place_is_of_kind columns at there =
    let c = some_at columns at there in
    let k = c.0.kind in
    any_kind (gives_kind columns (bound.Place at)) k (ap (λ (f : Kind → Bool). f k) (kind_of_place columns at) ∙ has_at (kinds.same_kind k) columns at c.0 c.1 (same_self k))

pub star_fits : (columns : List Column) (at count : ℕ) → at + count ≤ length columns → list_all (output_fits columns) (columns_from at count) ≡ true
star_fits columns at zero within = refl
star_fits columns at (suc count) within =
    and_from (output_fits columns (columns_output at)) (list_all (output_fits columns) (columns_from (at + 1) count)) (place_is_of_kind columns at (omega arith)) (star_fits columns (at + 1) count (omega arith))

pub star_length : (at count : ℕ) → length (columns_from at count) ≡ count
star_length at zero = refl
star_length at (suc count) = let rest = star_length (at + 1) count in omega arith

pub width_is : (scope : List Source) → width scope ≡ length (columns_in scope)
width_is [] = refl
width_is (s ∷ scope) = let rest = width_is scope in let long = length-append s.columns (columns_in scope) in omega arith

-- ORDER BY
number_within : (n most printed : ℕ) → (n == 0 || nat_lt printed n) ≡ false → nat_lt (min (n - 1) most) printed ≡ true
number_within n most printed e = grind (arith, nat_tests)

pub by_fits : (scope : List Source) (group : List Found) (grouped : Bool) (count : ℕ) (b : OrderBy) → by_faults scope group grouped count b ≡ [] → sort_fits (columns_in scope) count (by_of scope b) ≡ true
by_fits scope group grouped count (by.Column c) none =
    column_fits scope c (both_empty (column_faults scope c) (fault_if (grouped && not (is_grouped_by group (column_found scope c))) (column_at c) kind.Grouping) none).0
by_fits scope group grouped count (by.Number at n) none = number_within n _ count (no_fault (n == 0 || nat_lt count n) at kind.UnknownColumn none)
