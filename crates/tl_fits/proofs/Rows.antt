-- The rows of an INSERT without faults are rows of its table.
use Rattle.std.proofs.Common.{◌≡◌, ℕ, suc, ◌+◌, ◌==◌, true, false, List, [], ◌∷◌, length, slice_get, Option, Some, None, refl, ap, sym, subst, ◌∙◌, arith}
use Rattle.std.specs.Prelude.{not}
use Rattle.std.specs.List.{AllByRecursion}
use Rattle.std.proofs.lemmas.Bool.{and_from, eqb-true}
use Rattle.tl_values.specs.declared.value.Kind.{Kind}
use Rattle.tl_values.specs.declared.value.Kind.TheVariants as type
use Rattle.tl_values.specs.declared.value.Value.{Value}
use Rattle.tl_values.specs.declared.value.Value.TheVariants as value
use Rattle.tl_values.specs.Key.{AreValues, IsValue}
use Rattle.tl_schema.specs.declared.catalog.Column.{Column}
use Rattle.tl_schema.specs.declared.catalog.Table.{Table}
use Rattle.tl_isolation.specs.Kinds.{are_of_kinds, is_of_kind}
use Rattle.tl_isolation.specs.Tables.{FitsTable}
use Rattle.tl_grammar.specs.declared.name.Name.{Name}
use Rattle.tl_grammar.specs.declared.operand.Literal.{Literal}
use Rattle.tl_grammar.specs.declared.statement.Tuple.{Tuple}
use Rattle.tl_scope.specs.declared.fault.BindKind.TheVariants as kind
use Rattle.tl_scope.specs.Change.{column_kind, kind_at, literal_faults, place_named, target, tuple_faults, width_of}
use Rattle.tl_scope.specs.Condition.{differ, value_kind}
use Rattle.tl_scope.specs.Fault.{each_from, fault_if}
use Rattle.tl_scope.specs.Scope.{column_place}
use Rattle.tl_scope.proofs.Firsts.{both_empty, no_fault}
use Rattle.tl_bind.specs.Change.{is_place, literal_or_null, row_from, row_of, source, value_from}
use Rattle.tl_bind.specs.Values.{LiteralHasValue, TupleHasValues}
use Rattle.tl_fits.proofs.Lists.{all_at, each_at, position_at}

is_at : (at : ℕ) (o : Option ℕ) → is_place at o ≡ true → o ≡ Some at
is_at at None e = absurd cc
is_at at (Some p) e = ap (λ (n : ℕ). Some n) (eqb-true p at e)

-- the literals that a column takes are those that are meant for it
target_of : (columns : List Column) (named : Option (List Name)) (at p : ℕ) → source columns named at ≡ Some p → target columns named p ≡ Some at
target_of columns None at p e = sym e
target_of columns (Some names) at p e =
    let found = position_at (λ (n : Name). is_place at (column_place n.text columns)) names p e in
    ap (place_named columns) found.1 ∙ is_at at (column_place found.0.text columns) found.2

of_kind : (v : Value) (k : Kind) → differ (value_kind v) (Some k) ≡ false → is_of_kind k v ≡ true
of_kind value.Null k e = refl
of_kind (value.Bool b) type.Bool e = refl
of_kind (value.Bool b) type.Int e = absurd cc
of_kind (value.Bool b) type.Text e = absurd cc
of_kind (value.Int n) type.Int e = refl
of_kind (value.Int n) type.Bool e = absurd cc
of_kind (value.Int n) type.Text e = absurd cc
of_kind (value.Text t) type.Text e = refl
of_kind (value.Text t) type.Bool e = absurd cc
of_kind (value.Text t) type.Int e = absurd cc

module _ (columns : List Column) (named : Option (List Name)) (values : List Literal) (none : each_from (literal_faults columns named) 0 values ≡ []) (are : AllByRecursion LiteralHasValue values) where
  literal_agrees : (p : ℕ) (l : Literal) → slice_get values p ≡ Some l → differ (value_kind l.value) (kind_at columns (target columns named p)) ≡ false
  literal_agrees p l at =
      let here : 0 + p ≡ p = omega arith in
      let e = subst (λ (n : ℕ). literal_faults columns named n l ≡ []) here (each_at (literal_faults columns named) 0 values p l none at) in
      no_fault (differ (value_kind l.value) (kind_at columns (target columns named p))) l.at kind.WrongType e

  literal_fits : (at p : ℕ) (c : Column) (o : Option Literal) → source columns named at ≡ Some p → slice_get columns at ≡ Some c → slice_get values p ≡ o → is_of_kind c.kind (literal_or_null o) ≡ true
  literal_fits at p c None from there get = refl
  literal_fits at p c (Some l) from there get =
      let is : kind_at columns (target columns named p) ≡ Some c.kind = ap (kind_at columns) (target_of columns named at p from) ∙ ap column_kind there in
      of_kind l.value c.kind (subst (λ (k : Option Kind). differ (value_kind l.value) k ≡ false) is (literal_agrees p l get))

  value_fits : (at : ℕ) (c : Column) (o : Option ℕ) → source columns named at ≡ o → slice_get columns at ≡ Some c → is_of_kind c.kind (value_from values o) ≡ true
  value_fits at c None from there = refl
  value_fits at c (Some p) from there = literal_fits at p c (slice_get values p) from there refl

  literal_is : (p : ℕ) (o : Option Literal) → slice_get values p ≡ o → IsValue (literal_or_null o)
  literal_is p None get = tt
  literal_is p (Some l) get = all_at LiteralHasValue values p l are get

  value_is : (o : Option ℕ) → IsValue (value_from values o)
  value_is None = tt
  value_is (Some p) = literal_is p (slice_get values p) refl

  row_kinds : (at : ℕ) (cs : List Column) → ((i : ℕ) (c : Column) → slice_get cs i ≡ Some c → slice_get columns (at + i) ≡ Some c) → are_of_kinds cs (row_from columns named values at cs) ≡ true
  row_kinds at [] h = refl
  row_kinds at (c ∷ cs) h =
      let here : at + 0 ≡ at = omega arith in
      and_from (is_of_kind c.kind (value_from values (source columns named at))) (are_of_kinds cs (row_from columns named values (at + 1) cs))
      (value_fits at c (source columns named at) refl (subst (λ (n : ℕ). slice_get columns n ≡ Some c) here (h 0 c refl)))
      (row_kinds (at + 1) cs (λ i d e. let next : at + suc i ≡ (at + 1) + i = omega arith in subst (λ (n : ℕ). slice_get columns n ≡ Some d) next (h (suc i) d e)))

  row_values : (at : ℕ) (cs : List Column) → AreValues (row_from columns named values at cs)
  row_values at [] = tt
  row_values at (c ∷ cs) = (value_is (source columns named at), row_values (at + 1) cs)

  row_width : (at : ℕ) (cs : List Column) → length (row_from columns named values at cs) ≡ length cs
  row_width at [] = refl
  row_width at (c ∷ cs) = let rest = row_width (at + 1) cs in omega arith

  starts_here : (i : ℕ) (c : Column) → slice_get columns i ≡ Some c → slice_get columns (0 + i) ≡ Some c
  starts_here i c e = let here : i ≡ 0 + i = omega arith in subst (λ (n : ℕ). slice_get columns n ≡ Some c) here e

pub row_fits : (t : Table) (named : Option (List Name)) (tuple : Tuple) → tuple_faults t.columns named tuple ≡ [] → TupleHasValues tuple → FitsTable t (row_of t.columns named tuple)
row_fits t named tuple none are =
    let parts = both_empty (fault_if (not (length tuple.values == width_of t.columns named)) tuple.at kind.WrongType) (each_from (literal_faults t.columns named) 0 tuple.values) none in
    record {
      width = row_width t.columns named tuple.values parts.1 are 0 t.columns;
      values = row_values t.columns named tuple.values parts.1 are 0 t.columns;
      kinds = row_kinds t.columns named tuple.values parts.1 are 0 t.columns (starts_here t.columns named tuple.values parts.1 are);
    }
