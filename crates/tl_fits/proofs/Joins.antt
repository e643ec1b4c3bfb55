-- FROM items without faults are bound to joins that fit.
use Rattle.std.proofs.Common.{◌≡◌, ℕ, ◌+◌, true, false, List, [], ◌∷◌, ◌++◌, append_assoc, length, length-append, take, Option, Some, None, refl, ap, sym, subst, ◌∙◌, arith}
use Rattle.std.proofs.lemmas.Bool.{and_from}
use Rattle.std.specs.Prelude.{flat_map, nat_lt}
use Rattle.std.specs.List.{AllByRecursion}
use Rattle.std.proofs.Math.Seq.{take-append-add}
use Rattle.std.proofs.lemmas.List.{append-nil}
use Rattle.tl_schema.specs.declared.catalog.Catalog.{Catalog}
use Rattle.tl_schema.specs.declared.catalog.Column.{Column}
use Rattle.tl_schema.specs.declared.catalog.Table.{Table}
use Rattle.tl_algebra.specs.declared.query.Join.{Join}
use Rattle.tl_isolation.specs.Kinds.{condition_fits}
use Rattle.tl_isolation.specs.Queries.{StartsPlain, columns_of, ons_fit}
use Rattle.tl_isolation.specs.Tables.{HasTable}
use Rattle.tl_grammar.specs.declared.select.FromItem.{FromItem}
use Rattle.tl_grammar.specs.Whole.{AreWholeJoins}
use Rattle.tl_scope.specs.declared.fault.BindKind.TheVariants as kind
use Rattle.tl_scope.specs.Condition.{filter_faults}
use Rattle.tl_scope.specs.Fault.{each_from, fault_if}
use Rattle.tl_scope.specs.Named.{is_none}
use Rattle.tl_scope.specs.Scope.{Source, columns_named, columns_or, scope_of, source_of, table_named}
use Rattle.tl_scope.specs.Select.{from_faults}
use Rattle.tl_scope.proofs.Firsts.{both_empty, no_fault}
use Rattle.tl_bind.specs.Condition.{bound_filter}
use Rattle.tl_bind.specs.Place.{columns_in}
use Rattle.tl_bind.specs.Select.{joins_from, table_number}
use Rattle.tl_bind.specs.Values.{JoinHasValues}
use Rattle.tl_fits.proofs.Changes.{filter_fits, named_table}

pub columns_append : (front back : List Source) → columns_in (front ++ back) ≡ columns_in front ++ columns_in back
columns_append [] back = refl
columns_append (s ∷ front) back = ap (λ (l : List Column). s.columns ++ l) (columns_append front back) ∙ sym (append_assoc s.columns (columns_in front) (columns_in back))

-- the columns of a front, and those of one item more
pub columns_push : (front : List Source) (s : Source) → columns_in (front ++ s ∷ []) ≡ columns_in front ++ s.columns
columns_push front s = columns_append front (s ∷ []) ∙ ap (λ (l : List Column). columns_in front ++ l) (append-nil s.columns)

taken : (scope front rest : List Source) (s : Source) (i : ℕ) → scope ≡ front ++ s ∷ rest → i ≡ length front → take (i + 1) scope ≡ front ++ s ∷ []
taken scope front rest s i whole here = ap (λ (n : ℕ). take (n + 1) scope) here ∙ ap (take (length front + 1)) whole ∙ take-append-add front (s ∷ rest) 1

module _ (catalog : Catalog) where
  -- the table of the item is there
  abbrev pub IsThere : FromItem → Type 0
  IsThere item = (t : Table) × (table_named catalog item.table.text ≡ Some t)

  there_by : (o : Option Table) → is_none o ≡ false → (t : Table) × (o ≡ Some t)
  there_by None e = absurd cc
  there_by (Some t) e = (t, refl)

  -- what an item without faults is
  abbrev IsPlain : List Source → ℕ → FromItem → Type 0
  IsPlain scope i item = IsThere item × (filter_faults (take (i + 1) scope) item.on ≡ [])

  plain : (scope : List Source) (i : ℕ) (item : FromItem) → from_faults catalog scope i item ≡ [] → IsPlain scope i item
  plain scope i item none =
      let found = is_none (table_named catalog item.table.text) in
      let a = fault_if found item.table.at kind.UnknownTable in
      let b = fault_if (nat_lt 3 i) item.table.at kind.TooMany in
      let outer = both_empty (a ++ b) (filter_faults (take (i + 1) scope) item.on) none in
      let inner = both_empty a b outer.0 in
      (there_by (table_named catalog item.table.text) (no_fault found item.table.at kind.UnknownTable inner.0), outer.1)

  pub are_there : (scope : List Source) (i : ℕ) (items : List FromItem) → each_from (from_faults catalog scope) i items ≡ [] → AllByRecursion IsThere items
  are_there scope i [] none = tt
  are_there scope i (item ∷ items) none =
      let parts = both_empty (from_faults catalog scope i item) (each_from (from_faults catalog scope) (i + 1) items) none in
      ((plain scope i item parts.0).0, are_there scope (i + 1) items parts.1)

  abbrev join_at : List Source → ℕ → FromItem → Join
  join_at scope i item = record { table = table_number catalog item.table.text; on = bound_filter (take (i + 1) scope) item.on }

  columns_joined : (scope : List Source) (i : ℕ) (item : FromItem) → IsThere item → columns_of catalog (join_at scope i item) ≡ columns_named catalog item.table.text
  columns_joined scope i item t = ap (λ (t : Table). t.columns) (named_table catalog item.table.text t.0 t.1).1 ∙ sym (ap columns_or t.1)

  -- the columns of the joins are those of the items
  pub joined_columns : (scope : List Source) (i : ℕ) (items : List FromItem) → AllByRecursion IsThere items → flat_map (columns_of catalog) (joins_from catalog scope i items) ≡ columns_in (scope_of catalog items)
  joined_columns scope i [] h = refl
  joined_columns scope i (item ∷ items) h =
      ap (λ (l : List Column). l ++ flat_map (columns_of catalog) (joins_from catalog scope (i + 1) items)) (columns_joined scope i item h.0)
      ∙ ap (λ (l : List Column). columns_named catalog item.table.text ++ l) (joined_columns scope (i + 1) items h.1)

  pub joined_tables : (scope : List Source) (i : ℕ) (items : List FromItem) → AllByRecursion IsThere items → AllByRecursion (λ (join : Join). HasTable catalog join.table) (joins_from catalog scope i items)
  joined_tables scope i [] h = tt
  joined_tables scope i (item ∷ items) h = ((named_table catalog item.table.text h.0.0 h.0.1).0, joined_tables scope (i + 1) items h.1)

  pub joined_length : (scope : List Source) (i : ℕ) (items : List FromItem) → length (joins_from catalog scope i items) ≡ length items
  joined_length scope i [] = refl
  joined_length scope i (item ∷ items) = let rest = joined_length scope (i + 1) items in omega arith

  pub joined_plain : (scope : List Source) (items : List FromItem) → AreWholeJoins items → StartsPlain (joins_from catalog scope 0 items)
  joined_plain scope [] h = absurd h
  joined_plain scope (item ∷ items) h = ap (bound_filter (take (0 + 1) scope)) h.0

  -- each ON is over the columns of the items up to its own
  pub ons_joined : (scope front : List Source) (i : ℕ) (items : List FromItem) → scope ≡ front ++ scope_of catalog items → i ≡ length front → each_from (from_faults catalog scope) i items ≡ []
      → AllByRecursion JoinHasValues items → ons_fit catalog (columns_in front) (joins_from catalog scope i items) ≡ true
  ons_joined scope front i [] whole here none values = refl
  ons_joined scope front i (item ∷ items) whole here none values =
      let s = source_of catalog item in
      let parts = both_empty (from_faults catalog scope i item) (each_from (from_faults catalog scope) (i + 1) items) none in
      let is = plain scope i item parts.0 in
      let front_is = taken scope front (scope_of catalog items) s i whole here in
      let before : columns_in (front ++ s ∷ []) ≡ columns_in front ++ columns_of catalog (join_at scope i item) =
      columns_push front s ∙ ap (λ (l : List Column). columns_in front ++ l) (sym (columns_joined scope i item is.0)) in
      let on = filter_fits (take (i + 1) scope) item.on is.1 values.0 in
      let on_fits = subst (λ (columns : List Column). condition_fits columns (bound_filter (take (i + 1) scope) item.on) ≡ true) (ap columns_in front_is ∙ before) on in
      let longer = length-append front (s ∷ []) in
      let rest = ons_joined scope (front ++ s ∷ []) (i + 1) items (whole ∙ sym (append_assoc front (s ∷ []) (scope_of catalog items))) (omega arith) parts.1 values.1 in
      let rest_fits = subst (λ (columns : List Column). ons_fit catalog columns (joins_from catalog scope (i + 1) items) ≡ true) before rest in
      and_from (condition_fits (columns_in front ++ columns_of catalog (join_at scope i item)) (bound_filter (take (i + 1) scope) item.on))
      (ons_fit catalog (columns_in front ++ columns_of catalog (join_at scope i item)) (joins_from catalog scope (i + 1) items)) on_fits rest_fits
