-- Beside groups what is printed and sorted by is over the columns of GROUP BY alone.
use Rattle.std.proofs.Common.{◌≡◌, ℕ, zero, suc, ◌+◌, ◌-◌, ◌<◌, ◌≤◌, ◌==◌, Bool, true, false, ◌||◌, ◌&&◌, ◌⊎◌, inl, inr, List, [], ◌∷◌, ◌++◌, append_assoc, length, length-append, map, slice_get, Option, Some, None, refl, ap, sym, subst, ◌∙◌, arith}
use Rattle.std.specs.Prelude.{nat_lt, not}
use Rattle.std.specs.List.{AllByRecursion, list_all, list_any}
use Rattle.std.proofs.lemmas.Bool.{and_from, and_parts, eq-eqb, eqb-true, not-false, or_cases, or_left, or_right}
use Rattle.std.proofs.lemmas.Bool.Decides.{nat_tests}
use Rattle.tl_lemmas.proofs.Lists.{some_at, weaker}
use Rattle.tl_schema.specs.declared.catalog.Column.{Column}
use Rattle.tl_algebra.specs.declared.expression.Expression.{Expression}
use Rattle.tl_algebra.specs.declared.expression.Expression.TheOpen.{Expression-F}
use Rattle.tl_algebra.specs.declared.expression.Expression.TheFolds.{fold-Expression, fold_out-Expression, map-Expression}
use Rattle.tl_algebra.specs.declared.expression.Expression.TheVariants as bound
use Rattle.tl_algebra.specs.declared.expression.Expression.TheVariants.{outs-Chain, outs-Literal}
use Rattle.tl_algebra.specs.declared.expression.Step as algebra
use Rattle.tl_algebra.specs.declared.query.Sort.{Sort}
use Rattle.tl_algebra.specs.Group.{is_aggregate}
use Rattle.tl_algebra.specs.Order.{makes_groups}
use Rattle.tl_isolation.specs.Queries.{group_layer, is_among, item_is_over, sort_is_over}
use Rattle.tl_isolation.specs.Queries as queries
use Rattle.tl_isolation.proofs.Grouped.{over_place}
use Rattle.tl_values.specs.declared.value.Value.{Value}
use Rattle.tl_grammar.specs.declared.expression.Expr.{Expr, roll-Expr}
use Rattle.tl_grammar.specs.declared.expression.Expr.TheOpen.{Expr-F}
use Rattle.tl_grammar.specs.declared.expression.Expr.TheOpen as layer
use Rattle.tl_grammar.specs.declared.expression.Expr.TheFolds.{fold-roll-Expr, ind-Expr, map-Expr}
use Rattle.tl_grammar.specs.declared.expression.Step.{Step}
use Rattle.tl_grammar.specs.declared.name.ColumnName.{ColumnName}
use Rattle.tl_grammar.specs.declared.operand.Operand.TheVariants as operand
use Rattle.tl_grammar.specs.declared.select.OrderBy.{OrderBy}
use Rattle.tl_grammar.specs.declared.select.OrderBy.TheVariants as by
use Rattle.tl_grammar.specs.declared.select.OrderItem.{OrderItem}
use Rattle.tl_grammar.specs.declared.select.SelectForm.{SelectForm}
use Rattle.tl_grammar.specs.declared.select.SelectForm.TheVariants as form
use Rattle.tl_grammar.specs.declared.select.SelectItem.{SelectItem}
use Rattle.tl_scope.specs.declared.fault.BindKind.TheVariants as kind
use Rattle.tl_scope.specs.declared.found.Found.{Found}
use Rattle.tl_scope.specs.declared.found.Found.TheVariants.{NoTable, NoColumn, One, Several}
use Rattle.tl_scope.specs.declared.found.Spot.{Spot}
use Rattle.tl_scope.specs.Expression.{expression_faults}
use Rattle.tl_scope.specs.Fault.{fault_if}
use Rattle.tl_scope.specs.Scope.{Source, column_at, column_faults, column_found}
use Rattle.tl_scope.specs.Select.{all_are_grouped, by_faults, columns_are_grouped, form_faults, grouping, has_aggregate, is_grouped, is_grouped_by, is_over, is_same, item_faults, order_faults, over_layer, star_faults}
use Rattle.tl_scope.specs.Select as scoped
use Rattle.tl_scope.proofs.Firsts.{both_empty, no_fault}
use Rattle.tl_bind.specs.Expression.{bound_expression, bound_layer, step_of}
use Rattle.tl_bind.specs.Place.{columns_in, found_place, place_at, place_of}
use Rattle.tl_bind.specs.Select.{by_of, columns_from, item_output, output_of, outputs_of, sort_of}
use Rattle.tl_fits.proofs.Joins.{columns_push}
use Rattle.tl_fits.proofs.Lists.{list_all_mapped}

-- one column has one place
same_place : (scope : List Source) (f g : Found) → is_same f g ≡ true → found_place scope f ≡ found_place scope g
same_place scope NoTable g e = absurd cc
same_place scope NoColumn g e = absurd cc
same_place scope Several g e = absurd cc
same_place scope (One a) NoTable e = absurd cc
same_place scope (One a) NoColumn e = absurd cc
same_place scope (One a) Several e = absurd cc
same_place scope (One a) (One b) e =
    let parts = and_parts (a.item == b.item) (a.column == b.column) e in
    ap (λ (n : ℕ). place_at n scope a.item) (eqb-true a.column b.column parts.1) ∙ ap (place_at b.column scope) (eqb-true a.item b.item parts.0)

-- what is one of the columns of GROUP BY has one of their places
among : (scope : List Source) (group : List ColumnName) (f : Found) → is_grouped_by (grouping scope group) f ≡ true → is_among (map (place_of scope) group) (found_place scope f) ≡ true
among scope [] f e = absurd cc
among scope (c ∷ cs) f e =
    let here = place_of scope c == found_place scope f in
    let later = is_among (map (place_of scope) cs) (found_place scope f) in
    elim (or_cases (is_same (column_found scope c) f) (is_grouped_by (grouping scope cs) f) e) [
      | inl h ↦ or_left here later (eq-eqb (place_of scope c) (found_place scope f) (same_place scope (column_found scope c) f h))
      | inr h ↦ or_right here later (among scope cs f h)
    ]

-- expressions
over_literal : (places : List ℕ) (v : Value) → queries.is_over places (bound.Literal v) ≡ true
unfolding queries.is_over
over_literal places v =
    fold_out-Expression Bool (group_layer places) (bound.Literal v)
    ∙ ap (λ (l : Expression-F Expression). group_layer places (map-Expression Expression Bool (fold-Expression Bool (group_layer places)) l)) (outs-Literal v)

abbrev over_bound : List ℕ → algebra.Step Expression → algebra.Step Bool
over_bound places s = record { by = s.by; of = queries.is_over places s.of }

over_chain : (places : List ℕ) (first : Expression) (rest : List (algebra.Step Expression)) →
    queries.is_over places (bound.Chain first rest) ≡ (queries.is_over places first && list_all (λ (s : algebra.Step Bool). s.of) (map (over_bound places) rest))
unfolding queries.is_over
over_chain places first rest =
    fold_out-Expression Bool (group_layer places) (bound.Chain first rest)
    ∙ ap (λ (l : Expression-F Expression). group_layer places (map-Expression Expression Bool (fold-Expression Bool (group_layer places)) l)) (outs-Chain first rest)

bound_of : (scope : List Source) (x : Expr-F Expr) → bound_expression scope (roll-Expr x) ≡ bound_layer scope (map-Expr Expr Expression (bound_expression scope) x)
unfolding bound_expression
bound_of scope x = fold-roll-Expr Expression (bound_layer scope) x

over_of : (scope : List Source) (group : List Found) (x : Expr-F Expr) → is_over scope group (roll-Expr x) ≡ over_layer scope group (map-Expr Expr Bool (is_over scope group) x)
unfolding is_over
over_of scope group x = fold-roll-Expr Bool (over_layer scope group) x

module _ (scope : List Source) (group : List ColumnName) where
  abbrev groups : List Found
  groups = grouping scope group

  abbrev places : List ℕ
  places = map (place_of scope) group

  abbrev IsOver : Expr → Type 0
  IsOver e = is_over scope groups e ≡ true → queries.is_over places (bound_expression scope e) ≡ true

  abbrev Over : Type 0
  Over = (e : Expr) × IsOver e

  abbrev plain : Step Over → Step Expr
  plain s = record { by = s.by; of = s.of.0 }

  abbrev over_step : Step Expr → Step Bool
  over_step s = record { by = s.by; of = is_over scope groups s.of }

  abbrev bound_step : Step Expr → Step Expression
  bound_step s = record { by = s.by; of = bound_expression scope s.of }

  steps_over : (ss : List (Step Over)) → list_all (λ (s : Step Bool). s.of) (map over_step (map plain ss)) ≡ true
      → list_all (λ (s : algebra.Step Bool). s.of) (map (over_bound places) (map step_of (map bound_step (map plain ss)))) ≡ true
  steps_over [] h = refl
  steps_over (s ∷ ss) h =
      let parts = and_parts (is_over scope groups s.of.0) (list_all (λ (s : Step Bool). s.of) (map over_step (map plain ss))) h in
      and_from (queries.is_over places (bound_expression scope s.of.0)) (list_all (λ (s : algebra.Step Bool). s.of) (map (over_bound places) (map step_of (map bound_step (map plain ss)))))
      (s.of.1 parts.0) (steps_over ss parts.1)

  layer_over : (y : Expr-F Over) → IsOver (roll-Expr (map-Expr Over Expr (λ e. e.0) y))
  layer_over (layer.Operand (operand.Column c)) h =
      ap (queries.is_over places) (bound_of scope (layer.Operand (operand.Column c)))
      ∙ over_place places (place_of scope c)
      ∙ among scope group (column_found scope c) (sym (over_of scope groups (layer.Operand (operand.Column c))) ∙ h)
  layer_over (layer.Operand (operand.Literal l)) h = ap (queries.is_over places) (bound_of scope (layer.Operand (operand.Literal l))) ∙ over_literal places l.value
  layer_over (layer.Chain y ss) h =
      let steps = map plain ss in
      let x : Expr-F Expr = layer.Chain y.0 steps in
      let parts = and_parts (is_over scope groups y.0) (list_all (λ (s : Step Bool). s.of) (map over_step steps)) (sym (over_of scope groups x) ∙ h) in
      ap (queries.is_over places) (bound_of scope x)
      ∙ over_chain places (bound_expression scope y.0) (map step_of (map bound_step steps))
      ∙ and_from (queries.is_over places (bound_expression scope y.0)) (list_all (λ (s : algebra.Step Bool). s.of) (map (over_bound places) (map step_of (map bound_step steps)))) (y.1 parts.0) (steps_over ss parts.1)

  over_expression : (e : Expr) → IsOver e
  over_expression = ind-Expr IsOver (λ x y is. subst (λ (z : Expr-F Expr). IsOver (roll-Expr z)) is (layer_over y))

  -- printed columns
  form_over : (at : ℕ) (f : SelectForm) → form_faults scope groups true at f ≡ [] → item_is_over places (output_of scope f) ≡ true
  form_over at (form.Expr e) none =
      let parts = both_empty (fault_if (true && not (is_over scope groups e)) at kind.Grouping) (expression_faults scope e) none in
      over_expression e (not-false (is_over scope groups e) (no_fault (true && not (is_over scope groups e)) at kind.Grouping parts.0))
  form_over at form.CountRows none = refl
  form_over at (form.Count c) none = refl
  form_over at (form.Sum c) none = refl
  form_over at (form.Min c) none = refl
  form_over at (form.Max c) none = refl

  pub items_over : (items : List SelectItem) → AllByRecursion (λ (item : SelectItem). item_faults scope groups true item ≡ []) items → list_all (item_is_over places) (map (item_output scope) items) ≡ true
  items_over items none =
      list_all_mapped (item_is_over places) (item_output scope) items
      (weaker (λ (item : SelectItem). item_faults scope groups true item ≡ []) (λ (item : SelectItem). item_is_over places (item_output scope item) ≡ true) (λ item h. form_over item.at item.form h) items none)

  -- ORDER BY
  by_over : (count : ℕ) (b : OrderBy) → by_faults scope groups true count b ≡ [] → sort_is_over places (by_of scope b) ≡ true
  by_over count (by.Column c) none =
      let grouped = is_grouped_by groups (column_found scope c) in
      let parts = both_empty (column_faults scope c) (fault_if (true && not grouped) (column_at c) kind.Grouping) none in
      among scope group (column_found scope c) (not-false grouped (no_fault (true && not grouped) (column_at c) kind.Grouping parts.1))
  by_over count (by.Number at n) none = refl

  pub sorts_over : (count : ℕ) (order : List OrderItem) → AllByRecursion (λ (o : OrderItem). order_faults scope groups true count o ≡ []) order
      → list_all (λ (s : Sort). sort_is_over places s.by) (map (sort_of scope) order) ≡ true
  sorts_over count order none =
      list_all_mapped (λ (s : Sort). sort_is_over places s.by) (sort_of scope) order
      (weaker (λ (o : OrderItem). order_faults scope groups true count o ≡ []) (λ (o : OrderItem). sort_is_over places (by_of scope o.by) ≡ true) (λ o h. by_over count o.by h) order none)

  -- `*`: each column of the items is one of GROUP BY
  column_over : (i k : ℕ) (cs : List Column) (j : ℕ) (c : Column) → columns_are_grouped groups i k cs ≡ true → slice_get cs j ≡ Some c → (at : ℕ) → place_at (k + j) scope i ≡ at → is_among places at ≡ true
  column_over i k [] j c e get at is = absurd cc
  column_over i k (d ∷ ds) zero c e get at is =
      let s : Spot = record { item = i; column = k; kind = d.kind } in
      let here = (and_parts (is_grouped_by groups (One s)) (columns_are_grouped groups i (k + 1) ds) e).0 in
      let start : k ≡ k + 0 = omega arith in
      subst (λ (n : ℕ). is_among places n ≡ true) (ap (λ (n : ℕ). place_at n scope i) start ∙ is) (among scope group (One s) here)
  column_over i k (d ∷ ds) (suc j) c e get at is =
      let s : Spot = record { item = i; column = k; kind = d.kind } in
      let rest = (and_parts (is_grouped_by groups (One s)) (columns_are_grouped groups i (k + 1) ds) e).1 in
      let next : (k + 1) + j ≡ k + suc j = omega arith in
      column_over i (k + 1) ds j c rest get at (ap (λ (n : ℕ). place_at n scope i) next ∙ is)

place_behind : (front : List Source) (s : Source) (rest : List Source) (i column : ℕ) → i ≡ length front → place_at column (front ++ s ∷ rest) i ≡ length (columns_in front) + column
place_behind [] s rest i column e =
    let none : (i == 0) ≡ true = grind (arith, nat_tests, e) in
    let least : column ≡ 0 + column = omega arith in
    rw none least
place_behind (x ∷ front) s rest i column e =
    let some : (i == 0) ≡ false = grind (arith, nat_tests, e) in
    let before : i - 1 ≡ length front = omega (arith, e) in
    let deeper = place_behind front s rest (i - 1) column before in
    let long = length-append x.columns (columns_in front) in
    let sum : length x.columns + (length (columns_in front) + column) ≡ length (x.columns ++ columns_in front) + column = omega (arith, long) in
    rw (some, deeper) sum

below : (b : Bool) (m n : ℕ) → nat_lt m n ≡ b → (m < n) ⊎ (n ≤ m)
below true m n e = inl (grind (arith, nat_tests))
below false m n e = inr (grind (arith, nat_tests))

module _ (scope : List Source) (group : List ColumnName) where
  sources_over : (front sources : List Source) (i : ℕ) → scope ≡ front ++ sources → i ≡ length front → all_are_grouped (grouping scope group) i sources ≡ true
      → (at : ℕ) → at < length (columns_in sources) → is_among (map (place_of scope) group) (length (columns_in front) + at) ≡ true
  sources_over front [] i whole here e at there = absurd (omega arith)
  sources_over front (s ∷ sources) i whole here e at there =
      let parts = and_parts (columns_are_grouped (grouping scope group) i 0 s.columns) (all_are_grouped (grouping scope group) (i + 1) sources) e in
      elim (below (nat_lt at (length s.columns)) at (length s.columns) refl) [
        | inl l ↦
            let c = some_at s.columns at l in
            let first : 0 + at ≡ at = omega arith in
            column_over scope group i 0 s.columns at c.0 parts.0 c.1 (length (columns_in front) + at)
            (ap (λ (n : ℕ). place_at n scope i) first ∙ ap (λ (l : List Source). place_at at l i) whole ∙ place_behind front s sources i at here)
        | inr g ↦
            let long = length-append s.columns (columns_in sources) in
            let longer = length-append front (s ∷ []) in
            let wider = ap (λ (l : List Column). length l) (columns_push front s) ∙ length-append (columns_in front) s.columns in
            let rest = sources_over (front ++ s ∷ []) sources (i + 1) (whole ∙ sym (append_assoc front (s ∷ []) sources)) (omega (arith, longer, here)) parts.1 (at - length s.columns) (omega (arith, long)) in
            let same : length (columns_in (front ++ s ∷ [])) + (at - length s.columns) ≡ length (columns_in front) + at = omega (arith, wider) in
            subst (λ (n : ℕ). is_among (map (place_of scope) group) n ≡ true) same rest
      ]

  star_over : (at count : ℕ) → ((n : ℕ) → n < at + count → is_among (map (place_of scope) group) n ≡ true) → list_all (item_is_over (map (place_of scope) group)) (columns_from at count) ≡ true
  star_over at zero h = refl
  star_over at (suc count) h =
      let places = map (place_of scope) group in
      and_from (queries.is_over places (bound.Place at)) (list_all (item_is_over places) (columns_from (at + 1) count)) (over_place places at ∙ h at (omega arith)) (star_over (at + 1) count (λ n l. h n (omega arith)))

  pub all_over : all_are_grouped (grouping scope group) 0 scope ≡ true → list_all (item_is_over (map (place_of scope) group)) (columns_from 0 (length (columns_in scope))) ≡ true
  all_over e =
      star_over 0 (length (columns_in scope))
      (λ n l. let first : 0 + n ≡ n = omega arith in subst (λ (m : ℕ). is_among (map (place_of scope) group) m ≡ true) first (sources_over [] scope 0 refl refl e n (omega arith)))

-- a statement makes groups where its bound form does
form_aggregates : (scope : List Source) (f : SelectForm) → is_aggregate (output_of scope f) ≡ scoped.is_aggregate f
form_aggregates scope (form.Expr e) = refl
form_aggregates scope form.CountRows = refl
form_aggregates scope (form.Count c) = refl
form_aggregates scope (form.Sum c) = refl
form_aggregates scope (form.Min c) = refl
form_aggregates scope (form.Max c) = refl

items_aggregate : (scope : List Source) (items : List SelectItem) → list_any is_aggregate (map (item_output scope) items) ≡ list_any (λ (item : SelectItem). scoped.is_aggregate item.form) items
items_aggregate scope [] = refl
items_aggregate scope (item ∷ items) =
    ap (λ (b : Bool). b || list_any is_aggregate (map (item_output scope) items)) (form_aggregates scope item.form)
    ∙ ap (λ (b : Bool). scoped.is_aggregate item.form || b) (items_aggregate scope items)

star_aggregates : (at count : ℕ) → list_any is_aggregate (columns_from at count) ≡ false
star_aggregates at zero = refl
star_aggregates at (suc count) = star_aggregates (at + 1) count

outputs_aggregate : (scope : List Source) (items : Option (List SelectItem)) → list_any is_aggregate (outputs_of scope items) ≡ has_aggregate items
outputs_aggregate scope None = star_aggregates 0 (length (columns_in scope))
outputs_aggregate scope (Some items) = items_aggregate scope items

pub makes_same : (scope : List Source) (items : Option (List SelectItem)) (group : List ColumnName) → makes_groups (map (place_of scope) group) (list_any is_aggregate (outputs_of scope items)) ≡ is_grouped items group
makes_same scope items [] = outputs_aggregate scope items
makes_same scope items (c ∷ cs) = refl
