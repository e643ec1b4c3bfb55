-- Of the rows of a group a bound query tells the same, whichever stands first.
use Rattle.std.proofs.Common.{◌≡◌, ℕ, ◌==◌, Bool, true, false, List, [], ◌∷◌, Option, Some, map, refl, sym, ap, subst, ◌∙◌}
use Rattle.std.specs.Prelude.{◌||◌}
use Rattle.std.specs.List.{AllByRecursion, list_all}
use Rattle.std.proofs.lemmas.Bool.{and_parts, eqb-true}
use Rattle.tl_values.specs.declared.value.Value.{Value}
use Rattle.tl_values.specs.Value.{value_at, values_at}
use Rattle.tl_schema.specs.declared.catalog.Catalog.{Catalog}
use Rattle.tl_algebra.specs.declared.expression.Expression.{Expression, roll-Expression}
use Rattle.tl_algebra.specs.declared.expression.Expression.TheOpen.{Expression-F}
use Rattle.tl_algebra.specs.declared.expression.Expression.TheOpen as layer
use Rattle.tl_algebra.specs.declared.expression.Expression.TheFolds.{fold-roll-Expression, fold_out-Expression, ind-Expression, map-Expression}
use Rattle.tl_algebra.specs.declared.expression.Expression.TheVariants as expression
use Rattle.tl_algebra.specs.declared.expression.Expression.TheVariants.{outs-Place}
use Rattle.tl_algebra.specs.declared.expression.Step.{Step}
use Rattle.tl_algebra.specs.declared.query.Output.{Output}
use Rattle.tl_algebra.specs.declared.query.Output.TheVariants as output
use Rattle.tl_algebra.specs.declared.query.Query.{Query}
use Rattle.tl_algebra.specs.declared.query.Sort.{Sort}
use Rattle.tl_algebra.specs.declared.query.SortBy.{SortBy}
use Rattle.tl_algebra.specs.declared.query.SortBy.TheVariants as by
use Rattle.tl_algebra.specs.Order.{ItemRestsOn, RestsOn, SortRestsOn, SuitsGroups}
use Rattle.tl_algebra.specs.Steps.{step_value}
use Rattle.tl_algebra.specs.Value.{chained, value_layer, value_of}
use Rattle.tl_isolation.specs.Queries.{SuitsQuery, group_layer, is_among, is_over, item_is_over, sort_is_over}

abbrev Rests : Expression → Type 0
Rests e = (places : List ℕ) → is_over places e ≡ true → RestsOn places (value_of e)

abbrev Rested : Type 0
Rested = (e : Expression) × Rests e

abbrev plain : Step Rested → Step Expression
plain step = record { by = step.by; of = step.of.0 }

abbrev step_over : List ℕ → Step Expression → Step Bool
step_over places step = record { by = step.by; of = is_over places step.of }

over_of_layer : (places : List ℕ) (l : Expression-F Expression) → is_over places (roll-Expression l) ≡ group_layer places (map-Expression Expression Bool (is_over places) l)
unfolding is_over
over_of_layer places l = fold-roll-Expression Bool (group_layer places) l

value_of_roll : (row : List Value) (l : Expression-F Expression) → value_of (roll-Expression l) row ≡ value_layer row (map-Expression Expression (Option Value) (λ e. value_of e row) l)
unfolding value_of
value_of_roll row l = fold-roll-Expression (Option Value) (value_layer row) l

-- a column is over itself alone
pub over_place : (places : List ℕ) (at : ℕ) → is_over places (expression.Place at) ≡ is_among places at
unfolding is_over
over_place places at =
    fold_out-Expression Bool (group_layer places) (expression.Place at)
    ∙ ap (λ (l : Expression-F Expression). group_layer places (map-Expression Expression Bool (is_over places) l)) (outs-Place at)

module _ (a b : List Value) where
  among_same : (places : List ℕ) (at : ℕ) → values_at places a ≡ values_at places b → is_among places at ≡ true → value_at a at ≡ value_at b at
  among_same [] at same h = absurd cc
  among_same (place ∷ places) at same h =
      let first : value_at a place ≡ value_at b place = cc in
      let rest : values_at places a ≡ values_at places b = cc in
      elim (place == at) as (λ t. (place == at) ≡ t → (t || is_among places at) ≡ true → value_at a at ≡ value_at b at) [
        | true ↦ λ e i. subst (λ (n : ℕ). value_at a n ≡ value_at b n) (eqb-true place at e) first
        | false ↦ λ e i. among_same places at rest i
      ] refl h

  module _ (places : List ℕ) (same : values_at places a ≡ values_at places b) where
    steps_same : (steps : List (Step Rested)) → list_all (λ (s : Step Bool). s.of) (map (step_over places) (map plain steps)) ≡ true
        → map (step_value a) (map plain steps) ≡ map (step_value b) (map plain steps)
    steps_same [] h = refl
    steps_same (step ∷ steps) h =
        let parts = and_parts (is_over places step.of.0) (list_all (λ (s : Step Bool). s.of) (map (step_over places) (map plain steps))) h in
        ap (λ (v : Option Value). (let s : Step (Option Value) = record { by = step.by; of = v } in s) ∷ map (step_value a) (map plain steps)) (step.of.1 places parts.0 a b same)
        ∙ ap (λ (l : List (Step (Option Value))). step_value b (plain step) ∷ l) (steps_same steps parts.1)

    layer_same : (y : Expression-F Rested) → group_layer places (map-Expression Expression Bool (is_over places) (map-Expression Rested Expression (λ e. e.0) y)) ≡ true
        → value_layer a (map-Expression Expression (Option Value) (λ e. value_of e a) (map-Expression Rested Expression (λ e. e.0) y))
        ≡ value_layer b (map-Expression Expression (Option Value) (λ e. value_of e b) (map-Expression Rested Expression (λ e. e.0) y))
    layer_same (layer.Place at) h = ap Some (among_same places at same h)
    layer_same (layer.Literal v) h = refl
    layer_same (layer.Chain first steps) h =
        let parts = and_parts (is_over places first.0) (list_all (λ (s : Step Bool). s.of) (map (step_over places) (map plain steps))) h in
        ap (λ (v : Option Value). chained v (map (step_value a) (map plain steps))) (first.1 places parts.0 a b same)
        ∙ ap (λ (l : List (Step (Option Value))). chained (value_of first.0 b) l) (steps_same steps parts.1)

-- an expression over columns of GROUP BY alone has one value for rows with the same values there
pub rests : (e : Expression) → Rests e
rests = ind-Expression Rests (λ x y is places h a b same.
    value_of_roll a x
    ∙ subst
    (λ (l : Expression-F Expression). value_layer a (map-Expression Expression (Option Value) (λ e. value_of e a) l) ≡ value_layer b (map-Expression Expression (Option Value) (λ e. value_of e b) l))
    is
    (layer_same a b places same y (subst (λ (l : Expression-F Expression). group_layer places (map-Expression Expression Bool (is_over places) l) ≡ true) (sym is) (sym (over_of_layer places x) ∙ h)))
    ∙ sym (value_of_roll b x))

item_rests : (places : List ℕ) (o : Output) → item_is_over places o ≡ true → ItemRestsOn places o
item_rests places (output.Expression e) h = rests e places h
item_rests places output.CountRows h = tt
item_rests places (output.Count at) h = tt
item_rests places (output.Sum at) h = tt
item_rests places (output.Least at) h = tt
item_rests places (output.Greatest at) h = tt

sort_rests : (places : List ℕ) (k : SortBy) → sort_is_over places k ≡ true → SortRestsOn places k
sort_rests places (by.Place at) h = λ a b same. among_same a b places at same h
sort_rests places (by.Printed column) h = tt

each_rests : {A : Type 0} (test : A → Bool) (P : A → Type 0) → ((x : A) → test x ≡ true → P x) → (xs : List A) → list_all test xs ≡ true → AllByRecursion P xs
each_rests test P f [] h = tt
each_rests test P f (x ∷ xs) h = let parts = and_parts (test x) (list_all test xs) h in (f x parts.0, each_rests test P f xs parts.1)

-- so a bound query tells the same of its tables' rows in any order
pub suits_groups : (catalog : Catalog) (query : Query) → SuitsQuery catalog query → SuitsGroups query
suits_groups catalog query suits makes =
    let grouped = suits.grouped makes in (
      each_rests (item_is_over query.group) (ItemRestsOn query.group) (item_rests query.group) query.outputs grouped.0,
      each_rests (λ (s : Sort). sort_is_over query.group s.by) (λ (s : Sort). SortRestsOn query.group s.by) (λ s h. sort_rests query.group s.by h) query.sort grouped.1,
    )
