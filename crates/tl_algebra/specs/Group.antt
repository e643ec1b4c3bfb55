-- The groups that a SELECT makes of its rows.
use Rattle.std.specs.Prelude.{ℕ, Bool, true, false, not, List, [], ◌∷◌, map, filter}
use Rattle.std.specs.List.{list_any}
use Rattle.std.specs.Ordering.{is_eq}
use Rattle.tl_values.specs.declared.value.Value.{Value}
use Rattle.tl_values.specs.Value.{row_cmp, values_at}
use Rattle.tl_algebra.specs.declared.query.Output.{Output}
use Rattle.tl_algebra.specs.declared.query.Output.TheVariants as output
use Rattle.tl_algebra.specs.declared.query.Query.{Query}

-- the first of each that are the same
abbrev pub distinct : {A : Type 0} → (A → A → Bool) → List A → List A
distinct same [] = []
distinct same (x ∷ xs) = x ∷ filter (λ y. not (same x y)) (distinct same xs)

-- NULL is the same as NULL
abbrev pub same_row : List Value → List Value → Bool
same_row a b = is_eq (row_cmp a b)

-- the rows with each list of values at these places, in the order in which the lists first appear
unfoldable pub grouped : List ℕ → List (List Value) → List (List (List Value))
grouped places rows = map (λ values. filter (λ row. same_row values (values_at places row)) rows) (distinct same_row (map (values_at places) rows))

abbrev pub is_aggregate : Output → Bool
is_aggregate (output.Expression e) = false
is_aggregate output.CountRows = true
is_aggregate (output.Count at) = true
is_aggregate (output.Sum at) = true
is_aggregate (output.Least at) = true
is_aggregate (output.Greatest at) = true

-- with GROUP BY a group for each list of group values, with aggregates alone one of all rows, and else one for each row
abbrev pub groups_by : List ℕ → Bool → List (List Value) → List (List (List Value))
groups_by [] true rows = rows ∷ []
groups_by [] false rows = map (λ row. row ∷ []) rows
groups_by (place ∷ places) aggregates rows = grouped (place ∷ places) rows

abbrev pub groups : Query → List (List Value) → List (List (List Value))
groups q rows = groups_by q.group (list_any is_aggregate q.outputs) rows
