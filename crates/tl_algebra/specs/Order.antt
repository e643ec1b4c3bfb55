-- A query tells the same of its tables' rows in any order.
use Rattle.std.specs.Prelude.{◌≡◌, ℕ, Bool, true, List, [], ◌∷◌, Result}
use Rattle.std.specs.List.{AllByRecursion, list_any}
use Rattle.std.specs.List.Sorted.{IsPermutation}
use Rattle.tl_values.specs.declared.value.Value.{Value}
use Rattle.tl_values.specs.Value.{value_at, values_at}
use Rattle.tl_algebra.specs.declared.fault.ValueFault.{ValueFault}
use Rattle.tl_algebra.specs.declared.query.Output.{Output}
use Rattle.tl_algebra.specs.declared.query.Output.TheVariants as output
use Rattle.tl_algebra.specs.declared.query.Query.{Query}
use Rattle.tl_algebra.specs.declared.query.Sort.{Sort}
use Rattle.tl_algebra.specs.declared.query.SortBy.{SortBy}
use Rattle.tl_algebra.specs.declared.query.SortBy.TheVariants as by
use Rattle.tl_algebra.specs.Group.{is_aggregate}
use Rattle.tl_algebra.specs.Select.{Tells}
use Rattle.tl_algebra.specs.Value.{value_of}

-- rows with the same values at these places are given the same
abbrev pub RestsOn : {A : Type 0} → List ℕ → (List Value → A) → Type 0
RestsOn places f = (a b : List Value) → values_at places a ≡ values_at places b → f a ≡ f b

abbrev pub ItemRestsOn : List ℕ → Output → Type 0
ItemRestsOn places (output.Expression e) = RestsOn places (value_of e)
ItemRestsOn places output.CountRows = Unit {0}
ItemRestsOn places (output.Count at) = Unit {0}
ItemRestsOn places (output.Sum at) = Unit {0}
ItemRestsOn places (output.Least at) = Unit {0}
ItemRestsOn places (output.Greatest at) = Unit {0}

abbrev pub SortRestsOn : List ℕ → SortBy → Type 0
SortRestsOn places (by.Place at) = RestsOn places (λ row. value_at row at)
SortRestsOn places (by.Printed column) = Unit {0}

-- whether a group may have more than one row
abbrev pub makes_groups : List ℕ → Bool → Bool
makes_groups [] aggregates = aggregates
makes_groups (place ∷ places) aggregates = true

-- there an item that is no aggregate, and a column of ORDER BY, rest on the columns of GROUP BY alone, as in every bound query
abbrev pub SuitsGroups : Query → Type 0
SuitsGroups q = makes_groups q.group (list_any is_aggregate q.outputs) ≡ true
    → AllByRecursion (ItemRestsOn q.group) q.outputs × AllByRecursion (λ (sort : Sort). SortRestsOn q.group sort.by) q.sort

-- each table has the rows of the other, in any order
abbrev pub ArePermuted : List (List (List Value)) → List (List (List Value)) → Type 0
ArePermuted [] [] = Unit {0}
ArePermuted [] (other ∷ others) = ⊥
ArePermuted (table ∷ tables) [] = ⊥
ArePermuted (table ∷ tables) (other ∷ others) = IsPermutation table other × ArePermuted tables others

abbrev pub SelectKnowsNoOrder : Type 0
SelectKnowsNoOrder = (q : Query) (tables others : List (List (List Value))) (result : Result (List (List Value)) ValueFault)
    → SuitsGroups q → ArePermuted tables others → Tells q others result → Tells q tables result
