-- What a SELECT prints.
use Rattle.std.specs.Prelude.{◌≡◌, ℕ, Bool, ◌&&◌, List, [], ◌∷◌, ◌++◌, map, filter, Option, Some, None, Result, Ok, Err}
use Rattle.std.specs.List.{flat_map, list_all}
use Rattle.std.specs.Global.{Vec}
use Rattle.std.specs.List.Sorted.{IsPermutation, IsSorted}
use Rattle.tl_values.specs.declared.value.Value.{Value}
use Rattle.tl_algebra.specs.declared.fault.ValueFault.{ValueFault}
use Rattle.tl_algebra.specs.declared.line.Line.{Line}
use Rattle.tl_algebra.specs.declared.query.Output.{Output}
use Rattle.tl_algebra.specs.declared.query.Output.TheVariants as output
use Rattle.tl_algebra.specs.declared.query.Query.{Query}
use Rattle.tl_algebra.specs.declared.query.Sort.{Sort}
use Rattle.tl_algebra.specs.Aggregate.{count_of, greatest_of, known_at, least_of, numbers, sum_of}
use Rattle.tl_algebra.specs.Group.{groups}
use Rattle.tl_algebra.specs.Sorting.{key_of, limited, line_cmp}
use Rattle.tl_algebra.specs.Truth.{lets_through}
use Rattle.tl_algebra.specs.Value.{Fails, value_of}

-- each row of the first table before each row of the product of the others
abbrev pub product : List (List (List Value)) → List (List Value)
product [] = [] ∷ []
product (table ∷ tables) = flat_map (λ front. map (λ back. front ++ back) (product tables)) table

-- whether each ON and the WHERE are true
abbrev pub passes : Query → List Value → Bool
passes q row = list_all (λ join. lets_through join.on row) q.from && lets_through q.filter row

abbrev pub selected : Query → List (List (List Value)) → List (List Value)
selected q tables = filter (passes q) (product tables)

abbrev pub before : {A : Type 0} → Option A → Option (List A) → Option (List A)
before None ys = None
before (Some y) None = None
before (Some y) (Some ys) = Some (y ∷ ys)

-- what f gives of each, and nothing where it gives nothing of one
abbrev pub each : {A B : Type 0} → (A → Option B) → List A → Option (List B)
each f [] = Some []
each f (x ∷ xs) = before (f x) (each f xs)

-- a call gave all of these, or failed where there is nothing
abbrev pub GivesAll : {A : Type 0} → Result (Vec A) ValueFault → Option (List A) → Type 0
GivesAll (Ok xs) found = found ≡ Some xs.items
GivesAll (Err e) found = Fails e found

-- the first row, and an empty one where there is none
abbrev pub first_of : List (List Value) → List Value
first_of [] = []
first_of (row ∷ rows) = row

-- what a printed column shows of a group
abbrev pub item : List (List Value) → Output → Option Value
item rows (output.Expression e) = value_of e (first_of rows)
item rows output.CountRows = Some (count_of rows)
item rows (output.Count at) = Some (count_of (known_at at rows))
item rows (output.Sum at) = sum_of (numbers (known_at at rows))
item rows (output.Least at) = Some (least_of (known_at at rows))
item rows (output.Greatest at) = Some (greatest_of (known_at at rows))

-- a printed row, with the values of the ORDER BY items
abbrev pub with_keys : List Sort → List Value → Option (List Value) → Option Line
with_keys sorts first None = None
with_keys sorts first (Some printed) = Some (record { keys = map (λ (sort : Sort). key_of first printed sort.by) sorts; printed = printed })

-- the line of a group; nothing where an item overflows
abbrev pub line_of : Query → List (List Value) → Option Line
line_of q rows = with_keys q.sort (first_of rows) (each (item rows) q.outputs)

-- the line of each group; nothing where one overflows
unfoldable pub lines_of : Query → List (List Value) → Option (List Line)
lines_of q rows = each (line_of q) (groups q rows)

-- these lines are printed so: sorted, and then the first of them
pub record Prints (q : Query) (all : List Line) (answer : List (List Value)) : Type 0 where
  pub ranked : List Line
  pub permutation : IsPermutation all ranked
  pub sorted : IsSorted (line_cmp q.sort) ranked
  pub shown : answer ≡ limited q.limit (map (λ (line : Line). line.printed) ranked)

-- what the query tells of these tables: rows, or that a line overflows, whatever LIMIT says; want of memory says nothing
abbrev pub Tells : Query → List (List (List Value)) → Result (List (List Value)) ValueFault → Type 0
Tells q tables (Ok answer) = (all : List Line) × (lines_of q (selected q tables) ≡ Some all) × Prints q all answer
Tells q tables (Err e) = Fails e (lines_of q (selected q tables))
