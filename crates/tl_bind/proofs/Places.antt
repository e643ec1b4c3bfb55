-- The place of a column that was found is one of the columns, of that type.
use Rattle.std.proofs.Common.{◌≡◌, ℕ, zero, suc, ◌⊎◌, inl, inr, ◌+◌, ◌-◌, ◌<◌, ◌≤◌, ◌==◌, Bool, true, false, List, [], ◌∷◌, ◌++◌, length, get_or, drop, Option, Some, None, if◌then◌else◌, refl, ap, sym, subst, ◌∙◌, arith, length-append}
use Rattle.std.specs.Prelude.{slice_get}
use Rattle.std.proofs.lemmas.Option.{slice_get_within}
use Rattle.tl_values.specs.declared.value.Kind.{Kind}
use Rattle.tl_schema.specs.declared.catalog.Column.{Column}
use Rattle.tl_grammar.specs.declared.name.ColumnName.{ColumnName}
use Rattle.tl_grammar.specs.declared.name.Name.{Name}
use Rattle.tl_scope.specs.declared.found.Found.{Found}
use Rattle.tl_scope.specs.declared.found.Found.TheVariants.{NoTable, NoColumn, One, Several}
use Rattle.tl_scope.specs.declared.found.Spot.{Spot}
use Rattle.tl_lemmas.proofs.Lists.{drop_read}
use Rattle.tl_scope.specs.Change.{column_kind}
use Rattle.tl_scope.specs.Scope.{Source, also, column_found, column_place, found_by, in_source, in_source_called, in_sources, same, spot_at, spotted}
use Rattle.tl_bind.specs.Place.{columns_in, place_at}

get_front : (columns more : List Column) (at : ℕ) (c : Column) → slice_get columns at ≡ Some c → slice_get (columns ++ more) at ≡ Some c
get_front [] more at c e = absurd cc
get_front (x ∷ xs) more zero c e = e
get_front (x ∷ xs) more (suc at) c e = get_front xs more at c e

get_back : (columns more : List Column) (at : ℕ) → slice_get (columns ++ more) (length columns + at) ≡ slice_get more at
get_back [] more at = grind arith
get_back (x ∷ xs) more at = let e : length (x ∷ xs) + at ≡ suc (length xs + at) = omega arith in rw e (get_back xs more at)

-- the spot is in one of the items, of which the first is the i-th, and its column has its type
abbrev IsSpot : ℕ → List Source → Spot → Type 0
IsSpot i items s = (i ≤ s.item) × (column_kind (slice_get (columns_in items) (place_at s.column items (s.item - i))) ≡ Some s.kind)

spot_here : (i at : ℕ) (columns : List Column) (o : Option Column) (s : Spot) → slice_get columns at ≡ o → spot_at i at o ≡ One s →
    (s.item ≡ i) × ((more : List Column) → column_kind (slice_get (columns ++ more) s.column) ≡ Some s.kind)
spot_here i at columns None s get e = absurd cc
spot_here i at columns (Some c) s get e =
    let made : Spot = record { item = i; column = at; kind = c.kind } in
    let is : made ≡ s = cc in
    subst (λ (t : Spot). (t.item ≡ i) × ((more : List Column) → column_kind (slice_get (columns ++ more) t.column) ≡ Some t.kind)) is (refl, λ more. ap column_kind (get_front columns more at c get))

spot_from : (i : ℕ) (columns : List Column) (o : Option ℕ) (s : Spot) → spotted i columns o ≡ One s →
    (s.item ≡ i) × ((more : List Column) → column_kind (slice_get (columns ++ more) s.column) ≡ Some s.kind)
spot_from i columns None s e = absurd cc
spot_from i columns (Some at) s e = spot_here i at columns (slice_get columns at) s refl e

item_spot : (name : List ℕ) (i : ℕ) (item : Source) (items : List Source) (s : Spot) → in_source name i item ≡ One s → IsSpot i (item ∷ items) s
item_spot name i item items s e =
    let p = spot_from i item.columns (column_place name item.columns) s e in
    let le : i ≤ s.item = omega (arith, p.0) in
    let none : s.item - i ≡ 0 = omega (arith, p.0) in
    (le, rw none (p.1 (columns_in items)))

later_spot : (i : ℕ) (item : Source) (items : List Source) (s : Spot) → IsSpot (i + 1) items s → IsSpot i (item ∷ items) s
later_spot i item items s h =
    let le : i ≤ s.item = omega (arith, h.0) in
    let some : (s.item - i == 0) ≡ false = grind (arith, h.0) in
    let next : (s.item - i) - 1 ≡ s.item - (i + 1) = omega arith in
    (le, rw (some, next) (ap column_kind (get_back item.columns (columns_in items) (place_at s.column items (s.item - (i + 1)))) ∙ h.1))

also_one : (a b : Found) (s : Spot) → also a b ≡ One s → (a ≡ One s) ⊎ (b ≡ One s)
also_one NoTable NoTable s e = absurd cc
also_one NoTable NoColumn s e = absurd cc
also_one NoTable (One b) s e = absurd cc
also_one NoTable Several s e = absurd cc
also_one NoColumn NoTable s e = absurd cc
also_one NoColumn NoColumn s e = absurd cc
also_one NoColumn (One b) s e = inr e
also_one NoColumn Several s e = absurd cc
also_one (One a) NoTable s e = absurd cc
also_one (One a) NoColumn s e = inl e
also_one (One a) (One b) s e = absurd cc
also_one (One a) Several s e = absurd cc
also_one Several NoTable s e = absurd cc
also_one Several NoColumn s e = absurd cc
also_one Several (One b) s e = absurd cc
also_one Several Several s e = absurd cc

spots_of_name : (name : List ℕ) (i : ℕ) (items : List Source) (s : Spot) → in_sources name i items ≡ One s → IsSpot i items s
spots_of_name name i [] s e = absurd cc
spots_of_name name i (item ∷ items) s e =
    elim (also_one (in_source name i item) (in_sources name (i + 1) items) s e) [
      | inl h ↦ item_spot name i item items s h
      | inr h ↦ later_spot i item items s (spots_of_name name (i + 1) items s h)
    ]

spot_if : (name : List ℕ) (i : ℕ) (item : Source) (items : List Source) (s : Spot) (b : Bool) (later : Found) → (later ≡ One s → IsSpot (i + 1) items s) →
    (if b then in_source name i item else later) ≡ One s → IsSpot i (item ∷ items) s
spot_if name i item items s true later go e = item_spot name i item items s e
spot_if name i item items s false later go e = later_spot i item items s (go e)

spots_called : (table name : List ℕ) (i : ℕ) (items : List Source) (s : Spot) → in_source_called table name i items ≡ One s → IsSpot i items s
spots_called table name i [] s e = absurd cc
spots_called table name i (item ∷ items) s e =
    spot_if name i item items s (same item.name table) (in_source_called table name (i + 1) items) (spots_called table name (i + 1) items s) e

spot_by : (scope : List Source) (table : Option Name) (column : Name) (s : Spot) → found_by scope table column ≡ One s → IsSpot 0 scope s
spot_by scope None column s e = spots_of_name column.text 0 scope s e
spot_by scope (Some table) column s e = spots_called table.text column.text 0 scope s e

pub place_has_kind : (scope : List Source) (c : ColumnName) (s : Spot) → column_found scope c ≡ One s → column_kind (slice_get (columns_in scope) (place_at s.column scope s.item)) ≡ Some s.kind
place_has_kind scope c s e =
    let whole : s.item - 0 ≡ s.item = omega arith in
    let h = spot_by scope c.table c.column s e in
    rw whole at h.1

within_by : (columns : List Column) (at : ℕ) (k : Kind) (o : Option Column) → slice_get columns at ≡ o → column_kind o ≡ Some k → at < length columns
within_by columns at k None get e = absurd cc
within_by columns at k (Some c) get e = slice_get_within columns at c get

pub place_within : (scope : List Source) (c : ColumnName) (s : Spot) → column_found scope c ≡ One s → length (columns_in scope) ≤ 256 → place_at s.column scope s.item < 256
place_within scope c s e few =
    omega (arith, few, within_by (columns_in scope) (place_at s.column scope s.item) s.kind (slice_get (columns_in scope) (place_at s.column scope s.item)) refl (place_has_kind scope c s e))

pub place_least : (column : ℕ) (items : List Source) (i : ℕ) → column ≤ place_at column items i
place_least column [] i = omega arith
place_least column (item ∷ items) i =
    elim (i == 0) as (λ b. column ≤ (if b then column else length item.columns + place_at column items (i - 1))) [
      | true ↦ omega arith
      | false ↦ omega (arith, place_least column items (i - 1))
    ]

if_more : (b : Bool) (a l p n : ℕ) → (if b then (a + n) else (l + (p + n))) ≡ (if b then a else (l + p)) + n
if_more true a l p n = refl
if_more false a l p n = omega arith

place_more : (column n : ℕ) (items : List Source) (i : ℕ) → place_at (column + n) items i ≡ place_at column items i + n
place_more column n [] i = refl
place_more column n (item ∷ items) i =
    ap (λ p. if i == 0 then column + n else length item.columns + p) (place_more column n items (i - 1))
    ∙ if_more (i == 0) column (length item.columns) (place_at column items (i - 1)) n

pub place_next : (column : ℕ) (from : List Source) (at i : ℕ) (x : Source) → at < length from → x ≡ get_or from at x → (i == 0) ≡ false →
    place_at (column + length x.columns) (drop (at + 1) from) (i - 1) ≡ place_at column (drop at from) i
place_next column from at i x h e ne =
    let len = length x.columns in
    let p = place_at column (drop (at + 1) from) (i - 1) in
    let turned : p + len ≡ len + p = omega arith in
    let here : len + p ≡ place_at column (x ∷ drop (at + 1) from) i = ap (λ (b : Bool). if b then column else len + p) (sym ne) in
    place_more column len (drop (at + 1) from) (i - 1) ∙ turned ∙ here
    ∙ ap (λ (l : List Source). place_at column l i) (sym (drop_read from at x h e))

-- the columns of the front are no more than all
pub front_is_fewer : (front back : List Source) → length (columns_in front) ≤ length (columns_in (front ++ back))
front_is_fewer [] back = omega arith
front_is_fewer (source ∷ sources) back =
    omega (arith, length-append source.columns (columns_in sources), length-append source.columns (columns_in (sources ++ back)), front_is_fewer sources back)

pub width_next : (from : List Source) (at : ℕ) (x : Source) → at < length from → x ≡ get_or from at x → length (columns_in (drop at from)) ≡ length x.columns + length (columns_in (drop (at + 1) from))
width_next from at x h e = ap (λ (l : List Source). length (columns_in l)) (drop_read from at x h e) ∙ length-append x.columns (columns_in (drop (at + 1) from))
