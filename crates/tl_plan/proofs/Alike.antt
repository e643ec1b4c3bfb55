-- A condition that compares what is of one kind compares with values.
use Rattle.std.proofs.Common.{◌≡◌, ℕ, ◌==◌, Bool, true, false, not, ◌&&◌, ◌||◌, if◌then◌else◌, List, [], ◌∷◌, Option, Some, None, filter_map, map, refl, sym, ap, subst, ◌∙◌}
use Rattle.std.specs.List.{AllByRecursion, list_all, list_any}
use Rattle.std.proofs.lemmas.Bool.{and_parts}
use Rattle.std.proofs.lemmas.Option.{same_Some}
use Rattle.tl_values.specs.declared.value.Comparison.{Comparison}
use Rattle.tl_values.specs.declared.value.Kind.{Kind}
use Rattle.tl_values.specs.declared.value.Value.{Value}
use Rattle.tl_values.specs.Key.{IsValue}
use Rattle.tl_values.specs.Value.{is_null}
use Rattle.tl_schema.specs.declared.catalog.Column.{Column}
use Rattle.tl_algebra.specs.declared.condition.Condition.{Condition, out-Condition}
use Rattle.tl_algebra.specs.declared.condition.Condition.TheOpen.{Condition-F}
use Rattle.tl_algebra.specs.declared.condition.Condition.TheOpen as layer
use Rattle.tl_algebra.specs.declared.condition.Condition.TheFolds.{map-Condition}
use Rattle.tl_algebra.specs.declared.condition.Side.{Side}
use Rattle.tl_algebra.specs.declared.condition.Side.TheVariants as side
use Rattle.tl_isolation.specs.Kinds.{are_alike, compares_alike, condition_fits, condition_layer, every_kind, is_of_kind, is_value, side_gives}
use Rattle.tl_isolation.proofs.Computed.{alike_of_layer, value_is}
use Rattle.tl_plan.specs.Access.{ColumnTest, bounds, parts_of, test_by, test_of, test_where, tests_of, turned_round}
use Rattle.tl_plan.specs.Law.{ComparesValues}
use Rattle.tl_plan.proofs.Tests.{filter_map_all}

any_gives : {X : Type 0} (p : X → Bool) (v : Bool) → ((x : X) → p x ≡ true → v ≡ true) → (xs : List X) → list_any p xs ≡ true → v ≡ true
any_gives p v f [] e = absurd cc
any_gives p v f (x ∷ xs) e =
    elim (p x) as (λ b. p x ≡ b → (b || list_any p xs) ≡ true → v ≡ true) [
      | true ↦ λ i j. f x i
      | false ↦ λ i j. any_gives p v f xs j
    ] refl e

-- a literal that is compared is a value
right_value : (columns : List Column) (left : Side) (v : Value) → are_alike columns left (side.Literal v) ≡ true → IsValue v
right_value columns left v e =
    value_is v (any_gives (λ k. side_gives columns left k && side_gives columns (side.Literal v) k) (is_value v)
    (λ k i. (and_parts (is_of_kind k v) (is_value v) (and_parts (side_gives columns left k) (is_of_kind k v && is_value v) i).1).1) every_kind e)

left_value : (columns : List Column) (v : Value) (right : Side) → are_alike columns (side.Literal v) right ≡ true → IsValue v
left_value columns v right e =
    value_is v (any_gives (λ k. side_gives columns (side.Literal v) k && side_gives columns right k) (is_value v)
    (λ k i. (and_parts (is_of_kind k v) (is_value v) (and_parts (is_of_kind k v && is_value v) (side_gives columns right k) i).0).1) every_kind e)

where_value : (here : Bool) (c : Comparison) (v : Value) (t : ColumnTest) → test_where here c v ≡ Some t → v ≡ t.value
where_value here c v t e =
    elim (here && bounds c && not (is_null v)) as (λ b. (if b then Some (record { by = c; value = v }) else None) ≡ Some t → v ≡ t.value) [
      | true ↦ λ i. ap (λ (t : ColumnTest). t.value) (same_Some (record { by = c; value = v }) t i)
      | false ↦ λ i. absurd cc
    ] e

test_value : (columns : List Column) (place : ℕ) (l : Condition-F Condition) (t : ColumnTest)
    → condition_layer columns (map-Condition Condition Bool (compares_alike columns) l) ≡ true → test_by place l ≡ Some t → IsValue t.value
test_value columns place (layer.Test (side.Place at) c (side.Literal v)) t h e =
    subst IsValue (where_value (at == place) c v t e) (right_value columns (side.Place at) v h)
test_value columns place (layer.Test (side.Literal v) c (side.Place at)) t h e =
    subst IsValue (where_value (at == place) (turned_round c) v t e) (left_value columns v (side.Place at) h)
test_value columns place (layer.Test (side.Place at) c (side.Place to)) t h e = absurd cc
test_value columns place (layer.Test (side.Literal v) c (side.Literal x)) t h e = absurd cc
test_value columns place (layer.IsNull of negated) t h e = absurd cc
test_value columns place (layer.Not part) t h e = absurd cc
test_value columns place (layer.And parts) t h e = absurd cc
test_value columns place (layer.Or parts) t h e = absurd cc

each_alike : (f : Condition → Bool) (parts : List Condition) → list_all (λ fits. fits) (map f parts) ≡ true → AllByRecursion (λ part. f part ≡ true) parts
each_alike f [] e = tt
each_alike f (part ∷ parts) e = let h = and_parts (f part) (list_all (λ fits. fits) (map f parts)) e in (h.0, each_alike f parts h.1)

-- each part of the outermost AND compares what is alike
parts_alike : (columns : List Column) (c : Condition) (l : Condition-F Condition) → out-Condition c ≡ l → compares_alike columns c ≡ true
    → AllByRecursion (λ part. compares_alike columns part ≡ true) (parts_of (Some c))
parts_alike columns c (layer.Test left by right) e h = rw e (h, tt)
parts_alike columns c (layer.IsNull of negated) e h = rw e (h, tt)
parts_alike columns c (layer.Not part) e h = rw e (h, tt)
parts_alike columns c (layer.And parts) e h =
    let layered : list_all (λ fits. fits) (map (compares_alike columns) parts) ≡ true =
    ap (λ l. condition_layer columns (map-Condition Condition Bool (compares_alike columns) l)) (sym e) ∙ sym (alike_of_layer columns c) ∙ h in
    rw e (each_alike (compares_alike columns) parts layered)
parts_alike columns c (layer.Or parts) e h = rw e (h, tt)

-- so the literals of its tests are values
pub compares_values : (columns : List Column) (where_ : Option Condition) → condition_fits columns where_ ≡ true → ComparesValues where_
compares_values columns None h place = tt
compares_values columns (Some c) h place =
    filter_map_all (test_of place) (λ part. compares_alike columns part ≡ true) (λ (t : ColumnTest). IsValue t.value)
    (λ part i t e. test_value columns place (out-Condition part) t (sym (alike_of_layer columns part) ∙ i) e) (parts_of (Some c))
    (parts_alike columns c (out-Condition c) refl h)
