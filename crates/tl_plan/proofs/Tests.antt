-- A row that WHERE is true of meets each test of each column.
use Rattle.std.proofs.Common.{◌≡◌, ℕ, ◌==◌, Bool, true, false, not, ◌&&◌, if◌then◌else◌, List, [], ◌∷◌, Option, Some, None, Ordering, Less, Equal, Greater, map, filter_map, refl, sym, ap, subst, ◌∙◌, arith}
use Rattle.std.proofs.lemmas.Bool.Decides.{nat_tests}
use Rattle.std.specs.List.{AllByRecursion, cons_option}
use Rattle.std.specs.Ordering.{ordering_reverse}
use Rattle.tl_lemmas.proofs.Tests.{and_first}
use Rattle.tl_values.specs.declared.value.Comparison.{Comparison}
use Rattle.tl_values.specs.declared.value.Comparison.TheVariants as by
use Rattle.tl_values.specs.declared.value.Truth.{Truth}
use Rattle.tl_values.specs.declared.value.Truth.TheVariants.{False, Unknown, True}
use Rattle.tl_values.specs.declared.value.Value.{Value}
use Rattle.tl_values.specs.declared.value.Value.TheVariants as value
use Rattle.tl_values.specs.Value.{compared, is_null, known, passes, value_at, value_cmp}
use Rattle.tl_values.proofs.ValueOrder.{value_total}
use Rattle.tl_algebra.specs.declared.condition.Condition.{Condition, out-Condition}
use Rattle.tl_algebra.specs.declared.condition.Condition.TheOpen.{Condition-F}
use Rattle.tl_algebra.specs.declared.condition.Condition.TheOpen as layer
use Rattle.tl_algebra.specs.declared.condition.Condition.TheFolds.{fold_out-Condition, map-Condition}
use Rattle.tl_algebra.specs.declared.condition.Side.TheVariants as side
use Rattle.tl_algebra.specs.Truth.{is_true, least, lesser, lets_through, truth_layer, truth_of}
use Rattle.tl_plan.specs.Access.{ColumnTest, bounds, parts_of, test_by, test_of, test_where, tests_of, turned_round}

-- neither side is NULL, and the comparison holds
pub record Meets (v : Value) (t : ColumnTest) : Type 0 where
  pub here : is_null v ≡ false
  pub there : is_null t.value ≡ false
  pub compares : passes t.by (value_cmp v t.value) ≡ true

is_True : (t : Truth) → is_true t ≡ true → t ≡ True
is_True False e = absurd cc
is_True Unknown e = absurd cc
is_True True e = refl

known_True : (b : Bool) → known b ≡ True → b ≡ true
known_True false e = absurd cc
known_True true e = refl

-- a comparison is true of values that aren't NULL
compared_True : (a : Value) (c : Comparison) (b : Value) → compared a c b ≡ True → (is_null a ≡ false) × (is_null b ≡ false) × (passes c (value_cmp a b) ≡ true)
compared_True value.Null c b e = absurd cc
compared_True (value.Bool x) c value.Null e = absurd cc
compared_True (value.Bool x) c (value.Bool y) e = (refl, refl, known_True _ e)
compared_True (value.Bool x) c (value.Int y) e = (refl, refl, known_True _ e)
compared_True (value.Bool x) c (value.Text y) e = (refl, refl, known_True _ e)
compared_True (value.Int x) c value.Null e = absurd cc
compared_True (value.Int x) c (value.Bool y) e = (refl, refl, known_True _ e)
compared_True (value.Int x) c (value.Int y) e = (refl, refl, known_True _ e)
compared_True (value.Int x) c (value.Text y) e = (refl, refl, known_True _ e)
compared_True (value.Text x) c value.Null e = absurd cc
compared_True (value.Text x) c (value.Bool y) e = (refl, refl, known_True _ e)
compared_True (value.Text x) c (value.Int y) e = (refl, refl, known_True _ e)
compared_True (value.Text x) c (value.Text y) e = (refl, refl, known_True _ e)

turned_passes : (c : Comparison) (o : Ordering) → passes (turned_round c) o ≡ passes c (ordering_reverse o)
turned_passes by.Equal Less = refl
turned_passes by.Equal Equal = refl
turned_passes by.Equal Greater = refl
turned_passes by.NotEqual Less = refl
turned_passes by.NotEqual Equal = refl
turned_passes by.NotEqual Greater = refl
turned_passes by.Less Less = refl
turned_passes by.Less Equal = refl
turned_passes by.Less Greater = refl
turned_passes by.LessEqual Less = refl
turned_passes by.LessEqual Equal = refl
turned_passes by.LessEqual Greater = refl
turned_passes by.Greater Less = refl
turned_passes by.Greater Equal = refl
turned_passes by.Greater Greater = refl
turned_passes by.GreaterEqual Less = refl
turned_passes by.GreaterEqual Equal = refl
turned_passes by.GreaterEqual Greater = refl

meets : (v : Value) (c : Comparison) (w : Value) → compared v c w ≡ True → Meets v (record { by = c; value = w })
meets v c w e = let h = compared_True v c w e in record { here = h.0; there = h.1; compares = h.2 }

-- with the literal on the left
meets_turned : (v : Value) (c : Comparison) (w : Value) → compared w c v ≡ True → Meets v (record { by = turned_round c; value = w })
meets_turned v c w e =
    let h = compared_True w c v e in
    record { here = h.1; there = h.0; compares = turned_passes c (value_cmp v w) ∙ ap (passes c) (sym (value_total.antisymm w v)) ∙ h.2 }

where_is : (b : Bool) (c : Comparison) (w : Value) (t : ColumnTest) → (if b then Some (record { by = c; value = w }) else None) ≡ Some t → (b ≡ true) × (t ≡ record { by = c; value = w })
where_is false c w t e = absurd cc
where_is true c w t e = (refl, cc)

at_place : (at place : ℕ) → (at == place) ≡ true → at ≡ place
at_place at place e = grind (arith, nat_tests)

-- the test that is made of this part is the test of this column
is_test : (at place : ℕ) (c : Comparison) (w : Value) (t : ColumnTest) → test_where (at == place) c w ≡ Some t → (at ≡ place) × (t ≡ record { by = c; value = w })
is_test at place c w t e =
    let h = where_is (at == place && bounds c && not (is_null w)) c w t e in
    (at_place at place (and_first (at == place) (bounds c) (and_first (at == place && bounds c) (not (is_null w)) h.0)), h.1)

layer_meets : (f : Condition → Truth) (row : List Value) (place : ℕ) (l : Condition-F Condition) (t : ColumnTest) → truth_layer row (map-Condition Condition Truth f l) ≡ True → test_by place l ≡ Some t → Meets (value_at row place) t
layer_meets f row place (layer.Test (side.Place at) c (side.Place other)) t h e = absurd cc
layer_meets f row place (layer.Test (side.Place at) c (side.Literal w)) t h e =
    let k = is_test at place c w t e in
    subst (Meets (value_at row place)) (sym k.1) (subst (λ n. Meets (value_at row n) (record { by = c; value = w })) k.0 (meets (value_at row at) c w h))
layer_meets f row place (layer.Test (side.Literal w) c (side.Place at)) t h e =
    let k = is_test at place (turned_round c) w t e in
    subst (Meets (value_at row place)) (sym k.1) (subst (λ n. Meets (value_at row n) (record { by = turned_round c; value = w })) k.0 (meets_turned (value_at row at) c w h))
layer_meets f row place (layer.Test (side.Literal v) c (side.Literal w)) t h e = absurd cc
layer_meets f row place (layer.IsNull of negated) t h e = absurd cc
layer_meets f row place (layer.Not part) t h e = absurd cc
layer_meets f row place (layer.And parts) t h e = absurd cc
layer_meets f row place (layer.Or parts) t h e = absurd cc

one_part : (c : Condition) (row : List Value) → truth_of c row ≡ truth_layer row (map-Condition Condition Truth (λ part. truth_of part row) (out-Condition c))
unfolding truth_of
one_part c row = fold_out-Condition Truth (truth_layer row) c

part_meets : (row : List Value) (place : ℕ) (part : Condition) → truth_of part row ≡ True → (t : ColumnTest) → test_of place part ≡ Some t → Meets (value_at row place) t
part_meets row place part h t e = layer_meets (λ p. truth_of p row) row place (out-Condition part) t (sym (one_part part row) ∙ h) e

lesser_first : (a b : Truth) → lesser a b ≡ True → (a ≡ True) × (b ≡ True)
lesser_first False b e = absurd cc
lesser_first Unknown False e = absurd cc
lesser_first Unknown Unknown e = absurd cc
lesser_first Unknown True e = absurd cc
lesser_first True b e = (refl, e)

each_True : (f : Condition → Truth) (parts : List Condition) → least (map f parts) ≡ True → AllByRecursion (λ part. f part ≡ True) parts
each_True f [] e = tt
each_True f (part ∷ parts) e = let h = lesser_first (f part) (least (map f parts)) e in (h.0, each_True f parts h.1)

-- each part of the outermost AND is true
parts_True : (c : Condition) (row : List Value) (l : Condition-F Condition) → out-Condition c ≡ l → truth_of c row ≡ True → AllByRecursion (λ part. truth_of part row ≡ True) (parts_of (Some c))
parts_True c row (layer.Test left by right) e h = rw e (h, tt)
parts_True c row (layer.IsNull of negated) e h = rw e (h, tt)
parts_True c row (layer.Not part) e h = rw e (h, tt)
parts_True c row (layer.And parts) e h =
    let layered : least (map (λ part. truth_of part row) parts) ≡ True =
    ap (λ l. truth_layer row (map-Condition Condition Truth (λ part. truth_of part row) l)) (sym e) ∙ sym (one_part c row) ∙ h in
    rw e (each_True (λ part. truth_of part row) parts layered)
parts_True c row (layer.Or parts) e h = rw e (h, tt)

-- what is made of some of a list meets what each of these does
pub filter_map_all : {A B : Type 0} (f : A → Option B) (P : A → Type 0) (Q : B → Type 0) → ((x : A) → P x → (y : B) → f x ≡ Some y → Q y) → (xs : List A) → AllByRecursion P xs → AllByRecursion Q (filter_map f xs)
filter_map_all {A} {B} f P Q h [] all = tt
filter_map_all {A} {B} f P Q h (x ∷ xs) all = one (f x) refl (filter_map_all f P Q h xs all.1)
  where
    one : (o : Option B) → f x ≡ o → AllByRecursion Q (filter_map f xs) → AllByRecursion Q (cons_option o (filter_map f xs))
    one None e rest = rest
    one (Some y) e rest = (h x all.0 y e, rest)

-- the value of a row that WHERE lets through meets each test of its column
pub tests_met : (where_ : Option Condition) (row : List Value) (place : ℕ) → lets_through where_ row ≡ true → AllByRecursion (Meets (value_at row place)) (tests_of place where_)
tests_met None row place e = tt
tests_met (Some c) row place e =
    filter_map_all (test_of place) (λ part. truth_of part row ≡ True) (Meets (value_at row place)) (part_meets row place) (parts_of (Some c))
    (parts_True c row (out-Condition c) refl (is_True (truth_of c row) e))
