-- What an expression of a kind computes is of that kind, and a row whose columns are set to such values still fits.
use Rattle.std.proofs.Common.{◌≡◌, ℕ, zero, suc, ◌^◌, pos, negsuc, Bool, true, false, List, [], ◌∷◌, Option, Some, None, map, refl, sym, ap, subst, ◌∙◌}
use Rattle.std.specs.Prelude.{◌&&◌, slice_set, if◌then◌else◌}
use Rattle.std.proofs.lemmas.Bool.{and_parts, and_from, ltb-true}
use Rattle.std.proofs.lemmas.Str.{IsUtf8-from_is_utf8}
use Rattle.std.proofs.lemmas.Option.{same_Some}
use Rattle.tl_values.specs.declared.value.Kind.{Kind}
use Rattle.tl_values.specs.declared.value.Kind.TheVariants as kind
use Rattle.tl_values.specs.declared.value.Value.{Value}
use Rattle.tl_values.specs.declared.value.Value.TheVariants as value
use Rattle.tl_values.specs.Key.{AreValues, IsValue}
use Rattle.tl_values.specs.Value.{value_at}
use Rattle.tl_schema.specs.declared.catalog.Column.{Column}
use Rattle.tl_values.specs.declared.value.Comparison.{Comparison}
use Rattle.tl_algebra.specs.declared.condition.Condition.{Condition, out-Condition}
use Rattle.tl_algebra.specs.declared.condition.Condition.TheOpen.{Condition-F}
use Rattle.tl_algebra.specs.declared.condition.Condition.TheFolds.{fold_out-Condition, map-Condition}
use Rattle.tl_algebra.specs.declared.condition.Condition.TheVariants as condition
use Rattle.tl_algebra.specs.declared.condition.Condition.TheVariants.{outs-Test}
use Rattle.tl_algebra.specs.declared.condition.Side.{Side}
use Rattle.tl_algebra.specs.declared.expression.Expression.{Expression, out-Expression}
use Rattle.tl_algebra.specs.declared.expression.Expression.TheOpen.{Expression-F}
use Rattle.tl_algebra.specs.declared.expression.Expression.TheOpen as layer
use Rattle.tl_algebra.specs.declared.expression.Expression.TheVariants as expression
use Rattle.tl_algebra.specs.declared.expression.Expression.TheVariants.{outs-Chain, outs-Literal, outs-Place}
use Rattle.tl_algebra.specs.declared.expression.Expression.TheFolds.{fold_out-Expression, map-Expression}
use Rattle.tl_algebra.specs.declared.expression.Operator.{Operator}
use Rattle.tl_algebra.specs.declared.expression.Step.{Step}
use Rattle.tl_algebra.specs.declared.edit.SetColumn.{SetColumn}
use Rattle.tl_algebra.specs.Steps.{step_value}
use Rattle.tl_algebra.specs.Value.{calculated, chained, figure, fits, stepped, value_layer, value_of}
use Rattle.tl_isolation.specs.Kinds.{are_alike, are_of_kinds, compares_alike, condition_layer, gives_kind, has_column, is_of_kind, is_value, kind_layer, same_kind}
use Rattle.tl_isolation.specs.Tables.{sets_its_kind}

-- a value as programs have them, NULL or of this kind
pub record IsOne (k : Kind) (v : Value) : Type 0 where
  pub value : IsValue v
  pub of : is_of_kind k v ≡ true

null_is : (k : Kind) → IsOne k value.Null
null_is k = record { value = tt; of = refl }

-- a test tells a value
pub value_is : (v : Value) → is_value v ≡ true → IsValue v
value_is value.Null e = tt
value_is (value.Bool b) e = tt
value_is (value.Int (pos n)) e = record { sfits = ltb-true n (2 ^ 63) e }
value_is (value.Int (negsuc n)) e = record { sfits = ltb-true n (2 ^ 63) e }
value_is (value.Text t) e = IsUtf8-from_is_utf8 t e

kinds_same : (a b : Kind) → same_kind a b ≡ true → a ≡ b
kinds_same kind.Int kind.Int e = refl
kinds_same kind.Int kind.Text e = absurd cc
kinds_same kind.Int kind.Bool e = absurd cc
kinds_same kind.Text kind.Int e = absurd cc
kinds_same kind.Text kind.Text e = refl
kinds_same kind.Text kind.Bool e = absurd cc
kinds_same kind.Bool kind.Int e = absurd cc
kinds_same kind.Bool kind.Text e = absurd cc
kinds_same kind.Bool kind.Bool e = refl

-- the value in a column of a row is of the column's kind
placed : (k : Kind) (columns : List Column) (row : List Value) (at : ℕ) → has_column (same_kind k) columns at ≡ true → are_of_kinds columns row ≡ true
    → is_of_kind k (value_at row at) ≡ true
placed k [] row at h o = absurd cc
placed k (column ∷ columns) [] at h o = absurd cc
placed k (column ∷ columns) (x ∷ xs) zero h o =
    subst (λ (k : Kind). is_of_kind k x ≡ true) (sym (kinds_same k column.kind h)) (and_parts (is_of_kind column.kind x) (are_of_kinds columns xs) o).0
placed k (column ∷ columns) (x ∷ xs) (suc at) h o = placed k columns xs at h (and_parts (is_of_kind column.kind x) (are_of_kinds columns xs) o).1

pub value_placed : (row : List Value) (at : ℕ) → AreValues row → IsValue (value_at row at)
value_placed [] at h = tt
value_placed (x ∷ xs) zero h = h.0
value_placed (x ∷ xs) (suc at) h = value_placed xs at h.1

-- what arithmetic gives is a number or NULL
calculated_is : (a : Value) (by : Operator) (b v : Value) → calculated a by b ≡ Some v → IsOne kind.Int v
calculated_is (value.Int a) by (value.Int b) v e = one (fits (figure by a b)) refl e
  where
    one : (c : Bool) → fits (figure by a b) ≡ c → (if c then Some (value.Int (figure by a b)) else None) ≡ Some v → IsOne kind.Int v
    one true f e = subst (IsOne kind.Int) (same_Some (value.Int (figure by a b)) v e) (record { value = value_is (value.Int (figure by a b)) f; of = refl })
    one false f e = absurd cc
calculated_is a by b v e = subst (IsOne kind.Int) (same_Some value.Null v e) (null_is kind.Int)

stepped_is : (a : Option Value) (by : Operator) (b : Option Value) (v : Value) → stepped a by b ≡ Some v → IsOne kind.Int v
stepped_is None by b v e = absurd cc
stepped_is (Some a) by None v e = absurd cc
stepped_is (Some a) by (Some b) v e = calculated_is a by b v e

chained_is : (a : Option Value) (steps : List (Step (Option Value))) (v : Value) → ((x : Value) → a ≡ Some x → IsOne kind.Int x) → chained a steps ≡ Some v → IsOne kind.Int v
chained_is a [] v h e = h v e
chained_is a (step ∷ steps) v h e = chained_is (stepped a step.by step.of) steps v (λ x i. stepped_is a step.by step.of x i) e

chain_is : (a : Option Value) (step : Step (Option Value)) (steps : List (Step (Option Value))) (v : Value) → chained a (step ∷ steps) ≡ Some v → IsOne kind.Int v
chain_is a step steps v e = chained_is (stepped a step.by step.of) steps v (λ x i. stepped_is a step.by step.of x i) e

kind_of_layer : (columns : List Column) (e : Expression) → gives_kind columns e ≡ kind_layer columns (map-Expression Expression (Kind → Bool) (gives_kind columns) (out-Expression e))
unfolding gives_kind
kind_of_layer columns e = fold_out-Expression (Kind → Bool) (kind_layer columns) e

-- the kinds of a column, of a literal and of arithmetic
pub kind_of_place : (columns : List Column) (at : ℕ) → gives_kind columns (expression.Place at) ≡ (λ k. has_column (same_kind k) columns at)
kind_of_place columns at =
    kind_of_layer columns (expression.Place at) ∙ ap (λ l. kind_layer columns (map-Expression Expression (Kind → Bool) (gives_kind columns) l)) (outs-Place at)

pub kind_of_literal : (columns : List Column) (v : Value) → gives_kind columns (expression.Literal v) ≡ (λ k. is_of_kind k v && is_value v)
kind_of_literal columns v =
    kind_of_layer columns (expression.Literal v) ∙ ap (λ l. kind_layer columns (map-Expression Expression (Kind → Bool) (gives_kind columns) l)) (outs-Literal v)

-- a step, with the kinds of what stands behind its sign
abbrev pub step_kinds : List Column → Step Expression → Step (Kind → Bool)
step_kinds columns step = record { by = step.by; of = gives_kind columns step.of }

pub kind_of_chain : (columns : List Column) (first : Expression) (rest : List (Step Expression))
    → gives_kind columns (expression.Chain first rest) ≡ kind_layer columns (layer.Chain (gives_kind columns first) (map (step_kinds columns) rest))
kind_of_chain columns first rest =
    kind_of_layer columns (expression.Chain first rest)
    ∙ ap (λ l. kind_layer columns (map-Expression Expression (Kind → Bool) (gives_kind columns) l)) (outs-Chain first rest)

value_of_layer : (row : List Value) (e : Expression) → value_of e row ≡ value_layer row (map-Expression Expression (Option Value) (λ e. value_of e row) (out-Expression e))
unfolding value_of
value_of_layer row e = fold_out-Expression (Option Value) (value_layer row) e

module _ (columns : List Column) (row : List Value) where
  value_by : (l : Expression-F Expression) (k : Kind) (v : Value) → AreValues row → kind_layer columns (map-Expression Expression (Kind → Bool) (gives_kind columns) l) k ≡ true
      → value_layer row (map-Expression Expression (Option Value) (λ e. value_of e row) l) ≡ Some v → IsValue v
  value_by (layer.Place at) k v values h e = subst IsValue (same_Some (value_at row at) v e) (value_placed row at values)
  value_by (layer.Literal x) k v values h e = subst IsValue (same_Some x v e) (value_is x (and_parts (is_of_kind k x) (is_value x) h).1)
  value_by (layer.Chain first []) k v values h e = absurd cc
  value_by (layer.Chain first (step ∷ steps)) k v values h e = (chain_is (value_of first row) (step_value row step) (map (step_value row) steps) v e).value

  kind_by : (l : Expression-F Expression) (k : Kind) (v : Value) → are_of_kinds columns row ≡ true
      → kind_layer columns (map-Expression Expression (Kind → Bool) (gives_kind columns) l) k ≡ true
      → value_layer row (map-Expression Expression (Option Value) (λ e. value_of e row) l) ≡ Some v → is_of_kind k v ≡ true
  kind_by (layer.Place at) k v kinds h e = subst (λ v. is_of_kind k v ≡ true) (same_Some (value_at row at) v e) (placed k columns row at h kinds)
  kind_by (layer.Literal x) k v kinds h e = subst (λ v. is_of_kind k v ≡ true) (same_Some x v e) (and_parts (is_of_kind k x) (is_value x) h).0
  kind_by (layer.Chain first []) k v kinds h e = absurd cc
  kind_by (layer.Chain first (step ∷ steps)) k v kinds h e =
      subst (λ k. is_of_kind k v ≡ true) (sym (kinds_same k kind.Int (and_parts (same_kind k kind.Int) _ h).0))
      (chain_is (value_of first row) (step_value row step) (map (step_value row) steps) v e).of

  -- what an expression of this kind computes from values is a value
  pub value_computed : (e : Expression) (k : Kind) (v : Value) → AreValues row → gives_kind columns e k ≡ true → value_of e row ≡ Some v → IsValue v
  value_computed e k v values h i =
      value_by (out-Expression e) k v values (ap (λ (f : Kind → Bool). f k) (sym (kind_of_layer columns e)) ∙ h) (sym (value_of_layer row e) ∙ i)

  -- and from a row whose values are of their columns' kinds it is NULL or of the kind
  pub kind_computed : (e : Expression) (k : Kind) (v : Value) → are_of_kinds columns row ≡ true → gives_kind columns e k ≡ true → value_of e row ≡ Some v
      → is_of_kind k v ≡ true
  kind_computed e k v kinds h i =
      kind_by (out-Expression e) k v kinds (ap (λ (f : Kind → Bool). f k) (sym (kind_of_layer columns e)) ∙ h) (sym (value_of_layer row e) ∙ i)

-- a column set to a value of its kind
pub set_of_kinds : (passes : Kind → Bool) (columns : List Column) (row : List Value) (place : ℕ) (v : Value)
    → ((k : Kind) → passes k ≡ true → is_of_kind k v ≡ true) → has_column passes columns place ≡ true → are_of_kinds columns row ≡ true
    → are_of_kinds columns (slice_set row place v) ≡ true
set_of_kinds passes [] row place v f h o = absurd cc
set_of_kinds passes (column ∷ columns) [] place v f h o = absurd cc
set_of_kinds passes (column ∷ columns) (x ∷ xs) zero v f h o =
    and_from (is_of_kind column.kind v) (are_of_kinds columns xs) (f column.kind h) (and_parts (is_of_kind column.kind x) (are_of_kinds columns xs) o).1
set_of_kinds passes (column ∷ columns) (x ∷ xs) (suc place) v f h o =
    let parts = and_parts (is_of_kind column.kind x) (are_of_kinds columns xs) o in
    and_from (is_of_kind column.kind x) (are_of_kinds columns (slice_set xs place v)) parts.0 (set_of_kinds passes columns xs place v f h parts.1)

-- there is a kind that the column has
some_kind : (passes : Kind → Bool) (columns : List Column) (place : ℕ) → has_column passes columns place ≡ true → (k : Kind) × (passes k ≡ true)
some_kind passes [] place h = absurd cc
some_kind passes (column ∷ columns) zero h = (column.kind, h)
some_kind passes (column ∷ columns) (suc place) h = some_kind passes columns place h

-- what SET computes from values is a value
pub set_value : (columns : List Column) (set : SetColumn) (row : List Value) (v : Value) → AreValues row → sets_its_kind columns set ≡ true
    → value_of set.value row ≡ Some v → IsValue v
set_value columns set row v values h e =
    let some = some_kind (gives_kind columns set.value) columns set.column h in value_computed columns row set.value some.0 v values some.1 e

-- what is compared is alike by the parts of a condition
pub alike_of_layer : (columns : List Column) (c : Condition) → compares_alike columns c ≡ condition_layer columns (map-Condition Condition Bool (compares_alike columns) (out-Condition c))
unfolding compares_alike
alike_of_layer columns c = fold_out-Condition Bool (condition_layer columns) c

pub alike_test : (columns : List Column) (left : Side) (by : Comparison) (right : Side) → compares_alike columns (condition.Test left by right) ≡ are_alike columns left right
alike_test columns left by right =
    alike_of_layer columns (condition.Test left by right)
    ∙ ap (λ (l : Condition-F Condition). condition_layer columns (map-Condition Condition Bool (compares_alike columns) l)) (outs-Test left by right)
