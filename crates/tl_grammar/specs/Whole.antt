-- What the grammar gives of a statement beyond its tree: which lists have something in them.
use Rattle.std.specs.Prelude.{◌≡◌, ℕ, ◌≤◌, Bool, true, false, ◌&&◌, List, [], ◌∷◌, length, Option, Some, None}
use Rattle.std.specs.List.{AllByRecursion, list_all}
use Rattle.tl_grammar.specs.declared.condition.Cond.{Cond}
use Rattle.tl_grammar.specs.declared.condition.Cond.TheOpen.{Cond-F}
use Rattle.tl_grammar.specs.declared.condition.Cond.TheOpen as part
use Rattle.tl_grammar.specs.declared.condition.Cond.TheFolds.{fold-Cond}
use Rattle.tl_grammar.specs.declared.expression.Expr.{Expr}
use Rattle.tl_grammar.specs.declared.expression.Expr.TheOpen.{Expr-F}
use Rattle.tl_grammar.specs.declared.expression.Expr.TheOpen as layer
use Rattle.tl_grammar.specs.declared.expression.Expr.TheFolds.{fold-Expr}
use Rattle.tl_grammar.specs.declared.expression.Step.{Step}
use Rattle.tl_grammar.specs.declared.select.FromItem.{FromItem}
use Rattle.tl_grammar.specs.declared.select.SelectForm.{SelectForm}
use Rattle.tl_grammar.specs.declared.select.SelectForm.TheVariants as shown
use Rattle.tl_grammar.specs.declared.select.SelectItem.{SelectItem}
use Rattle.tl_grammar.specs.declared.statement.SetItem.{SetItem}
use Rattle.tl_grammar.specs.declared.statement.Tuple.{Tuple}
use Rattle.tl_grammar.specs.declared.statement.Statement.{Statement}
use Rattle.tl_grammar.specs.declared.statement.Statement.TheVariants as statement
use Rattle.tl_grammar.specs.Token.{Token}
use Rattle.tl_grammar.specs.Grammar.{IsStatement}

abbrev pub HasOne : {X : Type 0} → List X → Type 0
HasOne xs = 1 ≤ length xs

-- a list that is written
abbrev pub HasOneWhereGiven : {X : Type 0} → Option (List X) → Type 0
HasOneWhereGiven None = Unit {0}
HasOneWhereGiven (Some xs) = HasOne xs

-- a chain of one step or more
abbrev pub expression_layer : Expr-F Bool → Bool
expression_layer (layer.Operand o) = true
expression_layer (layer.Chain first []) = false
expression_layer (layer.Chain first (step ∷ steps)) = first && list_all (λ (s : Step Bool). s.of) (step ∷ steps)

-- whether each chain in the expression has a step
unfoldable pub whole_expression : Expr → Bool
whole_expression e = fold-Expr Bool expression_layer e

abbrev pub has_two : {X : Type 0} → List X → Bool
has_two [] = false
has_two (x ∷ []) = false
has_two (x ∷ y ∷ xs) = true

abbrev pub condition_layer : Cond-F Bool → Bool
condition_layer (part.Test left by right) = true
condition_layer (part.IsNull of negated) = true
condition_layer (part.Not b) = b
condition_layer (part.All bs) = has_two bs && list_all (λ b. b) bs
condition_layer (part.Any bs) = has_two bs && list_all (λ b. b) bs

-- whether each AND and OR in the condition has two parts or more
unfoldable pub whole_condition : Cond → Bool
whole_condition c = fold-Cond Bool condition_layer c

-- ON or WHERE, where it is written
abbrev pub whole_filter : Option Cond → Bool
whole_filter None = true
whole_filter (Some c) = whole_condition c

abbrev pub HasValue : Tuple → Type 0
HasValue t = HasOne t.values

abbrev pub IsWholeSet : SetItem → Type 0
IsWholeSet item = whole_expression item.value ≡ true

abbrev pub whole_form : SelectForm → Bool
whole_form (shown.Expr e) = whole_expression e
whole_form shown.CountRows = true
whole_form (shown.Count c) = true
whole_form (shown.Sum c) = true
whole_form (shown.Min c) = true
whole_form (shown.Max c) = true

abbrev pub IsWholeItem : SelectItem → Type 0
IsWholeItem item = whole_form item.form ≡ true

-- `*`, or one item or more
abbrev pub AreWholeItems : Option (List SelectItem) → Type 0
AreWholeItems None = Unit {0}
AreWholeItems (Some items) = HasOne items × AllByRecursion IsWholeItem items

abbrev pub IsWholeJoin : FromItem → Type 0
IsWholeJoin item = whole_filter item.on ≡ true

-- one FROM item or more, of which the first has no ON
abbrev pub AreWholeJoins : List FromItem → Type 0
AreWholeJoins [] = ⊥
AreWholeJoins (item ∷ items) = (◌≡◌ {A = Option Cond} item.on None) × AllByRecursion IsWholeJoin items

abbrev pub IsWhole : Statement → Type 0
IsWhole (statement.CreateTable name columns key) = HasOne columns × HasOneWhereGiven key
IsWhole (statement.CreateIndex name table columns) = HasOne columns
IsWhole (statement.Insert table columns tuples) = HasOneWhereGiven columns × HasOne tuples × AllByRecursion HasValue tuples
IsWhole (statement.Update table sets filter) = HasOne sets × AllByRecursion IsWholeSet sets × (whole_filter filter ≡ true)
IsWhole (statement.Delete table filter) = whole_filter filter ≡ true
IsWhole (statement.Select items from filter group order limit) = AreWholeItems items × AreWholeJoins from × (whole_filter filter ≡ true)
IsWhole statement.Begin = Unit {0}
IsWhole statement.Commit = Unit {0}
IsWhole statement.Rollback = Unit {0}
IsWhole (statement.Recover node) = (1 ≤ node) × (node ≤ 16)

-- each statement of the grammar is whole
abbrev pub StatementsAreWhole : Type 0
StatementsAreWhole = (d : ℕ) (ts : List Token) (x : Statement) → IsStatement d ts x → IsWhole x
