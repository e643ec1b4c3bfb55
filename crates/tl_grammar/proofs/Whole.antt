-- Each statement of the grammar is whole.
use Rattle.std.proofs.Common.{◌≡◌, ℕ, zero, suc, ◌≤◌, Bool, true, false, ◌&&◌, List, [], ◌∷◌, ◌++◌, length-append, map, Option, Some, None, if◌then◌else◌, refl, subst, ap, ◌∙◌, arith}
use Rattle.std.specs.Prelude.{nat_lt}
use Rattle.std.proofs.lemmas.Bool.Decides.{nat_tests}
use Rattle.std.specs.List.{AllByRecursion, list_all}
use Rattle.tl_values.specs.declared.value.Comparison.{Comparison}
use Rattle.tl_grammar.specs.declared.fault.Expected.TheVariants as want
use Rattle.tl_grammar.specs.declared.token.Word.{Word}
use Rattle.tl_grammar.specs.declared.token.Word.TheVariants as w
use Rattle.tl_grammar.specs.declared.token.Sign.TheVariants as s
use Rattle.tl_grammar.specs.declared.name.Name.{Name}
use Rattle.tl_grammar.specs.declared.name.ColumnName.{ColumnName}
use Rattle.tl_grammar.specs.declared.operand.Operand.{Operand}
use Rattle.tl_grammar.specs.declared.expression.Operator.TheVariants as by
use Rattle.tl_grammar.specs.declared.expression.Step.{Step}
use Rattle.tl_grammar.specs.declared.expression.Expr.{Expr}
use Rattle.tl_grammar.specs.declared.expression.Expr.TheOpen.{Expr-F}
use Rattle.tl_grammar.specs.declared.expression.Expr.TheFolds.{fold-Expr, fold_out-Expr, map-Expr}
use Rattle.tl_grammar.specs.declared.expression.Expr.TheVariants as tree
use Rattle.tl_grammar.specs.declared.expression.Expr.TheVariants.{outs-Chain, outs-Operand}
use Rattle.tl_grammar.specs.declared.condition.Cond.{Cond}
use Rattle.tl_grammar.specs.declared.condition.Cond.TheOpen.{Cond-F}
use Rattle.tl_grammar.specs.declared.condition.Cond.TheFolds.{fold-Cond, fold_out-Cond, map-Cond}
use Rattle.tl_grammar.specs.declared.condition.Cond.TheVariants as cond
use Rattle.tl_grammar.specs.declared.condition.Cond.TheVariants.{outs-All, outs-Any, outs-IsNull, outs-Not, outs-Test}
use Rattle.tl_grammar.specs.declared.select.FromItem.{FromItem}
use Rattle.tl_grammar.specs.declared.select.SelectForm.{SelectForm}
use Rattle.tl_grammar.specs.declared.select.SelectForm.TheVariants as shown
use Rattle.tl_grammar.specs.declared.select.SelectItem.{SelectItem}
use Rattle.tl_grammar.specs.declared.statement.ColumnForm.{ColumnForm}
use Rattle.tl_grammar.specs.declared.statement.Statement.{Statement}
use Rattle.tl_grammar.specs.declared.statement.Statement.TheVariants as statement
use Rattle.tl_grammar.specs.Token.{Kind, Token}
use Rattle.tl_grammar.specs.Token as kind
use Rattle.tl_grammar.specs.Form.{Form, ◌>>=◌, either, one, placed, pure, row, row_by, some, too_deep}
use Rattle.tl_grammar.specs.Pick.{node_kind, sign_kind, word_kind}
use Rattle.tl_grammar.specs.Grammar.{Column, Entry, IsStatement, Key, aggregate, all, all_columns, all_form, all_rows, and_part, any, as_name, begin, behind, bracketed, chain, column, column_entry, column_form, comma, commit, compared, comparison, cond_form, count, counted, create, create_index, create_table, delete, ending, entries, entry, expr, factor, from_item, from_items, given, group_by, greatest, in_brackets, inner_join, insert, items, joined, key_entry, least, limit, list, list_or_none, literal, more_from, name, names, negated, nested, node, not_form, null_test, operand_form, optional, or_part, order_by, plain, plus, plus_or_minus, primary_key, recover, rollback, select, select_form, select_item, sentence, set_item, shown_expr, sign, some_items, statement_form, sum, term, test, times, tuple, update, where_form, with_entry, word}
use Rattle.tl_grammar.specs.Whole.{AreWholeItems, AreWholeJoins, HasOne, HasOneWhereGiven, HasValue, IsWhole, IsWholeItem, IsWholeJoin, IsWholeSet, condition_layer, expression_layer, whole_condition, whole_expression, whole_filter, whole_form}
use Rattle.tl_grammar.proofs.Gives.{Gives, ListOf, WhereGiven, after_comma, all_behind, bracketed_gives, done, list_gives, many, many_by, never, optional_gives, or, skip, next, token, weaken, with_place}

both : {a b : Bool} → a ≡ true → b ≡ true → (a && b) ≡ true
both {a = true} h k = k
both {a = false} h k = h

-- expressions
abbrev WholeExpression : Expr → Type 0
WholeExpression e = whole_expression e ≡ true

abbrev WholeStep : Step Expr → Type 0
WholeStep step = whole_expression step.of ≡ true

whole_operand : (o : Operand) → WholeExpression (tree.Operand o)
unfolding whole_expression
whole_operand o =
    fold_out-Expr Bool expression_layer (tree.Operand o)
    ∙ ap (λ (l : Expr-F Expr). expression_layer (map-Expr Expr Bool (fold-Expr Bool expression_layer) l)) (outs-Operand o)

steps_whole : (f : Expr → Bool) (steps : List (Step Expr)) → AllByRecursion (λ (step : Step Expr). f step.of ≡ true) steps
    → list_all (λ (s : Step Bool). s.of) (map (λ (s : Step Expr). record { by = s.by; of = f s.of }) steps) ≡ true
steps_whole f [] h = refl
steps_whole f (step ∷ steps) h = both h.0 (steps_whole f steps h.1)

whole_chain : (first : Expr) (steps : List (Step Expr)) → WholeExpression first → AllByRecursion WholeStep steps → WholeExpression (chain first steps)
unfolding whole_expression
whole_chain first [] h k = h
whole_chain first (step ∷ steps) h k =
    fold_out-Expr Bool expression_layer (tree.Chain first (step ∷ steps))
    ∙ ap (λ (l : Expr-F Expr). expression_layer (map-Expr Expr Bool (fold-Expr Bool expression_layer) l)) (outs-Chain first (step ∷ steps))
    ∙ both h (steps_whole (fold-Expr Bool expression_layer) (step ∷ steps) k)

plain_gives : Gives plain WholeExpression
unfolding plain
plain_gives = skip operand_form (λ o. pure (tree.Operand o)) WholeExpression (λ o. done WholeExpression (tree.Operand o) (whole_operand o))

factor_gives : (b : Form Expr) → Gives b WholeExpression → Gives (factor b) WholeExpression
unfolding factor
factor_gives b g = or plain b WholeExpression plain_gives g

times_gives : (b : Form Expr) → Gives b WholeExpression → Gives (times b) WholeStep
unfolding times
times_gives b g =
    skip (sign s.Star) (λ at. factor b >>= (λ of. pure (record { by = by.Multiply; of = of }))) WholeStep
    (λ at. next (factor b) (λ of. pure (record { by = by.Multiply; of = of })) WholeExpression WholeStep (factor_gives b g) (λ of p. done WholeStep (record { by = by.Multiply; of = of }) p))

term_gives : (b : Form Expr) → Gives b WholeExpression → Gives (term b) WholeExpression
unfolding term
term_gives b g =
    next (factor b) (λ first. row behind (times b) [] >>= (λ rest. pure (chain first rest))) WholeExpression WholeExpression (factor_gives b g)
    (λ first p. next (row behind (times b) []) (λ rest. pure (chain first rest)) (AllByRecursion WholeStep) WholeExpression (many (times b) [] WholeStep (times_gives b g) tt)
    (λ rest q. done WholeExpression (chain first rest) (whole_chain first rest p q)))

plus_gives : (b : Form Expr) → Gives b WholeExpression → Gives (plus b) WholeStep
unfolding plus
plus_gives b g =
    skip plus_or_minus (λ by. term b >>= (λ of. pure (record { by = by; of = of }))) WholeStep
    (λ by. next (term b) (λ of. pure (record { by = by; of = of })) WholeExpression WholeStep (term_gives b g) (λ of p. done WholeStep (record { by = by; of = of }) p))

expr_gives : (b : Form Expr) → Gives b WholeExpression → Gives (expr b) WholeExpression
unfolding expr
expr_gives b g =
    next (term b) (λ first. row behind (plus b) [] >>= (λ rest. pure (chain first rest))) WholeExpression WholeExpression (term_gives b g)
    (λ first p. next (row behind (plus b) []) (λ rest. pure (chain first rest)) (AllByRecursion WholeStep) WholeExpression (many (plus b) [] WholeStep (plus_gives b g) tt)
    (λ rest q. done WholeExpression (chain first rest) (whole_chain first rest p q)))

bracket_gives : (d : ℕ) → Gives (bracketed d) WholeExpression
unfolding bracketed
bracket_gives zero = never (λ t. some (sign_kind s.Open t.start t.kind)) want.Sign WholeExpression
bracket_gives (suc d) = bracketed_gives (expr (bracketed d)) WholeExpression (expr_gives (bracketed d) (bracket_gives d))

expression_gives : (d : ℕ) → Gives (expr (bracketed d)) WholeExpression
expression_gives d = expr_gives (bracketed d) (bracket_gives d)

-- conditions
abbrev WholeCondition : Cond → Type 0
WholeCondition c = whole_condition c ≡ true

whole_test : (left : Operand) (by : Comparison) (right : Operand) → WholeCondition (cond.Test left by right)
unfolding whole_condition
whole_test left by right =
    fold_out-Cond Bool condition_layer (cond.Test left by right)
    ∙ ap (λ (l : Cond-F Cond). condition_layer (map-Cond Cond Bool (fold-Cond Bool condition_layer) l)) (outs-Test left by right)

whole_is_null : (of : Operand) (negated : Bool) → WholeCondition (cond.IsNull of negated)
unfolding whole_condition
whole_is_null of negated =
    fold_out-Cond Bool condition_layer (cond.IsNull of negated)
    ∙ ap (λ (l : Cond-F Cond). condition_layer (map-Cond Cond Bool (fold-Cond Bool condition_layer) l)) (outs-IsNull of negated)

whole_not : (c : Cond) → WholeCondition c → WholeCondition (cond.Not c)
unfolding whole_condition
whole_not c h =
    fold_out-Cond Bool condition_layer (cond.Not c)
    ∙ ap (λ (l : Cond-F Cond). condition_layer (map-Cond Cond Bool (fold-Cond Bool condition_layer) l)) (outs-Not c)
    ∙ h

each_whole : (f : Cond → Bool) (cs : List Cond) → AllByRecursion (λ (c : Cond). f c ≡ true) cs → list_all (λ b. b) (map f cs) ≡ true
each_whole f [] h = refl
each_whole f (c ∷ cs) h = both h.0 (each_whole f cs h.1)

whole_all : (first : Cond) (cs : List Cond) → WholeCondition first → AllByRecursion WholeCondition cs → WholeCondition (all first cs)
unfolding whole_condition
whole_all first [] h k = h
whole_all first (c ∷ cs) h k =
    fold_out-Cond Bool condition_layer (cond.All (first ∷ c ∷ cs))
    ∙ ap (λ (l : Cond-F Cond). condition_layer (map-Cond Cond Bool (fold-Cond Bool condition_layer) l)) (outs-All (first ∷ c ∷ cs))
    ∙ each_whole (fold-Cond Bool condition_layer) (first ∷ c ∷ cs) (h, k)

whole_any : (first : Cond) (cs : List Cond) → WholeCondition first → AllByRecursion WholeCondition cs → WholeCondition (any first cs)
unfolding whole_condition
whole_any first [] h k = h
whole_any first (c ∷ cs) h k =
    fold_out-Cond Bool condition_layer (cond.Any (first ∷ c ∷ cs))
    ∙ ap (λ (l : Cond-F Cond). condition_layer (map-Cond Cond Bool (fold-Cond Bool condition_layer) l)) (outs-Any (first ∷ c ∷ cs))
    ∙ each_whole (fold-Cond Bool condition_layer) (first ∷ c ∷ cs) (h, k)

compared_gives : (left : Operand) → Gives (compared left) WholeCondition
unfolding compared
compared_gives left =
    skip comparison (λ by. operand_form >>= (λ right. pure (cond.Test left by right))) WholeCondition
    (λ by. skip operand_form (λ right. pure (cond.Test left by right)) WholeCondition (λ right. done WholeCondition (cond.Test left by right) (whole_test left by right)))

null_test_gives : (of : Operand) → Gives (null_test of) WholeCondition
unfolding null_test
null_test_gives of =
    skip (word w.Is) (λ at. given (word w.Not) >>= (λ negated. word w.Null >>= (λ at. pure (cond.IsNull of negated)))) WholeCondition
    (λ at. skip (given (word w.Not)) (λ negated. word w.Null >>= (λ at. pure (cond.IsNull of negated))) WholeCondition
    (λ negated. skip (word w.Null) (λ at. pure (cond.IsNull of negated)) WholeCondition (λ at. done WholeCondition (cond.IsNull of negated) (whole_is_null of negated))))

test_gives : Gives test WholeCondition
unfolding test
test_gives =
    skip operand_form (λ left. either (compared left) (null_test left)) WholeCondition
    (λ left. or (compared left) (null_test left) WholeCondition (compared_gives left) (null_test_gives left))

not_gives : (n : Form Cond) → Gives n WholeCondition → Gives (not_form n) WholeCondition
unfolding not_form
not_gives n g = or n test WholeCondition g test_gives

and_gives : (n : Form Cond) → Gives n WholeCondition → Gives (and_part n) WholeCondition
unfolding and_part
and_gives n g = skip (word w.And) (λ at. not_form n) WholeCondition (λ at. not_gives n g)

all_gives : (n : Form Cond) → Gives n WholeCondition → Gives (all_form n) WholeCondition
unfolding all_form
all_gives n g =
    next (not_form n) (λ first. row behind (and_part n) [] >>= (λ rest. pure (all first rest))) WholeCondition WholeCondition (not_gives n g)
    (λ first p. next (row behind (and_part n) []) (λ rest. pure (all first rest)) (AllByRecursion WholeCondition) WholeCondition (many (and_part n) [] WholeCondition (and_gives n g) tt)
    (λ rest q. done WholeCondition (all first rest) (whole_all first rest p q)))

or_gives : (n : Form Cond) → Gives n WholeCondition → Gives (or_part n) WholeCondition
unfolding or_part
or_gives n g = skip (word w.Or) (λ at. all_form n) WholeCondition (λ at. all_gives n g)

cond_gives : (n : Form Cond) → Gives n WholeCondition → Gives (cond_form n) WholeCondition
unfolding cond_form
cond_gives n g =
    next (all_form n) (λ first. row behind (or_part n) [] >>= (λ rest. pure (any first rest))) WholeCondition WholeCondition (all_gives n g)
    (λ first p. next (row behind (or_part n) []) (λ rest. pure (any first rest)) (AllByRecursion WholeCondition) WholeCondition (many (or_part n) [] WholeCondition (or_gives n g) tt)
    (λ rest q. done WholeCondition (any first rest) (whole_any first rest p q)))

negated_gives : (n : Form Cond) → Gives n WholeCondition → Gives (negated n) WholeCondition
unfolding negated
negated_gives n g =
    skip (word w.Not) (λ at. not_form n >>= (λ c. pure (cond.Not c))) WholeCondition
    (λ at. next (not_form n) (λ c. pure (cond.Not c)) WholeCondition WholeCondition (not_gives n g) (λ c p. done WholeCondition (cond.Not c) (whole_not c p)))

nested_gives : (d : ℕ) → Gives (nested d) WholeCondition
unfolding nested
nested_gives zero =
    or (too_deep (λ t. some (word_kind w.Not t.start t.kind)) want.Word) (too_deep (λ t. some (sign_kind s.Open t.start t.kind)) want.Sign) WholeCondition
    (never (λ t. some (word_kind w.Not t.start t.kind)) want.Word WholeCondition) (never (λ t. some (sign_kind s.Open t.start t.kind)) want.Sign WholeCondition)
nested_gives (suc d) =
    or (negated (nested d)) (in_brackets (cond_form (nested d))) WholeCondition (negated_gives (nested d) (nested_gives d))
    (bracketed_gives (cond_form (nested d)) WholeCondition (cond_gives (nested d) (nested_gives d)))

condition_gives : (d : ℕ) → Gives (cond_form (nested d)) WholeCondition
condition_gives d = cond_gives (nested d) (nested_gives d)

where_gives : (d : ℕ) → Gives (where_form d) WholeCondition
unfolding where_form
where_gives d = skip (word w.Where) (λ at. cond_form (nested d)) WholeCondition (λ at. condition_gives d)

abbrev WholeFilter : Option Cond → Type 0
WholeFilter filter = whole_filter filter ≡ true

filter_whole : (filter : Option Cond) → WhereGiven WholeCondition filter → WholeFilter filter
filter_whole None h = refl
filter_whole (Some c) h = h

filter_gives : (d : ℕ) → Gives (optional (where_form d)) (WhereGiven WholeCondition)
filter_gives d = optional_gives (where_form d) WholeCondition (where_gives d)

-- names and tables
abbrev Anything : {X : Type 0} → X → Type 0
Anything x = Unit {0}

anything : {X : Type 0} (F : Form X) → Gives F Anything
anything F = record { give = λ ts rest x h. tt }

names_give : Gives names HasOne
unfolding names
names_give = weaken names (ListOf Anything) HasOne (bracketed_gives (list name) (ListOf Anything) (list_gives name Anything (anything name))) (λ xs l. l.0)

given_has_one : {X : Type 0} (xs : Option (List X)) → WhereGiven HasOne xs → HasOneWhereGiven xs
given_has_one None h = tt
given_has_one (Some xs) h = h

abbrev IsWholeEntry : Entry → Type 0
IsWholeEntry (Column c) = Unit {0}
IsWholeEntry (Key key) = HasOne key

column_entry_gives : Gives column_entry IsWholeEntry
unfolding column_entry
column_entry_gives = skip column_form (λ c. pure (Column c)) IsWholeEntry (λ c. done IsWholeEntry (Column c) tt)

key_entry_gives : Gives key_entry IsWholeEntry
unfolding key_entry
key_entry_gives =
    skip primary_key (λ at. names >>= (λ key. pure (Key key))) IsWholeEntry
    (λ at. next names (λ key. pure (Key key)) HasOne IsWholeEntry names_give (λ key p. done IsWholeEntry (Key key) p))

entry_gives : (key : Option (List Name)) → Gives (entry key) IsWholeEntry
unfolding entry
entry_gives None = after_comma (either column_entry key_entry) IsWholeEntry (or column_entry key_entry IsWholeEntry column_entry_gives key_entry_gives)
entry_gives (Some key) = never (λ t. false) want.Sign IsWholeEntry

abbrev AreWholeEntries : List ColumnForm × Option (List Name) → Type 0
AreWholeEntries so_far = HasOne so_far.0 × HasOneWhereGiven so_far.1

entry_keeps : (so_far : List ColumnForm × Option (List Name)) (e : Entry) → AreWholeEntries so_far → IsWholeEntry e → AreWholeEntries (with_entry so_far e)
entry_keeps so_far (Column c) h k = let long = length-append so_far.0 (c ∷ []) in let some = h.0 in (omega arith, h.1)
entry_keeps so_far (Key key) h k = (h.0, k)

entries_give : Gives entries AreWholeEntries
unfolding entries
entries_give =
    skip column_form (λ first. row_by with_entry (λ (so_far : List ColumnForm × Option (List Name)). entry so_far.1) (first ∷ [], None)) AreWholeEntries
    (λ first. many_by with_entry (λ (so_far : List ColumnForm × Option (List Name)). entry so_far.1) (first ∷ [], None) AreWholeEntries IsWholeEntry
    (λ so_far. entry_gives so_far.1) entry_keeps (omega arith, tt))

create_table_gives : Gives create_table IsWhole
unfolding create_table
create_table_gives =
    skip (word w.Table) (λ at. name >>= (λ name. in_brackets entries >>= (λ entries. pure (statement.CreateTable name entries.0 entries.1)))) IsWhole
    (λ at. skip name (λ name. in_brackets entries >>= (λ entries. pure (statement.CreateTable name entries.0 entries.1))) IsWhole
    (λ name. next (in_brackets entries) (λ entries. pure (statement.CreateTable name entries.0 entries.1)) AreWholeEntries IsWhole (bracketed_gives entries AreWholeEntries entries_give)
    (λ entries p. done IsWhole (statement.CreateTable name entries.0 entries.1) p)))

create_index_gives : Gives create_index IsWhole
unfolding create_index
create_index_gives =
    skip (word w.Index) (λ at. name >>= (λ index. word w.On >>= (λ at. name >>= (λ table. names >>= (λ columns. pure (statement.CreateIndex index table columns)))))) IsWhole
    (λ at. skip name (λ index. word w.On >>= (λ at. name >>= (λ table. names >>= (λ columns. pure (statement.CreateIndex index table columns))))) IsWhole
    (λ index. skip (word w.On) (λ at. name >>= (λ table. names >>= (λ columns. pure (statement.CreateIndex index table columns)))) IsWhole
    (λ at. skip name (λ table. names >>= (λ columns. pure (statement.CreateIndex index table columns))) IsWhole
    (λ table. next names (λ columns. pure (statement.CreateIndex index table columns)) HasOne IsWhole names_give
    (λ columns p. done IsWhole (statement.CreateIndex index table columns) p)))))

create_gives : Gives create IsWhole
unfolding create
create_gives = skip (word w.Create) (λ at. either create_table create_index) IsWhole (λ at. or create_table create_index IsWhole create_table_gives create_index_gives)

-- changes
tuple_gives : Gives tuple HasValue
unfolding tuple
tuple_gives =
    skip (sign s.Open) (λ at. list literal >>= (λ values. sign s.Close >>= (λ end. pure (record { at = at; values = values })))) HasValue
    (λ at. next (list literal) (λ values. sign s.Close >>= (λ end. pure (record { at = at; values = values }))) (ListOf Anything) HasValue (list_gives literal Anything (anything literal))
    (λ values p. skip (sign s.Close) (λ end. pure (record { at = at; values = values })) HasValue (λ end. done HasValue (record { at = at; values = values }) p.0)))

insert_gives : Gives insert IsWhole
unfolding insert
insert_gives =
    skip (word w.Insert) (λ at. word w.Into >>= (λ at. name >>= (λ table. optional names >>= (λ columns. word w.Values >>= (λ at. list tuple >>= (λ tuples. pure (statement.Insert table columns tuples))))))) IsWhole
    (λ at. skip (word w.Into) (λ at. name >>= (λ table. optional names >>= (λ columns. word w.Values >>= (λ at. list tuple >>= (λ tuples. pure (statement.Insert table columns tuples)))))) IsWhole
    (λ at. skip name (λ table. optional names >>= (λ columns. word w.Values >>= (λ at. list tuple >>= (λ tuples. pure (statement.Insert table columns tuples))))) IsWhole
    (λ table. next (optional names) (λ columns. word w.Values >>= (λ at. list tuple >>= (λ tuples. pure (statement.Insert table columns tuples)))) (WhereGiven HasOne) IsWhole (optional_gives names HasOne names_give)
    (λ columns p. skip (word w.Values) (λ at. list tuple >>= (λ tuples. pure (statement.Insert table columns tuples))) IsWhole
    (λ at. next (list tuple) (λ tuples. pure (statement.Insert table columns tuples)) (ListOf HasValue) IsWhole (list_gives tuple HasValue tuple_gives)
    (λ tuples q. done IsWhole (statement.Insert table columns tuples) (given_has_one columns p, q.0, q.1)))))))

set_item_gives : (d : ℕ) → Gives (set_item d) IsWholeSet
unfolding set_item
set_item_gives d =
    skip name (λ column. sign s.Equal >>= (λ at. expr (bracketed d) >>= (λ value. pure (record { column = column; value = value })))) IsWholeSet
    (λ column. skip (sign s.Equal) (λ at. expr (bracketed d) >>= (λ value. pure (record { column = column; value = value }))) IsWholeSet
    (λ at. next (expr (bracketed d)) (λ value. pure (record { column = column; value = value })) WholeExpression IsWholeSet (expression_gives d)
    (λ value p. done IsWholeSet (record { column = column; value = value }) p)))

update_gives : (d : ℕ) → Gives (update d) IsWhole
unfolding update
update_gives d =
    skip (word w.Update) (λ at. name >>= (λ table. word w.Set >>= (λ at. list (set_item d) >>= (λ sets. optional (where_form d) >>= (λ filter. pure (statement.Update table sets filter)))))) IsWhole
    (λ at. skip name (λ table. word w.Set >>= (λ at. list (set_item d) >>= (λ sets. optional (where_form d) >>= (λ filter. pure (statement.Update table sets filter))))) IsWhole
    (λ table. skip (word w.Set) (λ at. list (set_item d) >>= (λ sets. optional (where_form d) >>= (λ filter. pure (statement.Update table sets filter)))) IsWhole
    (λ at. next (list (set_item d)) (λ sets. optional (where_form d) >>= (λ filter. pure (statement.Update table sets filter))) (ListOf IsWholeSet) IsWhole (list_gives (set_item d) IsWholeSet (set_item_gives d))
    (λ sets p. next (optional (where_form d)) (λ filter. pure (statement.Update table sets filter)) (WhereGiven WholeCondition) IsWhole (filter_gives d)
    (λ filter q. done IsWhole (statement.Update table sets filter) (p.0, p.1, filter_whole filter q))))))

delete_gives : (d : ℕ) → Gives (delete d) IsWhole
unfolding delete
delete_gives d =
    skip (word w.Delete) (λ at. word w.From >>= (λ at. name >>= (λ table. optional (where_form d) >>= (λ filter. pure (statement.Delete table filter))))) IsWhole
    (λ at. skip (word w.From) (λ at. name >>= (λ table. optional (where_form d) >>= (λ filter. pure (statement.Delete table filter)))) IsWhole
    (λ at. skip name (λ table. optional (where_form d) >>= (λ filter. pure (statement.Delete table filter))) IsWhole
    (λ table. next (optional (where_form d)) (λ filter. pure (statement.Delete table filter)) (WhereGiven WholeCondition) IsWhole (filter_gives d)
    (λ filter q. done IsWhole (statement.Delete table filter) (filter_whole filter q)))))

-- SELECT
abbrev WholeForm : SelectForm → Type 0
WholeForm form = whole_form form ≡ true

shown_gives : (d : ℕ) → Gives (shown_expr d) WholeForm
unfolding shown_expr
shown_gives d = next (expr (bracketed d)) (λ e. pure (shown.Expr e)) WholeExpression WholeForm (expression_gives d) (λ e p. done WholeForm (shown.Expr e) p)

count_gives : Gives count WholeForm
unfolding count all_rows counted
count_gives =
    skip (word w.Count) (λ at. in_brackets (either all_rows counted)) WholeForm
    (λ at. bracketed_gives (either all_rows counted) WholeForm (or all_rows counted WholeForm (skip (sign s.Star) (λ at. pure shown.CountRows) WholeForm (λ at. done WholeForm shown.CountRows refl))
    (skip column (λ c. pure (shown.Count c)) WholeForm (λ c. done WholeForm (shown.Count c) refl))))

aggregate_gives : (called : Word) (shows : ColumnName → SelectForm) → ((c : ColumnName) → WholeForm (shows c)) → Gives (aggregate called shows) WholeForm
unfolding aggregate
aggregate_gives called shows f =
    skip (word called) (λ at. in_brackets column >>= (λ c. pure (shows c))) WholeForm
    (λ at. skip (in_brackets column) (λ c. pure (shows c)) WholeForm (λ c. done WholeForm (shows c) (f c)))

select_form_gives : (d : ℕ) → Gives (select_form d) WholeForm
unfolding select_form sum least greatest
select_form_gives d =
    or (shown_expr d) (either count (either sum (either least greatest))) WholeForm (shown_gives d)
    (or count (either sum (either least greatest)) WholeForm count_gives
    (or sum (either least greatest) WholeForm (aggregate_gives w.Sum (λ c. shown.Sum c) (λ c. refl))
    (or least greatest WholeForm (aggregate_gives w.Min (λ c. shown.Min c) (λ c. refl)) (aggregate_gives w.Max (λ c. shown.Max c) (λ c. refl)))))

select_item_gives : (d : ℕ) → Gives (select_item d) IsWholeItem
unfolding select_item
select_item_gives d =
    next (placed (select_form d)) (λ item. pure (record { at = item.0; form = item.1 })) (λ (item : ℕ × SelectForm). WholeForm item.1) IsWholeItem
    (with_place (select_form d) WholeForm (select_form_gives d)) (λ item p. done IsWholeItem (record { at = item.0; form = item.1 }) p)

items_give : (d : ℕ) → Gives (items d) AreWholeItems
unfolding items all_columns some_items
items_give d =
    or all_columns (some_items d) AreWholeItems (skip (sign s.Star) (λ at. pure None) AreWholeItems (λ at. done AreWholeItems None tt))
    (next (list (select_item d)) (λ items. pure (Some items)) (ListOf IsWholeItem) AreWholeItems (list_gives (select_item d) IsWholeItem (select_item_gives d)) (λ items p. done AreWholeItems (Some items) p))

abbrev IsPlain : FromItem → Type 0
IsPlain item = ◌≡◌ {A = Option Cond} item.on None

from_item_gives : Gives from_item IsPlain
unfolding from_item
from_item_gives =
    skip name (λ table. optional (either as_name name) >>= (λ called. pure (record { table = table; called = called; on = None }))) IsPlain
    (λ table. skip (optional (either as_name name)) (λ called. pure (record { table = table; called = called; on = None })) IsPlain
    (λ called. done IsPlain (record { table = table; called = called; on = None }) refl))

joined_gives : (d : ℕ) → Gives (joined d) IsWholeJoin
unfolding joined
joined_gives d =
    skip (either inner_join (word w.Join)) (λ at. from_item >>= (λ item. word w.On >>= (λ at. cond_form (nested d) >>= (λ on. pure (record { table = item.table; called = item.called; on = Some on }))))) IsWholeJoin
    (λ at. skip from_item (λ item. word w.On >>= (λ at. cond_form (nested d) >>= (λ on. pure (record { table = item.table; called = item.called; on = Some on })))) IsWholeJoin
    (λ item. skip (word w.On) (λ at. cond_form (nested d) >>= (λ on. pure (record { table = item.table; called = item.called; on = Some on }))) IsWholeJoin
    (λ at. next (cond_form (nested d)) (λ on. pure (record { table = item.table; called = item.called; on = Some on })) WholeCondition IsWholeJoin (condition_gives d)
    (λ on p. done IsWholeJoin (record { table = item.table; called = item.called; on = Some on }) p))))

more_from_gives : (d : ℕ) → Gives (more_from d) IsWholeJoin
unfolding more_from
more_from_gives d =
    or (comma from_item) (joined d) IsWholeJoin
    (weaken (comma from_item) IsPlain IsWholeJoin (after_comma from_item IsPlain from_item_gives) (λ item p. ap whole_filter p)) (joined_gives d)

join_behind : (items : List FromItem) (item : FromItem) → AreWholeJoins items → IsWholeJoin item → AreWholeJoins (items ++ item ∷ [])
join_behind [] item h k = absurd h
join_behind (first ∷ items) item h k = (h.0, all_behind IsWholeJoin items item h.1 k)

from_items_give : (d : ℕ) → Gives (from_items d) AreWholeJoins
unfolding from_items
from_items_give d =
    next from_item (λ first. row behind (more_from d) (first ∷ [])) IsPlain AreWholeJoins from_item_gives
    (λ first p. many_by behind (λ so_far. more_from d) (first ∷ []) AreWholeJoins IsWholeJoin (λ so_far. more_from_gives d) join_behind (p, tt))

-- what stands behind the FROM items
abbrev select_end : ℕ → Option (List SelectItem) → List FromItem → Form Statement
select_end d shown from = do
  filter ← optional (where_form d)
  group ← list_or_none group_by
  order ← list_or_none order_by
  most ← optional limit
  pure (statement.Select shown from filter group order most)

select_end_gives : (d : ℕ) (shown : Option (List SelectItem)) (from : List FromItem) → AreWholeItems shown → AreWholeJoins from → Gives (select_end d shown from) IsWhole
select_end_gives d shown from p q =
    next (optional (where_form d))
    (λ filter. list_or_none group_by >>= (λ group. list_or_none order_by >>= (λ order. optional limit >>= (λ most. pure (statement.Select shown from filter group order most)))))
    (WhereGiven WholeCondition) IsWhole (filter_gives d)
    (λ filter r. skip (list_or_none group_by) (λ group. list_or_none order_by >>= (λ order. optional limit >>= (λ most. pure (statement.Select shown from filter group order most)))) IsWhole
    (λ group. skip (list_or_none order_by) (λ order. optional limit >>= (λ most. pure (statement.Select shown from filter group order most))) IsWhole
    (λ order. skip (optional limit) (λ most. pure (statement.Select shown from filter group order most)) IsWhole
    (λ most. done IsWhole (statement.Select shown from filter group order most) (p, q, filter_whole filter r)))))

select_gives : (d : ℕ) → Gives (select d) IsWhole
unfolding select
select_gives d =
    skip (word w.Select) (λ at. items d >>= (λ items. word w.From >>= (λ at. from_items d >>= (λ from. select_end d items from)))) IsWhole
    (λ at. next (items d) (λ items. word w.From >>= (λ at. from_items d >>= (λ from. select_end d items from))) AreWholeItems IsWhole (items_give d)
    (λ items p. skip (word w.From) (λ at. from_items d >>= (λ from. select_end d items from)) IsWhole
    (λ at. next (from_items d) (λ from. select_end d items from) AreWholeJoins IsWhole (from_items_give d) (λ from q. select_end_gives d items from p q))))

-- the others
abbrev IsNode : ℕ → Type 0
IsNode n = (1 ≤ n) × (n ≤ 16)

node_within : (a b : Bool) (n m : ℕ) → nat_lt 0 n ≡ a → nat_lt n 17 ≡ b → ◌≡◌ {A = Option ℕ} (if a && b then Some n else None) (Some m) → IsNode m
node_within true true n m e f h =
    let is : n ≡ m = cc in
    let least : 1 ≤ n = grind (arith, nat_tests) in
    let most : n ≤ 16 = grind (arith, nat_tests) in
    subst IsNode is (least, most)
node_within true false n m e f h = absurd cc
node_within false b n m e f h = absurd cc

node_picked : (k : Kind) (n : ℕ) → node_kind k ≡ Some n → IsNode n
node_picked (kind.Number n) m h = node_within (nat_lt 0 n) (nat_lt n 17) n m refl refl h
node_picked (kind.Word x) m h = absurd cc
node_picked (kind.Name x) m h = absurd cc
node_picked (kind.Text x) m h = absurd cc
node_picked (kind.Sign x) m h = absurd cc
node_picked kind.Other m h = absurd cc

recover_gives : Gives recover IsWhole
unfolding recover node
recover_gives =
    skip (word w.Recover) (λ at. one want.Number (λ t. node_kind t.kind) >>= (λ node. pure (statement.Recover node))) IsWhole
    (λ at. next (one want.Number (λ t. node_kind t.kind)) (λ node. pure (statement.Recover node)) IsNode IsWhole (token want.Number (λ t. node_kind t.kind) IsNode (λ t. node_picked t.kind))
    (λ node p. done IsWhole (statement.Recover node) p))

statement_gives : (d : ℕ) → Gives (statement_form d) IsWhole
unfolding statement_form begin commit rollback
statement_gives d =
    or create (either insert (either (update d) (either (delete d) (either (select d) (either begin (either commit (either rollback recover))))))) IsWhole create_gives
    (or insert (either (update d) (either (delete d) (either (select d) (either begin (either commit (either rollback recover)))))) IsWhole insert_gives
    (or (update d) (either (delete d) (either (select d) (either begin (either commit (either rollback recover))))) IsWhole (update_gives d)
    (or (delete d) (either (select d) (either begin (either commit (either rollback recover)))) IsWhole (delete_gives d)
    (or (select d) (either begin (either commit (either rollback recover))) IsWhole (select_gives d)
    (or begin (either commit (either rollback recover)) IsWhole (skip (word w.Begin) (λ at. pure statement.Begin) IsWhole (λ at. done IsWhole statement.Begin tt))
    (or commit (either rollback recover) IsWhole (skip (word w.Commit) (λ at. pure statement.Commit) IsWhole (λ at. done IsWhole statement.Commit tt))
    (or rollback recover IsWhole (skip (word w.Rollback) (λ at. pure statement.Rollback) IsWhole (λ at. done IsWhole statement.Rollback tt)) recover_gives)))))))

sentence_gives : (d : ℕ) → Gives (sentence d) IsWhole
unfolding sentence
sentence_gives d =
    next (statement_form d) (λ x. ending >>= (λ end. pure x)) IsWhole IsWhole (statement_gives d) (λ x p. skip ending (λ end. pure x) IsWhole (λ end. done IsWhole x p))

pub whole_law : (d : ℕ) (ts : List Token) (x : Statement) → IsStatement d ts x → IsWhole x
whole_law d ts x h = (sentence_gives d).give ts [] x h
