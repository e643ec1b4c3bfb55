-- Rows and statements of accounts that no bound script has.
use Rattle.std.proofs.Common.{◌≡◌, ◌<◌, ℕ, Bool, true, false, List, [], ◌∷◌, Some, None, refl, ap, arith}
use Rattle.std.specs.Prelude.{◌&&◌}
use Rattle.tl_lemmas.proofs.Tests.{never_both}
use Rattle.tl_values.specs.declared.value.Comparison.TheVariants as comparison
use Rattle.tl_values.specs.declared.value.Kind.{Kind}
use Rattle.tl_values.specs.declared.value.Kind.TheVariants as kind
use Rattle.tl_values.specs.declared.value.Value.{Value}
use Rattle.tl_values.specs.declared.value.Value.TheVariants as value
use Rattle.tl_algebra.specs.declared.condition.Condition.{Condition}
use Rattle.tl_algebra.specs.declared.condition.Condition.TheVariants as condition
use Rattle.tl_algebra.specs.declared.condition.Side.TheVariants as side
use Rattle.tl_algebra.specs.declared.edit.Edit.TheVariants.{Update, Delete}
use Rattle.tl_algebra.specs.declared.expression.Expression.TheVariants as expression
use Rattle.tl_algebra.specs.declared.query.Join.{Join}
use Rattle.tl_algebra.specs.declared.query.Output.{Output}
use Rattle.tl_algebra.specs.declared.query.Output.TheVariants as output
use Rattle.tl_algebra.specs.declared.query.Query.{Query}
use Rattle.tl_algebra.specs.declared.query.Sort.{Sort}
use Rattle.tl_algebra.specs.declared.query.SortBy.TheVariants as by
use Rattle.tl_isolation.specs.Kinds.{gives_kind}
use Rattle.tl_isolation.specs.Queries.{SuitsQuery, is_over}
use Rattle.tl_isolation.specs.Tables.{FitsTable, OpensTable, Suits}
use Rattle.tl_isolation.proofs.Computed.{alike_test, kind_of_literal}
use Rattle.tl_isolation.proofs.Grouped.{over_place}
use Rattle.tl_protocol.proofs.Account.{account, bank, number, with_balance}

abbrev some_text : Value
some_text = value.Text (97 ∷ [])

-- a text where a balance stands
pub text_for_a_balance : FitsTable account (number 1 ∷ some_text ∷ []) → ⊥
text_for_a_balance h = never_both false h.kinds refl

-- a row of a second table
pub row_of_no_table : OpensTable bank (record { table = 1; row = with_balance 1 10 }) → ⊥
row_of_no_table h = let below : 1 < 1 = h.table in omega (arith, below)

-- SET balance = 'a'
pub set_to_a_text : Suits bank (Update 0 (record { column = 1; value = expression.Literal some_text } ∷ []) None) → ⊥
set_to_a_text h =
    never_both (gives_kind account.columns (expression.Literal some_text) kind.Int && true) h.change.1
    (ap (λ (g : Kind → Bool). g kind.Int && true) (kind_of_literal account.columns some_text))

-- SET of a third column
pub set_of_no_column : Suits bank (Update 0 (record { column = 2; value = expression.Literal (number 1) } ∷ []) None) → ⊥
set_of_no_column h = never_both false h.change.1 refl

-- DELETE WHERE id = 'a'
pub compared_with_a_text : Suits bank (Delete 0 (Some (condition.Test (side.Place 0) comparison.Equal (side.Literal some_text)))) → ⊥
compared_with_a_text h = never_both _ h.change (alike_test account.columns (side.Place 0) comparison.Equal (side.Literal some_text))

-- a SELECT of five tables
abbrev of_five : Query → Query
of_five query = record query { from = item ∷ item ∷ item ∷ item ∷ item ∷ [] }
  where
    item : Join
    item = record { table = 0; on = None }

pub select_of_five : (query : Query) → SuitsQuery bank (of_five query) → ⊥
select_of_five query h = let few = h.few in omega (arith, few)

-- the outputs, groups and order of a SELECT of the account table
abbrev of_account : Query → List Output → List ℕ → List Sort → Query
of_account query outputs group sort = record query { from = record { table = 0; on = None } ∷ []; outputs = outputs; group = group; sort = sort }

-- SELECT balance, COUNT(*)
pub column_beside_a_count : (query : Query) → SuitsQuery bank (of_account query (output.Expression (expression.Place 1) ∷ output.CountRows ∷ []) [] []) → ⊥
column_beside_a_count query h =
    never_both (is_over [] (expression.Place 1) && true) (h.grouped refl).0 (ap (λ (b : Bool). b && true) (over_place [] 1))

-- SELECT balance .. GROUP BY id
pub column_beside_a_group : (query : Query) → SuitsQuery bank (of_account query (output.Expression (expression.Place 1) ∷ []) (0 ∷ []) []) → ⊥
column_beside_a_group query h =
    never_both (is_over (0 ∷ []) (expression.Place 1) && true) (h.grouped refl).0 (ap (λ (b : Bool). b && true) (over_place (0 ∷ []) 1))

-- SELECT COUNT(*) .. GROUP BY id ORDER BY balance
pub sorted_beside_a_group : (query : Query) → SuitsQuery bank (of_account query (output.CountRows ∷ []) (0 ∷ []) (record { by = by.Place 1; descending = false } ∷ [])) → ⊥
sorted_beside_a_group query h = never_both false (h.grouped refl).1 refl

-- a SELECT that prints no column
pub select_of_no_column : (query : Query) → SuitsQuery bank (of_account query [] [] []) → ⊥
select_of_no_column query h = let some = h.prints in omega (arith, some)

-- FROM account ON ..
pub first_with_on : (query : Query) (on : Condition) → SuitsQuery bank (record query { from = record { table = 0; on = Some on } ∷ [] }) → ⊥
first_with_on query on h = let none = h.starts in cc
