-- Statements on one table, account (id INT PRIMARY KEY, balance INT NOT NULL), with what they come to.
use Rattle.std.proofs.Common.{◌≡◌, ℕ, ◌^◌, ℤ, pos, negsuc, Bool, true, false, List, [], ◌∷◌, Option, Some, None, refl, sym, ap, ◌∙◌, subst, arith}
use Rattle.std.specs.Prelude.{◌==◌, ◌&&◌, ◌||◌, option_and_then, slice_set, if◌then◌else◌}
use Rattle.std.specs.List.{AllByRecursion, cons_option}
use Rattle.std.proofs.lemmas.Bool.{ltb-true}
use Rattle.tl_values.specs.declared.value.Comparison.TheVariants as comparison
use Rattle.tl_values.specs.declared.value.Kind.{Kind}
use Rattle.tl_values.specs.declared.value.Kind.TheVariants as kind
use Rattle.tl_values.specs.declared.value.Value.{Value}
use Rattle.tl_values.specs.declared.value.Value.TheVariants as value
use Rattle.tl_values.specs.Key.{IsValue, key_bytes}
use Rattle.tl_values.specs.Value.{compared, value_at}
use Rattle.tl_schema.specs.declared.access.Access.TheVariants as access
use Rattle.tl_schema.specs.declared.catalog.Catalog.{Catalog}
use Rattle.tl_schema.specs.declared.catalog.OpeningRow.{OpeningRow}
use Rattle.tl_schema.specs.declared.catalog.Setup.{Setup}
use Rattle.tl_schema.specs.declared.catalog.Table.{Table}
use Rattle.tl_schema.specs.Record.{record_key}
use Rattle.tl_algebra.specs.declared.condition.Condition.{Condition, Condition-F}
use Rattle.tl_algebra.specs.declared.condition.Condition.TheFolds.{fold_out-Condition, map-Condition}
use Rattle.tl_algebra.specs.declared.condition.Condition.TheVariants as condition
use Rattle.tl_algebra.specs.declared.condition.Condition.TheVariants.{outs-Test}
use Rattle.tl_algebra.specs.declared.condition.Side.TheVariants as side
use Rattle.tl_algebra.specs.declared.expression.Expression.{Expression}
use Rattle.tl_algebra.specs.declared.expression.Expression.TheFolds.{fold-Expression, fold_out-Expression, map-Expression}
use Rattle.tl_algebra.specs.declared.expression.Expression.TheVariants as expression
use Rattle.tl_algebra.specs.declared.expression.Expression.TheVariants.{outs-Literal, outs-Place}
use Rattle.tl_algebra.specs.declared.expression.Operator.{Operator}
use Rattle.tl_algebra.specs.declared.line.Line.{Line}
use Rattle.tl_algebra.specs.declared.query.Output.{Output}
use Rattle.tl_algebra.specs.declared.query.Output.TheVariants as output
use Rattle.tl_algebra.specs.declared.query.Query.{Query}
use Rattle.tl_algebra.specs.Group.{groups}
use Rattle.tl_algebra.specs.Select.{before, each, first_of, line_of, lines_of, selected, with_keys}
use Rattle.tl_algebra.specs.Truth.{is_true, lets_through, truth_layer, truth_of}
use Rattle.tl_algebra.specs.Value.{calculated, chained, fits, value_layer, value_of}
use Rattle.tl_algebra.proofs.Chains.{value_of_chain}
use Rattle.tl_plan.specs.Access.{ColumnTest, access_of, test_by, tests_of}
use Rattle.tl_plan.specs.Law.{HasKey}
use Rattle.tl_isolation.specs.Kinds.{condition_fits, gives_kind}
use Rattle.tl_isolation.specs.Tables.{FitsTable, IsAccepted, OpensTable}
use Rattle.tl_isolation.proofs.Computed.{alike_test, kind_of_chain, kind_of_literal, kind_of_place}
use Rattle.tl_protocol.specs.Store.{Key}
use Rattle.tl_protocol.specs.Run.{Layout}
use Rattle.tl_protocol.proofs.Meanings.{Row, Selecting, Updating}

abbrev pub account : Table
account =
    record {
      name = [];
      columns = record { name = []; kind = kind.Int; not_null = true } ∷ record { name = []; kind = kind.Int; not_null = true } ∷ [];
      key = 0 ∷ [];
      indexes = [];
    }

abbrev pub bank : Catalog
bank = record { tables = account ∷ [] }

abbrev pub number : ℕ → Value
number n = value.Int (pos n)

-- an account with this balance
abbrev pub with_balance : ℕ → ℕ → Row
with_balance id balance = number id ∷ number balance ∷ []

abbrev pub opening_rows : List Row → List OpeningRow
opening_rows [] = []
opening_rows (row ∷ rows) = record { table = 0; row = row } ∷ opening_rows rows

abbrev pub opens_with : List Row → Setup
opens_with rows = record { catalog = bank; rows = opening_rows rows; settings = record { shards = 1; managers = 1; fan = 4; budget = 100; threads = false } }

-- one manager, and cells with stamp 0
abbrev pub one_manager : Layout
one_manager = record { home = λ n. 0; top = 0; at_home = λ n. omega arith; stamps = λ k. 0; commits_stamp = 0 }

-- the record key of an account
abbrev pub key_of_id : ℕ → Key
key_of_id id = record_key 0 account (with_balance id 0)

-- ---- what expressions and conditions come to

pub value_of_place : (at : ℕ) (row : Row) → value_of (expression.Place at) row ≡ Some (value_at row at)
unfolding value_of
value_of_place at row =
    fold_out-Expression (Option Value) (value_layer row) (expression.Place at)
    ∙ ap (λ l. value_layer row (map-Expression Expression (Option Value) (fold-Expression (Option Value) (value_layer row)) l)) (outs-Place at)

pub value_of_literal : (v : Value) (row : Row) → value_of (expression.Literal v) row ≡ Some v
unfolding value_of
value_of_literal v row =
    fold_out-Expression (Option Value) (value_layer row) (expression.Literal v)
    ∙ ap (λ l. value_layer row (map-Expression Expression (Option Value) (fold-Expression (Option Value) (value_layer row)) l)) (outs-Literal v)

-- a column and a number
abbrev pub figured : ℕ → Operator → ℕ → Expression
figured at sign n = expression.Chain (expression.Place at) (record { by = sign; of = expression.Literal (number n) } ∷ [])

pub value_of_figured : (at : ℕ) (sign : Operator) (n : ℕ) (row : Row) → value_of (figured at sign n) row ≡ calculated (value_at row at) sign (number n)
value_of_figured at sign n row =
    value_of_chain (figured at sign n) row (expression.Place at) (record { by = sign; of = expression.Literal (number n) } ∷ []) refl
    ∙ λ i. chained (value_of_place at row i) (record { by = sign; of = value_of_literal (number n) row i } ∷ [])

pub is_value : (z : ℤ) → fits z ≡ true → IsValue (value.Int z)
is_value (pos n) e = record { sfits = ltb-true n (2 ^ 63) e }
is_value (negsuc n) e = record { sfits = ltb-true n (2 ^ 63) e }

-- a column is this number
abbrev pub equals : ℕ → ℕ → Condition
equals at n = condition.Test (side.Place at) comparison.Equal (side.Literal (number n))

pub lets_equal : (at n : ℕ) (row : Row) → lets_through (Some (equals at n)) row ≡ is_true (compared (value_at row at) comparison.Equal (number n))
unfolding truth_of
lets_equal at n row =
    ap is_true
    (fold_out-Condition _ (truth_layer row) (equals at n)
    ∙ ap (λ l. truth_layer row (map-Condition Condition _ (λ c. truth_of c row) l)) (outs-Test (side.Place at) comparison.Equal (side.Literal (number n))))

tests_equal : (place n : ℕ) → tests_of place (Some (equals 0 n)) ≡ cons_option (if 0 == place && true && true then Some (record { by = comparison.Equal; value = number n }) else None) []
tests_equal place n =
    let out = outs-Test (side.Place 0) comparison.Equal (side.Literal (number n)) in
    rw out (ap (λ (l : Condition-F Condition). cons_option (test_by place l) []) out)

pub access_equal : (n : ℕ) → access_of account 0 (Some (equals 0 n)) ≡ access.Point (key_bytes (number n ∷ []))
access_equal n = rw (tests_equal 0 n) refl

pub equal_compares : (n place : ℕ) → IsValue (number n) → AllByRecursion (λ (t : ColumnTest). IsValue t.value) (tests_of place (Some (equals 0 n)))
equal_compares n place f = subst (AllByRecursion (λ (t : ColumnTest). IsValue t.value)) (sym (tests_equal place n)) (one (0 == place && true && true))
  where
    one : (b : Bool) → AllByRecursion (λ (t : ColumnTest). IsValue t.value) (cons_option (if b then Some (record { by = comparison.Equal; value = number n }) else None) [])
    one true = (f, tt)
    one false = tt

-- an account's column and a number that fits make a number
pub figured_kind : (sign : Operator) (n : ℕ) → fits (pos n) ≡ true → gives_kind account.columns (figured 1 sign n) kind.Int ≡ true
figured_kind sign n f =
    ap (λ (g : Kind → Bool). g kind.Int) (kind_of_chain account.columns (expression.Place 1) (record { by = sign; of = expression.Literal (number n) } ∷ []))
    ∙ (λ i. kind_of_place account.columns 1 i kind.Int && (kind_of_literal account.columns (number n) i kind.Int && true))
    ∙ ap (λ (b : Bool). b && true) f

pub literal_kind : (n : ℕ) → fits (pos n) ≡ true → gives_kind account.columns (expression.Literal (number n)) kind.Int ≡ true
literal_kind n f = ap (λ (g : Kind → Bool). g kind.Int) (kind_of_literal account.columns (number n)) ∙ f

-- a column of an account is compared with a number that fits
pub equals_alike : (n : ℕ) → fits (pos n) ≡ true → condition_fits account.columns (Some (equals 0 n)) ≡ true
equals_alike n f =
    alike_test account.columns (side.Place 0) comparison.Equal (side.Literal (number n)) ∙ ap (λ (b : Bool). b || (false || (false || false))) f

-- an account of numbers that fit
pub fits_account : (id balance : ℕ) → fits (pos id) ≡ true → fits (pos balance) ≡ true → FitsTable account (with_balance id balance)
fits_account id balance e f = record { width = refl; values = (is_value (pos id) e, (is_value (pos balance) f, tt)); kinds = refl }

pub opens_account : (id balance : ℕ) → fits (pos id) ≡ true → fits (pos balance) ≡ true → IsAccepted account (with_balance id balance)
    → OpensTable bank (record { table = 0; row = with_balance id balance })
opens_account id balance e f a = record { table = omega arith; fits = fits_account id balance e f; accepted = a }

-- ---- the statements

pub has_key : HasKey account
has_key = (omega arith, tt)

-- SET balance = balance SIGN n WHERE id = k, of numbers that fit
abbrev pub changing_one : (sign : Operator) (n k : ℕ) → fits (pos n) ≡ true → fits (pos k) ≡ true → Updating bank
changing_one sign n k g f =
    record {
      number = 0;
      sets = record { column = 1; value = figured 1 sign n } ∷ [];
      where_ = Some (equals 0 k);
      changed = λ row. option_and_then (λ (v : Value). Some (slice_set row 1 v)) (calculated (value_at row 1) sign (number n));
      changed_so = λ row. ap (option_and_then (λ (v : Value). Some (slice_set row 1 v))) (value_of_figured 1 sign n row);
      takes = λ row. is_true (compared (value_at row 0) comparison.Equal (number k));
      takes_so = lets_equal 0 k;
      access = access.Point (key_bytes (number k ∷ []));
      access_so = access_equal k;
      keyed = has_key;
      compares = λ place. equal_compares k place (is_value (pos k) f);
      suits = record { table = omega arith; change = (refl, ap (λ (b : Bool). b && true) (figured_kind sign n g), equals_alike k f) };
    }

-- SET balance = n
abbrev pub setting_all : (n : ℕ) → fits (pos n) ≡ true → Updating bank
setting_all n f =
    record {
      number = 0;
      sets = record { column = 1; value = expression.Literal (number n) } ∷ [];
      where_ = None;
      changed = λ row. Some (slice_set row 1 (number n));
      changed_so = λ row. ap (option_and_then (λ (v : Value). Some (slice_set row 1 v))) (value_of_literal (number n) row);
      takes = λ row. true;
      takes_so = λ row. refl;
      access = access.Whole;
      access_so = refl;
      keyed = has_key;
      compares = λ place. tt;
      suits = record { table = omega arith; change = (refl, ap (λ (b : Bool). b && true) (literal_kind n f), refl) };
    }

-- of one table, without WHERE
abbrev pub selecting : List Output → Query
selecting outputs = record { from = record { table = 0; on = None } ∷ []; filter = None; group = []; outputs = outputs; sort = []; limit = None }

-- SELECT SUM(balance) FROM account
abbrev pub sum_query : Query
sum_query = selecting (output.Sum 1 ∷ [])

abbrev pub sum_lines : List (List Row) → Option (List Line)
sum_lines tables = each (line_of sum_query) (groups sum_query (selected sum_query tables))

pub sum_so : (tables : List (List Row)) → lines_of sum_query (selected sum_query tables) ≡ sum_lines tables
unfolding lines_of
sum_so tables = refl

abbrev pub sum_of_balances : Selecting
sum_of_balances = record { query = sum_query; lines = sum_lines; lines_so = sum_so }

-- SELECT * FROM account
abbrev pub all_query : Query
all_query = selecting (output.Expression (expression.Place 0) ∷ output.Expression (expression.Place 1) ∷ [])

abbrev pub row_line : List Row → Option Line
row_line rows = with_keys [] (first_of rows) (before (Some (value_at (first_of rows) 0)) (before (Some (value_at (first_of rows) 1)) (Some [])))

abbrev pub all_lines : List (List Row) → Option (List Line)
all_lines tables = each row_line (groups all_query (selected all_query tables))

pub all_so : (tables : List (List Row)) → lines_of all_query (selected all_query tables) ≡ all_lines tables
unfolding lines_of
all_so tables =
    λ i. each (λ (rows : List Row). with_keys [] (first_of rows) (before (value_of_place 0 (first_of rows) i) (before (value_of_place 1 (first_of rows) i) (Some []))))
    (groups all_query (selected all_query tables))

abbrev pub all_rows : Selecting
all_rows = record { query = all_query; lines = all_lines; lines_so = all_so }
