-- A statement has no more rows of values than tokens.
use Rattle.std.specs.Prelude.{ℕ, ◌≤◌, List, length}
use Rattle.tl_grammar.specs.declared.statement.Statement.{Statement}
use Rattle.tl_grammar.specs.declared.statement.Statement.TheVariants as statement
use Rattle.tl_grammar.specs.Token.{Token}
use Rattle.tl_grammar.specs.Grammar.{IsStatement}

-- how many rows of values the statement has
abbrev pub tuple_count : Statement → ℕ
tuple_count (statement.CreateTable name columns key) = 0
tuple_count (statement.CreateIndex name table columns) = 0
tuple_count (statement.Insert table columns tuples) = length tuples
tuple_count (statement.Update table sets filter) = 0
tuple_count (statement.Delete table filter) = 0
tuple_count (statement.Select items from filter group order limit) = 0
tuple_count statement.Begin = 0
tuple_count statement.Commit = 0
tuple_count statement.Rollback = 0
tuple_count (statement.Recover node) = 0

abbrev pub TuplesAreFew : Type 0
TuplesAreFew = (d : ℕ) (ts : List Token) (x : Statement) → IsStatement d ts x → tuple_count x ≤ length ts
