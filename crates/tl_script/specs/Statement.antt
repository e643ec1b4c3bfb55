-- The lines that a script is made of, but its directives.
use Rattle.std.specs.Prelude.{ℕ, ℤ, not, ◌&&◌, List, Option, length, nat_eq, codes, if◌then◌else◌}
use Rattle.std.specs.declared.option.Option.TheVariants.{Some, None}
use Rattle.std.specs.Option.{option_and_then, option_or}
use Rattle.std.specs.Str.{bytes_eq}
use Rattle.tl_script.specs.declared.statement.Statement.{Statement}
use Rattle.tl_script.specs.declared.statement.TableNames.{TableNames}
use Rattle.tl_script.specs.declared.statement.Statement.TheVariants.{Begin, Commit, Rollback, Recover, Insert, SelectAll, Select, Update, Delete}
use Rattle.tl_script.specs.Lines.{after_text}
use Rattle.tl_script.specs.Name.{name_at}
use Rattle.tl_script.specs.Node.{node_in}
use Rattle.tl_script.specs.Number.{number_at}

-- each step of a form goes on from what the step before it left
infixl 10 ◌>>=◌
abbrev pub ◌>>=◌ : {A B : Type 0} → Option A → (A → Option B) → Option B
found >>= f = option_and_then f found

-- the names of the table, of its key column and of its other column
pub record Names : Type 0 where
  pub table : List ℕ
  pub key : List ℕ
  pub other : List ℕ

-- the names that lie in the script
abbrev pub names_seen : TableNames → Names
names_seen names = record { table = names.table.now; key = names.key.now; other = names.other.now }

-- CREATE TABLE name (name INT PRIMARY KEY, name INT)
unfoldable pub table_in : List ℕ → Option Names
table_in line = do
  rest ← after_text (codes "CREATE TABLE ") line
  table ← name_at rest
  rest ← after_text (codes " (") table.1
  key ← name_at rest
  rest ← after_text (codes " INT PRIMARY KEY, ") key.1
  other ← name_at rest
  if bytes_eq other.1 (codes " INT)") && not (bytes_eq key.0 other.0)
      then Some (record { table = table.0; key = key.0; other = other.0 })
      else None

-- BEGIN, COMMIT or ROLLBACK
unfoldable pub one_word_in : List ℕ → Option Statement
one_word_in line =
    if bytes_eq line (codes "BEGIN") then Some Begin
    else if bytes_eq line (codes "COMMIT") then Some Commit
    else if bytes_eq line (codes "ROLLBACK") then Some Rollback
    else None

-- RECOVER n
unfoldable pub recover_in : List ℕ → Option Statement
recover_in line = do
  digits ← after_text (codes "RECOVER ") line
  node ← node_in digits
  Some (Recover node)

-- INSERT INTO name VALUES (i, j)
unfoldable pub insert_in : Names → List ℕ → Option Statement
insert_in names line = do
  rest ← after_text (codes "INSERT INTO ") line
  rest ← after_text names.table rest
  rest ← after_text (codes " VALUES (") rest
  key ← number_at rest
  rest ← after_text (codes ", ") key.1
  other ← number_at rest
  if bytes_eq other.1 (codes ")") then Some (Insert key.0 other.0) else None

-- the number in WHERE name = i, at the end of a line
unfoldable pub where_key_in : Names → List ℕ → Option ℤ
where_key_in names rest = do
  rest ← after_text (codes " WHERE ") rest
  rest ← after_text names.key rest
  rest ← after_text (codes " = ") rest
  key ← number_at rest
  if nat_eq (length key.1) 0 then Some key.0 else None

-- SELECT * FROM name WHERE name = i
abbrev pub select_key_in : Names → List ℕ → Option Statement
select_key_in names rest = do
  key ← where_key_in names rest
  Some (Select key)

-- SELECT * FROM name, or with WHERE
unfoldable pub select_in : Names → List ℕ → Option Statement
select_in names line = do
  rest ← after_text (codes "SELECT * FROM ") line
  rest ← after_text names.table rest
  if nat_eq (length rest) 0 then Some SelectAll else select_key_in names rest

-- UPDATE name SET name = i WHERE name = j
unfoldable pub update_in : Names → List ℕ → Option Statement
update_in names line = do
  rest ← after_text (codes "UPDATE ") line
  rest ← after_text names.table rest
  rest ← after_text (codes " SET ") rest
  rest ← after_text names.other rest
  rest ← after_text (codes " = ") rest
  other ← number_at rest
  key ← where_key_in names other.1
  Some (Update other.0 key)

-- DELETE FROM name WHERE name = i
unfoldable pub delete_in : Names → List ℕ → Option Statement
delete_in names line = do
  rest ← after_text (codes "DELETE FROM ") line
  rest ← after_text names.table rest
  key ← where_key_in names rest
  Some (Delete key)

-- a statement on the table of these names
unfoldable pub statement_in : Names → List ℕ → Option Statement
statement_in names line =
    option_or (option_or (option_or (option_or (option_or (one_word_in line) (recover_in line)) (insert_in names line)) (select_in names line)) (update_in names line)) (delete_in names line)
