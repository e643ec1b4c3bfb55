-- The printed text of a run: what each session was answered, and the rows of each table after all commits.
use Rattle.std.specs.Prelude.{ℕ, ◌==◌, true, false, List, [], ◌∷◌, ◌++◌, Option, length, codes, decimal, if◌then◌else◌}
use Rattle.std.specs.declared.option.Option.TheVariants.{Some, None}
use Rattle.std.specs.Fmt.{signed_decimal}
use Rattle.std.specs.List.{flat_map, filter_map, join_by, enumerate_from}
use Rattle.tl_values.specs.declared.value.Value.{Value}
use Rattle.tl_values.specs.declared.value.Value.TheVariants as value
use Rattle.tl_schema.specs.declared.catalog.Table.{Table}
use Rattle.tl_base.specs.declared.place.Settings.{Settings}
use Rattle.tl_isolation.specs.declared.entry.Answer.{Answer}
use Rattle.tl_isolation.specs.declared.entry.Answer.TheVariants as answer
use Rattle.tl_isolation.specs.declared.entry.Ending.{Ending}
use Rattle.tl_isolation.specs.declared.entry.Ending.TheVariants as ending
use Rattle.tl_isolation.specs.declared.entry.Entry.{Entry}
use Rattle.tl_isolation.specs.declared.entry.Entry.TheVariants as entry
use Rattle.tl_isolation.specs.declared.script.Script.{Script}
use Rattle.tl_isolation.specs.declared.script.Session.{Session}
use Rattle.tl_isolation.specs.Script.{setup_of, answers_by}
use Rattle.tl_isolation.specs.Tables.{rows_in}
use Rattle.tl_write.specs.Tables.{Tables}
use Rattle.tl_isolation.specs.History.{state_after}
use Rattle.tl_isolation.specs.State.{tables_after}

-- a byte of a text: a quote stands twice
abbrev pub in_quotes : ℕ → List ℕ
in_quotes byte = if byte == 39 then codes "''" else byte ∷ []

abbrev pub value_text : Value → List ℕ
value_text value.Null = codes "NULL"
value_text (value.Bool true) = codes "TRUE"
value_text (value.Bool false) = codes "FALSE"
value_text (value.Int n) = signed_decimal n
value_text (value.Text t) = codes "'" ++ flat_map in_quotes t ++ codes "'"

-- the line of a row: its values, with a bar between each two
abbrev pub row_text : List Value → List ℕ
row_text row = join_by value_text (codes "|") row ++ codes "\n"

-- the lines of rows, in order
abbrev pub rows_text : List (List Value) → List ℕ
rows_text = flat_map row_text

abbrev pub answer_text : Answer → List ℕ
answer_text answer.Begun = codes "begun\n"
answer_text (answer.Rows rows) = codes "rows " ++ decimal (length rows) ++ codes "\n" ++ rows_text rows
answer_text (answer.Changed count) = codes "changed " ++ decimal count ++ codes "\n"
answer_text answer.Duplicate = codes "refused duplicate\n"
answer_text answer.Null = codes "refused null\n"
answer_text answer.Overflow = codes "refused overflow\n"
answer_text answer.Long = codes "refused long\n"
answer_text answer.Many = codes "refused many\n"
answer_text answer.Nested = codes "refused nested\n"
answer_text answer.Outside = codes "refused outside\n"
answer_text (answer.Conflict rival) = codes "conflict " ++ decimal rival ++ codes "\n"
answer_text answer.Committed = codes "committed\n"
answer_text answer.RolledBack = codes "rolled back\n"
answer_text (answer.Recovered node) = codes "recovered " ++ decimal node ++ codes "\n"
answer_text (answer.There node) = codes "there\n"

abbrev pub ending_text : Ending → List ℕ
ending_text ending.Vanished = codes "vanished\n"
ending_text ending.Spent = codes "spent\n"
ending_text ending.OutOfMemory = codes "out of memory\n"

-- the ending that an entry tells of a node, if it tells one
abbrev pub ending_at : ℕ → Entry → Option Ending
ending_at node (entry.Vanished gone ending) = if gone == node then Some ending else None
ending_at node e = None

-- how a node ended, where it ended before its last statement
abbrev pub endings_of : ℕ → List Entry → List Ending
endings_of node entries = filter_map (ending_at node) entries

-- a session: its node, the answers to its statements, and how the node ended
abbrev pub session_text : List Entry → Session → List ℕ
session_text entries s =
    codes "@node " ++ decimal s.node ++ codes "\n" ++ flat_map answer_text (answers_by s.node entries) ++ flat_map ending_text (endings_of s.node entries)

-- a table: its name, and its rows in the order of their keys
abbrev pub table_text : Tables → ℕ × Table → List ℕ
table_text tables (number, table) = codes "@table " ++ table.name ++ codes "\n" ++ rows_text (rows_in number tables)

-- the sessions in order of the script, with the answers and endings of these entries
abbrev pub sessions_text : List Session → List Entry → List ℕ
sessions_text sessions entries = flat_map (session_text entries) sessions

-- these tables, in order of creation
abbrev pub tables_text : List Table → Tables → List ℕ
tables_text catalog tables = flat_map (table_text tables) (enumerate_from 0 catalog)

-- the text of a run that tells these entries: all sessions, and all tables after all commits
abbrev pub printed : Script → Settings → List Entry → List ℕ
printed script settings entries =
    sessions_text script.sessions entries
    ++ tables_text script.catalog.tables (tables_after (state_after (setup_of script settings) entries).commits)
