-- The parts of a script, line by line.
use Rattle.std.specs.Prelude.{ℕ, ℤ, ◌==◌, Bool, true, false, not, ◌||◌, List, [], ◌∷◌, ◌++◌, Option, codes, if◌then◌else◌}
use Rattle.std.specs.declared.option.Option.TheVariants.{Some, None}
use Rattle.std.specs.Ordering.{int_eq}
use Rattle.std.specs.List.{list_any}
use Rattle.std.specs.Str.{bytes_eq}
use Rattle.tl_values.specs.declared.value.Value.{Value}
use Rattle.tl_values.specs.declared.value.Value.TheVariants as value
use Rattle.tl_schema.specs.declared.catalog.OpeningRow.{OpeningRow}
use Rattle.tl_isolation.specs.declared.bound.Bound.{Bound}
use Rattle.tl_isolation.specs.declared.script.Script.{Script}
use Rattle.tl_isolation.specs.declared.script.Session.{Session}
use Rattle.tl_isolation.specs.declared.script.TurnItem.{TurnItem}
use Rattle.tl_isolation.specs.declared.script.Vanish.{Vanish}
use Rattle.tl_journal.specs.Schedule.{node_of}
use Rattle.tl_script.specs.declared.statement.Statement.{Statement}
use Rattle.tl_script.specs.declared.statement.Statement.TheVariants.{Insert}
use Rattle.tl_script.specs.Build.{bound_of, opening_row, table_of}
use Rattle.tl_script.specs.Directive.{item_in, vanish_in}
use Rattle.tl_script.specs.Fields.{fields_of}
use Rattle.tl_script.specs.Node.{node_in}
use Rattle.tl_script.specs.Statement.{Names, ◌>>=◌, statement_in}

-- what was read of a script behind its table
pub record Parts : Type 0 where
  pub rows : List OpeningRow
  pub sessions : List Session
  pub turns : List TurnItem
  pub vanishes : List Vanish

abbrev pub no_parts : Parts
no_parts = record { rows = []; sessions = []; turns = []; vanishes = [] }

abbrev pub script_with : Names → Parts → Script
script_with names parts =
    record {
      catalog = record { tables = table_of names ∷ [] };
      rows = parts.rows;
      sessions = parts.sessions;
      turns = parts.turns;
      vanishes = parts.vanishes;
    }

abbrev pub is_none : {A : Type 0} → List A → Bool
is_none [] = true
is_none (x ∷ xs) = false

-- behind a schedule nothing else comes
abbrev pub has_schedule : Parts → Bool
has_schedule parts = not (is_none parts.turns) || not (is_none parts.vanishes)

abbrev pub has_session : ℕ → Parts → Bool
has_session node parts = list_any (λ (s : Session). s.node == node) parts.sessions

abbrev pub has_vanish : ℕ → Parts → Bool
has_vanish node parts = list_any (λ (v : Vanish). v.node == node) parts.vanishes

-- whether a row has this number in its first column
abbrev pub is_of_key : ℤ → List Value → Bool
is_of_key key (value.Int k ∷ values) = int_eq k key
is_of_key key values = false

abbrev pub has_key : ℤ → List OpeningRow → Bool
has_key key rows = list_any (λ (o : OpeningRow). is_of_key key o.row) rows

-- where something is amiss there is no such script
abbrev pub unless : {A : Type 0} → Bool → A → Option A
unless amiss x = if amiss then None else Some x

-- a further session begins
abbrev pub with_node : Parts → ℕ → Option Parts
with_node parts node =
    unless (has_schedule parts || has_session node parts) (record parts { sessions = parts.sessions ++ record { node = node; statements = [] } ∷ [] })

abbrev pub take_node : List (List ℕ) → Parts → Option Parts
take_node [] parts = None
take_node (digits ∷ []) parts = do
  node ← node_in digits
  with_node parts node
take_node (digits ∷ other ∷ fields) parts = None

-- the statement behind those of the last session
abbrev pub said_last : Bound → List Session → List Session
said_last statement [] = []
said_last statement (s ∷ []) = record s { statements = s.statements ++ statement ∷ [] } ∷ []
said_last statement (s ∷ t ∷ sessions) = s ∷ said_last statement (t ∷ sessions)

-- before all sessions a statement is an opening row, of a key that isn't there
abbrev pub take_opening : Statement → Parts → Option Parts
take_opening (Insert key other) parts =
    unless (has_key key parts.rows) (record parts { rows = parts.rows ++ opening_row key other ∷ [] })
take_opening statement parts = None

abbrev pub placed : Statement → Parts → Option Parts
placed statement parts =
    if is_none parts.sessions then take_opening statement parts
    else Some (record parts { sessions = said_last (bound_of statement) parts.sessions })

abbrev pub take_statement : Names → List ℕ → Parts → Option Parts
take_statement names line parts = do
  statement ← statement_in names line
  if has_schedule parts then None else placed statement parts

-- an item of the schedule is of a node with a session
abbrev pub with_item : Parts → TurnItem → Option Parts
with_item parts item = unless (not (has_session (node_of item) parts)) (record parts { turns = parts.turns ++ item ∷ [] })

abbrev pub take_item : List ℕ → Parts → Option Parts
take_item field parts = do
  item ← item_in field
  with_item parts item

abbrev pub take_items : List (List ℕ) → Parts → Option Parts
take_items [] parts = Some parts
take_items (field ∷ fields) parts = do
  parts ← take_item field parts
  take_items fields parts

-- one item or more
abbrev pub take_turns : List (List ℕ) → Parts → Option Parts
take_turns [] parts = None
take_turns (field ∷ fields) parts = take_items (field ∷ fields) parts

-- a node with a session vanishes once
abbrev pub with_vanish : Parts → Vanish → Option Parts
with_vanish parts v =
    unless (not (has_session v.node parts) || has_vanish v.node parts) (record parts { vanishes = parts.vanishes ++ v ∷ [] })

abbrev pub take_vanish : List (List ℕ) → Parts → Option Parts
take_vanish fields parts = do
  v ← vanish_in fields
  with_vanish parts v

-- a directive, by its first field, or a statement
abbrev pub take_by : Names → List ℕ → List (List ℕ) → Parts → Option Parts
take_by names line [] parts = take_statement names line parts
take_by names line (head ∷ fields) parts =
    if bytes_eq head (codes "@node") then take_node fields parts
    else if bytes_eq head (codes "@turns") then take_turns fields parts
    else if bytes_eq head (codes "@vanish") then take_vanish fields parts
    else take_statement names line parts

-- the parts after one line more; none where the line has no form that is built, or doesn't stand where it may
unfoldable pub take_line : Names → List ℕ → Parts → Option Parts
take_line names line parts = take_by names line (fields_of line) parts
