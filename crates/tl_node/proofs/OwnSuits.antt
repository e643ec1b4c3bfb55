-- The own writes of a node of the law stand under their own keys: so do those of the node that its code sees.
use Rattle.std.proofs.Common.{◌≡◌, ℕ, true, List, [], ◌∷◌, Option, Some}
use Rattle.std.specs.List.{AllByRecursion}
use Rattle.tl_base.specs.declared.place.Settings.{Settings}
use Rattle.tl_values.specs.declared.value.Value.{Value}
use Rattle.tl_schema.specs.declared.catalog.Catalog.{Catalog}
use Rattle.tl_schema.specs.Record.{record_key}
use Rattle.tl_write.specs.declared.write.Write.{Write}
use Rattle.tl_write.specs.Change.{number_of}
use Rattle.tl_write.specs.Tables.{is_in}
use Rattle.tl_isolation.specs.declared.bound.Bound.{Bound}
use Rattle.tl_isolation.specs.declared.bound.Bound.TheVariants as bound
use Rattle.tl_isolation.specs.Tables.{table_of}
use Rattle.tl_journal.specs.Asks.{course_in}
use Rattle.tl_journal.specs.Node.{Doing, Inside, Reading, Node}
use Rattle.tl_answer.specs.Own.{StandsUnderKey}
use Rattle.tl_ask.specs.Thin.{thin}
use Rattle.tl_node.specs.Fits.{OwnSuitsDoing, OwnSuitsNode, OwnSuitsStatement}
use Rattle.tl_node.specs.Seen.{seen, settled}
use Rattle.tl_node.proofs.Alike.{settled_elim}

-- what a transaction that takes statements has written
abbrev pub own_writes : Doing → List Write
own_writes (Inside t) = t.own
own_writes (Reading t reads) = t.own
own_writes doing = []

-- a row that is written into a table stands under its own record key
abbrev pub StandsUnderItsKey : Catalog → Write → Type 0
StandsUnderItsKey catalog w =
    (number : ℕ) (row : List Value) → is_in number w.key ≡ true → ◌≡◌ {A = Option (List Value)} w.row (Some row) → w.key ≡ record_key number (table_of catalog number) row

each_under : (catalog : Catalog) (number : ℕ) (own : List Write) → AllByRecursion (StandsUnderItsKey catalog) own
    → AllByRecursion (StandsUnderKey number (table_of catalog number)) own
each_under catalog number [] h = tt
each_under catalog number (w ∷ own) h = (λ row is_there is_row. h.0 number row is_there is_row, each_under catalog number own h.1)

statement_suits : (catalog : Catalog) (statement : Bound) (own : List Write) → AllByRecursion (StandsUnderItsKey catalog) own → OwnSuitsStatement catalog statement own
statement_suits catalog (bound.Change edit) own h = record { keyed = each_under catalog (number_of edit) own h }
statement_suits catalog statement own h = tt

doing_suits : (settings : Settings) (catalog : Catalog) (statement : Bound) (d : Doing) → AllByRecursion (StandsUnderItsKey catalog) (own_writes d)
    → OwnSuitsDoing catalog statement (thin (settled settings catalog statement d))
doing_suits settings catalog statement (Inside t) h =
    settled_elim (λ d. OwnSuitsDoing catalog statement (thin d)) settings t (course_in catalog t.stage statement) (statement_suits catalog statement t.own h)
    (λ reads e. statement_suits catalog statement t.own h) (λ e empty one. tt)
doing_suits settings catalog statement (Reading t reads) h = statement_suits catalog statement t.own h
doing_suits settings catalog statement d h = tt

pub own_suits : (settings : Settings) (catalog : Catalog) (n : Node) → AllByRecursion (StandsUnderItsKey catalog) (own_writes n.doing)
    → OwnSuitsNode catalog (seen settings catalog n)
own_suits settings catalog n h = by n.todo
  where
    by : (todo : List Bound) → OwnSuitsNode catalog (seen settings catalog (record n { todo = todo }))
    by [] = tt
    by (statement ∷ later) = doing_suits settings catalog statement n.doing h
