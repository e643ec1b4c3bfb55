-- A node, as its code sees it.
use Rattle.std.specs.Prelude.{List, [], ◌∷◌, nat_le, if◌then◌else◌}
use Rattle.tl_base.specs.declared.place.Settings.{Settings}
use Rattle.tl_schema.specs.declared.catalog.Catalog.{Catalog}
use Rattle.tl_isolation.specs.declared.bound.Bound.{Bound}
use Rattle.tl_protocol.specs.Move.{is_empty}
use Rattle.tl_protocol.specs.World.{Txn}
use Rattle.tl_journal.specs.Node.{Doing, Outside, Inside, Reading, Trying, Node}
use Rattle.tl_journal.specs.Asks.{Course, ToRead, ToCommit, course_in}
use Rattle.tl_ask.specs.Thin.{thin}

-- what a statement comes to is begun as soon as the one before it is answered
abbrev pub settled_by : Settings → Txn → Course → Doing
settled_by settings t (ToRead reads) = Reading t reads
settled_by settings t ToCommit = if is_empty t.own then Inside t else (if nat_le settings.managers 1 then Trying t else Inside t)
settled_by settings t course = Inside t

abbrev pub settled : Settings → Catalog → Bound → Doing → Doing
settled settings catalog statement (Inside t) = settled_by settings t (course_in catalog t.stage statement)
settled settings catalog statement doing = doing

-- a node, as its code sees it
abbrev pub seen : Settings → Catalog → Node → Node
seen settings catalog node = by node.todo
  where
    by : List Bound → Node
    by [] = record node { doing = Outside }
    by (statement ∷ later) = record node { doing = thin (settled settings catalog statement node.doing) }
