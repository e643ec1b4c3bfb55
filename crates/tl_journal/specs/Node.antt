-- How far a node is: in its session, with its transaction, and with the transactions of vanished nodes.
use Rattle.std.specs.Prelude.{ℕ, Bool, List, [], ◌∷◌, Option, filter, replicate}
use Rattle.tl_base.specs.NodeSet.{has_node, no_nodes}
use Rattle.tl_base.specs.declared.node.NodeSet.{NodeSet}
use Rattle.tl_base.specs.declared.place.Settings.{Settings}
use Rattle.tl_descriptor.specs.Tids.{TidSet}
use Rattle.tl_manager.specs.State.{opening_copy}
use Rattle.tl_write.specs.declared.write.Write.{Write}
use Rattle.tl_isolation.specs.declared.bound.Bound.{Bound}
use Rattle.tl_isolation.specs.declared.entry.Answer.{Answer}
use Rattle.tl_isolation.specs.declared.script.Session.{Session}
use Rattle.tl_protocol.specs.Store.{Key, CommitsCell, LogCell}
use Rattle.tl_protocol.specs.World.{Txn, Loaded, Decision}
use Rattle.tl_journal.specs.Reads.{Reads}

-- a transaction that stores its writes, in rising order of keys: its log cell's stamp, the writes whose versions stand,
-- and those that are left
pub record Storing : Type 0 where
  pub txn : Txn
  pub log : ℕ
  pub stored : List Write
  pub left : List Write

-- one that removes its versions: the rival, and the writes whose versions stand
pub record Removing : Type 0 where
  pub txn : Txn
  pub log : ℕ
  pub rival : ℕ
  pub left : List Write

-- the nodes that a recovery was given: the claimed one, all of them, and those behind the one in hand
pub record Claimed : Type 0 where
  pub node : ℕ
  pub all : NodeSet
  pub left : List ℕ

-- a transaction of a vanished node, and the others that were found of it
pub record Lost : Type 0 where
  pub node : ℕ
  pub tid : ℕ
  pub others : List ℕ

pub data Doing : Type 0 where
  -- between two requests outside a transaction
  Outside : Doing
  -- the commits cell was loaded
  Noted : TidSet → Doing
  -- the manager had no number
  Drawing : TidSet → Doing
  -- the 16 numbers above this one were drawn
  Bringing : TidSet → ℕ → Doing
  -- the transaction has begun; the present statement has read nothing yet
  Inside : Txn → Doing
  Reading : Txn → Reads → Doing
  -- another manager's low-water mark was asked for: the log cell is next
  Trying : Txn → Doing
  -- the record cell in hand
  Stores : Storing → Option Loaded → Doing
  Removes : Removing → Option Loaded → Doing
  -- the commits cell in hand
  Closing : Txn → Decision → Option CommitsCell → Doing
  Ending : ℕ → Answer → Doing
  -- the orphans of the first node that is left are to be asked for
  Recovering : Claimed → Doing
  ReadingLog : Claimed → Lost → Doing
  -- the log cell, and the records that are left
  Stripping : Claimed → Lost → LogCell → List Key → Option Loaded → Doing
  Finishing : Claimed → Lost → Bool → Option CommitsCell → Doing
  EndingLost : Claimed → Lost → Doing
  -- a reply came that no place of a run gives; the nodes that it was to recover
  Stopped : NodeSet → Doing

pub record Node : Type 0 where
  pub number : ℕ
  -- the statements that aren't answered, the present one first
  pub todo : List Bound
  pub answers : List Answer
  -- the low-water mark of each manager, as last told
  pub floors : List TidSet
  -- how often another manager was asked for its low-water mark
  pub asked_others : ℕ
  pub doing : Doing

abbrev pub opening_node : Settings → Session → Node
opening_node settings session =
    record {
      number = session.node;
      todo = session.statements;
      answers = [];
      floors = replicate settings.managers opening_copy;
      asked_others = 0;
      doing = Outside;
    }

-- the nodes of a set, in rising order
abbrev pub all_nodes : List ℕ
all_nodes = 1 ∷ 2 ∷ 3 ∷ 4 ∷ 5 ∷ 6 ∷ 7 ∷ 8 ∷ 9 ∷ 10 ∷ 11 ∷ 12 ∷ 13 ∷ 14 ∷ 15 ∷ 16 ∷ []

abbrev pub nodes_in : NodeSet → List ℕ
nodes_in nodes = filter (has_node nodes) all_nodes

-- the nodes that a vanishing node leaves to be recovered
abbrev pub owed_by : Doing → NodeSet
owed_by (Recovering c) = c.all
owed_by (ReadingLog c o) = c.all
owed_by (Stripping c o log keys l) = c.all
owed_by (Finishing c o committed l) = c.all
owed_by (EndingLost c o) = c.all
owed_by (Stopped nodes) = nodes
owed_by doing = no_nodes
