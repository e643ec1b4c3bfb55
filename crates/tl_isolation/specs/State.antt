-- The state of snapshot isolation: how it begins, and what is read off it.
use Rattle.std.specs.Prelude.{ℕ, ◌==◌, Bool, true, false, not, ◌&&◌, List, [], ◌∷◌, ◌++◌, Option, map, filter, find, take, is_none, unwrap_or, if◌then◌else◌}
use Rattle.std.specs.declared.option.Option.TheVariants.{None}
use Rattle.std.specs.FinMap as map
use Rattle.tl_base.specs.NodeSet.{no_nodes}
use Rattle.tl_schema.specs.declared.catalog.Setup.{Setup}
use Rattle.tl_isolation.specs.declared.entry.Answer.{Answer}
use Rattle.tl_isolation.specs.declared.entry.Answer.TheVariants as answer
use Rattle.tl_isolation.specs.declared.state.TxnPhase.{TxnPhase}
use Rattle.tl_isolation.specs.declared.state.TxnPhase.TheVariants as phase
use Rattle.tl_isolation.specs.declared.state.Commit.{Commit}
use Rattle.tl_isolation.specs.declared.state.Transaction.{Transaction}
use Rattle.tl_isolation.specs.declared.state.NodeState.{NodeState}
use Rattle.tl_isolation.specs.declared.state.SiState.{SiState}
use Rattle.tl_write.specs.Tables.{Tables, laid_over}
use Rattle.tl_isolation.specs.Tables.{opening_writes}

-- the opening rows are committed, and nothing else
abbrev pub opening_state : Setup → SiState
opening_state setup =
    record {
      commits = record { tid = 0; writes = opening_writes setup.catalog setup.rows } ∷ [];
      begun = [];
      vanished = no_nodes;
      held = [];
      nodes = [];
    }

-- the writes of the commits are laid over the tables, the first commit first
abbrev pub tables_from : Tables → List Commit → Tables
tables_from tables [] = tables
tables_from tables (c ∷ cs) = tables_from (laid_over tables c.writes) cs

-- the tables after these commits
abbrev pub tables_after : List Commit → Tables
tables_after commits = tables_from map.empty commits

-- what a transaction sees: the first commits in order, then its own writes
abbrev pub view_of : SiState → Transaction → Tables
view_of state t = laid_over (tables_after (take t.first state.commits)) t.own

-- the transaction that a node holds
abbrev pub held_by : ℕ → List Transaction → Option Transaction
held_by node held = find (λ t. t.node == node) held

-- the held transaction of this number
abbrev pub held_as : ℕ → List Transaction → Option Transaction
held_as tid held = find (λ t. t.tid == tid) held

abbrev pub without_held : ℕ → List Transaction → List Transaction
without_held tid held = filter (λ t. not (t.tid == tid)) held

-- the transaction in the place of the one of its number
abbrev pub put_held : Transaction → List Transaction → List Transaction
put_held t held = map (λ h. if h.tid == t.tid then t else h) held

abbrev pub idle : ℕ → NodeState
idle node = record { node = node; noted = None; outcome = None }

abbrev pub node_of : ℕ → List NodeState → NodeState
node_of node nodes = unwrap_or (find (λ s. s.node == node) nodes) (idle node)

abbrev pub is_idle : NodeState → Bool
is_idle s = is_none s.noted && is_none s.outcome

-- the node's state in the place of what it had; a node with nothing in hand isn't listed
abbrev pub put_node : NodeState → List NodeState → List NodeState
put_node s nodes = filter (λ o. not (o.node == s.node)) nodes ++ (if is_idle s then [] else s ∷ [])

abbrev pub is_live : TxnPhase → Bool
is_live phase.Live = true
is_live phase.Trying = false
is_live phase.Undoing = false
is_live phase.Lost = false

abbrev pub is_trying : TxnPhase → Bool
is_trying phase.Live = false
is_trying phase.Trying = true
is_trying phase.Undoing = false
is_trying phase.Lost = false

abbrev pub is_undoing : TxnPhase → Bool
is_undoing phase.Live = false
is_undoing phase.Trying = false
is_undoing phase.Undoing = true
is_undoing phase.Lost = false

abbrev pub is_lost : TxnPhase → Bool
is_lost phase.Live = false
is_lost phase.Trying = false
is_lost phase.Undoing = false
is_lost phase.Lost = true

-- live, outside BEGIN, and nothing was said in it yet
abbrev pub is_fresh : Transaction → Bool
is_fresh t = is_live t.phase && not t.opened && is_none t.unanswered

-- live, and opened by BEGIN
abbrev pub is_open : Transaction → Bool
is_open t = is_live t.phase && t.opened

abbrev pub is_refusal : Answer → Bool
is_refusal answer.Duplicate = true
is_refusal answer.Null = true
is_refusal answer.Overflow = true
is_refusal answer.Long = true
is_refusal answer.Many = true
is_refusal a = false
