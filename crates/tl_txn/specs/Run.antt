-- A transaction's run: where it asks, and for whom.
use Rattle.std.specs.Prelude.{◌≡◌}
use Rattle.tl_txn.specs.declared.txn.Txn.{Txn}

-- it is of the same node, laid out the same
pub record IsSameRun (before after : Txn) : Type 0 where
  pub alloc_is : after.alloc ≡ before.alloc
  pub layout_is : after.layout ≡ before.layout
  pub node_is : after.node ≡ before.node
