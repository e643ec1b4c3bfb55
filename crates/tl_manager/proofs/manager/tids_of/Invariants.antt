use Rattle.std.proofs.Common.{◌≡◌, ◌++◌, drop}
use Rattle.tl_manager.specs.Transactions.{tids_of}
use Rattle.tl_manager.proofs.manager.tids_of.Given as goal

-- the numbers so far, and then those of what is left
abbrev pub invariant-loop-transaction : goal.invariant-loop-transaction
invariant-loop-transaction l = l.tids ++ tids_of l.node (drop l.transaction-index l.active) ≡ tids_of l.node l.active
