-- The own writes of a transaction that is ready, lent to its node.
use Rattle.std.specs.Prelude.{List}
use Rattle.std.specs.Borrow.{Lends, MutBor, Fml}
use Rattle.tl_write.specs.declared.write.Write.{Write}
use Rattle.tl_write.specs.contracts.buffer.Buffer as buffer
use Rattle.tl_txn.specs.Calls.{with_own}
use Rattle.tl_txn.specs.contracts.phase.Phase as phase
use Rattle.tl_txn.specs.contracts.txn.Txn as txn
use Rattle.tl_txn.specs.declared.phase.Phase.{Phase}
use Rattle.tl_txn.specs.declared.txn.Txn.{Txn}

abbrev pub LendsOwnOf : MutBor Phase → MutBor (List Write) → Fml
LendsOwnOf s r = Lends phase.the_row buffer.the_row s r (with_own s.now)

abbrev pub LendsOwn : MutBor Txn → MutBor (List Write) → Fml
LendsOwn s r = Lends txn.the_row buffer.the_row s r (λ own. record s.now { phase = with_own s.now.phase own })
