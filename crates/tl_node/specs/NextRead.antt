-- The read that is next for a statement.
use Rattle.std.specs.Prelude.{◌≡◌, ◌<◌, ℕ, Option, Some, None, length, slice_get}
use Rattle.tl_schema.specs.declared.access.Access.{Access}
use Rattle.tl_write.specs.Change.{number_of}
use Rattle.tl_isolation.specs.declared.bound.Bound.{Bound}
use Rattle.tl_isolation.specs.declared.bound.Bound.TheVariants as bound
use Rattle.tl_plan.specs.Plan.{numbers_of}
use Rattle.tl_journal.specs.Reads.{read_of}
use Rattle.tl_ask.specs.Asked.{asked}
use Rattle.tl_txn.specs.Calls.{ask_read, reads}
use Rattle.tl_txn.specs.declared.txn.Txn.{Txn}
use Rattle.tl_node.specs.declared.work.Reading.{Reading}

-- the number of the table that the access at this place is of
abbrev pub table_number : Bound → ℕ → Option ℕ
table_number (bound.Select query) at = slice_get (numbers_of query) at
table_number (bound.Change edit) at = Some (number_of edit)
table_number statement at = None

-- an access at this place is of a table
abbrev pub ReadsAt : Bound → ℕ → Type 0
ReadsAt (bound.Select query) at = at < length query.from
ReadsAt (bound.Change edit) at = Unit {0}
ReadsAt statement at = ⊥

-- the transaction has begun the read in hand
pub record IsNextRead (statement : Bound) (reading : Reading) (before after : Txn) : Type 0 where
  pub number : ℕ
  pub access : Access
  pub number_is : table_number statement reading.at ≡ Some number
  pub access_is : slice_get reading.accesses reading.at ≡ Some access
  pub after_is : after ≡ record before { phase = reads (read_of number access) before.phase; next = Some (asked before.layout (ask_read (read_of number access))) }
