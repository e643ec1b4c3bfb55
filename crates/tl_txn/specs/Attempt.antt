-- A transaction that tries to commit.
use Rattle.std.specs.Prelude.{◌≡◌, ◌<◌, ℕ, ◌^◌, List, map, length}
use Rattle.tl_descriptor.specs.Tids.{TidSet}
use Rattle.tl_logrec.specs.Entry.{spelling}
use Rattle.tl_logrec.specs.declared.entry.Flag.{Flag}
use Rattle.tl_logrec.specs.declared.entry.Flag.TheVariants as flag
use Rattle.tl_logrec.specs.declared.entry.LogEntry.{LogEntry}
use Rattle.tl_write.specs.declared.write.Write.{Write}
use Rattle.tl_protocol.specs.World.{Txn, Stage}

-- its node, what it sees and writes, and the low-water mark down to which it drops old versions
pub record Attempt : Type 0 where
  pub node : ℕ
  pub tid : ℕ
  pub snapshot : TidSet
  pub own : List Write
  pub floor : TidSet

-- its log cell
abbrev pub entry_of : Attempt → Flag → LogEntry
entry_of a flag = record { tid = a.tid; node = a.node; flag = flag; writes = map (λ (o : Write). o.key) a.own }

-- as the node sees it
abbrev pub txn_of : Stage → Attempt → Txn
txn_of stage a = record { tid = a.tid; snapshot = a.snapshot; own = a.own; stage = stage }

-- the values of its log cell are at hand, and its writes have a number of four bytes
pub record IsPrepared (a : Attempt) (decided undone : List ℕ) : Type 0 where
  pub decided_is : decided ≡ spelling (entry_of a flag.Decided)
  pub undone_is : undone ≡ spelling (entry_of a flag.Undone)
  pub few : length a.own < 2 ^ 32
