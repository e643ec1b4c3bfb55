-- A node that reads, and what its transaction finds.
use Rattle.std.specs.Prelude.{◌≡◌, List, [], ◌∷◌, ◌++◌, Some, None}
use Rattle.tl_base.specs.declared.place.Settings.{Settings}
use Rattle.tl_values.specs.declared.value.Value.{Value}
use Rattle.tl_schema.specs.declared.catalog.Catalog.{Catalog}
use Rattle.tl_manager.specs.declared.mark.Mark.{Mark}
use Rattle.tl_manager.specs.declared.mark.Mark.TheVariants as mark
use Rattle.tl_manager.specs.declared.mark.TxnStep.TheVariants as step
use Rattle.tl_isolation.specs.declared.bound.Bound.{Bound}
use Rattle.tl_isolation.specs.declared.entry.Answer.{Answer}
use Rattle.tl_protocol.specs.World.{Txn}
use Rattle.tl_journal.specs.Ask.{Heard}
use Rattle.tl_journal.specs.Asks.{asks_doing}
use Rattle.tl_journal.specs.Node.{Reading, Node}
use Rattle.tl_journal.specs.Reads as law
use Rattle.tl_journal.specs.Reads.{Reads, after_read}
use Rattle.tl_journal.specs.Says.{says_read}
use Rattle.tl_journal.specs.Takes.{after_reply, goes_on, stopped, takes_read, with_doing}
use Rattle.tl_txn.specs.Follows.{HasFound, law_read}
use Rattle.tl_txn.specs.Taken.{Taken, takes_reading}
use Rattle.tl_txn.specs.declared.phase.Open.{Open}
use Rattle.tl_txn.specs.declared.phase.Phase.TheVariants as phase
use Rattle.tl_txn.specs.declared.phase.Read.{Read}

-- the transaction awaits the reply to the first read that is left to its node, and these are left behind it
pub record Awaits (t : Txn) (reads : Reads) (live : Open) (r : Read) (left : List law.Read) : Type 0 where
  pub snapshot_is : live.snapshot ≡ t.snapshot
  pub left_are : reads.left ≡ law_read r ∷ left

-- the read goes on: both have found these rows more
pub record NodeReadGoes (settings : Settings) (catalog : Catalog) (node : Node) (statement : Bound) (t : Txn) (reads : Reads) (live : Open) (left : List law.Read) (heard : Heard) (told : Answer) (taken : Taken) (marked : Mark) : Type 0 where
  pub next_live : Open
  pub next_read : Read
  pub next_reads : Reads
  pub found : List (List Value)
  pub mark_is : marked ≡ mark.Quiet
  pub phase_is : taken.phase ≡ phase.Reading next_live next_read
  pub finds : HasFound live next_live found
  pub rows_are : next_reads.rows ≡ reads.rows ++ found
  pub later_are : next_reads.later ≡ reads.later
  pub earlier_are : next_reads.earlier ≡ reads.earlier
  pub awaits : Awaits t next_reads next_live next_read left
  pub takes_is : takes_read settings catalog node statement t reads heard told ≡ with_doing node (Reading t next_reads)
  pub ask_is : asks_doing settings catalog (with_doing node (Reading t next_reads)) statement (Reading t next_reads) ≡ taken.ask
  pub says_is : says_read node statement t (after_reply settings t.snapshot reads reads.left heard) told ≡ []

-- it is done: the node goes on with these rows more
pub record NodeReadEnds (settings : Settings) (catalog : Catalog) (node : Node) (statement : Bound) (t : Txn) (reads : Reads) (live : Open) (left : List law.Read) (heard : Heard) (told : Answer) (taken : Taken) (marked : Mark) : Type 0 where
  pub next_live : Open
  pub found : List (List Value)
  pub mark_is : marked ≡ mark.Quiet
  pub phase_is : taken.phase ≡ phase.Ready next_live
  pub ask_is : taken.ask ≡ None
  pub finds : HasFound live next_live found
  pub after_is : after_reply settings t.snapshot reads reads.left heard ≡ Some (after_read reads left found)
  pub takes_is : takes_read settings catalog node statement t reads heard told ≡ goes_on catalog node statement t (after_read reads left found) told

-- it is a strange reply to both
pub record NodeReadStops (settings : Settings) (catalog : Catalog) (node : Node) (statement : Bound) (t : Txn) (reads : Reads) (heard : Heard) (told : Answer) : Type 0 where
  pub after_is : after_reply settings t.snapshot reads reads.left heard ≡ None
  pub takes_is : takes_read settings catalog node statement t reads heard told ≡ stopped node

abbrev pub NodeReadsOn : Type 0
NodeReadsOn = (settings : Settings) (catalog : Catalog) (node : Node) (statement : Bound) (t : Txn) (reads : Reads) (live : Open) (r : Read) (left : List law.Read) (heard : Heard) (told : Answer) (mark : Mark)
    → Awaits t reads live r left → (takes_reading settings live r heard).step ≡ Some (step.Going mark)
    → NodeReadGoes settings catalog node statement t reads live left heard told (takes_reading settings live r heard) mark

abbrev pub NodeReadsAll : Type 0
NodeReadsAll = (settings : Settings) (catalog : Catalog) (node : Node) (statement : Bound) (t : Txn) (reads : Reads) (live : Open) (r : Read) (left : List law.Read) (heard : Heard) (told : Answer) (mark : Mark)
    → Awaits t reads live r left → (takes_reading settings live r heard).step ≡ Some (step.Ready mark)
    → NodeReadEnds settings catalog node statement t reads live left heard told (takes_reading settings live r heard) mark

abbrev pub NodeReadsStop : Type 0
NodeReadsStop = (settings : Settings) (catalog : Catalog) (node : Node) (statement : Bound) (t : Txn) (reads : Reads) (live : Open) (r : Read) (left : List law.Read) (heard : Heard) (told : Answer)
    → Awaits t reads live r left → (takes_reading settings live r heard).step ≡ None
    → NodeReadStops settings catalog node statement t reads heard told
