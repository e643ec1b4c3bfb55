-- What a commit has taken memory for.
use Rattle.std.specs.Prelude.{◌≡◌, ◌<◌, ◌^◌, length}
use Rattle.tl_logrec.specs.Entry.{spelling}
use Rattle.tl_logrec.specs.declared.entry.Flag.TheVariants as flag
use Rattle.tl_txn.specs.Attempt.{Attempt, entry_of}
use Rattle.tl_txn.specs.declared.prepare.Preparation.{Preparation}

-- the values of the log cell of this attempt
pub record AreValues (a : Attempt) (p : Preparation) : Type 0 where
  pub floor_is : p.floor ≡ a.floor
  pub trying_is : p.trying ≡ spelling (entry_of a flag.Trying)
  pub decided_is : p.decided ≡ spelling (entry_of a flag.Decided)
  pub undone_is : p.undone ≡ spelling (entry_of a flag.Undone)
  pub few : length a.own < 2 ^ 32
