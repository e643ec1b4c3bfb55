-- What a transaction is, asks and tells after a reply, as code hands it out.
use Rattle.std.specs.Prelude.{◌≡◌, ◌⊎◌, Option, Some, None}
use Rattle.tl_base.specs.declared.place.Settings.{Settings}
use Rattle.tl_manager.specs.declared.mark.Mark.{Mark}
use Rattle.tl_manager.specs.declared.mark.Mark.TheVariants as mark
use Rattle.tl_manager.specs.declared.mark.TxnStep.{TxnStep}
use Rattle.tl_manager.specs.declared.mark.TxnStep.TheVariants as step
use Rattle.tl_ask.specs.declared.asked.Asked.{Asked}
use Rattle.tl_ask.specs.Asked.{asked}
use Rattle.tl_journal.specs.Ask.{Ask}
use Rattle.tl_txn.specs.declared.after.After.{After}
use Rattle.tl_txn.specs.declared.phase.Phase.TheVariants as phase
use Rattle.tl_txn.specs.Taken.{Taken}

abbrev pub asked_next : Settings → Option Ask → Option Asked
asked_next settings None = None
asked_next settings (Some ask) = Some (asked settings ask)

abbrev pub does : Settings → Taken → After
does settings taken = record { phase = taken.phase; next = asked_next settings taken.ask; step = taken.step }

-- it met want of memory
abbrev pub out : Mark → After
out mark = record { phase = phase.Stopped; next = None; step = Some (step.NoMemory mark) }

-- the mark that is told at want of memory: a version outside the snapshot may not have been found yet
abbrev pub IsKnown : Mark → Mark → Type 0
IsKnown (mark.Clashed tid rival place) told = (told ≡ mark.Clashed tid rival place) ⊎ (told ≡ mark.Quiet)
IsKnown meant told = told ≡ meant

abbrev pub IsTold : Option TxnStep → Mark → Type 0
IsTold None told = Unit {0}
IsTold (Some (step.Going meant)) told = IsKnown meant told
IsTold (Some (step.Ready meant)) told = IsKnown meant told
IsTold (Some (step.Leaf meant)) told = IsKnown meant told
IsTold (Some (step.Ended meant)) told = IsKnown meant told
IsTold (Some (step.NoMemory meant)) told = IsKnown meant told

abbrev pub Stops : Taken → After → Mark → Type 0
Stops taken after told = (after ≡ out told) × IsTold taken.step told

-- it does what it takes the reply for, or stops for want of memory
abbrev pub IsTaken : Settings → Taken → After → Type 0
IsTaken settings taken after = by after.step
  where
    by : Option TxnStep → Type 0
    by None = after ≡ does settings taken
    by (Some (step.Going told)) = after ≡ does settings taken
    by (Some (step.Ready told)) = after ≡ does settings taken
    by (Some (step.Leaf told)) = after ≡ does settings taken
    by (Some (step.Ended told)) = after ≡ does settings taken
    by (Some (step.NoMemory told)) = Stops taken after told
