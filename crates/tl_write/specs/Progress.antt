-- What a statement has done so far, as the code keeps it.
use Rattle.std.specs.Prelude.{◌≡◌, List, Result, Ok, Err}
use Rattle.tl_write.specs.declared.fault.ChangeFault.{ChangeFault}
use Rattle.tl_write.specs.declared.judge.Progress.{Progress}
use Rattle.tl_write.specs.declared.write.Effect.{Effect}
use Rattle.tl_write.specs.declared.write.Write.{Write}
use Rattle.tl_write.specs.Fault.{IsFault}
use Rattle.tl_write.specs.Own.{fresh_count}

-- the rows that are counted and their writes
abbrev pub done : Progress → Effect
done progress = record { count = progress.count; writes = progress.writes }

-- the records that own doesn't write are counted
abbrev pub IsCounted : List Write → Progress → Type 0
IsCounted own progress = progress.fresh ≡ fresh_count own progress.writes

-- the call did what is meant, beside these own writes; want of memory says nothing
abbrev pub Meets : List Write → Result Progress ChangeFault → Result Effect ChangeFault → Type 0
Meets own (Ok progress) meant = (meant ≡ Ok (done progress)) × IsCounted own progress
Meets own (Err f) meant = IsFault f meant
