-- The exit status of each reason.
use Rattle.std.specs.Prelude.{ℕ}
use Rattle.tl_tell.specs.declared.ended.Reason.{Reason}
use Rattle.tl_tell.specs.declared.ended.Reason.TheVariants.{Done, Words, Script, ReadFault, WriteFault, NoMemory, TooLong}

abbrev pub status_of : Reason → ℕ
status_of Done = 0
status_of (Words place) = 1
status_of (Script line kind) = 2
status_of ReadFault = 3
status_of WriteFault = 4
status_of NoMemory = 5
status_of TooLong = 6
