-- What a call tells of a change.
use Rattle.std.specs.Prelude.{◌≡◌, Option, Some, None, Result, Ok, Err}
use Rattle.tl_algebra.specs.declared.fault.ValueFault.{ValueFault}
use Rattle.tl_algebra.specs.declared.fault.ValueFault.TheVariants as value
use Rattle.tl_write.specs.declared.fault.ChangeFault.{ChangeFault}
use Rattle.tl_write.specs.declared.fault.ChangeFault.TheVariants as fault

-- the fault is what is meant; want of memory says nothing
abbrev pub IsFault : {A : Type 0} → ChangeFault → Result A ChangeFault → Type 0
IsFault fault.NoMemory meant = Unit {0}
IsFault f meant = meant ≡ Err f

-- the call told what is meant; want of memory says nothing
abbrev pub Tells : {A : Type 0} → Result A ChangeFault → Result A ChangeFault → Type 0
Tells (Ok done) meant = meant ≡ Ok done
Tells (Err f) meant = IsFault f meant

abbrev pub value_fault : ValueFault → ChangeFault
value_fault value.Overflow = fault.Overflow
value_fault value.NoMemory = fault.NoMemory

-- the call found this offence, or none; want of memory says nothing
abbrev pub Finds : {A : Type 0} → Result A ChangeFault → Option ChangeFault → Type 0
Finds (Ok x) found = found ≡ None
Finds (Err fault.NoMemory) found = Unit {0}
Finds (Err f) found = found ≡ Some f
