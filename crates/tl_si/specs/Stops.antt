-- What one entry makes of the state that is kept.
use Rattle.std.specs.Prelude.{Result, Ok, Err}
use Rattle.tl_schema.specs.declared.catalog.Catalog.{Catalog}
use Rattle.tl_isolation.specs.declared.entry.Entry.{Entry}
use Rattle.tl_isolation.specs.History.{Step}
use Rattle.tl_isolation.specs.Step.{Allowed}
use Rattle.tl_si.specs.declared.state.State.{State}
use Rattle.tl_si.specs.declared.stop.Stop.{Stop}
use Rattle.tl_si.specs.declared.stop.Stop.TheVariants as stop
use Rattle.tl_si.specs.Shown.{shown}

-- where a call succeeded it was allowed, and else not; want of memory says nothing
abbrev pub IsCheck : {A : Type 0} → Type 0 → Result A Stop → Type 0
IsCheck may (Ok x) = may
IsCheck may (Err stop.Breaks) = may → ⊥
IsCheck may (Err stop.NoMemory) = Unit {0}

-- the entry is one step of the machine, or isn't allowed
abbrev pub Stepped : {A : Type 0} → Catalog → State → Entry → Result A Stop → State → Type 0
Stepped catalog old e (Ok x) new = Step catalog (shown old) e (shown new)
Stepped catalog old e (Err stop.Breaks) new = Allowed catalog (shown old) e → ⊥
Stepped catalog old e (Err stop.NoMemory) new = Unit {0}
