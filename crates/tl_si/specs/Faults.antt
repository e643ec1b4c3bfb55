-- Why there is no state after the entries.
use Rattle.std.specs.Prelude.{ℕ, ◌<◌, List, take, length, slice_get, IfSome}
use Rattle.tl_schema.specs.declared.catalog.Setup.{Setup}
use Rattle.tl_isolation.specs.declared.entry.Entry.{Entry}
use Rattle.tl_isolation.specs.History.{IsHistory, state_after}
use Rattle.tl_isolation.specs.Step.{Allowed}
use Rattle.tl_si.specs.declared.history.CheckFault.{CheckFault}
use Rattle.tl_si.specs.declared.history.CheckFault.TheVariants.{FirstFault, NoMemory}

-- the entry at this place isn't allowed after those before it, which are a history
pub record BreaksAt (setup : Setup) (entries : List Entry) (at : ℕ) : Type 0 where
  pub within : at < length entries
  pub before : IsHistory setup (take at entries)
  pub refused : IfSome (slice_get entries at) (λ entry. Allowed setup.catalog (state_after setup (take at entries)) entry → ⊥)

-- nothing says when memory is wanting
abbrev pub IsFault : Setup → List Entry → CheckFault → Type 0
IsFault setup entries (FirstFault at) = BreaksAt setup entries at
IsFault setup entries NoMemory = Unit {0}
