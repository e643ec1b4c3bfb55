-- A list of entries is a history: each is allowed where it stands.
use Rattle.std.specs.Prelude.{◌≡◌, List, [], ◌∷◌}
use Rattle.tl_schema.specs.declared.catalog.Catalog.{Catalog}
use Rattle.tl_schema.specs.declared.catalog.Setup.{Setup}
use Rattle.tl_isolation.specs.declared.entry.Entry.{Entry}
use Rattle.tl_isolation.specs.declared.state.SiState.{SiState}
use Rattle.tl_isolation.specs.State.{opening_state}
use Rattle.tl_isolation.specs.Step.{Allowed, after}

-- one entry is one step of the machine
abbrev pub Step : Catalog → SiState → Entry → SiState → Type 0
Step catalog old e new = Allowed catalog old e × (new ≡ after catalog old e)

-- the state after these entries
abbrev pub state_from : Catalog → SiState → List Entry → SiState
state_from catalog state [] = state
state_from catalog state (e ∷ es) = state_from catalog (after catalog state e) es

-- each entry is allowed after those before it
abbrev pub IsHistoryFrom : Catalog → SiState → List Entry → Type 0
IsHistoryFrom catalog state [] = Unit {0}
IsHistoryFrom catalog state (e ∷ es) = Allowed catalog state e × IsHistoryFrom catalog (after catalog state e) es

abbrev pub state_after : Setup → List Entry → SiState
state_after setup entries = state_from setup.catalog (opening_state setup) entries

abbrev pub IsHistory : Setup → List Entry → Type 0
IsHistory setup entries = IsHistoryFrom setup.catalog (opening_state setup) entries
