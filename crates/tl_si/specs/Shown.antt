-- The state that the program keeps, as a state of snapshot isolation.
use Rattle.std.specs.Prelude.{◌≡◌, ℕ, ◌<◌, Bool, Option, Some, None, find, length, remove, slice_get}
use Rattle.tl_isolation.specs.declared.state.Transaction.{Transaction}
use Rattle.tl_isolation.specs.declared.state.SiState.{SiState}
use Rattle.tl_si.specs.declared.state.State.{State}

abbrev pub shown : State → SiState
shown s = record { commits = s.commits; begun = s.begun; vanished = s.vanished; held = s.held.items; nodes = s.nodes.items }

-- the transaction at this place is taken out
pub record IsOut (p : Transaction → Bool) (old : State) (at : ℕ) (t : Transaction) (new : State) : Type 0 where
  pub within : at < length old.held.items
  pub here : slice_get old.held.items at ≡ Some t
  pub first : find p old.held.items ≡ Some t
  pub rest : shown new ≡ record (shown old) { held = remove old.held.items at }

-- the first transaction that passes is taken out, if one does
abbrev pub TakesOut : (Transaction → Bool) → State → Option (ℕ × Transaction) → State → Type 0
TakesOut p old None new = find p old.held.items ≡ None
TakesOut p old (Some (at, t)) new = IsOut p old at t new
