-- What the end of a transaction leaves.
use Rattle.std.specs.Prelude.{ℕ, Some, if◌then◌else◌}
use Rattle.tl_isolation.specs.declared.entry.Answer.{Answer}
use Rattle.tl_isolation.specs.declared.state.SiState.{SiState}
use Rattle.tl_isolation.specs.declared.state.TxnPhase.{TxnPhase}
use Rattle.tl_isolation.specs.State.{is_lost, without_held}
use Rattle.tl_isolation.specs.Step.{with_outcome}

-- no transaction of this number is held, and its node has this answer to give unless it has vanished
abbrev pub ended : ℕ → ℕ → TxnPhase → Answer → SiState → SiState
ended tid node phase told state =
    let left : SiState = record state { held = without_held tid state.held } in
    if is_lost phase then left else with_outcome node (Some told) left
