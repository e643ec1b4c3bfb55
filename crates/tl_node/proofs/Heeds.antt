-- What a transaction did with a reply, by the step that the code met.
use Rattle.std.proofs.Common.{◌≡◌, Option, Some, ap, ◌∙◌, subst}
use Rattle.tl_base.specs.declared.place.Settings.{Settings}
use Rattle.tl_manager.specs.declared.mark.TxnStep.{TxnStep}
use Rattle.tl_ask.specs.declared.asked.Asked.{Asked}
use Rattle.tl_txn.specs.After.{IsTaken}
use Rattle.tl_txn.specs.Taken.{Taken}
use Rattle.tl_txn.specs.declared.phase.Phase.{Phase}

pub taken_by : (settings : Settings) (taken : Taken) (p : Phase) (asks : Option Asked) (result made : Option TxnStep) → result ≡ made
    → IsTaken settings taken (record { phase = p; next = asks; step = result }) → IsTaken settings taken (record { phase = p; next = asks; step = made })
taken_by settings taken p asks result made e h = subst (λ (step : Option TxnStep). IsTaken settings taken (record { phase = p; next = asks; step = step })) e h

pub made_by : (result : Option TxnStep) (x y : TxnStep) → result ≡ Some x → x ≡ y → result ≡ Some y
made_by result x y e f = e ∙ ap (λ (s : TxnStep). Some s) f
