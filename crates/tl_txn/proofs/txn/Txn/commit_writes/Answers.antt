use Rattle.std.proofs.Common.{◌≡◌, ℕ, ap, ◌∙◌}
use Rattle.tl_descriptor.specs.Tids.{TidSet}
use Rattle.tl_logrec.specs.declared.entry.Flag.TheVariants as flag
use Rattle.tl_txn.proofs.Calls.{tried}
use Rattle.tl_txn.specs.Attempt.{entry_of}
use Rattle.tl_txn.specs.Calls.{attempt_of}
use Rattle.tl_txn.specs.declared.phase.Open.{Open}
use Rattle.tl_txn.specs.declared.txn.Txn.{Txn}
use Rattle.tl_txn.proofs.txn.Txn.commit_writes.Goals as goal

pub returns-clause-ok : goal.returns-clause-ok
returns-clause-ok c =
    let t = c.args.self.now in
    let floor = c.args.floor.now in
    let live = c.live_in-live.result.now in
    let same : c.leave-live.result ≡ live = cc in
    let node : c.leave-live.new.self.node ≡ t.node = ap (λ (x : Txn). x.node) c.leave-live.ensures.left in
    let attempt =
    c.new.ensures ∙ ap (λ (n : ℕ). attempt_of n c.in_ok-floor.field-0.floor c.leave-live.result) node
    ∙ ap (λ (set : TidSet). attempt_of t.node set c.leave-live.result) c.in_ok-floor.ensures.floor_is
    ∙ ap (λ (x : Open). attempt_of t.node floor x) same in
    let asks = c.in_ok-ask.ensures (entry_of (attempt_of t.node floor live) flag.Trying) c.in_ok-floor.ensures.trying_is c.get-tid.ensures.value in
    tried t c.leave-live.new.self floor live c.new.result c.in_ok-ask.ask c.live_in-live.ensures c.leave-live.ensures.left attempt asks
