use Rattle.std.proofs.Common.{◌≡◌, ℕ, false, None, sym, ◌∙◌, subst}
use Rattle.std.specs.Prelude.{slice_get}
use Rattle.tl_lemmas.proofs.Lists.{some_at}
use Rattle.tl_ask.specs.Hears.{record_or_strange}
use Rattle.tl_descriptor.specs.Tids.{TidSet}
use Rattle.tl_protocol.specs.Store.{Cell}
use Rattle.tl_versions.specs.Versions.{is_written, stranger}
use Rattle.tl_txn.proofs.Cases.{is_free}
use Rattle.tl_txn.proofs.Hearing.{taken_so}
use Rattle.tl_txn.specs.Taken.{finds, takes_storing}
use Rattle.tl_txn.proofs.commit.take_loaded.Goals as goal

pub returns-in-None : goal.returns-in-None
returns-in-None c =
    let s = c.args.storing in
    let at = slice_get s.attempt.own s.stored in
    let own = some_at s.attempt.own s.stored c.requires in
    let versions = c.cell.inside.versions in
    let new =
    subst (λ (n : ℕ). is_written n versions ≡ false) (c.get.ensures.value ∙ c.tid.ensures) (sym c.is_written.ensures ∙ c.if-is_written.false) in
    let free =
    subst (λ (set : TidSet). stranger set versions ≡ None) c.snapshot.ensures (sym c.stranger.ensures ∙ c.in-None.is) in
    let is_new = subst (λ (cell : Cell). is_written s.attempt.tid cell.versions ≡ false) c.cell.view_is new in
    let is_left = subst (λ (cell : Cell). stranger s.attempt.snapshot cell.versions ≡ None) c.cell.view_is free in
    taken_so c.args.layout (takes_storing s false at (record_or_strange c.args.cell)) (finds s own.0.key c.in-Some.cell None) c.store_own.result
    (rw c.in-Some.is (is_free s at own.0 c.in-Some.cell own.1 is_new is_left)) (c.store_own.ensures own.0 own.1)
