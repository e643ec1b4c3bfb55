use Rattle.std.proofs.Common.{refl}
use Rattle.tl_journal.specs.Journal.{entries_told}
use Rattle.tl_render.specs.Printed.{session_text, sessions_text}
use Rattle.tl_render.proofs.Told.{writes_next}
use Rattle.tl_render.proofs.session.push_sessions.Goals as goal

pub loop-session-preserved : goal.loop-session-preserved
loop-session-preserved c =
    writes_next (session_text (entries_told c.args.events.now)) (λ sessions. sessions_text sessions (entries_told c.args.events.now)) (λ s ss. refl) _ _ _
    c.args.sessions.now c.loop-session.session-index c.session-item.result c.loop-session-test.true c.session-item.is c.in_ok-push_session.ensures c.loop-session.invariant
