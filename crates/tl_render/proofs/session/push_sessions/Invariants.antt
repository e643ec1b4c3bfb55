use Rattle.std.proofs.Common.{◌≡◌, ◌++◌, drop}
use Rattle.tl_journal.specs.Journal.{entries_told}
use Rattle.tl_render.specs.Printed.{sessions_text}
use Rattle.tl_render.proofs.session.push_sessions.Given as goal

-- what is written and the text of what is left are the text of all
abbrev pub invariant-loop-session : goal.invariant-loop-session
invariant-loop-session l = l.out ++ sessions_text (drop l.session-index l.sessions) (entries_told l.events) ≡ l.initial.out ++ sessions_text l.sessions (entries_told l.events)
