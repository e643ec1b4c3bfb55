use Rattle.std.proofs.Common.{[], sym, append-nil, subst}
use Rattle.tl_isolation.specs.Script.{setup_of}
use Rattle.tl_isolation.specs.History.{state_after}
use Rattle.tl_protocol.proofs.Reached.{reached}
use Rattle.tl_protocol.proofs.Standing.{one_mender, stands_for}
use Rattle.tl_journal.specs.Journal.{entries_told}
use Rattle.tl_journal.specs.Law.{IsRun}
use Rattle.tl_journal.proofs.FirstCommits.{first_commits}
use Rattle.tl_journal.proofs.Journals.{holds_at, spoken_at, spoken_whole, stood_at}
use Rattle.tl_journal.proofs.OwnKeyed.{own_keyed}
use Rattle.tl_journal.proofs.RecoveriesWhole.{recoveries_are_whole}
use Rattle.tl_journal.proofs.RivalsStand.{rivals_stand}
use Rattle.tl_journal.proofs.StrangeReplies.{nothing_strange}
use Rattle.tl_journal.proofs.law.every_journal_is_one_history.Goals as goal

-- src/law.rt:5:1
pub returns-clause-history : goal.returns-clause-history
returns-clause-history c script settings events run =
    let whole = subst (IsRun script settings) (sym (append-nil events)) run in
    let s = stood_at script settings events [] whole in
    (reached run.bound.opening s.reach).history

-- src/law.rt:5:1
pub returns-clause-speaks : goal.returns-clause-speaks
returns-clause-speaks c script settings events run = (spoken_at script settings events [] (subst (IsRun script settings) (sym (append-nil events)) run)).along

-- src/law.rt:5:1
pub returns-clause-whole : goal.returns-clause-whole
returns-clause-whole c script settings events run node session h over =
    let whole = subst (IsRun script settings) (sym (append-nil events)) run in
    spoken_whole script settings events node session (stood_at script settings events [] whole) (spoken_at script settings events [] whole) h over

-- src/law.rt:5:1
pub returns-clause-stands : goal.returns-clause-stands
returns-clause-stands c script settings past rest run =
    let s = stood_at script settings past rest run in (
      s.world,
      holds_at script settings past s,
      stands_for (setup_of script settings) s.world (state_after (setup_of script settings) (entries_told past)) (entries_told past) (reached run.bound.opening s.reach),
    )

-- src/law.rt:5:1
pub returns-clause-mended : goal.returns-clause-mended
returns-clause-mended c script settings past rest run =
    let s = stood_at script settings past rest run in (
      s.world,
      holds_at script settings past s,
      one_mender (setup_of script settings) s.world (state_after (setup_of script settings) (entries_told past)) (entries_told past) (reached run.bound.opening s.reach),
    )

-- src/law.rt:5:1
pub returns-clause-first : goal.returns-clause-first
returns-clause-first c script settings past e rest run tid snapshot floor told = first_commits script settings past e rest run tid snapshot floor told

-- src/law.rt:5:1
pub returns-clause-heeded : goal.returns-clause-heeded
returns-clause-heeded c script settings past e rest run short request session is_session ask asked =
    nothing_strange script settings past e rest run short request session is_session ask asked

-- src/law.rt:5:1
pub returns-clause-own : goal.returns-clause-own
returns-clause-own c script settings past rest run n session h runs = own_keyed script settings past rest run n session h runs

-- src/law.rt:5:1
pub returns-clause-recovered : goal.returns-clause-recovered
returns-clause-recovered c script settings past e rest run = recoveries_are_whole script settings past e rest run

-- src/law.rt:5:1
pub returns-clause-rivals : goal.returns-clause-rivals
returns-clause-rivals c script settings past e rest run = rivals_stand script settings past e rest run
