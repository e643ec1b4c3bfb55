use Rattle.std.proofs.Common.{sym}
use Rattle.tl_journal.specs.Schedule.{is_over}
use Rattle.tl_world.specs.Seen.{seen_as}
use Rattle.tl_turns.proofs.Rounds.{next_above, next_lowest}
use Rattle.tl_turns.proofs.clock.next_round.Goals as goal

pub returns-in-Some : goal.returns-in-Some
returns-in-Some c = λ script stands.
    sym (next_above (is_over script (seen_as c.args.world.now).events) c.args.last c.in-Some.node (c.in-Some.ensures script stands))

pub returns-in-None : goal.returns-in-None
returns-in-None c = λ script stands.
    sym
    (next_lowest (is_over script (seen_as c.args.world.now).events) c.args.last c.first_between-in-None.result (c.in-None.ensures script stands)
    (c.first_between-in-None.ensures script stands))
