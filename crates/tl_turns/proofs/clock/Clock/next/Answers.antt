use Rattle.tl_world.specs.Seen.{seen_as}
use Rattle.tl_turns.proofs.Turn.{turn_none}
use Rattle.tl_turns.proofs.clock.Clock.next.Goals as goal

pub returns-in-None-clause-turn : goal.returns-in-None-clause-turn
returns-in-None-clause-turn c = λ script stands.
    turn_none script (seen_as c.args.world.now).events c.args.self.now c.pass_finished.new.self c.next_round.result (c.pass_finished.ensures.passed script stands)
    c.pass_finished.ensures.item c.in-None.is (c.next_round.ensures script stands)
