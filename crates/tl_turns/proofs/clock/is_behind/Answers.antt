use Rattle.std.proofs.Common.{◌∙◌, sym, arith}
use Rattle.tl_turns.proofs.Behind.{behind_is}
use Rattle.tl_turns.proofs.clock.is_behind.Goals as goal

pub returns-then-is_notice : goal.returns-then-is_notice
returns-then-is_notice c = λ past e rest same count.
    behind_is past e rest c.args.events.now c.args.at c.index-events-at.result c.index-events-at-then-is_notice.result c.index-events-at-then-is_notice-2.result
    c.eq.result same count (omega (arith, c.if-at-eq0.false)) c.index-events-at.is (sym c.is_notice.ensures ∙ c.if-is_notice.true) c.eq.ensures
