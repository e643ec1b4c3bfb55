use Rattle.std.proofs.Common.{◌∙◌, List, length, ap, sym, subst, arith}
use Rattle.tl_journal.specs.declared.event.Event.{Event}
use Rattle.tl_journal.specs.Outcome.{HasRun}
use Rattle.tl_world.specs.Seen.{seen_as}
use Rattle.tl_turns.proofs.SoFar.{Kept, begins, finishes, keeps}
use Rattle.tl_turns.proofs.run.run_script.Goals as goal

pub loop-node-init : goal.loop-node-init
loop-node-init c =
    begins c.args.script.now c.args.settings.now (seen_as c.in_ok-world.world) c.new-clock.result
    (c.in_ok-world.ensures.stands c.requires.bound c.requires.few) c.in_ok-world.ensures.settings c.in_ok-world.ensures.events
    (c.new-clock.ensures.items ∙ c.as_slice.ensures) c.new-clock.ensures.last c.new-clock.ensures.events

pub tick-requires : goal.tick-requires
tick-requires c = record { item = c.next.ensures.item }

-- what a turn makes of it
kept : (c : goal.After-tick) → Kept c.args.script.now c.args.settings.now (seen_as c.loop-node.world) (seen_as c.turn.new.self) c.tick.new.self
kept c =
    let script = c.args.script.now in
    let stands = c.loop-node.invariant.stands in
    let turned = c.in_ok-turn.ensures.turns script stands in
    keeps script c.args.settings.now (seen_as c.loop-node.world) (seen_as c.turn.new.self) c.in-Some.node c.in_ok-turn.field-0 c.loop-node.clock c.next.new.self
    c.tick.new.self c.loop-node.invariant (sym (c.in-Some.ensures.turn script stands)) (c.next.ensures.passed script stands) c.next.ensures.events turned.0 turned.1
    (λ past e rest is long. c.tick.ensures.turn past e rest (c.events.ensures ∙ is) long) (c.tick.ensures.events ∙ ap length c.events.ensures)

pub loop-node-preserved : goal.loop-node-preserved
loop-node-preserved c = (kept c).holds

pub loop-node-smaller : goal.loop-node-smaller
loop-node-smaller c = omega (arith, (kept c).more, c.loop-node.invariant.stands.on.few)

pub returns : goal.returns
returns c =
    subst (λ (es : List Event). HasRun c.args.script.now c.args.settings.now es) (sym c.into_journal.ensures)
    (finishes c.args.script.now c.args.settings.now (seen_as c.loop-node.world) c.loop-node.clock c.loop-node.invariant
    (sym (c.in_default.ensures.turn c.args.script.now c.loop-node.invariant.stands)))
