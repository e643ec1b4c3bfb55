use Rattle.std.proofs.Common.{◌<◌, length, ◌∙◌, arith}
use Rattle.tl_world.specs.Seen.{seen_as}
use Rattle.tl_world.proofs.Serving.{is_within, slot_there}
use Rattle.tl_world.proofs.Spots.{spot_gone, spot_none, spot_there}
use Rattle.tl_world.proofs.Turning.{answered_so, none_answered}
use Rattle.tl_world.proofs.world.World.answered.Goals as goal

pub index-requires : goal.index-requires
index-requires c =
    let whole = c.args.self.now.slots.ok.0 in
    let within : c.in-Some.at < length c.args.self.now.slots.items = is_within c.args.self.now.slots.items c.args.node c.in-Some.at (spot_there c.args.self.now.slots.items c.as_slice.result.now c.as_slice.ensures.value c.args.node c.in-Some.at c.in-Some.ensures) in
    omega arith

pub returns-in-Some : goal.returns-in-Some
returns-in-Some c = λ script s left.
    let slots = c.args.self.now.slots.items in
    let slot = c.index.result.now in
    c.answered.ensures
    ∙ answered_so script (seen_as c.args.self.now) s.on c.args.node slot (slot_there slots c.args.node c.in-Some.at (spot_there c.args.self.now.slots.items c.as_slice.result.now c.as_slice.ensures.value c.args.node c.in-Some.at c.in-Some.ensures) slot c.index.ensures) left

pub returns-in-None : goal.returns-in-None
returns-in-None c = λ script s left.
    absurd (none_answered script (seen_as c.args.self.now) s.on c.args.node (spot_none c.args.self.now.slots.items c.args.node 0 (spot_gone c.args.self.now.slots.items c.as_slice.result.now c.as_slice.ensures.value c.args.node c.in-None.ensures)) left)
