use Rattle.std.proofs.Common.{◌<◌, length, sym, ap, ◌∙◌, arith}
use Rattle.std.specs.Prelude.{not}
use Rattle.tl_world.specs.Seen.{seen_as}
use Rattle.tl_world.proofs.Serving.{is_within, slot_there}
use Rattle.tl_world.proofs.Spots.{spot_gone, spot_none, spot_there}
use Rattle.tl_world.proofs.Turning.{none_so, over_so}
use Rattle.tl_world.proofs.world.World.is_over.Goals as goal

pub index-requires : goal.index-requires
index-requires c =
    let whole = c.args.self.now.slots.ok.0 in
    let within : c.in-Some.at < length c.args.self.now.slots.items = is_within c.args.self.now.slots.items c.args.node c.in-Some.at (spot_there c.args.self.now.slots.items c.as_slice.result.now c.as_slice.ensures.value c.args.node c.in-Some.at c.in-Some.ensures) in
    omega arith

pub returns-in-Some : goal.returns-in-Some
returns-in-Some c = λ script s.
    let slots = c.args.self.now.slots.items in
    let slot = c.index.result.now in
    ap not c.has_more.ensures
    ∙ sym (over_so script (seen_as c.args.self.now) s.on c.args.node slot (slot_there slots c.args.node c.in-Some.at (spot_there c.args.self.now.slots.items c.as_slice.result.now c.as_slice.ensures.value c.args.node c.in-Some.at c.in-Some.ensures) slot c.index.ensures))

pub returns-in-None : goal.returns-in-None
returns-in-None c = λ script s.
    sym (none_so script (seen_as c.args.self.now) s.on c.args.node (spot_none c.args.self.now.slots.items c.args.node 0 (spot_gone c.args.self.now.slots.items c.as_slice.result.now c.as_slice.ensures.value c.args.node c.in-None.ensures)))
