use Rattle.std.proofs.Common.{◌<◌, length, arith}
use Rattle.tl_world.specs.Seen.{seen_as}
use Rattle.tl_world.proofs.Parts.{is_there_so, node_there, none_there, room_for_notice, vanished_from}
use Rattle.tl_world.proofs.Serving.{is_within, slot_there}
use Rattle.tl_world.proofs.Spots.{spot_gone, spot_none, spot_there}
use Rattle.tl_world.proofs.Turning.{gone_to_vanish, none_to_vanish}
use Rattle.tl_world.proofs.world.World.vanish.Goals as goal

pub index-requires : goal.index-requires
index-requires c =
    let whole = c.args.self.now.slots.ok.0 in
    let within : c.in-Some.at < length c.args.self.now.slots.items = is_within c.args.self.now.slots.items c.args.node c.in-Some.at (spot_there c.args.self.now.slots.items c.as_slice.result.now c.as_slice.ensures.value c.args.node c.in-Some.at c.in-Some.ensures) in
    omega arith

pub end-requires : goal.end-requires
end-requires c =
    let slot = c.index.result.now in
    let v = node_there slot.node c.is_none.result c.is_none.ensures c.if-is_none.false in
    record {
      there = is_there_so c.args.self.now c.make_room.new.self c.make_room.ensures.kept c.args.node c.in-Some.at (spot_there c.args.self.now.slots.items c.as_slice.result.now c.as_slice.ensures.value c.args.node c.in-Some.at c.in-Some.ensures) slot c.index.ensures v.0 v.1;
      room = room_for_notice c.make_room.new.self c.in_ok-make_room.ensures.room;
    }

pub returns-in_default : goal.returns-in_default
returns-in_default c =
    record {
      vanishes = λ script s. none_to_vanish script (seen_as c.args.self.now) s c.args.node (spot_none c.args.self.now.slots.items c.args.node 0 (spot_gone c.args.self.now.slots.items c.as_slice.result.now c.as_slice.ensures.value c.args.node c.in_default.ensures));
      kept = tt;
    }

pub returns-then-is_none : goal.returns-then-is_none
returns-then-is_none c =
    let slots = c.args.self.now.slots.items in
    let slot = c.index.result.now in
    record {
      vanishes = λ script s.
          gone_to_vanish script (seen_as c.args.self.now) s c.args.node slot (slot_there slots c.args.node c.in-Some.at (spot_there c.args.self.now.slots.items c.as_slice.result.now c.as_slice.ensures.value c.args.node c.in-Some.at c.in-Some.ensures) slot c.index.ensures)
          (none_there slot.node c.is_none.result c.is_none.ensures c.if-is_none.true);
      kept = tt;
    }

pub returns : goal.returns
returns c =
    let slot = c.index.result.now in
    let v = node_there slot.node c.is_none.result c.is_none.ensures c.if-is_none.false in
    record {
      vanishes = λ script s.
          vanished_from c.args.self.now c.make_room.new.self c.end.new.self c.make_room.ensures.kept c.args.node c.in-Some.at (spot_there c.args.self.now.slots.items c.as_slice.result.now c.as_slice.ensures.value c.args.node c.in-Some.at c.in-Some.ensures) slot c.index.ensures v.0 v.1
          c.end.result c.end.ensures c.places_serve_their_logs.ensures script s;
      kept = tt;
    }
