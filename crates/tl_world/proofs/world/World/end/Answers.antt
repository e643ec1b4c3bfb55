use Rattle.std.proofs.Common.{◌<◌, length, refl, sym, ap, ◌∙◌, arith}
use Rattle.tl_base.specs.declared.place.Settings.{Settings}
use Rattle.tl_manager.specs.declared.request.ManagerRequest.{ManagerRequest}
use Rattle.tl_manager.specs.declared.request.Request.TheVariants as request_of
use Rattle.tl_journal.specs.Bytes.{home_of}
use Rattle.tl_journal.specs.Journal.{is_post}
use Rattle.tl_world.specs.Seen.{HasEnded}
use Rattle.tl_world.proofs.Ended.{has_ended, never_gone, never_homeless}
use Rattle.tl_world.proofs.Serving.{is_within}
use Rattle.tl_world.proofs.world.World.end.Goals as goal

pub index_mut-requires : goal.index_mut-requires
index_mut-requires c =
    let whole = c.args.self.now.slots.ok.0 in
    let within : c.args.at < length c.args.self.now.slots.items = is_within c.args.self.now.slots.items c.args.number c.args.at c.requires.there.spot_is in
    omega arith

pub post-reply-requires-clause-notice : goal.post-reply-requires-clause-notice
post-reply-requires-clause-notice c = ap (λ (n : ManagerRequest). is_post (request_of.Manager n)) (c.post-notice.ensures ∙ c.vanish.ensures)

pub post-reply-requires-clause-manager : goal.post-reply-requires-clause-manager
post-reply-requires-clause-manager c = c.has_manager.ensures.0 c.if-not-has_manager.false

pub tell_end-entries-requires-clause-room : goal.tell_end-entries-requires-clause-room
tell_end-entries-requires-clause-room c = c.requires.room.last

pub tell_end-entries-requires-clause-empty : goal.tell_end-entries-requires-clause-empty
tell_end-entries-requires-clause-empty c = c.requires.room.last_empty

pub push_reserved-requires : goal.push_reserved-requires
push_reserved-requires c = c.requires.room.events

pub returns-in_default : goal.returns-in_default
unfolding HasEnded
returns-in_default c = λ logs script s.
    absurd (never_gone c.args.self.now c.args.number c.args.at c.requires.there c.index_mut.result.now c.index_mut.ensures.value (sym c.in_default.ensures.node))

pub returns-then-not-has_manager : goal.returns-then-not-has_manager
unfolding HasEnded
returns-then-not-has_manager c = λ logs script s.
    absurd (never_homeless c.args.self.now c.args.number c.args.at c.requires.there c.index_mut.result.now c.index_mut.ensures.value c.home_of-home.result
    (c.home_of-home.ensures.value ∙ ap (λ (x : Settings). home_of x c.args.number) c.layout.ensures) c.has_manager.result c.has_manager.ensures c.if-not-has_manager.true script s)

pub returns : goal.returns
unfolding HasEnded
returns c = λ logs script s. (
  refl,
  has_ended c.args.self.now c.args.number c.args.at c.requires.there c.index_mut.result.now c.index_mut.ensures.value c.args.ending
      (omega (arith, c.requires.room.few_events)) c.leave.new.slot c.leave.ensures.left c.in-Some.node c.in-Some.ensures.node c.home_of-home.result c.post-notice.result
      c.post-reply.result c.tell_end-entries.result (c.home_of-home.ensures.value ∙ ap (λ (x : Settings). home_of x c.args.number) c.layout.ensures)
      (c.post-notice.ensures ∙ c.vanish.ensures) c.post-reply.ensures.posted c.tell_end-entries.ensures c.post-reply.new.self c.post-reply.ensures.served
      c.push_reserved.new.self.items c.push_reserved.ensures.items script logs s,
)
