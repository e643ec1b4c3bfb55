use Rattle.std.proofs.Common.{◌≤◌, ◌∙◌, sym, ap, true, false, cond, arith, length}
use Rattle.std.specs.List.{insert}
use Rattle.tl_write.specs.Own.{is_rising}
use Rattle.tl_write.proofs.Placed.{place_within, put_write_so}
use Rattle.tl_write.proofs.Rising.{put_rising}
use Rattle.tl_write.proofs.place.put_write.Goals as goal

pub insert-requires : goal.insert-requires
insert-requires c =
    let within : c.place_of-at.result ≤ length c.args.writes.now.items = place_within c.args.write.key c.place_of-at.result _ _ c.as_slice.ensures.value c.place_of-at.ensures in
    let same = ap length c.as_slice.ensures.value in
    omega (arith, c.as_slice.ensures.len)

pub returns-then-has_key_at-clause-put : goal.returns-then-has_key_at-clause-put
returns-then-has_key_at-clause-put c =
    sym (put_write_so c.args.write c.args.writes.now.items _ _ c.place_of-at.result true c.as_slice.ensures.value c.as_slice-2.ensures.value c.place_of-at.ensures (sym c.if-has_key_at.true ∙ c.has_key_at.ensures.value))

pub returns-then-has_key_at-clause-rising : goal.returns-then-has_key_at-clause-rising
returns-then-has_key_at-clause-rising c =
    ap is_rising (returns-then-has_key_at-clause-put c) ∙ put_rising c.args.write c.args.writes.now.items c.requires.rising

pub returns-else-has_key_at-clause-put : goal.returns-else-has_key_at-clause-put
returns-else-has_key_at-clause-put c =
    c.insert.ensures.items
    ∙ ap (λ b. cond b (insert c.args.writes.now.items c.place_of-at.result c.args.write) c.args.writes.now.items) (c.insert.ensures.succeeds c.requires.room)
    ∙ sym (put_write_so c.args.write c.args.writes.now.items _ _ c.place_of-at.result false c.as_slice.ensures.value c.as_slice-2.ensures.value c.place_of-at.ensures (sym c.if-has_key_at.false ∙ c.has_key_at.ensures.value))

pub returns-else-has_key_at-clause-rising : goal.returns-else-has_key_at-clause-rising
returns-else-has_key_at-clause-rising c =
    ap is_rising (returns-else-has_key_at-clause-put c) ∙ put_rising c.args.write c.args.writes.now.items c.requires.rising
