use Rattle.std.proofs.Common.{◌≡◌, sym, ◌∙◌, true}
use Rattle.std.specs.Ordering.{is_gt}
use Rattle.tl_map.proofs.Entries.{entries-seen, not_above_itself, within-fallen, within-entries_between, by_bytes}
use Rattle.tl_map.proofs.SortedMap.range.Goals as goal

pub range-requires : goal.range-requires
range-requires g c = not_above_itself c.args.before.now

pub returns-then-gt-clause-entries : goal.returns-then-gt-clause-entries
returns-then-gt-clause-entries g c =
    let fall : is_gt (by_bytes c.args.from.now c.args.before.now) ≡ true = sym c.gt.ensures ∙ c.if-gt.true in
    rw (← c.self.view_is, entries-seen _ c.self.invariant)
    (c.range.ensures.between tt ∙ within-fallen _ c.args.from.now c.args.before.now fall)

pub returns-clause-entries : goal.returns-clause-entries
returns-clause-entries g c =
    rw (← c.self.view_is, entries-seen _ c.self.invariant)
    (c.range-2.ensures.between tt ∙ within-entries_between _ c.args.from.now c.args.before.now)
