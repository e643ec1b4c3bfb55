use Rattle.std.proofs.Common.{sym, ap, ◌∙◌}
use Rattle.std.specs.Prelude.{filter}
use Rattle.std.specs.Ordering.{is_le}
use Rattle.tl_map.proofs.Entries.{entries-seen, from-entries_between, by_bytes}
use Rattle.tl_map.proofs.SortedMap.range_from.Goals as goal

pub returns-clause-entries : goal.returns-clause-entries
returns-clause-entries g c =
    rw (← c.self.view_is)
    (c.range.ensures.between tt ∙ from-entries_between _ c.args.from.now ∙ ap (filter (λ e. is_le (by_bytes c.args.from.now e.0))) (sym (entries-seen _ c.self.invariant)))
