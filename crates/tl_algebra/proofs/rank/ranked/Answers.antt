use Rattle.std.proofs.Common.{rules, is_lt}
use Rattle.std.proofs.lemmas.Fn.{always_returns_same}
use Rattle.std.proofs.lemmas.List.Sorted.{ranks_by}
use Rattle.tl_algebra.specs.Sorting.{line_cmp}
use Rattle.tl_algebra.proofs.LineOrder.{line_total}
use Rattle.tl_algebra.proofs.rank.ranked.Goals as goal

pub returns-clause-sorted : goal.returns-clause-sorted
returns-clause-sorted c =
    let sorts = c.args.sorts.now in
    c.in_ok-sort_by.ensures.sorted (λ a b. is_lt (line_cmp sorts a b)) (ranks_by (line_total sorts) (λ line. line)) (always_returns_same _ _ _ (λ a r f k. search rules))
