use Rattle.std.proofs.Common.{ℕ, ◌+◌, ap, subst, sym, ◌∙◌}
use Rattle.tl_node.proofs.Ending.{last_so}
use Rattle.tl_node.proofs.ends.last_with_room.Goals as goal
use Rattle.tl_node.specs.Fits.{FitsLast}

pub returns : goal.returns
returns c = subst (FitsLast c.args.core.now c.args.answer) (sym c.in_ok-boxed.ensures)
    (last_so c.args.core.now c.args.answer c.in_ok-copy.copy c.in_ok-said.said c.in_ok-following.following _ c.requires
    (ap (λ (n : ℕ). n + 1) (c.len.ensures ∙ c.args.core.now.answers.ok.0)) c.in_ok-following.ensures c.in_ok-copy.ensures c.in_ok-said.ensures)
