use Rattle.std.proofs.Common.{Bool, sym, ap, ◌∙◌}
use Rattle.std.specs.Prelude.{if◌then◌else◌}
use Rattle.tl_journal.specs.Asks.{ToCommit, ToGiveUp}
use Rattle.tl_node.proofs.running.end_with.Goals as goal

pub returns-in_ok-work : goal.returns-in_ok-work
returns-in_ok-work c = λ statement.
    c.in_ok-work.ensures statement (ap (λ (b : Bool). if b then ToGiveUp else ToCommit) (sym c.is_refusal.ensures ∙ c.if-is_refusal.true))

pub returns-in_ok-work-2 : goal.returns-in_ok-work-2
returns-in_ok-work-2 c = λ statement.
    c.in_ok-work-2.ensures statement (ap (λ (b : Bool). if b then ToGiveUp else ToCommit) (sym c.is_refusal.ensures ∙ c.if-is_refusal.false))
