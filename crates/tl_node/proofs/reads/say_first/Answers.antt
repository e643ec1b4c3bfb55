use Rattle.std.proofs.Common.{ℕ, ◌+◌, false, length, refl, ap, ◌∙◌, subst}
use Rattle.tl_isolation.specs.declared.entry.Answer.{Answer}
use Rattle.tl_isolation.specs.declared.entry.Said.{Said}
use Rattle.tl_node.specs.After.{Opens}
use Rattle.tl_node.specs.declared.work.Stage.TheVariants as stage
use Rattle.tl_node.proofs.reads.say_first.Goals as goal

-- what is said first, by the statements that are answered
abbrev told_first : ℕ → Answer → Said
told_first count told = record { statement = count + 1; answer = told; answered = false }

pub returns : goal.returns
returns c =
    record {
      same = refl;
      said_is = c.in_ok-said.ensures ∙ ap (told_first (length c.args.core.now.answers.items)) c.in_ok-told.ensures;
      opens = subst (λ (at : ℕ). Opens c.args.core.now at c.args.txn.phase (stage.Answering c.args.answer) c.in_ok-work.work) (c.len.ensures ∙ c.args.core.now.answers.ok.0) c.in_ok-work.ensures;
    }
