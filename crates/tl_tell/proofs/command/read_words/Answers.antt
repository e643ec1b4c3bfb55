use Rattle.std.proofs.Common.{sym, ◌∙◌}
use Rattle.tl_tell.proofs.Options.{on_end}
use Rattle.tl_tell.proofs.command.read_words.Goals as goal

pub returns-clause-reads : goal.returns-clause-reads
returns-clause-reads c =
    rw c.settings.ensures.settings (sym c.loop-at.invariant.read ∙ on_end c.args.words.now c.loop-at.at c.loop-at.given c.loop-at-test.false)
