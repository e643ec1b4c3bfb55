use Rattle.tl_tell.proofs.Runs.{one_history}
use Rattle.tl_tell.proofs.law.every_run_is_one_history.Goals as goal

pub returns : goal.returns
returns c =
    one_history c.every_journal_is_one_history.ensures.history c.every_journal_is_one_history.ensures.speaks c.every_journal_is_one_history.ensures.whole
    c.every_journal_is_one_history.ensures.stands c.every_journal_is_one_history.ensures.mended c.every_journal_is_one_history.ensures.first
    c.every_journal_is_one_history.ensures.recovered c.every_journal_is_one_history.ensures.rivals c.every_journal_is_one_history.ensures.heeded c.runs_are_complete.ensures.answers c.runs_are_complete.ensures.alone
