use Rattle.tl_journal.proofs.Alone.{never_conflicts}
use Rattle.tl_journal.proofs.Endings.{answers_all}
use Rattle.tl_journal.proofs.law.runs_are_complete.Goals as goal

pub returns-clause-answers : goal.returns-clause-answers
returns-clause-answers c = answers_all

pub returns-clause-alone : goal.returns-clause-alone
returns-clause-alone c =
    never_conflicts c.every_journal_is_one_history.ensures.history c.every_journal_is_one_history.ensures.speaks c.histories_keep_their_promises.ensures.conflict
