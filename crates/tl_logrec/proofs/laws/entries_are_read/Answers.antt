use Rattle.tl_logrec.proofs.EntryReading.{entry_again, entry_taken}
use Rattle.tl_logrec.proofs.laws.entries_are_read.Goals as goal

pub returns : goal.returns
returns c = record { again = entry_again; taken = entry_taken }
