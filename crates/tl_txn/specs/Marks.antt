-- What a transaction's marks tell of the run.
use Rattle.std.specs.Prelude.{ℕ, List, [], ◌∷◌}
use Rattle.tl_manager.specs.declared.mark.Mark.{Mark}
use Rattle.tl_manager.specs.declared.mark.Mark.TheVariants as mark
use Rattle.tl_isolation.specs.declared.entry.Entry.{Entry}
use Rattle.tl_isolation.specs.declared.entry.Entry.TheVariants as entry

-- to which the node adds what only it knows: how many commits a snapshot has, and what a statement is answered
abbrev pub entries_of : ℕ → Mark → List Entry
entries_of node mark.Quiet = []
entries_of node mark.Asked = entry.Asked node ∷ []
entries_of node (mark.Began tid) = []
entries_of node (mark.Tried tid) = entry.Tried tid ∷ []
entries_of node (mark.Clashed tid rival at) = entry.Clash tid rival at ∷ []
entries_of node (mark.Committed tid) = entry.Committed tid ∷ []
entries_of node (mark.Undone tid) = entry.Undone tid ∷ []
entries_of node mark.Answered = []
