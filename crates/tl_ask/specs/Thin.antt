-- What code keeps of what a node is doing. What only the pending request needs is left out: a loaded cell once its store is
-- asked for, the writes of a transaction that is to be finished.
use Rattle.std.specs.Prelude.{Bool, true, false, [], Option, Some, None}
use Rattle.tl_manager.specs.State.{opening_copy}
use Rattle.tl_protocol.specs.Store.{CommitsCell}
use Rattle.tl_protocol.specs.World.{Txn, Loaded}
use Rattle.tl_journal.specs.Node.{Doing, Stores, Removes, Closing, Stripping, Finishing}

abbrev pub nothing_loaded : Loaded
nothing_loaded = record { key = []; stamp = 0; versions = [] }

abbrev pub thin_loaded : Option Loaded → Option Loaded
thin_loaded None = None
thin_loaded (Some l) = Some nothing_loaded

abbrev pub nothing_finished : CommitsCell
nothing_finished = record { stamp = 0; finished = opening_copy }

abbrev pub thin_commits : Option CommitsCell → Option CommitsCell
thin_commits None = None
thin_commits (Some c) = Some nothing_finished

abbrev pub bare : Txn → Txn
bare t = record t { snapshot = opening_copy; own = [] }

abbrev pub thin : Doing → Doing
thin (Stores s l) = Stores s (thin_loaded l)
thin (Removes r l) = Removes r (thin_loaded l)
thin (Closing t d c) = Closing (bare t) d (thin_commits c)
thin (Stripping c o log keys l) = Stripping c o log keys (thin_loaded l)
thin (Finishing c o committed x) = Finishing c o committed (thin_commits x)
thin doing = doing

abbrev pub loaded_if : Bool → Option Loaded
loaded_if false = None
loaded_if true = Some nothing_loaded

abbrev pub commits_if : Bool → Option CommitsCell
commits_if false = None
commits_if true = Some nothing_finished
