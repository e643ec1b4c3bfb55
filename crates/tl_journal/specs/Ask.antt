-- What a node asks and what it hears, before it is written as bytes and after it is read.
use Rattle.std.specs.Prelude.{ℕ, Bool, List, Option}
use Rattle.tl_descriptor.specs.Tids.{TidSet}
use Rattle.tl_logrec.specs.declared.entry.LogEntry.{LogEntry}
use Rattle.tl_manager.specs.declared.request.ManagerReply.{ManagerReply}
use Rattle.tl_manager.specs.declared.request.ManagerRequest.{ManagerRequest}
use Rattle.tl_versions.specs.declared.version.Version.{Version}
use Rattle.tl_protocol.specs.Store.{Key, Cell, CommitsCell, LogCell}

pub data Ask : Type 0 where
  LoadCommits : Ask
  -- with this stamp
  StoreCommits : ℕ → TidSet → Ask
  LoadLog : ℕ → Ask
  StoreLog : ℕ → LogEntry → Ask
  LoadRecord : Key → Ask
  StoreRecord : Key → ℕ → List Version → Ask
  -- at this shard, the cells from the one key on and below the other
  ReadPage : ℕ → Key → Key → Ask
  -- 16 from the counter
  DrawNumbers : Ask
  -- this manager
  AskManager : ℕ → ManagerRequest → Ask

-- a record cell of a page, with its key
pub record Found : Type 0 where
  pub key : Key
  pub versions : List Version

pub data Heard : Type 0 where
  Commits : CommitsCell → Heard
  Log : Option LogCell → Heard
  Record : Cell → Heard
  -- and whether the range has further ones
  Page : List Found → Bool → Heard
  -- with this stamp
  Stored : ℕ → Heard
  Moved : Heard
  -- the counter as it was
  Numbers : ℕ → Heard
  Told : ManagerReply → Heard
  -- nothing that a place of a run replies
  Strange : Heard
