-- What a reply says, by the kind of the request, and as code hands it out.
use Rattle.std.specs.Prelude.{ℕ, [], Option, Some, None}
use Rattle.tl_descriptor.specs.Tids.{TidSet}
use Rattle.tl_schema.specs.declared.catalog.Catalog.{Catalog}
use Rattle.tl_manager.specs.State.{opening_copy}
use Rattle.tl_manager.specs.declared.request.ManagerReply.{ManagerReply}
use Rattle.tl_manager.specs.declared.request.ManagerRequest.{ManagerRequest}
use Rattle.tl_manager.specs.declared.request.ManagerRequest.TheVariants as manager
use Rattle.tl_manager.specs.declared.request.Reply.{Reply}
use Rattle.tl_protocol.specs.Store.{Cell, CommitsCell, Key, LogCell}
use Rattle.tl_journal.specs.Ask as ask
use Rattle.tl_journal.specs.Ask.{Heard, Strange}
use Rattle.tl_journal.specs.Bytes.{heard}
use Rattle.tl_journal.specs.Strange.{sound_heard}
use Rattle.tl_ask.specs.declared.heard.Page.{Page}
use Rattle.tl_ask.specs.declared.heard.StoreOutcome.{StoreOutcome}
use Rattle.tl_ask.specs.declared.heard.StoreOutcome.TheVariants as outcome

-- what is heard of the commits cell, of numbers and of managers depends on no tables
abbrev pub no_tables : Catalog
no_tables = record { tables = [] }

-- to one who asked for the commits cell
abbrev pub hears_commits : Reply → Heard
hears_commits told = sound_heard no_tables ask.LoadCommits told

-- to one who asked for a log cell, of whichever transaction
abbrev pub hears_log : Catalog → Reply → Heard
hears_log catalog told = sound_heard catalog (ask.LoadLog 0) told

-- to one who asked for a record's cell under this key
abbrev pub hears_record : Catalog → Key → Reply → Heard
hears_record catalog key told = sound_heard catalog (ask.LoadRecord key) told

-- to one who asked for a page of this range, of whichever shard
abbrev pub hears_page : Catalog → Key → Key → Reply → Heard
hears_page catalog from before told = sound_heard catalog (ask.ReadPage 0 from before) told

-- to one who stored a cell, whichever. The stamp is tested by the request (`is_outcome_of`)
abbrev pub hears_store : Reply → Heard
hears_store told = heard (ask.StoreCommits 0 opening_copy) told

-- to one who draws transaction numbers
abbrev pub hears_numbers : Reply → Heard
hears_numbers told = sound_heard no_tables ask.DrawNumbers told

-- to one who asked a manager, whichever and whatever but for a number
abbrev pub hears_manager : Reply → Heard
hears_manager told = sound_heard no_tables (ask.AskManager 0 (manager.Orphans 1)) told

-- to one who asked a manager, whichever, for a number, and showed it this set
abbrev pub hears_begin : TidSet → Reply → Heard
hears_begin seen told = sound_heard no_tables (ask.AskManager 0 (manager.Begin 1 seen)) told

-- by what the manager was asked
abbrev pub manager_shown : ManagerRequest → Reply → Heard
manager_shown (manager.Begin node seen) told = hears_begin seen told
manager_shown asked told = hears_manager told

abbrev pub commits_or_strange : Option CommitsCell → Heard
commits_or_strange None = Strange
commits_or_strange (Some cell) = ask.Commits cell

abbrev pub log_or_strange : Option (Option LogCell) → Heard
log_or_strange None = Strange
log_or_strange (Some cell) = ask.Log cell

abbrev pub record_or_strange : Option Cell → Heard
record_or_strange None = Strange
record_or_strange (Some cell) = ask.Record cell

abbrev pub page_or_strange : Option Page → Heard
page_or_strange None = Strange
page_or_strange (Some page) = ask.Page page.found page.more

abbrev pub store_or_strange : Option StoreOutcome → Heard
store_or_strange None = Strange
store_or_strange (Some (outcome.Stored stamp)) = ask.Stored stamp
store_or_strange (Some outcome.Moved) = ask.Moved

abbrev pub numbers_or_strange : Option ℕ → Heard
numbers_or_strange None = Strange
numbers_or_strange (Some old) = ask.Numbers old

abbrev pub told_or_strange : Option ManagerReply → Heard
told_or_strange None = Strange
told_or_strange (Some told) = ask.Told told
