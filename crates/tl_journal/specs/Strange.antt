-- What no place of a run replies: a reply that is of another kind than the request asks for, that refuses, that a shard can't
-- give for the request, that holds a cell which isn't one for its key, or a transaction number where it can't stand.
use Rattle.std.specs.Prelude.{◌≡◌, ℕ, ◌+◌, ◌==◌, Bool, true, false, not, ◌&&◌, ◌||◌, nat_le, nat_lt, List, [], ◌∷◌, Some, None, length, if◌then◌else◌}
use Rattle.std.specs.List.{list_all, list_any}
use Rattle.std.specs.Ordering.{is_lt}
use Rattle.tl_base.specs.declared.place.Settings.{Settings}
use Rattle.tl_base.specs.declared.store.Item.{Item}
use Rattle.tl_base.specs.declared.store.StoreReply.{StoreReply}
use Rattle.tl_base.specs.declared.store.StoreReply.TheVariants as answered
use Rattle.tl_schema.specs.declared.catalog.Catalog.{Catalog}
use Rattle.tl_cells.specs.Cells.{greatest}
use Rattle.tl_descriptor.specs.declared.run.Run.{Run}
use Rattle.tl_descriptor.specs.Tids.{TidSet, begins, has}
use Rattle.tl_manager.specs.declared.request.ManagerReply.{ManagerReply}
use Rattle.tl_manager.specs.declared.request.ManagerReply.TheVariants as manager
use Rattle.tl_manager.specs.declared.request.ManagerRequest.{ManagerRequest}
use Rattle.tl_manager.specs.declared.request.ManagerRequest.TheVariants as asked
use Rattle.tl_manager.specs.declared.request.Reply.{Reply}
use Rattle.tl_manager.specs.declared.request.Reply.TheVariants as reply
use Rattle.tl_versions.specs.Versions.{is_written}
use Rattle.tl_write.specs.Own.{key_cmp}
use Rattle.tl_isolation.specs.declared.entry.Answer.{Answer}
use Rattle.tl_isolation.specs.declared.entry.Answer.TheVariants as answer
use Rattle.tl_protocol.specs.Move.{is_empty}
use Rattle.tl_protocol.specs.Store.{Key}
use Rattle.tl_journal.specs.Ask.{Ask, LoadCommits, StoreCommits, LoadLog, StoreLog, LoadRecord, StoreRecord, ReadPage, AskManager, Found, Heard, Commits, Log, Record, Page, Numbers, Told, Strange}
use Rattle.tl_journal.specs.Asks.{asks}
use Rattle.tl_journal.specs.Bytes.{heard, page_limit}
use Rattle.tl_journal.specs.ForKey.{greatest_tid, is_key_of, is_record_for}
use Rattle.tl_journal.specs.Node.{Doing, Noted, Drawing, Inside, Stores, Closing, Recovering, ReadingLog, Stopped, Node}
use Rattle.tl_journal.specs.Takes.{takes}

-- ---- what a shard may give for a request, whatever it holds

-- a loaded cell: only one that was never stored has stamp 0, and then it has no bytes
abbrev pub is_cell : ℕ → List ℕ → Bool
is_cell stamp value = nat_le stamp greatest && (not (stamp == 0) || is_empty value)

-- a log cell has bytes where it was stored
abbrev pub is_log_cell : ℕ → List ℕ → Bool
is_log_cell stamp value = nat_le stamp greatest && (if is_empty value then stamp == 0 else not (stamp == 0))

-- a store at this stamp gives a greater one, or finds another
abbrev pub is_outcome : ℕ → StoreReply → Bool
is_outcome stamp (answered.Stored fresh) = nat_lt stamp fresh && nat_le fresh greatest
is_outcome stamp (answered.Moved found) = not (found == stamp) && nat_le found greatest
is_outcome stamp told = true

-- the keys of the items rise from one above this
abbrev pub are_above : Key → List Item → Bool
are_above key [] = true
are_above key (item ∷ items) = is_lt (key_cmp key item.key) && are_above item.key items

-- or from this one on
abbrev pub are_from : Key → List Item → Bool
are_from from [] = true
are_from from (item ∷ items) = not (is_lt (key_cmp item.key from)) && are_above item.key items

-- a cell that was stored, whose key is below this one
abbrev pub is_item : Key → Item → Bool
is_item before item = is_lt (key_cmp item.key before) && nat_le 1 item.stamp && nat_le item.stamp greatest

-- a page has at most so many cells, and as many where there are more
abbrev pub fills : ℕ → Bool → Bool
fills found true = found == page_limit
fills found false = nat_le found page_limit

abbrev pub is_page : Key → Key → List Item → Bool → Bool
is_page from before items more = are_from from items && list_all (is_item before) items && fills (length items) more

-- stamps, and the keys of a page. Of which kind the reply is, `heard` looks
abbrev pub may_tell : Ask → StoreReply → Bool
may_tell LoadCommits (answered.Cell stamp value) = is_cell stamp value
may_tell (LoadLog tid) (answered.Cell stamp value) = is_log_cell stamp value
may_tell (LoadRecord key) (answered.Cell stamp value) = is_cell stamp value
may_tell (ReadPage shard from before) (answered.Items items more) = is_page from before items more
may_tell (StoreCommits stamp set) told = is_outcome stamp told
may_tell (StoreLog stamp entry) told = is_outcome stamp told
may_tell (StoreRecord key stamp versions) told = is_outcome stamp told
may_tell ask told = true

-- what a manager may answer, whatever it holds: a snapshot isn't older than the set that the manager is shown, since it is the
-- newer of that and the manager's copy, and the floor begins it
abbrev pub may_answer : ManagerRequest → ManagerReply → Bool
may_answer (asked.Begin node seen) (manager.Began tid snapshot floor) =
    (begins seen snapshot || not (begins snapshot seen)) && begins floor snapshot
may_answer request told = true

abbrev pub may_reply : Ask → Reply → Bool
may_reply ask (reply.Store told) = may_tell ask told
may_reply (AskManager m request) (reply.Manager told) = may_answer request told
may_reply ask (reply.Manager told) = true

-- ---- what is a cell for its key

-- some number of the set is too great. The commits cell is no set then (`read_set`)
abbrev pub is_great : TidSet → Bool
is_great set = nat_lt greatest_tid set.base || list_any (λ (run : Run). nat_lt greatest_tid run.high) set.runs

abbrev pub has_great : ManagerReply → Bool
has_great (manager.Began tid snapshot floor) = is_great snapshot || is_great floor
has_great (manager.FloorIs floor) = is_great floor
has_great told = false

-- the rows and the numbers of record cells, those of a page too; the records that a log cell names; the sets that managers tell
abbrev pub is_sound : Catalog → Ask → Heard → Bool
is_sound catalog (LoadRecord key) (Record cell) = is_record_for catalog key cell.versions
is_sound catalog (ReadPage shard from before) (Page found more) =
    list_all (λ (f : Found). is_record_for catalog f.key f.versions) found
is_sound catalog (LoadLog tid) (Log (Some log)) = list_all (is_key_of catalog) log.entry.writes
is_sound catalog (AskManager m request) (Told told) = not (has_great told)
is_sound catalog ask heard = true

-- what a node hears of a reply: `Strange`, at which it stops, where no place may give it or a cell isn't one for its key
abbrev pub sound_heard : Catalog → Ask → Reply → Heard
sound_heard catalog ask told =
    if may_reply ask told && is_sound catalog ask (heard ask told) then heard ask told else Strange

-- ---- where a number can't stand

-- the number and the snapshot of a transaction that begins
abbrev pub is_odd_begin : ℕ → TidSet → Bool
is_odd_begin tid snapshot = nat_lt greatest_tid tid || has snapshot tid

-- the own transaction has begun and isn't finished, and its version doesn't stand yet; the numbers that are drawn, and those
-- of lost transactions, are not too great; a log cell is of the transaction that was asked for
abbrev pub is_odd_for : Doing → Heard → Bool
is_odd_for (Noted seen) (Told (manager.Began tid snapshot floor)) = is_odd_begin tid snapshot
is_odd_for (Drawing seen) (Numbers old) = nat_lt greatest_tid (old + 16)
is_odd_for (Inside t) (Commits c) = has c.finished t.tid
is_odd_for (Stores s None) (Record cell) = is_written s.txn.tid cell.versions
is_odd_for (Closing t d None) (Commits c) = has c.finished t.tid
is_odd_for (Recovering c) (Told (manager.Orphaned tids)) = list_any (nat_lt greatest_tid) tids
is_odd_for (ReadingLog c o) (Log (Some log)) = not (log.entry.tid == o.tid)
is_odd_for doing heard = false

abbrev pub is_stopped : Doing → Bool
is_stopped (Stopped nodes) = true
is_stopped doing = false

-- the node stops at it, whatever it would answer: the reply is of another kind than was asked for, or refuses
abbrev pub stops_at : Settings → Catalog → Node → Heard → Bool
stops_at settings catalog node heard = is_stopped (takes settings catalog node heard answer.Begun).doing

-- what the node hears
abbrev pub is_strange_to : Settings → Catalog → Node → Heard → Bool
is_strange_to settings catalog node heard = stops_at settings catalog node heard || is_odd_for node.doing heard

-- the reply to what the node asks
abbrev pub is_strange : Settings → Catalog → Node → Ask → Reply → Bool
is_strange settings catalog node ask told = is_strange_to settings catalog node (sound_heard catalog ask told)

-- ---- what follows for every node

-- a node that asks something stops where it hears what no place of a run replies
abbrev pub StopsAtStrange : Type 0
StopsAtStrange = (settings : Settings) (catalog : Catalog) (node : Node) (ask : Ask) → asks settings catalog node ≡ Some ask
    → stops_at settings catalog node Strange ≡ true

-- so it hears of a reply that isn't strange all that the reply says
abbrev pub HeardAsSaid : Type 0
HeardAsSaid = (settings : Settings) (catalog : Catalog) (node : Node) (ask : Ask) (told : Reply) → asks settings catalog node ≡ Some ask
    → is_strange settings catalog node ask told ≡ false → sound_heard catalog ask told ≡ heard ask told

-- and no reply stops it at one answer and not at another
abbrev pub StopsAlike : Type 0
StopsAlike = (settings : Settings) (catalog : Catalog) (node : Node) (heard : Heard) (told : Answer)
    → is_stopped (takes settings catalog node heard told).doing ≡ stops_at settings catalog node heard
