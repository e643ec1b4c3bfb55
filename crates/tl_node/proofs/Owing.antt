-- Whom a node leaves to be recovered where it stops at a reply.
use Rattle.std.proofs.Common.{◌≡◌, ℕ, Bool, true, false, List, [], ◌∷◌, Option, Some, None, refl, ap}
use Rattle.std.specs.Prelude.{if◌then◌else◌}
use Rattle.tl_base.specs.NodeSet.{no_nodes}
use Rattle.tl_base.specs.declared.node.NodeSet.{NodeSet}
use Rattle.tl_base.specs.declared.place.Settings.{Settings}
use Rattle.tl_values.specs.declared.value.Value.{Value}
use Rattle.tl_schema.specs.declared.catalog.Catalog.{Catalog}
use Rattle.tl_descriptor.specs.Tids.{TidSet, has}
use Rattle.tl_logrec.specs.declared.entry.Flag.{Flag}
use Rattle.tl_logrec.specs.declared.entry.Flag.TheVariants as flag
use Rattle.tl_manager.specs.declared.request.ManagerReply.TheVariants as manager
use Rattle.tl_versions.specs.Versions.{is_written, stranger}
use Rattle.tl_write.specs.declared.write.Write.{Write}
use Rattle.tl_isolation.specs.declared.bound.Bound.{Bound}
use Rattle.tl_isolation.specs.declared.bound.Bound.TheVariants as bound
use Rattle.tl_isolation.specs.declared.entry.Answer.{Answer}
use Rattle.tl_isolation.specs.declared.entry.Entry.{Entry}
use Rattle.tl_protocol.specs.Store.{Key, Cell, CommitsCell, LogCell}
use Rattle.tl_protocol.specs.World.{Stage, Fresh, Opened, Answering, Txn, Loaded, Decision}
use Rattle.tl_journal.specs.Ask.{Heard, Commits, Log, Record, Page, Stored, Moved, Numbers, Told}
use Rattle.tl_journal.specs.Asks.{Course, ToBegin, ToRead, ToIdle, ToCommit, ToGiveUp, ToRecover, course_in, course_outside}
use Rattle.tl_journal.specs.Bytes.{home_of}
use Rattle.tl_journal.specs.Memory.{has_said}
use Rattle.tl_journal.specs.Node.{Storing, Removing, Claimed, Lost, Doing, Outside, Noted, Drawing, Bringing, Inside, Reading, Trying, Stores, Removes, Closing, Ending, Recovering, ReadingLog, Stripping, Finishing, EndingLost, Stopped, Node, owed_by}
use Rattle.tl_journal.specs.Reads.{Read, Point, Range, Reads, all_reads, begin_reads, take_cell, take_page, tables_read}
use Rattle.tl_journal.specs.Says.{says_doing, says_end_lost, says_recovered, says_recovering}
use Rattle.tl_journal.specs.Takes.{by_flag, finds, goes_on, idles, learnt, next_duty, next_lost, said, takes_bringing, takes_closing, takes_commit, takes_doing, takes_drawing, takes_end_lost, takes_ending, takes_finishing, takes_give_up, takes_idle, takes_inside, takes_log, takes_noted, takes_outside, takes_read, takes_recovering, takes_removing, takes_storing, takes_stripping, takes_trying, with_doing}

-- the node owes these
abbrev Owes : NodeSet → Node → Type 0
Owes nodes n = owed_by n.doing ≡ nodes

-- ---- a transaction owes none

module _ (n : Node) (none : Owes no_nodes n) where
  noted : (settings : Settings) (statement : Bound) (seen : TidSet) (sound : Heard) → Owes no_nodes (takes_noted settings n statement seen sound)
  noted settings bound.Begin seen (Told (manager.Began tid snapshot floor)) = refl
  noted settings statement seen (Told (manager.Began tid snapshot floor)) = refl
  noted settings statement seen (Told manager.NeedRange) = refl
  noted settings statement seen (Told other) = none
  noted settings statement seen sound = none

  drawing : (seen : TidSet) (sound : Heard) → Owes no_nodes (takes_drawing n seen sound)
  drawing seen (Numbers old) = refl
  drawing seen sound = none

  bringing : (seen : TidSet) (sound : Heard) → Owes no_nodes (takes_bringing n seen sound)
  bringing seen (Told manager.Ranged) = refl
  bringing seen (Told other) = none
  bringing seen sound = none

  commit : (settings : Settings) (t : Txn) (sound : Heard) → Owes no_nodes (takes_commit settings n t sound)
  commit settings t (Commits c) = refl
  commit settings t (Stored stamp) = refl
  commit settings t (Told (manager.FloorIs floor)) = refl
  commit settings t (Told other) = none
  commit settings t sound = none

  give_up : (t : Txn) (sound : Heard) → Owes no_nodes (takes_give_up n t sound)
  give_up t (Commits c) = refl
  give_up t sound = none

  trying : (t : Txn) (sound : Heard) → Owes no_nodes (takes_trying n t sound)
  trying t (Stored stamp) = refl
  trying t sound = none

  found : (s : Storing) (key : Key) (cell : Cell) (rival : Option ℕ) → Owes no_nodes (finds n s key cell rival)
  found s key cell None = refl
  found s key cell (Some rival) = refl

  storing : (s : Storing) (l : Option Loaded) (left : List Write) (sound : Heard) → Owes no_nodes (takes_storing n s l left sound)
  storing s None [] (Stored stamp) = refl
  storing s None (o ∷ left) (Record cell) = found s o.key cell (stranger s.txn.snapshot cell.versions)
  storing s (Some l) (o ∷ left) (Stored stamp) = refl
  storing s (Some l) left Moved = refl
  storing s l left sound = none

  removing : (r : Removing) (l : Option Loaded) (left : List Write) (sound : Heard) → Owes no_nodes (takes_removing n r l left sound)
  removing r None [] (Stored stamp) = refl
  removing r None (o ∷ left) (Record cell) = refl
  removing r (Some l) (o ∷ left) (Stored stamp) = refl
  removing r (Some l) left Moved = refl
  removing r l left sound = none

  closing : (t : Txn) (d : Decision) (c : Option CommitsCell) (sound : Heard) → Owes no_nodes (takes_closing n t d c sound)
  closing t d None (Commits x) = refl
  closing t d (Some c) (Stored stamp) = refl
  closing t d (Some c) Moved = refl
  closing t d c sound = none

  ending : (told : Answer) (sound : Heard) → Owes no_nodes (takes_ending n told sound)
  ending told (Told manager.Ended) = refl
  ending told (Told other) = none
  ending told sound = none

said_owes : (catalog : Catalog) (n : Node) (statement : Bound) (t : Txn) (rows : List (List (List Value))) (told : Answer) → Owes no_nodes (said catalog n statement t rows told)
said_owes catalog n statement t rows told = by t.stage
  where
    by : (stage : Stage) → Owes no_nodes (said catalog n statement (record t { stage = stage }) rows told)
    by Fresh = refl
    by Opened = refl
    by (Answering before) = refl

goes_owes : (catalog : Catalog) (n : Node) (statement : Bound) (t : Txn) (reads : Reads) (told : Answer) → Owes no_nodes (goes_on catalog n statement t reads told)
goes_owes catalog n statement t reads told = by reads.left
  where
    by : (left : List Read) → Owes no_nodes (goes_on catalog n statement t (record reads { left = left }) told)
    by [] = said_owes catalog n statement t (tables_read (record reads { left = [] })) told
    by (read ∷ left) = refl

read_owes : (settings : Settings) (catalog : Catalog) (n : Node) (statement : Bound) (t : Txn) (reads : Reads) (sound : Heard) (told : Answer) → Owes no_nodes n
    → Owes no_nodes (takes_read settings catalog n statement t reads sound told)
read_owes settings catalog n statement t reads sound told none = by reads.left sound
  where
    by : (left : List Read) (sound : Heard) → Owes no_nodes (takes_read settings catalog n statement t (record reads { left = left }) sound told)
    by (Point key ∷ left) (Record cell) =
        goes_owes catalog n statement t (take_cell t.snapshot cell.versions (record reads { left = Point key ∷ left }) left) told
    by (Range shard from first before ∷ left) (Page found more) =
        goes_owes catalog n statement t
        (take_page settings.shards t.snapshot shard from first before found more (record reads { left = Range shard from first before ∷ left }) left) told
    by left sound = none

idles_owes : (catalog : Catalog) (n : Node) (statement : Bound) (t : Txn) (reads : Reads) (told : Answer) → Owes no_nodes (idles catalog n statement t reads told)
idles_owes catalog n bound.Begin t reads told = refl
idles_owes catalog n (bound.Recover gone) t reads told = refl
idles_owes catalog n statement t reads told = said_owes catalog n statement t (tables_read reads) told

idle_owes : (settings : Settings) (catalog : Catalog) (n : Node) (statement : Bound) (t : Txn) (sound : Heard) (told : Answer) → Owes no_nodes n
    → Owes no_nodes (takes_idle settings catalog n statement t sound told)
idle_owes settings catalog n statement t (Told (manager.FloorIs floor)) told none = idles_owes catalog (learnt n (home_of settings n.number) floor) statement t (begin_reads (all_reads catalog statement)) told
idle_owes settings catalog n statement t (Told other) told none = none
idle_owes settings catalog n statement t sound told none = none

inside_owes : (settings : Settings) (catalog : Catalog) (n : Node) (statement : Bound) (t : Txn) (course : Course) (sound : Heard) (told : Answer) → Owes no_nodes n
    → Owes no_nodes (takes_inside settings catalog n statement t course sound told)
inside_owes settings catalog n statement t (ToRead reads) sound told none = read_owes settings catalog n statement t reads sound told none
inside_owes settings catalog n statement t ToIdle sound told none = idle_owes settings catalog n statement t sound told none
inside_owes settings catalog n statement t ToCommit sound told none = commit n none settings t sound
inside_owes settings catalog n statement t ToGiveUp sound told none = give_up n none t sound
inside_owes settings catalog n statement t course sound told none = none

outside_owes : (settings : Settings) (n : Node) (course : Course) (sound : Heard) → Owes no_nodes n → ((gone : ℕ) → course ≡ ToRecover gone → ⊥)
    → Owes no_nodes (takes_outside settings n course sound)
outside_owes settings n ToBegin (Commits c) none apart = refl
outside_owes settings n ToBegin sound none apart = none
outside_owes settings n ToIdle (Told (manager.FloorIs floor)) none apart = refl
outside_owes settings n ToIdle (Told other) none apart = none
outside_owes settings n ToIdle sound none apart = none
outside_owes settings n (ToRecover gone) sound none apart = absurd (apart gone refl)
outside_owes settings n course sound none apart = none

-- what the node is doing recovers no other
abbrev pub IsOwn : Bound → Doing → Type 0
IsOwn statement Outside = (gone : ℕ) → course_outside statement ≡ ToRecover gone → ⊥
IsOwn statement (Recovering c) = ⊥
IsOwn statement (ReadingLog c o) = ⊥
IsOwn statement (Stripping c o log keys l) = ⊥
IsOwn statement (Finishing c o committed x) = ⊥
IsOwn statement (EndingLost c o) = ⊥
IsOwn statement (Stopped nodes) = ⊥
IsOwn statement other = Unit {0}

pub own_owes : (settings : Settings) (catalog : Catalog) (n : Node) (statement : Bound) (d : Doing) (sound : Heard) (told : Answer) → Owes no_nodes n → IsOwn statement d
    → Owes no_nodes (takes_doing settings catalog n statement d sound told)
own_owes settings catalog n statement Outside sound told none own = outside_owes settings n (course_outside statement) sound none own
own_owes settings catalog n statement (Noted seen) sound told none own = noted n none settings statement seen sound
own_owes settings catalog n statement (Drawing seen) sound told none own = drawing n none seen sound
own_owes settings catalog n statement (Bringing seen low) sound told none own = bringing n none seen sound
own_owes settings catalog n statement (Inside t) sound told none own = inside_owes settings catalog n statement t (course_in catalog t.stage statement) sound told none
own_owes settings catalog n statement (Reading t reads) sound told none own = read_owes settings catalog n statement t reads sound told none
own_owes settings catalog n statement (Trying t) sound told none own = trying n none t sound
own_owes settings catalog n statement (Stores s l) sound told none own = storing n none s l s.left sound
own_owes settings catalog n statement (Removes r l) sound told none own = removing n none r l r.left sound
own_owes settings catalog n statement (Closing t d c) sound told none own = closing n none t d c sound
own_owes settings catalog n statement (Ending tid a) sound told none own = ending n none a sound
own_owes settings catalog n statement other sound told none own = absurd own

-- ---- a recovery owes all that were given, unless its statement is said

abbrev Keeps : NodeSet → List Entry → Node → Type 0
Keeps nodes entries n = (if has_said entries then nodes else owed_by n.doing) ≡ nodes

either : (b : Bool) (x y : NodeSet) → y ≡ x → (if b then x else y) ≡ x
either true x y e = refl
either false x y e = e

lost_keeps : (n : Node) (c : Claimed) (d : ℕ) (tids : List ℕ) → Keeps c.all (says_recovered n c tids c.left) (next_lost n c d tids)
lost_keeps n c d [] = by c.left
  where
    by : (left : List ℕ) → Keeps c.all (says_recovered n (record c { left = left }) [] left) (next_duty n (record c { left = left }))
    by [] = refl
    by (x ∷ left) = refl
lost_keeps n c d (tid ∷ others) = refl

recovering_keeps : (n : Node) (c : Claimed) (left : List ℕ) (sound : Heard) → Owes c.all n → c.left ≡ left → Keeps c.all (says_recovering n c left sound) (takes_recovering n c left sound)
recovering_keeps n c (d ∷ left) (Told (manager.Orphaned tids)) own e = lost_keeps n (record c { left = left }) d tids
recovering_keeps n c (d ∷ left) (Told other) own e = own
recovering_keeps n c left sound own e = own

flag_keeps : (n : Node) (c : Claimed) (o : Lost) (log : LogCell) (f : Flag) → Owes c.all (by_flag n c o log f)
flag_keeps n c o log flag.Trying = refl
flag_keeps n c o log flag.Decided = refl
flag_keeps n c o log flag.Undone = refl

log_keeps : (n : Node) (c : Claimed) (o : Lost) (sound : Heard) → Owes c.all n → Owes c.all (takes_log n c o sound)
log_keeps n c o (Log None) own = refl
log_keeps n c o (Log (Some log)) own = flag_keeps n c o log log.entry.flag
log_keeps n c o sound own = own

strip_keeps : (n : Node) (c : Claimed) (o : Lost) (log : LogCell) (keys : List Key) (l : Option Loaded) (sound : Heard) → Owes c.all n
    → Owes c.all (takes_stripping n c o log keys l sound)
strip_keeps n c o log [] None (Stored stamp) own = refl
strip_keeps n c o log (key ∷ keys) None (Record cell) own = by (is_written o.tid cell.versions)
  where
    by : (b : Bool) → Owes c.all (if b then with_doing n (Stripping c o log (key ∷ keys) (Some (record { key = key; stamp = cell.stamp; versions = cell.versions })))
        else with_doing n (Stripping c o log keys None))
    by true = refl
    by false = refl
strip_keeps n c o log (key ∷ keys) (Some l) (Stored stamp) own = refl
strip_keeps n c o log keys (Some l) Moved own = refl
strip_keeps n c o log keys l sound own = own

finish_keeps : (n : Node) (c : Claimed) (o : Lost) (committed : Bool) (x : Option CommitsCell) (sound : Heard) → Owes c.all n
    → Owes c.all (takes_finishing n c o committed x sound)
finish_keeps n c o committed None (Commits y) own = by (has y.finished o.tid)
  where
    by : (b : Bool) → Owes c.all (if b then with_doing n (EndingLost c o) else with_doing n (Finishing c o committed (Some y)))
    by true = refl
    by false = refl
finish_keeps n c o committed (Some x) (Stored stamp) own = refl
finish_keeps n c o committed (Some x) Moved own = refl
finish_keeps n c o committed x sound own = own

end_keeps : (n : Node) (c : Claimed) (o : Lost) (sound : Heard) → Owes c.all n → Keeps c.all (says_end_lost n c o sound) (takes_end_lost n c o sound)
end_keeps n c o (Told manager.Ended) own = lost_keeps n c o.node o.others
end_keeps n c o (Told other) own = own
end_keeps n c o sound own = own

-- all those that what the node is doing recovers
abbrev pub IsForeign : Doing → Type 0
IsForeign (Recovering c) = Unit {0}
IsForeign (ReadingLog c o) = Unit {0}
IsForeign (Stripping c o log keys l) = Unit {0}
IsForeign (Finishing c o committed x) = Unit {0}
IsForeign (EndingLost c o) = Unit {0}
IsForeign (Stopped nodes) = Unit {0}
IsForeign other = ⊥

pub foreign_keeps : (settings : Settings) (catalog : Catalog) (n : Node) (statement : Bound) (d : Doing) (sound : Heard) (told : Answer) → n.doing ≡ d → IsForeign d
    → Keeps (owed_by d) (says_doing settings catalog [] n statement d sound told) (takes_doing settings catalog n statement d sound told)
foreign_keeps settings catalog n statement (Recovering c) sound told e f = recovering_keeps n c c.left sound (ap owed_by e) refl
foreign_keeps settings catalog n statement (ReadingLog c o) sound told e f = log_keeps n c o sound (ap owed_by e)
foreign_keeps settings catalog n statement (Stripping c o log keys l) sound told e f = strip_keeps n c o log keys l sound (ap owed_by e)
foreign_keeps settings catalog n statement (Finishing c o committed x) sound told e f =
    either (has_said (says_doing settings catalog [] n statement (Finishing c o committed x) sound told)) c.all
    (owed_by (takes_finishing n c o committed x sound).doing) (finish_keeps n c o committed x sound (ap owed_by e))
foreign_keeps settings catalog n statement (EndingLost c o) sound told e f = end_keeps n c o sound (ap owed_by e)
foreign_keeps settings catalog n statement (Stopped nodes) sound told e f = ap owed_by e
foreign_keeps settings catalog n statement other sound told e f = absurd f

pub own_keeps : (settings : Settings) (catalog : Catalog) (n : Node) (statement : Bound) (d : Doing) (sound : Heard) (told : Answer) → Owes no_nodes n → IsOwn statement d
    → Keeps no_nodes (says_doing settings catalog [] n statement d sound told) (takes_doing settings catalog n statement d sound told)
own_keeps settings catalog n statement d sound told none own =
    either (has_said (says_doing settings catalog [] n statement d sound told)) no_nodes (owed_by (takes_doing settings catalog n statement d sound told).doing)
    (own_owes settings catalog n statement d sound told none own)
