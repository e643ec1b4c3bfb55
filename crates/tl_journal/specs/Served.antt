-- What the places reply to a request, and what stands there after it, as the protocol sees them: no bytes, shards or logs.
use Rattle.std.specs.Prelude.{◌≡◌, ◌<◌, ◌≤◌, ◌⊎◌, ℕ, ◌+◌, ◌-◌, ◌^◌, ◌==◌, Bool, true, false, not, ◌&&◌, nat_le, List, [], ◌∷◌, ◌++◌, Option, Some, None}
use Rattle.std.specs.List.{AllByRecursion, list_any}
use Rattle.tl_base.specs.NodeSet.{has_node}
use Rattle.tl_base.specs.declared.node.NodeSet.{NodeSet}
use Rattle.tl_base.specs.declared.place.Settings.{Settings}
use Rattle.tl_cells.specs.Place.{shard_of_key}
use Rattle.tl_descriptor.specs.Tids.{TidSet, begins}
use Rattle.tl_logrec.specs.declared.entry.LogEntry.{LogEntry}
use Rattle.tl_manager.specs.declared.active.Active.{Active}
use Rattle.tl_manager.specs.declared.request.ManagerReply.TheVariants as reply
use Rattle.tl_manager.specs.declared.request.ManagerRequest.{ManagerRequest}
use Rattle.tl_manager.specs.declared.request.ManagerRequest.TheVariants as asked
use Rattle.tl_manager.specs.Floor.{newer}
use Rattle.tl_versions.specs.declared.version.Version.{Version}
use Rattle.tl_write.specs.Own.{key_cmp}
use Rattle.std.specs.Ordering.{is_lt}
use Rattle.tl_protocol.specs.Store.{Key, Cell, LogCell, CommitsCell, log_stamp, put, put_at, same_key}
use Rattle.tl_protocol.specs.World.{Number, Ready, Begun, Carried, World}
use Rattle.tl_protocol.specs.Move.{is_empty}
use Rattle.tl_protocol.specs.Next.{numbered}
use Rattle.tl_journal.specs.Ask.{Ask, LoadCommits, StoreCommits, LoadLog, StoreLog, LoadRecord, StoreRecord, ReadPage, DrawNumbers, AskManager, Found, Heard, Commits, Log, Record, Page, Stored, Moved, Numbers, Told, Strange}
use Rattle.tl_journal.specs.Bytes.{home_of}
use Rattle.tl_journal.specs.Reads.{key_behind}

-- what the store and the managers hold
pub record Parts : Type 0 where
  pub cells : Key → Cell
  pub commits : CommitsCell
  pub logs : ℕ → Option LogCell
  pub counter : ℕ
  pub copies : ℕ → TidSet
  pub numbers : ℕ → Number
  pub active : ℕ → Option Active
  pub notices : ℕ → Option (ℕ → Bool)

abbrev pub parts_of : World → Parts
parts_of w =
    record {
      cells = w.cells;
      commits = w.commits;
      logs = w.logs;
      counter = w.counter;
      copies = w.copies;
      numbers = w.numbers;
      active = w.active;
      notices = w.notices;
    }

abbrev pub is_record_key : Key → Bool
is_record_key [] = false
is_record_key (byte ∷ key) = byte == 4

-- the key stands at this shard, from the one key on and below the other
pub record IsWithin (settings : Settings) (shard : ℕ) (from before key : Key) : Type 0 where
  pub at : shard_of_key key settings.shards ≡ shard
  pub from_on : is_lt (key_cmp key from) ≡ false
  pub below : is_lt (key_cmp key before) ≡ true

-- where the part of the range that a page has covered ends
abbrev pub page_end : Key → Key → List Found → Bool → Key
page_end from before found true = key_behind from found
page_end from before found false = before

-- the cell of this key is among those found
abbrev pub is_found : Key → List Found → Bool
is_found key found = list_any (λ (f : Found). same_key f.key key) found

-- the keys rise, the first one from this key on
abbrev pub are_rising : Key → List Found → Bool
are_rising from [] = true
are_rising from (f ∷ fs) = not (is_lt (key_cmp f.key from)) && are_rising (f.key ++ 0 ∷ []) fs

-- a page has the versions of all record cells of the shard within the part that it covers; a cell that it lacks has none
pub record IsPage (settings : Settings) (cells : Key → Cell) (shard : ℕ) (from before : Key) (found : List Found) (more : Bool) : Type 0 where
  pub are : AllByRecursion (λ (f : Found). IsWithin settings shard from before f.key × (f.versions ≡ (cells f.key).versions)) found
  pub rising : are_rising from found ≡ true
  -- each of them was stored, and where there are more, there is one
  pub stored : AllByRecursion (λ (f : Found). 1 ≤ (cells f.key).stamp) found
  pub some : more ≡ true → is_empty found ≡ false
  pub all : (key : Key) → IsWithin settings shard from (page_end from before found more) key → is_found key found ≡ false → (cells key).versions ≡ []

-- a conditional store was done, and the cell has a greater stamp; or it was refused, since the stamp is another
abbrev pub Stores : ℕ → ℕ → Heard → (ℕ → Parts) → Parts → Parts → Type 0
Stores found stamp heard done p after =
    ((fresh : ℕ) × (heard ≡ Stored fresh) × (found ≡ stamp) × (stamp < fresh) × (after ≡ done fresh))
    ⊎ (((heard ≡ Moved) × ((found == stamp) ≡ false) × (after ≡ p)) ⊎ ((heard ≡ Strange) × (after ≡ p)))

abbrev pub stored_commits : Parts → TidSet → ℕ → Parts
stored_commits p set stamp = record p { commits = record { stamp = stamp; finished = set } }

abbrev pub stored_log : Parts → LogEntry → ℕ → Parts
stored_log p entry stamp = record p { logs = put entry.tid (Some (record { stamp = stamp; entry = entry })) p.logs }

abbrev pub stored_record : Parts → Key → List Version → ℕ → Parts
stored_record p key versions stamp = record p { cells = put_at key (record { stamp = stamp; versions = versions }) p.cells }

-- the low-water mark of a manager with this copy: of the copy and the active snapshots the one that begins them all
pub record IsMark (settings : Settings) (active : ℕ → Option Active) (manager : ℕ) (copy floor : TidSet) : Type 0 where
  pub is_one : (floor ≡ copy) ⊎ ((d : ℕ) × (x : Active) × (active d ≡ Some x) × (home_of settings d ≡ manager) × (floor ≡ x.snapshot))
  pub begins_copy : begins floor copy ≡ true
  pub begins_active : (d : ℕ) (x : Active) → active d ≡ Some x → home_of settings d ≡ manager → begins floor x.snapshot ≡ true

abbrev pub begun_parts : Parts → ℕ → ℕ → ℕ → TidSet → Parts
begun_parts p manager node tid copy =
    record p {
      copies = put manager copy p.copies;
      numbers = put tid (Begun node) p.numbers;
      active = put node (Some (record { tid = tid; node = node; snapshot = copy })) p.active;
    }

-- the nodes of a set, as the protocol has them
abbrev pub AreNodes : (ℕ → Bool) → NodeSet → Type 0
AreNodes nodes set = (d : ℕ) → nodes d ≡ (nat_le 1 d && has_node set d)

-- what a manager replies
abbrev pub Answers : Settings → Parts → ℕ → ManagerRequest → Heard → Parts → Type 0
Answers settings p m (asked.Begin node seen) heard after =
    ((tid : ℕ) × (floor : TidSet) × (heard ≡ Told (reply.Began tid (newer (p.copies m) seen) floor)) × (p.numbers tid ≡ Ready m)
    × IsMark settings p.active m (newer (p.copies m) seen) floor × (after ≡ begun_parts p m node tid (newer (p.copies m) seen)))
    ⊎ ((heard ≡ Told reply.NeedRange) × (after ≡ p) × ((t : ℕ) → p.numbers t ≡ Ready m → ⊥))
Answers settings p m (asked.Range low high) heard after =
    (heard ≡ Told reply.Ranged) × (after ≡ record p { numbers = numbered (low - 1) (Ready m) p.numbers })
Answers settings p m (asked.End tid) heard after =
    (heard ≡ Told reply.Ended) × ((n : ℕ) (x : Active) → p.active n ≡ Some x → x.tid ≡ tid → after ≡ record p { active = put n None p.active })
    × (((n : ℕ) (x : Active) → p.active n ≡ Some x → x.tid ≡ tid → ⊥) → after ≡ p)
Answers settings p m (asked.Orphans node) heard after =
    (((x : Active) × (p.active node ≡ Some x) × (heard ≡ Told (reply.Orphaned (x.tid ∷ []))))
    ⊎ ((p.active node ≡ None) × (heard ≡ Told (reply.Orphaned [])))) × (after ≡ p)
Answers settings p m (asked.Floor seen) heard after =
    ((floor : TidSet) × (heard ≡ Told (reply.FloorIs floor)) × IsMark settings p.active m (newer (p.copies m) seen) floor)
    × (after ≡ record p { copies = put m (newer (p.copies m) seen) p.copies })
Answers settings p m (asked.Post node also) heard after = ⊥
Answers settings p m (asked.Claim node) heard after =
    ((p.notices node ≡ None) × (heard ≡ Told reply.There) × (after ≡ p))
    ⊎ ((set : NodeSet) × (nodes : ℕ → Bool) × (p.notices node ≡ Some nodes) × AreNodes nodes set × (heard ≡ Told (reply.Given set))
    × (after ≡ record p { notices = put node None p.notices }))

-- what the places reply to a request of node n
abbrev pub Serves : Settings → Parts → ℕ → Ask → Heard → Parts → Type 0
Serves settings p n LoadCommits heard after = (heard ≡ Commits p.commits) × (after ≡ p)
Serves settings p n (StoreCommits stamp set) heard after = Stores p.commits.stamp stamp heard (stored_commits p set) p after
Serves settings p n (LoadLog tid) heard after = (heard ≡ Log (p.logs tid)) × (after ≡ p)
Serves settings p n (StoreLog stamp entry) heard after = Stores (log_stamp (p.logs entry.tid)) stamp heard (stored_log p entry) p after
Serves settings p n (LoadRecord key) heard after = (heard ≡ Record (p.cells key)) × (after ≡ p)
Serves settings p n (StoreRecord key stamp versions) heard after = Stores (p.cells key).stamp stamp heard (stored_record p key versions) p after
Serves settings p n (ReadPage shard from before) heard after =
    ((found : List Found) × (more : Bool) × (heard ≡ Page found more) × IsPage settings p.cells shard from before found more) × (after ≡ p)
Serves settings p n DrawNumbers heard after =
    ((heard ≡ Numbers p.counter) × (p.counter + 16 ≤ 2 ^ 62)
    × (after ≡ record p { counter = p.counter + 16; numbers = numbered p.counter (Carried n) p.numbers }))
    ⊎ ((heard ≡ Strange) × (after ≡ p))
Serves settings p n (AskManager m request) heard after = Answers settings p m request heard after
