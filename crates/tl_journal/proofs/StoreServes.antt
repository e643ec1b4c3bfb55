-- The shards serve the protocol: what they reply to a request is what its store says, and what they hold after it is the store after it.
use Rattle.std.proofs.Common.{◌≡◌, ℕ, ◌+◌, ◌<◌, ◌≤◌, Bool, true, false, inl, inr, List, [], ◌∷◌, ◌++◌, length, Option, Some, None, refl, sym, ap, ◌∙◌, subst, arith}
use Rattle.std.specs.Prelude.{◌^◌, nat_lt, if◌then◌else◌}
use Rattle.std.specs.List.{AllByRecursion}
use Rattle.std.specs.FinMap as finmap
use Rattle.std.proofs.lemmas.Bool.{eq-eqb, ltb-false}
use Rattle.std.proofs.lemmas.Nat.{mod_below}
use Rattle.tl_base.specs.declared.place.Settings.{Settings}
use Rattle.tl_base.specs.declared.store.StoreReply.{StoreReply}
use Rattle.tl_base.specs.declared.store.StoreReply.TheVariants as answered
use Rattle.tl_base.specs.declared.store.StoreRequest.{StoreRequest}
use Rattle.tl_base.specs.declared.store.StoreRequest.TheVariants as store
use Rattle.tl_schema.specs.declared.catalog.Setup.{Setup}
use Rattle.tl_cells.specs.declared.cell.Cell.{Cell as ShardCell}
use Rattle.tl_cells.specs.Cells.{cells_within, greatest}
use Rattle.tl_cells.specs.Place.{key_hash, shard_of_key}
use Rattle.tl_cells.specs.Serves.{Call, Serves as ShardServes, added, reply_after, stores}
use Rattle.tl_descriptor.specs.Reading as sets
use Rattle.tl_descriptor.specs.Tids.{TidSet}
use Rattle.tl_logrec.specs.declared.entry.LogEntry.{LogEntry}
use Rattle.tl_logrec.specs.Entry as logs
use Rattle.tl_logrec.specs.Reading.{read_entry, read_mark}
use Rattle.tl_manager.specs.declared.request.ManagerReply.{ManagerReply}
use Rattle.tl_manager.specs.declared.request.Reply.TheVariants as reply
use Rattle.tl_versions.specs.declared.version.Version.{Version}
use Rattle.tl_versions.specs.Cell as cells
use Rattle.tl_protocol.specs.Store.{Key, LogCell, log_stamp}
use Rattle.tl_protocol.specs.World.{Carried}
use Rattle.tl_protocol.specs.Next.{numbered}
use Rattle.tl_journal.specs.Binding.{KeyFits}
use Rattle.tl_journal.specs.declared.event.Event.{Event}
use Rattle.tl_journal.specs.Ask.{Ask, LoadCommits, StoreCommits, LoadLog, StoreLog, LoadRecord, StoreRecord, ReadPage, DrawNumbers, AskManager, Found, Heard, Commits, Log, Record, Page, Numbers, Strange}
use Rattle.tl_journal.specs.Bytes.{commits_in, commits_key, counter_key, entry_in, heard, log_in, log_key, page_in, page_limit, place_of, record_in, shard_heard, written}
use Rattle.tl_journal.specs.Journal.{shard_call, shard_log}
use Rattle.tl_journal.specs.Served.{Parts, Serves, Stores, is_record_key, stored_commits, stored_log, stored_record}
use Rattle.tl_journal.proofs.Fits.{AskFits, EntryFits, HeardFits, LogFits, SetFits, VersionsFit}
use Rattle.tl_journal.proofs.Store.{CommitsIs, LogIs, RecordIs, StoreIs, commits_put, holds_same, log_put, record_put}
use Rattle.tl_journal.proofs.StoreEvents.{Outcome, event_kept, event_summed, store_done}
use Rattle.tl_journal.proofs.StoreRanges.{paged}
use Rattle.tl_journal.proofs.StoreStays.{AreAnswered}
use Rattle.tl_journal.proofs.StoreLogs.{IsCall, call_of, cell_in, counter_in}

-- what is asked is asked of a shard that there is
abbrev pub IsAtShard : Settings → Ask → Type 0
IsAtShard settings (AskManager m asked) = ⊥
IsAtShard settings (ReadPage shard from before) = shard < settings.shards
IsAtShard settings ask = Unit {0}

-- a request at a shard comes to this
pub record Served (settings : Settings) (setup : Setup) (past : List Event) (e : Event) (p : Parts) (n : ℕ) (ask : Ask) (heard : Heard) : Type 0 where
  pub after : Parts
  pub serves : Serves settings p n ask heard after
  pub store : StoreIs settings setup (past ++ e ∷ []) after
  pub fits : HeardFits (length past + 1) heard

nothing : read_entry [] ≡ None
unfolding read_entry read_mark
nothing = refl

-- what the log cell of a transaction is read as
log_heard : (tid : ℕ) (c : ShardCell) (o : Option LogCell) → LogIs tid c o → log_in c.stamp c.value ≡ Log o
log_heard tid c None h = ap (log_in c.stamp) h.1
log_heard tid c (Some x) h = by c.value refl
  where
    none_some : ◌≡◌ {A = Option LogEntry} None (Some x.entry) → ⊥
    none_some e = cc

    by : (bytes : List ℕ) → c.value ≡ bytes → log_in c.stamp bytes ≡ Log (Some x)
    by [] e = absurd (none_some (sym nothing ∙ ap read_entry (sym e) ∙ h.read))
    by (byte ∷ bytes) e = λ i. entry_in (h.stamp i) ((ap read_entry (sym e) ∙ h.read) i)

pub log_fits : (tid : ℕ) (c : ShardCell) (o : Option LogCell) → LogIs tid c o → LogFits o
log_fits tid c None h = tt
log_fits tid c (Some x) h = h.fits

log_stamped : (tid : ℕ) (c : ShardCell) (o : Option LogCell) → LogIs tid c o → c.stamp ≡ log_stamp o
log_stamped tid c None h = h.0
log_stamped tid c (Some x) h = h.stamp

module _ (settings : Settings) (setup : Setup) (past : List Event) (e : Event) (p : Parts) (n : ℕ) (h : StoreIs settings setup past p) (few : length past + 1 < 2 ^ 32) where
  -- a load
  module _ (key : Key) (answer : StoreReply) (is : IsCall e (shard_of_key key settings.shards) (record { request = store.Load key; reply = answer })) where
    load_kept : StoreIs settings setup (past ++ e ∷ []) p
    load_kept = event_kept settings setup past e (shard_of_key key settings.shards) (record { request = store.Load key; reply = answer }) is p h refl (λ k. refl)

  load_commits : (answer : StoreReply) → IsCall e (shard_of_key commits_key settings.shards) (record { request = store.Load commits_key; reply = answer })
      → answer ≡ reply_after 0 (shard_log settings setup (shard_of_key commits_key settings.shards) past) (store.Load commits_key)
      → Served settings setup past e p n LoadCommits (shard_heard LoadCommits answer)
  load_commits answer is follows =
      let c : CommitsIs (length past + 1) (cell_in settings setup past commits_key) p.commits = h.holds.commits in
      let is_heard : shard_heard LoadCommits answer ≡ Commits p.commits = ap (shard_heard LoadCommits) follows ∙ (λ i. commits_in (c.stamp i) (c.read i)) in
      record {
        after = p;
        serves = (is_heard, refl);
        store = load_kept commits_key answer is;
        fits = subst (HeardFits (length past + 1)) (sym is_heard) c.fits;
      }

  load_log : (tid : ℕ) → tid ≤ 2 ^ 62 → (answer : StoreReply) → IsCall e (shard_of_key (log_key tid) settings.shards) (record { request = store.Load (log_key tid); reply = answer })
      → answer ≡ reply_after 0 (shard_log settings setup (shard_of_key (log_key tid) settings.shards) past) (store.Load (log_key tid))
      → Served settings setup past e p n (LoadLog tid) (shard_heard (LoadLog tid) answer)
  load_log tid le answer is follows =
      let c : LogIs tid (cell_in settings setup past (log_key tid)) (p.logs tid) = h.holds.logs tid le in
      let is_heard : shard_heard (LoadLog tid) answer ≡ Log (p.logs tid) = ap (shard_heard (LoadLog tid)) follows ∙ log_heard tid (cell_in settings setup past (log_key tid)) (p.logs tid) c in
      record {
        after = p;
        serves = (is_heard, refl);
        store = load_kept (log_key tid) answer is;
        fits = subst (HeardFits (length past + 1)) (sym is_heard) (log_fits tid (cell_in settings setup past (log_key tid)) (p.logs tid) c);
      }

  load_record : (key : Key) → is_record_key key ≡ true → (answer : StoreReply) → IsCall e (shard_of_key key settings.shards) (record { request = store.Load key; reply = answer })
      → answer ≡ reply_after 0 (shard_log settings setup (shard_of_key key settings.shards) past) (store.Load key)
      → Served settings setup past e p n (LoadRecord key) (shard_heard (LoadRecord key) answer)
  load_record key key_fits answer is follows =
      let c : RecordIs (length past + 1) (cell_in settings setup past key) (p.cells key) = h.holds.cells key key_fits in
      let is_heard : shard_heard (LoadRecord key) answer ≡ Record (p.cells key) = ap (shard_heard (LoadRecord key)) follows ∙ (λ i. record_in (c.stamp i) (c.read i)) in
      record {
        after = p;
        serves = (is_heard, refl);
        store = load_kept key answer is;
        fits = subst (HeardFits (length past + 1)) (sym is_heard) c.fits;
      }

  served_store : (ask : Ask) (found stamp : ℕ) (done : ℕ → Parts) (told : Heard)
      → ((after : Parts) → Stores found stamp told done p after → Serves settings p n ask told after) → Outcome settings setup past e p found stamp done told → Served settings setup past e p n ask told
  served_store ask found stamp done told f o = record { after = o.after; serves = f o.after o.serves; store = o.store; fits = o.fits }

  store_commits : (stamp : ℕ) (set : TidSet) → SetFits (length past + 1) set → (answer : StoreReply)
      → IsCall e (shard_of_key commits_key settings.shards) (record { request = store.StoreIf commits_key stamp (sets.spelling set); reply = answer })
      → answer ≡ reply_after 0 (shard_log settings setup (shard_of_key commits_key settings.shards) past) (store.StoreIf commits_key stamp (sets.spelling set))
      → Served settings setup past e p n (StoreCommits stamp set) (shard_heard (StoreCommits stamp set) answer)
  store_commits stamp set fits answer is follows =
      served_store (StoreCommits stamp set) p.commits.stamp stamp (stored_commits p set) (shard_heard (StoreCommits stamp set) answer) (λ after s. s)
      (store_done settings setup past e p h commits_key stamp (sets.spelling set) answer is p.commits.stamp h.holds.commits.stamp (stored_commits p set)
      (λ fresh above. commits_put (length past + 1) (cell_in settings setup past) (counter_in settings setup past) p h.holds few fresh set fits) follows)

  store_log : (stamp : ℕ) (entry : LogEntry) → EntryFits entry → (answer : StoreReply)
      → IsCall e (shard_of_key (log_key entry.tid) settings.shards) (record { request = store.StoreIf (log_key entry.tid) stamp (logs.spelling entry); reply = answer })
      → answer ≡ reply_after 0 (shard_log settings setup (shard_of_key (log_key entry.tid) settings.shards) past) (store.StoreIf (log_key entry.tid) stamp (logs.spelling entry))
      → Served settings setup past e p n (StoreLog stamp entry) (shard_heard (StoreLog stamp entry) answer)
  store_log stamp entry fits answer is follows =
      served_store (StoreLog stamp entry) (log_stamp (p.logs entry.tid)) stamp (stored_log p entry) (shard_heard (StoreLog stamp entry) answer) (λ after s. s)
      (store_done settings setup past e p h (log_key entry.tid) stamp (logs.spelling entry) answer is (log_stamp (p.logs entry.tid))
      (log_stamped entry.tid (cell_in settings setup past (log_key entry.tid)) (p.logs entry.tid) (h.holds.logs entry.tid fits.tid)) (stored_log p entry)
      (λ fresh above. log_put (length past + 1) (cell_in settings setup past) (counter_in settings setup past) p h.holds few fresh entry fits above) follows)

  store_record : (key : Key) (stamp : ℕ) (versions : List Version) → KeyFits key → VersionsFit (length past + 1) versions → (answer : StoreReply)
      → IsCall e (shard_of_key key settings.shards) (record { request = store.StoreIf key stamp (cells.spelling versions); reply = answer })
      → answer ≡ reply_after 0 (shard_log settings setup (shard_of_key key settings.shards) past) (store.StoreIf key stamp (cells.spelling versions))
      → Served settings setup past e p n (StoreRecord key stamp versions) (shard_heard (StoreRecord key stamp versions) answer)
  store_record key stamp versions key_fits fits answer is follows =
      served_store (StoreRecord key stamp versions) (p.cells key).stamp stamp (stored_record p key versions) (shard_heard (StoreRecord key stamp versions) answer) (λ after s. s)
      (store_done settings setup past e p h key stamp (cells.spelling versions) answer is (p.cells key).stamp (h.holds.cells key key_fits.is_record).stamp (stored_record p key versions)
      (λ fresh above. record_put (length past + 1) (cell_in settings setup past) (counter_in settings setup past) p h.holds few fresh key versions key_fits.is_record fits) follows)

  -- a sum that was made, or would have passed the end
  draw_numbers : (answer : StoreReply) → IsCall e (shard_of_key counter_key settings.shards) (record { request = store.Add counter_key 16; reply = answer })
      → answer ≡ reply_after 0 (shard_log settings setup (shard_of_key counter_key settings.shards) past) (store.Add counter_key 16)
      → Served settings setup past e p n DrawNumbers (shard_heard DrawNumbers answer)
  draw_numbers answer is follows = by (nat_lt greatest (counter_in settings setup past + 16)) refl follows
    where
      drawn : Parts
      drawn = record p { counter = p.counter + 16; numbers = numbered p.counter (Carried n) p.numbers }

      within : (old top : ℕ) → nat_lt top (old + 16) ≡ false → old ≡ p.counter → p.counter + 16 ≤ top
      within old top t eq = let le : old + 16 ≤ top = ltb-false top (old + 16) t in omega arith

      by : (b : Bool) → nat_lt greatest (counter_in settings setup past + 16) ≡ b
          → answer ≡ (if b then answered.Full (counter_in settings setup past) else answered.Count (counter_in settings setup past))
          → Served settings setup past e p n DrawNumbers (shard_heard DrawNumbers answer)
      by true t eq = record {
        after = p;
        serves = inr (ap (shard_heard DrawNumbers) eq, refl);
        store = event_summed settings setup past e (shard_of_key counter_key settings.shards) (record { request = store.Add counter_key 16; reply = answer }) is p h 0 refl (ap (added counter_key (store.Add counter_key 16)) eq) refl p
            (holds_same (length past + 1) (cell_in settings setup past) (cell_in settings setup past) (counter_in settings setup past) (counter_in settings setup past + 0) p (λ k. refl) (omega arith) h.holds);
        fits = subst (HeardFits (length past + 1)) (sym (ap (shard_heard DrawNumbers) eq)) tt;
      }
      by false t eq =
          let old : counter_in settings setup past ≡ p.counter = h.holds.counter in
          let is_heard : shard_heard DrawNumbers answer ≡ Numbers p.counter = ap (shard_heard DrawNumbers) eq ∙ ap Numbers old in
          record {
            after = drawn;
            serves = inl (is_heard, within (counter_in settings setup past) (2 ^ 62) t old, refl);
            store = event_summed settings setup past e (shard_of_key counter_key settings.shards) (record { request = store.Add counter_key 16; reply = answer }) is p h 16 refl (ap (added counter_key (store.Add counter_key 16)) eq) refl drawn
                (record { cells = h.holds.cells; commits = h.holds.commits; logs = h.holds.logs; others = h.holds.others; counter = ap (λ c. c + 16) old });
            fits = subst (HeardFits (length past + 1)) (sym is_heard) tt;
          }

  read_page : (shard : ℕ) (from before : Key) → is_record_key from ≡ true → is_record_key before ≡ true → (answer : StoreReply)
      → IsCall e shard (record { request = store.Page from before page_limit; reply = answer })
      → answer ≡ reply_after 0 (shard_log settings setup shard past) (store.Page from before page_limit)
      → Served settings setup past e p n (ReadPage shard from before) (shard_heard (ReadPage shard from before) answer)
  read_page shard from before first last answer is follows =
      let x = paged settings setup past p h shard from before first last page_limit (omega arith) in
      let more : Bool = nat_lt page_limit (length (cells_within from before (finmap.from_entries (stores (shard_log settings setup shard past))))) in
      let is_heard : shard_heard (ReadPage shard from before) answer ≡ Page x.found more = ap (shard_heard (ReadPage shard from before)) follows ∙ ap (λ (list : Option (List Found)). page_in list more) x.reads in
      record {
        after = p;
        serves = ((x.found, more, is_heard, x.page), refl);
        store = event_kept settings setup past e shard (record { request = store.Page from before page_limit; reply = answer }) is p h refl (λ k. refl);
        fits = subst (HeardFits (length past + 1)) (sym is_heard) x.fits;
      }

  -- the reply is the one that the log calls for
  pub follows_log : AreAnswered settings setup past e → (s : ℕ) → s < settings.shards → (asked : StoreRequest) (answer : StoreReply)
      → IsCall e s (record { request = asked; reply = answer }) → answer ≡ reply_after 0 (shard_log settings setup s past) asked
  follows_log answers s lt asked answer is =
      let c : Call = record { request = asked; reply = answer } in
      let one : shard_call s e.place e.request e.reply ≡ c ∷ [] = is s ∙ ap (λ (b : Bool). if b then c ∷ [] else []) (eq-eqb s s refl) in
      let all : AllByRecursion (ShardServes 0 (shard_log settings setup s past)) (c ∷ []) = subst (λ (cs : List Call). AllByRecursion (ShardServes 0 (shard_log settings setup s past)) cs) one (answers s lt) in
      all.0

  module _ (some : 1 ≤ settings.shards) (answers : AreAnswered settings setup past e) (answer : StoreReply) (told : e.reply ≡ reply.Store answer) where
    lives : (key : Key) → shard_of_key key settings.shards < settings.shards
    lives key = mod_below (key_hash 0 key) settings.shards (omega arith)

    read_back : (ask : Ask) → heard ask (reply.Store answer) ≡ shard_heard ask answer → Served settings setup past e p n ask (shard_heard ask answer) → Served settings setup past e p n ask (heard ask e.reply)
    read_back ask eq x = subst (Served settings setup past e p n ask) (sym (ap (heard ask) told ∙ eq)) x

    serves : (ask : Ask) → IsAtShard settings ask → AskFits (length past + 1) ask → e.place ≡ place_of settings ask → e.request ≡ written ask
        → Served settings setup past e p n ask (heard ask e.reply)
    serves LoadCommits at_shard fits there asked =
        let is = call_of e (shard_of_key commits_key settings.shards) (store.Load commits_key) answer there asked told in
        read_back LoadCommits refl (load_commits answer is (follows_log answers (shard_of_key commits_key settings.shards) (lives commits_key) (store.Load commits_key) answer is))
    serves (StoreCommits stamp set) at_shard fits there asked =
        let is = call_of e (shard_of_key commits_key settings.shards) (store.StoreIf commits_key stamp (sets.spelling set)) answer there asked told in
        read_back (StoreCommits stamp set) refl (store_commits stamp set fits answer is (follows_log answers (shard_of_key commits_key settings.shards) (lives commits_key) (store.StoreIf commits_key stamp (sets.spelling set)) answer is))
    serves (LoadLog tid) at_shard fits there asked =
        let is = call_of e (shard_of_key (log_key tid) settings.shards) (store.Load (log_key tid)) answer there asked told in
        read_back (LoadLog tid) refl (load_log tid fits answer is (follows_log answers (shard_of_key (log_key tid) settings.shards) (lives (log_key tid)) (store.Load (log_key tid)) answer is))
    serves (StoreLog stamp entry) at_shard fits there asked =
        let is = call_of e (shard_of_key (log_key entry.tid) settings.shards) (store.StoreIf (log_key entry.tid) stamp (logs.spelling entry)) answer there asked told in
        read_back (StoreLog stamp entry) refl (store_log stamp entry fits answer is (follows_log answers (shard_of_key (log_key entry.tid) settings.shards) (lives (log_key entry.tid)) (store.StoreIf (log_key entry.tid) stamp (logs.spelling entry)) answer is))
    serves (LoadRecord key) at_shard fits there asked =
        let is = call_of e (shard_of_key key settings.shards) (store.Load key) answer there asked told in
        read_back (LoadRecord key) refl (load_record key fits answer is (follows_log answers (shard_of_key key settings.shards) (lives key) (store.Load key) answer is))
    serves (StoreRecord key stamp versions) at_shard fits there asked =
        let is = call_of e (shard_of_key key settings.shards) (store.StoreIf key stamp (cells.spelling versions)) answer there asked told in
        read_back (StoreRecord key stamp versions) refl (store_record key stamp versions fits.0 fits.1 answer is (follows_log answers (shard_of_key key settings.shards) (lives key) (store.StoreIf key stamp (cells.spelling versions)) answer is))
    serves (ReadPage shard from before) at_shard fits there asked =
        let is = call_of e shard (store.Page from before page_limit) answer there asked told in
        read_back (ReadPage shard from before) refl (read_page shard from before fits.0 fits.1 answer is (follows_log answers shard at_shard (store.Page from before page_limit) answer is))
    serves DrawNumbers at_shard fits there asked =
        let is = call_of e (shard_of_key counter_key settings.shards) (store.Add counter_key 16) answer there asked told in
        read_back DrawNumbers refl (draw_numbers answer is (follows_log answers (shard_of_key counter_key settings.shards) (lives counter_key) (store.Add counter_key 16) answer is))
    serves (AskManager m asked_there) at_shard fits there asked = absurd at_shard

-- a request of a node at a shard is served as the protocol says
pub store_serves : (settings : Settings) (setup : Setup) (past : List Event) (e : Event) (p : Parts) (n : ℕ) (ask : Ask) (answer : StoreReply)
    → StoreIs settings setup past p → length past + 1 < 2 ^ 32 → 1 ≤ settings.shards → IsAtShard settings ask → AskFits (length past + 1) ask
    → e.place ≡ place_of settings ask → e.request ≡ written ask → e.reply ≡ reply.Store answer → AreAnswered settings setup past e
    → Served settings setup past e p n ask (heard ask e.reply)
store_serves settings setup past e p n ask answer h few some at_shard fits there asked told answers =
    serves settings setup past e p n h few some answers answer told ask at_shard fits there asked

-- a reply of another kind is a strange one
pub store_strange : (settings : Settings) (ask : Ask) (told : ManagerReply) (e : Event) → IsAtShard settings ask → e.reply ≡ reply.Manager told → heard ask e.reply ≡ Strange
store_strange settings LoadCommits told e at_shard is = ap (heard LoadCommits) is
store_strange settings (StoreCommits stamp set) told e at_shard is = ap (heard (StoreCommits stamp set)) is
store_strange settings (LoadLog tid) told e at_shard is = ap (heard (LoadLog tid)) is
store_strange settings (StoreLog stamp entry) told e at_shard is = ap (heard (StoreLog stamp entry)) is
store_strange settings (LoadRecord key) told e at_shard is = ap (heard (LoadRecord key)) is
store_strange settings (StoreRecord key stamp versions) told e at_shard is = ap (heard (StoreRecord key stamp versions)) is
store_strange settings (ReadPage shard from before) told e at_shard is = ap (heard (ReadPage shard from before)) is
store_strange settings DrawNumbers told e at_shard is = ap (heard DrawNumbers) is
store_strange settings (AskManager m asked) told e at_shard is = absurd at_shard
