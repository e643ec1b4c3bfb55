-- A shard of a run tells what a shard may tell: stamps of stored cells, and pages of their cells in order.
use Rattle.std.proofs.Common.{◌≡◌, inl, inr, ℕ, zero, suc, ◌+◌, ◌<◌, ◌≤◌, ◌^◌, ◌⊎◌, ⊎_elim, Bool, true, false, cond, List, [], ◌∷◌, ◌++◌, length, map, take, Option, Some, None, unwrap_or, refl, sym, ap, ◌∙◌, subst, arith}
use Rattle.std.specs.Prelude.{◌==◌, ◌&&◌, ◌||◌, not, nat_le, nat_lt, if◌then◌else◌}
use Rattle.std.specs.List.{AllByRecursion, list_all}
use Rattle.std.specs.Ordering.{is_lt}
use Rattle.std.specs.FinMap as finmap
use Rattle.std.specs.FinMap.Entries.{below_all, find, is_sorted}
use Rattle.std.specs.Cmp.Lexicographic.{nat_list_cmp_total}
use Rattle.std.proofs.lemmas.Bool.{and_from, and_parts, eqb-true, le-leb, lt-ltb, ltb-true, not_from_false, or_left}
use Rattle.std.proofs.lemmas.Bool.Decides.{nat_tests}
use Rattle.tl_lemmas.proofs.Tests.{held}
use Rattle.tl_base.specs.Along.{Along}
use Rattle.tl_base.specs.declared.place.PlaceId.TheVariants as place
use Rattle.tl_base.specs.declared.place.Settings.{Settings}
use Rattle.tl_base.specs.declared.store.Item.{Item}
use Rattle.tl_base.specs.declared.store.StoreReply.{StoreReply}
use Rattle.tl_base.specs.declared.store.StoreReply.TheVariants as answered
use Rattle.tl_base.specs.declared.store.StoreRequest.TheVariants as store
use Rattle.tl_schema.specs.declared.catalog.Setup.{Setup}
use Rattle.tl_cells.specs.declared.cell.Cell.{Cell as ShardCell}
use Rattle.tl_cells.specs.Cells.{Cells, absent, greatest, item_of, store_reply}
use Rattle.tl_cells.specs.Place.{shard_of_key}
use Rattle.tl_cells.specs.Serves.{Call, last_stamp, reply_after, stores}
use Rattle.tl_descriptor.specs.Reading as sets
use Rattle.tl_logrec.specs.declared.entry.LogEntry.{LogEntry}
use Rattle.tl_logrec.specs.Entry as logs
use Rattle.tl_logrec.specs.Reading.{read_entry, read_mark}
use Rattle.tl_versions.specs.Cell as cells
use Rattle.tl_manager.specs.declared.request.ManagerRequest.{ManagerRequest}
use Rattle.tl_manager.specs.declared.request.Reply.{Reply}
use Rattle.tl_manager.specs.declared.request.Reply.TheVariants as reply
use Rattle.tl_manager.specs.declared.request.Request.TheVariants as request
use Rattle.tl_write.specs.Own.{key_cmp}
use Rattle.tl_isolation.specs.declared.script.Script.{Script}
use Rattle.tl_isolation.specs.Script.{setup_of}
use Rattle.tl_protocol.specs.Move.{is_empty}
use Rattle.tl_protocol.specs.Run.{Layout}
use Rattle.tl_protocol.specs.Store.{Key, LogCell, same_key}
use Rattle.tl_journal.specs.declared.event.Event.{Event}
use Rattle.tl_journal.specs.Ask.{Ask, LoadCommits, StoreCommits, LoadLog, StoreLog, LoadRecord, StoreRecord, ReadPage, DrawNumbers, AskManager}
use Rattle.tl_journal.specs.Bytes.{commits_key, log_key, page_limit, place_of, shard_at, written}
use Rattle.tl_journal.specs.Journal.{AreServed, IsEvent, shard_log}
use Rattle.tl_journal.specs.Served.{parts_of}
use Rattle.tl_journal.specs.Strange.{are_above, are_from, fills, is_cell, is_item, is_log_cell, is_outcome, is_page, may_reply, may_tell}
use Rattle.tl_journal.proofs.Fits.{AskFits}
use Rattle.tl_journal.proofs.Managers.{is_of_shard}
use Rattle.tl_journal.proofs.Store.{AreStores, LogIs, StoreOk}
use Rattle.tl_journal.proofs.StoreLogs.{call_of, cell_in}
use Rattle.tl_journal.proofs.StorePage.{not_before}
use Rattle.tl_journal.proofs.StorePages.{all_filtered, all_taken, each_entry, sorted_taken, taken_items}
use Rattle.tl_journal.proofs.StoreRanges.{Entry, entries_of, in_range, range_entries, range_sorted}
use Rattle.tl_journal.proofs.StoreServes.{IsAtShard, follows_log}
use Rattle.tl_journal.proofs.StoreStays.{events_answered}
use Rattle.tl_journal.proofs.Stood.{Stood}
use Rattle.tl_journal.proofs.StrangeCounts.{answer_of, follows, last_low, short}

-- ---- stamps

-- a stamp that was given, of at most so many
abbrev IsGiven : ℕ → ShardCell → Type 0
IsGiven most c = (1 ≤ c.stamp) × (c.stamp ≤ most)

stored_given : (settings : Settings) (s most : ℕ) (es : List Entry) → AllByRecursion (StoreOk settings s most) es
    → (k : Key) (x : ShardCell) → find key_cmp k es ≡ Some x → IsGiven most x
stored_given settings s most [] h k x e = absurd cc
stored_given settings s most (d ∷ es) h k x e = by (same_key k d.0) e (stored_given settings s most es h.1 k x)
  where
    by : (b : Bool) → cond b (Some d.1) (find key_cmp k es) ≡ Some x → (find key_cmp k es ≡ Some x → IsGiven most x) → IsGiven most x
    by true e more = subst (IsGiven most) (ap (λ (o : Option ShardCell). unwrap_or o x) e) (h.0.some, h.0.below)
    by false e more = more e

-- a cell is absent, or has a stamp that was given
found_given : (settings : Settings) (s most : ℕ) (es : List Entry) → AllByRecursion (StoreOk settings s most) es → (k : Key)
    → (unwrap_or (find key_cmp k es) absent ≡ absent) ⊎ IsGiven most (unwrap_or (find key_cmp k es) absent)
found_given settings s most es h k = by (find key_cmp k es) refl
  where
    by : (o : Option ShardCell) → find key_cmp k es ≡ o → (unwrap_or o absent ≡ absent) ⊎ IsGiven most (unwrap_or o absent)
    by None e = inl refl
    by (Some x) e = inr (stored_given settings s most es h k x e)

above_zero : (n : ℕ) → 1 ≤ n → (n == 0) ≡ false
above_zero n h = grind (arith, nat_tests)

cell_is : (most : ℕ) → most ≤ greatest → (c : ShardCell) → (c ≡ absent) ⊎ IsGiven most c → is_cell c.stamp c.value ≡ true
cell_is most le c (inl h) = subst (λ (x : ShardCell). is_cell x.stamp x.value ≡ true) (sym h) refl
cell_is most le c (inr h) =
    let top : c.stamp ≤ most = h.1 in
    and_from (nat_le c.stamp greatest) (not (c.stamp == 0) || is_empty c.value) (le-leb c.stamp greatest (omega arith))
    (or_left (not (c.stamp == 0)) (is_empty c.value) (not_from_false (c.stamp == 0) (above_zero c.stamp h.0)))

no_entry : read_entry [] ≡ None
unfolding read_entry read_mark
no_entry = refl

read_some : (bytes : List ℕ) (entry : LogEntry) → read_entry bytes ≡ Some entry → is_empty bytes ≡ false
read_some [] entry e = absurd (none_some (sym no_entry ∙ e))
  where
    none_some : ◌≡◌ {A = Option LogEntry} None (Some entry) → ⊥
    none_some e = cc
read_some (byte ∷ bytes) entry e = refl

log_is : (most tid : ℕ) → most ≤ greatest → (c : ShardCell) (o : Option LogCell) → (c ≡ absent) ⊎ IsGiven most c → LogIs tid c o
    → is_log_cell c.stamp c.value ≡ true
log_is most tid le c None g h = rw (h.0, h.1) refl
log_is most tid le c (Some x) g h =
    let first : 1 ≤ c.stamp = let same : c.stamp ≡ x.stamp = h.stamp in let above : 0 < x.stamp = h.above in omega arith in
    and_from (nat_le c.stamp greatest) (if is_empty c.value then c.stamp == 0 else not (c.stamp == 0))
    (le-leb c.stamp greatest (⊎_elim (λ e. absurd (none c.stamp first (ap (λ (y : ShardCell). y.stamp) e))) (λ (i : IsGiven most c). let top : c.stamp ≤ most = i.1 in omega arith) g))
    (some (is_empty c.value) (c.stamp == 0) (read_some c.value x.entry h.read) (above_zero c.stamp first))
  where
    none : (n : ℕ) → 1 ≤ n → n ≡ 0 → ⊥
    none n h e = omega arith

    some : (a b : Bool) → a ≡ false → b ≡ false → (if a then b else not b) ≡ true
    some a b e f = grind arith

-- a store
outcome_is : (found stamp last : ℕ) → found ≤ last → last < greatest → is_outcome stamp (store_reply found stamp last) ≡ true
outcome_is found stamp last le low = by (found == stamp) (last == greatest) refl refl
  where
    full : (last == greatest) ≡ true → ⊥
    full e = let same : last ≡ greatest = eqb-true last greatest e in omega arith

    by : (a b : Bool) → (found == stamp) ≡ a → (last == greatest) ≡ b
        → is_outcome stamp (if a then (if b then answered.Full last else answered.Stored (last + 1)) else answered.Moved found) ≡ true
    by false b e f =
        and_from (not (found == stamp)) (nat_le found greatest) (not_from_false (found == stamp) e) (le-leb found greatest (omega arith))
    by true true e f = absurd (full f)
    by true false e f =
        let same : found ≡ stamp = eqb-true found stamp e in
        and_from (nat_lt stamp (last + 1)) (nat_le (last + 1) greatest) (lt-ltb stamp (last + 1) (omega arith)) (le-leb (last + 1) greatest (omega arith))

-- ---- pages

above_items : (k : Key) (es : List Entry) → below_all key_cmp k es ≡ true → is_sorted key_cmp es ≡ true → are_above k (map item_of es) ≡ true
above_items k [] b s = refl
above_items k (e ∷ es) b s =
    let parts = and_parts (below_all key_cmp e.0 es) (is_sorted key_cmp es) s in
    and_from (is_lt (key_cmp k e.0)) (are_above e.0 (map item_of es)) (and_parts (is_lt (key_cmp k e.0)) (below_all key_cmp k es) b).0
    (above_items e.0 es parts.0 parts.1)

-- an entry of a page
record IsPaged (from before : Key) (most : ℕ) (e : Entry) : Type 0 where
  from_on : is_lt (key_cmp e.0 from) ≡ false
  below : is_lt (key_cmp e.0 before) ≡ true
  given : IsGiven most e.1

from_items : (from before : Key) (most : ℕ) (es : List Entry) → AllByRecursion (IsPaged from before most) es → is_sorted key_cmp es ≡ true
    → are_from from (map item_of es) ≡ true
from_items from before most [] h s = refl
from_items from before most (e ∷ es) h s =
    let parts = and_parts (below_all key_cmp e.0 es) (is_sorted key_cmp es) s in
    and_from (not (is_lt (key_cmp e.0 from))) (are_above e.0 (map item_of es)) (not_from_false (is_lt (key_cmp e.0 from)) h.0.from_on)
    (above_items e.0 es parts.0 parts.1)

each_item : (from before : Key) (most : ℕ) → most ≤ greatest → (es : List Entry) → AllByRecursion (IsPaged from before most) es
    → list_all (is_item before) (map item_of es) ≡ true
each_item from before most le [] h = refl
each_item from before most le (e ∷ es) h =
    let top : e.1.stamp ≤ most = h.0.given.1 in
    and_from (is_item before (item_of e)) (list_all (is_item before) (map item_of es))
    (and_from (is_lt (key_cmp e.0 before) && nat_le 1 e.1.stamp) (nat_le e.1.stamp greatest)
    (and_from (is_lt (key_cmp e.0 before)) (nat_le 1 e.1.stamp) h.0.below (le-leb 1 e.1.stamp h.0.given.0)) (le-leb e.1.stamp greatest (omega arith)))
    (each_item from before most le es h.1)

taken_length : {X : Type 0} (n : ℕ) (xs : List X) → (length (take n xs) ≤ n) × (n < length xs → length (take n xs) ≡ n)
taken_length zero xs = (omega arith, λ h. refl)
taken_length (suc n) [] = (omega arith, λ h. absurd (omega arith))
taken_length (suc n) (x ∷ xs) =
    let rest = taken_length n xs in
    let least : length (take n xs) ≤ n = rest.0 in
    (omega arith, λ h. ap suc (rest.1 (omega arith)))

page_fills : (items : List Item) → fills (length (take page_limit items)) (nat_lt page_limit (length items)) ≡ true
page_fills items = by (nat_lt page_limit (length items)) refl
  where
    same : (m n : ℕ) → m ≡ n → (m == n) ≡ true
    same m n e = grind (arith, nat_tests)

    by : (b : Bool) → nat_lt page_limit (length items) ≡ b → fills (length (take page_limit items)) b ≡ true
    by true e = same (length (take page_limit items)) page_limit ((taken_length page_limit items).1 (ltb-true page_limit (length items) e))
    by false e = le-leb (length (take page_limit items)) page_limit (taken_length page_limit items).0

module _ (settings : Settings) (setup : Setup) (shard : ℕ) (past : List Event) (from before : Key)
    (h : AreStores settings shard (stores (shard_log settings setup shard past))) where
  log : List Call
  log = shard_log settings setup shard past

  entry_paged : (k : Key) (x : ShardCell) → find key_cmp k (entries_of log) ≡ Some x → in_range from before k ≡ true
      → IsPaged from before (length (stores (shard_log settings setup shard past))) (k, x)
  unfolding log
  entry_paged k x e r =
      let m : Cells = finmap.from_entries (stores log) in
      let looked : find key_cmp k (entries_of log) ≡ find key_cmp k (stores log) = sym (finmap.get-entries m k) ∙ finmap.get-from_entries nat_list_cmp_total (stores log) k in
      let parts = and_parts _ (is_lt (key_cmp k before)) r in
      record {
        from_on = not_before from k parts.0;
        below = parts.1;
        given = stored_given settings shard (length (stores log)) (stores log) h k x (sym looked ∙ e);
      }

  entries_paged : AllByRecursion (IsPaged from before (length (stores (shard_log settings setup shard past)))) (range_entries (shard_log settings setup shard past) from before)
  unfolding log
  entries_paged =
      let m : Cells = finmap.from_entries (stores log) in
      all_filtered (IsPaged from before (length (stores log))) (λ (e : Entry). in_range from before e.0) (entries_of log)
      (each_entry (λ (k : Key) (x : ShardCell). in_range from before k ≡ true → IsPaged from before (length (stores log)) (k, x)) (entries_of log)
      (held (is_sorted key_cmp (finmap.entries m)) (finmap.entries_sorted m)) entry_paged)

  page_is : length (stores (shard_log settings setup shard past)) ≤ greatest
      → is_page from before (take page_limit (map item_of (range_entries (shard_log settings setup shard past) from before)))
      (nat_lt page_limit (length (map item_of (range_entries (shard_log settings setup shard past) from before)))) ≡ true
  page_is le =
      let most : ℕ = length (stores (shard_log settings setup shard past)) in
      let es : List Entry = range_entries (shard_log settings setup shard past) from before in
      let part : AllByRecursion (IsPaged from before most) (take page_limit es) = all_taken (IsPaged from before most) page_limit es entries_paged in
      let rising : is_sorted key_cmp (take page_limit es) ≡ true = sorted_taken page_limit es (range_sorted (shard_log settings setup shard past) from before) in
      and_from (are_from from (take page_limit (map item_of es)) && list_all (is_item before) (take page_limit (map item_of es)))
      (fills (length (take page_limit (map item_of es))) (nat_lt page_limit (length (map item_of es))))
      (subst (λ (items : List Item). are_from from items && list_all (is_item before) items ≡ true) (sym (taken_items page_limit es))
      (and_from (are_from from (map item_of (take page_limit es))) (list_all (is_item before) (map item_of (take page_limit es)))
      (from_items from before most (take page_limit es) part rising) (each_item from before most le (take page_limit es) part)))
      (page_fills (map item_of es))

-- ---- what is replied

module _ (layout : Layout) (script : Script) (settings : Settings) (past : List Event) (e : Event) (rest : List Event) (s : Stood layout script settings past)
    (some : 1 ≤ settings.shards) (few : length past + 1 < 2 ^ 32) (rows : length script.rows < 2 ^ 32)
    (served : AreServed script settings (past ++ e ∷ rest)) (events : Along (IsEvent script settings) [] (past ++ e ∷ rest)) where
  setup : Setup
  setup = setup_of script settings

  few_stores : (shard : ℕ) → length (stores (shard_log settings (setup_of script settings) shard past)) < greatest
  few_stores shard =
      let low : last_stamp 0 (shard_log settings (setup_of script settings) shard past) < greatest =
      last_low settings (setup_of script settings) shard past (short layout script settings past e rest s some few rows served events) in
      omega arith

  few_most : (key : Key) → length (stores (shard_log settings (setup_of script settings) (shard_of_key key settings.shards) past)) ≤ greatest
  few_most key =
      let low : length (stores (shard_log settings (setup_of script settings) (shard_of_key key settings.shards) past)) < greatest = few_stores (shard_of_key key settings.shards) in
      omega arith

  replies : (key : Key) → (cell_in settings (setup_of script settings) past key ≡ absent)
      ⊎ IsGiven (length (stores (shard_log settings (setup_of script settings) (shard_of_key key settings.shards) past))) (cell_in settings (setup_of script settings) past key)
  replies key =
      let shard : ℕ = shard_of_key key settings.shards in
      let log : List Call = shard_log settings (setup_of script settings) shard past in
      found_given settings shard (length (stores log)) (stores log) (s.store.stored shard) key

  given_below : (c : ShardCell) (most : ℕ) → (c ≡ absent) ⊎ IsGiven most c → c.stamp ≤ most
  given_below c most (inl h) = let zero_is : c.stamp ≡ 0 = ap (λ (x : ShardCell). x.stamp) h in omega arith
  given_below c most (inr h) = h.1

  stored : (key : Key) (stamp : ℕ) (value : List ℕ) (answer : StoreReply) → e.place ≡ shard_at settings key → e.request ≡ request.Store (store.StoreIf key stamp value)
      → e.reply ≡ reply.Store answer → is_outcome stamp answer ≡ true
  stored key stamp value answer at_place so told =
      let shard : ℕ = shard_of_key key settings.shards in
      let low : length (stores (shard_log settings (setup_of script settings) shard past)) < greatest = few_stores shard in
      let c : ShardCell = cell_in settings (setup_of script settings) past key in
      let below : c.stamp ≤ length (stores (shard_log settings (setup_of script settings) shard past)) = given_below c _ (replies key) in
      subst (λ (x : StoreReply). is_outcome stamp x ≡ true)
      (sym (follows layout script settings past e rest s some few rows served events key (store.StoreIf key stamp value) answer at_place so told))
      (outcome_is c.stamp stamp (last_stamp 0 (shard_log settings (setup_of script settings) shard past)) (omega arith) (omega arith))

  loaded : (key : Key) (answer : StoreReply) → e.place ≡ shard_at settings key → e.request ≡ request.Store (store.Load key) → e.reply ≡ reply.Store answer
      → answer ≡ (let c : ShardCell = cell_in settings (setup_of script settings) past key in answered.Cell c.stamp c.value)
  loaded key answer at_place so told = follows layout script settings past e rest s some few rows served events key (store.Load key) answer at_place so told

  -- a page is asked of a shard that there is
  paged : (shard : ℕ) (from before : Key) (answer : StoreReply) → shard < settings.shards → e.place ≡ place.Shard shard
      → e.request ≡ written (ReadPage shard from before) → e.reply ≡ reply.Store answer
      → answer ≡ reply_after 0 (shard_log settings (setup_of script settings) shard past) (store.Page from before page_limit)
  paged shard from before answer there at_place so told =
      follows_log settings (setup_of script settings) past e (parts_of s.world) e.node s.store few (events_answered script settings past e rest served)
      shard there (store.Page from before page_limit) answer (call_of e shard (store.Page from before page_limit) answer at_place so told)

  tells : (ask : Ask) (answer : StoreReply) → IsAtShard settings ask → AskFits (length past + 1) ask → e.place ≡ place_of settings ask → e.request ≡ written ask
      → e.reply ≡ reply.Store answer → may_tell ask answer ≡ true
  tells LoadCommits answer there fits at_place so told =
      let c : ShardCell = cell_in settings (setup_of script settings) past commits_key in
      subst (λ (x : StoreReply). may_tell LoadCommits x ≡ true) (sym (loaded commits_key answer at_place so told))
      (cell_is _ (few_most commits_key) c (replies commits_key))
  tells (StoreCommits stamp set) answer there fits at_place so told = stored commits_key stamp (sets.spelling set) answer at_place so told
  tells (LoadLog tid) answer there fits at_place so told =
      let c : ShardCell = cell_in settings (setup_of script settings) past (log_key tid) in
      subst (λ (x : StoreReply). may_tell (LoadLog tid) x ≡ true) (sym (loaded (log_key tid) answer at_place so told))
      (log_is _ tid (few_most (log_key tid)) c (s.world.logs tid) (replies (log_key tid)) (s.store.holds.logs tid fits))
  tells (StoreLog stamp entry) answer there fits at_place so told = stored (log_key entry.tid) stamp (logs.spelling entry) answer at_place so told
  tells (LoadRecord key) answer there fits at_place so told =
      let c : ShardCell = cell_in settings (setup_of script settings) past key in
      subst (λ (x : StoreReply). may_tell (LoadRecord key) x ≡ true) (sym (loaded key answer at_place so told))
      (cell_is _ (few_most key) c (replies key))
  tells (StoreRecord key stamp versions) answer there fits at_place so told = stored key stamp (cells.spelling versions) answer at_place so told
  tells (ReadPage shard from before) answer there fits at_place so told =
      let low : length (stores (shard_log settings (setup_of script settings) shard past)) < greatest = few_stores shard in
      subst (λ (x : StoreReply). may_tell (ReadPage shard from before) x ≡ true) (sym (paged shard from before answer there at_place so told))
      (page_is settings (setup_of script settings) shard past from before (s.store.stored shard) (omega arith))
  tells DrawNumbers answer there fits at_place so told = refl
  tells (AskManager m asked) answer there fits at_place so told = absurd there

  by_shard : (ask : Ask) → is_of_shard ask ≡ true → IsAtShard settings ask → AskFits (length past + 1) ask → e.place ≡ place_of settings ask
      → e.request ≡ written ask → may_reply ask e.reply ≡ true
  by_shard ask o there fits at_place so =
      let answer = answer_of layout script settings past e rest s some few rows served events ask o at_place so in
      subst (λ (p : Reply). may_reply ask p ≡ true) (sym answer.1) (tells ask answer.0 there fits at_place so answer.1)

  -- the reply to a request of a node is one that a place may give
  pub may_be : (ask : Ask) → (is_of_shard ask ≡ true → IsAtShard settings ask) → AskFits (length past + 1) ask → e.place ≡ place_of settings ask
      → e.request ≡ written ask → ((m : ℕ) (asked : ManagerRequest) → ask ≡ AskManager m asked → may_reply (AskManager m asked) e.reply ≡ true)
      → may_reply ask e.reply ≡ true
  may_be LoadCommits there fits at_place so manager = by_shard LoadCommits refl (there refl) fits at_place so
  may_be (StoreCommits stamp set) there fits at_place so manager = by_shard (StoreCommits stamp set) refl (there refl) fits at_place so
  may_be (LoadLog tid) there fits at_place so manager = by_shard (LoadLog tid) refl (there refl) fits at_place so
  may_be (StoreLog stamp entry) there fits at_place so manager = by_shard (StoreLog stamp entry) refl (there refl) fits at_place so
  may_be (LoadRecord key) there fits at_place so manager = by_shard (LoadRecord key) refl (there refl) fits at_place so
  may_be (StoreRecord key stamp versions) there fits at_place so manager = by_shard (StoreRecord key stamp versions) refl (there refl) fits at_place so
  may_be (ReadPage shard from before) there fits at_place so manager = by_shard (ReadPage shard from before) refl (there refl) fits at_place so
  may_be DrawNumbers there fits at_place so manager = by_shard DrawNumbers refl (there refl) fits at_place so
  may_be (AskManager m asked) there fits at_place so manager = manager m asked refl
