-- The page that a shard replies is a page of the store of the protocol.
use Rattle.std.proofs.Common.{◌≡◌, ℕ, ◌+◌, ◌≤◌, Bool, true, false, cond, List, [], ◌∷◌, length, map, take, Option, Some, None, unwrap_or, refl, sym, ap, ◌∙◌, arith}
use Rattle.std.specs.Prelude.{◌&&◌, ◌<◌, zero, suc, nat_lt}
use Rattle.std.specs.List.{AllByRecursion, filter}
use Rattle.std.specs.Ordering.{is_eq, is_le, is_lt}
use Rattle.std.specs.Cmp.Lexicographic.{nat_list_cmp_total}
use Rattle.std.specs.FinMap as finmap
use Rattle.std.specs.FinMap.Entries.{find, find-where_key, is_sorted, is_sorted-where_key}
use Rattle.std.proofs.lemmas.Bool.{and_from, and_parts, ltb-false, ltb-true}
use Rattle.std.proofs.lemmas.List.{length-map, take_all}
use Rattle.tl_lemmas.proofs.Tests.{held}
use Rattle.tl_base.specs.declared.place.Settings.{Settings}
use Rattle.tl_schema.specs.declared.catalog.Setup.{Setup}
use Rattle.tl_cells.specs.declared.cell.Cell.{Cell as ShardCell}
use Rattle.tl_cells.specs.Cells.{Cells, absent, item_of}
use Rattle.tl_cells.specs.Place.{shard_of_key}
use Rattle.tl_cells.specs.Serves.{Call, cell_at, stores}
use Rattle.tl_versions.specs.declared.version.Version.{Version}
use Rattle.tl_versions.specs.Reading.{read_cell}
use Rattle.tl_write.specs.Own.{key_cmp}
use Rattle.tl_protocol.specs.Move.{is_empty}
use Rattle.tl_protocol.specs.Store.{Key, Cell, same_key}
use Rattle.tl_journal.specs.declared.event.Event.{Event}
use Rattle.tl_journal.specs.Ask.{Found}
use Rattle.tl_journal.specs.Bytes.{found_in}
use Rattle.tl_journal.specs.Journal.{shard_log}
use Rattle.tl_journal.specs.Served.{IsPage, IsWithin, Parts, is_found, is_record_key, page_end}
use Rattle.tl_journal.proofs.Fits.{FoundFits}
use Rattle.tl_journal.proofs.Store.{RecordIs, StoreIs, StoreOk}
use Rattle.tl_journal.proofs.StoreLogs.{cell_in}
use Rattle.tl_journal.proofs.StorePage.{between_records, from_on, not_before}
use Rattle.tl_journal.proofs.StorePages.{EntryOk, all_filtered, all_taken, below_each, each_entry, found_of, from_each, pages_are, pages_fit, pages_found, pages_rise, pages_stored, part_lacks, sorted_taken, taken_items, whole_lacks}
use Rattle.tl_write.proofs.Keys.{key_eq}

abbrev pub Entry : Type 0
Entry = Key × ShardCell

abbrev pub entries_of : List Call → List Entry
entries_of log = finmap.entries (let m : Cells = finmap.from_entries (stores log) in m)

abbrev pub in_range : Key → Key → Key → Bool
in_range from before k = is_le (key_cmp from k) && is_lt (key_cmp k before)

abbrev pub range_entries : List Call → Key → Key → List Entry
range_entries log from before = filter (λ (e : Entry). in_range from before e.0) (entries_of log)

-- the entries of a range are in order
pub range_sorted : (log : List Call) (from before : Key) → is_sorted key_cmp (range_entries log from before) ≡ true
range_sorted log from before =
    let m : Cells = finmap.from_entries (stores log) in
    held (is_sorted key_cmp (range_entries log from before)) (is_sorted-where_key key_cmp (in_range from before) (entries_of log) (finmap.entries_sorted m))

none_read : read_cell [] ≡ Some []
unfolding read_cell
none_read = refl

-- a key that was stored lives at the shard
stored_home : (settings : Settings) (s most : ℕ) (es : List Entry) → AllByRecursion (StoreOk settings s most) es
    → (k : Key) (x : ShardCell) → find key_cmp k es ≡ Some x → shard_of_key k settings.shards ≡ s
stored_home settings s most [] h k x e = absurd cc
stored_home settings s most (d ∷ es) h k x e = by (same_key k d.0) refl e (stored_home settings s most es h.1 k x)
  where
    by : (b : Bool) → same_key k d.0 ≡ b → cond b (Some d.1) (find key_cmp k es) ≡ Some x → (find key_cmp k es ≡ Some x → shard_of_key k settings.shards ≡ s)
        → shard_of_key k settings.shards ≡ s
    by true t e more = ap (λ (l : Key). shard_of_key l settings.shards) (key_eq k d.0 t) ∙ h.0.home
    by false t e more = more e

some_taken : {A B : Type 0} (f : A → B) (limit : ℕ) (xs : List A) → 1 ≤ limit → 1 ≤ length xs → is_empty (map f (take limit xs)) ≡ false
some_taken f zero xs h g = absurd (omega arith)
some_taken f (suc limit) [] h g = absurd (omega arith)
some_taken f (suc limit) (x ∷ xs) h g = refl

-- and has a stamp
stored_some : (settings : Settings) (s most : ℕ) (es : List Entry) → AllByRecursion (StoreOk settings s most) es
    → (k : Key) (x : ShardCell) → find key_cmp k es ≡ Some x → 1 ≤ x.stamp
stored_some settings s most [] h k x e = absurd cc
stored_some settings s most (d ∷ es) h k x e = by (same_key k d.0) e (stored_some settings s most es h.1 k x)
  where
    by : (b : Bool) → cond b (Some d.1) (find key_cmp k es) ≡ Some x → (find key_cmp k es ≡ Some x → 1 ≤ x.stamp) → 1 ≤ x.stamp
    by true e more = let i : d.1.stamp ≡ x.stamp = ap (λ (o : Option ShardCell). (unwrap_or o x).stamp) e in let j = h.0.some in omega (arith, i, j)
    by false e more = more e

-- what a page says
pub record Paged (settings : Settings) (few : ℕ) (cells : Key → Cell) (shard : ℕ) (from before : Key) (list : Option (List Found)) (more : Bool) : Type 0 where
  pub found : List Found
  pub reads : list ≡ Some found
  pub page : IsPage settings cells shard from before found more
  pub fits : AllByRecursion (FoundFits few) found

module _ (settings : Settings) (setup : Setup) (past : List Event) (p : Parts) (h : StoreIs settings setup past p)
    (shard : ℕ) (from before : Key) (first : is_record_key from ≡ true) (last : is_record_key before ≡ true) where
  log : List Call
  log = shard_log settings setup shard past

  entries : List Entry
  entries = range_entries log from before

  looked : (k : Key) → find key_cmp k (entries_of log) ≡ find key_cmp k (stores log)
  looked k =
      let m : Cells = finmap.from_entries (stores log) in
      sym (finmap.get-entries m k) ∙ finmap.get-from_entries nat_list_cmp_total (stores log) k

  -- the cell under a key that lives here
  cell_here : (k : Key) → shard_of_key k settings.shards ≡ shard → cell_in settings setup past k ≡ unwrap_or (find key_cmp k (entries_of log)) absent
  unfolding log
  cell_here k home =
      ap (λ (s : ℕ). cell_at (shard_log settings setup s past) k) home ∙ ap (λ (o : Option ShardCell). unwrap_or o absent) (sym (looked k))

  entry_ok : (k : Key) (x : ShardCell) → find key_cmp k (entries_of log) ≡ Some x → in_range from before k ≡ true
      → EntryOk (length past + 1) settings p.cells shard from before (k, x)
  unfolding log
  entry_ok k x e r =
      let parts = and_parts (is_le (key_cmp from k)) (is_lt (key_cmp k before)) r in
      let home : shard_of_key k settings.shards ≡ shard = stored_home settings shard (length (stores log)) (stores log) (h.stored shard) k x (sym (looked k) ∙ e) in
      let start : is_lt (key_cmp k from) ≡ false = not_before from k parts.0 in
      let c : RecordIs (length past + 1) (cell_in settings setup past k) (p.cells k) = h.holds.cells k (between_records from before k first last start parts.1) in
      let here : cell_in settings setup past k ≡ x = cell_here k home ∙ ap (λ (o : Option ShardCell). unwrap_or o absent) e in
      record {
        within = record { at = home; from_on = start; below = parts.1 };
        read = ap (λ (y : ShardCell). read_cell y.value) (sym here) ∙ c.read;
        fits = c.fits;
        some = (let i : x.stamp ≡ (p.cells k).stamp = sym (ap (λ (y : ShardCell). y.stamp) here) ∙ c.stamp in let j = stored_some settings shard (length (stores log)) (stores log) (h.stored shard) k x (sym (looked k) ∙ e) in omega (arith, i, j));
      }

  entries_ok : AllByRecursion (EntryOk (length past + 1) settings p.cells shard from before) entries
  unfolding log entries
  entries_ok =
      let m : Cells = finmap.from_entries (stores log) in
      all_filtered (EntryOk (length past + 1) settings p.cells shard from before) (λ (e : Entry). in_range from before e.0) (entries_of log)
      (each_entry (λ (k : Key) (x : ShardCell). in_range from before k ≡ true → EntryOk (length past + 1) settings p.cells shard from before (k, x)) (entries_of log)
      (held (is_sorted key_cmp (finmap.entries m)) (finmap.entries_sorted m)) entry_ok)

  entries_sorted : is_sorted key_cmp entries ≡ true
  unfolding log entries
  entries_sorted = range_sorted log from before

  -- a key of the range that has no entry has no versions
  no_entry : (k : Key) → shard_of_key k settings.shards ≡ shard → is_lt (key_cmp k from) ≡ false → is_lt (key_cmp k before) ≡ true
      → find key_cmp k entries ≡ None → (p.cells k).versions ≡ []
  unfolding log entries
  no_entry k home start below none =
      let r : in_range from before k ≡ true = and_from (is_le (key_cmp from k)) (is_lt (key_cmp k before)) (from_on from k start) below in
      let kept : find key_cmp k (range_entries log from before) ≡ cond (in_range from before k) (find key_cmp k (entries_of log)) None =
      find-where_key key_cmp (in_range from before) k (λ x eq. ap (in_range from before) (sym (key_eq k x (ap is_eq eq)))) (entries_of log) in
      let gone : find key_cmp k (entries_of log) ≡ None = ap (λ (b : Bool). cond b (find key_cmp k (entries_of log)) None) (sym r) ∙ sym kept ∙ none in
      let here : cell_in settings setup past k ≡ absent = cell_here k home ∙ ap (λ (o : Option ShardCell). unwrap_or o absent) gone in
      let c : RecordIs (length past + 1) (cell_in settings setup past k) (p.cells k) = h.holds.cells k (between_records from before k first last start below) in
      let read : Some (p.cells k).versions ≡ Some [] = sym c.read ∙ ap (λ (y : ShardCell). read_cell y.value) here ∙ none_read in
      ap (λ (o : Option (List Version)). unwrap_or o []) read

  pub paged : (limit : ℕ) → 1 ≤ limit
      → Paged settings (length past + 1) p.cells shard from before (found_in (take limit (map item_of (range_entries (shard_log settings setup shard past) from before))))
      (nat_lt limit (length (map item_of (range_entries (shard_log settings setup shard past) from before))))
  unfolding log entries
  paged limit least = record {
    found = map (found_of p.cells) (take limit entries);
    reads = ap found_in (taken_items limit entries) ∙ pages_found p.cells (length past + 1) settings shard from before (take limit entries) part_ok;
    page = record {
      are = pages_are p.cells (length past + 1) settings shard from before (take limit entries) part_ok;
      rising = pages_rise p.cells from (take limit entries) (sorted_taken limit entries entries_sorted) (from_each p.cells (length past + 1) settings shard from before (take limit entries) part_ok);
      stored = pages_stored p.cells (length past + 1) settings shard from before (take limit entries) part_ok;
      some = λ e. some_taken (found_of p.cells) limit entries least (some_more (length (map item_of entries)) limit (length-map entries item_of) e);
      all = by (nat_lt limit (length (map item_of entries))) refl;
    };
    fits = pages_fit p.cells (length past + 1) settings shard from before first last (take limit entries) part_ok;
  }
    where
      some_more : (n limit : ℕ) → n ≡ length entries → nat_lt limit n ≡ true → 1 ≤ length entries
      some_more n limit same e = let l : limit < n = ltb-true limit n e in omega arith

      part_ok : AllByRecursion (EntryOk (length past + 1) settings p.cells shard from before) (take limit entries)
      part_ok = all_taken (EntryOk (length past + 1) settings p.cells shard from before) limit entries entries_ok

      by : (b : Bool) → nat_lt limit (length (map item_of entries)) ≡ b
          → (key : Key) → IsWithin settings shard from (page_end from before (map (found_of p.cells) (take limit entries)) b) key
          → is_found key (map (found_of p.cells) (take limit entries)) ≡ false → (p.cells key).versions ≡ []
      by false t key within absent_there =
          let few : length (map item_of entries) ≤ limit = ltb-false limit (length (map item_of entries)) t in
          let same : length (map item_of entries) ≡ length entries = length-map entries item_of in
          let all : take limit entries ≡ entries = take_all limit entries (omega arith) in
          no_entry key within.at within.from_on within.below
          (whole_lacks p.cells key entries (ap (λ (es : List Entry). is_found key (map (found_of p.cells) es)) (sym all) ∙ absent_there))
      by true t key within absent_there =
          let none = part_lacks p.cells before limit entries from key entries_sorted (below_each p.cells (length past + 1) settings shard from before entries entries_ok) within.from_on within.below absent_there in
          no_entry key within.at within.from_on none.1 none.0
