-- The store, as the logs of its shards show it, is the store of the protocol.
use Rattle.std.proofs.Common.{◌≡◌, ℕ, ◌+◌, ◌<◌, ◌≤◌, Bool, true, false, List, [], length, Option, Some, None, refl, sym, ap, ◌∙◌, subst, arith}
use Rattle.std.specs.Prelude.{◌==◌, ◌^◌, if◌then◌else◌}
use Rattle.std.specs.List.{AllByRecursion}
use Rattle.std.proofs.lemmas.Bool.{both_ways, eqb-true}
use mathlib.Core.Path.{fun_ext}
use Rattle.tl_base.specs.declared.place.Settings.{Settings}
use Rattle.tl_schema.specs.declared.catalog.Setup.{Setup}
use Rattle.tl_cells.specs.declared.cell.Cell.{Cell as ShardCell}
use Rattle.tl_cells.specs.Cells.{absent}
use Rattle.tl_cells.specs.Place.{shard_of_key}
use Rattle.tl_cells.specs.Serves.{stores}
use Rattle.tl_descriptor.specs.Reading as sets
use Rattle.tl_descriptor.specs.Tids.{TidSet}
use Rattle.tl_descriptor.proofs.SetReading.{set_again}
use Rattle.tl_logrec.specs.declared.entry.LogEntry.{LogEntry}
use Rattle.tl_logrec.specs.Entry as logs
use Rattle.tl_logrec.specs.Reading.{read_entry}
use Rattle.tl_logrec.proofs.EntryReading.{entry_again}
use Rattle.tl_versions.specs.declared.version.Version.{Version}
use Rattle.tl_versions.specs.Cell as cells
use Rattle.tl_versions.specs.Reading.{read_cell}
use Rattle.tl_versions.proofs.CellReading.{cell_again}
use Rattle.tl_protocol.specs.Store.{Key, Cell, CommitsCell, LogCell, put_at, same_key}
use Rattle.tl_protocol.proofs.Cells.{put_at_other, put_at_same}
use Rattle.tl_journal.specs.declared.event.Event.{Event}
use Rattle.tl_journal.specs.Bytes.{commits_key, log_key}
use Rattle.tl_journal.specs.Journal.{shard_log}
use Rattle.tl_journal.specs.Law.{IsOther}
use Rattle.tl_journal.specs.Served.{Parts, is_record_key, stored_commits, stored_log, stored_record}
use Rattle.tl_journal.proofs.Fits.{EntryFits, SetFits, VersionsFit}
use Rattle.tl_journal.proofs.StoreLogs.{cell_in, commits_no_log, commits_no_record, counter_in, log_keys, log_no_record}
use Rattle.tl_write.proofs.Keys.{key_eq, key_turned}

-- what stands in the cell of a record
pub record RecordIs (few : ℕ) (c : ShardCell) (x : Cell) : Type 0 where
  pub stamp : c.stamp ≡ x.stamp
  pub read : read_cell c.value ≡ Some x.versions
  pub fits : VersionsFit few x.versions

pub record CommitsIs (few : ℕ) (c : ShardCell) (x : CommitsCell) : Type 0 where
  pub stamp : c.stamp ≡ x.stamp
  pub read : sets.read_set c.value ≡ Some x.finished
  pub fits : SetFits few x.finished

pub record EntryIs (tid : ℕ) (c : ShardCell) (x : LogCell) : Type 0 where
  pub stamp : c.stamp ≡ x.stamp
  pub above : 0 < x.stamp
  pub read : read_entry c.value ≡ Some x.entry
  pub fits : EntryFits x.entry
  pub own : x.entry.tid ≡ tid

-- a log cell that was never stored has no bytes
abbrev pub LogIs : ℕ → ShardCell → Option LogCell → Type 0
LogIs tid c None = (c.stamp ≡ 0) × (c.value ≡ [])
LogIs tid c (Some x) = EntryIs tid c x

-- the cells and the counter hold these parts, in lists of at most so many versions or runs
pub record Holds (few : ℕ) (bytes : Key → ShardCell) (count : ℕ) (p : Parts) : Type 0 where
  pub cells : (k : Key) → is_record_key k ≡ true → RecordIs few (bytes k) (p.cells k)
  pub commits : CommitsIs few (bytes commits_key) p.commits
  pub logs : (tid : ℕ) → tid ≤ 2 ^ 62 → LogIs tid (bytes (log_key tid)) (p.logs tid)
  pub others : (k : Key) → IsOther k → bytes k ≡ absent
  pub counter : count ≡ p.counter

-- a cell that was stored stands in its own shard, and no stamp is above the number of stores
pub record StoreOk (settings : Settings) (shard most : ℕ) (e : Key × ShardCell) : Type 0 where
  pub home : shard_of_key e.0 settings.shards ≡ shard
  pub below : e.1.stamp ≤ most
  pub some : 1 ≤ e.1.stamp

abbrev pub AreStores : Settings → ℕ → List (Key × ShardCell) → Type 0
AreStores settings shard es = AllByRecursion (StoreOk settings shard (length es)) es

-- what the shards hold after these events is the store of these parts
pub record StoreIs (settings : Settings) (setup : Setup) (past : List Event) (p : Parts) : Type 0 where
  pub holds : Holds (length past + 1) (cell_in settings setup past) (counter_in settings setup past) p
  pub stored : (s : ℕ) → AreStores settings s (stores (shard_log settings setup s past))

-- ---- what fits a short list fits a longer one

pub versions_more : (few more : ℕ) → few ≤ more → (versions : List Version) → VersionsFit few versions → VersionsFit more versions
versions_more few more le versions f = record { cell = f.cell; brief = f.brief; number = (let n : length versions ≤ few = f.number in omega arith) }

pub set_more : (few more : ℕ) → few ≤ more → (set : TidSet) → SetFits few set → SetFits more set
set_more few more le set f = record { canonical = f.canonical; runs = (let n : length set.runs ≤ few = f.runs in omega arith) }

pub holds_more : (few more : ℕ) → few ≤ more → (bytes : Key → ShardCell) (count : ℕ) (p : Parts) → Holds few bytes count p → Holds more bytes count p
holds_more few more le bytes count p h = record {
  cells = λ k r. let c = h.cells k r in record { stamp = c.stamp; read = c.read; fits = versions_more few more le (p.cells k).versions c.fits };
  commits = record { stamp = h.commits.stamp; read = h.commits.read; fits = set_more few more le p.commits.finished h.commits.fits };
  logs = h.logs;
  others = h.others;
  counter = h.counter;
}

-- the same cells
pub holds_same : (few : ℕ) (bytes others : Key → ShardCell) (count other : ℕ) (p : Parts) → ((k : Key) → others k ≡ bytes k) → other ≡ count → Holds few bytes count p → Holds few others other p
holds_same few bytes others count other p e f h =
    subst (λ b. Holds few b other p) (sym (fun_ext e)) (subst (λ n. Holds few bytes n p) (sym f) h)

-- a record key is no other key
pub other_record : (key k : Key) → is_record_key key ≡ true → IsOther k → same_key key k ≡ false
other_record key k is o = by (same_key key k) refl
  where
    by : (b : Bool) → same_key key k ≡ b → b ≡ false
    by true e = absurd (both_ways (is_record_key key) (ap is_record_key (key_eq key k e) ∙ o.no_record) is)
    by false e = refl

-- ---- one cell is stored

both_put : {A B : Type 0} (R : Key → A → B → Type 0) (k : Key) (x : A) (y : B) (f : Key → A) (g : Key → B) → R k x y → ((i : Key) → R i (f i) (g i))
    → (i : Key) → R i (put_at k x f i) (put_at k y g i)
both_put R k x y f g h r i = by (same_key k i) refl
  where
    by : (b : Bool) → same_key k i ≡ b → R i (if b then x else f i) (if b then y else g i)
    by true e = subst (λ j. R j x y) (key_eq k i e) h
    by false e = r i

-- what stands under another key
elsewhere : (P : ShardCell → Type 0) (k i : Key) (x : ShardCell) (f : Key → ShardCell) → same_key k i ≡ false → P (f i) → P (put_at k x f i)
elsewhere P k i x f e h = subst P (sym (put_at_other k i x f e)) h

module _ (few : ℕ) (bytes : Key → ShardCell) (count : ℕ) (p : Parts) (h : Holds few bytes count p) (short : few < 2 ^ 32) (stamp : ℕ) where
  pub record_put : (key : Key) (versions : List Version) → is_record_key key ≡ true → VersionsFit few versions
      → Holds few (put_at key (record { stamp = stamp; value = cells.spelling versions }) bytes) count (stored_record p key versions stamp)
  record_put key versions is fits =
      let count_fits : length versions < 2 ^ 32 = let n : length versions ≤ few = fits.number in omega arith in
      let read : read_cell (cells.spelling versions) ≡ Some versions = cell_again versions (record { cell = fits.cell; count = count_fits }) in
      let x : ShardCell = record { stamp = stamp; value = cells.spelling versions } in
      record {
        cells = both_put (λ k (c : ShardCell) (y : Cell). is_record_key k ≡ true → RecordIs few c y) key x (record { stamp = stamp; versions = versions }) bytes p.cells
            (λ r. record { stamp = refl; read = read; fits = fits }) h.cells;
        commits = elsewhere (λ c. CommitsIs few c p.commits) key commits_key x bytes (key_turned key commits_key ∙ commits_no_record key is) h.commits;
        logs = λ tid le. elsewhere (λ c. LogIs tid c (p.logs tid)) key (log_key tid) x bytes (key_turned key (log_key tid) ∙ log_no_record tid key is) (h.logs tid le);
        others = λ k o. put_at_other key k x bytes (other_record key k is o) ∙ h.others k o;
        counter = h.counter;
      }

  pub commits_put : (set : TidSet) → SetFits few set
      → Holds few (put_at commits_key (record { stamp = stamp; value = sets.spelling set }) bytes) count (stored_commits p set stamp)
  commits_put set fits =
      let count_fits : length set.runs < 2 ^ 32 = let n : length set.runs ≤ few = fits.runs in omega arith in
      let read : sets.read_set (sets.spelling set) ≡ Some set = set_again set (record { canonical = fits.canonical; count = count_fits }) in
      let x : ShardCell = record { stamp = stamp; value = sets.spelling set } in
      let y : CommitsCell = record { stamp = stamp; finished = set } in
      record {
        cells = λ k r. elsewhere (λ c. RecordIs few c (p.cells k)) commits_key k x bytes (commits_no_record k r) (h.cells k r);
        commits = subst (λ c. CommitsIs few c y) (sym (put_at_same commits_key x bytes)) (record { stamp = refl; read = read; fits = fits });
        logs = λ tid le. elsewhere (λ c. LogIs tid c (p.logs tid)) commits_key (log_key tid) x bytes (commits_no_log tid) (h.logs tid le);
        others = λ k o. put_at_other commits_key k x bytes o.no_commits ∙ h.others k o;
        counter = h.counter;
      }

  pub log_put : (entry : LogEntry) → EntryFits entry → 0 < stamp
      → Holds few (put_at (log_key entry.tid) (record { stamp = stamp; value = logs.spelling entry }) bytes) count (stored_log p entry stamp)
  log_put entry fits above =
      let read : read_entry (logs.spelling entry) ≡ Some entry = entry_again entry fits.spelled in
      let x : ShardCell = record { stamp = stamp; value = logs.spelling entry } in
      record {
        cells = λ k r. elsewhere (λ c. RecordIs few c (p.cells k)) (log_key entry.tid) k x bytes (log_no_record entry.tid k r) (h.cells k r);
        commits = elsewhere (λ c. CommitsIs few c p.commits) (log_key entry.tid) commits_key x bytes (key_turned (log_key entry.tid) commits_key ∙ commits_no_log entry.tid) h.commits;
        logs = λ tid le. by tid le (entry.tid == tid) refl read;
        others = λ k o. put_at_other (log_key entry.tid) k x bytes (o.no_log entry.tid fits.tid) ∙ h.others k o;
        counter = h.counter;
      }
    where
      x : ShardCell
      x = record { stamp = stamp; value = logs.spelling entry }

      y : LogCell
      y = record { stamp = stamp; entry = entry }

      by : (tid : ℕ) → tid ≤ 2 ^ 62 → (b : Bool) → (entry.tid == tid) ≡ b → read_entry (logs.spelling entry) ≡ Some entry
          → LogIs tid (put_at (log_key entry.tid) x bytes (log_key tid)) (if b then Some y else p.logs tid)
      by tid le true e read =
          subst (λ (c : ShardCell). EntryIs tid c y) (sym (ap (λ b. if b then x else bytes (log_key tid)) (log_keys entry.tid tid fits.tid le ∙ e)))
          (record { stamp = refl; above = above; read = read; fits = fits; own = eqb-true entry.tid tid e })
      by tid le false e read =
          elsewhere (λ c. LogIs tid c (p.logs tid)) (log_key entry.tid) (log_key tid) x bytes (log_keys entry.tid tid fits.tid le ∙ e) (h.logs tid le)
