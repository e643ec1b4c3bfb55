-- Each cell that a place of a run replies is a cell for its key, and no set that a manager tells has too great a number.
use Rattle.std.proofs.Common.{◌≡◌, inl, inr, ℕ, ◌≤◌, ◌⊎◌, ◌^◌, Bool, true, false, List, [], ◌∷◌, Option, Some, None, refl, sym, ap, ◌∙◌, subst, arith}
use Rattle.std.specs.Prelude.{not, ◌||◌, nat_le, nat_lt, if◌then◌else◌}
use Rattle.std.specs.List.{AllByRecursion, list_all, list_any}
use Rattle.std.proofs.lemmas.Bool.{and_from, and_parts, leb-true, not_from_false, or_from, or_left, or_right}
use Rattle.std.proofs.lemmas.Bool.Decides.{nat_tests}
use Rattle.tl_base.specs.declared.place.Settings.{Settings}
use Rattle.tl_schema.specs.declared.catalog.Catalog.{Catalog}
use Rattle.tl_schema.specs.declared.catalog.Setup.{Setup}
use Rattle.tl_descriptor.specs.declared.run.Run.{Run}
use Rattle.tl_descriptor.specs.Runs.{are_apart}
use Rattle.tl_descriptor.specs.Tids.{TidSet, IsCanonical, begins}
use Rattle.tl_descriptor.proofs.Order.{begins_itself}
use Rattle.tl_manager.specs.declared.active.Active.{Active}
use Rattle.tl_manager.specs.declared.request.ManagerReply.{ManagerReply}
use Rattle.tl_manager.specs.declared.request.ManagerRequest.{ManagerRequest}
use Rattle.tl_manager.specs.declared.request.ManagerRequest.TheVariants as asked
use Rattle.tl_manager.specs.declared.request.Reply.{Reply}
use Rattle.tl_manager.specs.declared.request.Reply.TheVariants as reply
use Rattle.tl_manager.specs.Floor.{newer}
use Rattle.tl_isolation.specs.declared.entry.Entry.{Entry}
use Rattle.tl_isolation.specs.declared.state.SiState.{SiState}
use Rattle.tl_protocol.specs.Run.{Layout}
use Rattle.tl_protocol.specs.Stands.{IsLogFor, IsVersionFor}
use Rattle.tl_protocol.specs.Store.{Key, Cell, LogCell}
use Rattle.tl_protocol.specs.World.{Fact, Txn, World}
use Rattle.tl_protocol.proofs.Finished.{Snap}
use Rattle.tl_protocol.proofs.ForKey.{logs_for, records_for}
use Rattle.tl_protocol.proofs.Reached.{Reached, reached}
use Rattle.tl_journal.specs.Ask.{Ask, LoadCommits, StoreCommits, LoadLog, StoreLog, LoadRecord, StoreRecord, ReadPage, DrawNumbers, AskManager, Found, Heard, Log, Told}
use Rattle.tl_journal.specs.Asks.{asks}
use Rattle.tl_journal.specs.Bytes.{heard, home_of}
use Rattle.tl_journal.specs.ForKey.{greatest_tid, is_record_for}
use Rattle.tl_journal.specs.Node.{Node}
use Rattle.tl_journal.specs.Reads.{Reads}
use Rattle.tl_journal.specs.Served.{Answers, IsMark, IsWithin, Parts, Serves, parts_of}
use Rattle.tl_journal.specs.Strange.{is_great, is_sound, may_answer, may_reply}
use Rattle.tl_journal.proofs.Asking.{may_ask}
use Rattle.tl_journal.proofs.ForKeyTests.{keys_are, record_is}
use Rattle.tl_journal.proofs.ManagerServes.{MayAsk}
use Rattle.tl_journal.proofs.Meets.{Before}

-- ---- sets

not_above : (n most : ℕ) → n ≤ most → nat_lt most n ≡ false
not_above n most le = grind (arith, nat_tests)

runs_low : (below : ℕ) (runs : List Run) → are_apart below runs ≡ true → list_any (λ (run : Run). nat_lt greatest_tid run.high) runs ≡ false
runs_low below [] h = refl
runs_low below (run ∷ runs) h =
    let later = and_parts _ (are_apart run.high runs) h in
    let low = and_parts _ (nat_le run.high (2 ^ 62)) later.0 in
    or_from (nat_lt greatest_tid run.high) (list_any (λ (run : Run). nat_lt greatest_tid run.high) runs)
    (not_above run.high greatest_tid (leb-true run.high (2 ^ 62) low.1)) (runs_low run.high runs later.1)

-- a set that is written in the one way has no number that is too great
pub canonical_low : (set : TidSet) → IsCanonical set → is_great set ≡ false
canonical_low set h =
    or_from (nat_lt greatest_tid set.base) (list_any (λ (run : Run). nat_lt greatest_tid run.high) set.runs) (not_above set.base greatest_tid h.base_fits)
    (runs_low set.base set.runs h.apart)

newer_low : (copy seen : TidSet) → is_great copy ≡ false → is_great seen ≡ false → is_great (newer copy seen) ≡ false
newer_low copy seen h k = by (begins copy seen)
  where
    by : (b : Bool) → is_great (if b then seen else copy) ≡ false
    by true = k
    by false = h

-- ---- what a manager tells

-- no set that a manager has is too great, nor one that it is told
record AreLow (p : Parts) : Type 0 where
  copies : (m : ℕ) → is_great (p.copies m) ≡ false
  snapshots : (d : ℕ) (x : Active) → p.active d ≡ Some x → is_great x.snapshot ≡ false

abbrev IsLow : TidSet → Type 0
IsLow set = is_great set ≡ false

module _ (catalog : Catalog) (settings : Settings) (p : Parts) (low : AreLow p) (n m : ℕ) where
  mark_low : (copy floor : TidSet) → is_great copy ≡ false → IsMark settings p.active m copy floor → is_great floor ≡ false
  mark_low copy floor h mark = by mark.is_one
    where
      by : ((floor ≡ copy) ⊎ ((d : ℕ) × (x : Active) × (p.active d ≡ Some x) × (home_of settings d ≡ m) × (floor ≡ x.snapshot))) → is_great floor ≡ false
      by (inl e) = ap is_great e ∙ h
      by (inr x) = ap is_great x.4 ∙ low.snapshots x.0 x.1 x.2

  manager_sound : (request : ManagerRequest) (heard : Heard) (after : Parts) → MayAsk IsLow settings p n m request → Answers settings p m request heard after
      → is_sound catalog (AskManager m request) heard ≡ true
  manager_sound (asked.Begin node seen) heard after may (inl v) =
      let copy : TidSet = newer (p.copies m) seen in
      let fresh : is_great copy ≡ false = newer_low (p.copies m) seen (low.copies m) may.2 in
      subst (λ (x : Heard). is_sound catalog (AskManager m (asked.Begin node seen)) x ≡ true) (sym v.2)
      (not_from_false _ (or_from (is_great copy) (is_great v.1) fresh (mark_low copy v.1 fresh v.4)))
  manager_sound (asked.Begin node seen) heard after may (inr v) =
      subst (λ (x : Heard). is_sound catalog (AskManager m (asked.Begin node seen)) x ≡ true) (sym v.0) refl
  manager_sound (asked.Range low_end high) heard after may v =
      subst (λ (x : Heard). is_sound catalog (AskManager m (asked.Range low_end high)) x ≡ true) (sym v.0) refl
  manager_sound (asked.End tid) heard after may v = subst (λ (x : Heard). is_sound catalog (AskManager m (asked.End tid)) x ≡ true) (sym v.0) refl
  manager_sound (asked.Orphans node) heard after may (inl v, same) =
      subst (λ (x : Heard). is_sound catalog (AskManager m (asked.Orphans node)) x ≡ true) (sym v.2) refl
  manager_sound (asked.Orphans node) heard after may (inr v, same) =
      subst (λ (x : Heard). is_sound catalog (AskManager m (asked.Orphans node)) x ≡ true) (sym v.1) refl
  manager_sound (asked.Floor seen) heard after may v =
      let copy : TidSet = newer (p.copies m) seen in
      let fresh : is_great copy ≡ false = newer_low (p.copies m) seen (low.copies m) may in
      subst (λ (x : Heard). is_sound catalog (AskManager m (asked.Floor seen)) x ≡ true) (sym v.0.1)
      (not_from_false _ (mark_low copy v.0.0 fresh v.0.2))
  manager_sound (asked.Post node also) heard after may v = absurd v
  manager_sound (asked.Claim node) heard after may (inl v) =
      subst (λ (x : Heard). is_sound catalog (AskManager m (asked.Claim node)) x ≡ true) (sym v.1) refl
  manager_sound (asked.Claim node) heard after may (inr v) =
      subst (λ (x : Heard). is_sound catalog (AskManager m (asked.Claim node)) x ≡ true) (sym v.4) refl

-- ---- what a manager may answer

-- the newer of a copy and a set is not older than the set
not_older : (copy seen : TidSet) → IsCanonical seen → (begins seen (newer copy seen) || not (begins (newer copy seen) seen)) ≡ true
not_older copy seen h = by (begins copy seen) refl
  where
    by : (b : Bool) → begins copy seen ≡ b → (begins seen (if b then seen else copy) || not (begins (if b then seen else copy) seen)) ≡ true
    by true e = or_left (begins seen seen) (not (begins seen seen)) (begins_itself seen h)
    by false e = or_right (begins seen copy) (not (begins copy seen)) (ap not e)

abbrev may_hear : ManagerRequest → Heard → Bool
may_hear request (Told told) = may_answer request told
may_hear request other = true

any_other : (request : ManagerRequest) (heard : Heard) → ((told : ManagerReply) → may_answer request told ≡ true) → may_hear request heard ≡ true
any_other request (Told told) h = h told
any_other request heard h = refl

manager_may : (settings : Settings) (p : Parts) (n m : ℕ) (request : ManagerRequest) (heard : Heard) (after : Parts) → MayAsk IsCanonical settings p n m request
    → Answers settings p m request heard after → may_hear request heard ≡ true
manager_may settings p n m (asked.Begin node seen) heard after may (inl v) =
    let copy : TidSet = newer (p.copies m) seen in
    subst (λ (x : Heard). may_hear (asked.Begin node seen) x ≡ true) (sym v.2)
    (and_from (begins seen copy || not (begins copy seen)) (begins v.1 copy) (not_older (p.copies m) seen may.2) v.4.begins_copy)
manager_may settings p n m (asked.Begin node seen) heard after may (inr v) = subst (λ (x : Heard). may_hear (asked.Begin node seen) x ≡ true) (sym v.0) refl
manager_may settings p n m (asked.Range low high) heard after may v = any_other (asked.Range low high) heard (λ told. refl)
manager_may settings p n m (asked.End tid) heard after may v = any_other (asked.End tid) heard (λ told. refl)
manager_may settings p n m (asked.Orphans node) heard after may v = any_other (asked.Orphans node) heard (λ told. refl)
manager_may settings p n m (asked.Floor seen) heard after may v = any_other (asked.Floor seen) heard (λ told. refl)
manager_may settings p n m (asked.Post node also) heard after may v = absurd v
manager_may settings p n m (asked.Claim node) heard after may v = any_other (asked.Claim node) heard (λ told. refl)

-- ---- what a shard tells

module _ (catalog : Catalog) where
  found_sound : (cells : Key → Cell) (settings : Settings) (shard : ℕ) (from before : Key) (found : List Found)
      → ((key : Key) → is_record_for catalog key (cells key).versions ≡ true)
      → AllByRecursion (λ (f : Found). IsWithin settings shard from before f.key × (f.versions ≡ (cells f.key).versions)) found
      → list_all (λ (f : Found). is_record_for catalog f.key f.versions) found ≡ true
  found_sound cells settings shard from before [] are h = refl
  found_sound cells settings shard from before (f ∷ fs) are h =
      and_from (is_record_for catalog f.key f.versions) (list_all (λ (f : Found). is_record_for catalog f.key f.versions) fs)
      (ap (is_record_for catalog f.key) h.0.1 ∙ are f.key) (found_sound cells settings shard from before fs are h.1)

  log_sound : (tid : ℕ) (log : Option LogCell) → ((x : LogCell) → log ≡ Some x → IsLogFor catalog tid x) → is_sound catalog (LoadLog tid) (Log log) ≡ true
  log_sound tid None h = refl
  log_sound tid (Some x) h = keys_are catalog x.entry.writes (h x refl).keys

module _ (R : Txn → List Fact → Reads → Type 0) (layout : Layout) (setup : Setup) (settings : Settings) (w : World) (state : SiState)
    (entries : List Entry) (n : ℕ) (node : Node) (b : Before R layout setup settings w state entries n node) where
  cells_sound : (key : Key) → is_record_for setup.catalog key (w.cells key).versions ≡ true
  cells_sound key =
      record_is setup.catalog key (w.cells key).versions
      (subst (λ (c : Catalog). AllByRecursion (IsVersionFor c key) (w.cells key).versions) (reached b.opening b.reach).catalog
      (records_for setup w state entries (reached b.opening b.reach) key))

  log_for : (tid : ℕ) (log : LogCell) → w.logs tid ≡ Some log → IsLogFor setup.catalog tid log
  log_for tid log e =
      subst (λ (c : Catalog). IsLogFor c tid log) (reached b.opening b.reach).catalog (logs_for setup w state entries (reached b.opening b.reach) tid log e)

  snap_low : (set : TidSet) → Snap set (reached b.opening b.reach).ghost.finished → is_great set ≡ false
  snap_low set s = canonical_low set s.known.canonical

  are_low : AreLow (parts_of w)
  are_low =
      let r : Reached setup w state entries = reached b.opening b.reach in
      record {
        copies = λ m. snap_low (w.copies m) (r.inv.core.managers.copy_known m);
        snapshots = λ d x e. snap_low x.snapshot (r.inv.core.managers.snaps d x e);
      }

  asked_low : (m : ℕ) (request : ManagerRequest) → MayAsk (λ s. Snap s (reached b.opening b.reach).ghost.finished) settings (parts_of w) n m request
      → MayAsk IsLow settings (parts_of w) n m request
  asked_low m (asked.Begin i seen) h = (h.0, h.1, snap_low seen h.2)
  asked_low m (asked.Range low high) h = h
  asked_low m (asked.End tid) h = h
  asked_low m (asked.Orphans i) h = h
  asked_low m (asked.Floor seen) h = snap_low seen h
  asked_low m (asked.Post i also) h = h
  asked_low m (asked.Claim i) h = h

  asked_canonical : (m : ℕ) (request : ManagerRequest) → MayAsk (λ s. Snap s (reached b.opening b.reach).ghost.finished) settings (parts_of w) n m request
      → MayAsk IsCanonical settings (parts_of w) n m request
  asked_canonical m (asked.Begin i seen) h = (h.0, h.1, h.2.known.canonical)
  asked_canonical m (asked.Range low high) h = h
  asked_canonical m (asked.End tid) h = h
  asked_canonical m (asked.Orphans i) h = h
  asked_canonical m (asked.Floor seen) h = h.known.canonical
  asked_canonical m (asked.Post i also) h = h
  asked_canonical m (asked.Claim i) h = h

  by_reply : (m : ℕ) (request : ManagerRequest) (p : Reply) → may_hear request (heard (AskManager m request) p) ≡ true → may_reply (AskManager m request) p ≡ true
  by_reply m request (reply.Store told) h = refl
  by_reply m request (reply.Manager told) h = h

  -- what a manager answers in a run is what it may
  pub may_at : (m : ℕ) (request : ManagerRequest) (p : Reply) (after : Parts) → asks settings setup.catalog node ≡ Some (AskManager m request)
      → Serves settings (parts_of w) n (AskManager m request) (heard (AskManager m request) p) after → may_reply (AskManager m request) p ≡ true
  may_at m request p after is v =
      by_reply m request p
      (manager_may settings (parts_of w) n m request (heard (AskManager m request) p) after
      (asked_canonical m request (may_ask R layout setup settings w state entries n node b m request is)) v)

  -- what a node hears in a run is sound
  pub sound_at : (ask : Ask) (heard : Heard) (after : Parts) → asks settings setup.catalog node ≡ Some ask → Serves settings (parts_of w) n ask heard after
      → is_sound setup.catalog ask heard ≡ true
  sound_at LoadCommits heard after is v = refl
  sound_at (StoreCommits stamp set) heard after is v = refl
  sound_at (LoadLog tid) heard after is v =
      subst (λ (x : Heard). is_sound setup.catalog (LoadLog tid) x ≡ true) (sym v.0) (log_sound setup.catalog tid (w.logs tid) (log_for tid))
  sound_at (StoreLog stamp entry) heard after is v = refl
  sound_at (LoadRecord key) heard after is v =
      subst (λ (x : Heard). is_sound setup.catalog (LoadRecord key) x ≡ true) (sym v.0) (cells_sound key)
  sound_at (StoreRecord key stamp versions) heard after is v = refl
  sound_at (ReadPage shard from before) heard after is v =
      subst (λ (x : Heard). is_sound setup.catalog (ReadPage shard from before) x ≡ true) (sym v.0.2)
      (found_sound setup.catalog w.cells settings shard from before v.0.0 cells_sound v.0.3.are)
  sound_at DrawNumbers heard after is v = refl
  sound_at (AskManager m request) heard after is v =
      manager_sound setup.catalog settings (parts_of w) are_low n m request heard after
      (asked_low m request (may_ask R layout setup settings w state entries n node b m request is)) v
