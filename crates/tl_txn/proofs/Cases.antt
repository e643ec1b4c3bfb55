-- What a reply is taken for in each case, where a transaction stores its versions or removes them.
use Rattle.std.proofs.Common.{◌≡◌, ℕ, ◌+◌, Bool, true, false, Option, Some, None, refl, sym, ap, subst}
use Rattle.std.specs.Prelude.{slice_get}
use Rattle.tl_base.specs.declared.place.Settings.{Settings}
use Rattle.tl_logrec.specs.declared.entry.Flag.TheVariants as flag
use Rattle.tl_manager.specs.declared.mark.Mark.{Mark}
use Rattle.tl_manager.specs.declared.mark.Mark.TheVariants as mark
use Rattle.tl_manager.specs.declared.request.ManagerRequest.TheVariants as request
use Rattle.tl_manager.specs.declared.request.Reply.{Reply}
use Rattle.tl_schema.specs.declared.catalog.Catalog.{Catalog}
use Rattle.tl_versions.specs.Versions.{is_written, stranger, strip}
use Rattle.tl_write.specs.declared.write.Write.{Write}
use Rattle.tl_protocol.specs.Store.{Cell}
use Rattle.tl_journal.specs.Ask.{Heard, AskManager, LoadRecord, StoreLog, StoreRecord, Record, Stored, Moved, Strange}
use Rattle.tl_journal.specs.Bytes.{home_of}
use Rattle.tl_ask.specs.Hears.{hears_record, hears_store, store_or_strange}
use Rattle.tl_ask.specs.declared.heard.StoreOutcome.{StoreOutcome}
use Rattle.tl_ask.specs.declared.heard.StoreOutcome.TheVariants as outcome
use Rattle.tl_txn.proofs.Told.{loading_told, removing_told}
use Rattle.tl_txn.specs.After.{IsTold}
use Rattle.tl_txn.specs.Attempt.{Attempt, entry_of}
use Rattle.tl_txn.specs.Hears.{hears_own}
use Rattle.tl_txn.specs.Taken.{Taken, ask_removal, finds, finished_as, going, removal_at, removing, storing, strange, takes_closing, takes_removing, takes_storing}
use Rattle.tl_txn.specs.declared.phase.Decision.{Decision}
use Rattle.tl_txn.specs.declared.phase.Phase.{Phase}
use Rattle.tl_txn.specs.declared.phase.Phase.TheVariants as phase
use Rattle.tl_txn.specs.declared.phase.Removing.{Removing}
use Rattle.tl_txn.specs.declared.phase.Storing.{Storing}

-- ---- by what is in hand

pub hears_loaded : (catalog : Catalog) (takes : Bool → Option Write → Heard → Taken) (b : Bool) (w : Option Write) (reply : Reply) (g : Heard) → b ≡ true
    → hears_store reply ≡ g → takes b w (hears_own catalog b w reply) ≡ takes true w g
hears_loaded catalog takes true w reply g e h = ap (takes true w) h
hears_loaded catalog takes false w reply g e h = absurd cc

pub hears_last : (catalog : Catalog) (takes : Bool → Option Write → Heard → Taken) (b : Bool) (w : Option Write) (reply : Reply) (g : Heard) → b ≡ false → w ≡ None
    → hears_store reply ≡ g → takes b w (hears_own catalog b w reply) ≡ takes false None g
hears_last catalog takes false None reply g e n h = ap (takes false None) h
hears_last catalog takes false (Some o) reply g e n h = absurd cc
hears_last catalog takes true w reply g e n h = absurd cc

pub hears_unloaded : (catalog : Catalog) (takes : Bool → Option Write → Heard → Taken) (b : Bool) (w : Option Write) (o : Write) (reply : Reply) (g : Heard) → b ≡ false
    → w ≡ Some o → hears_record catalog o.key reply ≡ g → takes b w (hears_own catalog b w reply) ≡ takes false w g
hears_unloaded catalog takes false w o reply g e n h =
    subst (λ (v : Option Write). takes false v (hears_own catalog false v reply) ≡ takes false v g) (sym n) (ap (takes false (Some o)) h)
hears_unloaded catalog takes true w o reply g e n h = absurd cc

pub storing_told : (catalog : Catalog) (s : Storing) (b : Bool) (w : Option Write) (o : Write) (reply : Reply) → b ≡ false → w ≡ Some o
    → IsTold (takes_storing s b w (hears_own catalog b w reply)).step mark.Quiet
storing_told catalog s false (Some x) o reply e n = loading_told s x (hears_record catalog x.key reply)
storing_told catalog s false None o reply e n = absurd cc
storing_told catalog s true w o reply e n = absurd cc

pub stripping_told : (catalog : Catalog) (r : Removing) (b : Bool) (w : Option Write) (o : Write) (reply : Reply) → b ≡ false → w ≡ Some o
    → IsTold (takes_removing r b w (hears_own catalog b w reply)).step mark.Quiet
stripping_told catalog r false (Some x) o reply e n = removing_told r x (hears_record catalog x.key reply)
stripping_told catalog r false None o reply e n = absurd cc
stripping_told catalog r true w o reply e n = absurd cc

-- ---- it stores its versions

pub is_odd : (s : Storing) (w : Option Write) (o : Write) (cell : Cell) → w ≡ Some o → is_written s.attempt.tid cell.versions ≡ true
    → takes_storing s false w (Record cell) ≡ strange
is_odd s w o cell e odd = rw (e, odd) refl

pub is_free : (s : Storing) (w : Option Write) (o : Write) (cell : Cell) → w ≡ Some o → is_written s.attempt.tid cell.versions ≡ false
    → stranger s.attempt.snapshot cell.versions ≡ None → takes_storing s false w (Record cell) ≡ finds s o.key cell None
is_free s w o cell e odd free = rw (e, odd, free) refl

pub clashes : (s : Storing) (w : Option Write) (o : Write) (cell : Cell) (rival : ℕ) → w ≡ Some o → is_written s.attempt.tid cell.versions ≡ false
    → stranger s.attempt.snapshot cell.versions ≡ Some rival
    → takes_storing s false w (Record cell)
    ≡ removing (record { attempt = s.attempt; log = s.log; rival = rival; stored = s.stored; removed = 0; loaded = false })
    (mark.Clashed s.attempt.tid rival s.stored)
clashes s w o cell rival e odd free = rw (e, odd, free) refl

pub not_loaded : (s : Storing) (w : Option Write) (o : Write) → w ≡ Some o → takes_storing s false w Strange ≡ strange
not_loaded s w o e = rw e refl

pub is_stored : (s : Storing) (w : Option Write) (o : Write) (stamp : ℕ) → w ≡ Some o
    → takes_storing s true w (Stored stamp) ≡ storing (record s { stored = s.stored + 1; loaded = false }) mark.Quiet
is_stored s w o stamp e = rw e refl

pub has_moved : (s : Storing) (w : Option Write) (o : Write) → w ≡ Some o → takes_storing s true w Moved ≡ storing (record s { loaded = false }) mark.Quiet
has_moved s w o e = rw e refl

pub not_stored : (s : Storing) (w : Option Write) (o : Write) → w ≡ Some o → takes_storing s true w Strange ≡ strange
not_stored s w o e = rw e refl

-- the own record in hand is to be loaded
pub loads_next : (s : Storing) (p : Phase) (o : Write) (told : Mark) → p ≡ phase.Storing s → slice_get s.attempt.own s.stored ≡ Some o
    → storing s told ≡ going p (LoadRecord o.key) told
loads_next s p o told e w = rw (e, w) refl

-- none is left
pub decides : (s : Storing) (a : Attempt) (told : Mark) → s.loaded ≡ false → slice_get s.attempt.own s.stored ≡ None → a ≡ s.attempt
    → storing s told
    ≡ going (phase.Storing (record { attempt = a; log = s.log; stored = s.stored; loaded = false })) (StoreLog s.log (entry_of s.attempt flag.Decided)) told
decides s a told e n h =
    subst (λ (b : Bool). storing s told
    ≡ going (phase.Storing (record { attempt = a; log = s.log; stored = s.stored; loaded = b })) (StoreLog s.log (entry_of s.attempt flag.Decided)) told) e
    (rw (n, h) refl)

-- ---- it removes them

pub is_loaded : (r : Removing) (w : Option Write) (o : Write) (cell : Cell) → w ≡ Some o
    → takes_removing r false w (Record cell)
    ≡ going (phase.Removing (record r { loaded = true })) (StoreRecord o.key cell.stamp (strip r.attempt.tid cell.versions)) mark.Quiet
is_loaded r w o cell e = rw e refl

pub none_loaded : (r : Removing) (w : Option Write) (o : Write) → w ≡ Some o → takes_removing r false w Strange ≡ strange
none_loaded r w o e = rw e refl

pub is_removed : (r : Removing) (w : Option Write) (o : Write) (stamp : ℕ) → w ≡ Some o
    → takes_removing r true w (Stored stamp) ≡ removing (record r { removed = r.removed + 1; loaded = false }) mark.Quiet
is_removed r w o stamp e = rw e refl

pub moved_again : (r : Removing) (w : Option Write) (o : Write) → w ≡ Some o → takes_removing r true w Moved ≡ removing (record r { loaded = false }) mark.Quiet
moved_again r w o e = rw e refl

pub not_removed : (r : Removing) (w : Option Write) (o : Write) → w ≡ Some o → takes_removing r true w Strange ≡ strange
not_removed r w o e = rw e refl

-- the own record in hand is to be loaded
pub loads_removal : (r : Removing) (p : Phase) (o : Write) (told : Mark) → p ≡ phase.Removing r → removal_at r ≡ Some o
    → removing r told ≡ going p (LoadRecord o.key) told
loads_removal r p o told e w =
    subst (λ (v : Option Write). going (phase.Removing r) (ask_removal r v) told ≡ going p (LoadRecord o.key) told) (sym w) (rw e refl)

-- none is left
pub is_undone : (r : Removing) (a : Attempt) (told : Mark) → r.loaded ≡ false → removal_at r ≡ None → a ≡ r.attempt
    → removing r told
    ≡ going (phase.Removing (record { attempt = a; log = r.log; rival = r.rival; stored = r.stored; removed = r.removed; loaded = false }))
    (StoreLog r.log (entry_of r.attempt flag.Undone)) told
is_undone r a told e n h =
    subst (λ (v : Option Write). going (phase.Removing r) (ask_removal r v) told
    ≡ going (phase.Removing (record { attempt = a; log = r.log; rival = r.rival; stored = r.stored; removed = r.removed; loaded = false }))
    (StoreLog r.log (entry_of r.attempt flag.Undone)) told) (sym n)
    (subst (λ (b : Bool). going (phase.Removing r) (StoreLog r.log (entry_of r.attempt flag.Undone)) told
    ≡ going (phase.Removing (record { attempt = a; log = r.log; rival = r.rival; stored = r.stored; removed = r.removed; loaded = b }))
    (StoreLog r.log (entry_of r.attempt flag.Undone)) told) e (rw h refl))

-- ---- it is put among the finished ones

pub is_finished : (settings : Settings) (node tid : ℕ) (d : Decision) (told : Option StoreOutcome) (one : StoreOutcome) (stamp : ℕ) (meant : Mark)
    → told ≡ Some one → one ≡ outcome.Stored stamp → meant ≡ finished_as d tid
    → takes_closing settings node tid d true (store_or_strange told) ≡ going (phase.Ending tid d) (AskManager (home_of settings node) (request.End tid)) meant
is_finished settings node tid d None one stamp meant e f g = absurd cc
is_finished settings node tid d (Some outcome.Moved) one stamp meant e f g = absurd cc
is_finished settings node tid d (Some (outcome.Stored at)) one stamp meant e f g =
    ap (going (phase.Ending tid d) (AskManager (home_of settings node) (request.End tid))) (sym g)
