-- The marks that hold where memory is wanted before a reply's bytes are read.
use Rattle.std.proofs.Common.{ℕ, Bool, true, false, List, [], ◌∷◌, Option, Some, None, refl, inl, inr}
use Rattle.tl_base.specs.declared.place.Settings.{Settings}
use Rattle.tl_manager.specs.declared.mark.Mark.{Mark}
use Rattle.tl_manager.specs.declared.mark.Mark.TheVariants as mark
use Rattle.tl_descriptor.specs.Tids.{has}
use Rattle.tl_versions.specs.Versions.{is_written, stranger}
use Rattle.tl_write.specs.declared.write.Write.{Write}
use Rattle.tl_protocol.specs.Store.{Cell}
use Rattle.tl_journal.specs.Ask.{Heard, Commits, Record, Page}
use Rattle.tl_journal.specs.Reads as law
use Rattle.tl_journal.specs.Reads.{range_left, rows_found}
use Rattle.tl_txn.specs.After.{IsKnown, IsTold}
use Rattle.tl_txn.specs.Taken.{Taken, finds, next_page, takes_asking, takes_closing, takes_giving_up, takes_reading, takes_removing, takes_storing, takes_trying_nothing, unless_odd, with_rows}
use Rattle.tl_txn.specs.declared.phase.Decision.{Decision}
use Rattle.tl_txn.specs.declared.phase.Open.{Open}
use Rattle.tl_txn.specs.declared.phase.PageRead.{PageRead}
use Rattle.tl_txn.specs.declared.phase.Read.TheVariants as read
use Rattle.tl_txn.specs.declared.phase.Removing.{Removing}
use Rattle.tl_txn.specs.declared.phase.Storing.{Storing}

pub known_itself : (told : Mark) → IsKnown told told
known_itself (mark.Clashed tid rival place) = inl refl
known_itself told = refl

unless_odd_told : (odd : Bool) (taken : Taken) (told : Mark) → IsTold taken.step told → IsTold (unless_odd odd taken).step told
unless_odd_told true taken told h = tt
unless_odd_told false taken told h = h

pub asking_told : (settings : Settings) (node : ℕ) (h : Heard) → IsTold (takes_asking settings node h).step mark.Asked
asking_told settings node (Commits c) = refl
asking_told settings node h = tt

pub nothing_told : (live : Open) (h : Heard) → IsTold (takes_trying_nothing live h).step (mark.Tried live.tid)
nothing_told live (Commits c) = unless_odd_told (has c.finished live.tid) _ (mark.Tried live.tid) refl
nothing_told live h = tt

pub giving_up_told : (live : Open) (h : Heard) → IsTold (takes_giving_up live h).step mark.Quiet
giving_up_told live (Commits c) = unless_odd_told (has c.finished live.tid) _ mark.Quiet refl
giving_up_told live h = tt

pub closing_told : (settings : Settings) (node tid : ℕ) (d : Decision) (h : Heard) → IsTold (takes_closing settings node tid d false h).step mark.Quiet
closing_told settings node tid d (Commits c) = unless_odd_told (has c.finished tid) _ mark.Quiet refl
closing_told settings node tid d h = tt

pub point_told : (settings : Settings) (live : Open) (key : List ℕ) (h : Heard) → IsTold (takes_reading settings live (read.Point key) h).step mark.Quiet
point_told settings live key (Record cell) = refl
point_told settings live key h = tt

pub next_page_told : (live : Open) (left : List law.Read) → IsTold (next_page live left).step mark.Quiet
next_page_told live [] = refl
next_page_told live (law.Point key ∷ left) = tt
next_page_told live (law.Range shard from first before ∷ left) = refl

pub page_told : (settings : Settings) (live : Open) (r : PageRead) (h : Heard) → IsTold (takes_reading settings live (read.Range r) h).step mark.Quiet
page_told settings live r (Page found more) =
    next_page_told (with_rows live (rows_found live.snapshot found)) (range_left settings.shards r.shard r.from r.first r.before more found)
page_told settings live r h = tt

finds_told : (s : Storing) (key : List ℕ) (cell : Cell) (rival : Option ℕ) → IsTold (finds s key cell rival).step mark.Quiet
finds_told s key cell None = refl
finds_told s key cell (Some rival) = inr refl

pub loading_told : (s : Storing) (o : Write) (h : Heard) → IsTold (takes_storing s false (Some o) h).step mark.Quiet
loading_told s o (Record cell) =
    unless_odd_told (is_written s.attempt.tid cell.versions) _ mark.Quiet (finds_told s o.key cell (stranger s.attempt.snapshot cell.versions))
loading_told s o h = tt

pub removing_told : (r : Removing) (o : Write) (h : Heard) → IsTold (takes_removing r false (Some o) h).step mark.Quiet
removing_told r o (Record cell) = refl
removing_told r o h = tt
