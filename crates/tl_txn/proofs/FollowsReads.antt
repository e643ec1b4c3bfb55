-- What a transaction reads, and what its node reads by the law.
use Rattle.std.proofs.Common.{◌≡◌, ℕ, ◌+◌, Bool, true, false, List, [], ◌∷◌, ◌++◌, Some, None, refl}
use Rattle.std.specs.Prelude.{nat_lt, if◌then◌else◌}
use Rattle.std.specs.Option.{option_to_list}
use Rattle.tl_base.specs.declared.place.Settings.{Settings}
use Rattle.tl_values.specs.declared.value.Value.{Value}
use Rattle.tl_manager.specs.declared.mark.Mark.{Mark}
use Rattle.tl_manager.specs.declared.mark.TxnStep.TheVariants as step
use Rattle.tl_protocol.specs.Store.{row_shown}
use Rattle.tl_journal.specs.Ask.{Found, Heard, Record, Page}
use Rattle.tl_journal.specs.Reads as law
use Rattle.tl_journal.specs.Reads.{Reads, after_read, range_left, rows_found}
use Rattle.tl_journal.specs.Takes.{after_reply}
use Rattle.tl_txn.specs.Follows.{ReadEnds, ReadGoes, law_read}
use Rattle.tl_txn.specs.Taken.{next_page, takes_reading, with_rows}
use Rattle.tl_txn.specs.declared.phase.Open.{Open}
use Rattle.tl_txn.specs.declared.phase.PageRead.{PageRead}
use Rattle.tl_txn.specs.declared.phase.Read.{Read}
use Rattle.tl_txn.specs.declared.phase.Read.TheVariants as read

-- what is left of a range is nothing, or a range
abbrev IsRange : List law.Read → Type 0
IsRange [] = Unit {0}
IsRange (law.Point key ∷ more) = ⊥
IsRange (law.Range shard from first before ∷ []) = Unit {0}
IsRange (law.Range shard from first before ∷ (other ∷ more)) = ⊥

left_of_range : (shards : ℕ) (r : PageRead) (more : Bool) (found : List Found) → IsRange (range_left shards r.shard r.from r.first r.before more found)
left_of_range shards r true found = tt
left_of_range shards r false found = by (nat_lt (r.shard + 1) shards)
  where
    by : (b : Bool) → IsRange (if b then law.Range (r.shard + 1) r.first r.first r.before ∷ [] else [])
    by true = tt
    by false = tt

page_goes : (live : Open) (reads : Reads) (left more : List law.Read) (rows : List (List Value)) (mark : Mark) → IsRange more
    → (next_page (with_rows live rows) more).step ≡ Some (step.Going mark)
    → ReadGoes live reads left (Some (after_read reads (more ++ left) rows)) (next_page (with_rows live rows) more) mark
page_goes live reads left [] rows mark h e = cc
page_goes live reads left (law.Point key ∷ more) rows mark h e = cc
page_goes live reads left (law.Range shard from first before ∷ []) rows mark h e =
    record {
      next_live = with_rows live rows;
      next_read = read.Range (record { shard = shard; from = from; first = first; before = before });
      range = law.Range shard from first before;
      found = rows;
      told_is = cc;
      phase_is = refl;
      finds = record { tid_is = refl; snapshot_is = refl; own_is = refl; rows_are = refl };
      after_is = refl;
      range_is = refl;
      ask_is = refl;
    }
page_goes live reads left (law.Range shard from first before ∷ (other ∷ more)) rows mark h e = absurd h

pub read_goes : (settings : Settings) (live : Open) (r : Read) (reads : Reads) (left : List law.Read) (heard : Heard) (mark : Mark)
    → (takes_reading settings live r heard).step ≡ Some (step.Going mark)
    → ReadGoes live reads left (after_reply settings live.snapshot reads (law_read r ∷ left) heard) (takes_reading settings live r heard) mark
read_goes settings live (read.Range r) reads left (Page found more) mark e =
    page_goes live reads left (range_left settings.shards r.shard r.from r.first r.before more found) (rows_found live.snapshot found) mark
    (left_of_range settings.shards r more found) e
read_goes settings live (read.Point key) reads left (Record cell) mark e = cc
read_goes settings live r reads left heard mark e = cc

page_ends : (live : Open) (reads : Reads) (left more : List law.Read) (rows : List (List Value)) (mark : Mark)
    → (next_page (with_rows live rows) more).step ≡ Some (step.Ready mark)
    → ReadEnds live reads left (Some (after_read reads (more ++ left) rows)) (next_page (with_rows live rows) more) mark
page_ends live reads left [] rows mark e =
    record {
      next_live = with_rows live rows;
      found = rows;
      told_is = cc;
      phase_is = refl;
      ask_is = refl;
      finds = record { tid_is = refl; snapshot_is = refl; own_is = refl; rows_are = refl };
      after_is = refl;
    }
page_ends live reads left (law.Point key ∷ more) rows mark e = cc
page_ends live reads left (law.Range shard from first before ∷ more) rows mark e = cc

pub read_ends : (settings : Settings) (live : Open) (r : Read) (reads : Reads) (left : List law.Read) (heard : Heard) (mark : Mark)
    → (takes_reading settings live r heard).step ≡ Some (step.Ready mark)
    → ReadEnds live reads left (after_reply settings live.snapshot reads (law_read r ∷ left) heard) (takes_reading settings live r heard) mark
read_ends settings live (read.Range r) reads left (Page found more) mark e =
    page_ends live reads left (range_left settings.shards r.shard r.from r.first r.before more found) (rows_found live.snapshot found) mark e
read_ends settings live (read.Point key) reads left (Record cell) mark e =
    record {
      next_live = with_rows live (option_to_list (row_shown live.snapshot cell.versions));
      found = option_to_list (row_shown live.snapshot cell.versions);
      told_is = cc;
      phase_is = refl;
      ask_is = refl;
      finds = record { tid_is = refl; snapshot_is = refl; own_is = refl; rows_are = refl };
      after_is = refl;
    }
read_ends settings live r reads left heard mark e = cc

page_stops : (live : Open) (more : List law.Read) → IsRange more → (next_page live more).step ≡ None → ⊥
page_stops live [] h e = cc
page_stops live (law.Point key ∷ more) h e = h
page_stops live (law.Range shard from first before ∷ more) h e = cc

pub read_stops : (settings : Settings) (live : Open) (r : Read) (reads : Reads) (left : List law.Read) (heard : Heard)
    → (takes_reading settings live r heard).step ≡ None → after_reply settings live.snapshot reads (law_read r ∷ left) heard ≡ None
read_stops settings live (read.Range r) reads left (Page found more) e =
    absurd (page_stops (with_rows live (rows_found live.snapshot found)) (range_left settings.shards r.shard r.from r.first r.before more found) (left_of_range settings.shards r more found) e)
read_stops settings live (read.Point key) reads left (Record cell) e = cc
read_stops settings live r reads left heard e = refl
