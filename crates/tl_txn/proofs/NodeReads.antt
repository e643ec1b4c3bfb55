-- A node that reads, and what its transaction finds.
use Rattle.std.proofs.Common.{◌≡◌, List, [], ◌∷◌, ◌++◌, Option, Some, None, refl, sym, ap, ◌∙◌}
use Rattle.tl_base.specs.declared.place.Settings.{Settings}
use Rattle.tl_schema.specs.declared.catalog.Catalog.{Catalog}
use Rattle.tl_descriptor.specs.Tids.{TidSet}
use Rattle.tl_manager.specs.declared.mark.Mark.{Mark}
use Rattle.tl_manager.specs.declared.mark.TxnStep.TheVariants as step
use Rattle.tl_isolation.specs.declared.bound.Bound.{Bound}
use Rattle.tl_isolation.specs.declared.entry.Answer.{Answer}
use Rattle.tl_protocol.specs.World.{Txn}
use Rattle.tl_journal.specs.Ask.{Heard, Record, Page}
use Rattle.tl_journal.specs.Node.{Node}
use Rattle.tl_journal.specs.Reads as law
use Rattle.tl_journal.specs.Reads.{Reads, after_read, take_cell, take_page}
use Rattle.tl_journal.specs.Says.{says_read}
use Rattle.tl_journal.specs.Takes.{after_reply, goes_on, stopped, takes_read}
use Rattle.tl_txn.specs.Follows.{law_read}
use Rattle.tl_txn.specs.NodeReads.{Awaits, NodeReadEnds, NodeReadGoes, NodeReadStops}
use Rattle.tl_txn.specs.Taken.{takes_reading}
use Rattle.tl_txn.specs.declared.phase.Open.{Open}
use Rattle.tl_txn.specs.declared.phase.Read.{Read}
use Rattle.tl_txn.proofs.FollowsReads.{read_ends, read_goes, read_stops}

module _ (settings : Settings) (catalog : Catalog) (node : Node) (statement : Bound) (t : Txn) (told : Answer) where
  -- what the node does with the reads after a reply
  goes_by : Option Reads → Node
  goes_by None = stopped node
  goes_by (Some after) = goes_on catalog node statement t after told

  taken_left : (reads : Reads) (left : List law.Read) (heard : Heard)
      → takes_read settings catalog node statement t (record reads { left = left }) heard told ≡ goes_by (after_reply settings t.snapshot (record reads { left = left }) left heard)
  unfolding goes_by
  taken_left reads [] heard = refl
  taken_left reads (law.Point key ∷ left) (Record cell) = refl
  taken_left reads (law.Range shard from first before ∷ left) (Page found more) = refl
  taken_left reads left heard = refl

  goes_some : (after : Option Reads) (next : Reads) → after ≡ Some next → goes_by after ≡ goes_on catalog node statement t next told
  unfolding goes_by
  goes_some after next e = ap goes_by e

  goes_none : (after : Option Reads) → after ≡ None → goes_by after ≡ stopped node
  unfolding goes_by
  goes_none after e = ap goes_by e

  module _ (reads : Reads) (live : Open) (r : Read) (left : List law.Read) (heard : Heard) (h : Awaits t reads live r left) where
    -- the node's reads after the reply are those that the transaction knows of
    same_after : after_reply settings t.snapshot reads reads.left heard ≡ after_reply settings live.snapshot reads (law_read r ∷ left) heard
    same_after =
        ap (λ (l : List law.Read). after_reply settings t.snapshot reads l heard) h.left_are
        ∙ ap (λ (seen : TidSet). after_reply settings seen reads (law_read r ∷ left) heard) (sym h.snapshot_is)

    pub node_read_goes : (mark : Mark) → (takes_reading settings live r heard).step ≡ Some (step.Going mark)
        → NodeReadGoes settings catalog node statement t reads live left heard told (takes_reading settings live r heard) mark
    node_read_goes mark e =
        let g = read_goes settings live r reads left heard mark e in
        let after_is : after_reply settings t.snapshot reads reads.left heard ≡ Some (record reads { left = g.range ∷ left; rows = reads.rows ++ g.found }) =
        same_after ∙ g.after_is in record {
          next_live = g.next_live;
          next_read = g.next_read;
          next_reads = record reads { left = g.range ∷ left; rows = reads.rows ++ g.found };
          found = g.found;
          mark_is = g.told_is;
          phase_is = g.phase_is;
          finds = g.finds;
          rows_are = refl;
          later_are = refl;
          earlier_are = refl;
          awaits = record { snapshot_is = g.finds.snapshot_is ∙ h.snapshot_is; left_are = ap (λ (x : law.Read). x ∷ left) g.range_is };
          takes_is = taken_left reads reads.left heard ∙ goes_some _ _ after_is;
          ask_is = sym g.ask_is;
          says_is = ap (λ (after : Option Reads). says_read node statement t after told) after_is;
        }

    pub node_read_ends : (mark : Mark) → (takes_reading settings live r heard).step ≡ Some (step.Ready mark)
        → NodeReadEnds settings catalog node statement t reads live left heard told (takes_reading settings live r heard) mark
    node_read_ends mark e =
        let g = read_ends settings live r reads left heard mark e in
        let after_is : after_reply settings t.snapshot reads reads.left heard ≡ Some (after_read reads left g.found) = same_after ∙ g.after_is in record {
          next_live = g.next_live;
          found = g.found;
          mark_is = g.told_is;
          phase_is = g.phase_is;
          ask_is = g.ask_is;
          finds = g.finds;
          after_is = after_is;
          takes_is = taken_left reads reads.left heard ∙ goes_some _ _ after_is;
        }

    pub node_read_stops : (takes_reading settings live r heard).step ≡ None → NodeReadStops settings catalog node statement t reads heard told
    node_read_stops e =
        let after_is : after_reply settings t.snapshot reads reads.left heard ≡ None = same_after ∙ read_stops settings live r reads left heard e in record {
          after_is = after_is;
          takes_is = taken_left reads reads.left heard ∙ goes_none _ after_is;
        }
