use Rattle.std.proofs.Common.{ℕ, List, [], ◌∷◌, ◌++◌, map, subst}
use Rattle.std.specs.List.{AllByRecursion}
use Rattle.tl_values.specs.declared.value.Value.{Value}
use Rattle.tl_versions.specs.Cell.{IsShortRow}
use Rattle.std.specs.FinMap as finmap
use Rattle.tl_places.specs.Opening.{Stored, commits_cell, row_cell}
use Rattle.tl_places.proofs.Stores.{same_cell}
use Rattle.tl_places.proofs.Written.{cell_more}
use Rattle.tl_places.proofs.Room.{room_next}
use Rattle.tl_places.proofs.opening.store_rows.Goals as goal

pub loop-key-preserved : goal.loop-key-preserved
loop-key-preserved c =
    let cell : Stored = (c.in_ok-key.key, c.in_ok-value.value) in
    record {
      stored = c.loop-key.invariant.stored ++ cell ∷ [];
      are_stored = c.in_ok-store.ensures c.loop-key.invariant.stored c.loop-key.invariant.are_stored;
      short =
          (subst (λ (es : List (List ℕ × List Value)). AllByRecursion (λ (e : List ℕ × List Value). IsShortRow e.1) es) c.in-Some.ensures.steps c.loop-key.invariant.short).1;
      all =
          cell_more c.loop-key.invariant.stored cell c.loop-key.key-iterator c.next.new.self (c.in-Some.key.now, c.in-Some.row.now)
          (commits_cell ∷ map row_cell (finmap.entries c.args.rows.now)) c.in-Some.ensures.steps
          (same_cell c.in_ok-key.key c.in_ok-value.value (row_cell (c.in-Some.key.now, c.in-Some.row.now)) c.in_ok-key.ensures c.in_ok-value.ensures)
          c.loop-key.invariant.all;
    }

pub opening_cell-requires : goal.opening_cell-requires
opening_cell-requires c =
    (subst (λ (es : List (List ℕ × List Value)). AllByRecursion (λ (e : List ℕ × List Value). IsShortRow e.1) es) c.in-Some.ensures.steps c.loop-key.invariant.short).0

pub store-requires-clause-room : goal.store-requires-clause-room
store-requires-clause-room c =
    room_next c.args.layout.shards c.loop-key.invariant.stored c.loop-key.shards.items c.loop-key.key-iterator c.next.new.self (c.in-Some.key.now, c.in-Some.row.now)
    c.args.rows.now c.in_ok-key.key c.loop-key.invariant.are_stored c.in-Some.ensures.steps c.loop-key.invariant.all c.requires.records c.requires.few c.in_ok-key.ensures
