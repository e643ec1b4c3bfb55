use Rattle.std.proofs.Common.{List, [], ◌∷◌, ◌++◌, sym, subst}
use Rattle.tl_cells.specs.Cells.{ShardState}
use Rattle.tl_journal.specs.Journal.{stores_from}
use Rattle.tl_places.specs.Opening.{Stored}
use Rattle.tl_places.specs.Places.{ShardHasServed}
use Rattle.tl_places.proofs.Stores.{stored_next}
use Rattle.tl_places.proofs.opening.store_at.Goals as goal

pub returns : goal.returns
returns c =
    λ (stored : List Stored) h.
    subst (λ (s : ShardState). ShardHasServed (stores_from 0 (stored ++ (c.args.key, c.args.value) ∷ [])) s) (sym c.in_ok-apply.ensures.changed)
    (stored_next c.args.shard.now c.args.key c.args.value c.requires.absent c.requires.stamps stored h)
