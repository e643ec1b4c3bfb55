-- Places that have opened are where no events have brought them, and places serve where events have brought them.
use Rattle.std.proofs.Common.{◌≡◌, ℕ, ◌<◌, List, [], map, ap, sym, subst, ◌∙◌, append-nil, ◌∷◌}
use Rattle.std.specs.FinMap as finmap
use Rattle.std.specs.List.{AllByRecursion}
use Rattle.tl_lemmas.proofs.Lists.{some_at}
use Rattle.tl_base.specs.declared.place.Settings.{Settings}
use Rattle.tl_cells.specs.Serves.{Call}
use Rattle.tl_versions.specs.Cell as cells
use Rattle.tl_write.specs.declared.write.Write.{Write}
use Rattle.tl_write.specs.Tables.{Tables}
use Rattle.tl_isolation.specs.Tables.{opening_writes}
use Rattle.tl_isolation.specs.declared.script.Script.{Script}
use Rattle.tl_isolation.specs.Script.{setup_of}
use Rattle.tl_journal.specs.Journal.{AreServed, IsCall, opening_calls, opening_cells}
use Rattle.tl_journal.specs.declared.event.Event.{Event}
use Rattle.tl_places.specs.Opening.{AreNew, HaveStored, Stored, commits_cell, row_cell, row_writes}
use Rattle.tl_places.specs.Places.{AreAt, PlacesState, ShardHasServed}
use Rattle.tl_places.proofs.Written.{cells_of_writes}

pub cells_of_rows : (script : Script) (settings : Settings) (rows : Tables) → row_writes rows ≡ opening_writes script.catalog script.rows
    → commits_cell ∷ map row_cell (finmap.entries rows) ≡ opening_cells (setup_of script settings)
cells_of_rows script settings rows e =
    ap (λ (cs : List Stored). commits_cell ∷ cs)
    (cells_of_writes (finmap.entries rows) ∙ ap (λ (ws : List Write). map (λ (w : Write). (w.key, cells.spelling (record { tid = 0; row = w.row } ∷ []))) ws) e)

pub have_opened : (script : Script) (settings : Settings) (p : PlacesState) → HaveStored settings.shards (opening_cells (setup_of script settings)) p.shards
    → AreNew settings.managers p.managers → AreAt script settings [] p
have_opened script settings p h n = record {
  shard_count = h.shard_count;
  each_shard = λ s state e.
      subst (λ (log : List Call). ShardHasServed log state) (sym (append-nil (opening_calls settings (setup_of script settings) s))) (h.each s state e);
  manager_count = n.manager_count;
  each_manager = n.each;
}

pub are_served : (script : Script) (settings : Settings) (events : List Event) (p : PlacesState) → AreAt script settings events p
    → AllByRecursion (λ (e : Event). IsCall e.place e.request e.reply) events → AreServed script settings events
are_served script settings events p h calls = record {
  calls = calls;
  shards = λ s l. let there = some_at p.shards s (subst (λ (n : ℕ). s < n) (sym h.shard_count) l) in (h.each_shard s there.0 there.1).served;
  managers = λ m l. let there = some_at p.managers m (subst (λ (n : ℕ). m < n) (sym h.manager_count) l) in (h.each_manager m there.0 there.1).served;
}
