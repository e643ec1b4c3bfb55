-- The journal of a recovery: its places serve it, and it stands in the order of the schedule.
use Rattle.std.proofs.Common.{◌≡◌, ◌<◌, ℕ, zero, suc, false, inl, inr, List, [], ◌∷◌, refl, sym, ap, ◌∙◌, arith}
use Rattle.std.specs.Prelude.{◌&&◌, filter, length, map, take}
use Rattle.std.specs.FinMap as finmap
use Rattle.std.specs.List.{AllByRecursion}
use Rattle.std.specs.Cmp.Lexicographic.{nat_list_cmp_total, slice_cmp}
use Rattle.std.specs.Ordering.{is_le, is_lt, nat_cmp}
use Rattle.std.proofs.lemmas.Bool.{ltb-true}
use Rattle.tl_lemmas.proofs.Lists.{no_length}
use Rattle.tl_base.specs.Along.{Along}
use Rattle.tl_base.specs.declared.store.StoreReply.{StoreReply}
use Rattle.tl_cells.specs.declared.cell.Cell.{Cell}
use Rattle.tl_cells.specs.Cells.{cells_within, item_of, page_of}
use Rattle.tl_cells.specs.Serves.{ServesAll as ShardServes, stores}
use Rattle.tl_manager.specs.Serves.{ServesAll as ManagerServes}
use Rattle.tl_isolation.specs.declared.entry.Ending.TheVariants as ending
use Rattle.tl_isolation.specs.Script.{setup_of}
use Rattle.tl_journal.specs.declared.event.Event.{Event}
use Rattle.tl_journal.specs.Journal.{IsCall, IsEvent, manager_log, shard_log}
use Rattle.tl_journal.specs.Run.{EndsAt, IsJournal}
use Rattle.tl_journal.specs.Schedule.{InTurn, is_refusal}
use Rattle.tl_journal.proofs.Examples.{by_default}
use Rattle.tl_journal.proofs.InOrder.{IsNext, IsWhole, along_second, in_turn_whole}
use Rattle.tl_journal.proofs.Recovered.{accepts_recovery, accepts_whole, events_recovery, script_recovery}

-- ---- what a page has

-- the cells of a list of stores, in the order of keys
abbrev in_order : List (List ℕ × Cell) → List (List ℕ × Cell)
in_order [] = []
in_order (e ∷ es) = finmap.put (slice_cmp nat_cmp) e.0 e.1 (in_order es)

entries_in_order : (es : List (List ℕ × Cell)) → finmap.entries (finmap.from_entries {R = slice_cmp nat_cmp} es) ≡ in_order es
entries_in_order [] = no_length _ (sym (finmap.len-entries (finmap.empty {X = Cell} {R = slice_cmp nat_cmp})) ∙ finmap.len-empty (slice_cmp nat_cmp) Cell)
entries_in_order (e ∷ es) =
    finmap.entries-insert nat_list_cmp_total (finmap.from_entries es) e.0 e.1 ∙ ap (finmap.put (slice_cmp nat_cmp) e.0 e.1) (entries_in_order es)

-- the stores at a shard in the first events
abbrev stores_at : ℕ → ℕ → List (List ℕ × Cell)
stores_at s k = stores (shard_log by_default (setup_of script_recovery by_default) s (take k events_recovery))

abbrev page_by : List (List ℕ × Cell) → StoreReply
page_by es =
    page_of 64
    (map item_of (filter (λ (e : List ℕ × Cell). is_le (slice_cmp nat_cmp (4 ∷ 0 ∷ 1 ∷ []) e.0) && is_lt (slice_cmp nat_cmp e.0 (4 ∷ 0 ∷ 4 ∷ []))) es))

page_serves : (s k : ℕ) → page_by (in_order (stores_at s k)) ≡ page_of 64 (cells_within (4 ∷ 0 ∷ 1 ∷ []) (4 ∷ 0 ∷ 4 ∷ []) (finmap.from_entries (stores_at s k)))
page_serves s k = sym (ap page_by (entries_in_order (stores_at s k)))

calls_so : AllByRecursion (λ (e : Event). IsCall e.place e.request e.reply) events_recovery
calls_so =
    (tt, (tt, (tt, (tt, (tt, (tt, (tt, (tt, (tt, (tt, (tt, (tt, (tt, (tt, (tt, (tt, (tt, (tt, (tt, (tt, (tt, (tt, (tt, (tt, (tt, (tt, (tt, (tt, (tt, (tt, (tt, (tt, (tt, (tt, (tt, (tt, (tt, (tt, (tt, (tt, (tt, (tt, (tt, (tt, (tt, tt)))))))))))))))))))))))))))))))))))))))))))))

shards_serve : (s : ℕ) → s < 4 → ShardServes 0 (shard_log by_default (setup_of script_recovery by_default) s events_recovery)
shards_serve zero low =
    (page_serves 0 5, (page_serves 0 17, (page_serves 0 38, tt)))
shards_serve (suc zero) low =
    (refl, (refl, (refl, (page_serves 1 6, (refl, (refl, (refl, (refl, (page_serves 1 18, (refl, (refl, (refl, (refl, (refl, (refl, (refl, (refl, (refl, (page_serves 1 39, (refl, (refl, tt)))))))))))))))))))))
shards_serve (suc (suc zero)) low =
    (refl, (refl, (page_serves 2 7, (refl, (refl, (page_serves 2 19, (refl, (refl, (page_serves 2 40, tt)))))))))
shards_serve (suc (suc (suc zero))) low =
    (refl, (page_serves 3 8, (page_serves 3 20, (refl, (page_serves 3 41, tt)))))
shards_serve (suc (suc (suc (suc s)))) low = absurd (omega arith)

managers_serve : (m : ℕ) → m < 1 → ManagerServes (manager_log m events_recovery)
managers_serve zero low =
    (refl, (refl, (refl, (refl, (refl, (refl, (refl, (refl, (refl, (refl, (refl, tt)))))))))))
managers_serve (suc m) low = absurd (omega arith)

ends_so : Along (EndsAt script_recovery by_default) [] events_recovery
ends_so =
    (inr (refl, (refl, ltb-true 0 20000 refl)), (inr (refl, (refl, ltb-true 1 20000 refl)), (inr (refl, (refl, ltb-true 2 20000 refl)), (inr (refl, (refl, ltb-true 3 20000 refl)), (inr (refl, (refl, ltb-true 4 20000 refl)), (inr (refl, (refl, ltb-true 5 20000 refl)), (inr (refl, (refl, ltb-true 6 20000 refl)), (inr (refl, (refl, ltb-true 7 20000 refl)), (inr (refl, (refl, ltb-true 8 20000 refl)), (inr (refl, (refl, ltb-true 9 20000 refl)), (inr (refl, (refl, ltb-true 10 20000 refl)), (inr (refl, (refl, ltb-true 11 20000 refl)), (inr (refl, (refl, ltb-true 12 20000 refl)), (inr (refl, (refl, ltb-true 13 20000 refl)), (inl (refl, (ending.Vanished, refl, refl)), (inr (refl, (refl, ltb-true 0 20000 refl)), (inr (refl, (refl, ltb-true 1 20000 refl)), (inr (refl, (refl, ltb-true 2 20000 refl)), (inr (refl, (refl, ltb-true 3 20000 refl)), (inr (refl, (refl, ltb-true 4 20000 refl)), (inr (refl, (refl, ltb-true 5 20000 refl)), (inr (refl, (refl, ltb-true 6 20000 refl)), (inr (refl, (refl, ltb-true 7 20000 refl)), (inr (refl, (refl, ltb-true 8 20000 refl)), (inr (refl, (refl, ltb-true 9 20000 refl)), (inr (refl, (refl, ltb-true 10 20000 refl)), (inr (refl, (refl, ltb-true 11 20000 refl)), (inr (refl, (refl, ltb-true 12 20000 refl)), (inr (refl, (refl, ltb-true 13 20000 refl)), (inr (refl, (refl, ltb-true 14 20000 refl)), (inr (refl, (refl, ltb-true 15 20000 refl)), (inr (refl, (refl, ltb-true 16 20000 refl)), (inr (refl, (refl, ltb-true 17 20000 refl)), (inr (refl, (refl, ltb-true 18 20000 refl)), (inr (refl, (refl, ltb-true 19 20000 refl)), (inr (refl, (refl, ltb-true 20 20000 refl)), (inr (refl, (refl, ltb-true 21 20000 refl)), (inr (refl, (refl, ltb-true 22 20000 refl)), (inr (refl, (refl, ltb-true 23 20000 refl)), (inr (refl, (refl, ltb-true 24 20000 refl)), (inr (refl, (refl, ltb-true 25 20000 refl)), (inr (refl, (refl, ltb-true 26 20000 refl)), (inr (refl, (refl, ltb-true 27 20000 refl)), (inr (refl, (refl, ltb-true 28 20000 refl)), (inr (refl, (refl, ltb-true 29 20000 refl)), tt)))))))))))))))))))))))))))))))))))))))))))))

answered_so : Along (λ (past : List Event) (e : Event). is_refusal e.reply ≡ false) [] events_recovery
answered_so =
    (refl, (refl, (refl, (refl, (refl, (refl, (refl, (refl, (refl, (refl, (refl, (refl, (refl, (refl, (refl, (refl, (refl, (refl, (refl, (refl, (refl, (refl, (refl, (refl, (refl, (refl, (refl, (refl, (refl, (refl, (refl, (refl, (refl, (refl, (refl, (refl, (refl, (refl, (refl, (refl, (refl, (refl, (refl, (refl, (refl, tt)))))))))))))))))))))))))))))))))))))))))))))

next_so : Along (IsNext script_recovery by_default) [] events_recovery
next_so =
    (inr (tt, refl), (inr ((refl, refl, refl), refl), (inr ((refl, refl, refl), refl), (inr ((refl, refl, refl), refl), (inr ((refl, refl, refl), refl), (inr ((refl, refl, refl), refl), (inr ((refl, refl, refl), refl), (inr ((refl, refl, refl), refl), (inr ((refl, refl, refl), refl), (inr ((refl, refl, refl), refl), (inr ((refl, refl, refl), refl), (inr ((refl, refl, refl), refl), (inr ((refl, refl, refl), refl), (inr ((refl, refl, refl), refl), (inl (refl, refl), (inl (inr refl), (inr ((refl, refl, refl), refl), (inr ((refl, refl, refl), refl), (inr ((refl, refl, refl), refl), (inr ((refl, refl, refl), refl), (inr ((refl, refl, refl), refl), (inr ((refl, refl, refl), refl), (inr ((refl, refl, refl), refl), (inr ((refl, refl, refl), refl), (inr ((refl, refl, refl), refl), (inr ((refl, refl, refl), refl), (inr ((refl, refl, refl), refl), (inr ((refl, refl, refl), refl), (inr ((refl, refl, refl), refl), (inr ((refl, refl, refl), refl), (inr ((refl, refl, refl), refl), (inr ((refl, refl, refl), refl), (inr ((refl, refl, refl), refl), (inr ((refl, refl, refl), refl), (inr ((refl, refl, refl), refl), (inr ((refl, refl, refl), refl), (inr ((refl, refl, refl), refl), (inr ((refl, refl, refl), refl), (inr ((refl, refl, refl), refl), (inr ((refl, refl, refl), refl), (inr ((refl, refl, refl), refl), (inr ((refl, refl, refl), refl), (inr ((refl, refl, refl), refl), (inr ((refl, refl, refl), refl), (inr ((refl, refl, refl), refl), tt)))))))))))))))))))))))))))))))))))))))))))))

in_turn_so : Along (InTurn script_recovery by_default) [] events_recovery
in_turn_so = in_turn_whole script_recovery by_default events_recovery (along_second (IsEvent script_recovery by_default) (IsWhole script_recovery by_default) [] events_recovery accepts_whole) next_so

pub journal_recovery : IsJournal script_recovery by_default events_recovery
journal_recovery =
    record {
      trace = record { served = record { calls = calls_so; shards = shards_serve; managers = managers_serve }; events_are = accepts_recovery };
      ends = ends_so;
      answered = answered_so;
      in_turn = λ e. in_turn_so;
    }
