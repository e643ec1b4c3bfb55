-- The journal of a recovery, as bytes: node 1 vanishes in its commit, and node 2 recovers it. Its events are those of its
-- script.
use Rattle.std.proofs.Common.{◌≡◌, ◌<◌, ℕ, zero, suc, ◌+◌, ◌^◌, Bool, true, false, List, [], ◌∷◌, ◌++◌, Some, None, refl, sym, ap, ◌∙◌, subst, arith}
use Rattle.std.specs.Prelude.{◌==◌, map, slice_index_or, if◌then◌else◌}
use Rattle.std.specs.Ordering.{is_lt}
use Rattle.std.proofs.lemmas.Bool.{eqb-true, ltb-true}
use Rattle.std.proofs.lemmas.List.Elements.{All-from_recursion}
use Rattle.std.proofs.lemmas.List.Sorted.{IsPermutation-refl}
use Rattle.std.proofs.lemmas.Option.{same_Some}
use Rattle.tl_base.specs.Along.{Along}
use Rattle.tl_base.specs.NodeSet.{no_nodes}
use Rattle.tl_base.specs.declared.store.Item.{Item}
use Rattle.tl_base.specs.declared.store.StoreReply.TheVariants as answered
use Rattle.tl_descriptor.specs.Reading.{FitsSet}
use Rattle.tl_descriptor.specs.Reading as sets
use Rattle.tl_descriptor.proofs.SetReading.{set_again}
use Rattle.tl_logrec.specs.declared.entry.Flag.{Flag}
use Rattle.tl_logrec.specs.declared.entry.Flag.TheVariants as flag
use Rattle.tl_logrec.specs.declared.entry.LogEntry.{LogEntry}
use Rattle.tl_logrec.specs.Entry.{FitsEntry}
use Rattle.tl_logrec.specs.Keys.{IsKey}
use Rattle.tl_logrec.specs.Entry as logs
use Rattle.tl_logrec.proofs.EntryReading.{entry_again}
use Rattle.tl_manager.specs.declared.request.ManagerReply.TheVariants as told
use Rattle.tl_manager.specs.declared.request.ManagerRequest.TheVariants as manager
use Rattle.tl_manager.specs.declared.request.Reply.TheVariants as reply
use Rattle.tl_versions.specs.declared.version.Version.{Version}
use Rattle.tl_versions.specs.Cell.{FitsCell, FitsVersion}
use Rattle.tl_versions.specs.Cell as cells
use Rattle.tl_versions.proofs.CellReading.{cell_again}
use Rattle.tl_algebra.specs.declared.line.Line.{Line}
use Rattle.tl_algebra.specs.Select.{lines_of, selected}
use Rattle.tl_algebra.specs.Sorting.{line_cmp}
use Rattle.tl_isolation.specs.declared.bound.Bound.TheVariants as bound
use Rattle.tl_isolation.specs.declared.entry.Answer.TheVariants as answer
use Rattle.tl_isolation.specs.declared.entry.Ending.TheVariants as ending
use Rattle.tl_isolation.specs.declared.entry.Entry.{Entry}
use Rattle.tl_isolation.specs.declared.entry.Entry.TheVariants as entry
use Rattle.tl_isolation.specs.declared.script.Script.{Script}
use Rattle.tl_isolation.specs.declared.script.Session.{Session}
use Rattle.tl_isolation.specs.declared.script.TurnItem.TheVariants.{Until}
use Rattle.tl_isolation.specs.declared.script.VanishKind.TheVariants as counted
use Rattle.tl_isolation.specs.Meaning.{QueryAnswers, told_of}
use Rattle.tl_protocol.specs.Store.{Key}
use Rattle.tl_protocol.specs.Told.{says}
use Rattle.tl_protocol.proofs.Account.{account, all_query, all_so, bank, opening_rows, with_balance}
use Rattle.tl_protocol.proofs.Meanings.{Row}
use Rattle.tl_journal.specs.declared.event.Event.{Event}
use Rattle.tl_journal.specs.Ask.{LoadCommits, StoreCommits, LoadLog, LoadRecord, StoreRecord, StoreLog, ReadPage, DrawNumbers, AskManager, Commits, Log, Numbers, Page}
use Rattle.tl_journal.specs.Bytes.{commits_in, entry_in, found_before, heard, page_in, record_in}
use Rattle.tl_journal.specs.Node.{Node, opening_node}
use Rattle.tl_journal.specs.Takes.{tables_seen}
use Rattle.tl_journal.specs.Journal.{IsEvent}
use Rattle.tl_journal.proofs.InOrder.{IsWhole, along_first}
use Rattle.tl_journal.proofs.Accepted.{Turn, hears_commits, loads_commits, managed, stored_at}
use Rattle.tl_journal.proofs.Examples.{all_hundred, all_keys, by_default, cell_is, change_by, found_at, hundreds, key, opening_version, records_so, result_so, second_alone, select_all, session_recoverer, session_writer, set_zero, start_recoverer, start_writer, upto, version, waits, writer_changes, writer_with, written_twice, zero_writes}
use Rattle.tl_journal.proofs.Together.{Move, Vanishes, MovesOk, Stand, cell_reply, fits_row, move, moved, together}

-- ---- what the bytes say

fits_version : (tid id balance : ℕ) → tid < 2 ^ 64 → id < 2 ^ 63 → balance < 2 ^ 63 → FitsVersion (version tid id balance)
fits_version tid id balance f g h = record { tid = f; change = record { fits = fits_row id balance g h; short = ltb-true 19 (2 ^ 16) refl } }

fits_opening : (id : ℕ) → id < 2 ^ 63 → FitsCell (opening_version id ∷ [])
fits_opening id g =
    record {
      cell = record { distinct = refl; fit = All-from_recursion FitsVersion (opening_version id ∷ []) (fits_version 0 id 100 (omega arith) g (omega arith), tt) };
      count = omega arith;
    }

fits_twice : (id : ℕ) → id < 2 ^ 63 → FitsCell (written_twice id)
fits_twice id g =
    record {
      cell = record {
        distinct = refl;
        fit = All-from_recursion FitsVersion (written_twice id)
            (fits_version 1 id 0 (omega arith) g (omega arith), (fits_version 0 id 100 (omega arith) g (omega arith), tt));
      };
      count = omega arith;
    }

abbrev loads_record : ℕ → ℕ → List Version → Turn
loads_record id stamp versions = record { ask = LoadRecord (key id); reply = cell_reply stamp versions; hears = cell_is stamp versions; entries = [] }

hears_record : (id stamp : ℕ) (versions : List Version) → FitsCell versions → heard (LoadRecord (key id)) (cell_reply stamp versions) ≡ cell_is stamp versions
hears_record id stamp versions fits = ap (record_in stamp) (cell_again versions fits)

abbrev item_at : ℕ → ℕ → List Version → Item
item_at id stamp versions = record { key = key id; stamp = stamp; value = cells.spelling versions }

-- the Page of a shard with one record or none
abbrev empty_page : Turn
empty_page =
    record { ask = ReadPage 0 (4 ∷ 0 ∷ 1 ∷ []) (4 ∷ 0 ∷ 4 ∷ []); reply = reply.Store (answered.Items [] false); hears = Page [] false; entries = [] }

abbrev page_of_one : ℕ → ℕ → List Version → List Entry → Turn
page_of_one id stamp versions entries =
    record {
      ask = ReadPage id (4 ∷ 0 ∷ 1 ∷ []) (4 ∷ 0 ∷ 4 ∷ []);
      reply = reply.Store (answered.Items (item_at id stamp versions ∷ []) false);
      hears = Page (found_at id versions) false;
      entries = entries;
    }

hears_page : (id stamp : ℕ) (versions : List Version) → FitsCell versions
    → heard (ReadPage id (4 ∷ 0 ∷ 1 ∷ []) (4 ∷ 0 ∷ 4 ∷ [])) (reply.Store (answered.Items (item_at id stamp versions ∷ []) false)) ≡ Page (found_at id versions) false
hears_page id stamp versions fits = λ i. page_in (found_before (key id) (cell_again versions fits i) (Some [])) false

fits_alone : FitsSet second_alone
fits_alone = record { canonical = record { base_fits = omega arith; apart = refl }; count = omega arith }

abbrev lost_entry : Flag → LogEntry
lost_entry f = record { tid = 1; node = 1; flag = f; writes = all_keys }

fits_lost : FitsEntry (lost_entry flag.Trying)
fits_lost =
    record {
      tid = omega arith;
      least = omega arith;
      greatest = omega arith;
      writes = record { count = omega arith; short = All-from_recursion IsKey all_keys (omega arith, (omega arith, (omega arith, tt))); rising = refl };
    }

abbrev loads_log : Turn
loads_log =
    record {
      ask = LoadLog 1;
      reply = reply.Store (answered.Cell 3 (logs.spelling (lost_entry flag.Trying)));
      hears = Log (Some (record { stamp = 3; entry = lost_entry flag.Trying }));
      entries = [];
    }

hears_log : heard loads_log.ask loads_log.reply ≡ loads_log.hears
hears_log = ap (entry_in 3) (entry_again (lost_entry flag.Trying) fits_lost)

-- ---- what SELECT * prints of the three rows

abbrev line_of_row : Row → Line
line_of_row row = record { keys = []; printed = row }

abbrev three_lines : List Line
three_lines = line_of_row (with_balance 1 100) ∷ line_of_row (with_balance 2 100) ∷ line_of_row (with_balance 3 100) ∷ []

seen_so : tables_seen bank (0 ∷ []) [] (all_hundred ∷ []) ≡ all_hundred ∷ []
seen_so = ap (λ (es : List (Key × Row)). map (λ (e : Key × Row). e.1) es ∷ []) (records_so 0 account all_hundred)

sorted_at : (k : ℕ) (d : Line) → k + 1 < 3 → is_lt (line_cmp [] (slice_index_or three_lines (k + 1) d) (slice_index_or three_lines k d)) ≡ false
sorted_at zero d below = refl
sorted_at (suc zero) d below = refl
sorted_at (suc (suc k)) d below = absurd (omega arith)

select_means : QueryAnswers all_query (tables_seen bank (0 ∷ []) [] (all_hundred ∷ [])) hundreds
select_means = (
  three_lines,
  ap (λ (ts : List (List Row)). lines_of all_query (selected all_query ts)) seen_so ∙ all_so (all_hundred ∷ []),
  record { ranked = three_lines; permutation = IsPermutation-refl three_lines; sorted = λ k d low below. sorted_at k d below; shown = refl },
)

-- ---- the script

abbrev pub script_recovery : Script
script_recovery =
    record {
      catalog = bank;
      rows = opening_rows all_hundred;
      sessions = session_writer ∷ session_recoverer ∷ [];
      turns = Until 1 1 ∷ [];
      vanishes = record { node = 1; count = 2; kind = counted.RecordStore } ∷ [];
    }

abbrev moves_writer : List Move
moves_writer =
    move 1 (loads_commits 1 0 (entry.Asked 1 ∷ [])) ∷ move 1 (managed (AskManager 0 (manager.Begin 1 (upto 0))) told.NeedRange [])
    ∷ move 1 (record { ask = DrawNumbers; reply = reply.Store (answered.Count 0); hears = Numbers 0; entries = [] })
    ∷ move 1 (managed (AskManager 0 (manager.Range 1 16)) told.Ranged [])
    ∷ move 1 (managed (AskManager 0 (manager.Begin 1 (upto 0))) (told.Began 1 (upto 0) (upto 0)) (entry.Began 1 1 1 ∷ []))
    ∷ move 1 empty_page ∷ move 1 (page_of_one 1 2 (opening_version 1 ∷ []) []) ∷ move 1 (page_of_one 2 1 (opening_version 2 ∷ []) [])
    ∷ move 1 (page_of_one 3 1 (opening_version 3 ∷ []) (waits 1 1 (change_by set_zero) (answer.Changed 3) ∷ []))
    ∷ move 1 (stored_at (StoreLog 0 (lost_entry flag.Trying)) 3 (entry.Tried 1 ∷ [])) ∷ move 1 (loads_record 1 2 (opening_version 1 ∷ []))
    ∷ move 1 (stored_at (StoreRecord (key 1) 2 (written_twice 1)) 4 []) ∷ move 1 (loads_record 2 1 (opening_version 2 ∷ []))
    ∷ move 1 (stored_at (StoreRecord (key 2) 1 (written_twice 2)) 2 []) ∷ Vanishes 1 no_nodes ending.Vanished ∷ []

abbrev moves_before : List Move
moves_before =
    move 2 (loads_commits 1 0 (entry.Asked 2 ∷ []))
    ∷ move 2 (managed (AskManager 0 (manager.Begin 2 (upto 0))) (told.Began 2 (upto 0) (upto 0)) (entry.Began 2 2 1 ∷ []))
    ∷ move 2 empty_page ∷ move 2 (page_of_one 1 4 (written_twice 1) []) ∷ move 2 (page_of_one 2 2 (written_twice 2) [])
    ∷ move 2 (page_of_one 3 1 (opening_version 3 ∷ []) (waits 2 1 select_all hundreds ∷ []))
    ∷ move 2 (loads_commits 1 0 (entry.Tried 2 ∷ [])) ∷ move 2 (stored_at (StoreCommits 1 second_alone) 5 (entry.Committed 2 ∷ []))
    ∷ move 2 (managed (AskManager 0 (manager.End 2)) told.Ended (entry.Answered 2 1 hundreds ∷ [])) ∷ []

abbrev moves_recovering : List Move
moves_recovering =
    move 2 (managed (AskManager 0 (manager.Claim 1)) (told.Given no_nodes) []) ∷ move 2 (managed (AskManager 0 (manager.Orphans 1)) (told.Orphaned (1 ∷ [])) [])
    ∷ move 2 loads_log ∷ move 2 (loads_record 1 4 (written_twice 1)) ∷ move 2 (stored_at (StoreRecord (key 1) 4 (opening_version 1 ∷ [])) 6 [])
    ∷ move 2 (loads_record 2 2 (written_twice 2)) ∷ move 2 (stored_at (StoreRecord (key 2) 2 (opening_version 2 ∷ [])) 3 [])
    ∷ move 2 (loads_record 3 1 (opening_version 3 ∷ [])) ∷ move 2 (stored_at (StoreLog 3 (lost_entry flag.Undone)) 7 [])
    ∷ move 2 (record { ask = LoadCommits; reply = reply.Store (answered.Cell 5 (sets.spelling second_alone)); hears = Commits (record { stamp = 5; finished = second_alone }); entries = [] })
    ∷ move 2 (stored_at (StoreCommits 5 (upto 2)) 8 (entry.Undone 1 ∷ []))
    ∷ move 2 (managed (AskManager 0 (manager.End 1)) told.Ended (says 2 2 (bound.Recover 1) (answer.Recovered 1) ∷ [])) ∷ []

abbrev moves_behind : List Move
moves_behind =
    move 2 (loads_commits 8 2 (entry.Asked 2 ∷ []))
    ∷ move 2 (managed (AskManager 0 (manager.Begin 2 (upto 2))) (told.Began 3 (upto 2) (upto 2)) (entry.Began 2 3 2 ∷ []))
    ∷ move 2 empty_page ∷ move 2 (page_of_one 1 6 (opening_version 1 ∷ []) []) ∷ move 2 (page_of_one 2 3 (opening_version 2 ∷ []) [])
    ∷ move 2 (page_of_one 3 1 (opening_version 3 ∷ []) (waits 2 3 select_all hundreds ∷ []))
    ∷ move 2 (loads_commits 8 2 (entry.Tried 3 ∷ [])) ∷ move 2 (stored_at (StoreCommits 8 (upto 3)) 9 (entry.Committed 3 ∷ []))
    ∷ move 2 (managed (AskManager 0 (manager.End 3)) told.Ended (entry.Answered 2 3 hundreds ∷ [])) ∷ []

abbrev pub moves_recovery : List Move
moves_recovery = moves_writer ++ (moves_before ++ (moves_recovering ++ moves_behind))

abbrev pub events_recovery : List Event
events_recovery = map (moved by_default script_recovery) moves_recovery

abbrev starts : ℕ → Node
starts n = if n == 1 then start_writer else start_recoverer

moves_ok : MovesOk by_default script_recovery [] starts (λ n. false) moves_recovery
moves_ok = (
  (session_writer, refl, refl, record { asks_so = refl; hears_so = hears_commits 1 0 (omega arith); own = refl; means = tt; tells = refl }),
  (
    _,
    refl,
    refl,
    refl,
    (
      (session_writer, refl, refl, record { asks_so = refl; hears_so = refl; own = refl; means = tt; tells = refl }),
      (
        _,
        refl,
        refl,
        refl,
        (
          (session_writer, refl, refl, record { asks_so = refl; hears_so = refl; own = refl; means = tt; tells = refl }),
          (
            _,
            refl,
            refl,
            refl,
            (
              (session_writer, refl, refl, record { asks_so = refl; hears_so = refl; own = refl; means = tt; tells = refl }),
              (
                _,
                refl,
                refl,
                refl,
                (
                  (session_writer, refl, refl, record { asks_so = refl; hears_so = refl; own = refl; means = tt; tells = refl }),
                  (
                    _,
                    refl,
                    refl,
                    refl,
                    (
                      (session_writer, refl, refl, record { asks_so = refl; hears_so = refl; own = refl; means = tt; tells = refl }),
                      (
                        _,
                        refl,
                        refl,
                        refl,
                        (
                          (session_writer, refl, refl, record { asks_so = refl; hears_so = hears_page 1 2 (opening_version 1 ∷ []) (fits_opening 1 (omega arith)); own = refl; means = tt; tells = refl }),
                          (
                            _,
                            refl,
                            refl,
                            refl,
                            (
                              (session_writer, refl, refl, record { asks_so = refl; hears_so = hears_page 2 1 (opening_version 2 ∷ []) (fits_opening 2 (omega arith)); own = refl; means = tt; tells = refl }),
                              (
                                _,
                                refl,
                                refl,
                                refl,
                                (
                                  (session_writer, refl, refl, record { asks_so = refl; hears_so = hears_page 3 1 (opening_version 3 ∷ []) (fits_opening 3 (omega arith)); own = refl; means = ap told_of (result_so set_zero all_hundred); tells = refl }),
                                  (
                                    writer_with zero_writes,
                                    writer_changes,
                                    refl,
                                    refl,
                                    (
                                      (session_writer, refl, refl, record { asks_so = refl; hears_so = refl; own = refl; means = tt; tells = refl }),
                                      (
                                        _,
                                        refl,
                                        refl,
                                        refl,
                                        (
                                          (session_writer, refl, refl, record { asks_so = refl; hears_so = hears_record 1 2 (opening_version 1 ∷ []) (fits_opening 1 (omega arith)); own = refl; means = tt; tells = refl }),
                                          (
                                            _,
                                            refl,
                                            refl,
                                            refl,
                                            (
                                              (session_writer, refl, refl, record { asks_so = refl; hears_so = refl; own = refl; means = tt; tells = refl }),
                                              (
                                                _,
                                                refl,
                                                refl,
                                                refl,
                                                (
                                                  (session_writer, refl, refl, record { asks_so = refl; hears_so = hears_record 2 1 (opening_version 2 ∷ []) (fits_opening 2 (omega arith)); own = refl; means = tt; tells = refl }),
                                                  (
                                                    _,
                                                    refl,
                                                    refl,
                                                    refl,
                                                    (
                                                      (session_writer, refl, refl, record { asks_so = refl; hears_so = refl; own = refl; means = tt; tells = refl }),
                                                      (
                                                        _,
                                                        refl,
                                                        refl,
                                                        refl,
                                                        (
                                                          (session_writer, refl, refl, refl),
                                                          (
                                                            (session_recoverer, refl, refl, record { asks_so = refl; hears_so = hears_commits 1 0 (omega arith); own = refl; means = tt; tells = refl }),
                                                            (
                                                              _,
                                                              refl,
                                                              refl,
                                                              refl,
                                                              (
                                                                (session_recoverer, refl, refl, record { asks_so = refl; hears_so = refl; own = refl; means = tt; tells = refl }),
                                                                (
                                                                  _,
                                                                  refl,
                                                                  refl,
                                                                  refl,
                                                                  (
                                                                    (session_recoverer, refl, refl, record { asks_so = refl; hears_so = refl; own = refl; means = tt; tells = refl }),
                                                                    (
                                                                      _,
                                                                      refl,
                                                                      refl,
                                                                      refl,
                                                                      (
                                                                        (session_recoverer, refl, refl, record { asks_so = refl; hears_so = hears_page 1 4 (written_twice 1) (fits_twice 1 (omega arith)); own = refl; means = tt; tells = refl }),
                                                                        (
                                                                          _,
                                                                          refl,
                                                                          refl,
                                                                          refl,
                                                                          (
                                                                            (session_recoverer, refl, refl, record { asks_so = refl; hears_so = hears_page 2 2 (written_twice 2) (fits_twice 2 (omega arith)); own = refl; means = tt; tells = refl }),
                                                                            (
                                                                              _,
                                                                              refl,
                                                                              refl,
                                                                              refl,
                                                                              (
                                                                                (session_recoverer, refl, refl, record { asks_so = refl; hears_so = hears_page 3 1 (opening_version 3 ∷ []) (fits_opening 3 (omega arith)); own = refl; means = select_means; tells = refl }),
                                                                                (
                                                                                  _,
                                                                                  refl,
                                                                                  refl,
                                                                                  refl,
                                                                                  (
                                                                                    (session_recoverer, refl, refl, record { asks_so = refl; hears_so = hears_commits 1 0 (omega arith); own = refl; means = tt; tells = refl }),
                                                                                    (
                                                                                      _,
                                                                                      refl,
                                                                                      refl,
                                                                                      refl,
                                                                                      (
                                                                                        (session_recoverer, refl, refl, record { asks_so = refl; hears_so = refl; own = refl; means = tt; tells = refl }),
                                                                                        (
                                                                                          _,
                                                                                          refl,
                                                                                          refl,
                                                                                          refl,
                                                                                          (
                                                                                            (session_recoverer, refl, refl, record { asks_so = refl; hears_so = refl; own = refl; means = tt; tells = refl }),
                                                                                            (
                                                                                              _,
                                                                                              refl,
                                                                                              refl,
                                                                                              refl,
                                                                                              (
                                                                                                (session_recoverer, refl, refl, record { asks_so = refl; hears_so = refl; own = refl; means = tt; tells = refl }),
                                                                                                (
                                                                                                  _,
                                                                                                  refl,
                                                                                                  refl,
                                                                                                  refl,
                                                                                                  (
                                                                                                    (session_recoverer, refl, refl, record { asks_so = refl; hears_so = refl; own = refl; means = tt; tells = refl }),
                                                                                                    (
                                                                                                      _,
                                                                                                      refl,
                                                                                                      refl,
                                                                                                      refl,
                                                                                                      (
                                                                                                        (session_recoverer, refl, refl, record { asks_so = refl; hears_so = hears_log; own = refl; means = tt; tells = refl }),
                                                                                                        (
                                                                                                          _,
                                                                                                          refl,
                                                                                                          refl,
                                                                                                          refl,
                                                                                                          (
                                                                                                            (session_recoverer, refl, refl, record { asks_so = refl; hears_so = hears_record 1 4 (written_twice 1) (fits_twice 1 (omega arith)); own = refl; means = tt; tells = refl }),
                                                                                                            (
                                                                                                              _,
                                                                                                              refl,
                                                                                                              refl,
                                                                                                              refl,
                                                                                                              (
                                                                                                                (session_recoverer, refl, refl, record { asks_so = refl; hears_so = refl; own = refl; means = tt; tells = refl }),
                                                                                                                (
                                                                                                                  _,
                                                                                                                  refl,
                                                                                                                  refl,
                                                                                                                  refl,
                                                                                                                  (
                                                                                                                    (session_recoverer, refl, refl, record { asks_so = refl; hears_so = hears_record 2 2 (written_twice 2) (fits_twice 2 (omega arith)); own = refl; means = tt; tells = refl }),
                                                                                                                    (
                                                                                                                      _,
                                                                                                                      refl,
                                                                                                                      refl,
                                                                                                                      refl,
                                                                                                                      (
                                                                                                                        (session_recoverer, refl, refl, record { asks_so = refl; hears_so = refl; own = refl; means = tt; tells = refl }),
                                                                                                                        (
                                                                                                                          _,
                                                                                                                          refl,
                                                                                                                          refl,
                                                                                                                          refl,
                                                                                                                          (
                                                                                                                            (session_recoverer, refl, refl, record { asks_so = refl; hears_so = hears_record 3 1 (opening_version 3 ∷ []) (fits_opening 3 (omega arith)); own = refl; means = tt; tells = refl }),
                                                                                                                            (
                                                                                                                              _,
                                                                                                                              refl,
                                                                                                                              refl,
                                                                                                                              refl,
                                                                                                                              (
                                                                                                                                (session_recoverer, refl, refl, record { asks_so = refl; hears_so = refl; own = refl; means = tt; tells = refl }),
                                                                                                                                (
                                                                                                                                  _,
                                                                                                                                  refl,
                                                                                                                                  refl,
                                                                                                                                  refl,
                                                                                                                                  (
                                                                                                                                    (session_recoverer, refl, refl, record { asks_so = refl; hears_so = ap (commits_in 5) (set_again second_alone fits_alone); own = refl; means = tt; tells = refl }),
                                                                                                                                    (
                                                                                                                                      _,
                                                                                                                                      refl,
                                                                                                                                      refl,
                                                                                                                                      refl,
                                                                                                                                      (
                                                                                                                                        (session_recoverer, refl, refl, record { asks_so = refl; hears_so = refl; own = refl; means = tt; tells = refl }),
                                                                                                                                        (
                                                                                                                                          _,
                                                                                                                                          refl,
                                                                                                                                          refl,
                                                                                                                                          refl,
                                                                                                                                          (
                                                                                                                                            (session_recoverer, refl, refl, record { asks_so = refl; hears_so = refl; own = refl; means = tt; tells = refl }),
                                                                                                                                            (
                                                                                                                                              _,
                                                                                                                                              refl,
                                                                                                                                              refl,
                                                                                                                                              refl,
                                                                                                                                              (
                                                                                                                                                (session_recoverer, refl, refl, record { asks_so = refl; hears_so = hears_commits 8 2 (omega arith); own = refl; means = tt; tells = refl }),
                                                                                                                                                (
                                                                                                                                                  _,
                                                                                                                                                  refl,
                                                                                                                                                  refl,
                                                                                                                                                  refl,
                                                                                                                                                  (
                                                                                                                                                    (session_recoverer, refl, refl, record { asks_so = refl; hears_so = refl; own = refl; means = tt; tells = refl }),
                                                                                                                                                    (
                                                                                                                                                      _,
                                                                                                                                                      refl,
                                                                                                                                                      refl,
                                                                                                                                                      refl,
                                                                                                                                                      (
                                                                                                                                                        (session_recoverer, refl, refl, record { asks_so = refl; hears_so = refl; own = refl; means = tt; tells = refl }),
                                                                                                                                                        (
                                                                                                                                                          _,
                                                                                                                                                          refl,
                                                                                                                                                          refl,
                                                                                                                                                          refl,
                                                                                                                                                          (
                                                                                                                                                            (session_recoverer, refl, refl, record { asks_so = refl; hears_so = hears_page 1 6 (opening_version 1 ∷ []) (fits_opening 1 (omega arith)); own = refl; means = tt; tells = refl }),
                                                                                                                                                            (
                                                                                                                                                              _,
                                                                                                                                                              refl,
                                                                                                                                                              refl,
                                                                                                                                                              refl,
                                                                                                                                                              (
                                                                                                                                                                (session_recoverer, refl, refl, record { asks_so = refl; hears_so = hears_page 2 3 (opening_version 2 ∷ []) (fits_opening 2 (omega arith)); own = refl; means = tt; tells = refl }),
                                                                                                                                                                (
                                                                                                                                                                  _,
                                                                                                                                                                  refl,
                                                                                                                                                                  refl,
                                                                                                                                                                  refl,
                                                                                                                                                                  (
                                                                                                                                                                    (session_recoverer, refl, refl, record { asks_so = refl; hears_so = hears_page 3 1 (opening_version 3 ∷ []) (fits_opening 3 (omega arith)); own = refl; means = select_means; tells = refl }),
                                                                                                                                                                    (
                                                                                                                                                                      _,
                                                                                                                                                                      refl,
                                                                                                                                                                      refl,
                                                                                                                                                                      refl,
                                                                                                                                                                      (
                                                                                                                                                                        (session_recoverer, refl, refl, record { asks_so = refl; hears_so = hears_commits 8 2 (omega arith); own = refl; means = tt; tells = refl }),
                                                                                                                                                                        (
                                                                                                                                                                          _,
                                                                                                                                                                          refl,
                                                                                                                                                                          refl,
                                                                                                                                                                          refl,
                                                                                                                                                                          (
                                                                                                                                                                            (session_recoverer, refl, refl, record { asks_so = refl; hears_so = refl; own = refl; means = tt; tells = refl }),
                                                                                                                                                                            (
                                                                                                                                                                              _,
                                                                                                                                                                              refl,
                                                                                                                                                                              refl,
                                                                                                                                                                              refl,
                                                                                                                                                                              (
                                                                                                                                                                                (session_recoverer, refl, refl, record { asks_so = refl; hears_so = refl; own = refl; means = tt; tells = refl }),
                                                                                                                                                                                (
                                                                                                                                                                                  _,
                                                                                                                                                                                  refl,
                                                                                                                                                                                  refl,
                                                                                                                                                                                  refl,
                                                                                                                                                                                  tt,
                                                                                                                                                                                ),
                                                                                                                                                                              ),
                                                                                                                                                                            ),
                                                                                                                                                                          ),
                                                                                                                                                                        ),
                                                                                                                                                                      ),
                                                                                                                                                                    ),
                                                                                                                                                                  ),
                                                                                                                                                                ),
                                                                                                                                                              ),
                                                                                                                                                            ),
                                                                                                                                                          ),
                                                                                                                                                        ),
                                                                                                                                                      ),
                                                                                                                                                    ),
                                                                                                                                                  ),
                                                                                                                                                ),
                                                                                                                                              ),
                                                                                                                                            ),
                                                                                                                                          ),
                                                                                                                                        ),
                                                                                                                                      ),
                                                                                                                                    ),
                                                                                                                                  ),
                                                                                                                                ),
                                                                                                                              ),
                                                                                                                            ),
                                                                                                                          ),
                                                                                                                        ),
                                                                                                                      ),
                                                                                                                    ),
                                                                                                                  ),
                                                                                                                ),
                                                                                                              ),
                                                                                                            ),
                                                                                                          ),
                                                                                                        ),
                                                                                                      ),
                                                                                                    ),
                                                                                                  ),
                                                                                                ),
                                                                                              ),
                                                                                            ),
                                                                                          ),
                                                                                        ),
                                                                                      ),
                                                                                    ),
                                                                                  ),
                                                                                ),
                                                                              ),
                                                                            ),
                                                                          ),
                                                                        ),
                                                                      ),
                                                                    ),
                                                                  ),
                                                                ),
                                                              ),
                                                            ),
                                                          ),
                                                        ),
                                                      ),
                                                    ),
                                                  ),
                                                ),
                                              ),
                                            ),
                                          ),
                                        ),
                                      ),
                                    ),
                                  ),
                                ),
                              ),
                            ),
                          ),
                        ),
                      ),
                    ),
                  ),
                ),
              ),
            ),
          ),
        ),
      ),
    ),
  ),
)

start_stands : Stand by_default script_recovery [] starts (λ n. false)
start_stands =
    record {
      nodes = λ k s e. (one k (1 == k) (2 == k) refl refl s e).0;
      numbers = λ k s e. (one k (1 == k) (2 == k) refl refl s e).1;
      run = λ k. refl;
    }
  where
    one : (k : ℕ) (b c : Bool) → (1 == k) ≡ b → (2 == k) ≡ c → (s : Session)
        → (if b then Some session_writer else (if c then Some session_recoverer else None)) ≡ Some s
        → (opening_node by_default s ≡ starts k) × ((starts k).number ≡ k)
    one k true c f g s e = subst (λ (m : ℕ). (opening_node by_default s ≡ starts m) × ((starts m).number ≡ m)) (eqb-true 1 k f) (ap (opening_node by_default) (sym (same_Some _ _ e)), refl)
    one k false true f g s e = subst (λ (m : ℕ). (opening_node by_default s ≡ starts m) × ((starts m).number ≡ m)) (eqb-true 2 k g) (ap (opening_node by_default) (sym (same_Some _ _ e)), refl)
    one k false false f g s e = absurd cc

pub accepts_whole : Along (λ (past : List Event) (e : Event). IsEvent script_recovery by_default past e × IsWhole script_recovery by_default past e) [] events_recovery
accepts_whole = together by_default script_recovery [] starts (λ n. false) moves_recovery start_stands moves_ok

pub accepts_recovery : Along (IsEvent script_recovery by_default) [] events_recovery
accepts_recovery = along_first (IsEvent script_recovery by_default) (IsWhole script_recovery by_default) [] events_recovery accepts_whole
