-- The journal of a conflict, as bytes: two nodes by turns, of which the second loses the record.
use Rattle.std.proofs.Common.{inl, ◌≡◌, ◌<◌, ℕ, zero, suc, ◌^◌, Bool, true, false, inr, List, [], ◌∷◌, ◌++◌, Some, None, refl, sym, ap, ◌∙◌, subst, arith}
use Rattle.std.specs.Prelude.{◌==◌, ◌&&◌, ◌||◌, not, map, if◌then◌else◌}
use Rattle.std.specs.List.{AllByRecursion}
use Rattle.std.proofs.lemmas.Bool.{eq-eqb, eqb-true, ltb-true}
use Rattle.std.proofs.lemmas.List.Elements.{All-from_recursion}
use Rattle.std.proofs.lemmas.Option.{same_Some}
use Rattle.tl_base.specs.Along.{Along}
use Rattle.tl_base.specs.declared.place.Settings.{Settings}
use Rattle.tl_base.specs.declared.store.StoreReply.TheVariants as answered
use Rattle.tl_schema.specs.declared.access.Access.{Access}
use Rattle.tl_schema.specs.Row.{FitsRow}
use Rattle.tl_logrec.specs.declared.entry.Flag.{Flag}
use Rattle.tl_logrec.specs.declared.entry.Flag.TheVariants as flag
use Rattle.tl_logrec.specs.declared.entry.LogEntry.{LogEntry}
use Rattle.tl_manager.specs.declared.request.ManagerReply.TheVariants as told
use Rattle.tl_manager.specs.declared.request.ManagerRequest.TheVariants as manager
use Rattle.tl_manager.specs.declared.request.Request.TheVariants as request
use Rattle.tl_base.specs.declared.node.NodeSet.{NodeSet}
use Rattle.tl_base.specs.declared.place.PlaceId.TheVariants as place
use Rattle.tl_isolation.specs.declared.entry.Ending.{Ending}
use Rattle.tl_manager.specs.declared.request.Reply.{Reply}
use Rattle.tl_manager.specs.declared.request.Reply.TheVariants as reply
use Rattle.tl_manager.specs.Serves.{ServesAll as ManagerServes}
use Rattle.tl_cells.specs.Serves.{ServesAll as ShardServes}
use Rattle.tl_versions.specs.declared.version.Version.{Version}
use Rattle.tl_versions.specs.Cell.{FitsCell, FitsVersion}
use Rattle.tl_versions.specs.Cell as cells
use Rattle.tl_versions.proofs.CellReading.{cell_again}
use Rattle.tl_isolation.specs.declared.bound.Bound.TheVariants as bound
use Rattle.tl_isolation.specs.declared.entry.Answer.TheVariants as answer
use Rattle.tl_isolation.specs.declared.entry.Entry.TheVariants as entry
use Rattle.tl_isolation.specs.declared.script.Script.{Script}
use Rattle.tl_isolation.specs.declared.script.Session.{Session}
use Rattle.tl_isolation.specs.declared.script.TurnItem.TheVariants.{Until}
use Rattle.tl_isolation.specs.Meaning.{told_of}
use Rattle.tl_isolation.specs.Script.{setup_of}
use Rattle.tl_protocol.specs.Store.{put}
use Rattle.tl_protocol.specs.Told.{says}
use Rattle.tl_protocol.proofs.Account.{access_equal, bank, opening_rows, with_balance}
use Rattle.tl_protocol.proofs.Meanings.{Updating}
use Rattle.tl_journal.specs.declared.event.Event.{Event}
use Rattle.tl_journal.specs.Ask.{StoreCommits, LoadRecord, StoreRecord, StoreLog, DrawNumbers, AskManager, Numbers}
use Rattle.tl_journal.specs.Bytes.{heard, home_of, record_in, written}
use Rattle.tl_journal.specs.Node.{Node, opening_node, owed_by}
use Rattle.tl_journal.specs.Asks.{asks_read}
use Rattle.tl_journal.specs.Takes.{MeansRead, after_reply, takes}
use Rattle.tl_journal.specs.Says.{says_read}
use Rattle.tl_journal.specs.Run.{EndsAt, IsJournal}
use Rattle.tl_journal.specs.Schedule.{InTurn, is_refusal}
use Rattle.tl_journal.specs.Strange.{is_stopped}
use Rattle.tl_journal.proofs.InOrder.{IsNext, IsWhole, along_first, along_second, in_turn_whole}
use Rattle.tl_journal.specs.Journal.{IsCall, IsEvent, after_event, has_vanished, is_post, manager_log, node_after, session_of, shard_log}
use Rattle.tl_journal.proofs.Logs.{node_more, vanished_more}
use Rattle.tl_journal.proofs.Accepted.{Turn, TurnOk, after_turn, event_is, event_of, hears_commits, said_at, managed, stored_at, loads_commits, whole_is}
use Rattle.tl_journal.proofs.Examples.{add_five, begun_by, by_default, cell_is, change_by, changed_by, changes_first, changes_second, first_cell, key, opened_txn, result_so, reads_by, session_by, start_by, take_ten, upto, version}

-- a turn of a node, or its death notice
pub data Move : Type 0 where
  Asks : ℕ → Turn → Move
  Vanishes : ℕ → NodeSet → Ending → Move

same_number : (n : ℕ) → (n == n) ≡ true
same_number n = eq-eqb n n refl

module _ (settings : Settings) (script : Script) where
  abbrev pub notice_of : ℕ → NodeSet → Ending → Event
  notice_of n nodes ending =
      record {
        node = n;
        place = place.Manager (home_of settings n);
        request = request.Manager (manager.Post n nodes);
        reply = reply.Manager told.Posted;
        entries = entry.Vanished n ending ∷ [];
      }

  abbrev pub moved : Move → Event
  moved (Asks n t) = event_of settings script n t
  moved (Vanishes n nodes ending) = notice_of n nodes ending

  -- each is one of its node, where the nodes stand so, and these are gone
  abbrev pub MovesOk : List Event → (ℕ → Node) → (ℕ → Bool) → List Move → Type 0
  MovesOk past at gone [] = Unit {0}
  MovesOk past at gone (Asks n t ∷ ms) =
      ((session : Session) × (session_of script n ≡ Some session) × (gone n ≡ false) × TurnOk settings script n past (at n) t)
      × ((to : Node) × (takes settings script.catalog (at n) t.hears (said_at t) ≡ to) × (to.number ≡ n) × (is_stopped to.doing ≡ false)
      × MovesOk (past ++ event_of settings script n t ∷ []) (put n to at) gone ms)
  MovesOk past at gone (Vanishes n nodes ending ∷ ms) =
      ((session : Session) × (session_of script n ≡ Some session) × (gone n ≡ false) × (nodes ≡ owed_by (at n).doing))
      × MovesOk (past ++ notice_of n nodes ending ∷ []) at (put n true gone) ms

  -- the nodes stand so after these events, and these have vanished
  pub record Stand (past : List Event) (at : ℕ → Node) (gone : ℕ → Bool) : Type 0 where
    pub nodes : (n : ℕ) (session : Session) → session_of script n ≡ Some session → node_after settings script past session ≡ at n
    pub numbers : (n : ℕ) (session : Session) → session_of script n ≡ Some session → (at n).number ≡ n
    pub run : (n : ℕ) → has_vanished past n ≡ gone n

  other_stays : (at : ℕ → Node) (n : ℕ) (t : Turn) (k : ℕ) → (n == k) ≡ false → (at k).number ≡ k → after_event settings script (event_of settings script n t) (at k) ≡ at k
  other_stays at n t k other number = one (n == (at k).number) _ (ap (λ (i : ℕ). n == i) number ∙ other)
    where
      one : (b : Bool) (x : Node) → b ≡ false → (if b && not (is_post (written t.ask)) then x else at k) ≡ at k
      one true x e = absurd cc
      one false x e = refl

  next_stand : (past : List Event) (at : ℕ → Node) (gone : ℕ → Bool) (n : ℕ) (t : Turn) (to : Node) (session : Session) → session_of script n ≡ Some session → Stand past at gone
      → TurnOk settings script n past (at n) t → takes settings script.catalog (at n) t.hears (said_at t) ≡ to → to.number ≡ n
      → Stand (past ++ event_of settings script n t ∷ []) (put n to at) gone
  next_stand past at gone n t to session is st ok goes number =
      record {
        nodes = λ k s e. node_more settings script past (event_of settings script n t) s ∙ ap (after_event settings script (event_of settings script n t)) (st.nodes k s e)
            ∙ turned k (n == k) refl (st.numbers k s e);
        numbers = λ k s e. numbered k (n == k) refl (st.numbers k s e);
        run = λ k. vanished_more past (event_of settings script n t) k ∙ neither (has_vanished past k) (n == k) (is_post (written t.ask)) ok.own ∙ st.run k;
      }
    where
      own_number : (n == (at n).number) ≡ true
      own_number = ap (λ (k : ℕ). n == k) (st.numbers n session is) ∙ same_number n

      turned : (k : ℕ) (b : Bool) → (n == k) ≡ b → (at k).number ≡ k → after_event settings script (event_of settings script n t) (at k) ≡ (if b then to else at k)
      turned k true e number_k =
          ap (λ (i : ℕ). after_event settings script (event_of settings script n t) (at i)) (sym (eqb-true n k e))
          ∙ after_turn settings script n past (at n) t own_number ok ∙ goes
      turned k false e number_k = other_stays at n t k e number_k

      numbered : (k : ℕ) (b : Bool) → (n == k) ≡ b → (at k).number ≡ k → (if b then to else at k).number ≡ k
      numbered k true e number_k = number ∙ eqb-true n k e
      numbered k false e number_k = number_k

      neither : (a b c : Bool) → c ≡ false → (a || (b && c)) ≡ a
      neither true b c f = refl
      neither false true c f = f
      neither false false c f = refl

  stand_without : (past : List Event) (at : ℕ → Node) (gone : ℕ → Bool) (n : ℕ) (nodes : NodeSet) (ending : Ending) → Stand past at gone
      → Stand (past ++ notice_of n nodes ending ∷ []) at (put n true gone)
  stand_without past at gone n nodes ending st =
      record {
        nodes = λ k s e. node_more settings script past (notice_of n nodes ending) s ∙ ap (after_event settings script (notice_of n nodes ending)) (st.nodes k s e)
            ∙ stays (n == (at k).number) _ (at k);
        numbers = st.numbers;
        run = λ k. vanished_more past (notice_of n nodes ending) k ∙ one (has_vanished past k) (n == k) (gone k) (st.run k);
      }
    where
      stays : (b : Bool) (x y : Node) → (if b && not true then x else y) ≡ y
      stays true x y = refl
      stays false x y = refl

      one : (a b c : Bool) → a ≡ c → (a || (b && true)) ≡ (if b then true else c)
      one true true c e = refl
      one false true c e = refl
      one true false c e = e
      one false false c e = e

  put_there : (n : ℕ) (to : Node) (at : ℕ → Node) → put n to at n ≡ to
  put_there n to at = ap (λ (b : Bool). if b then to else at n) (same_number n)

  not_posted : (b : Bool) → true ≡ false → b ≡ false
  not_posted b e = absurd cc

  pub together : (past : List Event) (at : ℕ → Node) (gone : ℕ → Bool) (moves : List Move) → Stand past at gone → MovesOk past at gone moves
      → Along (λ (past : List Event) (e : Event). IsEvent script settings past e × IsWhole script settings past e) past (map moved moves)
  together past at gone [] st ok = tt
  together past at gone (Asks n t ∷ ms) st ((session, is, runs, ok), (to, goes, number, stays, more)) =
      let stand : Stand (past ++ event_of settings script n t ∷ []) (put n to at) gone = next_stand past at gone n t to session is st ok goes number in (
        (
          event_is settings script n session is past (at n) t (st.nodes n session is) (st.run n ∙ runs) ok,
          λ request. whole_is settings script n session is past t to (stand.nodes n session is ∙ put_there n to at) stays,
        ),
        together (past ++ event_of settings script n t ∷ []) (put n to at) gone ms stand more,
      )
  together past at gone (Vanishes n nodes ending ∷ ms) st ((session, is, runs, owed), more) = (
    (
      inr (inl (record {
        session = session;
        is_session = is;
        runs = st.run n ∙ runs;
        stands_at = refl;
        notice = ap (λ (x : NodeSet). request.Manager (manager.Post n x)) (owed ∙ ap (λ (x : Node). owed_by x.doing) (sym (st.nodes n session is)));
        ending = ending;
        told = refl;
      })),
      λ request. not_posted _ request,
    ),
    together (past ++ notice_of n nodes ending ∷ []) at (put n true gone) ms (stand_without past at gone n nodes ending st) more,
  )

-- ---- what the bytes say

pub fits_row : (id balance : ℕ) → id < 2 ^ 63 → balance < 2 ^ 63 → FitsRow (with_balance id balance)
fits_row id balance f g = record { count = omega arith; short = (tt, (tt, tt)); values = (record { sfits = f }, (record { sfits = g }, tt)) }

fits_version : (tid balance : ℕ) → tid < 2 ^ 64 → balance < 2 ^ 63 → FitsVersion (version tid 1 balance)
fits_version tid balance f g = record { tid = f; change = record { fits = fits_row 1 balance (omega arith) g; short = ltb-true 19 (2 ^ 16) refl } }

fits_first : FitsCell (version 0 1 100 ∷ [])
fits_first =
    record {
      cell = record { distinct = refl; fit = All-from_recursion FitsVersion (version 0 1 100 ∷ []) (fits_version 0 100 (omega arith) (omega arith), tt) };
      count = omega arith;
    }

fits_both : FitsCell (version 1 1 90 ∷ version 0 1 100 ∷ [])
fits_both =
    record {
      cell = record {
        distinct = refl;
        fit = All-from_recursion FitsVersion (version 1 1 90 ∷ version 0 1 100 ∷ [])
            (fits_version 1 90 (omega arith) (omega arith), (fits_version 0 100 (omega arith) (omega arith), tt));
      };
      count = omega arith;
    }

abbrev pub cell_reply : ℕ → List Version → Reply
cell_reply stamp versions = reply.Store (answered.Cell stamp (cells.spelling versions))

hears_first : heard (LoadRecord (key 1)) (cell_reply 2 (version 0 1 100 ∷ [])) ≡ first_cell
hears_first = ap (record_in 2) (cell_again (version 0 1 100 ∷ []) fits_first)

hears_both : heard (LoadRecord (key 1)) (cell_reply 4 (version 1 1 90 ∷ version 0 1 100 ∷ [])) ≡ cell_is 4 (version 1 1 90 ∷ version 0 1 100 ∷ [])
hears_both = ap (record_in 4) (cell_again (version 1 1 90 ∷ version 0 1 100 ∷ []) fits_both)

-- ---- the script

abbrev pub script_conflict : Script
script_conflict =
    record {
      catalog = bank;
      rows = opening_rows (with_balance 1 100 ∷ with_balance 2 100 ∷ []);
      sessions = session_by 1 take_ten ∷ session_by 2 add_five ∷ [];
      turns = Until 1 2 ∷ Until 2 2 ∷ Until 1 3 ∷ [];
      vanishes = [];
    }

abbrev pub move : ℕ → Turn → Move
move n turn = Asks n turn

abbrev logged : ℕ → Flag → LogEntry
logged n f = record { tid = n; node = n; flag = f; writes = key 1 ∷ [] }

abbrev moves_begin : List Move
moves_begin =
    move 1 (loads_commits 1 0 (entry.Asked 1 ∷ [])) ∷ move 1 (managed (AskManager 0 (manager.Begin 1 (upto 0))) told.NeedRange [])
    ∷ move 1 (record { ask = DrawNumbers; reply = reply.Store (answered.Count 0); hears = Numbers 0; entries = [] })
    ∷ move 1 (managed (AskManager 0 (manager.Range 1 16)) told.Ranged [])
    ∷ move 1 (managed (AskManager 0 (manager.Begin 1 (upto 0))) (told.Began 1 (upto 0) (upto 0)) (entry.Began 1 1 1 ∷ says 1 1 bound.Begin answer.Begun ∷ [])) ∷ []

abbrev changes : ℕ → Updating bank → Turn
changes n u =
    record {
      ask = LoadRecord (key 1);
      reply = cell_reply 2 (version 0 1 100 ∷ []);
      hears = first_cell;
      entries = says n 2 (change_by u) (answer.Changed 1) ∷ [];
    }

abbrev moves_second : List Move
moves_second =
    move 2 (loads_commits 1 0 (entry.Asked 2 ∷ []))
    ∷ move 2 (managed (AskManager 0 (manager.Begin 2 (upto 0))) (told.Began 2 (upto 0) (upto 0)) (entry.Began 2 2 1 ∷ says 2 1 bound.Begin answer.Begun ∷ [])) ∷ []

abbrev loads_record : ℕ → List Version → Turn
loads_record stamp versions = record { ask = LoadRecord (key 1); reply = cell_reply stamp versions; hears = cell_is stamp versions; entries = [] }

abbrev moves_end : List Move
moves_end =
    move 1 (stored_at (StoreLog 0 (logged 1 flag.Trying)) 3 (entry.Tried 1 ∷ [])) ∷ move 1 (loads_record 2 (version 0 1 100 ∷ []))
    ∷ move 1 (stored_at (StoreRecord (key 1) 2 (version 1 1 90 ∷ version 0 1 100 ∷ [])) 4 []) ∷ move 1 (stored_at (StoreLog 3 (logged 1 flag.Decided)) 5 [])
    ∷ move 1 (loads_commits 1 0 []) ∷ move 1 (stored_at (StoreCommits 1 (upto 1)) 6 (entry.Committed 1 ∷ []))
    ∷ move 1 (managed (AskManager 0 (manager.End 1)) told.Ended (entry.Answered 1 3 answer.Committed ∷ []))
    ∷ move 2 (stored_at (StoreLog 0 (logged 2 flag.Trying)) 2 (entry.Tried 2 ∷ []))
    ∷ move 2 (record { ask = LoadRecord (key 1); reply = cell_reply 4 (version 1 1 90 ∷ version 0 1 100 ∷ []); hears = cell_is 4 (version 1 1 90 ∷ version 0 1 100 ∷ []); entries = entry.Clash 2 1 0 ∷ [] })
    ∷ move 2 (stored_at (StoreLog 2 (logged 2 flag.Undone)) 3 []) ∷ move 2 (loads_commits 6 1 [])
    ∷ move 2 (stored_at (StoreCommits 6 (upto 2)) 7 (entry.Undone 2 ∷ []))
    ∷ move 2 (managed (AskManager 0 (manager.End 2)) told.Ended (entry.Answered 2 3 (answer.Conflict 1) ∷ [])) ∷ []

abbrev pub moves_conflict : List Move
moves_conflict = moves_begin ++ (move 1 (changes 1 take_ten) ∷ (moves_second ++ (move 2 (changes 2 add_five) ∷ moves_end)))

abbrev pub events_conflict : List Event
events_conflict = map (moved by_default script_conflict) moves_conflict

-- a change of a node whose BEGIN is answered
changes_ok : (past : List Event) → TurnOk by_default script_conflict 1 past (begun_by 1 take_ten) (changes 1 take_ten)
changes_ok past =
    record {
      asks_so = ap (λ (a : Access). Some (asks_read (reads_by a).left)) (access_equal 1);
      hears_so = hears_first;
      own = refl;
      means = subst (λ (a : Access). MeansRead bank (change_by take_ten) (opened_txn 1 []) (after_reply by_default (upto 0) (reads_by a) (reads_by a).left first_cell) (answer.Changed 1))
          (sym (access_equal 1)) (ap told_of (result_so take_ten (with_balance 1 100 ∷ [])));
      tells = sym (ap (λ (a : Access). says_read (begun_by 1 take_ten) (change_by take_ten) (opened_txn 1 [])
          (after_reply by_default (upto 0) (reads_by a) (reads_by a).left first_cell) (answer.Changed 1)) (access_equal 1));
    }

also_changes_ok : (past : List Event) → TurnOk by_default script_conflict 2 past (begun_by 2 add_five) (changes 2 add_five)
also_changes_ok past =
    record {
      asks_so = ap (λ (a : Access). Some (asks_read (reads_by a).left)) (access_equal 1);
      hears_so = hears_first;
      own = refl;
      means = subst (λ (a : Access). MeansRead bank (change_by add_five) (opened_txn 2 []) (after_reply by_default (upto 0) (reads_by a) (reads_by a).left first_cell) (answer.Changed 1))
          (sym (access_equal 1)) (ap told_of (result_so add_five (with_balance 1 100 ∷ [])));
      tells = sym (ap (λ (a : Access). says_read (begun_by 2 add_five) (change_by add_five) (opened_txn 2 [])
          (after_reply by_default (upto 0) (reads_by a) (reads_by a).left first_cell) (answer.Changed 1)) (access_equal 1));
    }

abbrev first_changed : Node
first_changed = changed_by 1 take_ten (record { key = key 1; row = Some (with_balance 1 90) } ∷ [])

abbrev second_changed : Node
second_changed = changed_by 2 add_five (record { key = key 1; row = Some (with_balance 1 105) } ∷ [])

abbrev starts : ℕ → Node
starts n = if n == 1 then start_by 1 take_ten else start_by 2 add_five

moves_ok : MovesOk by_default script_conflict [] starts (λ n. false) moves_conflict
moves_ok = (
  (session_by 1 take_ten, refl, refl, record { asks_so = refl; hears_so = hears_commits 1 0 (omega arith); own = refl; means = tt; tells = refl }),
  (
    _,
    refl,
    refl,
    refl,
    (
      (session_by 1 take_ten, refl, refl, record { asks_so = refl; hears_so = refl; own = refl; means = tt; tells = refl }),
      (
        _,
        refl,
        refl,
        refl,
        (
          (session_by 1 take_ten, refl, refl, record { asks_so = refl; hears_so = refl; own = refl; means = tt; tells = refl }),
          (
            _,
            refl,
            refl,
            refl,
            (
              (session_by 1 take_ten, refl, refl, record { asks_so = refl; hears_so = refl; own = refl; means = tt; tells = refl }),
              (
                _,
                refl,
                refl,
                refl,
                (
                  (session_by 1 take_ten, refl, refl, record { asks_so = refl; hears_so = refl; own = refl; means = tt; tells = refl }),
                  (
                    _,
                    refl,
                    refl,
                    refl,
                    (
                      (session_by 1 take_ten, refl, refl, changes_ok _),
                      (
                        first_changed,
                        changes_first.comes_to,
                        refl,
                        refl,
                        (
                          (session_by 2 add_five, refl, refl, record { asks_so = refl; hears_so = hears_commits 1 0 (omega arith); own = refl; means = tt; tells = refl }),
                          (
                            _,
                            refl,
                            refl,
                            refl,
                            (
                              (session_by 2 add_five, refl, refl, record { asks_so = refl; hears_so = refl; own = refl; means = tt; tells = refl }),
                              (
                                _,
                                refl,
                                refl,
                                refl,
                                (
                                  (session_by 2 add_five, refl, refl, also_changes_ok _),
                                  (
                                    second_changed,
                                    changes_second.comes_to,
                                    refl,
                                    refl,
                                    (
                                      (session_by 1 take_ten, refl, refl, record { asks_so = refl; hears_so = refl; own = refl; means = tt; tells = refl }),
                                      (
                                        _,
                                        refl,
                                        refl,
                                        refl,
                                        (
                                          (session_by 1 take_ten, refl, refl, record { asks_so = refl; hears_so = hears_first; own = refl; means = tt; tells = refl }),
                                          (
                                            _,
                                            refl,
                                            refl,
                                            refl,
                                            (
                                              (session_by 1 take_ten, refl, refl, record { asks_so = refl; hears_so = refl; own = refl; means = tt; tells = refl }),
                                              (
                                                _,
                                                refl,
                                                refl,
                                                refl,
                                                (
                                                  (session_by 1 take_ten, refl, refl, record { asks_so = refl; hears_so = refl; own = refl; means = tt; tells = refl }),
                                                  (
                                                    _,
                                                    refl,
                                                    refl,
                                                    refl,
                                                    (
                                                      (session_by 1 take_ten, refl, refl, record { asks_so = refl; hears_so = hears_commits 1 0 (omega arith); own = refl; means = tt; tells = refl }),
                                                      (
                                                        _,
                                                        refl,
                                                        refl,
                                                        refl,
                                                        (
                                                          (session_by 1 take_ten, refl, refl, record { asks_so = refl; hears_so = refl; own = refl; means = tt; tells = refl }),
                                                          (
                                                            _,
                                                            refl,
                                                            refl,
                                                            refl,
                                                            (
                                                              (session_by 1 take_ten, refl, refl, record { asks_so = refl; hears_so = refl; own = refl; means = tt; tells = refl }),
                                                              (
                                                                _,
                                                                refl,
                                                                refl,
                                                                refl,
                                                                (
                                                                  (session_by 2 add_five, refl, refl, record { asks_so = refl; hears_so = refl; own = refl; means = tt; tells = refl }),
                                                                  (
                                                                    _,
                                                                    refl,
                                                                    refl,
                                                                    refl,
                                                                    (
                                                                      (session_by 2 add_five, refl, refl, record { asks_so = refl; hears_so = hears_both; own = refl; means = tt; tells = refl }),
                                                                      (
                                                                        _,
                                                                        refl,
                                                                        refl,
                                                                        refl,
                                                                        (
                                                                          (session_by 2 add_five, refl, refl, record { asks_so = refl; hears_so = refl; own = refl; means = tt; tells = refl }),
                                                                          (
                                                                            _,
                                                                            refl,
                                                                            refl,
                                                                            refl,
                                                                            (
                                                                              (session_by 2 add_five, refl, refl, record { asks_so = refl; hears_so = hears_commits 6 1 (omega arith); own = refl; means = tt; tells = refl }),
                                                                              (
                                                                                _,
                                                                                refl,
                                                                                refl,
                                                                                refl,
                                                                                (
                                                                                  (session_by 2 add_five, refl, refl, record { asks_so = refl; hears_so = refl; own = refl; means = tt; tells = refl }),
                                                                                  (
                                                                                    _,
                                                                                    refl,
                                                                                    refl,
                                                                                    refl,
                                                                                    (
                                                                                      (session_by 2 add_five, refl, refl, record { asks_so = refl; hears_so = refl; own = refl; means = tt; tells = refl }),
                                                                                      (
                                                                                        _,
                                                                                        refl,
                                                                                        refl,
                                                                                        refl,
                                                                                        tt,
                                                                                      ),
                                                                                    ),
                                                                                  ),
                                                                                ),
                                                                              ),
                                                                            ),
                                                                          ),
                                                                        ),
                                                                      ),
                                                                    ),
                                                                  ),
                                                                ),
                                                              ),
                                                            ),
                                                          ),
                                                        ),
                                                      ),
                                                    ),
                                                  ),
                                                ),
                                              ),
                                            ),
                                          ),
                                        ),
                                      ),
                                    ),
                                  ),
                                ),
                              ),
                            ),
                          ),
                        ),
                      ),
                    ),
                  ),
                ),
              ),
            ),
          ),
        ),
      ),
    ),
  ),
)

start_stands : Stand by_default script_conflict [] starts (λ n. false)
start_stands =
    record {
      nodes = λ k s e. (one k (1 == k) (2 == k) refl refl s e).0;
      numbers = λ k s e. (one k (1 == k) (2 == k) refl refl s e).1;
      run = λ k. refl;
    }
  where
    one : (k : ℕ) (b c : Bool) → (1 == k) ≡ b → (2 == k) ≡ c → (s : Session)
        → (if b then Some (session_by 1 take_ten) else (if c then Some (session_by 2 add_five) else None)) ≡ Some s
        → (opening_node by_default s ≡ starts k) × ((starts k).number ≡ k)
    one k true c f g s e = subst (λ (m : ℕ). (opening_node by_default s ≡ starts m) × ((starts m).number ≡ m)) (eqb-true 1 k f) (ap (opening_node by_default) (sym (same_Some _ _ e)), refl)
    one k false true f g s e = subst (λ (m : ℕ). (opening_node by_default s ≡ starts m) × ((starts m).number ≡ m)) (eqb-true 2 k g) (ap (opening_node by_default) (sym (same_Some _ _ e)), refl)
    one k false false f g s e = absurd cc

accepts_so : Along (λ (past : List Event) (e : Event). IsEvent script_conflict by_default past e × IsWhole script_conflict by_default past e) [] events_conflict
accepts_so = together by_default script_conflict [] starts (λ n. false) moves_conflict start_stands moves_ok

pub accepts_conflict : Along (IsEvent script_conflict by_default) [] events_conflict
accepts_conflict = along_first (IsEvent script_conflict by_default) (IsWhole script_conflict by_default) [] events_conflict accepts_so

-- ---- its events are a journal

calls_so : AllByRecursion (λ (e : Event). IsCall e.place e.request e.reply) events_conflict
calls_so =
    (tt, (tt, (tt, (tt, (tt, (tt, (tt, (tt, (tt, (tt, (tt, (tt, (tt, (tt, (tt, (tt, (tt, (tt, (tt, (tt, (tt, (tt, tt))))))))))))))))))))))

shards_serve : (s : ℕ) → s < 4 → ShardServes 0 (shard_log by_default (setup_of script_conflict by_default) s events_conflict)
shards_serve zero low = tt
shards_serve (suc zero) low =
    (refl, (refl, (refl, (refl, (refl, (refl, (refl, (refl, (refl, (refl, (refl, (refl, (refl, (refl, (refl, tt)))))))))))))))
shards_serve (suc (suc zero)) low =
    (refl, (refl, (refl, (refl, tt))))
shards_serve (suc (suc (suc zero))) low = tt
shards_serve (suc (suc (suc (suc s)))) low = absurd (omega arith)

managers_serve : (m : ℕ) → m < 1 → ManagerServes (manager_log m events_conflict)
managers_serve zero low =
    (refl, (refl, (refl, (refl, (refl, (refl, tt))))))
managers_serve (suc m) low = absurd (omega arith)

ends_so : Along (EndsAt script_conflict by_default) [] events_conflict
ends_so =
    (inr (refl, (refl, ltb-true 0 20000 refl)), (inr (refl, (refl, ltb-true 1 20000 refl)), (inr (refl, (refl, ltb-true 2 20000 refl)), (inr (refl, (refl, ltb-true 3 20000 refl)), (inr (refl, (refl, ltb-true 4 20000 refl)), (inr (refl, (refl, ltb-true 5 20000 refl)), (inr (refl, (refl, ltb-true 0 20000 refl)), (inr (refl, (refl, ltb-true 1 20000 refl)), (inr (refl, (refl, ltb-true 2 20000 refl)), (inr (refl, (refl, ltb-true 6 20000 refl)), (inr (refl, (refl, ltb-true 7 20000 refl)), (inr (refl, (refl, ltb-true 8 20000 refl)), (inr (refl, (refl, ltb-true 9 20000 refl)), (inr (refl, (refl, ltb-true 10 20000 refl)), (inr (refl, (refl, ltb-true 11 20000 refl)), (inr (refl, (refl, ltb-true 12 20000 refl)), (inr (refl, (refl, ltb-true 3 20000 refl)), (inr (refl, (refl, ltb-true 4 20000 refl)), (inr (refl, (refl, ltb-true 5 20000 refl)), (inr (refl, (refl, ltb-true 6 20000 refl)), (inr (refl, (refl, ltb-true 7 20000 refl)), (inr (refl, (refl, ltb-true 8 20000 refl)), tt))))))))))))))))))))))

answered_so : Along (λ (past : List Event) (e : Event). is_refusal e.reply ≡ false) [] events_conflict
answered_so =
    (refl, (refl, (refl, (refl, (refl, (refl, (refl, (refl, (refl, (refl, (refl, (refl, (refl, (refl, (refl, (refl, (refl, (refl, (refl, (refl, (refl, (refl, tt))))))))))))))))))))))

next_so : Along (IsNext script_conflict by_default) [] events_conflict
next_so =
    (inr (tt, refl), (inr ((refl, refl, refl), refl), (inr ((refl, refl, refl), refl), (inr ((refl, refl, refl), refl), (inr ((refl, refl, refl), refl), (inr ((refl, refl, refl), refl), (inr ((refl, refl, refl), refl), (inr ((refl, refl, refl), refl), (inr ((refl, refl, refl), refl), (inr ((refl, refl, refl), refl), (inr ((refl, refl, refl), refl), (inr ((refl, refl, refl), refl), (inr ((refl, refl, refl), refl), (inr ((refl, refl, refl), refl), (inr ((refl, refl, refl), refl), (inr ((refl, refl, refl), refl), (inr ((refl, refl, refl), refl), (inr ((refl, refl, refl), refl), (inr ((refl, refl, refl), refl), (inr ((refl, refl, refl), refl), (inr ((refl, refl, refl), refl), (inr ((refl, refl, refl), refl), tt))))))))))))))))))))))

in_turn_so : Along (InTurn script_conflict by_default) [] events_conflict
in_turn_so = in_turn_whole script_conflict by_default events_conflict (along_second (IsEvent script_conflict by_default) (IsWhole script_conflict by_default) [] events_conflict accepts_so) next_so

pub journal_conflict : IsJournal script_conflict by_default events_conflict
journal_conflict =
    record {
      trace = record { served = record { calls = calls_so; shards = shards_serve; managers = managers_serve }; events_are = accepts_conflict };
      ends = ends_so;
      answered = answered_so;
      in_turn = λ e. in_turn_so;
    }
