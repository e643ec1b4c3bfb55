-- The journal of a session of one node, as bytes: its events are those of its script, its places serve them, and so the
-- law speaks of it.
use Rattle.std.proofs.Common.{◌≡◌, ◌≤◌, ◌<◌, ℕ, zero, suc, ◌^◌, Bool, true, false, inl, inr, List, [], ◌∷◌, ◌++◌, Some, refl, sym, ap, ◌∙◌, subst, arith}
use Rattle.std.specs.Prelude.{◌==◌, ◌&&◌, ◌||◌, not, map, is_some, if◌then◌else◌}
use Rattle.std.proofs.lemmas.List.Elements.{All-from_recursion}
use Rattle.tl_base.specs.Along.{Along}
use Rattle.tl_base.specs.declared.place.Settings.{Settings}
use Rattle.tl_base.specs.declared.store.StoreReply.TheVariants as answered
use Rattle.tl_schema.specs.declared.access.Access.{Access}
use Rattle.tl_descriptor.specs.Reading.{FitsSet, read_set}
use Rattle.tl_descriptor.specs.Reading as sets
use Rattle.tl_descriptor.proofs.SetReading.{set_again}
use Rattle.tl_manager.specs.declared.request.ManagerReply.{ManagerReply}
use Rattle.tl_manager.specs.declared.request.ManagerReply.TheVariants as told
use Rattle.tl_manager.specs.declared.request.ManagerRequest.TheVariants as manager
use Rattle.tl_manager.specs.declared.request.Reply.{Reply}
use Rattle.tl_manager.specs.declared.request.Reply.TheVariants as reply
use Rattle.tl_isolation.specs.declared.entry.Answer.{Answer}
use Rattle.tl_isolation.specs.declared.entry.Answer.TheVariants as answer
use Rattle.tl_isolation.specs.declared.entry.Entry.{Entry}
use Rattle.tl_isolation.specs.declared.entry.Entry.TheVariants as entry
use Rattle.tl_isolation.specs.declared.script.Script.{Script}
use Rattle.tl_isolation.specs.declared.script.Session.{Session}
use Rattle.std.proofs.lemmas.Bool.{ltb-true}
use Rattle.tl_logrec.specs.declared.entry.Flag.{Flag}
use Rattle.tl_logrec.specs.declared.entry.Flag.TheVariants as flag
use Rattle.tl_logrec.specs.declared.entry.LogEntry.{LogEntry}
use Rattle.tl_schema.specs.Row.{FitsRow}
use Rattle.tl_versions.specs.Cell.{FitsCell, FitsVersion}
use Rattle.tl_versions.specs.Cell as cells
use Rattle.tl_versions.specs.Reading.{read_cell}
use Rattle.tl_versions.proofs.CellReading.{cell_again}
use Rattle.std.specs.FinMap as finmap
use Rattle.std.proofs.lemmas.List.Sorted.{IsPermutation-refl}
use Rattle.tl_values.specs.declared.value.Value.{Value}
use Rattle.tl_algebra.specs.declared.line.Line.{Line}
use Rattle.tl_algebra.specs.Group.{groups}
use Rattle.tl_algebra.specs.Select.{before, each, first_of, lines_of, selected, with_keys}
use Rattle.tl_write.specs.Change.{Add, judged, nothing}
use Rattle.tl_write.specs.Own.{key_cmp}
use Rattle.tl_isolation.specs.Meaning.{QueryAnswers, told_of}
use Rattle.tl_isolation.specs.Kinds.{every_kind, has_column, same_kind}
use Rattle.tl_isolation.specs.Queries.{output_fits}
use Rattle.tl_isolation.proofs.Computed.{alike_test, kind_of_place}
use Rattle.tl_algebra.specs.declared.condition.Side.TheVariants as side
use Rattle.tl_algebra.specs.declared.expression.Expression.TheVariants as expression
use Rattle.tl_algebra.specs.declared.query.Output.TheVariants as output
use Rattle.tl_values.specs.declared.value.Comparison.TheVariants as comparison
use Rattle.tl_values.specs.declared.value.Kind.{Kind}
use Rattle.tl_values.specs.declared.value.Kind.TheVariants as kind
use Rattle.tl_protocol.specs.Store.{Key}
use Rattle.tl_protocol.specs.World.{Fresh}
use Rattle.tl_protocol.proofs.Account.{access_equal, fits_account, lets_equal, number, value_of_place, with_balance}
use Rattle.tl_protocol.proofs.Meanings.{Row}
use Rattle.tl_isolation.specs.History.{state_after}
use Rattle.tl_isolation.specs.Script.{setup_of}
use Rattle.tl_journal.specs.declared.event.Event.{Event}
use Rattle.tl_journal.specs.Ask.{Ask, LoadCommits, StoreCommits, StoreLog, LoadRecord, StoreRecord, DrawNumbers, AskManager, Heard, Commits, Stored, Numbers, Told}
use Rattle.tl_journal.specs.Bytes.{commits_in, heard, place_of, record_in, written}
use Rattle.tl_journal.specs.Memory.{cut_short, node_then}
use Rattle.tl_journal.proofs.Elsewhere.{whole_uncut}
use Rattle.tl_journal.specs.Node.{Node}
use Rattle.tl_journal.specs.Asks.{asks, asks_read}
use Rattle.tl_journal.specs.Takes.{MayMean, MeansRead, after_reply, tables_seen, takes}
use Rattle.tl_journal.specs.Says.{says_at, says_read}
use Rattle.std.specs.List.{AllByRecursion, list_any}
use Rattle.tl_cells.specs.Serves.{ServesAll as ShardServes}
use Rattle.tl_manager.specs.Serves.{ServesAll as ManagerServes}
use Rattle.tl_journal.specs.Binding.{IsBound, StatementFits, TableFits}
use Rattle.tl_journal.specs.Law.{IsRun}
use Rattle.tl_journal.specs.Run.{EndsAt, IsJournal}
use Rattle.tl_journal.specs.Schedule.{InTurn, is_refusal, was_cut}
use Rattle.tl_journal.specs.Strange.{is_stopped}
use Rattle.tl_journal.specs.Journal.{IsCall, IsEvent, manager_log, shard_log, after_event, answer_said, entries_told, has_vanished, is_post, node_after, posts, session_of, takes_reply}
use Rattle.tl_journal.proofs.InOrder.{IsNext, IsWhole, along_first, along_second, in_turn_whole}
use Rattle.tl_journal.proofs.Logs.{node_more, vanished_more}
use Rattle.tl_journal.proofs.Examples.{by_default, catalog_t, cell_is, insert_one, key, one_row, query_one, records_so, select_one, table_t, told_one, selected_one, session_one, start_one, upto, version, waits, inserted_one, begun_one, selecting_one, reads_by, select_txn, inserts_one, selects_one}

-- a request with its reply, in bytes and as it is heard, and what is told of it
pub record Turn : Type 0 where
  pub ask : Ask
  pub reply : Reply
  pub hears : Heard
  pub entries : List Entry

-- the answer that is given at it
abbrev pub said_at : Turn → Answer
said_at t = answer_said t.entries

module _ (settings : Settings) (script : Script) (n : ℕ) where
  abbrev pub event_of : Turn → Event
  event_of t = record { node = n; place = place_of settings t.ask; request = written t.ask; reply = t.reply; entries = t.entries }

  pub record TurnOk (past : List Event) (node : Node) (t : Turn) : Type 0 where
    pub asks_so : asks settings script.catalog node ≡ Some t.ask
    pub hears_so : heard t.ask t.reply ≡ t.hears
    pub own : is_post (written t.ask) ≡ false
    pub means : MayMean settings script.catalog node t.hears (said_at t)
    pub tells : t.entries ≡ says_at settings script.catalog (state_after (setup_of script settings) (entries_told past)).commits node t.hears (said_at t)

  -- each turn is one of the node where those before it lead
  abbrev pub TurnsOk : List Event → Node → List Turn → Type 0
  TurnsOk past node [] = Unit {0}
  TurnsOk past node (t ∷ ts) =
      TurnOk past node t
      × ((to : Node) × (takes settings script.catalog node t.hears (said_at t) ≡ to) × ((n == to.number) ≡ true) × (is_stopped to.doing ≡ false) × TurnsOk (past ++ event_of t ∷ []) to ts)

  pub after_turn : (past : List Event) (node : Node) (t : Turn) → (n == node.number) ≡ true → TurnOk past node t
      → after_event settings script (event_of t) node ≡ takes settings script.catalog node t.hears (said_at t)
  after_turn past node t same ok =
      (λ i. if same i && not (ok.own i) then takes_reply settings script node (ok.asks_so i) t.reply t.entries else node)
      ∙ ap (λ (h : Heard). node_then settings script.catalog node h (said_at t) t.entries) ok.hears_so
      ∙ ap (λ c. if c then cut_short settings script.catalog node t.hears (said_at t) else takes settings script.catalog node t.hears (said_at t))
      (whole_uncut settings script.catalog (state_after (setup_of script settings) (entries_told past)).commits node t.hears (said_at t) t.entries ok.tells)

  no_post : (b c : Bool) → c ≡ false → (b && c) ≡ false
  no_post true c e = e
  no_post false c e = refl

  or_none : (b c : Bool) → b ≡ false → c ≡ false → (b || c) ≡ false
  or_none true c e f = absurd cc
  or_none false c e f = f

  pub runs_on : (past : List Event) (t : Turn) → is_post (written t.ask) ≡ false → has_vanished past n ≡ false → has_vanished (past ++ event_of t ∷ []) n ≡ false
  runs_on past t own runs =
      vanished_more past (event_of t) n
      ∙ or_none (has_vanished past n) (posts n (event_of t)) runs (no_post (n == n) (is_post (written t.ask)) own)

  module _ (session : Session) (is_session : session_of script n ≡ Some session) where
    pub event_is : (past : List Event) (node : Node) (t : Turn) → node_after settings script past session ≡ node → has_vanished past n ≡ false → TurnOk past node t
        → IsEvent script settings past (event_of t)
    event_is past node t same runs ok =
        inl (record {
          session = session;
          is_session = is_session;
          runs = runs;
          ask = t.ask;
          asked = ap (asks settings script.catalog) same ∙ ok.asks_so;
          stands_at = refl;
          bytes = refl;
          means = subst (λ (x : Node). MayMean settings script.catalog x (heard t.ask t.reply) (said_at t)) (sym same)
              (subst (λ (h : Heard). MayMean settings script.catalog node h (said_at t)) (sym ok.hears_so) ok.means);
          told = ok.tells ∙ (λ i. says_at settings script.catalog (state_after (setup_of script settings) (entries_told past)).commits (sym same i) (sym ok.hears_so i) (said_at t));
        })

    -- the node that it leads to wants no memory
    pub whole_is : (past : List Event) (t : Turn) (to : Node) → node_after settings script (past ++ event_of t ∷ []) session ≡ to → is_stopped to.doing ≡ false
        → was_cut script settings (past ++ event_of t ∷ []) n ≡ false
    whole_is past t to same goes = rw is_session (ap (λ (x : Node). is_stopped x.doing) same ∙ goes)

    pub accepted : (past : List Event) (node : Node) (turns : List Turn) → node_after settings script past session ≡ node → (n == node.number) ≡ true
        → has_vanished past n ≡ false → TurnsOk past node turns
        → Along (λ (past : List Event) (e : Event). IsEvent script settings past e × IsWhole script settings past e) past (map event_of turns)
    accepted past node [] same numbered runs ok = tt
    accepted past node (t ∷ ts) same numbered runs (ok, (to, goes, number, stays, more)) =
        let led : node_after settings script (past ++ event_of t ∷ []) session ≡ to =
        node_more settings script past (event_of t) session ∙ ap (after_event settings script (event_of t)) same ∙ after_turn past node t numbered ok ∙ goes in (
          (event_is past node t same runs ok, λ request. whole_is past t to led stays),
          accepted (past ++ event_of t ∷ []) to ts led number (runs_on past t ok.own runs) more,
        )

-- ---- what the bytes say

pub fits_upto : (base : ℕ) → base ≤ 2 ^ 62 → FitsSet (upto base)
fits_upto base few = record { canonical = record { base_fits = few; apart = refl }; count = omega arith }

-- the reply to a Load of the commits cell
abbrev pub commits_reply : ℕ → ℕ → Reply
commits_reply stamp base = reply.Store (answered.Cell stamp (sets.spelling (upto base)))

pub hears_commits : (stamp base : ℕ) → base ≤ 2 ^ 62 → heard LoadCommits (commits_reply stamp base) ≡ Commits (record { stamp = stamp; finished = upto base })
hears_commits stamp base few = ap (commits_in stamp) (set_again (upto base) (fits_upto base few))

no_bytes : read_cell [] ≡ Some []
unfolding read_cell
no_bytes = refl

hears_nothing : heard (LoadRecord (key 1)) (reply.Store (answered.Cell 0 [])) ≡ cell_is 0 []
hears_nothing = ap (record_in 0) no_bytes

fits_recovery : FitsRow (with_balance 1 10)
fits_recovery = record { count = omega arith; short = (tt, (tt, tt)); values = (fits_account 1 10 refl refl).values }

fits_version : FitsVersion (version 1 1 10)
fits_version = record { tid = omega arith; change = record { fits = fits_recovery; short = ltb-true 19 (2 ^ 16) refl } }

fits_cell : FitsCell (version 1 1 10 ∷ [])
fits_cell = record { cell = record { distinct = refl; fit = All-from_recursion FitsVersion (version 1 1 10 ∷ []) (fits_version, tt) }; count = omega arith }

abbrev record_reply : ℕ → Reply
record_reply stamp = reply.Store (answered.Cell stamp (cells.spelling (version 1 1 10 ∷ [])))

hears_record : (stamp : ℕ) → heard (LoadRecord (key 1)) (record_reply stamp) ≡ cell_is stamp (version 1 1 10 ∷ [])
hears_record stamp = ap (record_in stamp) (cell_again (version 1 1 10 ∷ []) fits_cell)

-- ---- the script

abbrev pub script_one : Script
script_one = record { catalog = catalog_t; rows = []; sessions = session_one ∷ []; turns = []; vanishes = [] }

abbrev pub managed : Ask → ManagerReply → List Entry → Turn
managed ask answered_so entries = record { ask = ask; reply = reply.Manager answered_so; hears = Told answered_so; entries = entries }

abbrev pub stored_at : Ask → ℕ → List Entry → Turn
stored_at ask stamp entries = record { ask = ask; reply = reply.Store (answered.Stored stamp); hears = Stored stamp; entries = entries }

abbrev pub loads_commits : ℕ → ℕ → List Entry → Turn
loads_commits stamp base entries =
    record { ask = LoadCommits; reply = commits_reply stamp base; hears = Commits (record { stamp = stamp; finished = upto base }); entries = entries }

abbrev entry_one : Flag → LogEntry
entry_one f = record { tid = 1; node = 1; flag = f; writes = key 1 ∷ [] }

abbrev turns_begin : List Turn
turns_begin =
    loads_commits 1 0 (entry.Asked 1 ∷ []) ∷ managed (AskManager 0 (manager.Begin 1 (upto 0))) told.NeedRange []
    ∷ record { ask = DrawNumbers; reply = reply.Store (answered.Count 0); hears = Numbers 0; entries = [] }
    ∷ managed (AskManager 0 (manager.Range 1 16)) told.Ranged []
    ∷ managed (AskManager 0 (manager.Begin 1 (upto 0))) (told.Began 1 (upto 0) (upto 0)) (entry.Began 1 1 1 ∷ []) ∷ []

abbrev turn_insert : Turn
turn_insert =
    record { ask = LoadRecord (key 1); reply = reply.Store (answered.Cell 0 []); hears = cell_is 0 []; entries = waits 1 1 insert_one (answer.Changed 1) ∷ [] }

abbrev turns_commit : List Turn
turns_commit =
    stored_at (StoreLog 0 (entry_one flag.Trying)) 2 (entry.Tried 1 ∷ [])
    ∷ record { ask = LoadRecord (key 1); reply = reply.Store (answered.Cell 0 []); hears = cell_is 0 []; entries = [] }
    ∷ stored_at (StoreRecord (key 1) 0 (version 1 1 10 ∷ [])) 3 [] ∷ stored_at (StoreLog 2 (entry_one flag.Decided)) 4 []
    ∷ loads_commits 1 0 [] ∷ stored_at (StoreCommits 1 (upto 1)) 5 (entry.Committed 1 ∷ [])
    ∷ managed (AskManager 0 (manager.End 1)) told.Ended (entry.Answered 1 1 (answer.Changed 1) ∷ [])
    ∷ loads_commits 5 1 (entry.Asked 1 ∷ []) ∷ managed (AskManager 0 (manager.Begin 1 (upto 1))) (told.Began 2 (upto 1) (upto 1)) (entry.Began 1 2 2 ∷ []) ∷ []

abbrev turn_select : Turn
turn_select =
    record { ask = LoadRecord (key 1); reply = record_reply 3; hears = cell_is 3 (version 1 1 10 ∷ []); entries = waits 1 2 select_one one_row ∷ [] }

abbrev turns_end : List Turn
turns_end =
    loads_commits 5 1 (entry.Tried 2 ∷ []) ∷ stored_at (StoreCommits 5 (upto 2)) 6 (entry.Committed 2 ∷ [])
    ∷ managed (AskManager 0 (manager.End 2)) told.Ended (entry.Answered 1 2 one_row ∷ []) ∷ []

abbrev pub turns_one : List Turn
turns_one = turns_begin ++ (turn_insert ∷ (turns_commit ++ (turn_select ∷ turns_end)))

abbrev pub events_one : List Event
events_one = map (event_of by_default script_one 1) turns_one

-- the events before a turn
abbrev past_of : List Turn → List Event
past_of turns = map (event_of by_default script_one 1) turns

abbrev past_select : List Event
past_select = past_of (turns_begin ++ (turn_insert ∷ turns_commit))

abbrev past_insert : List Event
past_insert = past_of turns_begin

-- a turn whose access or change doesn't compute, and those behind it
ends_ok : TurnsOk by_default script_one 1 (past_select ++ event_of by_default script_one 1 turn_select ∷ []) selected_one turns_end
ends_ok = (
  record { asks_so = refl; hears_so = hears_commits 5 1 (omega arith); own = refl; means = tt; tells = refl },
  (
    _,
    refl,
    refl,
    refl,
    (
      record { asks_so = refl; hears_so = refl; own = refl; means = tt; tells = refl },
      (
        _,
        refl,
        refl,
        refl,
        (
          record { asks_so = refl; hears_so = refl; own = refl; means = tt; tells = refl },
          (
            _,
            refl,
            refl,
            refl,
            tt,
          ),
        ),
      ),
    ),
  ),
)

-- what the query prints of its one row
row_selected : selected query_one ((with_balance 1 10 ∷ []) ∷ []) ≡ with_balance 1 10 ∷ []
row_selected = ap (λ (b : Bool). filter_by b) (lets_equal 0 1 (with_balance 1 10))
  where
    filter_by : Bool → List Row
    filter_by b = if b then with_balance 1 10 ∷ [] else []

abbrev line_one : Line
line_one = record { keys = []; printed = with_balance 1 10 }

lines_so : lines_of query_one (with_balance 1 10 ∷ []) ≡ Some (line_one ∷ [])
unfolding lines_of
lines_so =
    λ i. each (λ (rows : List Row). with_keys [] (first_of rows) (before (value_of_place 0 (first_of rows) i) (before (value_of_place 1 (first_of rows) i) (Some []))))
    (groups query_one (with_balance 1 10 ∷ []))

seen_so : tables_seen catalog_t (0 ∷ []) [] ((with_balance 1 10 ∷ []) ∷ []) ≡ (with_balance 1 10 ∷ []) ∷ []
seen_so = ap (λ (es : List (Key × Row)). map (λ (e : Key × Row). e.1) es ∷ []) (records_so 0 table_t (with_balance 1 10 ∷ []))

select_means : QueryAnswers query_one (tables_seen catalog_t (0 ∷ []) [] ((with_balance 1 10 ∷ []) ∷ [])) one_row
select_means = (
  line_one ∷ [],
  ap (λ (ts : List (List Row)). lines_of query_one (selected query_one ts)) seen_so ∙ ap (lines_of query_one) row_selected ∙ lines_so,
  record { ranked = line_one ∷ []; permutation = IsPermutation-refl (line_one ∷ []); sorted = λ k d low below. absurd (omega arith); shown = refl },
)

select_ok : TurnOk by_default script_one 1 past_select selecting_one turn_select
select_ok =
    record {
      asks_so = ap (λ (a : Access). Some (asks_read (reads_by a).left)) (access_equal 1);
      hears_so = hears_record 3;
      own = refl;
      means = subst (λ (a : Access). MeansRead catalog_t select_one (select_txn Fresh)
          (after_reply by_default (upto 1) (reads_by a) (reads_by a).left (cell_is 3 (version 1 1 10 ∷ []))) one_row) (sym (access_equal 1)) select_means;
      tells = sym (ap (λ (a : Access). says_read selecting_one select_one (select_txn Fresh)
          (after_reply by_default (upto 1) (reads_by a) (reads_by a).left (cell_is 3 (version 1 1 10 ∷ []))) one_row) (access_equal 1));
    }

commit_ok : TurnsOk by_default script_one 1 (past_insert ++ event_of by_default script_one 1 turn_insert ∷ []) inserted_one (turns_commit ++ (turn_select ∷ turns_end))
commit_ok = (
  record { asks_so = refl; hears_so = refl; own = refl; means = tt; tells = refl },
  (
    _,
    refl,
    refl,
    refl,
    (
      record { asks_so = refl; hears_so = hears_nothing; own = refl; means = tt; tells = refl },
      (
        _,
        refl,
        refl,
        refl,
        (
          record { asks_so = refl; hears_so = refl; own = refl; means = tt; tells = refl },
          (
            _,
            refl,
            refl,
            refl,
            (
              record { asks_so = refl; hears_so = refl; own = refl; means = tt; tells = refl },
              (
                _,
                refl,
                refl,
                refl,
                (
                  record { asks_so = refl; hears_so = hears_commits 1 0 (omega arith); own = refl; means = tt; tells = refl },
                  (
                    _,
                    refl,
                    refl,
                    refl,
                    (
                      record { asks_so = refl; hears_so = refl; own = refl; means = tt; tells = refl },
                      (
                        _,
                        refl,
                        refl,
                        refl,
                        (
                          record { asks_so = refl; hears_so = refl; own = refl; means = tt; tells = refl },
                          (
                            _,
                            refl,
                            refl,
                            refl,
                            (
                              record { asks_so = refl; hears_so = hears_commits 5 1 (omega arith); own = refl; means = tt; tells = refl },
                              (
                                _,
                                refl,
                                refl,
                                refl,
                                (
                                  record { asks_so = refl; hears_so = refl; own = refl; means = tt; tells = refl },
                                  (
                                    _,
                                    refl,
                                    refl,
                                    refl,
                                    (select_ok, (selected_one, selects_one.comes_to, refl, refl, ends_ok)),
                                  ),
                                ),
                              ),
                            ),
                          ),
                        ),
                      ),
                    ),
                  ),
                ),
              ),
            ),
          ),
        ),
      ),
    ),
  ),
)

insert_ok : TurnOk by_default script_one 1 past_insert begun_one turn_insert
insert_ok =
    record {
      asks_so = refl;
      hears_so = hears_nothing;
      own = refl;
      means = ap (λ (is_there : Key → Bool). told_of (judged table_t is_there [] (Add (key 1) (with_balance 1 10) ∷ []) nothing))
          (λ i k. is_some {T = List Value} (finmap.get-empty {X = List Value} key_cmp k i));
      tells = refl;
    }

turns_ok : TurnsOk by_default script_one 1 [] start_one turns_one
turns_ok = (
  record { asks_so = refl; hears_so = hears_commits 1 0 (omega arith); own = refl; means = tt; tells = refl },
  (
    _,
    refl,
    refl,
    refl,
    (
      record { asks_so = refl; hears_so = refl; own = refl; means = tt; tells = refl },
      (
        _,
        refl,
        refl,
        refl,
        (
          record { asks_so = refl; hears_so = refl; own = refl; means = tt; tells = refl },
          (
            _,
            refl,
            refl,
            refl,
            (
              record { asks_so = refl; hears_so = refl; own = refl; means = tt; tells = refl },
              (
                _,
                refl,
                refl,
                refl,
                (
                  record { asks_so = refl; hears_so = refl; own = refl; means = tt; tells = refl },
                  (
                    _,
                    refl,
                    refl,
                    refl,
                    (insert_ok, (inserted_one, inserts_one, refl, refl, commit_ok)),
                  ),
                ),
              ),
            ),
          ),
        ),
      ),
    ),
  ),
)

-- its events are those of its script
accepts_so : Along (λ (past : List Event) (e : Event). IsEvent script_one by_default past e × IsWhole script_one by_default past e) [] events_one
accepts_so = accepted by_default script_one 1 session_one refl [] start_one turns_one refl refl refl turns_ok

pub accepts_session : Along (IsEvent script_one by_default) [] events_one
accepts_session = along_first (IsEvent script_one by_default) (IsWhole script_one by_default) [] events_one accepts_so

-- and tell its entries
pub entries_session : entries_told events_one ≡ told_one
entries_session = refl

-- ---- its events are a journal

calls_so : AllByRecursion (λ (e : Event). IsCall e.place e.request e.reply) events_one
calls_so =
    (tt, (tt, (tt, (tt, (tt, (tt, (tt, (tt, (tt, (tt, (tt, (tt, (tt, (tt, (tt, (tt, (tt, (tt, (tt, tt)))))))))))))))))))

shards_serve : (s : ℕ) → s < 4 → ShardServes 0 (shard_log by_default (setup_of script_one by_default) s events_one)
shards_serve zero low = tt
shards_serve (suc zero) low =
    (refl, (refl, (refl, (refl, (refl, (refl, (refl, (refl, (refl, (refl, (refl, (refl, (refl, tt)))))))))))))
shards_serve (suc (suc zero)) low = (refl, tt)
shards_serve (suc (suc (suc zero))) low = tt
shards_serve (suc (suc (suc (suc s)))) low = absurd (omega arith)

managers_serve : (m : ℕ) → m < 1 → ManagerServes (manager_log m events_one)
managers_serve zero low =
    (refl, (refl, (refl, (refl, (refl, (refl, tt))))))
managers_serve (suc m) low = absurd (omega arith)

ends_so : Along (EndsAt script_one by_default) [] events_one
ends_so =
    (inr (refl, (refl, ltb-true 0 20000 refl)), (inr (refl, (refl, ltb-true 1 20000 refl)), (inr (refl, (refl, ltb-true 2 20000 refl)), (inr (refl, (refl, ltb-true 3 20000 refl)), (inr (refl, (refl, ltb-true 4 20000 refl)), (inr (refl, (refl, ltb-true 5 20000 refl)), (inr (refl, (refl, ltb-true 6 20000 refl)), (inr (refl, (refl, ltb-true 7 20000 refl)), (inr (refl, (refl, ltb-true 8 20000 refl)), (inr (refl, (refl, ltb-true 9 20000 refl)), (inr (refl, (refl, ltb-true 10 20000 refl)), (inr (refl, (refl, ltb-true 11 20000 refl)), (inr (refl, (refl, ltb-true 12 20000 refl)), (inr (refl, (refl, ltb-true 13 20000 refl)), (inr (refl, (refl, ltb-true 14 20000 refl)), (inr (refl, (refl, ltb-true 15 20000 refl)), (inr (refl, (refl, ltb-true 16 20000 refl)), (inr (refl, (refl, ltb-true 17 20000 refl)), (inr (refl, (refl, ltb-true 18 20000 refl)), tt)))))))))))))))))))

answered_so : Along (λ (past : List Event) (e : Event). is_refusal e.reply ≡ false) [] events_one
answered_so =
    (refl, (refl, (refl, (refl, (refl, (refl, (refl, (refl, (refl, (refl, (refl, (refl, (refl, (refl, (refl, (refl, (refl, (refl, (refl, tt)))))))))))))))))))

next_so : Along (IsNext script_one by_default) [] events_one
next_so =
    (inr (tt, refl), (inr ((refl, refl, refl), refl), (inr ((refl, refl, refl), refl), (inr ((refl, refl, refl), refl), (inr ((refl, refl, refl), refl), (inr ((refl, refl, refl), refl), (inr ((refl, refl, refl), refl), (inr ((refl, refl, refl), refl), (inr ((refl, refl, refl), refl), (inr ((refl, refl, refl), refl), (inr ((refl, refl, refl), refl), (inr ((refl, refl, refl), refl), (inr ((refl, refl, refl), refl), (inr ((refl, refl, refl), refl), (inr ((refl, refl, refl), refl), (inr ((refl, refl, refl), refl), (inr ((refl, refl, refl), refl), (inr ((refl, refl, refl), refl), (inr ((refl, refl, refl), refl), tt)))))))))))))))))))

in_turn_so : Along (InTurn script_one by_default) [] events_one
in_turn_so = in_turn_whole script_one by_default events_one (along_second (IsEvent script_one by_default) (IsWhole script_one by_default) [] events_one accepts_so) next_so

pub journal_session : IsJournal script_one by_default events_one
journal_session =
    record {
      trace = record { served = record { calls = calls_so; shards = shards_serve; managers = managers_serve }; events_are = accepts_session };
      ends = ends_so;
      answered = answered_so;
      in_turn = λ e. in_turn_so;
    }

-- its script is one that the reader lets through
table_fits : TableFits table_t
table_fits =
    record {
      keyed = record { columns = (omega arith, tt); some = refl; not_null = (refl, tt) };
      once = (refl, tt);
      key = omega arith;
      columns = omega arith;
      indexes = tt;
      few = omega arith;
    }

insert_fits : StatementFits catalog_t insert_one
insert_fits =
    record {
      suits = record { table = omega arith; change = (record { width = refl; values = (fits_account 1 10 refl refl).values; kinds = refl }, tt) };
      written = omega arith;
    }

-- a column is printed
place_fits : (at : ℕ) → has_column (same_kind kind.Int) table_t.columns at ≡ true → output_fits table_t.columns (output.Expression (expression.Place at)) ≡ true
place_fits at e =
    ap (λ (g : Kind → Bool). list_any g every_kind) (kind_of_place table_t.columns at)
    ∙ ap (λ (b : Bool). b || list_any (λ k. has_column (same_kind k) table_t.columns at) (kind.Text ∷ kind.Bool ∷ [])) e

select_fits : StatementFits catalog_t select_one
select_fits =
    record {
      some = omega arith;
      few = omega arith;
      tables = (omega arith, tt);
      starts = refl;
      ons = refl;
      passes = alike_test table_t.columns (side.Place 0) comparison.Equal (side.Literal (number 1));
      group = refl;
      prints = omega arith;
      outputs = λ i. place_fits 0 refl i && (place_fits 1 refl i && true);
      sort = refl;
      grouped = λ e. absurd cc;
    }

bound_one : IsBound script_one by_default
bound_one =
    record {
      some = omega arith;
      few = omega arith;
      tables = (table_fits, tt);
      nodes = ((omega arith, omega arith), tt);
      sessions = (refl, tt);
      statements = ((insert_fits, (select_fits, tt)), tt);
      turns = tt;
      vanishes = tt;
      counts = tt;
      opening = tt;
      writes = tt;
      distinct = refl;
    }

pub run_session : IsRun script_one by_default events_one
run_session =
    record { bound = bound_one; shards = omega arith; few_shards = omega arith; managers = omega arith; few_managers = omega arith; few = ltb-true 19 (2 ^ 32) refl; trace = journal_session.trace }
