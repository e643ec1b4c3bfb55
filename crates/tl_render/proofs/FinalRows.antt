-- At the end of a run the rows that the store shows are those of the tables after all commits.
use Rattle.std.proofs.Common.{◌≡◌, ℕ, Bool, true, false, cond, List, [], ◌∷◌, Option, Some, None, IsSome, is_some, length, map, append-nil, refl, sym, ap, ◌∙◌, subst, arith}
use Rattle.std.proofs.lemmas.Bool.{and_parts, false≢true}
use Rattle.std.proofs.lemmas.List.{take_all}
use Rattle.std.specs.Prelude.{if◌then◌else◌}
use Rattle.std.specs.Cmp.Lexicographic.{nat_list_cmp_total}
use Rattle.std.specs.FinMap as finmap
use Rattle.std.specs.FinMap.{nat_cmp-IsAntisymmetric, slice_cmp-IsAntisymmetric}
use Rattle.std.specs.FinMap.Entries.{below_all, find, is_sorted}
use Rattle.std.specs.List.{AllByRecursion}
use Rattle.std.proofs.lemmas.Option.{same_Some}
use Rattle.tl_lemmas.proofs.Tests.{held}
use Rattle.tl_base.specs.declared.place.Settings.{Settings}
use Rattle.tl_values.specs.declared.value.Value.{Value}
use Rattle.tl_descriptor.specs.Reading.{read_set}
use Rattle.tl_descriptor.specs.Tids.{TidSet, has}
use Rattle.tl_versions.specs.declared.version.Version.{Version}
use Rattle.tl_versions.specs.Reading.{read_cell}
use Rattle.tl_versions.specs.Versions.{visible}
use Rattle.tl_write.specs.declared.write.Write.{Write}
use Rattle.tl_write.specs.Own.{key_cmp}
use Rattle.tl_write.specs.Tables.{Tables}
use Rattle.tl_isolation.specs.declared.script.Script.{Script}
use Rattle.tl_isolation.specs.declared.state.Commit.{Commit}
use Rattle.tl_isolation.specs.declared.state.SiState.{SiState}
use Rattle.tl_isolation.specs.History.{state_after}
use Rattle.tl_isolation.specs.Script.{setup_of}
use Rattle.tl_isolation.specs.State.{tables_after}
use Rattle.tl_isolation.specs.Tables.{AreHome, opening_writes}
use Rattle.tl_protocol.specs.Run.{opening_versions, opening_world}
use Rattle.tl_protocol.specs.Stands.{StandsFor}
use Rattle.tl_protocol.specs.Store.{Key, last_of, row_of, row_shown, same_key, written}
use Rattle.tl_protocol.specs.World.{World}
use Rattle.tl_protocol.proofs.Proper.{tables_home}
use Rattle.tl_protocol.proofs.Reached.{reached}
use Rattle.tl_protocol.proofs.Standing.{stands_for}
use Rattle.tl_journal.specs.declared.event.Event.{Event}
use Rattle.tl_journal.specs.Binding.{WriteFits}
use Rattle.tl_journal.specs.Bytes.{commits_key}
use Rattle.tl_journal.specs.Journal.{entries_told}
use Rattle.tl_journal.specs.Law.{Holds, IsRun, bytes_at}
use Rattle.tl_journal.specs.Served.{is_record_key, parts_of}
use Rattle.tl_journal.proofs.Journals.{holds_at, stood_at}
use Rattle.tl_journal.proofs.Opens.{layout_of}
use Rattle.tl_journal.proofs.Store.{StoreIs}
use Rattle.tl_journal.proofs.StoreOpening.{opening_store}
use Rattle.tl_places.specs.Opening.{row_writes}
use Rattle.tl_render.specs.Stored.{AreRead, Stored, finished_in, last_stored, row_in, with_cells}
use Rattle.tl_render.proofs.LastStores.{cell_last, events_home, value_over}
use Rattle.tl_render.proofs.ShownRows.{each_found, none_below, other_rows, shown_over, shown_rows}
use Rattle.tl_write.proofs.Keys.{key_eq, key_turned}

abbrev Entry : Type 0
Entry = Key × List Value

-- ---- the opening rows

abbrev row_write : Entry → Write
row_write e = record { key = e.0; row = Some e.1 }

abbrev there : Option (List Value) → Option (Option (List Value))
there None = None
there (Some row) = Some (Some row)

there_none : (row : Option (List Value)) → there row ≡ None → row ≡ None
there_none None e = refl
there_none (Some row) e = absurd cc

last_none : (o : Option (Option (List Value))) → last_of None o ≡ o
last_none None = refl
last_none (Some row) = refl

-- what these writes leave under a key is the row that is found there
written_found : (es : List Entry) (q : Key) → is_sorted key_cmp es ≡ true → written q (map row_write es) ≡ there (find key_cmp q es)
written_found [] q sorted = refl
written_found (e ∷ es) q sorted =
    let parts = and_parts (below_all key_cmp e.0 es) (is_sorted key_cmp es) sorted in
    ap (λ (b : Bool). last_of (if b then Some (Some e.1) else None) (written q (map row_write es))) (key_turned e.0 q)
    ∙ by (same_key q e.0) refl parts.0 (written_found es q parts.1)
  where
    by : (b : Bool) → same_key q e.0 ≡ b → below_all key_cmp e.0 es ≡ true → written q (map row_write es) ≡ there (find key_cmp q es)
        → last_of (if b then Some (Some e.1) else None) (written q (map row_write es)) ≡ there (cond b (Some e.1) (find key_cmp q es))
    by true tied below rest =
        let none : find key_cmp q es ≡ None = ap (λ (k : Key). find key_cmp k es) (key_eq q e.0 tied) ∙ none_below e.0 es below in
        ap (last_of (Some (Some e.1))) (rest ∙ ap there none)
    by false apart below rest = last_none (written q (map row_write es)) ∙ rest

pub sorted_entries : {X : Type 0} (m : finmap.FinMap key_cmp X) → is_sorted key_cmp (finmap.entries m) ≡ true
sorted_entries m = held (is_sorted key_cmp (finmap.entries m)) (finmap.entries_sorted m)

opened_written : (writes : List Write) (opened : Tables) → row_writes opened ≡ writes → (q : Key) → written q writes ≡ there (finmap.get opened q)
opened_written writes opened e q =
    ap (written q) (sym e) ∙ written_found (finmap.entries opened) q (sorted_entries opened) ∙ ap there (sym (finmap.get-entries opened q))

-- nothing is written under the key of no record
unwritten : (q : Key) (ws : List Write) → AllByRecursion WriteFits ws → is_record_key q ≡ false → written q ws ≡ None
unwritten q [] fits other = refl
unwritten q (w ∷ ws) fits other =
    ap (λ (b : Bool). last_of (if b then Some w.row else None) (written q ws)) (apart (same_key w.key q) refl)
    ∙ last_none (written q ws)
    ∙ unwritten q ws fits.1 other
  where
    apart : (b : Bool) → same_key w.key q ≡ b → b ≡ false
    apart true tied = absurd (false≢true (sym other ∙ ap is_record_key (sym (key_eq w.key q tied)) ∙ fits.0.key.is_record))
    apart false e = refl

-- an opening row is shown by each set that has tid 0
opening_shown : (set : TidSet) → has set 0 ≡ true → (row : Option (List Value)) → row_shown set (opening_versions (there row)) ≡ row
opening_shown set h None = refl
opening_shown set h (Some row) =
    let v : Version = record { tid = 0; row = Some row } in
    ap (λ (b : Bool). row_of (if b then Some v else visible set [])) h

-- ---- the end of a run

-- what holds there
record Ends (script : Script) (settings : Settings) (events : List Event) : Type 0 where
  w : World
  holds : Holds script settings events w
  stands : StandsFor w (state_after (setup_of script settings) (entries_told events)) (entries_told events)
  home : AreHome script.catalog (tables_after (state_after (setup_of script settings) (entries_told events)).commits)

ends : (script : Script) (settings : Settings) (events : List Event) → IsRun script settings events → Ends script settings events
ends script settings events run =
    let s = stood_at script settings events [] (subst (IsRun script settings) (sym (append-nil events)) run) in
    let state : SiState = state_after (setup_of script settings) (entries_told events) in
    let r = reached run.bound.opening s.reach in
    record {
      w = s.world;
      holds = holds_at script settings events s;
      stands = stands_for (setup_of script settings) s.world state (entries_told events) r;
      home = subst (λ (commits : List Commit). AreHome script.catalog (tables_after commits)) (take_all (length state.commits) state.commits (omega arith))
          (tables_home script.catalog state r.proper (length state.commits));
    }

module _ (script : Script) (settings : Settings) (events : List Event) (run : IsRun script settings events) where
  opens : StoreIs settings (setup_of script settings) [] (parts_of (opening_world (layout_of script settings) (setup_of script settings)))
  opens = opening_store settings (setup_of script settings) (layout_of script settings) (λ k. refl) refl run.bound.writes

  bytes_last : (q : Key) → bytes_at script settings events q ≡ value_over (last_stored events q) (bytes_at script settings [] q)
  bytes_last q = cell_last settings (setup_of script settings) [] events (events_home script settings [] events run.trace.events_are) q

  -- the set is the one of the commits cell
  set_is : (finished : TidSet) → read_set (bytes_at script settings events commits_key) ≡ Some finished → finished_in (last_stored events commits_key) ≡ Some finished
  set_is finished h = by (last_stored events commits_key) (bytes_last commits_key)
    where
      by : (o : Option (List ℕ)) → bytes_at script settings events commits_key ≡ value_over o (bytes_at script settings [] commits_key) → finished_in o ≡ Some finished
      by None e = sym opens.holds.commits.read ∙ ap read_set (sym e) ∙ h
      by (Some bytes) e = ap read_set (sym e) ∙ h

  -- it is read,
  pub finished_read : IsSome (finished_in (last_stored events commits_key))
  finished_read =
      let e = ends script settings events run in
      ap is_some (set_is e.w.commits.finished e.holds.commits)

  -- and so is each record's cell
  pub each_read : (cells : List Stored) → is_sorted key_cmp cells ≡ true → ((q : Key) → find key_cmp q cells ≡ last_stored events q) → AreRead cells
  each_read cells sorted last =
      let e = ends script settings events run in
      each_found (λ (c : Stored). is_record_key c.0 ≡ true → IsSome (read_cell c.1)) cells sorted
      (λ (c : Stored) found is.
      let bytes : bytes_at script settings events c.0 ≡ c.1 =
      bytes_last c.0 ∙ ap (λ (o : Option (List ℕ)). value_over o (bytes_at script settings [] c.0)) (sym (last c.0) ∙ found) in
      ap is_some (ap read_cell (sym bytes) ∙ e.holds.records c.0 is))

  -- what was stored last in a record's cell shows the row, or else the opening does
  row_is : (set : TidSet) → has set 0 ≡ true → (q : Key) → is_record_key q ≡ true → (versions : List Version) → read_cell (bytes_at script settings events q) ≡ Some versions
      → (row : Option (List Value)) → written q (opening_writes script.catalog script.rows) ≡ there row
      → shown_over set (last_stored events q) row ≡ row_shown set versions
  row_is set zero_in q is versions h row opened = by (last_stored events q) (bytes_last q)
    where
      by : (o : Option (List ℕ)) → bytes_at script settings events q ≡ value_over o (bytes_at script settings [] q) → shown_over set o row ≡ row_shown set versions
      by None e =
          let same : opening_versions (written q (opening_writes script.catalog script.rows)) ≡ versions =
          same_Some (opening_versions (written q (opening_writes script.catalog script.rows))) versions (sym (opens.holds.cells q is).read ∙ ap read_cell (sym e) ∙ h) in
          sym (opening_shown set zero_in row)
          ∙ ap (λ (o : Option (Option (List Value))). row_shown set (opening_versions o)) (sym opened)
          ∙ ap (row_shown set) same
      by (Some bytes) e = ap (row_in set) (ap read_cell (sym e) ∙ h)

abbrev tables_then : Script → Settings → List Event → Tables
tables_then script settings events = tables_after (state_after (setup_of script settings) (entries_told events)).commits

none_home : (script : Script) (tables : Tables) → AreHome script.catalog tables → (q : Key) → is_record_key q ≡ false → (row : Option (List Value)) → finmap.get tables q ≡ row → row ≡ None
none_home script tables home q other None e = refl
none_home script tables home q other (Some row) e = absurd (false≢true (sym other ∙ ap is_record_key (home q row e).own_key))

-- so the rows are those of the tables
pub final_tables : (script : Script) (settings : Settings) (events : List Event) (cells : List Stored) (set : TidSet) (opened rows : Tables)
    → is_sorted key_cmp cells ≡ true → ((q : Key) → find key_cmp q cells ≡ last_stored events q) → finished_in (last_stored events commits_key) ≡ Some set
    → row_writes opened ≡ opening_writes script.catalog script.rows → rows ≡ with_cells set cells opened
    → IsRun script settings events → rows ≡ tables_after (state_after (setup_of script settings) (entries_told events)).commits
final_tables script settings events cells set opened rows sorted last finished opening is run =
    finmap.same_map nat_list_cmp_total (slice_cmp-IsAntisymmetric nat_cmp-IsAntisymmetric) rows (tables_then script settings events)
    (λ q. ap (λ (m : Tables). finmap.get m q) is ∙ by q (is_record_key q) refl)
  where
    e : Ends script settings events
    e = ends script settings events run

    same : set ≡ e.w.commits.finished
    same = same_Some set e.w.commits.finished (sym finished ∙ set_is script settings events run e.w.commits.finished e.holds.commits)

    written_is : (q : Key) → written q (opening_writes script.catalog script.rows) ≡ there (finmap.get opened q)
    written_is q = opened_written (opening_writes script.catalog script.rows) opened opening q

    by : (q : Key) (b : Bool) → is_record_key q ≡ b → finmap.get (with_cells set cells opened) q ≡ finmap.get (tables_then script settings events) q
    by q true i =
        shown_rows set cells opened q sorted i
        ∙ ap (λ (o : Option (List ℕ)). shown_over set o (finmap.get opened q)) (last q)
        ∙ ap (λ (s : TidSet). shown_over s (last_stored events q) (finmap.get opened q)) same
        ∙ row_is script settings events run e.w.commits.finished (e.stands.finished 0) q i (e.w.cells q).versions (e.holds.records q i) (finmap.get opened q) (written_is q)
        ∙ e.stands.now q
    by q false i =
        other_rows set cells opened q i
        ∙ there_none (finmap.get opened q) (sym (written_is q) ∙ unwritten q (opening_writes script.catalog script.rows) run.bound.writes i)
        ∙ sym (none_home script (tables_then script settings events) e.home q i (finmap.get (tables_then script settings events) q) refl)
