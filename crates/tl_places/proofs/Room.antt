-- Each cell of the opening is new, and its shard has a stamp for it.
use Rattle.std.proofs.Common.{◌≡◌, ◌≢◌, ℕ, ◌+◌, ◌<◌, ◌^◌, ◌==◌, Bool, true, false, cond, List, [], ◌∷◌, ◌++◌, Option, Some, None, length, map, filter, refl, sym, ap, subst, ◌∙◌, arith}
use Rattle.std.specs.FinMap as finmap
use Rattle.std.specs.FinMap.Entries.{below_all, find, is_sorted}
use Rattle.std.specs.List.{AllByRecursion}
use Rattle.std.specs.Ordering.{is_eq, is_lt}
use Rattle.std.specs.Prelude.{unwrap_or}
use Rattle.std.proofs.lemmas.Bool.{and_parts, false≢true}
use Rattle.std.proofs.lemmas.List.{length-map, length-append}
use Rattle.std.proofs.lemmas.List.Sums.{count_by-le-length, length-filter}
use Rattle.tl_lemmas.proofs.Lists.{all_filter}
use Rattle.tl_lemmas.proofs.Orders.{less_differs}
use Rattle.tl_cells.specs.Cells.{ShardState, absent}
use Rattle.tl_cells.specs.Place.{shard_of_key}
use Rattle.tl_cells.specs.Serves.{Call, cell_at, stores}
use Rattle.tl_cells.specs.declared.cell.Cell.{Cell}
use Rattle.tl_cells.proofs.Log.{reply_of-log}
use Rattle.tl_base.specs.declared.store.StoreRequest.TheVariants as request
use Rattle.tl_values.specs.declared.value.Value.{Value}
use Rattle.tl_write.specs.Own.{key_cmp}
use Rattle.tl_write.specs.Tables.{Tables}
use Rattle.tl_write.proofs.Keys.{key_eq, key_itself, sorted_entries}
use Rattle.tl_journal.specs.Bytes.{commits_key}
use Rattle.tl_journal.specs.Journal.{stores_from}
use Rattle.tl_journal.specs.Served.{is_record_key}
use Rattle.tl_places.specs.Opening.{HaveRoom, HaveStored, Stored, commits_cell, row_cell}
use Rattle.tl_places.proofs.Stores.{stores_counted}

abbrev Entry : Type 0
Entry = List ℕ × List Value

-- ---- cells of which no two have one key

abbrev IsOther : List ℕ → Stored → Type 0
IsOther key c = c.0 ≢ key

-- no key stands again behind its first place
abbrev StandOnce : List Stored → Type 0
StandOnce [] = Unit {0}
StandOnce (c ∷ cs) = AllByRecursion (λ (d : Stored). c.0 ≢ d.0) cs × StandOnce cs

at_middle : (P : Stored → Type 0) (front : List Stored) (c : Stored) (rest : List Stored) → AllByRecursion P (front ++ c ∷ rest) → P c
at_middle P [] c rest h = h.0
at_middle P (d ∷ front) c rest h = at_middle P front c rest h.1

-- so a key differs from those before it
others_before : (front : List Stored) (c : Stored) (rest : List Stored) → StandOnce (front ++ c ∷ rest) → AllByRecursion (IsOther c.0) front
others_before [] c rest h = tt
others_before (d ∷ front) c rest h = (at_middle (λ (x : Stored). d.0 ≢ x.0) front c rest h.0, others_before front c rest h.1)

less_other : (k l : List ℕ) → is_lt (key_cmp k l) ≡ true → k ≢ l
less_other k l less = λ (same : k ≡ l).
    false≢true (sym (less_differs (key_cmp k l) less) ∙ ap (λ (x : List ℕ). is_eq (key_cmp k x)) (sym same) ∙ key_itself k)

below_others : (k : List ℕ) (es : List Entry) → below_all key_cmp k es ≡ true → AllByRecursion (λ (d : Stored). k ≢ d.0) (map row_cell es)
below_others k [] h = tt
below_others k (e ∷ es) h =
    let parts = and_parts (is_lt (key_cmp k e.0)) (below_all key_cmp k es) h in
    (less_other k e.0 parts.0, below_others k es parts.1)

rows_once : (es : List Entry) → is_sorted key_cmp es ≡ true → StandOnce (map row_cell es)
rows_once [] h = tt
rows_once (e ∷ es) h =
    let parts = and_parts (below_all key_cmp e.0 es) (is_sorted key_cmp es) h in
    (below_others e.0 es parts.0, rows_once es parts.1)

-- the commits cell's key is no record key
no_record : (es : List Entry) → AllByRecursion (λ (e : Entry). is_record_key e.0 ≡ true) es → AllByRecursion (λ (d : Stored). commits_key ≢ d.0) (map row_cell es)
no_record [] h = tt
no_record (e ∷ es) h = (λ (same : commits_key ≡ e.0). false≢true (ap is_record_key same ∙ h.0), no_record es h.1)

-- ---- a key that none of the stored cells has

abbrev IsOtherStore : List ℕ → List ℕ × Cell → Type 0
IsOtherStore key e = e.0 ≢ key

other_tie : (key k : List ℕ) → k ≢ key → is_eq (key_cmp key k) ≡ false
other_tie key k other = by (is_eq (key_cmp key k)) refl
  where
    by : (b : Bool) → is_eq (key_cmp key k) ≡ b → b ≡ false
    by true e = absurd (other (sym (key_eq key k e)))
    by false e = refl

not_behind : (key : List ℕ) (es : List (List ℕ × Cell)) (k : List ℕ) (cell : Cell) → find key_cmp key es ≡ None → k ≢ key → find key_cmp key (es ++ (k, cell) ∷ []) ≡ None
not_behind key [] k cell none other = ap (λ (b : Bool). cond b (Some cell) None) (other_tie key k other)
not_behind key (e ∷ es) k cell none other = by (is_eq (key_cmp key e.0)) none (λ (h : find key_cmp key es ≡ None). not_behind key es k cell h other)
  where
    by : (b : Bool) → cond b (Some e.1) (find key_cmp key es) ≡ None → (find key_cmp key es ≡ None → find key_cmp key (es ++ (k, cell) ∷ []) ≡ None)
        → cond b (Some e.1) (find key_cmp key (es ++ (k, cell) ∷ [])) ≡ None
    by true h rest = absurd cc
    by false h rest = rest h

not_stored : (key : List ℕ) (stamp : ℕ) (stored : List Stored) → AllByRecursion (IsOther key) stored → find key_cmp key (stores (stores_from stamp stored)) ≡ None
not_stored key stamp [] h = refl
not_stored key stamp (c ∷ stored) h =
    not_behind key (stores (stores_from (stamp + 1) stored)) c.0 (record { stamp = stamp + 1; value = c.1 }) (not_stored key (stamp + 1) stored h.1) h.0

-- ---- room

pub has_room : (count : ℕ) (stored : List Stored) (shards : List ShardState) (key : List ℕ) → HaveStored count stored shards
    → AllByRecursion (IsOther key) stored → length stored < 2 ^ 62 → HaveRoom count key shards
has_room count stored shards key h others few = λ state e.
    let lives : Stored → Bool = λ (c : Stored). shard_of_key c.0 count == shard_of_key key count in
    let here : List Stored = filter lives stored in
    let log : List Call = stores_from 0 here in
    let matches = (h.each (shard_of_key key count) state e).matches in
    let none : find key_cmp key (stores log) ≡ None =
    not_stored key 0 here (all_filter (IsOther key) (IsOther key) lives (λ (c : Stored) l o. o) stored others) in
    let found : (cell_at log key).stamp ≡ 0 = ap (λ (o : Option Cell). (unwrap_or o absent).stamp) none in
    let read = reply_of-log 0 log state (request.Load key) matches in
    let last : state.last ≡ 0 + length (stores log) = matches.last in
    let counted : length (stores log) ≡ length here = stores_counted 0 here in
    let kept = length-filter lives stored in
    let fewer = count_by-le-length lives stored in
    record { absent = cc; stamps = omega arith }

-- as the store is empty
pub room_first : (count : ℕ) (shards : List ShardState) (key : List ℕ) → HaveStored count [] shards → HaveRoom count key shards
room_first count shards key h = has_room count [] shards key h tt (omega arith)

-- for the row that comes next
pub room_next : (count : ℕ) (stored : List Stored) (shards : List ShardState) (left rest : List Entry) (e : Entry) (rows : Tables) (key : List ℕ)
    → HaveStored count stored shards → left ≡ e ∷ rest → stored ++ map row_cell left ≡ commits_cell ∷ map row_cell (finmap.entries rows)
    → AllByRecursion (λ (e : Entry). is_record_key e.0 ≡ true) (finmap.entries rows) → finmap.len rows < 2 ^ 61 → key ≡ e.0
    → HaveRoom count key shards
room_next count stored shards left rest e rows key h is all records few same =
    let es : List Entry = finmap.entries rows in
    let whole : stored ++ row_cell e ∷ map row_cell rest ≡ commits_cell ∷ map row_cell es =
    ap (λ (l : List Entry). stored ++ map row_cell l) (sym is) ∙ all in
    let once : StandOnce (commits_cell ∷ map row_cell es) = (no_record es records, rows_once es (sorted_entries rows)) in
    let others = others_before stored (row_cell e) (map row_cell rest) (subst StandOnce (sym whole) once) in
    let counted : length stored + length (row_cell e ∷ map row_cell rest) ≡ length (commits_cell ∷ map row_cell es) =
    sym (length-append stored (row_cell e ∷ map row_cell rest)) ∙ ap length whole in
    let entries : length (map row_cell es) ≡ length es = length-map es row_cell in
    let len : finmap.len rows ≡ length es = finmap.len-entries rows in
    has_room count stored shards key h (subst (λ (k : List ℕ). AllByRecursion (IsOther k) stored) (sym same) others) (omega arith)
