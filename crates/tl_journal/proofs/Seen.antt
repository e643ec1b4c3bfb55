-- What a node answers by the rows that it has gathered is what all tables answer that have what was read.
use Rattle.std.proofs.Common.{◌≡◌, ℕ, zero, suc, ◌+◌, Bool, true, false, cond, inl, inr, List, [], ◌∷◌, Option, Some, None, Result, map, filter, length, refl, sym, ap, subst, ◌∙◌, arith}
use Rattle.std.specs.Prelude.{◌==◌, ◌&&◌, ◌||◌, drop, is_some, not, nat_lt}
use Rattle.std.specs.FinMap as finmap
use Rattle.std.specs.List.{AllByRecursion, list_any}
use Rattle.std.specs.Ordering.{is_eq, is_lt}
use Rattle.std.proofs.lemmas.Bool.{and_parts, eqb-true, not-true, or_left, or_right}
use Rattle.tl_lemmas.proofs.Lists.{all_both, all_map, weaker}
use Rattle.tl_values.specs.declared.value.Value.{Value}
use Rattle.tl_values.specs.Key.{key_bytes}
use Rattle.tl_values.specs.Value.{is_null}
use Rattle.tl_values.proofs.KeyOrder.{keys_apart}
use Rattle.tl_schema.specs.declared.access.Access.{Access}
use Rattle.tl_schema.specs.declared.access.Access.TheVariants as access
use Rattle.tl_schema.specs.declared.catalog.Catalog.{Catalog}
use Rattle.tl_schema.specs.declared.catalog.Table.{Table}
use Rattle.tl_schema.specs.Record.{key_values, record_key}
use Rattle.tl_cells.specs.Place.{shard_of_key}
use Rattle.tl_algebra.specs.declared.condition.Condition.{Condition}
use Rattle.tl_algebra.specs.declared.edit.Edit.{Edit}
use Rattle.tl_algebra.specs.declared.edit.Edit.TheVariants.{Insert, Update, Delete}
use Rattle.tl_algebra.specs.declared.query.Join.{Join}
use Rattle.tl_algebra.specs.declared.query.Query.{Query}
use Rattle.tl_algebra.specs.Select.{lines_of, selected}
use Rattle.tl_plan.proofs.Alike.{compares_values}
use Rattle.tl_plan.specs.Access.{access_of, accesses_of, covers, is_below}
use Rattle.tl_plan.specs.Plan.{is_looked_up, longest_key, numbers_of}
use Rattle.tl_plan.specs.Law.{AreRead, IsRead, ReadsAll, is_covered}
use Rattle.tl_plan.proofs.Suffices.{change_part, select_part}
use Rattle.tl_write.specs.declared.fault.ChangeFault.{ChangeFault}
use Rattle.tl_write.specs.declared.write.Effect.{Effect}
use Rattle.tl_write.specs.declared.write.Write.{Write}
use Rattle.tl_write.specs.Change.{number_of}
use Rattle.tl_write.specs.Law.{Has, IsPart}
use Rattle.tl_write.specs.Own.{key_cmp}
use Rattle.tl_write.specs.Tables.{Tables, is_in, laid_over, records_in, tables_of, write_of}
use Rattle.tl_isolation.specs.declared.bound.Bound.TheVariants as bound
use Rattle.tl_isolation.specs.declared.entry.Answer.{Answer}
use Rattle.tl_isolation.specs.declared.entry.Answer.TheVariants as answer
use Rattle.tl_isolation.specs.Meaning.{QueryAnswers, SelectAnswers, change_of, told_of}
use Rattle.tl_isolation.specs.Step.{own_after}
use Rattle.tl_isolation.specs.Queries.{columns_in}
use Rattle.tl_isolation.specs.Tables.{AreHome, FitsTable, IsAccepted, IsHome, Suits, rows_in, table_of}
use Rattle.tl_protocol.specs.Store.{Key, last_of, over, same_key, written}
use Rattle.tl_protocol.specs.World.{Fact, Agrees}
use Rattle.tl_protocol.specs.Move.{Changes}
use Rattle.tl_protocol.proofs.Laid.{get_laid}
use Rattle.tl_protocol.proofs.Homes.{laid_home}
use Rattle.tl_protocol.proofs.Shown.{AreHomeWrites}
use Rattle.tl_journal.specs.Binding.{IsKeyed, TableFits}
use Rattle.tl_journal.specs.Reads.{Read, Point, edit_reads, query_reads, range_of, read_of, reads_of, table_key}
use Rattle.tl_journal.specs.Takes.{own_said, tables_seen, view_changed, view_read}
use Rattle.tl_journal.proofs.Keyed.{key_known, key_of_values, key_short, key_within}
use Rattle.tl_journal.proofs.KeyOrder.{compared_in, in_table}
use Rattle.tl_journal.proofs.Facts.{Among, AreGathered, IsGathered, done, own_key, reach, reaches}
use Rattle.tl_journal.proofs.Records.{each_record, part_records}
use Rattle.tl_journal.proofs.Stated.{StatementOn}
use Rattle.tl_write.proofs.Keys.{key_eq, key_itself}

-- ---- a row that lies within an access is read

range_reached : (shards number : ℕ) (low high bytes : Key) (row : List Value) → is_below bytes low ≡ false → is_below bytes high ≡ true
    → reaches shards (range_of number low high) (table_key number bytes) row ≡ true
range_reached shards number low high bytes row p q =
    on (shard_of_key (table_key number bytes) shards) (is_below (table_key number bytes) (table_key number low)) (is_below (table_key number bytes) (table_key number high))
    (ap is_lt (compared_in number bytes low) ∙ p) (ap is_lt (compared_in number bytes high) ∙ q)
  where
    on : (at : ℕ) (f b : Bool) → f ≡ false → b ≡ true → (b && (((at == 0) && not f) || (nat_lt 0 at && not f))) ≡ true
    on zero f b p q = grind arith
    on (suc at) f b p q = grind arith

covered_reached : (shards number : ℕ) (a : Access) (bytes : Key) (row : List Value) → covers a bytes row ≡ true
    → (is_below bytes (1 ∷ []) ≡ false) × (is_below bytes (4 ∷ []) ≡ true) → reaches shards (read_of number a) (table_key number bytes) row ≡ true
covered_reached shards number (access.Point key) bytes row c w = ap is_eq (compared_in number key bytes) ∙ c
covered_reached shards number (access.KeyRange low high) bytes row c w =
    let parts = and_parts (not (is_below bytes low)) (is_below bytes high) c in
    range_reached shards number low high bytes row (not-true (is_below bytes low) parts.0) parts.1
covered_reached shards number (access.IndexRange index low high) bytes row c w = range_reached shards number (1 ∷ []) (4 ∷ []) bytes row w.0 w.1
covered_reached shards number access.Whole bytes row c w = range_reached shards number (1 ∷ []) (4 ∷ []) bytes row w.0 w.1

-- ---- the rows that were gathered, as tables

-- what is written is what stands there
abbrev Stands : Tables → Key → Option (Option (List Value)) → Type 0
Stands tables k None = Unit {0}
Stands tables k (Some row) = finmap.get tables k ≡ row

abbrev is_there : {A : Type 0} → Option A → Bool
is_there o = is_some o

module _ (number : ℕ) (table : Table) (tables : Tables) where
  abbrev its_writes : List (List Value) → List Write
  its_writes rows = map (write_of number table) rows

  rows_stand : (rows : List (List Value)) (k : Key) → AllByRecursion (λ row. Has tables (record_key number table row) row) rows
      → Stands tables k (written k (its_writes rows))
  rows_stand [] k h = tt
  rows_stand (row ∷ rows) k h =
      one (same_key (record_key number table row) k) (written k (its_writes rows)) refl (rows_stand rows k h.1)
    where
      one : (b : Bool) (later : Option (Option (List Value))) → same_key (record_key number table row) k ≡ b → Stands tables k later
          → Stands tables k (last_of (cond b (Some (Some row)) None) later)
      one true None e s = subst (λ (l : Key). finmap.get tables l ≡ Some row) (key_eq (record_key number table row) k e) h.0
      one false None e s = tt
      one b (Some x) e s = s

  row_written : (rows : List (List Value)) (k : Key) (row : List Value) → Among row rows → record_key number table row ≡ k
      → is_there (written k (its_writes rows)) ≡ true
  row_written [] k row h e = absurd h
  row_written (r ∷ rows) k row (inl same) e =
      one (same_key (record_key number table r) k) (written k (its_writes rows))
      (subst (λ (l : Key). same_key (record_key number table r) l ≡ true) (ap (record_key number table) same ∙ e) (key_itself (record_key number table r)))
    where
      one : (b : Bool) (later : Option (Option (List Value))) → b ≡ true → is_there (last_of (cond b (Some (Some r)) None) later) ≡ true
      one true None h = refl
      one false None h = absurd cc
      one b (Some x) h = refl
  row_written (r ∷ rows) k row (inr h) e =
      one (same_key (record_key number table r) k) (written k (its_writes rows)) (row_written rows k row h e)
    where
      one : (b : Bool) (later : Option (Option (List Value))) → is_there later ≡ true → is_there (last_of (cond b (Some (Some r)) None) later) ≡ true
      one b None h = absurd cc
      one b (Some x) h = refl

no_row : (row : List Value) → ◌≡◌ {A = Option (List Value)} None (Some row) → ⊥
no_row row e = cc

-- a record of this table is one of the table that it is at home in
pub home_number : (catalog : Catalog) (number : ℕ) (k : Key) (row : List Value) → (h : IsHome catalog k row) → is_in number k ≡ true → h.number ≡ number
home_number catalog number k row h i = sym (one number h.number k (key_bytes (key_values (table_of catalog h.number) row)) h.own_key i)
  where
    one : (number m : ℕ) (key bytes : Key) → key ≡ table_key m bytes → is_in number key ≡ true → number ≡ m
    one number m key bytes e i = eqb-true number m (and_parts (number == m) true (ap (is_in number) (sym e) ∙ i)).0

-- a record of this table fits it, and the table accepts it
home_fits : (catalog : Catalog) (number : ℕ) (k : Key) (row : List Value) → IsHome catalog k row → is_in number k ≡ true → FitsTable (table_of catalog number) row
home_fits catalog number k row h i = subst (λ (m : ℕ). FitsTable (table_of catalog m) row) (home_number catalog number k row h i) h.fits

home_accepted : (catalog : Catalog) (number : ℕ) (k : Key) (row : List Value) → IsHome catalog k row → is_in number k ≡ true → IsAccepted (table_of catalog number) row
home_accepted catalog number k row h i = subst (λ (m : ℕ). IsAccepted (table_of catalog m) row) (home_number catalog number k row h i) h.accepted

module _ (shards : ℕ) (catalog : Catalog) (facts : List Fact) (tables : Tables) (home : AreHome catalog tables) (agrees : Agrees tables facts) (own : List Write)
    (own_home : AreHomeWrites catalog own) where
  abbrev whole : Tables
  whole = laid_over tables own

  whole_home : AreHome catalog whole
  whole_home = laid_home catalog tables own home own_home

  module _ (number : ℕ) (all : List Read) (rows : List (List Value)) (g : IsGathered shards catalog facts number all (done rows)) where
    abbrev table : Table
    table = table_of catalog number

    abbrev gathered : Tables
    gathered = tables_of number table rows

    abbrev view : Tables
    view = view_read catalog number own rows

    abbrev writes : List Write
    writes = map (write_of number table) rows

    get_gathered : (k : Key) (o : Option (Option (List Value))) → written k writes ≡ o → finmap.get gathered k ≡ over o None
    get_gathered k o e =
        get_laid finmap.empty writes k
        ∙ ap (λ (x : Option (Option (List Value))). over x (finmap.get (finmap.empty {K = Key} {X = List Value} {R = key_cmp}) k)) e
        ∙ ap (over o) (finmap.get-empty key_cmp k)

    stands : (k : Key) (o : Option (Option (List Value))) → written k writes ≡ o → Stands tables k o
    stands k o e = subst (Stands tables k) e (rows_stand number table tables rows k (g.sound tables home agrees))

    gathered_part : (k : Key) (row : List Value) → Has gathered k row → Has tables k row
    gathered_part k row h = one (written k writes) refl
      where
        one : (o : Option (Option (List Value))) → written k writes ≡ o → Has tables k row
        one None e = absurd (no_row row (sym (get_gathered k None e) ∙ h))
        one (Some x) e = stands k (Some x) e ∙ sym (get_gathered k (Some x) e) ∙ h

    gathered_has : (k : Key) (row : List Value) → Has tables k row → reach shards all k row ≡ true → Has gathered k row
    gathered_has k row h r =
        let c = g.complete tables home agrees k row h r refl in
        one (written k writes) refl (row_written number table tables rows k row c.0 c.1)
      where
        one : (o : Option (Option (List Value))) → written k writes ≡ o → is_there o ≡ true → Has gathered k row
        one None e i = absurd cc
        one (Some x) e i = get_gathered k (Some x) e ∙ sym (stands k (Some x) e) ∙ h

    get_view : (k : Key) → finmap.get view k ≡ over (written k own) (finmap.get gathered k)
    get_view k = get_laid gathered own k

    get_whole : (k : Key) → finmap.get whole k ≡ over (written k own) (finmap.get tables k)
    get_whole k = get_laid tables own k

    -- what the node sees is so
    view_part : IsPart view whole
    view_part k row h = get_whole k ∙ one (written k own) (sym (get_view k) ∙ h)
      where
        one : (o : Option (Option (List Value))) → over o (finmap.get gathered k) ≡ Some row → over o (finmap.get tables k) ≡ Some row
        one None e = gathered_part k row e
        one (Some x) e = e

    -- and it sees each row that the reads reach
    view_has : (k : Key) (row : List Value) → (Has tables k row → reach shards all k row ≡ true) → Has whole k row → Has view k row
    view_has k row r h = get_view k ∙ one (written k own) (sym (get_whole k) ∙ h)
      where
        one : (o : Option (Option (List Value))) → over o (finmap.get tables k) ≡ Some row → over o (finmap.get gathered k) ≡ Some row
        one None e = gathered_has k row e (r e)
        one (Some x) e = e

    module _ (keyed : IsKeyed table) where
      -- a row of the table that lies within the access of the one read
      access_reached : (a : Access) → all ≡ read_of number a ∷ [] → (k : Key) (row : List Value) → IsHome catalog k row → is_in number k ≡ true → is_covered table a row ≡ true
          → reach shards all k row ≡ true
      access_reached a e k row h i c =
          let same : record_key number table row ≡ k =
          ap (λ (m : ℕ). record_key m (table_of catalog m) row) (sym (home_number catalog number k row h i)) ∙ sym h.own_key in
          subst (λ (reads : List Read). reach shards reads k row ≡ true) (sym e)
          (or_left (reaches shards (read_of number a) k row) false
          (subst (λ (l : Key). reaches shards (read_of number a) l row ≡ true) same
          (covered_reached shards number a (key_bytes (key_values table row)) row c (key_within table row keyed (home_accepted catalog number k row h i)))))

      covered_seen : (a : Access) → all ≡ read_of number a ∷ [] → (k : Key) (row : List Value) → Has whole k row → is_in number k ≡ true → is_covered table a row ≡ true
          → Has view k row
      covered_seen a e k row h i c = view_has k row (λ t. access_reached a e k row (home k row t) i c) h

      abbrev seen : List Value → Bool
      seen row = is_some (finmap.get view (record_key number table row))

      abbrev Entry : Type 0
      Entry = Key × List Value

      own_seen : (k : Key) (row : List Value) → Has whole k row → is_in number k ≡ true → record_key number table row ≡ k
      own_seen k row h i = own_key catalog whole number k row whole_home h i

      swapped : (es : List Entry) → AllByRecursion (λ (e : Entry). record_key number table e.1 ≡ e.0) es
          → map (λ (e : Entry). e.1) (filter (λ (e : Entry). is_some (finmap.get view e.0)) es) ≡ filter seen (map (λ (e : Entry). e.1) es)
      swapped [] h = refl
      swapped (e ∷ es) h =
          ap (λ (xs : List Entry). map (λ (x : Entry). x.1) xs) (ap (λ (l : Key). cond (is_some (finmap.get view l)) (e ∷ rest) rest) (sym h.0))
          ∙ one (seen e.1) (swapped es h.1)
        where
          rest : List Entry
          rest = filter (λ (x : Entry). is_some (finmap.get view x.0)) es

          one : (b : Bool) → map (λ (x : Entry). x.1) rest ≡ filter seen (map (λ (x : Entry). x.1) es)
              → map (λ (x : Entry). x.1) (cond b (e ∷ rest) rest) ≡ cond b (e.1 ∷ filter seen (map (λ (x : Entry). x.1) es)) (filter seen (map (λ (x : Entry). x.1) es))
          one true i = ap (λ xs. e.1 ∷ xs) i
          one false i = i

      -- so the rows that the node sees are read by the access
      is_read : (a : Access) → all ≡ read_of number a ∷ [] → IsRead table a (rows_in number whole) (rows_in number view)
      is_read a e = record {
        has_key = keyed.columns;
        fits = all_map (λ (x : Entry). FitsTable table x.1) (FitsTable table) (λ (x : Entry). x.1) (λ x h. h) (records_in number whole)
            (each_record (λ k row. FitsTable table row) number whole (λ k row h i. home_fits catalog number k row (whole_home k row h) i));
        keeps = seen;
        some = ap (λ (es : List Entry). map (λ (x : Entry). x.1) es) (part_records number view whole view_part)
            ∙ swapped (records_in number whole) (each_record (λ k row. record_key number table row ≡ k) number whole own_seen);
        all = all_map (λ (x : Entry). is_covered table a x.1 ≡ true → seen x.1 ≡ true) (λ row. is_covered table a row ≡ true → seen row ≡ true) (λ (x : Entry). x.1) (λ x h. h)
            (records_in number whole)
            (each_record (λ k row. is_covered table a row ≡ true → seen row ≡ true) number whole
            (λ k row h i c. ap (λ (l : Key). is_some (finmap.get view l)) (own_seen k row h i) ∙ ap is_some (covered_seen a e k row h i c)));
      }

  -- ---- a SELECT

  are_read : (numbers : List ℕ) (offset : ℕ) (where_ : Option Condition) (rows : List (List (List Value))) → AllByRecursion (λ number. IsKeyed (table_of catalog number)) numbers
      → AreGathered shards catalog facts numbers (reads_of numbers (accesses_of (map (table_of catalog) numbers) offset where_)) (map done rows)
      → AreRead (map (table_of catalog) numbers) (accesses_of (map (table_of catalog) numbers) offset where_) (map (λ number. rows_in number whole) numbers)
      (tables_seen catalog numbers own rows)
  are_read [] offset where_ rows k h = tt
  are_read (number ∷ numbers) offset where_ [] k h = absurd h
  are_read (number ∷ numbers) offset where_ (found ∷ rows) k h =
      let a : Access = access_of (table_of catalog number) offset where_ in (
        is_read number (read_of number a ∷ []) found h.0 k.0 a refl,
        are_read numbers (offset + length (table_of catalog number).columns) where_ rows k.1 h.1,
      )

same_rows : (from : List Join) (tables : Tables) → map (λ number. rows_in number tables) (map (λ (join : Join). join.table) from) ≡ map (λ (join : Join). rows_in join.table tables) from
same_rows [] tables = refl
same_rows (join ∷ from) tables = ap (λ xs. rows_in join.table tables ∷ xs) (same_rows from tables)

-- what is told is told of what is selected
told_same : (query : Query) (reads wholes : List (List (List Value))) (told : Answer) → selected query reads ≡ selected query wholes → QueryAnswers query reads told
    → QueryAnswers query wholes told
told_same query reads wholes (answer.Rows rows) e h = (h.0, ap (lines_of query) (sym e) ∙ h.1, h.2)
told_same query reads wholes answer.Overflow e h = ap (lines_of query) (sym e) ∙ h
told_same query reads wholes answer.Begun e h = absurd h
told_same query reads wholes (answer.Changed n) e h = absurd h
told_same query reads wholes answer.Duplicate e h = absurd h
told_same query reads wholes answer.Null e h = absurd h
told_same query reads wholes answer.Long e h = absurd h
told_same query reads wholes answer.Many e h = absurd h
told_same query reads wholes answer.Nested e h = absurd h
told_same query reads wholes answer.Outside e h = absurd h
told_same query reads wholes (answer.Conflict n) e h = absurd h
told_same query reads wholes answer.Committed e h = absurd h
told_same query reads wholes answer.RolledBack e h = absurd h
told_same query reads wholes (answer.Recovered n) e h = absurd h
told_same query reads wholes (answer.There n) e h = absurd h

-- the tables that a query joins are keyed
keyed_numbers : (catalog : Catalog) (from : List Join) → AllByRecursion (λ (join : Join). TableFits (table_of catalog join.table)) from
    → AllByRecursion (λ number. IsKeyed (table_of catalog number)) (map (λ (join : Join). join.table) from)
keyed_numbers catalog [] h = tt
keyed_numbers catalog (join ∷ from) h = (h.0.keyed, keyed_numbers catalog from h.1)

pub select_means : (shards : ℕ) (catalog : Catalog) (facts : List Fact) (own : List Write) (query : Query) (rows : List (List (List Value))) (told : Answer)
    → StatementOn catalog (bound.Select query) → AreHomeWrites catalog own → AreGathered shards catalog facts (numbers_of query) (query_reads catalog query) (map done rows)
    → QueryAnswers query (tables_seen catalog (numbers_of query) own rows) told
    → (tables : Tables) → AreHome catalog tables → Agrees tables facts → SelectAnswers query (laid_over tables own) told
select_means shards catalog facts own query rows told fits own_home g h tables home agrees =
    told_same query (tables_seen catalog (numbers_of query) own rows) (map (λ (join : Join). rows_in join.table (laid_over tables own)) query.from) told
    (select_part query (map (table_of catalog) (numbers_of query)) (map (λ (join : Join). rows_in join.table (laid_over tables own)) query.from)
    (tables_seen catalog (numbers_of query) own rows) (compares_values (columns_in catalog query) query.filter fits.suits.passes)
    (subst
    (λ wholes.
    AreRead (map (table_of catalog) (numbers_of query)) (accesses_of (map (table_of catalog) (numbers_of query)) 0 query.filter) wholes
    (tables_seen catalog (numbers_of query) own rows))
    (same_rows query.from (laid_over tables own))
    (are_read shards catalog facts tables home agrees own own_home (numbers_of query) 0 query.filter rows (keyed_numbers catalog query.from fits.tables) g)))
    h

-- ---- a change

both_not : (a b : Bool) → a ≡ false → b ≡ false → (not a && not b) ≡ true
both_not a b p q = grind arith

-- a row of the table stands under the key of a row to insert only where that one is looked up
key_looked_up : (catalog : Catalog) (number : ℕ) (row found : List Value) → IsKeyed (table_of catalog number) → FitsTable (table_of catalog number) row
    → IsHome catalog (record_key number (table_of catalog number) row) found → is_in number (record_key number (table_of catalog number) row) ≡ true
    → is_looked_up (table_of catalog number) row ≡ true
key_looked_up catalog number row found keyed fits h i =
    let table : Table = table_of catalog number in
    let key : Key = record_key number table row in
    let same : record_key number table found ≡ key =
    ap (λ (m : ℕ). record_key m (table_of catalog m) found) (sym (home_number catalog number key found h i)) ∙ sym h.own_key in
    let accepted = home_accepted catalog number key found h i in
    let fits_so = home_fits catalog number key found h i in
    let bytes : key_bytes (key_values table found) ≡ key_bytes (key_values table row) = ap (drop 2) same in
    let values : key_values table found ≡ key_values table row =
    keys_apart (key_values table found) (key_values table row) (key_of_values table.key found fits_so.values) (key_of_values table.key row fits.values) bytes in
    both_not (list_any is_null (key_values table row)) (nat_lt longest_key (length (key_bytes (key_values table row))))
    (ap (list_any is_null) (sym values) ∙ key_known table found keyed accepted)
    (ap (λ (bs : Key). nat_lt 255 (length bs)) (sym bytes) ∙ key_short table found accepted)

-- each is among them
each_among : {A : Type 0} (xs : List A) → AllByRecursion (λ x. Among x xs) xs
each_among [] = tt
each_among (x ∷ xs) = (inl refl, weaker (λ y. Among y xs) (λ y. Among y (x ∷ xs)) (λ y h. inr h) xs (each_among xs))

point_reached : (shards number : ℕ) (table : Table) (rows : List (List Value)) (row found : List Value) → Among row rows → is_looked_up table row ≡ true
    → reach shards (map (λ r. Point (record_key number table r)) (filter (is_looked_up table) rows)) (record_key number table row) found ≡ true
point_reached shards number table [] row found h e = absurd h
point_reached shards number table (r ∷ rows) row found (inl same) e = one (is_looked_up table r) (ap (is_looked_up table) same ∙ e)
  where
    rest : List (List Value)
    rest = filter (is_looked_up table) rows

    one : (b : Bool) → b ≡ true → reach shards (map (λ x. Point (record_key number table x)) (cond b (r ∷ rest) rest)) (record_key number table row) found ≡ true
    one true i =
        or_left (same_key (record_key number table r) (record_key number table row)) (reach shards (map (λ x. Point (record_key number table x)) rest) (record_key number table row) found)
        (ap (λ x. same_key (record_key number table x) (record_key number table row)) same ∙ key_itself (record_key number table row))
    one false i = absurd cc
point_reached shards number table (r ∷ rows) row found (inr h) e = one (is_looked_up table r) (point_reached shards number table rows row found h e)
  where
    rest : List (List Value)
    rest = filter (is_looked_up table) rows

    one : (b : Bool) → reach shards (map (λ x. Point (record_key number table x)) rest) (record_key number table row) found ≡ true
        → reach shards (map (λ x. Point (record_key number table x)) (cond b (r ∷ rest) rest)) (record_key number table row) found ≡ true
    one true i =
        or_right (same_key (record_key number table r) (record_key number table row)) (reach shards (map (λ x. Point (record_key number table x)) rest) (record_key number table row) found) i
    one false i = i

module _ (shards : ℕ) (catalog : Catalog) (facts : List Fact) (tables : Tables) (home : AreHome catalog tables) (agrees : Agrees tables facts) (own : List Write)
    (own_home : AreHomeWrites catalog own) where
  -- the node sees all that the change looks at
  sees_all : (edit : Edit) (rows : List (List Value)) → Suits catalog edit → IsKeyed (table_of catalog (number_of edit))
      → IsGathered shards catalog facts (number_of edit) (edit_reads catalog edit) (done rows)
      → ReadsAll edit (table_of catalog (number_of edit)) (view_read catalog (number_of edit) own rows) (laid_over tables own)
  sees_all (Insert number new) rows suits keyed g =
      let table : Table = table_of catalog number in
      weaker (λ row. Among row new × FitsTable table row)
      (λ row. (found : List Value) → Has (laid_over tables own) (record_key number table row) found → Has (view_read catalog number own rows) (record_key number table row) found)
      (λ row h found has.
      view_has shards catalog facts tables home agrees own own_home number (edit_reads catalog (Insert number new)) rows g (record_key number table row) found
      (λ stands.
      point_reached shards number table new row found h.0
      (key_looked_up catalog number row found keyed h.1 (home (record_key number table row) found stands) (in_table number (key_bytes (key_values table row))))) has)
      new (all_both (λ row. Among row new) (FitsTable table) new (each_among new) suits.change)
  sees_all (Update number sets where_) rows suits keyed g = (
    compares_values (table_of catalog number).columns where_ suits.change.2,
    λ key row has i c.
        covered_seen shards catalog facts tables home agrees own own_home number (edit_reads catalog (Update number sets where_)) rows g keyed
        (access_of (table_of catalog number) 0 where_) refl key row has i c,
  )
  sees_all (Delete number where_) rows suits keyed g = (
    compares_values (table_of catalog number).columns where_ suits.change,
    λ key row has i c.
        covered_seen shards catalog facts tables home agrees own own_home number (edit_reads catalog (Delete number where_)) rows g keyed
        (access_of (table_of catalog number) 0 where_) refl key row has i c,
  )

  change_same : (edit : Edit) (rows : List (List Value)) → Suits catalog edit → IsKeyed (table_of catalog (number_of edit))
      → IsGathered shards catalog facts (number_of edit) (edit_reads catalog edit) (done rows)
      → change_of catalog edit (view_read catalog (number_of edit) own rows) own ≡ change_of catalog edit (laid_over tables own) own
  change_same edit rows suits keyed g =
      let number : ℕ = number_of edit in
      change_part edit (table_of catalog number) (view_read catalog number own rows) (laid_over tables own) own keyed.columns
      (λ key row has i. home_fits catalog number key row (whole_home shards catalog facts tables home agrees own own_home key row has) i)
      (view_part shards catalog facts tables home agrees own own_home number (edit_reads catalog edit) rows g)
      (sees_all edit rows suits keyed g)

pub change_means : (shards : ℕ) (catalog : Catalog) (facts : List Fact) (own : List Write) (edit : Edit) (rows : List (List (List Value))) (told : Answer)
    → StatementOn catalog (bound.Change edit) → AreHomeWrites catalog own
    → AreGathered shards catalog facts (number_of edit ∷ []) (edit_reads catalog edit ∷ []) (map done rows)
    → told_of (change_of catalog edit (view_changed catalog edit own rows) own) ≡ Some told
    → (tables : Tables) → AreHome catalog tables → Agrees tables facts → Changes catalog edit tables own told (own_said catalog (bound.Change edit) own rows)
change_means shards catalog facts own edit [] told fits own_home g h tables home agrees = absurd g
change_means shards catalog facts own edit (found ∷ rows) told fits own_home g h tables home agrees =
    let same = change_same shards catalog facts tables home agrees own own_home edit found fits.suits fits.table.keyed g.0 in
    record { answer = ap told_of (sym same) ∙ h; leaves = ap (λ (r : Result Effect ChangeFault). own_after r own) (sym same) }
