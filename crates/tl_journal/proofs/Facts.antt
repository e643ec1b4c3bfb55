-- How the reads that were made stand behind the rows that a node has gathered.
use Rattle.std.proofs.Common.{◌≡◌, ℕ, ◌+◌, ◌<◌, ◌≤◌, ◌⊎◌, inl, inr, ⊎_elim, Bool, true, false, ◌&&◌, ◌||◌, List, [], ◌∷◌, ◌++◌, Option, Some, None, map, filter, length, refl, sym, ap, subst, ◌∙◌, arith}
use Rattle.std.specs.Prelude.{◌==◌, not, nat_lt, if◌then◌else◌}
use Rattle.std.specs.Option.{option_to_list}
use Rattle.std.specs.FinMap as finmap
use Rattle.std.specs.List.{AllByRecursion, cons_option, list_any}
use Rattle.std.proofs.lemmas.Bool.{and_parts, eqb-true, eq-eqb, or_cases, or_from, or_left, or_parts, or_right, not-true}
use Rattle.std.proofs.lemmas.Bool.Decides.{nat_tests}
use Rattle.std.proofs.lemmas.List.{append_assoc}
use Rattle.std.proofs.lemmas.List.Folds.{list_any-append}
use Rattle.std.proofs.Math.Nat.{mod-lt}
use Rattle.std.proofs.lemmas.Option.{same_Some}
use Rattle.tl_lemmas.proofs.Lists.{all_append, weaker}
use Rattle.tl_base.specs.declared.place.Settings.{Settings}
use Rattle.tl_values.specs.declared.value.Value.{Value}
use Rattle.tl_values.specs.Key.{key_bytes}
use Rattle.tl_schema.specs.declared.access.Access.{Access}
use Rattle.tl_schema.specs.declared.access.Access.TheVariants as access
use Rattle.tl_schema.specs.declared.catalog.Catalog.{Catalog}
use Rattle.tl_schema.specs.declared.catalog.Table.{Table}
use Rattle.tl_schema.specs.Record.{key_values, record_key}
use Rattle.tl_cells.specs.Place.{key_hash, shard_of_key}
use Rattle.tl_descriptor.specs.Tids.{TidSet}
use Rattle.tl_algebra.specs.declared.condition.Condition.{Condition}
use Rattle.tl_algebra.specs.declared.edit.Edit.{Edit}
use Rattle.tl_algebra.specs.declared.edit.Edit.TheVariants.{Insert, Update, Delete}
use Rattle.tl_plan.specs.Access.{access_of, accesses_of, is_below}
use Rattle.tl_plan.specs.Plan.{is_looked_up, numbers_of}
use Rattle.tl_write.specs.Change.{number_of}
use Rattle.tl_write.specs.Tables.{Tables, is_in}
use Rattle.tl_isolation.specs.declared.bound.Bound.{Bound}
use Rattle.tl_isolation.specs.declared.bound.Bound.TheVariants as bound
use Rattle.tl_isolation.specs.Tables.{AreHome, IsHome, table_of}
use Rattle.tl_protocol.specs.Store.{Key, row_shown, same_key}
use Rattle.tl_protocol.specs.World.{Holds, Txn, Fact, World, Agrees}
use Rattle.tl_protocol.specs.Move.{takes_statements}
use Rattle.tl_protocol.specs.Next.{fact_of}
use Rattle.tl_journal.specs.Ask.{Found}
use Rattle.tl_journal.specs.Reads.{Read, Point, Range, Reads, after_read, all_reads, begin_reads, edit_reads, key_behind, next_table, range_left, range_of, read_of, reads_of, rows_found, table_key, tables_read, take_cell, take_page}
use Rattle.tl_journal.specs.Served.{IsPage, IsWithin, are_rising, is_found, page_end}
use Rattle.tl_journal.proofs.KeyOrder.{at_least, behind_key, below_itself, between, in_table}
use Rattle.tl_write.proofs.Keys.{key_eq, key_itself}

-- ---- definitions

-- the key, which stands at this shard, lies in the range and is not read yet
abbrev pub in_range : ℕ → ℕ → Key → Key → Key → Key → Bool
in_range at shard from first before k =
    is_below k before && (((at == shard) && not (is_below k from)) || (nat_lt shard at && not (is_below k first)))

-- a read will find the key's record, which has this row
abbrev pub reaches : ℕ → Read → Key → List Value → Bool
reaches shards (Point key) k row = same_key key k
reaches shards (Range shard from first before) k row = in_range (shard_of_key k shards) shard from first before k

abbrev pub reach : ℕ → List Read → Key → List Value → Bool
reach shards reads k row = list_any (λ read. reaches shards read k row) reads

-- of a table: the reads that are left, and the rows that were found
pub record Progress : Type 0 where
  pub left : List Read
  pub rows : List (List Value)

abbrev pub done : List (List Value) → Progress
done rows = record { left = []; rows = rows }

abbrev pub ahead : List Read → Progress
ahead left = record { left = left; rows = [] }

abbrev pub progress_of : Reads → List Progress
progress_of reads = map done reads.earlier ++ record { left = reads.left; rows = reads.rows } ∷ map ahead reads.later

-- the row is one of these
abbrev pub Among : {A : Type 0} → A → List A → Type 0
Among x [] = ⊥
Among x (y ∷ ys) = (y ≡ x) ⊎ Among x ys

abbrev pub Has : Tables → Key → List Value → Type 0
Has tables key row = ◌≡◌ {A = Option (List Value)} (finmap.get tables key) (Some row)

-- The rows that were found of a table, of which these are all reads, are rows of all tables that have what was read; and a
-- row of such tables that one of the reads reaches, and none of those that are left, was found.
pub record IsGathered (shards : ℕ) (catalog : Catalog) (facts : List Fact) (number : ℕ) (all : List Read) (x : Progress) : Type 0 where
  pub within : (k : Key) (row : List Value) → reach shards x.left k row ≡ true → is_in number k ≡ true
  pub sound : (tables : Tables) → AreHome catalog tables → Agrees tables facts
      → AllByRecursion (λ row. Has tables (record_key number (table_of catalog number) row) row) x.rows
  pub complete : (tables : Tables) → AreHome catalog tables → Agrees tables facts → (k : Key) (row : List Value) → Has tables k row
      → reach shards all k row ≡ true → reach shards x.left k row ≡ false → Among row x.rows × (record_key number (table_of catalog number) row ≡ k)

-- so of each table of the statement
abbrev pub AreGathered : ℕ → Catalog → List Fact → List ℕ → List (List Read) → List Progress → Type 0
AreGathered shards catalog facts [] alls xs = Unit {0}
AreGathered shards catalog facts (number ∷ numbers) (all ∷ alls) (x ∷ xs) =
    IsGathered shards catalog facts number all x × AreGathered shards catalog facts numbers alls xs
AreGathered shards catalog facts numbers alls xs = ⊥

-- the tables that a statement reads
abbrev pub numbers_read : Bound → List ℕ
numbers_read (bound.Select query) = numbers_of query
numbers_read (bound.Change edit) = number_of edit ∷ []
numbers_read statement = []

-- the reads that were made for this statement, in a transaction that takes statements
pub record ReadsOk (settings : Settings) (catalog : Catalog) (statement : Bound) (t : Txn) (facts : List Fact) (reads : Reads) : Type 0 where
  pub shards : 1 ≤ settings.shards
  pub takes : takes_statements t.stage ≡ true
  pub gathered : AreGathered settings.shards catalog facts (numbers_read statement) (all_reads catalog statement) (progress_of reads)
  -- where nothing is left of the table in hand, no later one is left
  pub last : reads.left ≡ [] → reads.later ≡ []

-- ---- lists

among_left : {A : Type 0} (x : A) (xs ys : List A) → Among x xs → Among x (xs ++ ys)
among_left x [] ys h = absurd h
among_left x (y ∷ xs) ys (inl e) = inl e
among_left x (y ∷ xs) ys (inr h) = inr (among_left x xs ys h)

among_right : {A : Type 0} (x : A) (xs ys : List A) → Among x ys → Among x (xs ++ ys)
among_right x [] ys h = h
among_right x (y ∷ xs) ys h = inr (among_right x xs ys h)

map_append : {A B : Type 0} (f : A → B) (xs ys : List A) → map f (xs ++ ys) ≡ map f xs ++ map f ys
map_append f [] ys = refl
map_append f (x ∷ xs) ys = ap (λ zs. f x ∷ zs) (map_append f xs ys)

-- ---- the tables one behind the other

abbrev all_progress : List (List (List Value)) → List Read → List (List Value) → List (List Read) → List Progress
all_progress earlier left rows later = map done earlier ++ record { left = left; rows = rows } ∷ map ahead later

next_progress : (later : List (List Read)) (rows : List (List Value)) (earlier : List (List (List Value)))
    → progress_of (next_table later rows earlier) ≡ all_progress earlier [] rows later
next_progress [] rows earlier = refl
next_progress ([] ∷ later) rows earlier =
    next_progress later [] (earlier ++ rows ∷ [])
    ∙ ap (λ xs. xs ++ ahead [] ∷ map ahead later) (map_append done earlier (rows ∷ []))
    ∙ append_assoc (map done earlier) (done rows ∷ []) (ahead [] ∷ map ahead later)
next_progress ((read ∷ left) ∷ later) rows earlier =
    ap (λ xs. xs ++ ahead (read ∷ left) ∷ map ahead later) (map_append done earlier (rows ∷ []))
    ∙ append_assoc (map done earlier) (done rows ∷ []) (ahead (read ∷ left) ∷ map ahead later)

next_last : (later : List (List Read)) (rows : List (List Value)) (earlier : List (List (List Value)))
    → (next_table later rows earlier).left ≡ [] → (next_table later rows earlier).later ≡ []
next_last [] rows earlier e = refl
next_last ([] ∷ later) rows earlier e = next_last later [] (earlier ++ rows ∷ []) e
next_last ((read ∷ left) ∷ later) rows earlier e = cc

after_progress : (reads : Reads) (left : List Read) (rows : List (List Value))
    → progress_of (after_read reads left rows) ≡ all_progress reads.earlier left (reads.rows ++ rows) reads.later
after_progress reads [] rows = next_progress reads.later (reads.rows ++ rows) reads.earlier
after_progress reads (read ∷ left) rows = refl

after_last : (reads : Reads) (left : List Read) (rows : List (List Value)) → (after_read reads left rows).left ≡ [] → (after_read reads left rows).later ≡ []
after_last reads [] rows e = next_last reads.later (reads.rows ++ rows) reads.earlier e
after_last reads (read ∷ left) rows e = cc

begin_last : (alls : List (List Read)) → (begin_reads alls).left ≡ [] → (begin_reads alls).later ≡ []
begin_last [] e = refl
begin_last ([] ∷ later) e = next_last later [] [] e
begin_last ((read ∷ left) ∷ later) e = cc

begin_progress : (all : List Read) (alls : List (List Read)) → progress_of (begin_reads (all ∷ alls)) ≡ map ahead (all ∷ alls)
begin_progress [] alls = next_progress alls [] []
begin_progress (read ∷ left) alls = refl

-- all is read
pub all_read : (settings : Settings) (catalog : Catalog) (statement : Bound) (t : Txn) (facts : List Fact) (reads : Reads)
    → ReadsOk settings catalog statement t facts reads → reads.left ≡ []
    → AreGathered settings.shards catalog facts (numbers_read statement) (all_reads catalog statement) (map done (tables_read reads))
all_read settings catalog statement t facts reads h e =
    subst (AreGathered settings.shards catalog facts (numbers_read statement) (all_reads catalog statement)) (sym (map_append done reads.earlier (reads.rows ∷ [])))
    (subst (λ (l : List (List Read)). AreGathered settings.shards catalog facts (numbers_read statement) (all_reads catalog statement) (all_progress reads.earlier [] reads.rows l))
    (h.last e)
    (subst (λ (l : List Read). AreGathered settings.shards catalog facts (numbers_read statement) (all_reads catalog statement) (all_progress reads.earlier l reads.rows reads.later))
    e h.gathered))

-- ---- nothing is read yet

module _ (shards : ℕ) (catalog : Catalog) where
  -- a table of which nothing is read
  none_yet : (number : ℕ) (all : List Read) → ((k : Key) (row : List Value) → reach shards all k row ≡ true → is_in number k ≡ true) → IsGathered shards catalog [] number all (ahead all)
  none_yet number all h = record {
    within = h;
    sound = λ tables home agrees. tt;
    complete = λ tables home agrees k row e reached missed. absurd cc;
  }

  -- a read of a table reaches records of that table
  range_within : (number : ℕ) (low high k : Key) (row : List Value) → reaches shards (range_of number low high) k row ≡ true → is_in number k ≡ true
  range_within number low high k row h =
      between number low high k
      (on (is_below k (table_key number low)) (is_below k (table_key number high)) (shard_of_key k shards == 0) (nat_lt 0 (shard_of_key k shards)) h).0
      (on (is_below k (table_key number low)) (is_below k (table_key number high)) (shard_of_key k shards == 0) (nat_lt 0 (shard_of_key k shards)) h).1
    where
      on : (a b x y : Bool) → (b && ((x && not a) || (y && not a))) ≡ true → (a ≡ false) × (b ≡ true)
      on true true true true h = absurd cc
      on true true true false h = absurd cc
      on true true false true h = absurd cc
      on true true false false h = absurd cc
      on a false x y h = absurd cc
      on false true x y h = (refl, refl)

  point_within : (number : ℕ) (key k : Key) (row : List Value) → reaches shards (Point (table_key number key)) k row ≡ true → is_in number k ≡ true
  point_within number key k row h = subst (λ (l : Key). is_in number l ≡ true) (key_eq (table_key number key) k h) (in_table number key)

  read_within : (number : ℕ) (a : Access) (k : Key) (row : List Value) → reaches shards (read_of number a) k row ≡ true → is_in number k ≡ true
  read_within number (access.Point key) k row h = point_within number key k row h
  read_within number (access.KeyRange low high) k row h = range_within number low high k row h
  read_within number (access.IndexRange index low high) k row h = range_within number (1 ∷ []) (4 ∷ []) k row h
  read_within number access.Whole k row h = range_within number (1 ∷ []) (4 ∷ []) k row h

  one_within : (number : ℕ) (a : Access) (k : Key) (row : List Value) → reach shards (read_of number a ∷ []) k row ≡ true → is_in number k ≡ true
  one_within number a k row h = read_within number a k row (on (reaches shards (read_of number a) k row) h)
    where
      on : (b : Bool) → (b || false) ≡ true → b ≡ true
      on true h = refl
      on false h = absurd cc

  each_begins : (numbers : List ℕ) (offset : ℕ) (where_ : Option Condition)
      → AreGathered shards catalog [] numbers (reads_of numbers (accesses_of (map (table_of catalog) numbers) offset where_))
      (map ahead (reads_of numbers (accesses_of (map (table_of catalog) numbers) offset where_)))
  each_begins [] offset where_ = tt
  each_begins (number ∷ numbers) offset where_ = (
    none_yet number (read_of number (access_of (table_of catalog number) offset where_) ∷ []) (one_within number (access_of (table_of catalog number) offset where_)),
    each_begins numbers (offset + length (table_of catalog number).columns) where_,
  )

  points_within : (number : ℕ) (table : Table) (rows : List (List Value)) (k : Key) (found : List Value)
      → reach shards (map (λ row. Point (record_key number table row)) rows) k found ≡ true → is_in number k ≡ true
  points_within number table [] k found h = absurd cc
  points_within number table (row ∷ rows) k found h =
      ⊎_elim (λ e. point_within number (key_bytes (key_values table row)) k found e) (λ e. points_within number table rows k found e)
      (or_cases (same_key (record_key number table row) k) (reach shards (map (λ row. Point (record_key number table row)) rows) k found) h)

  edit_within : (edit : Edit) (k : Key) (row : List Value) → reach shards (edit_reads catalog edit) k row ≡ true → is_in (number_of edit) k ≡ true
  edit_within (Insert number rows) k row h = points_within number (table_of catalog number) (filter (is_looked_up (table_of catalog number)) rows) k row h
  edit_within (Update number sets where_) k row h = one_within number (access_of (table_of catalog number) 0 where_) k row h
  edit_within (Delete number where_) k row h = one_within number (access_of (table_of catalog number) 0 where_) k row h

  query_begins : (numbers : List ℕ) (where_ : Option Condition)
      → AreGathered shards catalog [] numbers (reads_of numbers (accesses_of (map (table_of catalog) numbers) 0 where_))
      (progress_of (begin_reads (reads_of numbers (accesses_of (map (table_of catalog) numbers) 0 where_))))
  query_begins [] where_ = tt
  query_begins (number ∷ numbers) where_ =
      subst
      (AreGathered shards catalog [] (number ∷ numbers) (reads_of (number ∷ numbers) (accesses_of (map (table_of catalog) (number ∷ numbers)) 0 where_)))
      (sym
      (begin_progress (read_of number (access_of (table_of catalog number) 0 where_) ∷ [])
      (reads_of numbers (accesses_of (map (table_of catalog) numbers) (0 + length (table_of catalog number).columns) where_))))
      (each_begins (number ∷ numbers) 0 where_)

  begins : (statement : Bound) → AreGathered shards catalog [] (numbers_read statement) (all_reads catalog statement) (progress_of (begin_reads (all_reads catalog statement)))
  begins (bound.Select query) = query_begins (numbers_of query) query.filter
  begins (bound.Change edit) =
      subst (AreGathered shards catalog [] (number_of edit ∷ []) (edit_reads catalog edit ∷ [])) (sym (begin_progress (edit_reads catalog edit) []))
      (none_yet (number_of edit) (edit_reads catalog edit) (edit_within edit), tt)
  begins bound.Begin = tt
  begins bound.Commit = tt
  begins bound.Rollback = tt
  begins (bound.Recover gone) = tt

pub read_begins : (settings : Settings) (catalog : Catalog) (statement : Bound) (t : Txn) → 1 ≤ settings.shards → takes_statements t.stage ≡ true
    → ReadsOk settings catalog statement t [] (begin_reads (all_reads catalog statement))
read_begins settings catalog statement t some takes = record {
  shards = some;
  takes = takes;
  gathered = begins settings.shards catalog statement;
  last = begin_last (all_reads catalog statement);
}

-- ---- one read more

-- the tables have what the fact says
abbrev pub Has_fact : Tables → Fact → Type 0
Has_fact tables fact = Holds (finmap.get tables) fact

-- what one read brought: a fact of what was looked at, rows, and what is left of the read
record Brings (shards : ℕ) (read : Read) (fact : Fact) (rest : List Read) (rows : List (List Value)) : Type 0 where
  less : (k : Key) (row : List Value) → reach shards rest k row ≡ true → reaches shards read k row ≡ true
  sound : (tables : Tables) → Has_fact tables fact → AllByRecursion (λ row. (k : Key) × (reaches shards read k row ≡ true) × Has tables k row) rows
  complete : (tables : Tables) → Has_fact tables fact → (k : Key) (row : List Value) → Has tables k row → reaches shards read k row ≡ true
      → reach shards rest k row ≡ false → Among row rows

-- a row that stands in the table of this number stands under its own key there
pub own_key : (catalog : Catalog) (tables : Tables) (number : ℕ) (k : Key) (row : List Value) → AreHome catalog tables → Has tables k row → is_in number k ≡ true
    → record_key number (table_of catalog number) row ≡ k
own_key catalog tables number k row home has in_it =
    let h : IsHome catalog k row = home k row has in
    ap (λ (m : ℕ). record_key m (table_of catalog m) row) (one number h.number k (key_bytes (key_values (table_of catalog h.number) row)) h.own_key in_it) ∙ sym h.own_key
  where
    one : (number m : ℕ) (key bytes : Key) → key ≡ table_key m bytes → is_in number key ≡ true → number ≡ m
    one number m key bytes e i = eqb-true number m (and_parts (number == m) true (ap (is_in number) (sym e) ∙ i)).0

module _ (shards : ℕ) (catalog : Catalog) (facts : List Fact) (fact : Fact) where
  -- what was read of another table doesn't matter
  more_facts : (number : ℕ) (all : List Read) (x : Progress) → IsGathered shards catalog facts number all x → IsGathered shards catalog (fact ∷ facts) number all x
  more_facts number all x h = record {
    within = h.within;
    sound = λ tables home agrees. h.sound tables home agrees.1;
    complete = λ tables home agrees. h.complete tables home agrees.1;
  }

  module _ (read : Read) (left rest : List Read) (rows more : List (List Value)) (b : Brings shards read fact rest more) where
    joined : (k : Key) (row : List Value) → reach shards (rest ++ left) k row ≡ (reach shards rest k row || reach shards left k row)
    joined k row = list_any-append (λ r. reaches shards r k row) rest left

    reads_more : (number : ℕ) (all : List Read) → IsGathered shards catalog facts number all (record { left = read ∷ left; rows = rows })
        → IsGathered shards catalog (fact ∷ facts) number all (record { left = rest ++ left; rows = rows ++ more })
    reads_more number all h = record {
      within = λ k row e.
          h.within k row
          (⊎_elim (λ i. or_left (reaches shards read k row) (reach shards left k row) (b.less k row i))
          (λ i. or_right (reaches shards read k row) (reach shards left k row) i)
          (or_cases (reach shards rest k row) (reach shards left k row) (sym (joined k row) ∙ e)));
      sound = λ tables home agrees.
          all_append (λ row. Has tables (record_key number (table_of catalog number) row) row) rows more (h.sound tables home agrees.1)
          (weaker (λ row. (k : Key) × (reaches shards read k row ≡ true) × Has tables k row) (λ row. Has tables (record_key number (table_of catalog number) row) row)
          (λ row i. subst (λ (k : Key). Has tables k row) (sym (own_key catalog tables number i.0 row home i.2 (reached i.0 row i.1))) i.2) more
          (b.sound tables agrees.0));
      complete = λ tables home agrees k row has of_all missed.
          let parts = or_parts (reach shards rest k row) (reach shards left k row) (sym (joined k row) ∙ missed) in
          elim (reaches shards read k row) as (λ c. reaches shards read k row ≡ c → Among row (rows ++ more) × (record_key number (table_of catalog number) row ≡ k)) [
            | true ↦ λ e.
                (among_right row rows more (b.complete tables agrees.0 k row has e parts.0), own_key catalog tables number k row home has (reached k row e))
            | false ↦ λ e.
                let old = h.complete tables home agrees.1 k row has of_all (or_from (reaches shards read k row) (reach shards left k row) e parts.1) in
                (among_left row rows more old.0, old.1)
          ] refl;
    }
      where
        reached : (k : Key) (row : List Value) → reaches shards read k row ≡ true → is_in number k ≡ true
        reached k row i = h.within k row (or_left (reaches shards read k row) (reach shards left k row) i)

    -- the others stand as they were
    others_more : (numbers : List ℕ) (alls : List (List Read)) (xs : List Progress) → AreGathered shards catalog facts numbers alls xs
        → AreGathered shards catalog (fact ∷ facts) numbers alls xs
    others_more [] alls xs h = tt
    others_more (number ∷ numbers) [] xs h = absurd h
    others_more (number ∷ numbers) (all ∷ alls) [] h = absurd h
    others_more (number ∷ numbers) (all ∷ alls) (x ∷ xs) h = (more_facts number all x h.0, others_more numbers alls xs h.1)

    each_more : (numbers : List ℕ) (alls : List (List Read)) (front back : List Progress)
        → AreGathered shards catalog facts numbers alls (front ++ record { left = read ∷ left; rows = rows } ∷ back)
        → AreGathered shards catalog (fact ∷ facts) numbers alls (front ++ record { left = rest ++ left; rows = rows ++ more } ∷ back)
    each_more [] alls front back h = tt
    each_more (number ∷ numbers) [] front back h = absurd h
    each_more (number ∷ numbers) (all ∷ alls) [] back h = (reads_more number all h.0, others_more numbers alls back h.1)
    each_more (number ∷ numbers) (all ∷ alls) (x ∷ front) back h = (more_facts number all x h.0, each_more numbers alls front back h.1)

goes_on : (settings : Settings) (catalog : Catalog) (statement : Bound) (t : Txn) (facts : List Fact) (fact : Fact) (reads : Reads) (read : Read) (left rest : List Read)
    (rows : List (List Value)) → reads.left ≡ read ∷ left → Brings settings.shards read fact rest rows → ReadsOk settings catalog statement t facts reads
    → ReadsOk settings catalog statement t (fact ∷ facts) (after_read reads (rest ++ left) rows)
goes_on settings catalog statement t facts fact reads read left rest rows e b h = record {
  shards = h.shards;
  takes = h.takes;
  gathered = subst (AreGathered settings.shards catalog (fact ∷ facts) (numbers_read statement) (all_reads catalog statement)) (sym (after_progress reads (rest ++ left) rows))
      (each_more settings.shards catalog facts fact read left rest reads.rows rows b (numbers_read statement) (all_reads catalog statement)
      (map done reads.earlier) (map ahead reads.later)
      (subst (λ (l : List Read). AreGathered settings.shards catalog facts (numbers_read statement) (all_reads catalog statement) (all_progress reads.earlier l reads.rows reads.later))
      e h.gathered));
  last = after_last reads (rest ++ left) rows;
}

-- ---- a record is loaded

option_has : (o : Option (List Value)) (row : List Value) → o ≡ Some row → Among row (option_to_list o)
option_has None row e = absurd cc
option_has (Some r) row e = inl (same_Some r row e)

module _ (shards : ℕ) (w : World) (snapshot : TidSet) (key : Key) where
  -- the fact that is known then
  abbrev looked_up : Fact
  looked_up = fact_of w snapshot (same_key key)

  abbrev its_row : Option (List Value)
  its_row = row_shown snapshot (w.cells key).versions

  load_sound : (tables : Tables) (o : Option (List Value)) → its_row ≡ o → finmap.get tables key ≡ its_row
      → AllByRecursion (λ row. (k : Key) × (reaches shards (Point key) k row ≡ true) × Has tables k row) (option_to_list o)
  load_sound tables None e h = tt
  load_sound tables (Some row) e h = ((key, key_itself key, h ∙ e), tt)

  load_brings : Brings shards (Point key) looked_up [] (option_to_list its_row)
  load_brings = record {
    less = λ k row e. absurd cc;
    sound = λ tables has. load_sound tables its_row refl (has key (key_itself key));
    complete = λ tables has k row is reached missed.
        option_has its_row row (ap (λ (l : Key). row_shown snapshot (w.cells l).versions) (key_eq key k reached) ∙ sym (has k reached) ∙ is);
  }

pub load_goes_on : (settings : Settings) (catalog : Catalog) (statement : Bound) (t : Txn) (facts : List Fact) (w : World) (reads : Reads) (key : Key) (left : List Read)
    → reads.left ≡ Point key ∷ left → ReadsOk settings catalog statement t facts reads
    → ReadsOk settings catalog statement t (fact_of w t.snapshot (same_key key) ∷ facts) (take_cell t.snapshot (w.cells key).versions reads left)
load_goes_on settings catalog statement t facts w reads key left e h =
    goes_on settings catalog statement t facts (fact_of w t.snapshot (same_key key)) reads (Point key) left [] (option_to_list (row_shown t.snapshot (w.cells key).versions))
    e (load_brings settings.shards w t.snapshot key) h

-- ---- a page is read

-- the keys of which a page tells
abbrev pub is_told : ℕ → ℕ → Key → Key → Bool → List Found → Key → Bool
is_told shards shard from before more found k =
    is_found k found || ((shard_of_key k shards == shard) && (not (is_below k from) && is_below k (page_end from before found more)))

-- a page ends where it begins, or further on
page_on : (from : Key) (found : List Found) → are_rising from found ≡ true → is_below (key_behind from found) from ≡ false
page_on from [] h = below_itself from
page_on from (f ∷ fs) h =
    let parts = and_parts (not (is_below f.key from)) (are_rising (f.key ++ 0 ∷ []) fs) h in
    at_least from f.key (key_behind (f.key ++ 0 ∷ []) fs) (not-true (is_below f.key from) parts.0)
    (at_least f.key (f.key ++ 0 ∷ []) (key_behind (f.key ++ 0 ∷ []) fs) (behind_key f.key) (page_on (f.key ++ 0 ∷ []) fs parts.1))

module _ (settings : Settings) (w : World) (snapshot : TidSet) (shard : ℕ) (from first before : Key) where
  abbrev its_read : Read
  its_read = Range shard from first before

  abbrev shards : ℕ
  shards = settings.shards

  abbrev IsCell : Found → Type 0
  IsCell f = IsWithin settings shard from before f.key × (f.versions ≡ (w.cells f.key).versions)

  abbrev shown : Key → Option (List Value)
  shown k = row_shown snapshot (w.cells k).versions

  within_reached : (k : Key) (row : List Value) → IsWithin settings shard from before k → reaches shards its_read k row ≡ true
  within_reached k row h =
      on (is_below k before) (shard_of_key k shards == shard) (is_below k from) (nat_lt shard (shard_of_key k shards) && not (is_below k first))
      h.below (eq-eqb (shard_of_key k shards) shard h.at) h.from_on
    where
      on : (b a f y : Bool) → b ≡ true → a ≡ true → f ≡ false → (b && ((a && not f) || y)) ≡ true
      on b a f y p q r = grind arith

  rows_of : (f : Found) (fs : List Found) → rows_found snapshot (f ∷ fs) ≡ option_to_list (row_shown snapshot f.versions) ++ rows_found snapshot fs
  rows_of f fs = on (row_shown snapshot f.versions) (rows_found snapshot fs)
    where
      on : {A : Type 0} (o : Option A) (xs : List A) → cons_option o xs ≡ option_to_list o ++ xs
      on None xs = refl
      on (Some x) xs = refl

  page_sound : (tables : Tables) (fs : List Found) → AllByRecursion IsCell fs → ((k : Key) → is_found k fs ≡ true → finmap.get tables k ≡ shown k)
      → AllByRecursion (λ row. (k : Key) × (reaches shards its_read k row ≡ true) × Has tables k row) (rows_found snapshot fs)
  page_sound tables [] h has = tt
  page_sound tables (f ∷ fs) h has =
      subst (AllByRecursion (λ row. (k : Key) × (reaches shards its_read k row ≡ true) × Has tables k row)) (sym (rows_of f fs))
      (all_append (λ row. (k : Key) × (reaches shards its_read k row ≡ true) × Has tables k row) (option_to_list (row_shown snapshot f.versions)) (rows_found snapshot fs)
      (one (row_shown snapshot f.versions) refl)
      (page_sound tables fs h.1 (λ k e. has k (or_right (same_key f.key k) (is_found k fs) e))))
    where
      one : (o : Option (List Value)) → row_shown snapshot f.versions ≡ o
          → AllByRecursion (λ row. (k : Key) × (reaches shards its_read k row ≡ true) × Has tables k row) (option_to_list o)
      one None e = tt
      one (Some row) e = (
        (
          f.key,
          within_reached f.key row h.0.0,
          has f.key (or_left (same_key f.key f.key) (is_found f.key fs) (key_itself f.key)) ∙ ap (row_shown snapshot) (sym h.0.1) ∙ e,
        ),
        tt,
      )

  found_row : (k : Key) (row : List Value) (fs : List Found) → AllByRecursion IsCell fs → is_found k fs ≡ true → shown k ≡ Some row → Among row (rows_found snapshot fs)
  found_row k row [] h e i = absurd cc
  found_row k row (f ∷ fs) h e i =
      subst (Among row) (sym (rows_of f fs))
      (⊎_elim
      (λ same. among_left row (option_to_list (row_shown snapshot f.versions)) (rows_found snapshot fs)
      (option_has (row_shown snapshot f.versions) row (ap (row_shown snapshot) h.0.1 ∙ ap shown (key_eq f.key k same) ∙ i)))
      (λ later. among_right row (option_to_list (row_shown snapshot f.versions)) (rows_found snapshot fs) (found_row k row fs h.1 later i))
      (or_cases (same_key f.key k) (is_found k fs) e))

  -- what is left of the range lies in it
  rest_less : (found : List Found) (more : Bool) → are_rising from found ≡ true → (k : Key) (row : List Value)
      → reach shards (range_left shards shard from first before more found) k row ≡ true → reaches shards its_read k row ≡ true
  rest_less found true rising k row h =
      on (is_below k before) (shard_of_key k shards == shard) (is_below k (key_behind from found)) (is_below k from)
      (nat_lt shard (shard_of_key k shards) && not (is_below k first)) h
      (λ e. at_least from (key_behind from found) k (page_on from found rising) e)
    where
      on : (b a e f y : Bool) → ((b && ((a && not e) || y)) || false) ≡ true → (e ≡ false → f ≡ false) → (b && ((a && not f) || y)) ≡ true
      on true true true f true h i = or_right (true && not f) true refl
      on true true true f false h i = absurd cc
      on true true false f y h i = or_left (true && not f) y (ap not (i refl))
      on true false e f y h i = on_false y h
        where
          on_false : (y : Bool) → ((true && (false || y)) || false) ≡ true → (true && (false || y)) ≡ true
          on_false true h = refl
          on_false false h = absurd cc
      on false a e f y h i = absurd cc
  rest_less found false rising k row h =
      elim (nat_lt (shard + 1) shards) as
      (λ c. reach shards (if c then Range (shard + 1) first first before ∷ [] else []) k row ≡ true → reaches shards its_read k row ≡ true) [
        | true ↦ λ e. on (is_below k before) (shard_of_key k shards) shard (is_below k first) (is_below k from) e
        | false ↦ λ e. absurd cc
      ] h
    where
      on : (b : Bool) (at s : ℕ) (x f : Bool) → ((b && (((at == s + 1) && not x) || (nat_lt (s + 1) at && not x))) || false) ≡ true
          → (b && (((at == s) && not f) || (nat_lt s at && not x))) ≡ true
      on b at s x f h = grind (arith, nat_tests)

  -- a key that is reached is told of, or lies in what is left
  covered : (found : List Found) (more : Bool) (k : Key) (row : List Value) → 1 ≤ shards → reaches shards its_read k row ≡ true
      → reach shards (range_left shards shard from first before more found) k row ≡ false → IsWithin settings shard from (page_end from before found more) k
  covered found true k row some r h = record { at = eqb-true (shard_of_key k shards) shard parts.0; from_on = parts.1; below = parts.2 }
    where
      on : (b a e f y : Bool) → (b && ((a && not f) || y)) ≡ true → ((b && ((a && not e) || y)) || false) ≡ false → (a ≡ true) × (f ≡ false) × (e ≡ true)
      on b a e f true r h = absurd (grind arith)
      on b a false f false r h = absurd (grind arith)
      on b a true true false r h = absurd (grind arith)
      on b false true false false r h = absurd (grind arith)
      on b true true false false r h = (refl, refl, refl)

      parts : ((shard_of_key k shards == shard) ≡ true) × (is_below k from ≡ false) × (is_below k (key_behind from found) ≡ true)
      parts =
          on (is_below k before) (shard_of_key k shards == shard) (is_below k (key_behind from found)) (is_below k from)
          (nat_lt shard (shard_of_key k shards) && not (is_below k first)) r h
  covered found false k row some r h = record { at = eqb-true (shard_of_key k shards) shard parts.0; from_on = parts.1; below = parts.2 }
    where
      at_shard : shard_of_key k shards < shards
      at_shard = mod-lt (key_hash 0 k) some

      on : (b : Bool) (at s count : ℕ) (x f : Bool) → at < count → (b && (((at == s) && not f) || (nat_lt s at && not x))) ≡ true
          → list_any (λ c. c) (if nat_lt (s + 1) count then (b && (((at == s + 1) && not x) || (nat_lt (s + 1) at && not x))) ∷ [] else []) ≡ false
          → ((at == s) ≡ true) × (f ≡ false) × (b ≡ true)
      on b at s count x f small r h = grind (arith, nat_tests)

      seen : (c : Bool) → reach shards (if c then Range (shard + 1) first first before ∷ [] else []) k row
          ≡ list_any (λ c. c) (if c then in_range (shard_of_key k shards) (shard + 1) first first before k ∷ [] else [])
      seen true = refl
      seen false = refl

      parts : ((shard_of_key k shards == shard) ≡ true) × (is_below k from ≡ false) × (is_below k before ≡ true)
      parts =
          on (is_below k before) (shard_of_key k shards) shard shards (is_below k first) (is_below k from) at_shard r (sym (seen (nat_lt (shard + 1) shards)) ∙ h)

  page_brings : (found : List Found) (more : Bool) → 1 ≤ shards → IsPage settings w.cells shard from before found more
      → Brings shards its_read (fact_of w snapshot (is_told shards shard from before more found)) (range_left shards shard from first before more found)
      (rows_found snapshot found)
  page_brings found more some page = record {
    less = rest_less found more page.rising;
    sound = λ tables has. page_sound tables found page.are (λ k e. has k (or_left (is_found k found) _ e));
    complete = λ tables has k row is reached missed.
        let w_ = covered found more k row some reached missed in
        let told : is_told shards shard from before more found k ≡ true = is_so found more k w_ in
        let here : shown k ≡ Some row = sym (has k told) ∙ is in
        elim (is_found k found) as (λ c. is_found k found ≡ c → Among row (rows_found snapshot found)) [
          | true ↦ λ e. found_row k row found page.are e here
          | false ↦ λ e. absurd (nothing row (sym (ap (row_shown snapshot) (page.all k w_ e)) ∙ here))
        ] refl;
  }
    where
      nothing : (row : List Value) → ◌≡◌ {A = Option (List Value)} None (Some row) → ⊥
      nothing row e = cc

      is_so : (found : List Found) (more : Bool) (k : Key) → IsWithin settings shard from (page_end from before found more) k → is_told shards shard from before more found k ≡ true
      is_so found more k h =
          on (is_found k found) (shard_of_key k shards == shard) (is_below k from) (is_below k (page_end from before found more))
          (eq-eqb (shard_of_key k shards) shard h.at) h.from_on h.below
        where
          on : (x a f b : Bool) → a ≡ true → f ≡ false → b ≡ true → (x || (a && (not f && b))) ≡ true
          on x a f b p q r = grind arith

pub page_goes_on : (settings : Settings) (catalog : Catalog) (statement : Bound) (t : Txn) (facts : List Fact) (w : World) (reads : Reads) (shard : ℕ) (from first before : Key)
    (left : List Read) (found : List Found) (more : Bool) → reads.left ≡ Range shard from first before ∷ left → IsPage settings w.cells shard from before found more
    → ReadsOk settings catalog statement t facts reads
    → ReadsOk settings catalog statement t (fact_of w t.snapshot (is_told settings.shards shard from before more found) ∷ facts)
    (take_page settings.shards t.snapshot shard from first before found more reads left)
page_goes_on settings catalog statement t facts w reads shard from first before left found more e page h =
    goes_on settings catalog statement t facts (fact_of w t.snapshot (is_told settings.shards shard from before more found)) reads (Range shard from first before) left
    (range_left settings.shards shard from first before more found) (rows_found t.snapshot found) e
    (page_brings settings w t.snapshot shard from first before found more h.shards page) h
