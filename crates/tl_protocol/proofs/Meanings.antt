-- What a statement is answered, computed from the rows that were read.
use Rattle.std.proofs.Common.{◌≡◌, ℕ, zero, suc, ◌+◌, ◌<◌, Bool, true, false, cond, length, Ordering, ◌||◌, ◌&&◌, List, [], ◌∷◌, ◌++◌, Option, Some, None, Result, map, filter, drop, refl, sym, ap, ◌∙◌, subst, append-nil, arith}
use Rattle.std.specs.Prelude.{slice_index_or, ◌==◌, not, if◌then◌else◌}
use Rattle.std.specs.FinMap as finmap
use Rattle.std.specs.List.{list_any}
use Rattle.std.specs.List.Sorted.{IsSorted}
use Rattle.std.specs.Cmp.{tied_itself}
use Rattle.std.specs.Cmp.Lexicographic.{nat_list_cmp_total}
use Rattle.std.specs.Ordering.{is_eq, is_lt}
use Rattle.std.proofs.lemmas.Bool.{and_from, eqb-true, not-true, or_left, or_right}
use Rattle.std.proofs.lemmas.List.Folds.{list_any-append}
use Rattle.std.proofs.lemmas.List.Sorted.{IsPermutation-refl}
use Rattle.tl_lemmas.proofs.Tests.{and_first, and_second, or_first, or_second}
use Rattle.tl_values.specs.declared.value.Value.{Value}
use Rattle.tl_values.specs.Key.{key_bytes}
use Rattle.tl_schema.specs.declared.access.Access.{Access}
use Rattle.tl_schema.specs.declared.access.Access.TheVariants as access
use Rattle.tl_schema.specs.declared.catalog.Catalog.{Catalog}
use Rattle.tl_schema.specs.Record.{key_values, record_key}
use Rattle.tl_algebra.specs.declared.condition.Condition.{Condition}
use Rattle.tl_algebra.specs.declared.edit.Edit.{Edit}
use Rattle.tl_algebra.specs.declared.edit.Edit.TheVariants.{Update}
use Rattle.tl_algebra.specs.declared.edit.SetColumn.{SetColumn}
use Rattle.tl_algebra.specs.declared.line.Line.{Line}
use Rattle.tl_algebra.specs.declared.query.Join.{Join}
use Rattle.tl_algebra.specs.declared.query.Query.{Query}
use Rattle.tl_algebra.specs.declared.query.Sort.{Sort}
use Rattle.tl_algebra.specs.Select.{lines_of, selected}
use Rattle.tl_algebra.specs.Sorting.{limited, line_cmp}
use Rattle.tl_algebra.specs.Truth.{lets_through}
use Rattle.tl_write.specs.declared.fault.ChangeFault.{ChangeFault}
use Rattle.tl_write.specs.declared.write.Effect.{Effect}
use Rattle.tl_write.specs.declared.write.Write.{Write}
use Rattle.tl_write.specs.Change.{judged, nothing, replaced, set_columns}
use Rattle.tl_write.specs.Law.{Has, IsPart}
use Rattle.tl_write.specs.Own.{key_cmp}
use Rattle.tl_write.specs.Tables.{Tables, is_in, laid_over, records_in}
use Rattle.tl_write.proofs.Parts.{matching_same, part_suffices}
use Rattle.tl_isolation.specs.declared.entry.Answer.{Answer}
use Rattle.tl_isolation.specs.declared.entry.Answer.TheVariants as answer
use Rattle.tl_isolation.specs.Meaning.{SelectAnswers, change_of, told_of}
use Rattle.tl_isolation.specs.Step.{own_after}
use Rattle.tl_isolation.specs.Tables.{AreHome, FitsTable, IsHome, Suits, rows_in, table_of}
use Rattle.tl_plan.specs.Access.{access_of, covers}
use Rattle.tl_plan.specs.Law.{ComparesValues, HasKey}
use Rattle.tl_plan.proofs.Suffices.{passing}
use Rattle.tl_protocol.specs.Store.{Key, last_of, over, same_key, written}
use Rattle.tl_protocol.specs.Move.{Changes, is_named}
use Rattle.tl_protocol.proofs.Confined.{keys_of, unwritten}
use Rattle.tl_protocol.proofs.Laid.{get_laid}
use Rattle.tl_write.proofs.Keys.{key_eq}

abbrev pub Row : Type 0
Row = List Value

all_pass : {A : Type 0} (xs : List A) → filter (λ (x : A). true) xs ≡ xs
all_pass [] = refl
all_pass (x ∷ xs) = ap (λ ys. x ∷ ys) (all_pass xs)

-- ---- the rows that were read, as tables

-- the row of a record that was looked at
abbrev pub looked_row : (Key → Bool) → (Key → Option Row) → Key → Option Row
looked_row looked rows k = if looked k then rows k else None

-- these rows under these keys, as tables and as a list in the order of the keys
abbrev pub with_row : Key → Option Row → Tables → Tables
with_row k None tables = tables
with_row k (Some row) tables = finmap.insert tables k row

abbrev pub tables_by : (Key → Option Row) → List Key → Tables
tables_by g [] = finmap.empty
tables_by g (k ∷ keys) = with_row k (g k) (tables_by g keys)

abbrev pub with_entry : Key → Option Row → List (Key × Row) → List (Key × Row)
with_entry k None entries = entries
with_entry k (Some row) entries = finmap.put key_cmp k row entries

abbrev pub entries_by : (Key → Option Row) → List Key → List (Key × Row)
entries_by g [] = []
entries_by g (k ∷ keys) = with_entry k (g k) (entries_by g keys)

-- a list in which nothing is found is empty
no_entries : (es : List (Key × Row)) → ((k : Key) → finmap.find key_cmp k es ≡ None) → es ≡ []
no_entries [] h = refl
no_entries (e ∷ es) h =
    absurd (some_none (sym (ap (λ (o : Ordering). cond (is_eq o) (Some e.1) (finmap.find key_cmp e.0 es)) (tied_itself nat_list_cmp_total e.0)) ∙ h e.0))
  where
    some_none : Some e.1 ≡ None → ⊥
    some_none e = cc

entries_are : (g : Key → Option Row) (keys : List Key) → finmap.entries (tables_by g keys) ≡ entries_by g keys
entries_are g [] = no_entries (finmap.entries (tables_by g [])) (λ k. sym (finmap.get-entries (tables_by g []) k) ∙ finmap.get-empty key_cmp k)
entries_are g (k ∷ keys) = one (g k) (entries_are g keys)
  where
    one : (o : Option Row) → finmap.entries (tables_by g keys) ≡ entries_by g keys → finmap.entries (with_row k o (tables_by g keys)) ≡ with_entry k o (entries_by g keys)
    one None e = e
    one (Some row) e = finmap.entries-insert nat_list_cmp_total (tables_by g keys) k row ∙ ap (finmap.put key_cmp k row) e

get_by : (g : Key → Option Row) (keys : List Key) (k : Key) → finmap.get (tables_by g keys) k ≡ (if is_named k keys then g k else None)
get_by g [] k = finmap.get-empty key_cmp k
get_by g (q ∷ keys) k = one (g q) (same_key q k) (is_named k keys) refl (λ e. ap g (key_eq q k e)) (get_by g keys k)
  where
    inserted : (b : Bool) (row : Row) (x : Option Row) → over (last_of (if b then Some (Some row) else None) None) x ≡ (if b then Some row else x)
    inserted true row x = refl
    inserted false row x = refl

    both : (o : Option Row) (b c : Bool) → (b ≡ true → o ≡ g k) → finmap.get (tables_by g keys) k ≡ (if c then g k else None)
        → (if b then o else finmap.get (tables_by g keys) k) ≡ (if b || c then g k else None)
    both o true c h e = h refl
    both o false c h e = e

    none_or : (b c : Bool) → (b ≡ true → None ≡ g k) → finmap.get (tables_by g keys) k ≡ (if c then g k else None)
        → finmap.get (tables_by g keys) k ≡ (if b || c then g k else None)
    none_or true true h e = e
    none_or true false h e = e ∙ h refl
    none_or false c h e = e

    one : (o : Option Row) (b c : Bool) → same_key q k ≡ b → (b ≡ true → o ≡ g k) → finmap.get (tables_by g keys) k ≡ (if c then g k else None)
        → finmap.get (with_row q o (tables_by g keys)) k ≡ (if b || c then g k else None)
    one None b c s h e = none_or b c h e
    one (Some row) b c s h e =
        get_laid (tables_by g keys) (record { key = q; row = Some row } ∷ []) k ∙ inserted (same_key q k) row (finmap.get (tables_by g keys) k)
        ∙ ap (λ (x : Bool). if x then Some row else finmap.get (tables_by g keys) k) s ∙ both (Some row) b c h e

-- ---- what a transaction sees of them, with its own writes

over_part : (o : Option (Option Row)) (x y : Option Row) (row : Row) → (x ≡ Some row → y ≡ Some row) → over o x ≡ Some row → over o y ≡ Some row
over_part None x y row h e = h e
over_part (Some r) x y row h e = e

-- the row of a record with the own writes over those that were read
abbrev pub seen_row : (Key → Bool) → (Key → Option Row) → List Write → Key → Option Row
seen_row looked rows own k = over (written k own) (looked_row looked rows k)

-- the keys that may have one
abbrev pub seen_keys : List Key → List Write → List Key
seen_keys keys own = keys_of own ++ keys

module _ (keys : List Key) (looked : Key → Bool) (rows : Key → Option Row) (none : (k : Key) → is_named k keys ≡ false → rows k ≡ None)
    (tables : Tables) (agree : (k : Key) → looked k ≡ true → finmap.get tables k ≡ rows k) (own : List Write) where
  abbrev part : Tables
  part = tables_by (seen_row looked rows own) (seen_keys keys own)

  abbrev whole : Tables
  whole = laid_over tables own

  unseen : (k : Key) → is_named k (seen_keys keys own) ≡ false → seen_row looked rows own k ≡ None
  unseen k e =
      let named : (is_named k (keys_of own) || is_named k keys) ≡ false = sym (list_any-append (λ (q : Key). same_key q k) (keys_of own) keys) ∙ e in
      ap (λ (o : Option (Option Row)). over o (looked_row looked rows k)) (unwritten k own (or_first (is_named k (keys_of own)) (is_named k keys) named))
      ∙ one (looked k) (none k (or_second (is_named k (keys_of own)) (is_named k keys) named))
    where
      one : (b : Bool) → rows k ≡ None → (if b then rows k else None) ≡ None
      one true h = h
      one false h = refl

  get_part : (k : Key) → finmap.get part k ≡ seen_row looked rows own k
  get_part k = get_by (seen_row looked rows own) (seen_keys keys own) k ∙ one (is_named k (seen_keys keys own)) refl
    where
      one : (b : Bool) → is_named k (seen_keys keys own) ≡ b → (if b then seen_row looked rows own k else None) ≡ seen_row looked rows own k
      one true e = refl
      one false e = sym (unseen k e)

  read_has : (k : Key) (row : Row) → looked_row looked rows k ≡ Some row → Has tables k row
  read_has k row e = one (looked k) refl e
    where
      one : (b : Bool) → looked k ≡ b → (if b then rows k else None) ≡ Some row → Has tables k row
      one true l h = agree k l ∙ h
      one false l h = absurd cc

  pub is_part : IsPart part whole
  is_part k row e =
      get_laid tables own k ∙ over_part (written k own) (looked_row looked rows k) (finmap.get tables k) row (read_has k row) (sym (get_part k) ∙ e)

  -- a row of a record that was looked at, unless it is one of the own
  pub part_has : (k : Key) (row : Row) → Has whole k row → (Has tables k row → looked k ≡ true) → Has part k row
  part_has k row e l =
      get_part k
      ∙ over_part (written k own) (finmap.get tables k) (looked_row looked rows k) row
      (λ h. ap (λ (b : Bool). if b then rows k else None) (l h) ∙ sym (agree k (l h)) ∙ h)
      (sym (get_laid tables own k) ∙ e)

-- ---- an UPDATE

-- an UPDATE with what it comes to on a row, and the access of its WHERE
pub record Updating (catalog : Catalog) : Type 0 where
  pub number : ℕ
  pub sets : List SetColumn
  pub where_ : Option Condition
  pub changed : Row → Option Row
  pub changed_so : (row : Row) → set_columns sets row row ≡ changed row
  pub takes : Row → Bool
  pub takes_so : (row : Row) → lets_through where_ row ≡ takes row
  pub access : Access
  pub access_so : access_of (table_of catalog number) 0 where_ ≡ access
  pub keyed : HasKey (table_of catalog number)
  pub compares : ComparesValues where_
  pub suits : Suits catalog (Update number sets where_)

-- no access looks at more than the key as yet
any_row : (a : Access) (bytes : Key) (x y : Row) → covers a bytes x ≡ covers a bytes y
any_row (access.Point key) bytes x y = refl
any_row (access.KeyRange low high) bytes x y = refl
any_row (access.IndexRange index low high) bytes x y = refl
any_row access.Whole bytes x y = refl

module _ (catalog : Catalog) (u : Updating catalog) where
  abbrev pub edit_of : Edit
  edit_of = Update u.number u.sets u.where_

  -- the records that it reads
  abbrev pub update_looks : Key → Bool
  update_looks k = is_in u.number k && covers u.access (drop 2 k) []

  abbrev deeds_by : (Row → Option Row) → (Row → Bool) → (Key → Bool) → List (Key × Row) → List Write → Result Effect ChangeFault
  deeds_by changed takes is_there records own =
      judged (table_of catalog u.number) is_there own (map (λ (e : Key × Row). replaced e.0 (changed e.1)) (filter (λ (e : Key × Row). takes e.1) records)) nothing

  effect_so : (tables : Tables) (own : List Write) → change_of catalog edit_of tables own ≡ deeds_by u.changed u.takes (finmap.contains_key tables) (records_in u.number tables) own
  effect_so tables own =
      ap (λ (f : Row → Option Row). deeds_by f (lets_through u.where_) (finmap.contains_key tables) (records_in u.number tables) own) (λ i row. u.changed_so row i)
      ∙ ap (λ (p : Row → Bool). deeds_by u.changed p (finmap.contains_key tables) (records_in u.number tables) own) (λ i row. u.takes_so row i)

  -- a row of its table that WHERE is true of was looked at
  looks_there : (tables : Tables) → AreHome catalog tables → (k : Key) (row : Row) → Has tables k row → is_in u.number k ≡ true
      → lets_through u.where_ row ≡ true → update_looks k ≡ true
  looks_there tables home k row has inside through =
      let h : IsHome catalog k row = home k row has in
      let same : u.number ≡ h.number = eqb-true u.number h.number (and_first (u.number == h.number) true (ap (is_in u.number) (sym h.own_key) ∙ inside)) in
      let fits = subst (λ (m : ℕ). FitsTable (table_of catalog m) row) (sym same) h.fits in
      let own : k ≡ record_key u.number (table_of catalog u.number) row = h.own_key ∙ ap (λ (m : ℕ). record_key m (table_of catalog m) row) (sym same) in
      let within : covers (access_of (table_of catalog u.number) 0 u.where_) (key_bytes (key_values (table_of catalog u.number) row)) row ≡ true =
      passing (table_of catalog u.number) u.where_ [] row [] u.keyed u.compares fits (ap (lets_through u.where_) (append-nil row) ∙ through) in
      and_from (is_in u.number k) (covers u.access (drop 2 k) []) inside
      (any_row u.access (drop 2 k) [] row ∙ ap (λ (q : Key). covers u.access (drop 2 q) row) own
      ∙ ap (λ (x : Access). covers x (key_bytes (key_values (table_of catalog u.number) row)) row) (sym u.access_so) ∙ within)

  module _ (keys : List Key) (rows : Key → Option Row) (none : (k : Key) → is_named k keys ≡ false → rows k ≡ None) (own : List Write) where
    abbrev read_tables : Tables
    read_tables = tables_by (seen_row update_looks rows own) (seen_keys keys own)

    -- what it does to the rows that were read
    abbrev pub update_so : Result Effect ChangeFault
    update_so =
        deeds_by u.changed u.takes (finmap.contains_key read_tables)
        (filter (λ (e : Key × Row). is_in u.number e.0) (entries_by (seen_row update_looks rows own) (seen_keys keys own))) own

    update_same : (tables : Tables) → AreHome catalog tables → ((k : Key) → update_looks k ≡ true → finmap.get tables k ≡ rows k)
        → change_of catalog edit_of (laid_over tables own) own ≡ update_so
    update_same tables home agree =
        sym (part_suffices edit_of (table_of catalog u.number) read_tables (laid_over tables own) own
        (is_part keys update_looks rows none tables agree own)
        (λ k row m. part_has keys update_looks rows none tables agree own k row m.has (λ h. looks_there tables home k row h m.in_table m.passes)))
        ∙ effect_so read_tables own
        ∙ ap (λ (es : List (Key × Row)). deeds_by u.changed u.takes (finmap.contains_key read_tables) (filter (λ (e : Key × Row). is_in u.number e.0) es) own)
        (entries_are (seen_row update_looks rows own) (seen_keys keys own))

    pub update_means : (told : Answer) → told_of update_so ≡ Some told → (tables : Tables) → AreHome catalog tables
        → ((k : Key) → update_looks k ≡ true → finmap.get tables k ≡ rows k) → Changes catalog edit_of tables own told (own_after update_so own)
    update_means told e tables home agree =
        let same = update_same tables home agree in
        record { answer = ap told_of same ∙ e; leaves = ap (λ (r : Result Effect ChangeFault). own_after r own) same }

-- ---- a SELECT

-- a SELECT with the lines that it comes to
pub record Selecting : Type 0 where
  pub query : Query
  pub lines : List (List Row) → Option (List Line)
  pub lines_so : (tables : List (List Row)) → lines_of query (selected query tables) ≡ lines tables

-- no line is less than the one before it
abbrev pub are_sorted : List Sort → List Line → Bool
are_sorted sorts [] = true
are_sorted sorts (x ∷ []) = true
are_sorted sorts (x ∷ y ∷ lines) = not (is_lt (line_cmp sorts y x)) && are_sorted sorts (y ∷ lines)

sorted_more : (sorts : List Sort) (x y : Line) (lines : List Line) → is_lt (line_cmp sorts y x) ≡ false → IsSorted (line_cmp sorts) (y ∷ lines) → IsSorted (line_cmp sorts) (x ∷ y ∷ lines)
sorted_more sorts x y lines first more = λ k d low below. at k d below
  where
    at : (k : ℕ) (d : Line) → k + 1 < length (x ∷ y ∷ lines) → is_lt (line_cmp sorts (slice_index_or (x ∷ y ∷ lines) (k + 1) d) (slice_index_or (x ∷ y ∷ lines) k d)) ≡ false
    at zero d below = first
    at (suc k) d below =
        let next : suc k + 1 ≡ suc (k + 1) = omega arith in
        subst (λ (n : ℕ). is_lt (line_cmp sorts (slice_index_or (x ∷ y ∷ lines) n d) (slice_index_or (y ∷ lines) k d)) ≡ false) (sym next)
        (more k d (omega arith) (omega arith))

sorted_so : (sorts : List Sort) (lines : List Line) → are_sorted sorts lines ≡ true → IsSorted (line_cmp sorts) lines
sorted_so sorts [] e = λ k d low below. absurd (omega arith)
sorted_so sorts (x ∷ []) e = λ k d low below. absurd (omega arith)
sorted_so sorts (x ∷ y ∷ lines) e =
    sorted_more sorts x y lines (not-true (is_lt (line_cmp sorts y x)) (and_first (not (is_lt (line_cmp sorts y x))) (are_sorted sorts (y ∷ lines)) e))
    (sorted_so sorts (y ∷ lines) (and_second (not (is_lt (line_cmp sorts y x))) (are_sorted sorts (y ∷ lines)) e))

-- what is answered where these are the lines
abbrev pub lines_told : Option ℕ → Option (List Line) → Answer
lines_told limit None = answer.Overflow
lines_told limit (Some all) = answer.Rows (limited limit (map (λ (line : Line). line.printed) all))

-- the lines stand in the order in which they are printed
abbrev pub stand_sorted : List Sort → Option (List Line) → Bool
stand_sorted sorts None = true
stand_sorted sorts (Some all) = are_sorted sorts all

module _ (s : Selecting) where
  -- the records that it reads
  abbrev pub select_looks : Key → Bool
  select_looks k = list_any (λ (join : Join). is_in join.table k) s.query.from

  abbrev rows_from : List Join → Tables → List (List Row)
  rows_from joins tables = map (λ (join : Join). rows_in join.table tables) joins

  answers : (tables : Tables) (o : Option (List Line)) → lines_of s.query (selected s.query (rows_from s.query.from tables)) ≡ o → stand_sorted s.query.sort o ≡ true
      → SelectAnswers s.query tables (lines_told s.query.limit o)
  answers tables None e f = e
  answers tables (Some all) e f =
      (all, e, record { ranked = all; permutation = IsPermutation-refl all; sorted = sorted_so s.query.sort all f; shown = refl })

  module _ (keys : List Key) (rows : Key → Option Row) (none : (k : Key) → is_named k keys ≡ false → rows k ≡ None) (own : List Write) where
    abbrev rows_by : List (Key × Row) → List Join → List (List Row)
    rows_by es joins = map (λ (join : Join). map (λ (e : Key × Row). e.1) (filter (λ (e : Key × Row). is_in join.table e.0) es)) joins

    -- the lines of the rows that were read
    abbrev pub select_lines : Option (List Line)
    select_lines = s.lines (rows_by (entries_by (seen_row select_looks rows own) (seen_keys keys own)) s.query.from)

    module _ (tables : Tables) (agree : (k : Key) → select_looks k ≡ true → finmap.get tables k ≡ rows k) where
      abbrev part_read : Tables
      part_read = tables_by (seen_row select_looks rows own) (seen_keys keys own)

      records_same : (number : ℕ) → ((k : Key) → is_in number k ≡ true → select_looks k ≡ true) → records_in number part_read ≡ records_in number (laid_over tables own)
      records_same number looks =
          sym (all_pass (records_in number part_read))
          ∙ matching_same number None part_read (laid_over tables own) (is_part keys select_looks rows none tables agree own)
          (λ k row m. part_has keys select_looks rows none tables agree own k row m.has (λ h. looks k m.in_table))
          ∙ all_pass (records_in number (laid_over tables own))

      rows_same : (joins : List Join) → ((k : Key) → list_any (λ (join : Join). is_in join.table k) joins ≡ true → select_looks k ≡ true)
          → rows_from joins part_read ≡ rows_from joins (laid_over tables own)
      rows_same [] looks = refl
      rows_same (join ∷ joins) looks =
          let one : rows_in join.table part_read ≡ rows_in join.table (laid_over tables own) =
          ap (map (λ (e : Key × Row). e.1)) (records_same join.table (λ k e. looks k (or_left (is_in join.table k) (list_any (λ (j : Join). is_in j.table k) joins) e))) in
          let more = rows_same joins (λ k e. looks k (or_right (is_in join.table k) (list_any (λ (j : Join). is_in j.table k) joins) e)) in
          λ i. one i ∷ more i

      pub select_means : stand_sorted s.query.sort select_lines ≡ true → SelectAnswers s.query (laid_over tables own) (lines_told s.query.limit select_lines)
      select_means f =
          answers (laid_over tables own) select_lines
          (s.lines_so (rows_from s.query.from (laid_over tables own)) ∙ ap s.lines (sym (rows_same s.query.from (λ k e. e)))
          ∙ ap (λ (es : List (Key × Row)). s.lines (rows_by es s.query.from)) (entries_are (seen_row select_looks rows own) (seen_keys keys own))) f
