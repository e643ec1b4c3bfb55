-- What a change writes can be stored: rows that aren't long, under keys that aren't, and no more records than a transaction may write.
use Rattle.std.proofs.Common.{◌≡◌, ℕ, zero, suc, ◌+◌, ◌<◌, ◌≤◌, Bool, true, false, ◌||◌, cond, leb, T, List, [], ◌∷◌, Option, Some, None, Result, Ok, Err, Ordering, Less, Equal, Greater, length, map, refl, sym, ap, subst, ◌∙◌, arith}
use Rattle.std.specs.Prelude.{slice_set}
use Rattle.std.specs.Cmp.{tied_itself}
use Rattle.std.specs.Cmp.Lexicographic.{nat_list_cmp_total}
use Rattle.std.specs.FinMap as finmap
use Rattle.std.specs.FinMap.{nat_cmp-IsAntisymmetric, slice_cmp-IsAntisymmetric}
use Rattle.std.specs.FinMap.Entries.{below_all, find, is_sorted}
use Rattle.std.specs.List.{AllByRecursion, list_all}
use Rattle.std.specs.Ordering.{is_eq, is_lt, match_ordering}
use Rattle.std.proofs.lemmas.Bool.{and_parts, leb-false, or_right}
use Rattle.std.proofs.lemmas.List.{length-set}
use Rattle.std.proofs.lemmas.Option.{option_and_then_some, same_Some}
use Rattle.tl_lemmas.proofs.Lists.{all_filter, all_map, all_set}
use Rattle.tl_lemmas.proofs.Tests.{and_first, and_second}
use Rattle.tl_values.specs.declared.value.Value.{Value}
use Rattle.tl_values.specs.Key.{AreValues, IsValue}
use Rattle.tl_schema.specs.declared.catalog.Catalog.{Catalog}
use Rattle.tl_schema.specs.declared.catalog.Column.{Column}
use Rattle.tl_schema.specs.declared.catalog.Table.{Table}
use Rattle.tl_schema.specs.Limits.{breaks_not_null, is_long}
use Rattle.tl_schema.specs.Record.{record_key}
use Rattle.tl_algebra.specs.declared.condition.Condition.{Condition}
use Rattle.tl_algebra.specs.declared.edit.Edit.{Edit}
use Rattle.tl_algebra.specs.declared.edit.Edit.TheVariants.{Insert, Update, Delete}
use Rattle.tl_algebra.specs.declared.edit.SetColumn.{SetColumn}
use Rattle.tl_algebra.specs.Truth.{lets_through}
use Rattle.tl_algebra.specs.Value.{value_of}
use Rattle.tl_write.specs.declared.fault.ChangeFault.{ChangeFault}
use Rattle.tl_write.specs.declared.fault.ChangeFault.TheVariants as fault
use Rattle.tl_write.specs.declared.write.Effect.{Effect}
use Rattle.tl_write.specs.declared.write.Write.{Write}
use Rattle.tl_write.specs.Change.{Deed, Add, Replace, Remove, Overflow, after, deeds, first_of, judged, matching, most_records, nothing, number_of, offence, on_from, replaced, row_offence, set_columns, too_many, unless, where_so, with_write}
use Rattle.tl_write.specs.Own.{fresh, fresh_count, is_rising, is_written, key_cmp, put_write, put_writes, record_count}
use Rattle.tl_write.specs.Tables.{Tables, is_in, laid_over, laid_write, records_in, write_of}
use Rattle.tl_write.proofs.Fresh.{fresh_again, fresh_new}
use Rattle.tl_write.proofs.Rising.{below_less, none_below, put_rising, turned}
use Rattle.tl_isolation.specs.declared.bound.Bound.TheVariants as bound
use Rattle.tl_isolation.specs.Meaning.{change_of}
use Rattle.tl_isolation.specs.Step.{own_after}
use Rattle.tl_isolation.specs.Tables.{FitsTable, Suits, sets_its_kind, table_of}
use Rattle.tl_isolation.proofs.Computed.{set_value}
use Rattle.tl_journal.specs.Binding.{KeyFits, TableFits, WriteFits}
use Rattle.tl_journal.specs.Takes.{first_rows, view_changed}
use Rattle.tl_journal.proofs.Fits.{RowFits}
use Rattle.tl_journal.proofs.RowSizes.{key_fits, not_long, row_fits, row_from}
use Rattle.tl_journal.proofs.Stated.{StatementOn}
use Rattle.tl_write.proofs.Keys.{key_eq, none_below as none_below_all}

-- the own writes of a transaction
pub record OwnFits (own : List Write) : Type 0 where
  pub writes : AllByRecursion WriteFits own
  pub few : length own ≤ 4096
  pub rising : is_rising own ≡ true

abbrev RecordFits : List ℕ → List Value → Type 0
RecordFits key row = KeyFits key × RowFits row

-- ---- tables

abbrev AreRecords : Tables → Type 0
AreRecords tables = (key : List ℕ) (row : List Value) → finmap.get tables key ≡ Some row → RecordFits key row

none_there : AreRecords finmap.empty
none_there key row e = let n : ◌≡◌ {A = Option (List Value)} None (Some row) = sym (finmap.get-empty key_cmp key) ∙ e in absurd cc

inserted_fits : (tables : Tables) (key : List ℕ) (row : List Value) → AreRecords tables → RecordFits key row → AreRecords (finmap.insert tables key row)
inserted_fits tables key row h i q r e = by (is_eq (key_cmp q key)) refl (sym (finmap.get-insert nat_list_cmp_total tables key row q) ∙ e)
  where
    by : (b : Bool) → is_eq (key_cmp q key) ≡ b → cond b (Some row) (finmap.get tables q) ≡ Some r → RecordFits q r
    by true t e = subst (λ (k : List ℕ). RecordFits k r) (sym (key_eq q key t)) (subst (λ (x : List Value). RecordFits key x) (same_Some row r e) i)
    by false t e = h q r e

removed_fits : (tables : Tables) (key : List ℕ) → AreRecords tables → AreRecords (finmap.remove tables key)
removed_fits tables key h q r e = by (is_eq (key_cmp q key)) (sym (finmap.get-remove nat_list_cmp_total tables key q) ∙ e)
  where
    by : (b : Bool) → cond b None (finmap.get tables q) ≡ Some r → RecordFits q r
    by true e = absurd cc
    by false e = h q r e

laid_one : (tables : Tables) (key : List ℕ) (row : Option (List Value)) → AreRecords tables → WriteFits (record { key = key; row = row })
    → AreRecords (laid_write tables (record { key = key; row = row }))
laid_one tables key None h w = removed_fits tables key h
laid_one tables key (Some row) h w = inserted_fits tables key row h (w.key, row_from row w.row w.brief)

laid_fits : (tables : Tables) (ws : List Write) → AreRecords tables → AllByRecursion WriteFits ws → AreRecords (laid_over tables ws)
laid_fits tables [] h f = h
laid_fits tables (w ∷ ws) h f = laid_fits (laid_write tables w) ws (laid_one tables w.key w.row h f.0) f.1

read_writes : (number : ℕ) (table : Table) (rows : List (List Value)) → length table.key ≤ 32 → AllByRecursion RowFits rows → AllByRecursion WriteFits (map (write_of number table) rows)
read_writes number table [] few h = tt
read_writes number table (row ∷ rows) few h =
    (record { key = key_fits number table row few h.0; row = h.0.change; brief = h.0.brief }, read_writes number table rows few h.1)

first_fit : (rows : List (List (List Value))) → AllByRecursion (AllByRecursion RowFits) rows → AllByRecursion RowFits (first_rows rows)
first_fit [] h = tt
first_fit (r ∷ rows) h = h.0

-- what is so of each look-up is so of each entry
listed : (es : List (List ℕ × List Value)) → is_sorted key_cmp es ≡ true → ((k : List ℕ) (row : List Value) → find key_cmp k es ≡ Some row → RecordFits k row)
    → AllByRecursion (λ e. RecordFits e.0 e.1) es
listed [] s h = tt
listed (e ∷ es) s h =
    let parts = and_parts (below_all key_cmp e.0 es) (is_sorted key_cmp es) s in (
      h e.0 e.1 (ap (λ (o : Ordering). cond (is_eq o) (Some e.1) (find key_cmp e.0 es)) (tied_itself nat_list_cmp_total e.0)),
      listed es parts.1 (λ k row i. h k row (later k row i parts.0 (is_eq (key_cmp k e.0)) refl)),
    )
  where
    no_row : {row : List Value} → ◌≡◌ {A = Option (List Value)} None (Some row) → ⊥
    no_row e = cc

    later : (k : List ℕ) (row : List Value) → find key_cmp k es ≡ Some row → below_all key_cmp e.0 es ≡ true → (b : Bool) → is_eq (key_cmp k e.0) ≡ b
        → cond b (Some e.1) (find key_cmp k es) ≡ Some row
    later k row i below true t = absurd (no_row (sym (ap (λ (l : List ℕ). find key_cmp l es) (key_eq k e.0 t) ∙ none_below_all e.0 es below) ∙ i))
    later k row i below false t = i

matching_fit : (number : ℕ) (condition : Option Condition) (tables : Tables) → AreRecords tables → AllByRecursion (λ e. RecordFits e.0 e.1) (matching number condition tables)
matching_fit number condition tables h =
    let P : List ℕ × List Value → Type 0 = λ e. RecordFits e.0 e.1 in
    all_filter P P (λ (e : List ℕ × List Value). lets_through condition e.1) (λ e i j. j) (records_in number tables)
    (all_filter P P (λ (e : List ℕ × List Value). is_in number e.0) (λ e i j. j) (finmap.entries tables)
    (listed (finmap.entries tables) (true_if (is_sorted key_cmp (finmap.entries tables)) (finmap.entries_sorted tables)) (λ k row e. h k row (finmap.get-entries tables k ∙ e))))
  where
    true_if : (b : Bool) → T b → b ≡ true
    true_if true h = refl
    true_if false h = absurd h

-- ---- deeds

-- a row that fits but for its length
pub record IsNarrow (row : List Value) : Type 0 where
  pub count : length row < 256
  pub values : AreValues row

abbrev IsKeyOf : Table → List ℕ → List Value → Type 0
IsKeyOf table key row = (number : ℕ) × (key ≡ record_key number table row)

abbrev DeedFits : Table → Deed → Type 0
DeedFits table (Add key row) = IsKeyOf table key row × IsNarrow row
DeedFits table (Replace key row) = KeyFits key × IsNarrow row
DeedFits table (Remove key) = KeyFits key
DeedFits table Overflow = Unit {0}

-- SET leaves the width of a row, and values
columns_fit : (columns : List Column) (sets : List SetColumn) (old new row : List Value) → AreValues old → list_all (sets_its_kind columns) sets ≡ true → IsNarrow new
    → set_columns sets old new ≡ Some row → IsNarrow row
columns_fit columns [] old new row o g h e = subst IsNarrow (same_Some new row e) h
columns_fit columns (s ∷ ss) old new row o g h e =
    let parts = and_parts (sets_its_kind columns s) (list_all (sets_its_kind columns) ss) g in
    option_and_then_some (λ (v : Value). set_columns ss old (slice_set new s.column v)) (value_of s.value old) row e
    (λ v i j. columns_fit columns ss old (slice_set new s.column v) row o parts.1 (one v (set_value columns s old v o parts.0 i)) j)
  where
    one : (v : Value) → IsValue v → IsNarrow (slice_set new s.column v)
    one v i = record { count = rw (length-set new s.column v) h.count; values = all_set IsValue new s.column v h.values i }

replaced_fits : (table : Table) (key : List ℕ) (o : Option (List Value)) → KeyFits key → ((row : List Value) → o ≡ Some row → IsNarrow row) → DeedFits table (replaced key o)
replaced_fits table key None k f = tt
replaced_fits table key (Some row) k f = (k, f row refl)

additions_fit : (number : ℕ) (table : Table) (rows : List (List Value)) → length table.columns ≤ 32 → AllByRecursion (FitsTable table) rows
    → AllByRecursion (DeedFits table) (map (λ (row : List Value). Add (record_key number table row) row) rows)
additions_fit number table [] narrow h = tt
additions_fit number table (row ∷ rows) narrow h =
    (((number, refl), record { count = rw (h.0.width) (omega (arith, narrow)); values = h.0.values }), additions_fit number table rows narrow h.1)

deeds_fit : (catalog : Catalog) (edit : Edit) (tables : Tables) → Suits catalog edit → TableFits (table_of catalog (number_of edit)) → AreRecords tables
    → AllByRecursion (DeedFits (table_of catalog (number_of edit))) (deeds edit (table_of catalog (number_of edit)) tables)
deeds_fit catalog (Insert number rows) tables suits narrow h = additions_fit number (table_of catalog number) rows narrow.columns suits.change
deeds_fit catalog (Update number sets condition) tables suits narrow h =
    all_map (λ (e : List ℕ × List Value). RecordFits e.0 e.1) (DeedFits (table_of catalog number)) (λ (e : List ℕ × List Value). replaced e.0 (set_columns sets e.1 e.1))
    (λ e i. replaced_fits (table_of catalog number) e.0 (set_columns sets e.1 e.1) i.0
    (λ row j. columns_fit (table_of catalog number).columns sets e.1 e.1 row i.1.change.fits.values suits.change.1 (record { count = i.1.change.fits.count; values = i.1.change.fits.values }) j))
    (matching number condition tables) (matching_fit number condition tables h)
deeds_fit catalog (Delete number condition) tables suits narrow h =
    all_map (λ (e : List ℕ × List Value). RecordFits e.0 e.1) (DeedFits (table_of catalog number)) (λ (e : List ℕ × List Value). Remove e.0) (λ e i. i.0)
    (matching number condition tables) (matching_fit number condition tables h)

-- ---- what isn't refused

first_none : (a b : Option ChangeFault) → first_of a b ≡ None → (a ≡ None) × (b ≡ None)
first_none None b e = (refl, e)
first_none (Some f) b e = absurd cc

so_none : (b : Bool) (f : ChangeFault) → where_so b f ≡ None → b ≡ false
so_none true f e = absurd cc
so_none false f e = refl

-- a row that its table takes
taken_row : (table : Table) (row : List Value) → row_offence table row ≡ None → is_long table row ≡ false
taken_row table row e =
    so_none (is_long table row) fault.Long (first_none (where_so (breaks_not_null table.columns row) fault.Null) (where_so (is_long table row) fault.Long) e).1

replace_fits : (table : Table) (key : List ℕ) (row : List Value) → KeyFits key → IsNarrow row → row_offence table row ≡ None → WriteFits (record { key = key; row = Some row })
replace_fits table key row k narrow e =
    let long = not_long 0 table row (taken_row table row e) in
    let fits = row_fits row narrow.count narrow.values long.0 in
    record { key = k; row = fits.change; brief = fits.brief }

add_fits : (table : Table) (key : List ℕ) (row : List Value) → IsKeyOf table key row → IsNarrow row → row_offence table row ≡ None → WriteFits (record { key = key; row = Some row })
add_fits table key row k narrow e =
    let long = not_long k.0 table row (taken_row table row e) in
    replace_fits table key row (subst KeyFits (sym k.1) long.1) narrow e

-- the writes of the deeds so far
record DoneFits (own : List Write) (done : Effect) : Type 0 where
  writes : AllByRecursion WriteFits done.writes
  rising : is_rising done.writes ≡ true
  few : record_count own done.writes ≤ 4096

put_fits : (w : Write) (ws : List Write) → WriteFits w → AllByRecursion WriteFits ws → AllByRecursion WriteFits (put_write w ws)
put_fits w [] h i = (h, tt)
put_fits w (x ∷ xs) h i = by (key_cmp w.key x.key) (put_fits w xs h i.1)
  where
    by : (o : Ordering) → AllByRecursion WriteFits (put_write w xs) → AllByRecursion WriteFits (match_ordering o (w ∷ x ∷ xs) (w ∷ xs) (x ∷ put_write w xs))
    by Less f = (h, i)
    by Equal f = (h, i.1)
    by Greater f = (i.0, f)

-- a write of a record that is written, or for which there is room
room : (own ws : List Write) (w : Write) → is_rising ws ≡ true → record_count own ws ≤ 4096 → too_many own ws w.key ≡ None → record_count own (put_write w ws) ≤ 4096
room own ws w rising few e = by (is_written w.key ws) (is_written w.key own) refl refl
  where
    by : (here there : Bool) → is_written w.key ws ≡ here → is_written w.key own ≡ there → record_count own (put_write w ws) ≤ 4096
    by true there h o = let same = fresh_again own w ws rising h in omega arith
    by false true h o =
        let more = fresh_new own w ws h in
        let none : fresh own w.key ≡ 0 = ap (λ (b : Bool). cond b 0 1) o in
        omega arith
    by false false h o =
        let more = fresh_new own w ws h in
        let one : fresh own w.key ≡ 1 = ap (λ (b : Bool). cond b 0 1) o in
        let free : leb 4096 (record_count own ws) ≡ false =
        so_none _ fault.Many (ap (λ (b : Bool). cond b None (where_so (leb most_records (record_count own ws)) fault.Many)) (sym (ap (λ (b : Bool). b || is_written w.key ws) o ∙ h)) ∙ e) in
        let below = leb-false _ _ free in
        omega arith

with_fits : (own : List Write) (w : Write) (done : Effect) → DoneFits own done → WriteFits w → too_many own done.writes w.key ≡ None → DoneFits own (with_write w done)
with_fits own w done d h e = record {
  writes = put_fits w done.writes h d.writes;
  rising = put_rising w done.writes d.rising;
  few = room own done.writes w d.rising d.few e;
}

after_fits : (table : Table) (is_there : List ℕ → Bool) (own : List Write) (deed : Deed) (done : Effect) → DeedFits table deed → DoneFits own done
    → offence table is_there own done.writes deed ≡ None → DoneFits own (after deed done)
after_fits table is_there own (Add key row) done h d e =
    let parts = first_none (row_offence table row) _ e in
    let later = first_none (where_so (is_there key || is_written key done.writes) fault.Duplicate) (too_many own done.writes key) parts.1 in
    with_fits own (record { key = key; row = Some row }) done d (add_fits table key row h.0 h.1 parts.0) later.1
after_fits table is_there own (Replace key row) done h d e =
    let parts = first_none (row_offence table row) (too_many own done.writes key) e in
    with_fits own (record { key = key; row = Some row }) done d (replace_fits table key row h.0 h.1 parts.0) parts.1
after_fits table is_there own (Remove key) done h d e =
    with_fits own (record { key = key; row = None }) done d (record { key = h; row = tt; brief = tt }) e
after_fits table is_there own Overflow done h d e = d

same_effect : (x y : Effect) → ◌≡◌ {A = Result Effect ChangeFault} (Ok x) (Ok y) → x ≡ y
same_effect x y e = cc

judged_fits : (table : Table) (is_there : List ℕ → Bool) (own : List Write) (ds : List Deed) (done effect : Effect) → AllByRecursion (DeedFits table) ds → DoneFits own done
    → judged table is_there own ds done ≡ Ok effect → DoneFits own effect
judged_fits table is_there own [] done effect h d e = subst (DoneFits own) (same_effect done effect e) d
judged_fits table is_there own (deed ∷ ds) done effect h d e =
    elim (offence table is_there own done.writes deed) as (λ o. offence table is_there own done.writes deed ≡ o
    → on_from (unless o (after deed done)) (λ (more : Effect). judged table is_there own ds more) ≡ Ok effect → DoneFits own effect) [
      | None ↦ λ n e. judged_fits table is_there own ds (after deed done) effect h.1 (after_fits table is_there own deed done h.0 d n) e
      | Some f ↦ λ n e. absurd cc
    ] refl e

-- ---- the own writes with those of a change

put_length : (w : Write) (own : List Write) → is_rising own ≡ true → length (put_write w own) ≤ length own + fresh own w.key
put_length w [] rising = omega arith
put_length w (x ∷ xs) rising = by (key_cmp w.key x.key) refl (put_length w xs (and_second _ _ rising))
  where
    by : (o : Ordering) → key_cmp w.key x.key ≡ o → length (put_write w xs) ≤ length xs + fresh xs w.key
        → length (match_ordering o (w ∷ x ∷ xs) (w ∷ xs) (x ∷ put_write w xs)) ≤ length (x ∷ xs) + fresh (x ∷ xs) w.key
    by Less p f =
        let none : is_written w.key xs ≡ false = none_below w.key xs (below_less w.key x.key xs p (and_first _ _ rising)) in
        let new : is_written w.key (x ∷ xs) ≡ false = ap (λ (o : Ordering). is_eq o || is_written w.key xs) (turned w.key x.key Less p) ∙ none in
        let one : fresh (x ∷ xs) w.key ≡ 1 = ap (λ (b : Bool). cond b 0 1) new in
        omega arith
    by Equal p f = omega arith
    by Greater p f =
        let same : is_written w.key (x ∷ xs) ≡ is_written w.key xs = ap (λ (o : Ordering). is_eq o || is_written w.key xs) (turned w.key x.key Greater p) in
        let fewer : fresh (x ∷ xs) w.key ≡ fresh xs w.key = ap (λ (b : Bool). cond b 0 1) same in
        omega arith

-- what is written stays written
either : (a b c : Bool) → (b ≡ true → c ≡ true) → (a || b) ≡ true → (a || c) ≡ true
either true b c f h = refl
either false b c f h = f h

eq_same : (k : List ℕ) (w x : Write) → key_cmp w.key x.key ≡ Equal → is_eq (key_cmp x.key k) ≡ is_eq (key_cmp w.key k)
eq_same k w x p = ap (λ (l : List ℕ). is_eq (key_cmp l k)) (sym (slice_cmp-IsAntisymmetric nat_cmp-IsAntisymmetric w.key x.key p))

still_written : (k : List ℕ) (w : Write) (own : List Write) → is_written k own ≡ true → is_written k (put_write w own) ≡ true
still_written k w [] h = absurd cc
still_written k w (x ∷ xs) h = by (key_cmp w.key x.key) refl (still_written k w xs)
  where
    by : (o : Ordering) → key_cmp w.key x.key ≡ o → (is_written k xs ≡ true → is_written k (put_write w xs) ≡ true)
        → is_written k (match_ordering o (w ∷ x ∷ xs) (w ∷ xs) (x ∷ put_write w xs)) ≡ true
    by Less p f = or_right (is_eq (key_cmp w.key k)) (is_written k (x ∷ xs)) h
    by Equal p f = ap (λ (b : Bool). b || is_written k xs) (sym (eq_same k w x p)) ∙ h
    by Greater p f = either (is_eq (key_cmp x.key k)) (is_written k xs) (is_written k (put_write w xs)) f h

one_fewer : (a b : Bool) → (a ≡ true → b ≡ true) → cond b 0 1 ≤ cond a 0 1
one_fewer true true f = omega arith
one_fewer false true f = omega arith
one_fewer false false f = omega arith
one_fewer true false f = let e : false ≡ true = f refl in absurd cc

fewer_fresh : (w : Write) (own ws : List Write) → fresh_count (put_write w own) ws ≤ fresh_count own ws
fewer_fresh w own [] = omega arith
fewer_fresh w own (x ∷ xs) =
    let here : fresh (put_write w own) x.key ≤ fresh own x.key = one_fewer (is_written x.key own) (is_written x.key (put_write w own)) (still_written x.key w own) in
    let rest = fewer_fresh w own xs in
    omega arith

puts_length : (ws own : List Write) → is_rising own ≡ true → length (put_writes ws own) ≤ record_count own ws
puts_length [] own rising = omega arith
puts_length (w ∷ ws) own rising =
    let later = puts_length ws (put_write w own) (put_rising w own rising) in
    let one = put_length w own rising in
    let rest = fewer_fresh w own ws in
    omega arith

puts_rising : (ws own : List Write) → is_rising own ≡ true → is_rising (put_writes ws own) ≡ true
puts_rising [] own rising = rising
puts_rising (w ∷ ws) own rising = puts_rising ws (put_write w own) (put_rising w own rising)

puts_fit : (ws own : List Write) → AllByRecursion WriteFits ws → AllByRecursion WriteFits own → AllByRecursion WriteFits (put_writes ws own)
puts_fit [] own h i = i
puts_fit (w ∷ ws) own h i = puts_fit ws (put_write w own) h.1 (put_fits w own h.0 i)

effect_fits : (own : List Write) (effect : Effect) → OwnFits own → DoneFits own effect → OwnFits (put_writes effect.writes own)
effect_fits own effect o d =
    let size = puts_length effect.writes own o.rising in
    let few : record_count own effect.writes ≤ 4096 = d.few in
    record { writes = puts_fit effect.writes own d.writes o.writes; few = omega arith; rising = puts_rising effect.writes own o.rising }

nothing_done : (own : List Write) → OwnFits own → DoneFits own nothing
nothing_done own o = let few : length own ≤ 4096 = o.few in record { writes = tt; rising = refl; few = omega arith }

abbrev table_in : Catalog → Edit → Table
table_in catalog edit = table_of catalog (number_of edit)

view_fits : (catalog : Catalog) (edit : Edit) (own : List Write) (rows : List (List (List Value))) → length (table_in catalog edit).key ≤ 32
    → AllByRecursion WriteFits own → AllByRecursion (AllByRecursion RowFits) rows → AreRecords (view_changed catalog edit own rows)
view_fits catalog edit own rows few o h =
    let read : List Write = map (write_of (number_of edit) (table_in catalog edit)) (first_rows rows) in
    laid_fits (laid_over finmap.empty read) own
    (laid_fits finmap.empty read none_there (read_writes (number_of edit) (table_in catalog edit) (first_rows rows) few (first_fit rows h))) o

-- the own writes after a change, by rows that were read
pub change_fits : (catalog : Catalog) (edit : Edit) (own : List Write) (rows : List (List (List Value))) → StatementOn catalog (bound.Change edit) → OwnFits own
    → AllByRecursion (AllByRecursion RowFits) rows → OwnFits (own_after (change_of catalog edit (view_changed catalog edit own rows) own) own)
change_fits catalog edit own rows s o h = by (change_of catalog edit (view_changed catalog edit own rows) own) refl
  where
    by : (r : Result Effect ChangeFault) → change_of catalog edit (view_changed catalog edit own rows) own ≡ r → OwnFits (own_after r own)
    by (Ok effect) e =
        let view : Tables = view_changed catalog edit own rows in
        let done = judged_fits (table_in catalog edit) (finmap.contains_key view) own (deeds edit (table_in catalog edit) view) nothing effect
        (deeds_fit catalog edit view s.suits s.table (view_fits catalog edit own rows s.table.key o.writes h)) (nothing_done own o) e in
        effect_fits own effect o done
    by (Err f) e = o
