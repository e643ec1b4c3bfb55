-- What a statement reads has record keys, and the rows that it brings fit.
use Rattle.std.proofs.Common.{◌≡◌, ℕ, ◌+◌, Bool, true, false, cond, List, [], ◌∷◌, ◌++◌, Option, Some, None, Ordering, map, filter, refl, ap, inl, inr, arith}
use Rattle.std.specs.Option.{option_to_list}
use Rattle.std.specs.List.{AllByRecursion, cons_option}
use Rattle.std.specs.Ordering.{is_lt, ordering_then}
use Rattle.std.proofs.lemmas.Bool.{both_ways, cases_lt, eq-eqb, eqb-true}
use Rattle.tl_lemmas.proofs.Lists.{all_append, all_mapped, all_push}
use Rattle.tl_base.specs.declared.place.Settings.{Settings}
use Rattle.tl_values.specs.declared.value.Value.{Value}
use Rattle.tl_values.proofs.Digits.{nat_greater, nat_less}
use Rattle.tl_schema.specs.declared.access.Access.{Access}
use Rattle.tl_schema.specs.declared.access.Access.TheVariants as access
use Rattle.tl_schema.specs.declared.catalog.Catalog.{Catalog}
use Rattle.tl_schema.specs.Record.{record_key}
use Rattle.tl_descriptor.specs.Tids.{TidSet}
use Rattle.tl_algebra.specs.declared.edit.Edit.{Edit}
use Rattle.tl_algebra.specs.declared.edit.Edit.TheVariants.{Insert, Update, Delete}
use Rattle.tl_write.specs.Own.{key_cmp}
use Rattle.tl_isolation.specs.declared.bound.Bound.{Bound}
use Rattle.tl_isolation.specs.declared.bound.Bound.TheVariants as bound
use Rattle.tl_isolation.specs.Tables.{table_of}
use Rattle.tl_plan.specs.Access.{access_of, accesses_of}
use Rattle.tl_plan.specs.Plan.{is_looked_up, numbers_of}
use Rattle.tl_protocol.specs.Store.{Key, row_shown}
use Rattle.tl_journal.specs.Ask.{Found, Heard, Record, Page}
use Rattle.tl_journal.specs.Asks.{asks_read}
use Rattle.tl_journal.specs.Reads.{Read, Point, Range, Reads, after_read, all_reads, begin_reads, edit_reads, key_behind, next_table, range_left, read_of, reads_of, rows_found, tables_read}
use Rattle.tl_journal.specs.Served.{is_record_key}
use Rattle.tl_journal.specs.Takes.{after_reply}
use Rattle.tl_journal.proofs.Fits.{AskFits, FoundFits, HeardFits, ReadFits, ReadsFit, RowFits}
use Rattle.tl_journal.proofs.RowSizes.{ShownFits, shown_fits}

abbrev AreReads : List Read → Type 0
AreReads reads = AllByRecursion ReadFits reads

abbrev AreRows : List (List Value) → Type 0
AreRows rows = AllByRecursion RowFits rows

-- ---- the reads of a statement

read_fits : (number : ℕ) (by : Access) → ReadFits (read_of number by)
read_fits number (access.Point key) = refl
read_fits number (access.KeyRange low high) = (refl, refl, refl)
read_fits number (access.IndexRange index low high) = (refl, refl, refl)
read_fits number access.Whole = (refl, refl, refl)

each_reads : (numbers : List ℕ) (accesses : List Access) → AllByRecursion AreReads (reads_of numbers accesses)
each_reads [] accesses = tt
each_reads (number ∷ numbers) [] = tt
each_reads (number ∷ numbers) (by ∷ accesses) = ((read_fits number by, tt), each_reads numbers accesses)

edit_fits : (catalog : Catalog) (edit : Edit) → AreReads (edit_reads catalog edit)
edit_fits catalog (Insert number rows) =
    all_mapped ReadFits (λ (row : List Value). Point (record_key number (table_of catalog number) row)) (λ row. refl) (filter (is_looked_up (table_of catalog number)) rows)
edit_fits catalog (Update number sets where_) = (read_fits number (access_of (table_of catalog number) 0 where_), tt)
edit_fits catalog (Delete number where_) = (read_fits number (access_of (table_of catalog number) 0 where_), tt)

statement_reads : (catalog : Catalog) (statement : Bound) → AllByRecursion AreReads (all_reads catalog statement)
statement_reads catalog (bound.Select query) = each_reads (numbers_of query) (accesses_of (map (table_of catalog) (numbers_of query)) 0 query.filter)
statement_reads catalog (bound.Change edit) = (edit_fits catalog edit, tt)
statement_reads catalog bound.Begin = tt
statement_reads catalog bound.Commit = tt
statement_reads catalog bound.Rollback = tt
statement_reads catalog (bound.Recover gone) = tt

next_fits : (later : List (List Read)) (rows : List (List Value)) (earlier : List (List (List Value))) → AllByRecursion AreReads later → AreRows rows → AllByRecursion AreRows earlier
    → ReadsFit (next_table later rows earlier)
next_fits [] rows earlier h r e = record { left = tt; later = tt; rows = r; earlier = e }
next_fits ([] ∷ later) rows earlier h r e = next_fits later [] (earlier ++ rows ∷ []) h.1 tt (all_push AreRows earlier rows e r)
next_fits ((read ∷ left) ∷ later) rows earlier h r e = record { left = h.0; later = h.1; rows = tt; earlier = all_push AreRows earlier rows e r }

begun_fit : (reads : List (List Read)) → AllByRecursion AreReads reads → ReadsFit (begin_reads reads)
begun_fit [] h = record { left = tt; later = tt; rows = tt; earlier = tt }
begun_fit ([] ∷ later) h = next_fits later [] [] h.1 tt tt
begun_fit ((read ∷ left) ∷ later) h = record { left = h.0; later = h.1; rows = tt; earlier = tt }

-- before the first reply
pub begin_fits : (catalog : Catalog) (statement : Bound) → ReadsFit (begin_reads (all_reads catalog statement))
begin_fits catalog statement = begun_fit (all_reads catalog statement) (statement_reads catalog statement)

-- the rows of all tables
pub tables_fit : (reads : Reads) → ReadsFit reads → AllByRecursion (AllByRecursion RowFits) (tables_read reads)
tables_fit reads h = all_push AreRows reads.earlier reads.rows h.earlier h.rows

-- ---- a reply

read_on : (reads : Reads) (left : List Read) (rows : List (List Value)) → ReadsFit reads → AreReads left → AreRows rows → ReadsFit (after_read reads left rows)
read_on reads [] rows h l r = next_fits reads.later (reads.rows ++ rows) reads.earlier h.later (all_append RowFits reads.rows rows h.rows r) h.earlier
read_on reads (read ∷ left) rows h l r = record { left = l; later = h.later; rows = all_append RowFits reads.rows rows h.rows r; earlier = h.earlier }

one_row : (row : Option (List Value)) → ShownFits row → AreRows (option_to_list row)
one_row None h = tt
one_row (Some row) h = (h, tt)

found_rows : (few : ℕ) (snapshot : TidSet) (found : List Found) → AllByRecursion (FoundFits few) found → AreRows (rows_found snapshot found)
found_rows few snapshot [] h = tt
found_rows few snapshot (f ∷ fs) h = one_more (row_shown snapshot f.versions) (rows_found snapshot fs) (shown_fits few snapshot f.versions h.0.versions) (found_rows few snapshot fs h.1)
  where
    one_more : (o : Option (List Value)) (rows : List (List Value)) → ShownFits o → AreRows rows → AreRows (cons_option o rows)
    one_more None rows s r = r
    one_more (Some row) rows s r = (s, r)

longer_key : (key : Key) → is_record_key key ≡ true → is_record_key (key ++ 0 ∷ []) ≡ true
longer_key [] h = absurd cc
longer_key (byte ∷ key) h = h

behind_record : (few : ℕ) (from : Key) (found : List Found) → is_record_key from ≡ true → AllByRecursion (FoundFits few) found → is_record_key (key_behind from found) ≡ true
behind_record few from [] h i = h
behind_record few from (f ∷ fs) h i = behind_record few (f.key ++ 0 ∷ []) fs (longer_key f.key i.0.is_record) i.1

left_fits : (few shards shard : ℕ) (from first before : Key) (more : Bool) (found : List Found) → ReadFits (Range shard from first before) → AllByRecursion (FoundFits few) found
    → AreReads (range_left shards shard from first before more found)
left_fits few shards shard from first before true found h f = ((behind_record few from found h.0 f, h.1, h.2), tt)
left_fits few shards shard from first before false found h f = by _
  where
    by : (b : Bool) → AreReads (cond b (Range (shard + 1) first first before ∷ []) [])
    by true = ((h.1, h.1, h.2), tt)
    by false = tt

-- the reads, where the reply is one to the first of them
abbrev pub OptionFits : Option Reads → Type 0
OptionFits None = Unit {0}
OptionFits (Some reads) = ReadsFit reads

pub reply_fits : (settings : Settings) (few : ℕ) (snapshot : TidSet) (reads : Reads) (left : List Read) (heard : Heard) → ReadsFit reads → AllByRecursion ReadFits left → HeardFits few heard
    → OptionFits (after_reply settings snapshot reads left heard)
reply_fits settings few snapshot reads (Point key ∷ left) (Record cell) h l f =
    read_on reads left (option_to_list (row_shown snapshot cell.versions)) h l.1 (one_row (row_shown snapshot cell.versions) (shown_fits few snapshot cell.versions f))
reply_fits settings few snapshot reads (Range shard from first before ∷ left) (Page found more) h l f =
    read_on reads (range_left settings.shards shard from first before more found ++ left) (rows_found snapshot found) h
    (all_append ReadFits (range_left settings.shards shard from first before more found) left (left_fits few settings.shards shard from first before more found l.0 f) l.1)
    (found_rows few snapshot found f)
reply_fits settings few snapshot reads left heard h l f = tt

-- the request for the first read
pub read_asked : (few : ℕ) (left : List Read) → AllByRecursion ReadFits left → AskFits few (asks_read left)
read_asked few [] h = tt
read_asked few (Point key ∷ left) h = h.0
read_asked few (Range shard from first before ∷ left) h = (h.0.0, h.0.2)

-- ---- keys of a page

-- a key between record keys is one
pub within_is_record : (from before key : Key) → is_record_key from ≡ true → is_record_key before ≡ true → is_lt (key_cmp key from) ≡ false → is_lt (key_cmp key before) ≡ true
    → is_record_key key ≡ true
within_is_record [] before key f b above below = absurd cc
within_is_record (x ∷ xs) [] key f b above below = absurd cc
within_is_record (x ∷ xs) (y ∷ ys) [] f b above below = absurd cc
within_is_record (x ∷ xs) (y ∷ ys) (k ∷ ks) f b above below =
    elim (cases_lt k x) [
      | inl lt ↦ absurd (both_ways (is_lt (key_cmp (k ∷ ks) (x ∷ xs))) above (ap (λ (o : Ordering). is_lt (ordering_then o (key_cmp ks xs))) (nat_less k x lt)))
      | inr le ↦ elim (cases_lt y k) [
        | inl lt ↦ absurd (both_ways (is_lt (key_cmp (k ∷ ks) (y ∷ ys))) (ap (λ (o : Ordering). is_lt (ordering_then o (key_cmp ks ys))) (nat_greater k y lt)) below)
        | inr ge ↦ let low : x ≡ 4 = eqb-true x 4 f in let high : y ≡ 4 = eqb-true y 4 b in eq-eqb k 4 (omega arith)
      ]
    ]
