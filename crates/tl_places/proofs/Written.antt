-- The opening rows by their keys are the opening writes.
use Rattle.std.proofs.Common.{◌≡◌, ℕ, ◌+◌, ◌≤◌, false, cond, List, [], ◌∷◌, ◌++◌, true, Some, Less, Equal, Greater, map, length, refl, sym, ap, subst, ◌∙◌, append_assoc, arith}
use Rattle.std.specs.Cmp.Lexicographic.{nat_list_cmp_total}
use Rattle.std.specs.FinMap as finmap
use Rattle.std.specs.FinMap.{nat_cmp-IsAntisymmetric, slice_cmp-IsAntisymmetric}
use Rattle.std.specs.FinMap.Entries.{by_order, put}
use Rattle.std.specs.List.{AllByRecursion}
use Rattle.std.specs.Ordering.{match_ordering}
use Rattle.tl_values.specs.declared.value.Value.{Value}
use Rattle.tl_schema.specs.declared.catalog.Catalog.{Catalog}
use Rattle.tl_schema.specs.declared.catalog.OpeningRow.{OpeningRow}
use Rattle.tl_schema.specs.Record.{record_key}
use Rattle.tl_write.specs.declared.write.Write.{Write}
use Rattle.tl_write.specs.Own.{key_cmp, put_write}
use Rattle.tl_write.specs.Tables.{Tables}
use Rattle.tl_isolation.specs.Tables.{opening_writes, table_of}
use Rattle.tl_versions.specs.Cell as cells
use Rattle.tl_versions.specs.Cell.{IsShortRow}
use Rattle.tl_journal.specs.Binding.{WriteFits}
use Rattle.tl_journal.specs.Served.{is_record_key}
use Rattle.tl_places.specs.Opening.{Stored, row_cell, row_writes, with_row, with_rows}

abbrev Entry : Type 0
Entry = List ℕ × List Value

abbrev row_write : Entry → Write
row_write e = record { key = e.0; row = Some e.1 }

-- an entry takes its place as its write does: of keys that tie the bytes are the same
put_writes_row : (k : List ℕ) (row : List Value) (es : List Entry) → map row_write (put key_cmp k row es) ≡ put_write (row_write (k, row)) (map row_write es)
put_writes_row k row [] = refl
put_writes_row k row (e ∷ es) =
    elim (key_cmp k e.0) as (λ o. key_cmp k e.0 ≡ o → map row_write (by_order o ((k, row) ∷ e ∷ es) ((e.0, row) ∷ es) (e ∷ put key_cmp k row es))
    ≡ match_ordering o (row_write (k, row) ∷ row_write e ∷ map row_write es) (row_write (k, row) ∷ map row_write es) (row_write e ∷ put_write (row_write (k, row)) (map row_write es))) [
      | Less ↦ λ t. refl
      | Equal ↦ λ t. ap (λ (key : List ℕ). row_write (key, row) ∷ map row_write es) (sym (slice_cmp-IsAntisymmetric nat_cmp-IsAntisymmetric k e.0 t))
      | Greater ↦ λ t. ap (λ (ws : List Write). row_write e ∷ ws) (put_writes_row k row es)
    ] refl

with_row-writes : (catalog : Catalog) (o : OpeningRow) (rows : Tables)
    → row_writes (with_row catalog o rows) ≡ put_write (record { key = record_key o.table (table_of catalog o.table) o.row; row = Some o.row }) (row_writes rows)
with_row-writes catalog o rows =
    let key : List ℕ = record_key o.table (table_of catalog o.table) o.row in
    ap (λ (es : List Entry). map row_write es) (finmap.entries-insert nat_list_cmp_total rows key o.row) ∙ put_writes_row key o.row (finmap.entries rows)

nothing : (es : List Entry) → length es ≡ 0 → map row_write es ≡ []
nothing [] h = refl
nothing (e ∷ es) h = absurd (omega arith)

no_writes : row_writes finmap.empty ≡ []
no_writes = nothing (finmap.entries finmap.empty) (sym (finmap.len-entries finmap.empty) ∙ finmap.len-empty key_cmp (List Value))

with_rows-writes : (catalog : Catalog) (rows : List OpeningRow) → row_writes (with_rows catalog rows finmap.empty) ≡ opening_writes catalog rows
with_rows-writes catalog [] = no_writes
with_rows-writes catalog (o ∷ os) =
    with_row-writes catalog o (with_rows catalog os finmap.empty)
    ∙ ap (λ (ws : List Write). put_write (record { key = record_key o.table (table_of catalog o.table) o.row; row = Some o.row }) ws) (with_rows-writes catalog os)

-- a row is one entry more at most
pub one_more_at_most : (catalog : Catalog) (o : OpeningRow) (rows : Tables) → finmap.len (with_row catalog o rows) ≤ finmap.len rows + 1
one_more_at_most catalog o rows =
    let key : List ℕ = record_key o.table (table_of catalog o.table) o.row in
    subst (λ (n : ℕ). n ≤ finmap.len rows + 1) (sym (finmap.len-insert nat_list_cmp_total rows key o.row))
    (elim (finmap.contains_key rows key) as (λ b. cond b (finmap.len rows) (finmap.len rows + 1) ≤ finmap.len rows + 1) [ true ↦ omega arith | false ↦ omega arith ])

-- the last row takes its place first
pub with_rows-append : (catalog : Catalog) (os : List OpeningRow) (o : OpeningRow) (rows : Tables)
    → with_rows catalog (os ++ o ∷ []) rows ≡ with_rows catalog os (with_row catalog o rows)
with_rows-append catalog [] o rows = refl
with_rows-append catalog (p ∷ os) o rows = ap (with_row catalog p) (with_rows-append catalog os o rows)

-- the cells of the rows are those of the writes
pub cells_of_writes : (es : List Entry)
    → map row_cell es ≡ map (λ (w : Write). (w.key, cells.spelling (record { tid = 0; row = w.row } ∷ []))) (map row_write es)
cells_of_writes [] = refl
cells_of_writes (e ∷ es) = ap (λ (cs : List Stored). row_cell e ∷ cs) (cells_of_writes es)

-- with no row left the rows are all
pub all_laid : (catalog : Catalog) (left all : List OpeningRow) (rows : Tables) → length left ≡ 0 → with_rows catalog left rows ≡ with_rows catalog all finmap.empty
    → row_writes rows ≡ opening_writes catalog all
all_laid catalog [] all rows none e = ap row_writes e ∙ with_rows-writes catalog all
all_laid catalog (o ∷ os) all rows none e = absurd (omega arith)

-- a row's cell more is stored, and a row less is left
pub cell_more : (stored : List Stored) (cell : Stored) (left rest : List Entry) (e : Entry) (all : List Stored) → left ≡ e ∷ rest → cell ≡ row_cell e
    → stored ++ map row_cell left ≡ all → (stored ++ cell ∷ []) ++ map row_cell rest ≡ all
cell_more stored cell left rest e all is same h =
    append_assoc stored (cell ∷ []) (map row_cell rest)
    ∙ ap (λ (c : Stored). stored ++ c ∷ map row_cell rest) same
    ∙ ap (λ (es : List Entry). stored ++ map row_cell es) (sym is)
    ∙ h

-- ---- what is known of the rows of a bound script

pub all_of_front : {X : Type 0} (P : X → Type 0) (xs : List X) (x : X) → AllByRecursion P (xs ++ x ∷ []) → AllByRecursion P xs × P x
all_of_front P [] x h = (tt, h.0)
all_of_front P (y ∷ ys) x h = let rest = all_of_front P ys x h.1 in ((h.0, rest.0), rest.1)

short_rows : (es : List Entry) → AllByRecursion WriteFits (map row_write es) → AllByRecursion (λ (e : Entry). IsShortRow e.1) es
short_rows [] h = tt
short_rows (e ∷ es) h = (record { count = h.0.row.fits.count; short = h.0.row.short }, short_rows es h.1)

-- each opening row has room in a cell
pub are_short : (catalog : Catalog) (os : List OpeningRow) (rows : Tables) → row_writes rows ≡ opening_writes catalog os → AllByRecursion WriteFits (opening_writes catalog os)
    → AllByRecursion (λ (e : Entry). IsShortRow e.1) (finmap.entries rows)
are_short catalog os rows e h = short_rows (finmap.entries rows) (subst (λ (ws : List Write). AllByRecursion WriteFits ws) (sym e) h)

record_rows : (es : List Entry) → AllByRecursion WriteFits (map row_write es) → AllByRecursion (λ (e : Entry). is_record_key e.0 ≡ true) es
record_rows [] h = tt
record_rows (e ∷ es) h = (h.0.key.is_record, record_rows es h.1)

-- each opening row stands under a record key
pub are_records : (catalog : Catalog) (os : List OpeningRow) (rows : Tables) → row_writes rows ≡ opening_writes catalog os → AllByRecursion WriteFits (opening_writes catalog os)
    → AllByRecursion (λ (e : Entry). is_record_key e.0 ≡ true) (finmap.entries rows)
are_records catalog os rows e h = record_rows (finmap.entries rows) (subst (λ (ws : List Write). AllByRecursion WriteFits ws) (sym e) h)
