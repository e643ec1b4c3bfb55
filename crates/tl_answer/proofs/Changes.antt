-- A change sees as much in the rows of its table as in all that the transaction sees.
use Rattle.std.proofs.Common.{◌≡◌, ℕ, zero, suc, Bool, true, false, cond, List, [], ◌∷◌, Option, Some, None, map, refl, sym, ap, subst, ◌∙◌, arith}
use Rattle.std.specs.Prelude.{Contains}
use Rattle.std.specs.FinMap as finmap
use Rattle.std.specs.FinMap.Entries.{find}
use Rattle.std.specs.List.{AllByRecursion}
use Rattle.std.specs.Ordering.{is_eq}
use Rattle.tl_lemmas.proofs.Lists.{all_map}
use Rattle.tl_values.specs.declared.value.Value.{Value}
use Rattle.tl_schema.specs.declared.catalog.Catalog.{Catalog}
use Rattle.tl_schema.specs.declared.catalog.Table.{Table}
use Rattle.tl_schema.specs.Record.{record_key}
use Rattle.tl_algebra.specs.declared.edit.Edit.{Edit}
use Rattle.tl_algebra.specs.declared.edit.Edit.TheVariants.{Insert, Update, Delete}
use Rattle.tl_write.specs.declared.write.Write.{Write}
use Rattle.tl_write.specs.Change.{number_of}
use Rattle.tl_write.specs.Change as change
use Rattle.tl_write.specs.Law.{Has, IsListed, LooksAt}
use Rattle.tl_write.specs.Own.{key_cmp}
use Rattle.tl_write.specs.Tables.{Tables, is_in, laid_over, laid_rows, laid_write, records_in, tables_of, write_of}
use Rattle.tl_write.proofs.Parts.{rows_suffice}
use Rattle.tl_isolation.specs.Meaning.{change_of}
use Rattle.tl_isolation.specs.Tables.{table_of}
use Rattle.tl_protocol.specs.Store.{Key, over, same_key}
use Rattle.tl_protocol.proofs.Laid.{get_laid}
use Rattle.tl_journal.specs.Takes.{view_changed}
use Rattle.tl_journal.proofs.Records.{each_record}
use Rattle.tl_answer.specs.Own.{OwnSuits, StandsUnderKey}
use Rattle.tl_answer.proofs.Laid.{get_both, laid, row_in, rows_laid, viewed}
use Rattle.tl_write.proofs.Keys.{key_eq}

abbrev Row : Type 0
Row = List Value

-- what is found is listed
found_listed : (k : Key) (row : Row) (es : List (Key × Row)) → find key_cmp k es ≡ Some row → Contains (map (λ (e : Key × Row). e.1) es) row
found_listed k row [] h = absurd cc
found_listed k row (e ∷ es) h = one (is_eq (key_cmp k e.0)) h (found_listed k row es)
  where
    one : (b : Bool) → cond b (Some e.1) (find key_cmp k es) ≡ Some row → (find key_cmp k es ≡ Some row → Contains (map (λ (x : Key × Row). x.1) es) row)
        → Contains (e.1 ∷ map (λ (x : Key × Row). x.1) es) row
    one true h later = (zero, omega arith, same e.1 row h)
      where
        same : (x y : Row) → Some x ≡ Some y → x ≡ y
        same x y e = cc
    one false h later = let c = later h in let within = c.1 in (suc c.0, omega arith, c.2)

module _ (number : ℕ) (table : Table) where
  -- each record of the table stands under its own key
  abbrev AreKeyed : Tables → Type 0
  AreKeyed tables = (k : Key) (row : Row) → Has tables k row → is_in number k ≡ true → k ≡ record_key number table row

  write_keyed : (tables : Tables) (w : Write) → AreKeyed tables → StandsUnderKey number table w → AreKeyed (laid_write tables w)
  write_keyed tables w keyed own k row has i = one (same_key w.key k) refl (sym (get_laid tables (w ∷ []) k) ∙ has)
    where
      one : (b : Bool) → same_key w.key k ≡ b → over (cond b (Some w.row) None) (finmap.get tables k) ≡ Some row → k ≡ record_key number table row
      one true e h = sym (key_eq w.key k e) ∙ own row (ap (is_in number) (key_eq w.key k e) ∙ i) h
      one false e h = keyed k row h i

  writes_keyed : (tables : Tables) (ws : List Write) → AreKeyed tables → AllByRecursion (StandsUnderKey number table) ws → AreKeyed (laid_over tables ws)
  writes_keyed tables [] keyed all = keyed
  writes_keyed tables (w ∷ ws) keyed all = writes_keyed (laid_write tables w) ws (write_keyed tables w keyed all.0) all.1

  rows_keyed : (rows : List Row) → AllByRecursion (StandsUnderKey number table) (map (write_of number table) rows)
  rows_keyed [] = tt
  rows_keyed (row ∷ rows) = (λ found i e. ap (record_key number table) (same row found e), rows_keyed rows)
    where
      same : (x y : Row) → ◌≡◌ {A = Option Row} (Some x) (Some y) → x ≡ y
      same x y e = cc

  none_keyed : AreKeyed finmap.empty
  none_keyed k row has i = absurd (clash row (sym (finmap.get-empty key_cmp k) ∙ has))
    where
      clash : (row : Row) → ◌≡◌ {A = Option Row} None (Some row) → ⊥
      clash row e = cc

  module _ (rows : List Row) (own : List Write) (all : AllByRecursion (StandsUnderKey number table) own) where
    abbrev whole : Tables
    whole = viewed number table rows own

    whole_keyed : AreKeyed whole
    whole_keyed = writes_keyed (tables_of number table rows) own (writes_keyed finmap.empty (map (write_of number table) rows) none_keyed (rows_keyed rows)) all

    -- each row that is laid stands in the whole
    each_stands : AllByRecursion (λ row. Has whole (record_key number table row) row) (laid_rows number table own rows)
    each_stands =
        subst (AllByRecursion (λ (row : Row). Has whole (record_key number table row) row)) (rows_laid number table rows own)
        (all_map (λ (e : Key × Row). Has whole (record_key number table e.1) e.1) (λ (row : Row). Has whole (record_key number table row) row) (λ (e : Key × Row). e.1) (λ e h. h)
        (records_in number whole)
        (each_record (λ k row. Has whole (record_key number table row) row) number whole
        (λ k row h i. subst (λ (l : Key). Has whole l row) (whole_keyed k row h i) h)))

    -- each row of the table in the whole is laid
    is_listed : (k : Key) (row : Row) → Has whole k row → is_in number k ≡ true → IsListed number table (laid_rows number table own rows) k row
    is_listed k row h i = (
      found_listed k row (finmap.entries (laid number table rows own))
          (sym (finmap.get-entries (laid number table rows own) k) ∙ sym (get_both number table rows own k)
          ∙ ap (λ (b : Bool). cond b (finmap.get whole k) None) i ∙ h),
      sym (whole_keyed k row h i),
    )

    insert_looks : (new : List Row) → LooksAt (Insert number new) table whole (IsListed number table (laid_rows number table own rows))
    insert_looks [] = tt
    insert_looks (row ∷ new) = (λ found has. is_listed (record_key number table row) found has (row_in number table row), insert_looks new)

module _ (table : Table) (rows : List Row) (own : List Write) where
  looks : (edit : Edit) → AllByRecursion (StandsUnderKey (number_of edit) table) own
      → LooksAt edit table (viewed (number_of edit) table rows own) (IsListed (number_of edit) table (laid_rows (number_of edit) table own rows))
  looks (Insert number new) all = insert_looks number table rows own all new
  looks (Update number sets where_) all = λ k row m. is_listed number table rows own all k row m.has m.in_table
  looks (Delete number where_) all = λ k row m. is_listed number table rows own all k row m.has m.in_table

  laid_suffices : (edit : Edit) → AllByRecursion (StandsUnderKey (number_of edit) table) own
      → change.change_of edit table (tables_of (number_of edit) table (laid_rows (number_of edit) table own rows)) own
      ≡ change.change_of edit table (viewed (number_of edit) table rows own) own
  laid_suffices edit all =
      rows_suffice edit table (laid_rows (number_of edit) table own rows) (viewed (number_of edit) table rows own) own
      (each_stands (number_of edit) table rows own all) (looks edit all)

-- the change comes to the same on the rows of its table with its own writes over them
pub same_change : (catalog : Catalog) (edit : Edit) (own : List Write) (rows view : List Row) (number : ℕ) (table : Table) → OwnSuits catalog edit own
    → number ≡ number_of edit → table ≡ table_of catalog number → view ≡ laid_rows number table own rows
    → change.change_of edit table (tables_of (number_of edit) table view) own ≡ change_of catalog edit (view_changed catalog edit own (rows ∷ [])) own
same_change catalog edit own rows view number table suits n e f =
    let is_table : table ≡ table_of catalog (number_of edit) = e ∙ ap (table_of catalog) n in
    ap (λ (xs : List Row). change.change_of edit table (tables_of (number_of edit) table xs) own) (f ∙ ap (λ (m : ℕ). laid_rows m table own rows) n)
    ∙ ap (λ (t : Table). change.change_of edit t (tables_of (number_of edit) t (laid_rows (number_of edit) t own rows)) own) is_table
    ∙ laid_suffices (table_of catalog (number_of edit)) rows own edit suits.keyed
