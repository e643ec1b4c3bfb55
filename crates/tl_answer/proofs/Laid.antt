-- Own writes over the rows of one table: those of the other tables leave nothing there.
use Rattle.std.proofs.Common.{◌≡◌, ℕ, Bool, true, false, cond, List, [], ◌∷◌, Option, Some, None, map, refl, sym, ap, ◌∙◌}
use Rattle.std.specs.Cmp.Lexicographic.{nat_list_cmp_total}
use Rattle.std.specs.FinMap as finmap
use Rattle.std.specs.FinMap.Entries.{find, find-where_key, is_sorted-where_key, same_entries}
use Rattle.std.specs.FinMap.{nat_cmp-IsAntisymmetric, slice_cmp-IsAntisymmetric}
use Rattle.std.proofs.lemmas.Bool.{false_from_ne_true}
use Rattle.tl_values.specs.declared.value.Value.{Value}
use Rattle.tl_values.specs.Key.{key_bytes}
use Rattle.tl_schema.specs.declared.catalog.Table.{Table}
use Rattle.tl_schema.specs.Record.{key_values, record_key}
use Rattle.tl_write.specs.declared.write.Write.{Write}
use Rattle.tl_write.specs.Own.{key_cmp}
use Rattle.tl_write.specs.Tables.{Tables, is_in, laid_over, laid_rows, records_in, tables_of, write_of, writes_in}
use Rattle.tl_isolation.specs.Tables.{rows_in}
use Rattle.tl_protocol.specs.Store.{Key, last_of, over, same_key, written}
use Rattle.tl_protocol.proofs.Laid.{get_laid}
use Rattle.tl_journal.proofs.KeyOrder.{in_table}
use Rattle.tl_write.proofs.Keys.{key_eq}

abbrev Row : Type 0
Row = List Value

-- keys that key_eq are one
pub equal_keys : finmap.IsAntisymmetric key_cmp
equal_keys = slice_cmp-IsAntisymmetric nat_cmp-IsAntisymmetric

-- what a write leaves at a key, and those after it
abbrev with_first : Bool → Write → Option (Option Row) → Option (Option Row)
with_first same w later = last_of (cond same (Some w.row) None) later

unwritten : (w : Write) (later : Option (Option Row)) (b : Bool) → b ≡ false → with_first b w later ≡ later
unwritten w later b e = ap (λ c. with_first c w later) e ∙ alone later
  where
    alone : (later : Option (Option Row)) → last_of None later ≡ later
    alone None = refl
    alone (Some x) = refl

module _ (number : ℕ) where
  -- a key of the table is another than one that isn't
  apart : (k l : Key) → is_in number k ≡ true → is_in number l ≡ false → k ≡ l → ⊥
  apart k l i o e = clash (is_in number k) i (ap (is_in number) e ∙ o)
    where
      clash : (b : Bool) → b ≡ true → b ≡ false → ⊥
      clash b e f = cc

  -- at a key of the table
  written_in : (k : Key) (ws : List Write) → is_in number k ≡ true → written k (writes_in number ws) ≡ written k ws
  written_in k [] i = refl
  written_in k (w ∷ ws) i = one (is_in number w.key) refl (written_in k ws i)
    where
      one : (b : Bool) → is_in number w.key ≡ b → written k (writes_in number ws) ≡ written k ws
          → written k (cond b (w ∷ writes_in number ws) (writes_in number ws)) ≡ with_first (same_key w.key k) w (written k ws)
      one true e later = ap (with_first (same_key w.key k) w) later
      one false e later =
          later ∙ sym (unwritten w (written k ws) (same_key w.key k) (false_from_ne_true (same_key w.key k) (λ f. apart k w.key i e (sym (key_eq w.key k f)))))

  -- at another key
  written_out : (k : Key) (ws : List Write) → is_in number k ≡ false → written k (writes_in number ws) ≡ None
  written_out k [] o = refl
  written_out k (w ∷ ws) o = one (is_in number w.key) refl (written_out k ws o)
    where
      one : (b : Bool) → is_in number w.key ≡ b → written k (writes_in number ws) ≡ None
          → written k (cond b (w ∷ writes_in number ws) (writes_in number ws)) ≡ None
      one true e later =
          unwritten w (written k (writes_in number ws)) (same_key w.key k) (false_from_ne_true (same_key w.key k) (λ f. apart w.key k e o (key_eq w.key k f))) ∙ later
      one false e later = later

  module _ (table : Table) where
    pub row_in : (row : Row) → is_in number (record_key number table row) ≡ true
    row_in row = in_table number (key_bytes (key_values table row))

    rows_out : (k : Key) (rows : List Row) → is_in number k ≡ false → written k (map (write_of number table) rows) ≡ None
    rows_out k [] o = refl
    rows_out k (row ∷ rows) o =
        unwritten (write_of number table row) (written k (map (write_of number table) rows)) (same_key (record_key number table row) k)
        (false_from_ne_true (same_key (record_key number table row) k) (λ f. apart (record_key number table row) k (row_in row) o (key_eq (record_key number table row) k f)))
        ∙ rows_out k rows o

    module _ (rows : List Row) (own : List Write) where
      abbrev its_rows : Tables
      its_rows = tables_of number table rows

      -- the rows with all own writes over them
      abbrev pub viewed : Tables
      viewed = laid_over its_rows own

      -- the rows with the table's own writes over them
      abbrev pub laid : Tables
      laid = laid_over its_rows (writes_in number own)

      none_there : (k : Key) → is_in number k ≡ false → finmap.get its_rows k ≡ None
      none_there k o =
          get_laid finmap.empty (map (write_of number table) rows) k
          ∙ ap (λ (x : Option (Option Row)). over x (finmap.get (finmap.empty {K = Key} {X = Row} {R = key_cmp}) k)) (rows_out k rows o)
          ∙ finmap.get-empty key_cmp k

      pub get_both : (k : Key) → cond (is_in number k) (finmap.get viewed k) None ≡ finmap.get laid k
      get_both k = by (is_in number k) refl ∙ sym (get_laid its_rows (writes_in number own) k)
        where
          by : (b : Bool) → is_in number k ≡ b → cond b (finmap.get viewed k) None ≡ over (written k (writes_in number own)) (finmap.get its_rows k)
          by true e = get_laid its_rows own k ∙ ap (λ x. over x (finmap.get its_rows k)) (sym (written_in k own e))
          by false e = sym (ap (λ x. over x (finmap.get its_rows k)) (written_out k own e) ∙ none_there k e)

      find_records : (k : Key) → find key_cmp k (records_in number viewed) ≡ cond (is_in number k) (finmap.get viewed k) None
      find_records k =
          find-where_key key_cmp (is_in number) k (λ l e. ap (is_in number) (sym (equal_keys k l e))) (finmap.entries viewed)
          ∙ ap (λ (o : Option Row). cond (is_in number k) o None) (sym (finmap.get-entries viewed k))

      -- the records of the table are all that is laid
      pub records_laid : records_in number viewed ≡ finmap.entries laid
      records_laid =
          same_entries key_cmp nat_list_cmp_total equal_keys (records_in number viewed) (finmap.entries laid)
          (is_sorted-where_key key_cmp (is_in number) (finmap.entries viewed) (finmap.entries_sorted viewed)) (finmap.entries_sorted laid)
          (λ k. find_records k ∙ get_both k ∙ finmap.get-entries laid k)

      -- the rows that are seen of the table are its rows with its own writes over them
      pub rows_laid : rows_in number viewed ≡ laid_rows number table own rows
      rows_laid = ap (λ (es : List (Key × Row)). map (λ (e : Key × Row). e.1) es) records_laid
