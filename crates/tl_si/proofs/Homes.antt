-- Rows stay under their own record keys.
use Rattle.std.proofs.Common.{◌≡◌, ℕ, ◌==◌, Bool, true, false, cond, T, List, [], ◌∷◌, Option, Some, None, Result, Ok, Ordering, Less, Equal, Greater, map, filter, refl, sym, ap, subst, ◌∙◌}
use Rattle.std.specs.Prelude.{slice_set}
use Rattle.std.specs.Option.{option_or}
use Rattle.std.specs.Cmp.{tied_itself}
use Rattle.std.specs.Cmp.Lexicographic.{nat_list_cmp_total}
use Rattle.std.specs.FinMap as finmap
use Rattle.std.specs.FinMap.Entries.{below_all, find, is_sorted}
use Rattle.std.specs.List.{list_any, AllByRecursion}
use Rattle.std.specs.Ordering.{is_eq, match_ordering}
use Rattle.std.proofs.lemmas.Bool.{and_parts, both_ways, eqb-true, eq-eqb, not-true, or_parts}
use Rattle.std.proofs.lemmas.List.{get_or-set_other}
use Rattle.std.proofs.lemmas.Option.{option_and_then_some, same_Some}
use Rattle.tl_lemmas.proofs.Lists.{all_filter, all_map, all_of}
use Rattle.tl_values.specs.declared.value.Value.{Value}
use Rattle.tl_values.specs.declared.value.Value.TheVariants as value
use Rattle.tl_values.specs.Value.{values_at}
use Rattle.tl_schema.specs.declared.catalog.Catalog.{Catalog}
use Rattle.tl_schema.specs.declared.catalog.OpeningRow.{OpeningRow}
use Rattle.tl_schema.specs.Record.{record_key, store_key}
use Rattle.tl_algebra.specs.declared.condition.Condition.{Condition}
use Rattle.tl_algebra.specs.declared.edit.Edit.{Edit}
use Rattle.tl_algebra.specs.declared.edit.Edit.TheVariants.{Insert, Update, Delete}
use Rattle.tl_algebra.specs.declared.edit.SetColumn.{SetColumn}
use Rattle.tl_algebra.specs.Truth.{lets_through}
use Rattle.tl_algebra.specs.Value.{value_of}
use Rattle.tl_write.specs.declared.fault.ChangeFault.{ChangeFault}
use Rattle.tl_write.specs.declared.write.Effect.{Effect}
use Rattle.tl_write.specs.declared.write.Write.{Write}
use Rattle.tl_write.specs.Change.{Deed, Add, Replace, Remove, Overflow, after, deeds, judged, matching, nothing, number_of, offence, on_from, replaced, set_columns, unless}
use Rattle.tl_write.specs.Own.{key_cmp, put_write, put_writes}
use Rattle.tl_write.specs.Tables.{Tables, is_in, laid_over, records_in}
use Rattle.tl_isolation.specs.declared.state.Commit.{Commit}
use Rattle.tl_isolation.specs.Meaning.{change_of}
use Rattle.tl_isolation.specs.State.{tables_from}
use Rattle.tl_isolation.specs.Tables.{keeps_key, opening_writes, table_of}
use Rattle.tl_si.specs.Sound.{AreHome, AreHomeWrites, IsHome, IsHomeWrite}
use Rattle.tl_si.proofs.Laid.{Key, Row, get_laid, over, written}
use Rattle.tl_write.proofs.Keys.{key_eq, none_below, sorted_entries}

-- what a change needs: SET leaves the columns of the primary key
abbrev pub Keeps : Catalog → Edit → Type 0
Keeps catalog (Insert number rows) = Unit {0}
Keeps catalog (Update number sets condition) = keeps_key (table_of catalog number) sets ≡ true
Keeps catalog (Delete number condition) = Unit {0}

module _ (catalog : Catalog) where
  -- the row of a table stands under its record key, and under no other
  in_table : (number m : ℕ) (values : Row) → is_in number (store_key m values) ≡ true → m ≡ number
  in_table number m values e = sym (eqb-true number m (and_parts (number == m) true e).0)

  key_home : (number : ℕ) (row : Row) → IsHome catalog (record_key number (table_of catalog number) row) row
  key_home number row m e =
      ap (λ (n : ℕ). record_key n (table_of catalog n) row) (sym (in_table m number (values_at (table_of catalog number).key row) e))

  row_home : (key : Key) (row : Row) → IsHome catalog key row → IsHomeWrite catalog (record { key = key; row = Some row })
  row_home key row h r e = subst (λ (x : Row). IsHome catalog key x) (same_Some row r e) h

  none_home : (key : Key) → IsHomeWrite catalog (record { key = key; row = None })
  none_home key r e = absurd cc

  put_home : (w : Write) (ws : List Write) → IsHomeWrite catalog w → AreHomeWrites catalog ws → AreHomeWrites catalog (put_write w ws)
  put_home w [] h i = (h, tt)
  put_home w (x ∷ xs) h i =
      elim (key_cmp w.key x.key) as (λ o. AreHomeWrites catalog (match_ordering o (w ∷ x ∷ xs) (w ∷ xs) (x ∷ put_write w xs))) [
        | Less ↦ (h, i)
        | Equal ↦ (h, i.1)
        | Greater ↦ (i.0, put_home w xs h i.1)
      ]

  pub puts_home : (ws own : List Write) → AreHomeWrites catalog ws → AreHomeWrites catalog own → AreHomeWrites catalog (put_writes ws own)
  puts_home [] own h i = i
  puts_home (w ∷ ws) own h i = puts_home ws (put_write w own) h.1 (put_home w own h.0 i)

  pub opening_home : (rows : List OpeningRow) → AreHomeWrites catalog (opening_writes catalog rows)
  opening_home [] = tt
  opening_home (o ∷ os) =
      let key : Key = record_key o.table (table_of catalog o.table) o.row in
      put_home (record { key = key; row = Some o.row }) (opening_writes catalog os) (row_home key o.row (key_home o.table o.row)) (opening_home os)

  -- tables
  laid_one : (below : Option Row) (key : Key) (o : Option (Option Row)) → ((row : Row) → below ≡ Some row → IsHome catalog key row)
      → ((row : Row) → o ≡ Some (Some row) → IsHome catalog key row) → (row : Row) → over o below ≡ Some row → IsHome catalog key row
  laid_one below key None h i row e = h row e
  laid_one below key (Some r) h i row e = i row (ap (λ (x : Option Row). Some x) e)

  written_home : (key : Key) (ws : List Write) → AreHomeWrites catalog ws → (row : Row) → written key ws ≡ Some (Some row) → IsHome catalog key row
  written_home key [] h row e = absurd cc
  written_home key (w ∷ ws) h row e = later (written key ws) refl (λ e. written_home key ws h.1 row e) e
    where
      here : (b : Bool) → is_eq (key_cmp w.key key) ≡ b → cond b (Some w.row) None ≡ Some (Some row) → IsHome catalog key row
      here true t e = subst (λ (k : Key). IsHome catalog k row) (key_eq w.key key t) (h.0 row (same_Some w.row (Some row) e))
      here false t e = absurd cc

      later : (o : Option (Option Row)) → written key ws ≡ o → (written key ws ≡ Some (Some row) → IsHome catalog key row)
          → option_or o (cond (is_eq (key_cmp w.key key)) (Some w.row) None) ≡ Some (Some row) → IsHome catalog key row
      later None o f e = here (is_eq (key_cmp w.key key)) refl e
      later (Some x) o f e = f (o ∙ e)

  pub laid_home : (tables : Tables) (ws : List Write) → AreHome catalog tables → AreHomeWrites catalog ws → AreHome catalog (laid_over tables ws)
  laid_home tables ws h i key row e =
      laid_one (finmap.get tables key) key (written key ws) (h key) (written_home key ws i) row (sym (get_laid tables ws key) ∙ e)

  pub tables_home : (tables : Tables) (cs : List Commit) → AreHome catalog tables → AllByRecursion (λ (c : Commit). AreHomeWrites catalog c.writes) cs
      → AreHome catalog (tables_from tables cs)
  tables_home tables [] h i = h
  tables_home tables (c ∷ cs) h i = tables_home (laid_over tables c.writes) cs (laid_home tables c.writes h i.0) i.1

  pub empty_home : AreHome catalog finmap.empty
  empty_home key row e = absurd (none_some (sym (finmap.get-empty key_cmp key) ∙ e))
    where
      none_some : ◌≡◌ {A = Option Row} None (Some row) → ⊥
      none_some e = cc

-- what is so of each look-up is so of each entry
pub listed : (P : Key → Row → Type 0) (es : List (Key × Row)) → is_sorted key_cmp es ≡ true
    → ((k : Key) (row : Row) → find key_cmp k es ≡ Some row → P k row) → AllByRecursion (λ e. P e.0 e.1) es
listed P [] s h = tt
listed P (e ∷ es) s h =
    let parts = and_parts (below_all key_cmp e.0 es) (is_sorted key_cmp es) s in (
      h e.0 e.1 (ap (λ (o : Ordering). cond (is_eq o) (Some e.1) (find key_cmp e.0 es)) (tied_itself nat_list_cmp_total e.0)),
      listed P es parts.1 (λ k row i. h k row (later k row i parts.0)),
    )
  where
    later : (k : Key) (row : Row) → find key_cmp k es ≡ Some row → below_all key_cmp e.0 es ≡ true
        → cond (is_eq (key_cmp k e.0)) (Some e.1) (find key_cmp k es) ≡ Some row
    later k row i below =
        elim (is_eq (key_cmp k e.0)) as (λ b. is_eq (key_cmp k e.0) ≡ b → cond b (Some e.1) (find key_cmp k es) ≡ Some row) [
          | true ↦ λ t.
              let none : find key_cmp k es ≡ None = ap (λ (l : Key). find key_cmp l es) (key_eq k e.0 t) ∙ none_below e.0 es below in
              absurd (no_row (sym none ∙ i))
          | false ↦ λ t. i
        ] refl
      where
        no_row : ◌≡◌ {A = Option Row} None (Some row) → ⊥
        no_row e = cc

-- SET of another column leaves the values of the key
one_column : (key : List ℕ) (values : Row) (column : ℕ) (v : Value) → list_any (λ (place : ℕ). place == column) key ≡ false
    → values_at key (slice_set values column v) ≡ values_at key values
one_column [] values column v h = refl
one_column (place ∷ key) values column v h =
    let parts = or_parts (place == column) (list_any (λ (place : ℕ). place == column) key) h in
    λ i. get_or-set_other values column place v value.Null (λ e. both_ways (place == column) parts.0 (eq-eqb place column e)) i ∷ one_column key values column v parts.1 i

columns_kept : (key : List ℕ) (sets : List SetColumn) (old new row : Row)
    → list_any (λ (set : SetColumn). list_any (λ (place : ℕ). place == set.column) key) sets ≡ false → set_columns sets old new ≡ Some row
    → values_at key row ≡ values_at key new
columns_kept key [] old new row h e = ap (values_at key) (sym (same_Some new row e))
columns_kept key (s ∷ ss) old new row h e =
    let parts = or_parts (list_any (λ (place : ℕ). place == s.column) key) (list_any (λ (set : SetColumn). list_any (λ (place : ℕ). place == set.column) key) ss) h in
    option_and_then_some (λ (v : Value). set_columns ss old (slice_set new s.column v)) (value_of s.value old) row e
    (λ v i j. columns_kept key ss old (slice_set new s.column v) row parts.1 j ∙ one_column key new s.column v parts.0)

-- the row that a deed writes is at home
abbrev IsHomeDeed : Catalog → Deed → Type 0
IsHomeDeed catalog (Add key row) = IsHome catalog key row
IsHomeDeed catalog (Replace key row) = IsHome catalog key row
IsHomeDeed catalog (Remove key) = Unit {0}
IsHomeDeed catalog Overflow = Unit {0}

module _ (catalog : Catalog) (number : ℕ) where
  -- the record is at home, and in the table of this number
  abbrev IsHomeIn : Key × Row → Type 0
  IsHomeIn e = IsHome catalog e.0 e.1 × (is_in number e.0 ≡ true)

  matching_home : (condition : Option Condition) (tables : Tables) → AreHome catalog tables → AllByRecursion IsHomeIn (matching number condition tables)
  matching_home condition tables h =
      all_filter IsHomeIn IsHomeIn (λ (e : Key × Row). lets_through condition e.1) (λ e i j. j) (records_in number tables)
      (all_filter (λ (e : Key × Row). IsHome catalog e.0 e.1) IsHomeIn (λ (e : Key × Row). is_in number e.0) (λ e i j. (j, i))
      (finmap.entries tables)
      (listed (IsHome catalog) (finmap.entries tables) (sorted_entries tables) (λ k row e. h k row (finmap.get-entries tables k ∙ e))))

  -- the new row has the key of the old one
  replaced_home : (e : Key × Row) (changed : Option Row) → IsHomeIn e
      → ((row : Row) → changed ≡ Some row → values_at (table_of catalog number).key row ≡ values_at (table_of catalog number).key e.1)
      → IsHomeDeed catalog (replaced e.0 changed)
  replaced_home e None h k = tt
  replaced_home e (Some row) h k =
      λ m i.
      let old : record_key number (table_of catalog number) e.1 ≡ e.0 = h.0 number h.1 in
      let same : number ≡ m = in_table catalog m number (values_at (table_of catalog number).key e.1) (ap (is_in m) old ∙ i) in
      ap (λ (n : ℕ). record_key n (table_of catalog n) row) (sym same) ∙ ap (store_key number) (k row refl) ∙ old

edit_home : (catalog : Catalog) (edit : Edit) (tables : Tables) → AreHome catalog tables → Keeps catalog edit
    → AllByRecursion (IsHomeDeed catalog) (deeds edit (table_of catalog (number_of edit)) tables)
edit_home catalog (Insert number rows) tables h k =
    all_map (λ (row : Row). Unit {0}) (IsHomeDeed catalog) (λ (row : Row). Add (record_key number (table_of catalog number) row) row) (λ row u. key_home catalog number row)
    rows (all_of (λ (row : Row). Unit {0}) (λ row. tt) rows)
edit_home catalog (Update number sets condition) tables h k =
    let key : List ℕ = (table_of catalog number).key in
    let apart = not-true (list_any (λ (set : SetColumn). list_any (λ (place : ℕ). place == set.column) key) sets) k in
    all_map (IsHomeIn catalog number) (IsHomeDeed catalog) (λ (e : Key × Row). replaced e.0 (set_columns sets e.1 e.1))
    (λ e i. replaced_home catalog number e (set_columns sets e.1 e.1) i (λ row j. columns_kept key sets e.1 e.1 row apart j))
    (matching number condition tables) (matching_home catalog number condition tables h)
edit_home catalog (Delete number condition) tables h k =
    all_map (λ (e : Key × Row). Unit {0}) (IsHomeDeed catalog) (λ (e : Key × Row). Remove e.0) (λ e u. tt)
    (matching number condition tables) (all_of (λ (e : Key × Row). Unit {0}) (λ e. tt) (matching number condition tables))

after_home : (catalog : Catalog) (deed : Deed) (done : Effect) → IsHomeDeed catalog deed → AreHomeWrites catalog done.writes
    → AreHomeWrites catalog (after deed done).writes
after_home catalog (Add key row) done h i = put_home catalog (record { key = key; row = Some row }) done.writes (row_home catalog key row h) i
after_home catalog (Replace key row) done h i = put_home catalog (record { key = key; row = Some row }) done.writes (row_home catalog key row h) i
after_home catalog (Remove key) done h i = put_home catalog (record { key = key; row = None }) done.writes (none_home catalog key) i
after_home catalog Overflow done h i = i

judged_home : (catalog : Catalog) (number : ℕ) (is_there : Key → Bool) (own : List Write) (ds : List Deed) (done effect : Effect)
    → AllByRecursion (IsHomeDeed catalog) ds → AreHomeWrites catalog done.writes → judged (table_of catalog number) is_there own ds done ≡ Ok effect
    → AreHomeWrites catalog effect.writes
judged_home catalog number is_there own [] done effect h i e = subst (λ (x : Effect). AreHomeWrites catalog x.writes) (same done effect e) i
  where
    same : (x y : Effect) → ◌≡◌ {A = Result Effect ChangeFault} (Ok x) (Ok y) → x ≡ y
    same x y e = cc
judged_home catalog number is_there own (d ∷ ds) done effect h i e =
    elim (offence (table_of catalog number) is_there own done.writes d) as (λ o.
    on_from (unless o (after d done)) (λ (more : Effect). judged (table_of catalog number) is_there own ds more) ≡ Ok effect → AreHomeWrites catalog effect.writes) [
      | None ↦ λ e. judged_home catalog number is_there own ds (after d done) effect h.1 (after_home catalog d done h.0 i) e
      | Some f ↦ λ e. absurd cc
    ] e

-- what a change writes is at home where the tables are
pub change_home : (catalog : Catalog) (edit : Edit) (tables : Tables) (own : List Write) (effect : Effect) → AreHome catalog tables
    → Keeps catalog edit → change_of catalog edit tables own ≡ Ok effect → AreHomeWrites catalog effect.writes
change_home catalog edit tables own effect h k e =
    judged_home catalog (number_of edit) (finmap.contains_key tables) own (deeds edit (table_of catalog (number_of edit)) tables) nothing effect
    (edit_home catalog edit tables h k) tt e
