-- What a change writes, and what stands in tables, fits its table and stands under its own record key.
use Rattle.std.proofs.Common.{◌≡◌, ℕ, zero, suc, ◌==◌, Bool, true, false, cond, T, List, [], ◌∷◌, Option, Some, None, Result, Ok, Ordering, Less, Equal, Greater, map, refl, sym, ap, subst, ◌∙◌}
use Rattle.std.specs.Prelude.{slice_set}
use Rattle.std.specs.Cmp.{tied_itself}
use Rattle.std.specs.Cmp.Lexicographic.{nat_list_cmp_total}
use Rattle.std.specs.FinMap as finmap
use Rattle.std.specs.FinMap.{nat_cmp-IsAntisymmetric, slice_cmp-IsAntisymmetric}
use Rattle.std.specs.FinMap.Entries.{below_all, find, is_sorted}
use Rattle.std.specs.List.{list_all, list_any, AllByRecursion}
use Rattle.std.specs.Ordering.{is_eq, is_lt, match_ordering}
use Rattle.std.proofs.lemmas.Bool.{and_parts, both_ways, eqb-true, eq-eqb, not-true, or_parts}
use Rattle.std.proofs.lemmas.List.{get_or-set_other, length-set}
use Rattle.std.proofs.lemmas.Option.{option_and_then_some, same_Some}
use Rattle.tl_lemmas.proofs.Lists.{all_filter, all_map, all_set}
use Rattle.tl_values.specs.declared.value.Value.{Value}
use Rattle.tl_values.specs.declared.value.Value.TheVariants as value
use Rattle.tl_values.specs.Key.{IsValue}
use Rattle.tl_values.specs.Value.{values_at}
use Rattle.tl_schema.specs.declared.catalog.Table.{Table}
use Rattle.tl_schema.specs.declared.catalog.Catalog.{Catalog}
use Rattle.tl_schema.specs.declared.catalog.OpeningRow.{OpeningRow}
use Rattle.tl_schema.specs.Record.{record_key, store_key}
use Rattle.tl_algebra.specs.declared.condition.Condition.{Condition}
use Rattle.tl_algebra.specs.declared.edit.Edit.{Edit}
use Rattle.tl_algebra.specs.declared.edit.Edit.TheVariants.{Insert, Update, Delete}
use Rattle.tl_algebra.specs.declared.edit.SetColumn.{SetColumn}
use Rattle.tl_algebra.specs.Truth.{lets_through}
use Rattle.tl_algebra.specs.Value.{value_of}
use Rattle.tl_write.specs.declared.fault.ChangeFault.{ChangeFault}
use Rattle.tl_write.specs.declared.write.Effect.{Effect}
use Rattle.tl_write.specs.declared.write.Write.{Write}
use Rattle.tl_write.specs.Change.{Deed, Add, Replace, Remove, Overflow, after, deeds, first_of, judged, matching, nothing, number_of, offence, on_from, replaced, row_offence, set_columns, unless}
use Rattle.tl_write.specs.Own.{key_cmp, put_write, put_writes}
use Rattle.tl_write.specs.Tables.{Tables, is_in, laid_over, laid_write, records_in}
use Rattle.tl_isolation.specs.Meaning.{change_of}
use Rattle.tl_isolation.specs.Kinds.{gives_kind}
use Rattle.tl_isolation.specs.Tables.{AreHome, FitsTable, HasTable, IsHome, OpensTable, Suits, opening_writes, sets_its_kind, table_of}
use Rattle.tl_isolation.proofs.Computed.{kind_computed, set_of_kinds, set_value}
use Rattle.tl_protocol.proofs.Shown.{AreHomeWrites}
use Rattle.tl_write.proofs.Keys.{key_eq, none_below, sorted_entries}

-- a row that is written is at home
abbrev IsHomeWrite : Catalog → Write → Type 0
IsHomeWrite catalog w = (row : List Value) → w.row ≡ Some row → IsHome catalog w.key row

row_home : (catalog : Catalog) (key : List ℕ) (row : List Value) → IsHome catalog key row → IsHomeWrite catalog (record { key = key; row = Some row })
row_home catalog key row h r e = subst (λ (x : List Value). IsHome catalog key x) (same_Some row r e) h

none_home : (catalog : Catalog) (key : List ℕ) → IsHomeWrite catalog (record { key = key; row = None })
none_home catalog key r e = absurd cc

put_home : (catalog : Catalog) (w : Write) (ws : List Write) → IsHomeWrite catalog w → AreHomeWrites catalog ws → AreHomeWrites catalog (put_write w ws)
put_home catalog w [] h i = (h, tt)
put_home catalog w (x ∷ xs) h i =
    elim (key_cmp w.key x.key) as (λ o. AreHomeWrites catalog (match_ordering o (w ∷ x ∷ xs) (w ∷ xs) (x ∷ put_write w xs))) [
      | Less ↦ (h, i)
      | Equal ↦ (h, i.1)
      | Greater ↦ (i.0, put_home catalog w xs h i.1)
    ]

pub puts_home : (catalog : Catalog) (ws own : List Write) → AreHomeWrites catalog ws → AreHomeWrites catalog own → AreHomeWrites catalog (put_writes ws own)
puts_home catalog [] own h i = i
puts_home catalog (w ∷ ws) own h i = puts_home catalog ws (put_write w own) h.1 (put_home catalog w own h.0 i)

-- opening rows that fit their tables are written at home
pub opening_home : (catalog : Catalog) (rows : List OpeningRow)
    → AllByRecursion (OpensTable catalog) rows
    → AreHomeWrites catalog (opening_writes catalog rows)
opening_home catalog [] fits = tt
opening_home catalog (o ∷ os) fits =
    let key : List ℕ = record_key o.table (table_of catalog o.table) o.row in
    put_home catalog (record { key = key; row = Some o.row }) (opening_writes catalog os)
    (row_home catalog key o.row (record { number = o.table; table = fits.0.table; fits = fits.0.fits; accepted = fits.0.accepted; own_key = refl })) (opening_home catalog os fits.1)

module _ (catalog : Catalog) where
  -- Tables. Writes that are at home are laid over rows that are
  inserted_home : (tables : Tables) (key : List ℕ) (row : List Value) → AreHome catalog tables → IsHome catalog key row → AreHome catalog (finmap.insert tables key row)
  inserted_home tables key row h i q r e =
      elim (is_eq (key_cmp q key)) as (λ b. is_eq (key_cmp q key) ≡ b → cond b (Some row) (finmap.get tables q) ≡ Some r → IsHome catalog q r) [
        | true ↦ λ t e. subst (λ (k : List ℕ). IsHome catalog k r) (sym (key_eq q key t)) (row_home catalog key row i r e)
        | false ↦ λ t e. h q r e
      ] refl (sym (finmap.get-insert nat_list_cmp_total tables key row q) ∙ e)

  removed_home : (tables : Tables) (key : List ℕ) → AreHome catalog tables → AreHome catalog (finmap.remove tables key)
  removed_home tables key h q r e =
      elim (is_eq (key_cmp q key)) as (λ b. cond b None (finmap.get tables q) ≡ Some r → IsHome catalog q r) [
        | true ↦ λ e. absurd cc
        | false ↦ λ e. h q r e
      ] (sym (finmap.get-remove nat_list_cmp_total tables key q) ∙ e)

  laid_one : (tables : Tables) (key : List ℕ) (row : Option (List Value)) → AreHome catalog tables → IsHomeWrite catalog (record { key = key; row = row })
      → AreHome catalog (laid_write tables (record { key = key; row = row }))
  laid_one tables key None h i = removed_home tables key h
  laid_one tables key (Some row) h i = inserted_home tables key row h (i row refl)

  pub laid_home : (tables : Tables) (ws : List Write) → AreHome catalog tables → AreHomeWrites catalog ws → AreHome catalog (laid_over tables ws)
  laid_home tables [] h i = h
  laid_home tables (w ∷ ws) h i = laid_home (laid_write tables w) ws (laid_one tables w.key w.row h i.0) i.1

-- what is so of each look-up is so of each entry
listed : (P : List ℕ → List Value → Type 0) (es : List (List ℕ × List Value)) → is_sorted key_cmp es ≡ true
    → ((k : List ℕ) (row : List Value) → find key_cmp k es ≡ Some row → P k row) → AllByRecursion (λ e. P e.0 e.1) es
listed P [] s h = tt
listed P (e ∷ es) s h =
    let parts = and_parts (below_all key_cmp e.0 es) (is_sorted key_cmp es) s in (
      h e.0 e.1 (ap (λ (o : Ordering). cond (is_eq o) (Some e.1) (find key_cmp e.0 es)) (tied_itself nat_list_cmp_total e.0)),
      listed P es parts.1 (λ k row i. h k row (later k row i parts.0)),
    )
  where
    later : (k : List ℕ) (row : List Value) → find key_cmp k es ≡ Some row → below_all key_cmp e.0 es ≡ true
        → cond (is_eq (key_cmp k e.0)) (Some e.1) (find key_cmp k es) ≡ Some row
    later k row i below =
        elim (is_eq (key_cmp k e.0)) as (λ b. is_eq (key_cmp k e.0) ≡ b → cond b (Some e.1) (find key_cmp k es) ≡ Some row) [
          | true ↦ λ t.
              let none : find key_cmp k es ≡ None = ap (λ (l : List ℕ). find key_cmp l es) (key_eq k e.0 t) ∙ none_below e.0 es below in
              absurd (no_row (sym none ∙ i))
          | false ↦ λ t. i
        ] refl
      where
        no_row : ◌≡◌ {A = Option (List Value)} None (Some row) → ⊥
        no_row e = cc

-- the record is at home, and in the table of this number
abbrev pub IsHomeIn : Catalog → ℕ → List ℕ × List Value → Type 0
IsHomeIn catalog number e = IsHome catalog e.0 e.1 × (is_in number e.0 ≡ true)

pub matching_home : (catalog : Catalog) (number : ℕ) (condition : Option Condition) (tables : Tables) → AreHome catalog tables
    → AllByRecursion (IsHomeIn catalog number) (matching number condition tables)
matching_home catalog number condition tables h =
    all_filter (IsHomeIn catalog number) (IsHomeIn catalog number) (λ (e : List ℕ × List Value). lets_through condition e.1) (λ e i j. j) (records_in number tables)
    (all_filter (λ (e : List ℕ × List Value). IsHome catalog e.0 e.1) (IsHomeIn catalog number) (λ (e : List ℕ × List Value). is_in number e.0) (λ e i j. (j, i))
    (finmap.entries tables)
    (listed (IsHome catalog) (finmap.entries tables) (sorted_entries tables) (λ k row e. h k row (finmap.get-entries tables k ∙ e))))

-- SET of another column leaves the values of the key
one_column : (key : List ℕ) (values : List Value) (column : ℕ) (v : Value) → list_any (λ (place : ℕ). place == column) key ≡ false
    → values_at key (slice_set values column v) ≡ values_at key values
one_column [] values column v h = refl
one_column (place ∷ key) values column v h =
    let parts = or_parts (place == column) (list_any (λ (place : ℕ). place == column) key) h in
    λ i. get_or-set_other values column place v value.Null (λ e. both_ways (place == column) parts.0 (eq-eqb place column e)) i ∷ one_column key values column v parts.1 i

columns_kept : (key : List ℕ) (sets : List SetColumn) (old new row : List Value)
    → list_any (λ (set : SetColumn). list_any (λ (place : ℕ). place == set.column) key) sets ≡ false → set_columns sets old new ≡ Some row
    → values_at key row ≡ values_at key new
columns_kept key [] old new row h e = ap (values_at key) (sym (same_Some new row e))
columns_kept key (s ∷ ss) old new row h e =
    let parts = or_parts (list_any (λ (place : ℕ). place == s.column) key) (list_any (λ (set : SetColumn). list_any (λ (place : ℕ). place == set.column) key) ss) h in
    option_and_then_some (λ (v : Value). set_columns ss old (slice_set new s.column v)) (value_of s.value old) row e
    (λ v i j. columns_kept key ss old (slice_set new s.column v) row parts.1 j ∙ one_column key new s.column v parts.0)

-- SET leaves a row that fits
columns_fit : (table : Table) (sets : List SetColumn) (old new row : List Value) → FitsTable table old → list_all (sets_its_kind table.columns) sets ≡ true
    → FitsTable table new → set_columns sets old new ≡ Some row → FitsTable table row
columns_fit table [] old new row o g h e = subst (FitsTable table) (same_Some new row e) h
columns_fit table (s ∷ ss) old new row o g h e =
    let parts = and_parts (sets_its_kind table.columns s) (list_all (sets_its_kind table.columns) ss) g in
    option_and_then_some (λ (v : Value). set_columns ss old (slice_set new s.column v)) (value_of s.value old) row e
    (λ v i j. columns_fit table ss old (slice_set new s.column v) row o parts.1 (one v parts.0 i) j)
  where
    one : (v : Value) → sets_its_kind table.columns s ≡ true → value_of s.value old ≡ Some v → FitsTable table (slice_set new s.column v)
    one v g i = record {
      width = length-set new s.column v ∙ h.width;
      values = all_set IsValue new s.column v h.values (set_value table.columns s old v o.values g i);
      kinds = set_of_kinds (gives_kind table.columns s.value) table.columns new s.column v
          (λ k j. kind_computed table.columns old s.value k v o.kinds j i) g h.kinds;
    }

-- the row fits the table of this number, and the key is its own
record FitsAt (catalog : Catalog) (number : ℕ) (key : List ℕ) (row : List Value) : Type 0 where
  table : HasTable catalog number
  fits : FitsTable (table_of catalog number) row
  own_key : key ≡ record_key number (table_of catalog number) row

-- the row that a deed writes is at home in the table of this number where the table accepts it
abbrev IsHomeDeed : Catalog → ℕ → Deed → Type 0
IsHomeDeed catalog number (Add key row) = FitsAt catalog number key row
IsHomeDeed catalog number (Replace key row) = FitsAt catalog number key row
IsHomeDeed catalog number (Remove key) = Unit {0}
IsHomeDeed catalog number Overflow = Unit {0}

-- the new row has the key of the old one, and fits as the old one did
replaced_home : (catalog : Catalog) (number : ℕ) (e : List ℕ × List Value) (changed : Option (List Value)) → IsHomeIn catalog number e
    → ((row : List Value) → FitsTable (table_of catalog number) e.1 → changed ≡ Some row → FitsTable (table_of catalog number) row)
    → ((row : List Value) → changed ≡ Some row → values_at (table_of catalog number).key row ≡ values_at (table_of catalog number).key e.1)
    → IsHomeDeed catalog number (replaced e.0 changed)
replaced_home catalog number e None h f k = tt
replaced_home catalog number e (Some row) h f k =
    let same : number ≡ h.0.number = in_one number h.0.number e.0 (values_at (table_of catalog h.0.number).key e.1) h.0.own_key h.1 in
    record {
      table = subst (HasTable catalog) (sym same) h.0.table;
      fits = f row (subst (λ (m : ℕ). FitsTable (table_of catalog m) e.1) (sym same) h.0.fits) refl;
      own_key = h.0.own_key ∙ ap (λ (m : ℕ). record_key m (table_of catalog m) e.1) (sym same) ∙ ap (store_key number) (sym (k row refl));
    }
  where
    in_one : (number m : ℕ) (key : List ℕ) (values : List Value) → key ≡ store_key m values → is_in number key ≡ true → number ≡ m
    in_one number m key values e i = eqb-true number m (and_parts (number == m) true (ap (is_in number) (sym e) ∙ i)).0

additions_home : (catalog : Catalog) (number : ℕ) (rows : List (List Value)) → HasTable catalog number → AllByRecursion (FitsTable (table_of catalog number)) rows
    → AllByRecursion (IsHomeDeed catalog number) (map (λ (row : List Value). Add (record_key number (table_of catalog number) row) row) rows)
additions_home catalog number [] here fits = tt
additions_home catalog number (row ∷ rows) here fits = (record { table = here; fits = fits.0; own_key = refl }, additions_home catalog number rows here fits.1)

removals_home : (catalog : Catalog) (number : ℕ) (es : List (List ℕ × List Value)) → AllByRecursion (IsHomeDeed catalog number) (map (λ (e : List ℕ × List Value). Remove e.0) es)
removals_home catalog number [] = tt
removals_home catalog number (e ∷ es) = (tt, removals_home catalog number es)

deeds_home : (catalog : Catalog) (edit : Edit) (tables : Tables) → AreHome catalog tables → Suits catalog edit
    → AllByRecursion (IsHomeDeed catalog (number_of edit)) (deeds edit (table_of catalog (number_of edit)) tables)
deeds_home catalog (Insert number rows) tables h k = additions_home catalog number rows k.table k.change
deeds_home catalog (Update number sets condition) tables h k =
    let key : List ℕ = (table_of catalog number).key in
    let apart = not-true (list_any (λ (set : SetColumn). list_any (λ (place : ℕ). place == set.column) key) sets) k.change.0 in
    all_map (IsHomeIn catalog number) (IsHomeDeed catalog number) (λ (e : List ℕ × List Value). replaced e.0 (set_columns sets e.1 e.1))
    (λ e i. replaced_home catalog number e (set_columns sets e.1 e.1) i
    (λ row fits j. columns_fit (table_of catalog number) sets e.1 e.1 row fits k.change.1 fits j) (λ row j. columns_kept key sets e.1 e.1 row apart j))
    (matching number condition tables) (matching_home catalog number condition tables h)
deeds_home catalog (Delete number condition) tables h k = removals_home catalog number (matching number condition tables)

-- a deed without an offence writes a row that the table accepts
accepted_row : (first later : Option ChangeFault) → first_of first later ≡ None → first ≡ None
accepted_row None later e = refl
accepted_row (Some f) later e = cc

after_home : (catalog : Catalog) (number : ℕ) (is_there : List ℕ → Bool) (own : List Write) (deed : Deed) (done : Effect) → IsHomeDeed catalog number deed
    → offence (table_of catalog number) is_there own done.writes deed ≡ None → AreHomeWrites catalog done.writes → AreHomeWrites catalog (after deed done).writes
after_home catalog number is_there own (Add key row) done h o i =
    put_home catalog (record { key = key; row = Some row }) done.writes
    (row_home catalog key row (record { number = number; table = h.table; fits = h.fits; accepted = accepted_row (row_offence (table_of catalog number) row) _ o; own_key = h.own_key })) i
after_home catalog number is_there own (Replace key row) done h o i =
    put_home catalog (record { key = key; row = Some row }) done.writes
    (row_home catalog key row (record { number = number; table = h.table; fits = h.fits; accepted = accepted_row (row_offence (table_of catalog number) row) _ o; own_key = h.own_key })) i
after_home catalog number is_there own (Remove key) done h o i = put_home catalog (record { key = key; row = None }) done.writes (none_home catalog key) i
after_home catalog number is_there own Overflow done h o i = i

judged_home : (catalog : Catalog) (number : ℕ) (is_there : List ℕ → Bool) (own : List Write) (ds : List Deed) (done effect : Effect)
    → AllByRecursion (IsHomeDeed catalog number) ds → AreHomeWrites catalog done.writes → judged (table_of catalog number) is_there own ds done ≡ Ok effect
    → AreHomeWrites catalog effect.writes
judged_home catalog number is_there own [] done effect h i e = subst (λ (x : Effect). AreHomeWrites catalog x.writes) (same done effect e) i
  where
    same : (x y : Effect) → ◌≡◌ {A = Result Effect ChangeFault} (Ok x) (Ok y) → x ≡ y
    same x y e = cc
judged_home catalog number is_there own (d ∷ ds) done effect h i e =
    elim (offence (table_of catalog number) is_there own done.writes d) as (λ o. offence (table_of catalog number) is_there own done.writes d ≡ o
    → on_from (unless o (after d done)) (λ (more : Effect). judged (table_of catalog number) is_there own ds more) ≡ Ok effect → AreHomeWrites catalog effect.writes) [
      | None ↦ λ o e. judged_home catalog number is_there own ds (after d done) effect h.1 (after_home catalog number is_there own d done h.0 o i) e
      | Some f ↦ λ o e. absurd cc
    ] refl e

-- what a change of its table writes is at home where the tables are
pub change_home : (catalog : Catalog) (edit : Edit) (tables : Tables) (own : List Write) (effect : Effect) → AreHome catalog tables
    → Suits catalog edit → change_of catalog edit tables own ≡ Ok effect → AreHomeWrites catalog effect.writes
change_home catalog edit tables own effect h k e =
    judged_home catalog (number_of edit) (finmap.contains_key tables) own (deeds edit (table_of catalog (number_of edit)) tables) nothing effect
    (deeds_home catalog edit tables h k) tt e
