-- What stands under a key once the rows of cells have taken their places.
use Rattle.std.proofs.Common.{◌≡◌, ℕ, Bool, true, false, cond, List, [], ◌∷◌, Option, Some, None, refl, sym, ap, ◌∙◌}
use Rattle.std.specs.Prelude.{if◌then◌else◌}
use Rattle.std.specs.Cmp.Lexicographic.{nat_list_cmp_total}
use Rattle.std.specs.FinMap as finmap
use Rattle.std.specs.FinMap.Entries.{below_all, find, is_sorted}
use Rattle.std.specs.List.{AllByRecursion}
use Rattle.std.specs.Ordering.{is_lt}
use Rattle.std.proofs.lemmas.Bool.{and_parts}
use Rattle.tl_lemmas.proofs.Orders.{less_differs}
use Rattle.tl_values.specs.declared.value.Value.{Value}
use Rattle.tl_versions.specs.Reading.{read_cell}
use Rattle.tl_write.specs.Own.{key_cmp}
use Rattle.tl_write.specs.Tables.{Tables}
use Rattle.tl_descriptor.specs.Tids.{TidSet}
use Rattle.tl_protocol.specs.Store.{Key, same_key}
use Rattle.tl_journal.specs.Served.{is_record_key}
use Rattle.tl_render.specs.Stored.{Stored, put_row, row_in, with_cell, with_cells}
use Rattle.tl_write.proofs.Keys.{key_eq, key_itself}

-- the row that the bytes show, or where nothing was stored the one that was there
abbrev pub shown_over : TidSet → Option (List ℕ) → Option (List Value) → Option (List Value)
shown_over set None row = row
shown_over set (Some bytes) row = row_in set (read_cell bytes)

-- a key below all others isn't found among them
pub none_below : {X : Type 0} (k : Key) (es : List (Key × X)) → below_all key_cmp k es ≡ true → find key_cmp k es ≡ None
none_below k [] h = refl
none_below k (e ∷ es) h =
    let parts = and_parts (is_lt (key_cmp k e.0)) (below_all key_cmp k es) h in
    ap (λ (b : Bool). cond b (Some e.1) (find key_cmp k es)) (less_differs (key_cmp k e.0) parts.0) ∙ none_below k es parts.1

-- what is so of each cell that is found under its key is so of each cell
pub each_found : (P : Stored → Type 0) (cs : List Stored) → is_sorted key_cmp cs ≡ true → ((c : Stored) → find key_cmp c.0 cs ≡ Some c.1 → P c) → AllByRecursion P cs
each_found P [] sorted h = tt
each_found P (c ∷ cs) sorted h =
    let parts = and_parts (below_all key_cmp c.0 cs) (is_sorted key_cmp cs) sorted in (
      h c (ap (λ (b : Bool). cond b (Some c.1) (find key_cmp c.0 cs)) (key_itself c.0)),
      each_found P cs parts.1 (λ (d : Stored) i. h d (later d i parts.0 (same_key d.0 c.0) refl)),
    )
  where
    later : (d : Stored) → find key_cmp d.0 cs ≡ Some d.1 → below_all key_cmp c.0 cs ≡ true → (b : Bool) → same_key d.0 c.0 ≡ b
        → cond b (Some c.1) (find key_cmp d.0 cs) ≡ Some d.1
    later d i below true tied =
        let none : find key_cmp d.0 cs ≡ None = ap (λ (k : Key). find key_cmp k cs) (key_eq d.0 c.0 tied) ∙ none_below c.0 cs below in
        absurd cc
    later d i below false apart = i

get_put : (k : Key) (row : Option (List Value)) (rows : Tables) (q : Key) → finmap.get (put_row k row rows) q ≡ (if same_key q k then row else finmap.get rows q)
get_put k None rows q = finmap.get-remove nat_list_cmp_total rows k q
get_put k (Some row) rows q = finmap.get-insert nat_list_cmp_total rows k row q

module _ (set : TidSet) where
  -- another key
  other_cell : (c : Stored) (rows : Tables) (q : Key) → same_key q c.0 ≡ false → finmap.get (with_cell set c rows) q ≡ finmap.get rows q
  other_cell c rows q apart = by (is_record_key c.0)
    where
      by : (b : Bool) → finmap.get (if b then put_row c.0 (row_in set (read_cell c.1)) rows else rows) q ≡ finmap.get rows q
      by true =
          get_put c.0 (row_in set (read_cell c.1)) rows q
          ∙ ap (λ (b : Bool). if b then row_in set (read_cell c.1) else finmap.get rows q) apart
      by false = refl

  -- the key of the cell
  own_cell : (c : Stored) (rows : Tables) (q : Key) → is_record_key c.0 ≡ true → same_key q c.0 ≡ true → finmap.get (with_cell set c rows) q ≡ row_in set (read_cell c.1)
  own_cell c rows q is tied =
      ap (λ (b : Bool). finmap.get (if b then put_row c.0 (row_in set (read_cell c.1)) rows else rows) q) is
      ∙ get_put c.0 (row_in set (read_cell c.1)) rows q
      ∙ ap (λ (b : Bool). if b then row_in set (read_cell c.1) else finmap.get rows q) tied

  -- a cell of no record
  no_record : (c : Stored) (rows : Tables) (q : Key) → is_record_key c.0 ≡ false → finmap.get (with_cell set c rows) q ≡ finmap.get rows q
  no_record c rows q is = ap (λ (b : Bool). finmap.get (if b then put_row c.0 (row_in set (read_cell c.1)) rows else rows) q) is

  -- under the key of a record stands what its cell shows
  pub shown_rows : (cs : List Stored) (rows : Tables) (q : Key) → is_sorted key_cmp cs ≡ true → is_record_key q ≡ true
      → finmap.get (with_cells set cs rows) q ≡ shown_over set (find key_cmp q cs) (finmap.get rows q)
  shown_rows [] rows q sorted is = refl
  shown_rows (c ∷ cs) rows q sorted is =
      let parts = and_parts (below_all key_cmp c.0 cs) (is_sorted key_cmp cs) sorted in
      shown_rows cs (with_cell set c rows) q parts.1 is ∙ by (same_key q c.0) refl parts.0
    where
      by : (b : Bool) → same_key q c.0 ≡ b → below_all key_cmp c.0 cs ≡ true
          → shown_over set (find key_cmp q cs) (finmap.get (with_cell set c rows) q) ≡ shown_over set (cond b (Some c.1) (find key_cmp q cs)) (finmap.get rows q)
      by true tied below =
          let same : q ≡ c.0 = key_eq q c.0 tied in
          let none : find key_cmp q cs ≡ None = ap (λ (k : Key). find key_cmp k cs) same ∙ none_below c.0 cs below in
          ap (λ (o : Option (List ℕ)). shown_over set o (finmap.get (with_cell set c rows) q)) none
          ∙ own_cell c rows q (ap is_record_key (sym same) ∙ is) tied
      by false apart below = ap (shown_over set (find key_cmp q cs)) (other_cell c rows q apart)

  -- under another key what stood there
  pub other_rows : (cs : List Stored) (rows : Tables) (q : Key) → is_record_key q ≡ false → finmap.get (with_cells set cs rows) q ≡ finmap.get rows q
  other_rows [] rows q is = refl
  other_rows (c ∷ cs) rows q is = other_rows cs (with_cell set c rows) q is ∙ by (same_key q c.0) refl
    where
      by : (b : Bool) → same_key q c.0 ≡ b → finmap.get (with_cell set c rows) q ≡ finmap.get rows q
      by true tied = no_record c rows q (ap is_record_key (sym (key_eq q c.0 tied)) ∙ is)
      by false apart = other_cell c rows q apart
