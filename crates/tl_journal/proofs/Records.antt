-- The records of a table in a part of the tables.
use Rattle.std.proofs.Common.{◌≡◌, ℕ, Bool, true, false, cond, T, List, [], ◌∷◌, Option, Some, None, Ordering, Less, Equal, Greater, filter, refl, sym, ap, subst, ◌∙◌}
use Rattle.std.specs.Prelude.{is_some}
use Rattle.std.specs.Cmp.Lexicographic.{nat_list_cmp_total}
use Rattle.std.specs.FinMap as finmap
use Rattle.std.specs.FinMap.{nat_cmp-IsAntisymmetric, slice_cmp-IsAntisymmetric}
use Rattle.std.specs.FinMap.Entries.{below_all, find, is_sorted, same_entries}
use Rattle.std.specs.List.{AllByRecursion}
use Rattle.std.specs.Ordering.{is_eq, is_lt}
use Rattle.std.proofs.lemmas.Bool.{and_from, and_parts}
use Rattle.tl_lemmas.proofs.Tests.{holds}
use Rattle.tl_lemmas.proofs.Orders.{less_differs}
use Rattle.tl_lemmas.proofs.Lists.{all_filter}
use Rattle.tl_values.specs.declared.value.Value.{Value}
use Rattle.tl_write.specs.Law.{IsPart}
use Rattle.tl_write.specs.Own.{key_cmp}
use Rattle.tl_write.specs.Tables.{Tables, is_in, records_in}
use Rattle.tl_protocol.specs.Store.{Key}
use Rattle.tl_write.proofs.Keys.{key_eq, key_itself, none_below, sorted_entries, sorted_filter}

abbrev Entry : Type 0
Entry = Key × List Value

-- the row, where it passes with its key
abbrev keep : (Entry → Bool) → Key → Option (List Value) → Option (List Value)
keep p k None = None
keep p k (Some row) = cond (p (k, row)) (Some row) None

below_filter : (p : Entry → Bool) (k : Key) (es : List Entry) → below_all key_cmp k es ≡ true → below_all key_cmp k (filter p es) ≡ true
below_filter p k [] h = refl
below_filter p k (e ∷ es) h =
    let parts = and_parts (is_lt (key_cmp k e.0)) (below_all key_cmp k es) h in
    elim (p e) as (λ b. below_all key_cmp k (cond b (e ∷ filter p es) (filter p es)) ≡ true) [
      | true ↦ and_from (is_lt (key_cmp k e.0)) (below_all key_cmp k (filter p es)) parts.0 (below_filter p k es parts.1)
      | false ↦ below_filter p k es parts.1
    ]

find_filter : (p : Entry → Bool) (k : Key) (es : List Entry) → is_sorted key_cmp es ≡ true → find key_cmp k (filter p es) ≡ keep p k (find key_cmp k es)
find_filter p k [] h = refl
find_filter p k (e ∷ es) h =
    let parts = and_parts (below_all key_cmp e.0 es) (is_sorted key_cmp es) h in
    elim (is_eq (key_cmp k e.0)) as (λ b. is_eq (key_cmp k e.0) ≡ b
    → find key_cmp k (cond (p e) (e ∷ filter p es) (filter p es)) ≡ keep p k (cond b (Some e.1) (find key_cmp k es))) [
      | true ↦ λ t.
          let same : k ≡ e.0 = key_eq k e.0 t in
          let none : find key_cmp k (filter p es) ≡ None = ap (λ (l : Key). find key_cmp l (filter p es)) same ∙ none_below e.0 (filter p es) (below_filter p e.0 es parts.0) in
          here (p e) t none ∙ ap (λ (l : Key). cond (p (l, e.1)) (Some e.1) None) (sym same)
      | false ↦ λ t. apart (p e) t ∙ find_filter p k es parts.1
    ] refl
  where
    here : (b : Bool) → is_eq (key_cmp k e.0) ≡ true → find key_cmp k (filter p es) ≡ None → find key_cmp k (cond b (e ∷ filter p es) (filter p es)) ≡ cond b (Some e.1) None
    here true t none = ap (λ (c : Bool). cond c (Some e.1) (find key_cmp k (filter p es))) t
    here false t none = none

    apart : (b : Bool) → is_eq (key_cmp k e.0) ≡ false → find key_cmp k (cond b (e ∷ filter p es) (filter p es)) ≡ find key_cmp k (filter p es)
    apart true t = ap (λ (c : Bool). cond c (Some e.1) (find key_cmp k (filter p es))) t
    apart false t = refl

module _ (number : ℕ) where
  abbrev in_it : Entry → Bool
  in_it e = is_in number e.0

  find_records : (tables : Tables) (k : Key) → find key_cmp k (records_in number tables) ≡ keep in_it k (finmap.get tables k)
  find_records tables k = find_filter in_it k (finmap.entries tables) (sorted_entries tables) ∙ ap (keep in_it k) (sym (finmap.get-entries tables k))

  sorted_records : (tables : Tables) → is_sorted key_cmp (records_in number tables) ≡ true
  sorted_records tables = sorted_filter in_it (finmap.entries tables) (sorted_entries tables)

  abbrev stands : Tables → Entry → Bool
  stands part e = is_some (finmap.get part e.0)

  none_stands : (part : Tables) (k : Key) (o : Option (List Value)) → finmap.get part k ≡ None → keep (stands part) k o ≡ None
  none_stands part k None e = refl
  none_stands part k (Some row) e = ap (λ (x : Option (List Value)). cond (is_some x) (Some row) None) e

  one_stands : (part : Tables) (k : Key) (row : List Value) (c : Bool) → finmap.get part k ≡ Some row
      → cond c (Some row) None ≡ keep (stands part) k (cond c (Some row) None)
  one_stands part k row true e = sym (ap (λ (x : Option (List Value)). cond (is_some x) (Some row) None) e)
  one_stands part k row false e = refl

  same_found : (part : Tables) (k : Key) (a b : Option (List Value)) → finmap.get part k ≡ a → ((row : List Value) → a ≡ Some row → b ≡ Some row)
      → keep in_it k a ≡ keep (stands part) k (keep in_it k b)
  same_found part k None b e h = sym (none_stands part k (keep in_it k b) e)
  same_found part k (Some row) b e h =
      one_stands part k row (is_in number k) e ∙ ap (λ (x : Option (List Value)). keep (stands part) k (keep in_it k x)) (sym (h row refl))

  -- the records of the part are those of the whole that stand in the part
  pub part_records : (part whole : Tables) → IsPart part whole → records_in number part ≡ filter (stands part) (records_in number whole)
  part_records part whole sub =
      same_entries key_cmp nat_list_cmp_total (slice_cmp-IsAntisymmetric nat_cmp-IsAntisymmetric) (records_in number part) (filter (stands part) (records_in number whole))
      (holds (is_sorted key_cmp (records_in number part)) (sorted_records part))
      (holds (is_sorted key_cmp (filter (stands part) (records_in number whole))) (sorted_filter (stands part) (records_in number whole) (sorted_records whole)))
      (λ k.
      find_records part k
      ∙ same_found part k (finmap.get part k) (finmap.get whole k) refl (sub k)
      ∙ ap (keep (stands part) k) (sym (find_records whole k))
      ∙ sym (find_filter (stands part) k (records_in number whole) (sorted_records whole)))

-- what is so of each look-up is so of each entry
listed : (P : Key → List Value → Type 0) (es : List Entry) → is_sorted key_cmp es ≡ true → ((k : Key) (row : List Value) → find key_cmp k es ≡ Some row → P k row)
    → AllByRecursion (λ e. P e.0 e.1) es
listed P [] s h = tt
listed P (e ∷ es) s h =
    let parts = and_parts (below_all key_cmp e.0 es) (is_sorted key_cmp es) s in (
      h e.0 e.1 (ap (λ (b : Bool). cond b (Some e.1) (find key_cmp e.0 es)) (key_itself e.0)),
      listed P es parts.1 (λ k row i. h k row (later k row i parts.0)),
    )
  where
    no_row : (row : List Value) → ◌≡◌ {A = Option (List Value)} None (Some row) → ⊥
    no_row row e = cc

    later : (k : Key) (row : List Value) → find key_cmp k es ≡ Some row → below_all key_cmp e.0 es ≡ true → cond (is_eq (key_cmp k e.0)) (Some e.1) (find key_cmp k es) ≡ Some row
    later k row i below =
        elim (is_eq (key_cmp k e.0)) as (λ b. is_eq (key_cmp k e.0) ≡ b → cond b (Some e.1) (find key_cmp k es) ≡ Some row) [
          | true ↦ λ t.
              let none : find key_cmp k es ≡ None = ap (λ (l : Key). find key_cmp l es) (key_eq k e.0 t) ∙ none_below e.0 es below in
              absurd (no_row row (sym none ∙ i))
          | false ↦ λ t. i
        ] refl

-- what is so of each row of a table, under its key, is so of each of its records
pub each_record : (P : Key → List Value → Type 0) (number : ℕ) (tables : Tables)
    → ((k : Key) (row : List Value) → ◌≡◌ {A = Option (List Value)} (finmap.get tables k) (Some row) → is_in number k ≡ true → P k row)
    → AllByRecursion (λ (e : Entry). P e.0 e.1) (records_in number tables)
each_record P number tables h =
    all_filter (λ (e : Entry). is_in number e.0 ≡ true → P e.0 e.1) (λ (e : Entry). P e.0 e.1) (λ (e : Entry). is_in number e.0) (λ e i j. j i) (finmap.entries tables)
    (listed (λ k row. is_in number k ≡ true → P k row) (finmap.entries tables) (sorted_entries tables) (λ k row i. h k row (finmap.get-entries tables k ∙ i)))
