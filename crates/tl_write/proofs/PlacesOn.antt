-- What the places of records say of the tables that they stand for.
use Rattle.std.proofs.Common.{◌≡◌, ℕ, zero, suc, ◌+◌, ◌<◌, Bool, true, false, cond, ◌&&◌, T, List, [], ◌∷◌, length, get_or, drop, map, filter, eq-eqb, Option, refl, sym, ap, subst, ◌∙◌, arith}
use Rattle.std.specs.List.{AllByRecursion, list_any}
use Rattle.std.specs.declared.cmp.Ordering.TheVariants.{Less, Equal, Greater}
use Rattle.std.specs.Ordering.{is_lt, eq_by_cmp}
use Rattle.std.specs.Cmp.Lexicographic.{nat_list_cmp_total}
use Rattle.std.specs.FinMap as finmap
use Rattle.std.specs.FinMap.Entries.{by_order, put, is_sorted, below_all}
use Rattle.std.proofs.lemmas.List.{drop_more}
use Rattle.tl_lemmas.proofs.Tests.{held, holds}
use Rattle.tl_lemmas.proofs.Lists.{no_length}
use Rattle.tl_values.specs.declared.value.Value.{Value}
use Rattle.tl_schema.specs.declared.catalog.Table.{Table}
use Rattle.tl_schema.specs.Record.{record_key}
use Rattle.tl_algebra.specs.declared.condition.Condition.{Condition}
use Rattle.tl_algebra.specs.Truth.{lets_through}
use Rattle.tl_write.specs.Change.{matching}
use Rattle.tl_write.specs.Own.{key_cmp}
use Rattle.tl_write.specs.Places.{AreWithin, Places, record_at, row_at, tables_at}
use Rattle.tl_write.specs.Tables.{Tables, is_in, laid_over, tables_of, write_of}

entries_empty : (X : Type 0) → finmap.entries (finmap.empty {X = X} {R = key_cmp}) ≡ []
entries_empty X = no_length _ (sym (finmap.len-entries (finmap.empty {X = X} {R = key_cmp})) ∙ finmap.len-empty key_cmp X)

module _ (rows : List (List Value)) where
  below_same : (k : List ℕ) (es : List (List ℕ × ℕ)) → below_all key_cmp k (map (record_at rows) es) ≡ below_all key_cmp k es
  below_same k [] = refl
  below_same k (e ∷ es) = ap (λ (b : Bool). is_lt (key_cmp k e.0) && b) (below_same k es)

  sorted_same : (es : List (List ℕ × ℕ)) → is_sorted key_cmp (map (record_at rows) es) ≡ is_sorted key_cmp es
  sorted_same [] = refl
  sorted_same (e ∷ es) = ap (λ (b : Bool). b && is_sorted key_cmp (map (record_at rows) es)) (below_same e.0 es) ∙ ap (λ (b : Bool). below_all key_cmp e.0 es && b) (sorted_same es)

  map-put : (k : List ℕ) (i : ℕ) (es : List (List ℕ × ℕ)) → map (record_at rows) (put key_cmp k i es) ≡ put key_cmp k (row_at rows i) (map (record_at rows) es)
  map-put k i [] = refl
  map-put k i (e ∷ es) =
      elim (key_cmp k e.0) as (λ o. map (record_at rows) (by_order o ((k, i) ∷ e ∷ es) ((e.0, i) ∷ es) (e ∷ put key_cmp k i es))
      ≡ by_order o ((k, row_at rows i) ∷ map (record_at rows) (e ∷ es)) ((e.0, row_at rows i) ∷ map (record_at rows) es) (record_at rows e ∷ put key_cmp k (row_at rows i) (map (record_at rows) es))) [
        | Less ↦ refl
        | Equal ↦ refl
        | Greater ↦ ap (λ (rest : List (List ℕ × List Value)). record_at rows e ∷ rest) (map-put k i es)
      ]

  within-put : (k : List ℕ) (i : ℕ) (es : List (List ℕ × ℕ)) → i < length rows → AreWithin rows es → AreWithin rows (put key_cmp k i es)
  within-put k i [] l h = (l, tt)
  within-put k i (e ∷ es) l h =
      elim (key_cmp k e.0) as (λ o. AreWithin rows (by_order o ((k, i) ∷ e ∷ es) ((e.0, i) ∷ es) (e ∷ put key_cmp k i es))) [
        | Less ↦ (l, h)
        | Equal ↦ (l, h.1)
        | Greater ↦ (h.0, within-put k i es l h.1)
      ]

  pub entries_at : (places : Places) → finmap.entries (tables_at rows places) ≡ map (record_at rows) (finmap.entries places)
  entries_at places = finmap.entries-from_sorted key_cmp _ (holds _ (sorted_same (finmap.entries places) ∙ held _ (finmap.entries_sorted places)))

  pub nothing_at : (places : Places) → places ≡ finmap.empty → tables_at rows places ≡ finmap.empty
  nothing_at places e =
      finmap.same_entries_map _ _ (entries_at places ∙ ap (λ (m : Places). map (record_at rows) (finmap.entries m)) e ∙ ap (map (record_at rows)) (entries_empty ℕ) ∙ sym (entries_empty (List Value)))

  pub nothing_within : (places : Places) → places ≡ finmap.empty → AreWithin rows (finmap.entries places)
  nothing_within places e = subst (λ (es : List (List ℕ × ℕ)). AreWithin rows es) (sym (ap finmap.entries e ∙ entries_empty ℕ)) tt

  at_insert : (places : Places) (k : List ℕ) (i : ℕ) → tables_at rows (finmap.insert places k i) ≡ finmap.insert (tables_at rows places) k (row_at rows i)
  at_insert places k i =
      finmap.same_entries_map _ _ (entries_at (finmap.insert places k i)
      ∙ ap (map (record_at rows)) (finmap.entries-insert nat_list_cmp_total places k i)
      ∙ map-put k i (finmap.entries places)
      ∙ ap (put key_cmp k (row_at rows i)) (sym (entries_at places))
      ∙ sym (finmap.entries-insert nat_list_cmp_total (tables_at rows places) k (row_at rows i)))

  -- the place of one row more
  pub found_on : (n : ℕ) (t : Table) (places more : Places) (i : ℕ) (row : List Value) (k : List ℕ) → i < length rows → row ≡ get_or rows i row → k ≡ record_key n t row → more ≡ finmap.insert places k i →
      laid_over (tables_at rows more) (map (write_of n t) (drop (i + 1) rows)) ≡ laid_over (tables_at rows places) (map (write_of n t) (drop i rows))
  found_on n t places more i row k l is e m =
      let here : get_or rows i [] ≡ get_or rows i row = same_read rows i l [] row in
      ap (λ (tables : Tables). laid_over tables (map (write_of n t) (drop (i + 1) rows)))
      (ap (tables_at rows) (m ∙ ap (λ (x : List ℕ). finmap.insert places x i) e) ∙ at_insert places (record_key n t row) i
      ∙ ap (λ (v : List Value). finmap.insert (tables_at rows places) (record_key n t row) v) (here ∙ sym is))
      ∙ ap (λ (rest : List (List Value)). laid_over (tables_at rows places) (map (write_of n t) rest)) (sym (drop_more rows i row l ∙ ap (λ (x : List Value). x ∷ drop (i + 1) rows) (sym is)))
    where
      same_read : (xs : List (List Value)) (i : ℕ) → i < length xs → (a b : List Value) → get_or xs i a ≡ get_or xs i b
      same_read [] i l a b = absurd (omega arith)
      same_read (x ∷ xs) zero l a b = refl
      same_read (x ∷ xs) (suc i) l a b = same_read xs i (omega arith) a b

  pub within_on : (places more : Places) (k : List ℕ) (i : ℕ) → i < length rows → more ≡ finmap.insert places k i → AreWithin rows (finmap.entries places) → AreWithin rows (finmap.entries more)
  within_on places more k i l m h =
      subst (λ (es : List (List ℕ × ℕ)). AreWithin rows es) (sym (ap finmap.entries m ∙ finmap.entries-insert nat_list_cmp_total places k i)) (within-put k i (finmap.entries places) l h)

-- the keys are all of the table of this number
abbrev AreIn : ℕ → List (List ℕ × List Value) → Type 0
AreIn n es = AllByRecursion (λ e. is_in n e.0 ≡ true) es

key_in : (n : ℕ) (t : Table) (row : List Value) → is_in n (record_key n t row) ≡ true
key_in n t row = ap (λ (b : Bool). b && true) (eq-eqb n n refl)

in-put : (n : ℕ) (k : List ℕ) (v : List Value) (es : List (List ℕ × List Value)) → is_in n k ≡ true → AreIn n es → AreIn n (put key_cmp k v es)
in-put n k v [] l h = (l, tt)
in-put n k v (e ∷ es) l h =
    elim (key_cmp k e.0) as (λ o. AreIn n (by_order o ((k, v) ∷ e ∷ es) ((e.0, v) ∷ es) (e ∷ put key_cmp k v es))) [
      | Less ↦ (l, h)
      | Equal ↦ h
      | Greater ↦ (h.0, in-put n k v es l h.1)
    ]

in_laid : (n : ℕ) (t : Table) (tables : Tables) (rows : List (List Value)) → AreIn n (finmap.entries tables) → AreIn n (finmap.entries (laid_over tables (map (write_of n t) rows)))
in_laid n t tables [] h = h
in_laid n t tables (row ∷ rows) h =
    in_laid n t (finmap.insert tables (record_key n t row) row) rows
    (subst (λ (es : List (List ℕ × List Value)). AreIn n es) (sym (finmap.entries-insert nat_list_cmp_total tables (record_key n t row) row)) (in-put n (record_key n t row) row (finmap.entries tables) (key_in n t row) h))

filter_all : (n : ℕ) (es : List (List ℕ × List Value)) → AreIn n es → filter (λ e. is_in n e.0) es ≡ es
filter_all n [] h = refl
filter_all n (e ∷ es) h =
    ap (λ (b : Bool). cond b (e ∷ filter (λ e. is_in n e.0) es) (filter (λ e. is_in n e.0) es)) h.0 ∙ ap (λ (rest : List (List ℕ × List Value)). e ∷ rest) (filter_all n es h.1)

-- the records that WHERE is true of, by their places
pub matching_at : (n : ℕ) (t : Table) (condition : Option Condition) (rows : List (List Value)) (places : Places) → tables_at rows places ≡ tables_of n t rows →
    matching n condition (tables_of n t rows) ≡ filter (λ e. lets_through condition e.1) (map (record_at rows) (finmap.entries places))
matching_at n t condition rows places e =
    ap (filter (λ e. lets_through condition e.1))
    (filter_all n _ (in_laid n t finmap.empty rows (subst (λ (es : List (List ℕ × List Value)). AreIn n es) (sym (entries_empty (List Value))) tt))
    ∙ ap finmap.entries (sym e) ∙ entries_at rows places)

keys_at : (rows : List (List Value)) (es : List (List ℕ × ℕ)) → map (λ (e : List ℕ × List Value). e.0) (map (record_at rows) es) ≡ map (λ (e : List ℕ × ℕ). e.0) es
keys_at rows [] = refl
keys_at rows (e ∷ es) = ap (λ (rest : List (List ℕ)). e.0 ∷ rest) (keys_at rows es)

-- the keys that have a record are those that have a place
pub contains_at : (rows : List (List Value)) (places : Places) (tables : Tables) → tables_at rows places ≡ tables → (k : List ℕ) → finmap.contains_key places k ≡ finmap.contains_key tables k
contains_at rows places tables e k =
    finmap.contains_key-keys places k
    ∙ ap (λ (ks : List (List ℕ)). list_any (eq_by_cmp key_cmp k) ks) (sym (ap (map (λ (x : List ℕ × List Value). x.0)) (entries_at rows places) ∙ keys_at rows (finmap.entries places)))
    ∙ sym (finmap.contains_key-keys (tables_at rows places) k)
    ∙ ap (λ (m : Tables). finmap.contains_key m k) e
