-- A part of a view tells what the whole of it tells.
use Rattle.std.proofs.Common.{◌≡◌, ℕ, zero, suc, ◌<◌, Bool, true, false, cond, ◌||◌, T, List, [], ◌∷◌, Option, Some, None, Result, length, map, filter, refl, sym, ap, subst, ◌∙◌, arith}
use Rattle.std.specs.Prelude.{is_some, slice_index_or}
use Rattle.std.specs.declared.cmp.Ordering.{Ordering}
use Rattle.std.specs.declared.cmp.Ordering.TheVariants.{Less, Equal, Greater}
use Rattle.std.specs.Cmp.{tied_itself}
use Rattle.std.specs.Cmp.Lexicographic.{nat_list_cmp_total}
use Rattle.std.specs.FinMap as finmap
use Rattle.std.specs.FinMap.{nat_cmp-IsAntisymmetric, slice_cmp-IsAntisymmetric}
use Rattle.std.specs.FinMap.Entries.{below_all, find, is_sorted, same_entries}
use Rattle.std.specs.List.{AllByRecursion}
use Rattle.std.specs.Ordering.{is_eq}
use Rattle.std.proofs.lemmas.Bool.{and_from}
use Rattle.tl_lemmas.proofs.Tests.{and_first, and_second, held, holds}
use Rattle.tl_lemmas.proofs.Orders.{less_is}
use Rattle.tl_values.specs.declared.value.Value.{Value}
use Rattle.tl_schema.specs.declared.catalog.Table.{Table}
use Rattle.tl_schema.specs.Record.{record_key}
use Rattle.tl_algebra.specs.declared.condition.Condition.{Condition}
use Rattle.tl_algebra.specs.declared.edit.Edit.TheVariants.{Insert, Update, Delete}
use Rattle.tl_algebra.specs.declared.edit.SetColumn.{SetColumn}
use Rattle.tl_algebra.specs.Truth.{lets_through}
use Rattle.tl_write.specs.declared.fault.ChangeFault.{ChangeFault}
use Rattle.tl_write.specs.declared.fault.ChangeFault.TheVariants as fault
use Rattle.tl_write.specs.declared.write.Effect.{Effect}
use Rattle.tl_write.specs.declared.write.Write.{Write}
use Rattle.tl_write.specs.Change.{Deed, Add, Replace, Remove, Overflow, after, first_of, judge, judged, matching, nothing, on_from, replaced, row_offence, set_columns, too_many, unless, where_so}
use Rattle.tl_write.specs.Law.{Has, IsListed, IsPart, LooksAt, Matches, PartSuffices, RowsSuffice}
use Rattle.tl_write.specs.Own.{is_written, key_cmp}
use Rattle.tl_write.specs.Tables.{Tables, is_in, laid_over, tables_of, write_of}
use Rattle.tl_write.proofs.Keys.{below_filter, key_eq, none_below, sorted_entries, sorted_filter}

-- and_from tell the same of the key of a deed
abbrev Agree : (List ℕ → Bool) → (List ℕ → Bool) → Deed → Type 0
Agree there here (Add key row) = there key ≡ here key
Agree there here (Replace key row) = Unit {0}
Agree there here (Remove key) = Unit {0}
Agree there here Overflow = Unit {0}

judge_same : (t : Table) (there here : List ℕ → Bool) (own : List Write) (deed : Deed) (p : Effect) → Agree there here deed → judge t there own deed p ≡ judge t here own deed p
judge_same t there here own (Add k row) p h =
    ap (λ (b : Bool). unless (first_of (row_offence t row) (first_of (where_so (b || is_written k p.writes) fault.Duplicate) (too_many own p.writes k))) (after (Add k row) p)) h
judge_same t there here own (Replace k row) p h = refl
judge_same t there here own (Remove k) p h = refl
judge_same t there here own Overflow p h = refl

judged_same : (t : Table) (there here : List ℕ → Bool) (own : List Write) (ds : List Deed) (p : Effect) → AllByRecursion (Agree there here) ds → judged t there own ds p ≡ judged t here own ds p
judged_same t there here own [] p h = refl
judged_same t there here own (d ∷ ds) p h =
    ap (λ (r : Result Effect ChangeFault). on_from r (λ (more : Effect). judged t there own ds more)) (judge_same t there here own d p h.0)
    ∙ ap (on_from (judge t here own d p)) (λ i more. judged_same t there here own ds more h.1 i)

replaced_agrees : (there here : List ℕ → Bool) (k : List ℕ) (o : Option (List Value)) → Agree there here (replaced k o)
replaced_agrees there here k None = tt
replaced_agrees there here k (Some row) = tt

updates_agree : (there here : List ℕ → Bool) (sets : List SetColumn) (es : List (List ℕ × List Value)) → AllByRecursion (Agree there here) (map (λ e. replaced e.0 (set_columns sets e.1 e.1)) es)
updates_agree there here sets [] = tt
updates_agree there here sets (e ∷ es) = (replaced_agrees there here e.0 (set_columns sets e.1 e.1), updates_agree there here sets es)

removals_agree : (there here : List ℕ → Bool) (es : List (List ℕ × List Value)) → AllByRecursion (Agree there here) (map (λ e. Remove e.0) es)
removals_agree there here [] = tt
removals_agree there here (e ∷ es) = (tt, removals_agree there here es)

some_same : (a b : Option (List Value)) → ((x : List Value) → a ≡ Some x → b ≡ Some x) → ((x : List Value) → b ≡ Some x → a ≡ Some x) → is_some a ≡ is_some b
some_same None None f g = refl
some_same None (Some y) f g = let e : ◌≡◌ {A = Option (List Value)} None (Some y) = g y refl in absurd cc
some_same (Some x) None f g = let e : ◌≡◌ {A = Option (List Value)} None (Some x) = f x refl in absurd cc
some_same (Some x) (Some y) f g = refl

additions_agree : (part whole : Tables) (n : ℕ) (t : Table) (rows : List (List Value)) → IsPart part whole → LooksAt (Insert n rows) t whole (Has part) →
    AllByRecursion (Agree (finmap.contains_key part) (finmap.contains_key whole)) (map (λ row. Add (record_key n t row) row) rows)
additions_agree part whole n t [] sub h = tt
additions_agree part whole n t (row ∷ rows) sub h =
    (some_same (finmap.get part (record_key n t row)) (finmap.get whole (record_key n t row)) (sub (record_key n t row)) h.0, additions_agree part whole n t rows sub h.1)

-- the entries that pass a test
abbrev Entry : Type 0
Entry = List ℕ × List Value

abbrev keep : (Entry → Bool) → List ℕ → Option (List Value) → Option (List Value)
keep p k None = None
keep p k (Some v) = cond (p (k, v)) (Some v) None

find_filter : (p : Entry → Bool) (k : List ℕ) (es : List Entry) → is_sorted key_cmp es ≡ true → find key_cmp k (filter p es) ≡ keep p k (find key_cmp k es)
find_filter p k [] h = refl
find_filter p k (e ∷ es) h =
    elim (is_eq (key_cmp k e.0)) as (λ t. is_eq (key_cmp k e.0) ≡ t → find key_cmp k (cond (p e) (e ∷ filter p es) (filter p es)) ≡ keep p k (cond t (Some e.1) (find key_cmp k es))) [
      | true ↦ λ t.
          let same : k ≡ e.0 = key_eq k e.0 t in
          let none : find key_cmp k (filter p es) ≡ None = none_below k (filter p es) (ap (λ (l : List ℕ). below_all key_cmp l (filter p es)) same ∙ below_filter p e.0 es (and_first _ _ h)) in
          at_tie (p e) t none ∙ ap (λ (l : List ℕ). cond (p (l, e.1)) (Some e.1) None) (sym same)
      | false ↦ λ t. apart (p e) t ∙ find_filter p k es (and_second _ _ h)
    ] refl
  where
    at_tie : (b : Bool) → is_eq (key_cmp k e.0) ≡ true → find key_cmp k (filter p es) ≡ None → find key_cmp k (cond b (e ∷ filter p es) (filter p es)) ≡ cond b (Some e.1) None
    at_tie true t none = ap (λ (c : Bool). cond c (Some e.1) (find key_cmp k (filter p es))) t
    at_tie false t none = none

    apart : (b : Bool) → is_eq (key_cmp k e.0) ≡ false → find key_cmp k (cond b (e ∷ filter p es) (filter p es)) ≡ find key_cmp k (filter p es)
    apart true t = ap (λ (c : Bool). cond c (Some e.1) (find key_cmp k (filter p es))) t
    apart false t = refl

module _ (n : ℕ) (condition : Option Condition) where
  abbrev in_table : Entry → Bool
  in_table e = is_in n e.0

  abbrev passes : Entry → Bool
  passes e = lets_through condition e.1

  abbrev kept : List ℕ → Option (List Value) → Option (List Value)
  kept k o = keep passes k (keep in_table k o)

  find_matching : (m : Tables) (k : List ℕ) → find key_cmp k (matching n condition m) ≡ kept k (finmap.get m k)
  find_matching m k =
      find_filter passes k (filter in_table (finmap.entries m)) (sorted_filter in_table (finmap.entries m) (sorted_entries m))
      ∙ ap (keep passes k) (find_filter in_table k (finmap.entries m) (sorted_entries m) ∙ ap (keep in_table k) (sym (finmap.get-entries m k)))

  sorted_matching : (m : Tables) → is_sorted key_cmp (matching n condition m) ≡ true
  sorted_matching m = sorted_filter passes (filter in_table (finmap.entries m)) (sorted_filter in_table (finmap.entries m) (sorted_entries m))

  -- a row that isn't there isn't kept
  lost : (k : List ℕ) (v : List Value) (b c : Bool) → b ≡ in_table (k, v) → c ≡ passes (k, v) → (b ≡ true → c ≡ true → ⊥) → kept k (Some v) ≡ None
  lost k v false c e f never = ap (λ (x : Bool). keep passes k (cond x (Some v) None)) (sym e)
  lost k v true false e f never = ap (λ (x : Bool). keep passes k (cond x (Some v) None)) (sym e) ∙ ap (λ (x : Bool). cond x (Some v) None) (sym f)
  lost k v true true e f never = absurd (never refl refl)

  kept_same : (k : List ℕ) (a b : Option (List Value)) → ((x : List Value) → a ≡ Some x → b ≡ Some x) →
      ((x : List Value) → b ≡ Some x → in_table (k, x) ≡ true → passes (k, x) ≡ true → a ≡ Some x) → kept k a ≡ kept k b
  kept_same k None None f g = refl
  kept_same k None (Some y) f g = sym (lost k y _ _ refl refl (λ p q. differ (g y refl p q)))
    where
      differ : ◌≡◌ {A = Option (List Value)} None (Some y) → ⊥
      differ e = cc
  kept_same k (Some x) b f g = ap (kept k) (sym (f x refl))

  pub matching_same : (part whole : Tables) → IsPart part whole → ((k : List ℕ) (row : List Value) → Matches n condition whole k row → Has part k row) →
      matching n condition part ≡ matching n condition whole
  matching_same part whole sub h =
      same_entries key_cmp nat_list_cmp_total (slice_cmp-IsAntisymmetric nat_cmp-IsAntisymmetric) (matching n condition part) (matching n condition whole)
      (holds _ (sorted_matching part)) (holds _ (sorted_matching whole))
      (λ k. find_matching part k ∙ kept_same k (finmap.get part k) (finmap.get whole k) (sub k) (λ x e p q. h k x (record { has = e; in_table = p; passes = q })) ∙ sym (find_matching whole k))

pub part_suffices : PartSuffices
part_suffices (Insert n rows) t part whole own sub h =
    judged_same t (finmap.contains_key part) (finmap.contains_key whole) own (map (λ row. Add (record_key n t row) row) rows) nothing (additions_agree part whole n t rows sub h)
part_suffices (Update n sets condition) t part whole own sub h =
    let there = finmap.contains_key part in
    ap (λ (es : List Entry). judged t there own (map (λ (e : Entry). replaced e.0 (set_columns sets e.1 e.1)) es) nothing) (matching_same n condition part whole sub h)
    ∙ judged_same t there (finmap.contains_key whole) own _ nothing (updates_agree there (finmap.contains_key whole) sets (matching n condition whole))
part_suffices (Delete n condition) t part whole own sub h =
    let there = finmap.contains_key part in
    ap (λ (es : List Entry). judged t there own (map (λ (e : Entry). Remove e.0) es) nothing) (matching_same n condition part whole sub h)
    ∙ judged_same t there (finmap.contains_key whole) own _ nothing (removals_agree there (finmap.contains_key whole) (matching n condition whole))

empty_part : (whole : Tables) → IsPart finmap.empty whole
empty_part whole k r is = let e : ◌≡◌ {A = Option (List Value)} None (Some r) = sym (finmap.get-empty key_cmp k) ∙ is in absurd cc

-- the rows that are laid over part of a view are part of it too
laid_part : (n : ℕ) (t : Table) (whole tables : Tables) (rows : List (List Value)) → IsPart tables whole → AllByRecursion (λ row. Has whole (record_key n t row) row) rows →
    IsPart (laid_over tables (map (write_of n t) rows)) whole
laid_part n t whole tables [] sub h = sub
laid_part n t whole tables (row ∷ rows) sub h = laid_part n t whole (finmap.insert tables (record_key n t row) row) rows one h.1
  where
    found : (k : List ℕ) (b : Bool) → is_eq (key_cmp k (record_key n t row)) ≡ b → (r : List Value) → cond b (Some row) (finmap.get tables k) ≡ Some r → Has whole k r
    found k true e r is = subst (λ (l : List ℕ). Has whole l r) (sym (key_eq k (record_key n t row) e)) (h.0 ∙ is)
    found k false e r is = sub k r is

    one : IsPart (finmap.insert tables (record_key n t row) row) whole
    one k r is = found k _ refl r (sym (finmap.get-insert nat_list_cmp_total tables (record_key n t row) row k) ∙ is)

either_some : (b : Bool) (x : List Value) (o : Option (List Value)) → is_some o ≡ true → is_some (cond b (Some x) o) ≡ true
either_some true x o h = refl
either_some false x o h = h

-- a key that has a row has one after more rows
still_there : (n : ℕ) (t : Table) (k : List ℕ) (tables : Tables) (rows : List (List Value)) → is_some (finmap.get tables k) ≡ true → is_some (finmap.get (laid_over tables (map (write_of n t) rows)) k) ≡ true
still_there n t k tables [] h = h
still_there n t k tables (row ∷ rows) h =
    still_there n t k (finmap.insert tables (record_key n t row) row) rows
    (ap is_some (finmap.get-insert nat_list_cmp_total tables (record_key n t row) row k) ∙ either_some _ row (finmap.get tables k) h)

listed_there : (n : ℕ) (t : Table) (tables : Tables) (rows : List (List Value)) (i : ℕ) (row : List Value) → i < length rows → slice_index_or rows i row ≡ row →
    is_some (finmap.get (laid_over tables (map (write_of n t) rows)) (record_key n t row)) ≡ true
listed_there n t tables [] i row l is = absurd (omega arith)
listed_there n t tables (x ∷ xs) zero row l is =
    still_there n t (record_key n t row) (finmap.insert tables (record_key n t x) x) xs
    (ap is_some (finmap.get-insert nat_list_cmp_total tables (record_key n t x) x (record_key n t row))
    ∙ ap (λ (r : List Value). is_some (cond (is_eq (key_cmp (record_key n t r) (record_key n t x))) (Some x) (finmap.get tables (record_key n t r)))) (sym is)
    ∙ ap (λ (o : Ordering). is_some (cond (is_eq o) (Some x) (finmap.get tables (record_key n t x)))) (tied_itself nat_list_cmp_total (record_key n t x)))
listed_there n t tables (x ∷ xs) (suc i) row l is = listed_there n t (finmap.insert tables (record_key n t x) x) xs i row (omega arith) is

some_of : (o : Option (List Value)) → is_some o ≡ true → (r : List Value) × (o ≡ Some r)
some_of None h = absurd cc
some_of (Some r) h = (r, refl)

value_or : List Value → Option (List Value) → List Value
value_or d None = d
value_or d (Some r) = r

module _ (n : ℕ) (t : Table) (rows : List (List Value)) (whole : Tables) (sub : IsPart (tables_of n t rows) whole) where
  -- a row that is listed under its key stands there
  listed_has : (k : List ℕ) (row : List Value) → Has whole k row → IsListed n t rows k row → Has (tables_of n t rows) k row
  unfolding value_or
  listed_has k row has listed =
      let some = some_of (finmap.get (tables_of n t rows) k)
      (subst (λ (l : List ℕ). is_some (finmap.get (tables_of n t rows) l) ≡ true) listed.1 (listed_there n t finmap.empty rows listed.0.0 row listed.0.1 listed.0.2)) in
      let same : some.0 ≡ row = ap (value_or row) (sym (sub k some.0 some.1) ∙ has) in
      some.1 ∙ ap Some same

  added_has : (edit : List (List Value)) → LooksAt (Insert n edit) t whole (IsListed n t rows) → LooksAt (Insert n edit) t whole (Has (tables_of n t rows))
  added_has [] h = tt
  added_has (row ∷ edit) h = (λ found has. listed_has (record_key n t row) found has (h.0 found has), added_has edit h.1)

pub rows_suffice : RowsSuffice
rows_suffice (Insert n edit) t rows whole own all h =
    let sub : IsPart (tables_of n t rows) whole = laid_part n t whole finmap.empty rows (empty_part whole) all in
    part_suffices (Insert n edit) t (tables_of n t rows) whole own sub (added_has n t rows whole sub edit h)
rows_suffice (Update n sets condition) t rows whole own all h =
    let sub : IsPart (tables_of n t rows) whole = laid_part n t whole finmap.empty rows (empty_part whole) all in
    part_suffices (Update n sets condition) t (tables_of n t rows) whole own sub (λ k row m. listed_has n t rows whole sub k row m.has (h k row m))
rows_suffice (Delete n condition) t rows whole own all h =
    let sub : IsPart (tables_of n t rows) whole = laid_part n t whole finmap.empty rows (empty_part whole) all in
    part_suffices (Delete n condition) t (tables_of n t rows) whole own sub (λ k row m. listed_has n t rows whole sub k row m.has (h k row m))
