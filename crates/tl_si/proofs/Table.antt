-- The records of one table, as they were after the first commits.
use Rattle.std.proofs.Common.{◌≡◌, ℕ, ◌+◌, ◌&&◌, ◌==◌, Bool, true, false, cond, T, List, [], ◌∷◌, Option, Some, None, Ordering, Less, filter, take, refl, sym, ap, subst, ◌∙◌, arith}
use Rattle.std.specs.Prelude.{nat_lt, unwrap_or, if◌then◌else◌}
use Rattle.std.specs.FinMap as finmap
use Rattle.std.specs.FinMap.Entries.{below_all, find, find-where_key, is_sorted, is_sorted-where_key}
use Rattle.std.specs.Cmp.Lexicographic.{nat_list_cmp_total}
use Rattle.std.specs.Cmp.{nat_cmp_is, nat_cmp_total, tied_itself}
use Rattle.std.specs.Ordering.{is_le, is_lt, nat_cmp, ordering_then}
use Rattle.std.proofs.lemmas.Bool.{and_from, and_parts, eqb-true}
use Rattle.tl_lemmas.proofs.Tests.{held}
use Rattle.tl_write.specs.Own.{key_cmp}
use Rattle.tl_write.specs.Tables.{Tables, is_in}
use Rattle.tl_isolation.specs.declared.state.Commit.{Commit}
use Rattle.tl_isolation.specs.State.{tables_after}
use Rattle.tl_si.specs.declared.past.Place.{Place}
use Rattle.tl_si.specs.Places.{AreFound, Records, above, row_after, same_key, with_record, with_records, with_row}
use Rattle.tl_si.proofs.Laid.{Key, Row, equal_keys}
use Rattle.tl_si.proofs.Rows.{row_is}
use Rattle.tl_write.proofs.Keys.{key_eq, none_below}

module _ (number : ℕ) (commits : List Commit) (first : ℕ) where
  -- the row at the found places, over the one before
  abbrev row_or : Option Row → Option Row → Option Row
  row_or None before = before
  row_or (Some row) before = Some row

  abbrev merged : Bool → Option (List Place) → Option Row → Option Row
  merged inside None before = before
  merged inside (Some places) before = if inside then row_or (row_after commits first places) before else before

  get_row : (tables : Tables) (k q : Key) (row : Option Row) → finmap.get (with_row tables k row) q ≡ (if same_key q k then row_or row (finmap.get tables q) else finmap.get tables q)
  get_row tables k q None = by (same_key q k)
    where
      by : (b : Bool) → finmap.get tables q ≡ (if b then finmap.get tables q else finmap.get tables q)
      by true = refl
      by false = refl
  get_row tables k q (Some row) = finmap.get-insert nat_list_cmp_total tables k row q

  get_record : (tables : Tables) (k q : Key) (row : Option Row)
      → finmap.get (with_record number tables k row) q ≡ (if same_key q k then (if is_in number k then row_or row (finmap.get tables q) else finmap.get tables q) else finmap.get tables q)
  get_record tables k q row = by (is_in number k) (same_key q k) (get_row tables k q row)
    where
      by : (b s : Bool) → finmap.get (with_row tables k row) q ≡ (if s then row_or row (finmap.get tables q) else finmap.get tables q)
          → finmap.get (if b then with_row tables k row else tables) q ≡ (if s then (if b then row_or row (finmap.get tables q) else finmap.get tables q) else finmap.get tables q)
      by true s e = e
      by false true e = refl
      by false false e = refl

  get_records : (q : Key) (es : List (Key × List Place)) (tables : Tables) → is_sorted key_cmp es ≡ true
      → finmap.get (with_records number commits first tables es) q ≡ merged (is_in number q) (find key_cmp q es) (finmap.get tables q)
  get_records q [] tables s = refl
  get_records q (e ∷ es) tables s =
      let parts = and_parts (below_all key_cmp e.0 es) (is_sorted key_cmp es) s in
      get_records q es (with_record number tables e.0 (row_after commits first e.1)) parts.1
      ∙ ap (merged (is_in number q) (find key_cmp q es)) (get_record tables e.0 q (row_after commits first e.1))
      ∙ by (same_key q e.0) refl parts.0
    where
      inside : (b c : Bool) → b ≡ c → (if b then row_or (row_after commits first e.1) (finmap.get tables q) else finmap.get tables q)
          ≡ (if c then row_or (row_after commits first e.1) (finmap.get tables q) else finmap.get tables q)
      inside b c i = ap (λ (d : Bool). if d then row_or (row_after commits first e.1) (finmap.get tables q) else finmap.get tables q) i

      by : (b : Bool) → same_key q e.0 ≡ b → below_all key_cmp e.0 es ≡ true
          → merged (is_in number q) (find key_cmp q es) (if b then (if is_in number e.0 then row_or (row_after commits first e.1) (finmap.get tables q) else finmap.get tables q) else finmap.get tables q)
          ≡ merged (is_in number q) (cond b (Some e.1) (find key_cmp q es)) (finmap.get tables q)
      by true t below =
          let none : find key_cmp q es ≡ None = ap (λ (k : Key). find key_cmp k es) (key_eq q e.0 t) ∙ none_below e.0 es below in
          ap (λ (o : Option (List Place)). merged (is_in number q) o (if is_in number e.0 then row_or (row_after commits first e.1) (finmap.get tables q) else finmap.get tables q)) none
          ∙ inside (is_in number e.0) (is_in number q) (ap (is_in number) (sym (key_eq q e.0 t)))
      by false t below = refl

-- the keys of the table lie between these
abbrev pub between : ℕ → Key → Bool
between number key = is_le (key_cmp (4 ∷ number ∷ []) key) && is_lt (key_cmp key (above number))

module _ (number : ℕ) (commits : List Commit) (first : ℕ) (records : Records) (found : AreFound commits records)
    (covers : (key : Key) → is_in number key ≡ true → between number key ≡ true) where
  abbrev all : Tables
  all = tables_after (take first commits)

  abbrev pub listed : List (Key × List Place)
  listed = filter (λ e. between number e.0) (finmap.entries records)

  find_listed : (q : Key) → find key_cmp q listed ≡ cond (between number q) (finmap.get records q) None
  find_listed q =
      find-where_key key_cmp (between number) q (λ k e. ap (between number) (sym (equal_keys q k e))) (finmap.entries records)
      ∙ ap (λ (o : Option (List Place)). cond (between number q) o None) (sym (finmap.get-entries records q))

  row_found : (q : Key) (o : Option (List Place)) → finmap.get records q ≡ o → merged number commits first true o None ≡ finmap.get all q
  row_found q None e = sym (sym (row_is commits first q) ∙ ap (row_after commits first) (sym (found q) ∙ ap (λ (o : Option (List Place)). unwrap_or o []) e))
  row_found q (Some places) e =
      plain (row_after commits first places) ∙ ap (row_after commits first) (ap (λ (o : Option (List Place)). unwrap_or o []) (sym e) ∙ found q) ∙ row_is commits first q
    where
      plain : (o : Option Row) → row_or number commits first o None ≡ o
      plain None = refl
      plain (Some row) = refl

  outside : (o : Option (List Place)) → merged number commits first false o None ≡ None
  outside None = refl
  outside (Some places) = refl

  pub table_is : with_records number commits first finmap.empty listed ≡ finmap.retain_keys all (is_in number)
  table_is =
      finmap.same_map nat_list_cmp_total equal_keys (with_records number commits first finmap.empty listed) (finmap.retain_keys all (is_in number))
      (λ q.
      get_records number commits first q listed finmap.empty (held _ (is_sorted-where_key key_cmp (between number) (finmap.entries records) (finmap.entries_sorted records)))
      ∙ ap (merged number commits first (is_in number q) (find key_cmp q listed)) (finmap.get-empty key_cmp q)
      ∙ ap (λ (o : Option (List Place)). merged number commits first (is_in number q) o None) (find_listed q)
      ∙ by q (is_in number q) refl
      ∙ sym (finmap.get-retain_keys all (is_in number) q (λ k e. ap (is_in number) (sym (equal_keys q k e)))))
    where
      by : (q : Key) (b : Bool) → is_in number q ≡ b
          → merged number commits first b (cond (between number q) (finmap.get records q) None) None ≡ cond b (finmap.get all q) None
      by q true e = ap (λ (c : Bool). merged number commits first true (cond c (finmap.get records q) None) None) (covers q e) ∙ row_found q (finmap.get records q) refl
      by q false e = outside (cond (between number q) (finmap.get records q) None)

-- a key of the table lies between them
pub covers : (number : ℕ) (key : Key) → is_in number key ≡ true → between number key ≡ true
covers number [] e = absurd cc
covers number (k ∷ []) e = absurd (none (4 == k) e)
  where
    none : (b : Bool) → (b && false) ≡ true → ⊥
    none true e = cc
    none false e = cc
covers number (k ∷ n ∷ rest) e =
    let equal = parts (4 == k) (number == n) e in
    subst (λ (m : ℕ). between number (m ∷ n ∷ rest) ≡ true) (eqb-true 4 k equal.0)
    (subst (λ (m : ℕ). between number (4 ∷ m ∷ rest) ≡ true) (eqb-true number n equal.1) (and_from _ _ (from rest) before))
  where
    parts : (a b : Bool) → (a && (b && true)) ≡ true → (a ≡ true) × (b ≡ true)
    parts true true e = (refl, refl)
    parts true false e = absurd cc
    parts false b e = absurd cc

    short : (rest : Key) → is_le (key_cmp [] rest) ≡ true
    short [] = refl
    short (x ∷ xs) = refl

    from : (rest : Key) → is_le (key_cmp (4 ∷ number ∷ []) (4 ∷ number ∷ rest)) ≡ true
    from rest = ap (λ (o : Ordering). is_le (ordering_then o (key_cmp [] rest))) (tied_itself nat_cmp_total number) ∙ short rest

    less : nat_cmp number (number + 1) ≡ Less
    less = sym (nat_cmp_is number (number + 1) Less (omega arith))

    before : is_lt (key_cmp (4 ∷ number ∷ rest) (above number)) ≡ true
    before = elim (nat_lt number 255) as (λ b. is_lt (key_cmp (4 ∷ number ∷ rest) (if b then 4 ∷ (number + 1) ∷ [] else 5 ∷ [])) ≡ true) [
      | true ↦ ap (λ (o : Ordering). is_lt (ordering_then o (key_cmp rest []))) less
      | false ↦ refl
    ]

-- the records between these are those of the table
pub table_between : (number : ℕ) (commits : List Commit) (first : ℕ) (records : Records) (from before : Key) (es : List (Key × List Place)) → AreFound commits records
    → from ≡ 4 ∷ number ∷ [] → before ≡ above number → es ≡ filter (λ e. is_le (key_cmp from e.0) && is_lt (key_cmp e.0 before)) (finmap.entries records)
    → with_records number commits first finmap.empty es ≡ finmap.retain_keys (tables_after (take first commits)) (is_in number)
table_between number commits first records from before es found f b e =
    ap (with_records number commits first finmap.empty)
    (e ∙ ap (λ (k : Key). filter (λ (e : Key × List Place). is_le (key_cmp k e.0) && is_lt (key_cmp e.0 before)) (finmap.entries records)) f
    ∙ ap (λ (k : Key). filter (λ (e : Key × List Place). is_le (key_cmp (4 ∷ number ∷ []) e.0) && is_lt (key_cmp e.0 k)) (finmap.entries records)) b)
    ∙ table_is number commits first records found (covers number)
