-- How many rows an INSERT adds: one for each row that it has.
use Rattle.std.proofs.Common.{◌≡◌, ℕ, suc, ◌+◌, ◌||◌, Bool, true, false, cond, List, [], ◌∷◌, Option, Some, None, Result, Ok, Ordering, Less, Equal, Greater, length, map, refl, sym, ap, ◌∙◌, arith}
use Rattle.std.specs.Prelude.{is_some}
use Rattle.std.specs.Cmp.Lexicographic.{nat_list_cmp_total}
use Rattle.std.specs.FinMap as finmap
use Rattle.std.specs.FinMap.{nat_cmp-IsAntisymmetric, slice_cmp-IsAntisymmetric}
use Rattle.std.specs.Ordering.{is_eq, match_ordering}
use Rattle.tl_lemmas.proofs.Tests.{never_both, or_first, or_second}
use Rattle.tl_values.specs.declared.value.Value.{Value}
use Rattle.tl_schema.specs.declared.catalog.Table.{Table}
use Rattle.tl_schema.specs.Record.{record_key}
use Rattle.tl_algebra.specs.declared.edit.Edit.TheVariants.{Insert}
use Rattle.tl_write.specs.declared.fault.ChangeFault.{ChangeFault}
use Rattle.tl_write.specs.declared.fault.ChangeFault.TheVariants as fault
use Rattle.tl_write.specs.declared.write.Effect.{Effect}
use Rattle.tl_write.specs.declared.write.Write.{Write}
use Rattle.tl_write.specs.Change.{Deed, Add, after, change_of, first_of, judged, nothing, offence, on_from, too_many, unless, where_so, row_offence}
use Rattle.tl_write.specs.Own.{is_written, key_cmp, put_write}
use Rattle.tl_write.specs.Tables.{Tables, laid_over, laid_write}
use Rattle.tl_write.proofs.Keys.{key_eq, key_turned}
use Rattle.tl_write.proofs.Rising.{turned}

abbrev Key : Type 0
Key = List ℕ

abbrev Row : Type 0
Row = List Value

-- ---- a row that is put among writes

laid_one : (tables : Tables) (k : Key) (row : Option Row) (q : Key)
    → finmap.get (laid_write tables (record { key = k; row = row })) q ≡ cond (is_eq (key_cmp q k)) row (finmap.get tables q)
laid_one tables k None q = finmap.get-remove nat_list_cmp_total tables k q
laid_one tables k (Some row) q = finmap.get-insert nat_list_cmp_total tables k row q

swapped : (a b : Bool) (x y below : Option Row) → (a ≡ true → b ≡ true → ⊥) → cond a x (cond b y below) ≡ cond b y (cond a x below)
swapped true true x y below h = absurd (h refl refl)
swapped true false x y below h = refl
swapped false b x y below h = refl

-- one key isn't two
not_both : (k l q : Key) → is_eq (key_cmp l k) ≡ false → is_eq (key_cmp q l) ≡ true → is_eq (key_cmp q k) ≡ true → ⊥
not_both k l q apart e f =
    never_both (is_eq (key_cmp l k)) (ap (λ (x : Key). is_eq (key_cmp x k)) (sym (key_eq q l e)) ∙ f) apart

module _ (k : Key) (row : Row) where
  -- a write of another record leaves it
  insert_later : (tables : Tables) (x : Write) → is_eq (key_cmp x.key k) ≡ false → laid_write (finmap.insert tables k row) x ≡ finmap.insert (laid_write tables x) k row
  insert_later tables x apart =
      finmap.same_map nat_list_cmp_total (slice_cmp-IsAntisymmetric nat_cmp-IsAntisymmetric) _ _ (λ q.
      laid_one (finmap.insert tables k row) x.key x.row q
      ∙ ap (λ (o : Option Row). cond (is_eq (key_cmp q x.key)) x.row o) (finmap.get-insert nat_list_cmp_total tables k row q)
      ∙ swapped (is_eq (key_cmp q x.key)) (is_eq (key_cmp q k)) x.row (Some row) (finmap.get tables q) (not_both k x.key q apart)
      ∙ ap (λ (o : Option Row). cond (is_eq (key_cmp q k)) (Some row) o) (sym (laid_one tables x.key x.row q))
      ∙ sym (finmap.get-insert nat_list_cmp_total (laid_write tables x) k row q))

  inserts_later : (tables : Tables) (ws : List Write) → is_written k ws ≡ false → laid_over (finmap.insert tables k row) ws ≡ finmap.insert (laid_over tables ws) k row
  inserts_later tables [] h = refl
  inserts_later tables (x ∷ xs) h =
      ap (λ (t : Tables). laid_over t xs) (insert_later tables x (or_first (is_eq (key_cmp x.key k)) (is_written k xs) h))
      ∙ inserts_later (laid_write tables x) xs (or_second (is_eq (key_cmp x.key k)) (is_written k xs) h)

  abbrev put : List Write → List Write
  put ws = put_write (record { key = k; row = Some row }) ws

  -- a row under a key that isn't written is inserted
  put_inserts : (tables : Tables) (ws : List Write) → is_written k ws ≡ false → laid_over tables (put ws) ≡ finmap.insert (laid_over tables ws) k row
  put_inserts tables [] h = refl
  put_inserts tables (x ∷ xs) h = by (key_cmp k x.key) refl (put_inserts (laid_write tables x) xs (or_second (is_eq (key_cmp x.key k)) (is_written k xs) h))
    where
      by : (o : Ordering) → key_cmp k x.key ≡ o → laid_over (laid_write tables x) (put xs) ≡ finmap.insert (laid_over (laid_write tables x) xs) k row
          → laid_over tables (match_ordering o (record { key = k; row = Some row } ∷ x ∷ xs) (record { key = k; row = Some row } ∷ xs) (x ∷ put xs)) ≡ finmap.insert (laid_over tables (x ∷ xs)) k row
      by Less e later = inserts_later tables (x ∷ xs) h
      by Equal e later = absurd (never_both (is_eq (key_cmp x.key k)) (ap is_eq (turned k x.key Equal e)) (or_first (is_eq (key_cmp x.key k)) (is_written k xs) h))
      by Greater e later = later

  -- a key that has no row and isn't written has none afterwards
  still_none : (tables : Tables) (ws : List Write) → finmap.contains_key tables k ≡ false → is_written k ws ≡ false → finmap.contains_key (laid_over tables ws) k ≡ false
  still_none tables [] none h = none
  still_none tables (x ∷ xs) none h =
      still_none (laid_write tables x) xs
      (ap is_some (laid_one tables x.key x.row k)
      ∙ ap (λ (b : Bool). is_some (cond b x.row (finmap.get tables k))) (key_turned k x.key ∙ or_first (is_eq (key_cmp x.key k)) (is_written k xs) h) ∙ none)
      (or_second (is_eq (key_cmp x.key k)) (is_written k xs) h)

  one_more : (tables : Tables) (ws : List Write) → finmap.contains_key tables k ≡ false → is_written k ws ≡ false
      → finmap.len (laid_over tables (put ws)) ≡ finmap.len (laid_over tables ws) + 1
  one_more tables ws none h =
      ap finmap.len (put_inserts tables ws h)
      ∙ finmap.len-insert nat_list_cmp_total (laid_over tables ws) k row
      ∙ ap (λ (b : Bool). cond b (finmap.len (laid_over tables ws)) (finmap.len (laid_over tables ws) + 1)) (still_none tables ws none h)

-- ---- the rows of an INSERT

-- a row that isn't refused has a key of its own
own_key : (a c : Option ChangeFault) (b : Bool) → first_of a (first_of (where_so b fault.Duplicate) c) ≡ None → b ≡ false
own_key None c true e = absurd cc
own_key None c false e = refl
own_key (Some f) c b e = absurd cc

same_effect : (x y : Effect) → ◌≡◌ {A = Result Effect ChangeFault} (Ok x) (Ok y) → x ≡ y
same_effect x y e = cc

sum_on : (m n a b : ℕ) → m ≡ n + b → n ≡ a + 1 → m ≡ a + suc b
sum_on m n a b e f = omega arith

module _ (number : ℕ) (table : Table) (tables : Tables) where
  abbrev key_of : Row → Key
  key_of row = record_key number table row

  abbrev additions : List Row → List Deed
  additions rows = map (λ (row : Row). Add (key_of row) row) rows

  abbrev judged_from : List Row → Effect → Result Effect ChangeFault
  judged_from rows done = judged table (finmap.contains_key tables) [] (additions rows) done

  abbrev size : List Write → ℕ
  size ws = finmap.len (laid_over tables ws)

  grown : (rows : List Row) (done effect : Effect) → judged_from rows done ≡ Ok effect → size effect.writes ≡ size done.writes + length rows
  grown [] done effect e = let same : size done.writes ≡ size effect.writes = ap (λ (x : Effect). size x.writes) (same_effect done effect e) in omega arith
  grown (row ∷ rows) done effect e =
      by (offence table (finmap.contains_key tables) [] done.writes (Add (key_of row) row)) refl e (grown rows (after (Add (key_of row) row) done) effect)
    where
      by : (o : Option ChangeFault) → offence table (finmap.contains_key tables) [] done.writes (Add (key_of row) row) ≡ o
          → on_from (unless o (after (Add (key_of row) row) done)) (λ (more : Effect). judged_from rows more) ≡ Ok effect
          → (judged_from rows (after (Add (key_of row) row) done) ≡ Ok effect → size effect.writes ≡ size (after (Add (key_of row) row) done).writes + length rows)
          → size effect.writes ≡ size done.writes + length (row ∷ rows)
      by None i e later =
          let new : (finmap.contains_key tables (key_of row) || is_written (key_of row) done.writes) ≡ false = own_key (row_offence table row) (too_many [] done.writes (key_of row)) _ i in
          sum_on (size effect.writes) (size (put (key_of row) row done.writes)) (size done.writes) (length rows) (later e)
          (one_more (key_of row) row tables done.writes (or_first (finmap.contains_key tables (key_of row)) (is_written (key_of row) done.writes) new)
          (or_second (finmap.contains_key tables (key_of row)) (is_written (key_of row) done.writes) new))
      by (Some f) i e later = absurd cc

pub insert_counts : (number : ℕ) (table : Table) (rows : List Row) (tables : Tables) (effect : Effect) → change_of (Insert number rows) table tables [] ≡ Ok effect
    → finmap.len (laid_over tables effect.writes) ≡ finmap.len tables + length rows
insert_counts number table rows tables effect e = grown number table tables rows nothing effect e
