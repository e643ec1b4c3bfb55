-- A change sees as much in the rows of its table as in all that the transaction sees.
use Rattle.std.proofs.Common.{◌≡◌, ℕ, zero, suc, ◌&&◌, Bool, true, false, cond, List, [], ◌∷◌, Option, Some, None, Result, Ok, Err, map, refl, sym, ap, subst, ◌∙◌, arith}
use Rattle.std.specs.Prelude.{Contains}
use Rattle.std.specs.FinMap as finmap
use Rattle.std.specs.FinMap.Entries.{find, find-where_key}
use Rattle.std.specs.List.{AllByRecursion}
use Rattle.std.specs.Ordering.{is_eq}
use Rattle.std.proofs.lemmas.Bool.{eq-eqb}
use Rattle.tl_lemmas.proofs.Lists.{all_filter, all_map}
use Rattle.tl_schema.specs.declared.catalog.Catalog.{Catalog}
use Rattle.tl_schema.specs.declared.catalog.Table.{Table}
use Rattle.tl_schema.specs.Record.{record_key}
use Rattle.tl_algebra.specs.declared.edit.Edit.{Edit}
use Rattle.tl_algebra.specs.declared.edit.Edit.TheVariants.{Insert, Update, Delete}
use Rattle.tl_write.specs.declared.fault.ChangeFault.{ChangeFault}
use Rattle.tl_write.specs.declared.fault.ChangeFault.TheVariants as fault
use Rattle.tl_write.specs.declared.write.Effect.{Effect}
use Rattle.tl_write.specs.declared.write.Write.{Write}
use Rattle.tl_write.specs.Change.{number_of}
use Rattle.tl_write.specs.Change as change
use Rattle.tl_write.specs.Fault.{Tells}
use Rattle.tl_write.specs.Law.{Has, IsListed, LooksAt, RowsSuffice}
use Rattle.tl_write.specs.Own.{key_cmp}
use Rattle.tl_write.specs.Tables.{Tables, is_in, records_in, tables_of}
use Rattle.tl_isolation.specs.declared.entry.Answer.{Answer}
use Rattle.tl_isolation.specs.declared.state.Commit.{Commit}
use Rattle.tl_isolation.specs.declared.state.Transaction.{Transaction}
use Rattle.tl_isolation.specs.Meaning.{change_of}
use Rattle.tl_isolation.specs.Step.{keep_answer, own_after}
use Rattle.tl_isolation.specs.Tables.{rows_in, table_of}
use Rattle.tl_si.specs.Sound.{AreHome}
use Rattle.tl_si.specs.Statements.{view, wants_memory}
use Rattle.tl_si.proofs.Homes.{listed}
use Rattle.tl_si.proofs.Laid.{Key, Row, equal_keys}
use Rattle.tl_write.proofs.Keys.{sorted_entries}

-- what is found is listed
found_listed : (k : Key) (row : Row) (es : List (Key × Row)) → find key_cmp k es ≡ Some row → Contains (map (λ (e : Key × Row). e.1) es) row
found_listed k row [] h = absurd cc
found_listed k row (e ∷ es) h = one (is_eq (key_cmp k e.0)) h (found_listed k row es)
  where
    one : (b : Bool) → cond b (Some e.1) (find key_cmp k es) ≡ Some row → (find key_cmp k es ≡ Some row → Contains (map (λ (x : Key × Row). x.1) es) row)
        → Contains (e.1 ∷ map (λ (x : Key × Row). x.1) es) row
    one true h later = (zero, omega arith, same e.1 row h)
      where
        same : (x y : Row) → Some x ≡ Some y → x ≡ y
        same x y e = cc
    one false h later = let c = later h in let within = c.1 in (suc c.0, omega arith, c.2)

module _ (catalog : Catalog) (number : ℕ) (whole : Tables) (home : AreHome catalog whole) where
  abbrev table : Table
  table = table_of catalog number

  find_records : (k : Key) → find key_cmp k (records_in number whole) ≡ cond (is_in number k) (finmap.get whole k) None
  find_records k =
      find-where_key key_cmp (is_in number) k (λ l e. ap (is_in number) (sym (equal_keys k l e))) (finmap.entries whole)
      ∙ ap (λ (o : Option Row). cond (is_in number k) o None) (sym (finmap.get-entries whole k))

  -- each row of the table stands in the whole, under its own key
  each_stands : AllByRecursion (λ row. Has whole (record_key number table row) row) (rows_in number whole)
  each_stands =
      all_map (λ (e : Key × Row). Has whole (record_key number table e.1) e.1) (λ (row : Row). Has whole (record_key number table row) row) (λ (e : Key × Row). e.1) (λ e h. h)
      (records_in number whole)
      (all_filter (λ (e : Key × Row). Has whole e.0 e.1) (λ (e : Key × Row). Has whole (record_key number table e.1) e.1) (λ (e : Key × Row). is_in number e.0)
      (λ e i h. subst (λ (k : Key). Has whole k e.1) (sym (home e.0 e.1 h number i)) h)
      (finmap.entries whole)
      (listed (λ k row. Has whole k row) (finmap.entries whole) (sorted_entries whole) (λ k row e. finmap.get-entries whole k ∙ e)))

  is_listed : (k : Key) (row : Row) → Has whole k row → is_in number k ≡ true → IsListed number table (rows_in number whole) k row
  is_listed k row h i = (
    found_listed k row (records_in number whole) (find_records k ∙ ap (λ (b : Bool). cond b (finmap.get whole k) None) i ∙ h),
    home k row h number i,
  )

  insert_looks : (new : List Row) → LooksAt (Insert number new) table whole (IsListed number table (rows_in number whole))
  insert_looks [] = tt
  insert_looks (row ∷ new) = (
    λ found has. is_listed (record_key number table row) found has (ap (λ (b : Bool). b && true) (eq-eqb number number refl)),
    insert_looks new,
  )

looks : (catalog : Catalog) (edit : Edit) (whole : Tables) → AreHome catalog whole
    → LooksAt edit (table_of catalog (number_of edit)) whole (IsListed (number_of edit) (table_of catalog (number_of edit)) (rows_in (number_of edit) whole))
looks catalog (Insert number new) whole home = insert_looks catalog number whole home new
looks catalog (Update number sets where_) whole home = λ k row m. is_listed catalog number whole home k row m.has m.in_table
looks catalog (Delete number where_) whole home = λ k row m. is_listed catalog number whole home k row m.has m.in_table

-- what is told of a change, but for want of memory, is what it comes to
told_so : (effect meant : Result Effect ChangeFault) → wants_memory effect ≡ false → Tells effect meant → effect ≡ meant
told_so (Ok effect) meant w t = sym t
told_so (Err fault.NoMemory) meant w t = absurd cc
told_so (Err refusal) meant w t = other refusal w t
  where
    other : (refusal : ChangeFault) → wants_memory (Err refusal) ≡ false → Tells (Err refusal) meant → Err refusal ≡ meant
    other fault.NoMemory w t = absurd cc
    other fault.Overflow w t = sym t
    other fault.Null w t = sym t
    other fault.Long w t = sym t
    other fault.Duplicate w t = sym t
    other fault.Many w t = sym t

-- the change of the rows of its table
pub effect_is : (suffice : RowsSuffice) (catalog : Catalog) (edit : Edit) (commits : List Commit) (u t : Transaction) (number : ℕ) (table : Table) (rows : List Row) (effect : Result Effect ChangeFault)
    → AreHome catalog (view commits t) → u ≡ t → number ≡ number_of edit → table ≡ table_of catalog number → rows ≡ rows_in number (view commits u)
    → wants_memory effect ≡ false → Tells effect (change.change_of edit table (tables_of (number_of edit) table rows) u.own)
    → effect ≡ change_of catalog edit (view commits t) t.own
effect_is suffice catalog edit commits u t number table rows effect home e n b r w tells =
    told_so effect (change.change_of edit table (tables_of (number_of edit) table rows) u.own) w tells
    ∙ ap (λ (x : Table). change.change_of edit x (tables_of (number_of edit) x rows) u.own) (b ∙ ap (table_of catalog) n)
    ∙ ap (λ (rs : List Row). change.change_of edit (table_of catalog (number_of edit)) (tables_of (number_of edit) (table_of catalog (number_of edit)) rs) u.own)
    (r ∙ ap (λ (m : ℕ). rows_in m (view commits u)) n)
    ∙ ap (λ (v : Transaction). change.change_of edit (table_of catalog (number_of edit)) (tables_of (number_of edit) (table_of catalog (number_of edit)) (rows_in (number_of edit) (view commits v))) v.own) e
    ∙ suffice edit (table_of catalog (number_of edit)) (rows_in (number_of edit) (view commits t)) (view commits t) t.own
    (each_stands catalog (number_of edit) (view commits t) home) (looks catalog edit (view commits t) home)

-- an answer that is kept leaves the own writes
pub kept_own : (told : Answer) (answered : Bool) (t : Transaction) → (keep_answer told answered t).own ≡ t.own
kept_own told true t = refl
kept_own told false t = refl

-- the answer is kept, and what was written is laid over the own writes
pub changed_is : (told : Answer) (answered : Bool) (t kept changed : Transaction) (effect meant : Result Effect ChangeFault) → kept ≡ keep_answer told answered t → effect ≡ meant
    → changed ≡ record kept { own = own_after effect kept.own } → changed ≡ record (keep_answer told answered t) { own = own_after meant t.own }
changed_is told answered t kept changed effect meant k e c =
    c ∙ ap (λ (u : Transaction). record u { own = own_after effect u.own }) k
    ∙ ap (λ (r : Result Effect ChangeFault). record (keep_answer told answered t) { own = own_after r (keep_answer told answered t).own }) e
    ∙ ap (λ (ws : List Write). record (keep_answer told answered t) { own = own_after meant ws }) (kept_own told answered t)
