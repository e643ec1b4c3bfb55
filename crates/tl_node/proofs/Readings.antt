-- The reads of a statement, one after the other: those of the law, and those that the code makes.
use Rattle.std.proofs.Common.{◌≡◌, ℕ, zero, suc, ◌+◌, List, [], ◌∷◌, ◌++◌, map, drop, Some, None, refl, sym, ap, ◌∙◌, add-one}
use Rattle.std.specs.Prelude.{filter, flat_map, slice_get}
use Rattle.tl_values.specs.declared.value.Value.{Value}
use Rattle.tl_values.specs.Key.{key_bytes}
use Rattle.tl_schema.specs.Record.{key_values}
use Rattle.tl_schema.specs.declared.access.Access.{Access}
use Rattle.tl_schema.specs.declared.catalog.Catalog.{Catalog}
use Rattle.tl_schema.specs.declared.catalog.Table.{Table}
use Rattle.tl_algebra.specs.declared.edit.Edit.{Edit}
use Rattle.tl_algebra.specs.declared.edit.Edit.TheVariants.{Insert, Update, Delete}
use Rattle.tl_write.specs.Change.{number_of}
use Rattle.tl_isolation.specs.declared.bound.Bound.{Bound}
use Rattle.tl_isolation.specs.declared.bound.Bound.TheVariants as bound
use Rattle.tl_isolation.specs.Tables.{table_of}
use Rattle.tl_plan.specs.Plan.{accesses_in, edit_accesses, is_looked_up, numbers_of, point_at}
use Rattle.tl_journal.specs.Asks.{ToIdle, reading_course}
use Rattle.tl_journal.specs.Reads as law
use Rattle.tl_journal.specs.Reads.{Reads, after_read, all_reads, begin_reads, edit_reads, next_table, read_of, reads_of}
use Rattle.tl_txn.specs.Calls.{awaited, without_rows}
use Rattle.tl_txn.specs.declared.phase.Open.{Open}
use Rattle.tl_node.specs.NextRead.{table_number}
use Rattle.tl_node.specs.View.{reads_in}
use Rattle.tl_node.specs.declared.work.Reading.{Reading as TheReading}

module _ {A : Type 0} where
  drop-all : (xs : List A) → drop 0 xs ≡ xs
  drop-all [] = refl
  drop-all (x ∷ xs) = refl

  drop_at : (n : ℕ) (xs : List A) (x : A) → slice_get xs n ≡ Some x → drop n xs ≡ x ∷ drop (suc n) xs
  drop_at zero [] x e = cc
  drop_at zero (y ∷ ys) x e = let f : y ≡ x = cc in ap (λ (z : A). z ∷ ys) f ∙ ap (λ (zs : List A). x ∷ zs) (sym (drop-all ys))
  drop_at (suc n) [] x e = cc
  drop_at (suc n) (y ∷ ys) x e = drop_at n ys x e

  pub one_dropped : (n : ℕ) (xs : List A) (x : A) → slice_get xs n ≡ Some x → drop n xs ≡ x ∷ drop (n + 1) xs
  one_dropped n xs x e = drop_at n xs x e ∙ ap (λ (m : ℕ). x ∷ drop m xs) (sym (add-one n))

  pub all_dropped : (n : ℕ) (xs : List A) → slice_get xs n ≡ None → drop n xs ≡ []
  all_dropped zero [] e = refl
  all_dropped zero (y ∷ ys) e = cc
  all_dropped (suc n) [] e = refl
  all_dropped (suc n) (y ∷ ys) e = all_dropped n ys e

-- the reads with this one in hand, where these rows were found in its table so far
abbrev pub reads_at : Bound → TheReading → law.Read → List (List Value) → Reads
reads_at (bound.Select query) reading first rows =
    record {
      left = first ∷ [];
      later = reads_of (drop (reading.at + 1) (numbers_of query)) (drop (reading.at + 1) reading.accesses);
      rows = rows;
      earlier = reading.found;
    }
reads_at (bound.Change edit) reading first rows =
    record {
      left = first ∷ map (read_of (number_of edit)) (drop (reading.at + 1) reading.accesses);
      later = [];
      rows = flat_map (λ (rows : List (List Value)). rows) reading.found ++ rows;
      earlier = [];
    }
reads_at statement reading first rows = record { left = first ∷ []; later = []; rows = rows; earlier = [] }

-- as code keeps them
pub reads_kept : (statement : Bound) (reading : TheReading) (live : Open) (wanted : law.Read)
    → reads_in statement reading (without_rows live) (awaited wanted)
    ≡ reads_at statement reading wanted []
reads_kept (bound.Select query) reading live (law.Point key) = refl
reads_kept (bound.Select query) reading live (law.Range shard from first before) = refl
reads_kept (bound.Change edit) reading live (law.Point key) = refl
reads_kept (bound.Change edit) reading live (law.Range shard from first before) = refl
reads_kept statement reading live (law.Point key) = refl
reads_kept statement reading live (law.Range shard from first before) = refl

-- ---- the first

points_read : (number : ℕ) (table : Table) (rows : List (List Value))
    → map (λ row. law.Point (4 ∷ number ∷ key_bytes (key_values table row))) rows ≡ map (read_of number) (map (point_at table) rows)
points_read number table [] = refl
points_read number table (row ∷ rows) = ap (λ (more : List law.Read). law.Point (4 ∷ number ∷ key_bytes (key_values table row)) ∷ more) (points_read number table rows)

edits_read : (catalog : Catalog) (edit : Edit) → edit_reads catalog edit ≡ map (read_of (number_of edit)) (edit_accesses catalog edit)
edits_read catalog (Insert number rows) = points_read number (table_of catalog number) (filter (is_looked_up (table_of catalog number)) rows)
edits_read catalog (Update number sets where_) = refl
edits_read catalog (Delete number where_) = refl

abbrev begun : law.Read → List ℕ → List Access → Reads
begun first numbers accesses = record { left = first ∷ []; later = reads_of numbers accesses; rows = []; earlier = [] }

begun_of_tables : (numbers : List ℕ) (accesses : List Access) (number : ℕ) (access : Access) → slice_get numbers 0 ≡ Some number → slice_get accesses 0 ≡ Some access
    → begin_reads (reads_of numbers accesses)
    ≡ record { left = read_of number access ∷ []; later = reads_of (drop 1 numbers) (drop 1 accesses); rows = []; earlier = [] }
begun_of_tables [] accesses number access e f = cc
begun_of_tables (n ∷ ns) [] number access e f = cc
begun_of_tables (n ∷ ns) (a ∷ others) number access e f =
    let g : n ≡ number = cc in
    let h : a ≡ access = cc in
    ap (λ (m : ℕ). begun (read_of m a) ns others) g ∙ ap (λ (x : Access). begun (read_of number x) ns others) h
    ∙ ap (λ (more : List ℕ). begun (read_of number access) more others) (sym (drop-all ns))
    ∙ ap (λ (more : List Access). begun (read_of number access) (drop 0 ns) more) (sym (drop-all others))

begun_of_change : (number : ℕ) (accesses : List Access) (access : Access) → slice_get accesses 0 ≡ Some access
    → begin_reads (map (read_of number) accesses ∷ [])
    ≡ record { left = read_of number access ∷ map (read_of number) (drop 1 accesses); later = []; rows = []; earlier = [] }
begun_of_change number [] access f = cc
begun_of_change number (a ∷ others) access f =
    let h : a ≡ access = cc in
    ap (λ (x : Access). begin_reads ((read_of number x ∷ map (read_of number) others) ∷ [])) h
    ∙ ap (λ (more : List Access). begin_reads ((read_of number access ∷ map (read_of number) more) ∷ [])) (sym (drop-all others))

abbrev pub at_first : Catalog → Bound → TheReading
at_first catalog statement = record { accesses = accesses_in catalog statement; at = 0; found = [] }

pub reads_begin : (catalog : Catalog) (statement : Bound) (number : ℕ) (access : Access)
    → table_number statement 0 ≡ Some number → slice_get (accesses_in catalog statement) 0 ≡ Some access
    → begin_reads (all_reads catalog statement) ≡ reads_at statement (at_first catalog statement) (read_of number access) []
reads_begin catalog (bound.Select query) number access e f = begun_of_tables (numbers_of query) (accesses_in catalog (bound.Select query)) number access e f
reads_begin catalog (bound.Change edit) number access e f =
    let g : number_of edit ≡ number = cc in
    ap (λ (reads : List law.Read). begin_reads (reads ∷ [])) (edits_read catalog edit)
    ∙ begun_of_change (number_of edit) (edit_accesses catalog edit) access f
    ∙ ap
    (λ (m : ℕ).
    record {
      left = read_of m access ∷ map (read_of (number_of edit)) (drop 1 (edit_accesses catalog edit));
      later = [];
      rows = [];
      earlier = [];
    }) g
reads_begin catalog statement number access e f = cc

-- where nothing is read
none_of_tables : (numbers : List ℕ) → reading_course (begin_reads (reads_of numbers [])) ≡ ToIdle
none_of_tables [] = refl
none_of_tables (n ∷ ns) = refl

pub none_read : (catalog : Catalog) (statement : Bound) → accesses_in catalog statement ≡ [] → reading_course (begin_reads (all_reads catalog statement)) ≡ ToIdle
none_read catalog (bound.Select query) e =
    ap (λ (accesses : List Access). reading_course (begin_reads (reads_of (numbers_of query) accesses))) e ∙ none_of_tables (numbers_of query)
none_read catalog (bound.Change edit) e =
    ap (λ (reads : List law.Read). reading_course (begin_reads (reads ∷ []))) (edits_read catalog edit ∙ ap (map (read_of (number_of edit))) e)
none_read catalog statement e = refl
