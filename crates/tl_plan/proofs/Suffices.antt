-- What lies within the accesses of a statement suffices for its answer.
use Rattle.std.proofs.Common.{◌≡◌, ℕ, zero, suc, ◌+◌, ◌<◌, Bool, true, false, cond, ◌&&◌, if◌then◌else◌, List, [], ◌∷◌, ◌++◌, Option, Some, None, Result, Ok, Err, Ordering, Less, Equal, Greater, length, map, filter, flat_map, refl, sym, ap, subst, ◌∙◌, append_assoc, append-nil, get_or-append-add, length-append, arith}
use Rattle.std.proofs.lemmas.List.{get_or_append_left}
use Rattle.std.proofs.lemmas.List.Elements.{filter-append}
use Rattle.std.specs.Cmp.{tied_itself}
use Rattle.std.specs.Cmp.Lexicographic.{nat_list_cmp_total, slice_cmp}
use Rattle.std.specs.List.{AllByRecursion}
use Rattle.std.specs.Ordering.{is_eq, nat_cmp}
use Rattle.std.proofs.lemmas.Bool.{false_from_ne_true}
use Rattle.tl_lemmas.proofs.Tests.{and_second}
use Rattle.tl_values.specs.declared.value.Comparison.{Comparison}
use Rattle.tl_values.specs.declared.value.Comparison.TheVariants as by
use Rattle.tl_values.specs.declared.value.Value.{Value}
use Rattle.tl_values.specs.declared.value.Value.TheVariants as value
use Rattle.tl_values.specs.Key.{AreValues, IsValue, key_bytes}
use Rattle.tl_values.specs.Value.{passes, value_at, value_cmp}
use Rattle.tl_values.proofs.ValueOrder.{value_exact}
use Rattle.tl_schema.specs.declared.access.Access.{Access}
use Rattle.tl_schema.specs.declared.catalog.Catalog.{Catalog}
use Rattle.tl_schema.specs.declared.catalog.Table.{Table}
use Rattle.tl_algebra.specs.declared.condition.Condition.{Condition}
use Rattle.tl_algebra.specs.declared.edit.Edit.TheVariants.{Insert, Update, Delete}
use Rattle.tl_algebra.specs.declared.fault.ValueFault.{ValueFault}
use Rattle.tl_algebra.specs.declared.query.Query.{Query}
use Rattle.tl_algebra.specs.Order.{ArePermuted}
use Rattle.tl_algebra.specs.Select as select
use Rattle.tl_algebra.specs.Select.{Tells, before, each, lines_of, product, selected}
use Rattle.tl_algebra.specs.Value.{Fails}
use Rattle.tl_algebra.proofs.Reorders.{no_order}
use Rattle.tl_isolation.specs.declared.bound.Bound.{Bound}
use Rattle.tl_isolation.specs.declared.bound.Bound.TheVariants as bound
use Rattle.tl_algebra.specs.Truth.{lets_through}
use Rattle.tl_isolation.specs.Tables.{FitsTable}
use Rattle.tl_write.proofs.Parts.{part_suffices}
use Rattle.tl_plan.specs.Access.{ColumnTest, access_by, access_of, accesses_of, covers, equal_to, first_tests, is_equality, range_by, tests_of}
use Rattle.tl_plan.specs.Law.{AreGiven, AreRead, ChangePartSuffices, ComparesValues, FinishesWhole, HasKey, PassingIsCovered, SelectPartSuffices, Suffice, is_covered}
use Rattle.tl_plan.specs.Plan.{Finishes, tables_of}
use Rattle.tl_plan.proofs.Bounds.{within}
use Rattle.tl_plan.proofs.Tests.{Meets, tests_met}
use Rattle.tl_isolation.proofs.Computed.{value_placed}

-- ---- a row that WHERE lets through lies within its access

-- a value that meets a test for equality is the literal
is_literal : (v : Value) (c : Comparison) (w : Value) → is_equality c ≡ true → passes c (value_cmp v w) ≡ true → v ≡ w
is_literal v by.Equal w e p = value_exact v w (tie (value_cmp v w) p)
  where
    tie : (o : Ordering) → is_eq o ≡ true → o ≡ Equal
    tie Less h = absurd cc
    tie Equal h = refl
    tie Greater h = absurd cc
is_literal v by.NotEqual w e p = absurd cc
is_literal v by.Less w e p = absurd cc
is_literal v by.LessEqual w e p = absurd cc
is_literal v by.Greater w e p = absurd cc
is_literal v by.GreaterEqual w e p = absurd cc

equal_is : (v : Value) (tests : List ColumnTest) (w : Value) → AllByRecursion (Meets v) tests → equal_to tests ≡ Some w → v ≡ w
equal_is v [] w m e = absurd cc
equal_is v (t ∷ tests) w m e = one (is_equality t.by) refl e (equal_is v tests w m.1)
  where
    one : (b : Bool) → is_equality t.by ≡ b → (if b then Some t.value else equal_to tests) ≡ Some w → (equal_to tests ≡ Some w → v ≡ w) → v ≡ w
    one true equality e rest = let same : t.value ≡ w = cc in is_literal v t.by t.value equality m.0.compares ∙ same
    one false equality e rest = rest e

-- the first and the others of what was given of each
before_is : {A : Type 0} (o : Option A) (p : Option (List A)) (ys : List A) → before o p ≡ Some ys → (x : A) × (xs : List A) × (o ≡ Some x) × (p ≡ Some xs) × (ys ≡ x ∷ xs)
before_is None p ys e = absurd cc
before_is (Some x) None ys e = absurd cc
before_is (Some x) (Some xs) ys e = (x, xs, refl, refl, cc)

module _ (where_ : Option Condition) (front row back : List Value) (through : lets_through where_ (front ++ row ++ back) ≡ true) where
  abbrev joined : List Value
  joined = front ++ row ++ back

  abbrev at_column : ℕ → List ColumnTest
  at_column column = tests_of (length front + column) where_

  -- the column of the row, in the joined row
  its_value : (column : ℕ) → column < length row → value_at joined (length front + column) ≡ value_at row column
  its_value column h =
      let longer : length (front ++ row) ≡ length front + length row = length-append front row in
      get_or_append_left (front ++ row) back value.Null (length front + column) (omega arith) ∙ get_or-append-add front row column value.Null

  column_meets : (column : ℕ) → column < length row → AllByRecursion (Meets (value_at row column)) (at_column column)
  column_meets column h = subst (λ v. AllByRecursion (Meets v) (at_column column)) (its_value column h) (tests_met where_ joined (length front + column) through)

  -- where each of these columns is tested for equality, the row has these values there
  each_equal : (columns : List ℕ) (values : List Value) → AllByRecursion (λ column. column < length row) columns → each (λ column. equal_to (at_column column)) columns ≡ Some values →
      map (value_at row) columns ≡ values
  each_equal [] values h e = cc
  each_equal (column ∷ columns) values h e =
      let parts = before_is (equal_to (at_column column)) (each (λ column. equal_to (at_column column)) columns) values e in
      let one : value_at row column ≡ parts.0 = equal_is (value_at row column) (at_column column) parts.0 (column_meets column h.0) parts.2 in
      let others : map (value_at row) columns ≡ parts.1 = each_equal columns parts.1 h.1 parts.3 in
      ap (λ x. x ∷ map (value_at row) columns) one ∙ ap (λ xs. parts.0 ∷ xs) others ∙ sym parts.4

within_range : (v : Value) (xs row : List Value) (tests : List ColumnTest) → IsValue v → AllByRecursion (λ (t : ColumnTest). IsValue t.value) tests → AllByRecursion (Meets v) tests →
    covers (range_by tests) (key_bytes (v ∷ xs)) row ≡ true
within_range v xs row [] f g m = refl
within_range v xs row (t ∷ tests) f g m = within v xs row t tests f g m

module _ (where_ : Option Condition) (front row back : List Value) (through : lets_through where_ (front ++ row ++ back) ≡ true) (compares : ComparesValues where_) (fits : AreValues row) where
  by_range : (columns : List ℕ) → AllByRecursion (λ column. column < length row) columns → covers (range_by (first_tests (length front) columns where_)) (key_bytes (map (value_at row) columns)) row ≡ true
  by_range [] h = refl
  by_range (column ∷ columns) h =
      within_range (value_at row column) (map (value_at row) columns) row (tests_of (length front + column) where_)
      (value_placed row column fits) (compares (length front + column)) (column_meets where_ front row back through column h.0)

  by_access : (columns : List ℕ) (o : Option (List Value)) → AllByRecursion (λ column. column < length row) columns →
      each (λ column. equal_to (tests_of (length front + column) where_)) columns ≡ o →
      covers (access_by o (first_tests (length front) columns where_)) (key_bytes (map (value_at row) columns)) row ≡ true
  by_access columns (Some values) h e =
      subst (λ vs. is_eq (slice_cmp nat_cmp (key_bytes values) (key_bytes vs)) ≡ true) (sym (each_equal where_ front row back through columns values h e))
      (ap is_eq (tied_itself nat_list_cmp_total (key_bytes values)))
  by_access columns None h e = by_range columns h

pub passing : PassingIsCovered
passing table where_ front row back keyed compares fits through =
    by_access where_ front row back through compares fits.values table.key _
    (subst (λ width. AllByRecursion (λ column. column < width) table.key) (sym fits.width) keyed) refl

-- ---- a SELECT selects of the rows that are read what it selects of all

filter_map_swap : {A B : Type 0} (p : B → Bool) (f : A → B) (xs : List A) → filter p (map f xs) ≡ map f (filter (λ x. p (f x)) xs)
filter_map_swap p f [] = refl
filter_map_swap {A} {B} p f (x ∷ xs) = one (p (f x)) (filter_map_swap p f xs)
  where
    one : (b : Bool) → filter p (map f xs) ≡ map f (filter (λ y. p (f y)) xs) → cond b (f x ∷ filter p (map f xs)) (filter p (map f xs)) ≡ map f (cond b (x ∷ filter (λ y. p (f y)) xs) (filter (λ y. p (f y)) xs))
    one true e = ap (λ ys. f x ∷ ys) e
    one false e = e

filter_none : {A : Type 0} (p : A → Bool) → ((x : A) → p x ≡ false) → (xs : List A) → filter p xs ≡ []
filter_none p h [] = refl
filter_none p h (x ∷ xs) = ap (λ b. cond b (x ∷ filter p xs) (filter p xs)) (h x) ∙ filter_none p h xs

-- the rows of a product whose first part is this row
abbrev behind : List Value → List (List Value) → List (List Value)
behind row backs = map (λ back. row ++ back) backs

module _ (p : List Value → Bool) (where_ : Option Condition) (lets : (row : List Value) → p row ≡ true → lets_through where_ row ≡ true) (compares : ComparesValues where_) where
  abbrev from : List Value → List Value → Bool
  from front back = p (front ++ back)

  regrouped : (front row : List Value) (backs : List (List Value)) → filter (from front) (behind row backs) ≡ behind row (filter (from (front ++ row)) backs)
  regrouped front row backs =
      filter_map_swap (from front) (λ back. row ++ back) backs
      ∙ ap (λ (q : List Value → Bool). behind row (filter q backs)) (λ i back. p (sym (append_assoc front row back) i))

  -- a row outside of its table's access stands in no row of the product that passes
  none_behind : (table : Table) (front row : List Value) (backs : List (List Value)) → HasKey table → FitsTable table row → (is_covered table (access_of table (length front) where_) row ≡ true → ⊥) →
      filter (from front) (behind row backs) ≡ []
  none_behind table front row backs keyed fits out =
      regrouped front row backs
      ∙ ap (behind row) (filter_none (from (front ++ row)) (λ back. false_from_ne_true (from (front ++ row) back) (λ e. out (passing table where_ front row back keyed compares fits (lets (front ++ row ++ back) e)))) backs)

  -- the rows of the product of the tables from here on, where those of the later tables are the same behind each row of this one
  rows_same : (table : Table) (front : List Value) (keeps : List Value → Bool) (reads wholes rows : List (List Value)) → HasKey table → AllByRecursion (FitsTable table) rows →
      AllByRecursion (λ row. is_covered table (access_of table (length front) where_) row ≡ true → keeps row ≡ true) rows →
      ((row : List Value) → FitsTable table row → filter (from (front ++ row)) reads ≡ filter (from (front ++ row)) wholes) →
      filter (from front) (flat_map (λ row. behind row reads) (filter keeps rows)) ≡ filter (from front) (flat_map (λ row. behind row wholes) rows)
  rows_same table front keeps reads wholes [] keyed fits all same = refl
  rows_same table front keeps reads wholes (row ∷ rows) keyed fits all same =
      one (keeps row) refl (rows_same table front keeps reads wholes rows keyed fits.1 all.1 same)
      ∙ sym (filter-append (from front) (behind row wholes) (flat_map (λ row. behind row wholes) rows))
    where
      one : (b : Bool) → keeps row ≡ b → filter (from front) (flat_map (λ row. behind row reads) (filter keeps rows)) ≡ filter (from front) (flat_map (λ row. behind row wholes) rows) →
          filter (from front) (flat_map (λ row. behind row reads) (cond b (row ∷ filter keeps rows) (filter keeps rows)))
          ≡ filter (from front) (behind row wholes) ++ filter (from front) (flat_map (λ row. behind row wholes) rows)
      one true e rest =
          filter-append (from front) (behind row reads) (flat_map (λ row. behind row reads) (filter keeps rows))
          ∙ ap (λ later. filter (from front) (behind row reads) ++ later) rest
          ∙ ap (λ here. here ++ filter (from front) (flat_map (λ row. behind row wholes) rows))
          (regrouped front row reads ∙ ap (behind row) (same row fits.0) ∙ sym (regrouped front row wholes))
      one false e rest =
          rest ∙ ap (λ here. here ++ filter (from front) (flat_map (λ row. behind row wholes) rows))
          (sym (none_behind table front row wholes keyed fits.0 (λ covered. let kept : keeps row ≡ true = all.0 covered in cc)))

  product_same : (tables : List Table) (front : List Value) (wholes reads : List (List (List Value))) → AreRead tables (accesses_of tables (length front) where_) wholes reads →
      filter (from front) (product reads) ≡ filter (from front) (product wholes)
  product_same [] front [] [] h = refl
  product_same [] front [] (read ∷ reads) h = absurd h
  product_same [] front (whole ∷ wholes) reads h = absurd h
  product_same (table ∷ tables) front [] reads h = absurd h
  product_same (table ∷ tables) front (whole ∷ wholes) [] h = absurd h
  product_same (table ∷ tables) front (whole ∷ wholes) (read ∷ reads) h =
      ap (λ rows. filter (from front) (flat_map (λ row. behind row (product reads)) rows)) h.0.some
      ∙ rows_same table front h.0.keeps (product reads) (product wholes) whole h.0.has_key h.0.fits h.0.all
      (λ row fits.
      let longer : length front + length table.columns ≡ length (front ++ row) = ap (λ width. length front + width) (sym fits.width) ∙ sym (length-append front row) in
      product_same tables (front ++ row) wholes reads (subst (λ offset. AreRead tables (accesses_of tables offset where_) wholes reads) longer h.1))

pub select_part : SelectPartSuffices
select_part query tables wholes reads compares h =
    product_same (select.passes query) query.filter (λ row e. and_second _ _ e) compares tables [] wholes reads h

-- ---- a change does on the rows that are read what it does on all

has_matching : (where_ : Option Condition) (table : Table) (row : List Value) → HasKey table → ComparesValues where_ → FitsTable table row → lets_through where_ row ≡ true →
    is_covered table (access_of table 0 where_) row ≡ true
has_matching where_ table row keyed compares fits through = passing table where_ [] row [] keyed compares fits (ap (lets_through where_) (append-nil row) ∙ through)

pub change_part : ChangePartSuffices
change_part (Insert number rows) table part whole own keyed fits sub h = part_suffices (Insert number rows) table part whole own sub h
change_part (Update number sets where_) table part whole own keyed fits sub h =
    part_suffices (Update number sets where_) table part whole own sub
    (λ key row m. h.1 key row m.has m.in_table (has_matching where_ table row keyed h.0 (fits key row m.has m.in_table) m.passes))
change_part (Delete number where_) table part whole own keyed fits sub h =
    part_suffices (Delete number where_) table part whole own sub
    (λ key row m. h.1 key row m.has m.in_table (has_matching where_ table row keyed h.0 (fits key row m.has m.in_table) m.passes))

-- ---- the rows that are read, in any order

-- the same rows in the order of their tables
pub record InOrder (tables : List Table) (accesses : List Access) (wholes givens : List (List (List Value))) : Type 0 where
  pub reads : List (List (List Value))
  pub are_read : AreRead tables accesses wholes reads
  pub permuted : ArePermuted reads givens

in_order : (tables : List Table) (accesses : List Access) (wholes givens : List (List (List Value))) → AreGiven tables accesses wholes givens → InOrder tables accesses wholes givens
in_order [] [] [] [] h = record { reads = []; are_read = tt; permuted = tt }
in_order [] [] [] (given ∷ givens) h = absurd h
in_order [] [] (whole ∷ wholes) givens h = absurd h
in_order [] (access ∷ accesses) wholes givens h = absurd h
in_order (table ∷ tables) [] wholes givens h = absurd h
in_order (table ∷ tables) (access ∷ accesses) [] givens h = absurd h
in_order (table ∷ tables) (access ∷ accesses) (whole ∷ wholes) [] h = absurd h
in_order (table ∷ tables) (access ∷ accesses) (whole ∷ wholes) (given ∷ givens) h =
    let rest : InOrder tables accesses wholes givens = in_order tables accesses wholes givens h.1 in
    record { reads = h.0.read ∷ rest.reads; are_read = (h.0.is_read, rest.are_read); permuted = (h.0.any_order, rest.permuted) }

tells_same : (query : Query) (tables others : List (List (List Value))) (result : Result (List (List Value)) ValueFault) → selected query tables ≡ selected query others
    → Tells query tables result → Tells query others result
tells_same query tables others (Ok answer) e t = (t.0, ap (lines_of query) (sym e) ∙ t.1, t.2)
tells_same query tables others (Err fault) e t = subst (λ (rows : List (List Value)). Fails fault (lines_of query rows)) e t

whole_select : (query : Query) (accesses : List Access) (givens : List (List (List Value))) (result : Result (List (List Value)) ValueFault) → Tells query givens result
    → (catalog : Catalog) (wholes : List (List (List Value))) → Suffice catalog query accesses wholes givens → Tells query wholes result
whole_select query accesses givens result t catalog wholes s =
    let o : InOrder (tables_of catalog query) accesses wholes givens = in_order (tables_of catalog query) accesses wholes givens s.given in
    tells_same query o.reads wholes result
    (select_part query (tables_of catalog query) wholes o.reads s.compares
    (subst (λ (found : List Access). AreRead (tables_of catalog query) found wholes o.reads) s.planned o.are_read))
    (no_order query o.reads givens result s.groups o.permuted t)

pub finishes_whole : (statement : Bound) (accesses : List Access) (givens : List (List (List Value))) (result : Result (List (List Value)) ValueFault)
    → Finishes statement givens result → FinishesWhole statement accesses givens result
finishes_whole (bound.Select query) accesses givens result t = whole_select query accesses givens result t
finishes_whole (bound.Change edit) accesses givens result t = tt
finishes_whole bound.Begin accesses givens result t = tt
finishes_whole bound.Commit accesses givens result t = tt
finishes_whole bound.Rollback accesses givens result t = tt
finishes_whole (bound.Recover node) accesses givens result t = tt
