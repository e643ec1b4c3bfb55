-- The lines of rows in another order.
use Rattle.std.proofs.Common.{◌≡◌, ◌⊎◌, inl, inr, ℕ, suc, Bool, true, false, not, cond, ℤ, pos, ◌+ℤ◌, List, [], ◌∷◌, Option, Some, None, Result, Ok, Err, Ordering, Less, Equal, Greater, length, map, filter, fold, refl, sym, ap, subst, ◌∙◌, arith}
use Rattle.std.proofs.lemmas.Int.{ints}
use Rattle.std.proofs.lemmas.List.Sorted.{IsPermutation-cons, IsPermutation-map, IsPermutation-refl, IsPermutation-sym, IsPermutation-trans, length_permutation}
use Rattle.std.proofs.lemmas.Option.{same_Some}
use Rattle.std.specs.List.{AllByRecursion, list_any}
use Rattle.std.specs.List.Sorted.{IsPermutation}
use Rattle.std.specs.Ordering.{is_eq, is_ge, is_le, ordering_reverse}
use Rattle.tl_values.specs.declared.value.Value.{Value}
use Rattle.tl_values.specs.declared.value.Value.TheVariants as value
use Rattle.tl_values.specs.Value.{is_null, row_cmp, value_at, value_cmp, values_at}
use Rattle.tl_values.proofs.ValueOrder.{row_exact, row_total, value_exact, value_total}
use Rattle.tl_algebra.specs.declared.fault.ValueFault.{ValueFault}
use Rattle.tl_algebra.specs.declared.fault.ValueFault.TheVariants as fault
use Rattle.tl_algebra.specs.declared.line.Line.{Line}
use Rattle.tl_algebra.specs.declared.query.Output.{Output}
use Rattle.tl_algebra.specs.declared.query.Output.TheVariants as output
use Rattle.tl_algebra.specs.declared.query.Query.{Query}
use Rattle.tl_algebra.specs.declared.query.Sort.{Sort}
use Rattle.tl_algebra.specs.declared.query.SortBy.{SortBy}
use Rattle.tl_algebra.specs.declared.query.SortBy.TheVariants as by
use Rattle.tl_algebra.specs.Aggregate.{chosen, known_at, number_of, numbers, sum_of, total}
use Rattle.tl_algebra.specs.Group.{distinct, grouped, groups_by, is_aggregate, same_row}
use Rattle.tl_algebra.specs.Order.{ItemRestsOn, SelectKnowsNoOrder, SortRestsOn, SuitsGroups, makes_groups}
use Rattle.tl_algebra.specs.Select.{Prints, Tells, before, each, first_of, item, line_of, lines_of, passes, product, selected, with_keys}
use Rattle.tl_algebra.specs.Sorting.{key_of}
use Rattle.tl_algebra.specs.Value.{Fails, checked}
use Rattle.tl_algebra.proofs.Shuffles.{IsKept, IsReordered, chosen_shuffled, each_map, each_same, each_shuffled, filtered, flipped, products, reordered}

-- ---- SUM

total_kept : IsKept (λ xs ys. total xs ≡ total ys)
total_kept = record {
  one = λ xs. refl;
  under = λ x xs ys e. ap (λ n. x +ℤ n) e;
  turn = λ x y xs. turn x y (total xs);
  chain = λ xs ys zs e f. e ∙ f;
}
  where
    turn : (a b c : ℤ) → a +ℤ (b +ℤ c) ≡ b +ℤ (a +ℤ c)
    turn a b c = omega (arith, ints)

sums : (xs ys : List ℤ) → IsPermutation xs ys → sum_of xs ≡ sum_of ys
sums [] [] s = refl
sums [] (y ∷ ys) s = let e = length_permutation [] (y ∷ ys) s in absurd (omega (arith, e))
sums (x ∷ xs) [] s = let e = length_permutation (x ∷ xs) [] s in absurd (omega (arith, e))
sums (x ∷ xs) (y ∷ ys) s = ap checked (reordered (λ us vs. total us ≡ total vs) total_kept (x ∷ xs) (y ∷ ys) s)

-- ---- MIN and MAX: a choice by an order in which none but equals tie

pub record IsChoice {A : Type 0} (le : A → A → Bool) : Type 0 where
  pub other : (a b : A) → le a b ≡ false → le b a ≡ true
  pub onward : (a b c : A) → le a b ≡ true → le b c ≡ true → le a c ≡ true
  pub exact : (a b : A) → le a b ≡ true → le b a ≡ true → a ≡ b

module _ {A : Type 0} (le : A → A → Bool) (o : IsChoice le) where
  abbrev choose : A → A → A
  choose a b = cond (le a b) a b

  either_way : (a b : A) → choose a b ≡ choose b a
  either_way a b = one (le a b) (le b a) refl refl
    where
      one : (s t : Bool) → le a b ≡ s → le b a ≡ t → cond s a b ≡ cond t b a
      one true true p q = o.exact a b p q
      one true false p q = refl
      one false true p q = refl
      one false false p q = let r = o.other a b p in cc

  grouped_either : (a b c : A) → choose (choose a b) c ≡ choose a (choose b c)
  grouped_either a b c = one (le a b) (le b c) (le a c) refl refl refl
    where
      one : (s t u : Bool) → le a b ≡ s → le b c ≡ t → le a c ≡ u → choose (cond s a b) c ≡ choose a (cond t b c)
      one true true u p q r = ap (λ x. cond x a c) (o.onward a b c p q) ∙ ap (λ x. cond x a b) (sym p)
      one true false u p q r = refl
      one false true u p q r = ap (λ x. cond x b c) q ∙ ap (λ x. cond x a b) (sym p)
      one false false true p q r =
          let e : a ≡ c = o.exact a c r (o.onward c b a (o.other b c q) (o.other a b p)) in
          ap (λ x. cond x b c) q ∙ sym e ∙ ap (λ x. cond x a c) (sym r)
      one false false false p q r = ap (λ x. cond x b c) q ∙ ap (λ x. cond x a c) (sym r)

  first_out : (x y : A) (ys : List A) → fold choose (choose x y) ys ≡ choose x (fold choose y ys)
  first_out x y [] = refl
  first_out x y (z ∷ zs) = ap (λ (a : A). fold choose a zs) (grouped_either x y z) ∙ first_out x (choose y z) zs

abbrev SameChoice : (Value → Value → Bool) → List Value → List Value → Type 0
SameChoice le xs ys = (length xs ≡ length ys) × (chosen (λ a b. cond (le a b) a b) xs ≡ chosen (λ a b. cond (le a b) a b) ys)

module _ (le : Value → Value → Bool) (o : IsChoice le) where
  abbrev pick : Value → Value → Value
  pick a b = cond (le a b) a b

  choice_under : (x : Value) (xs ys : List Value) → SameChoice le xs ys → SameChoice le (x ∷ xs) (x ∷ ys)
  choice_under x [] [] s = (refl, refl)
  choice_under x [] (y ∷ ys) s = absurd (omega (arith, s.0))
  choice_under x (y ∷ xs) [] s = absurd (omega (arith, s.0))
  choice_under x (y ∷ xs) (z ∷ ys) s = (ap suc s.0, first_out le o x y xs ∙ ap (pick x) s.1 ∙ sym (first_out le o x z ys))

  choice_kept : IsKept (SameChoice le)
  choice_kept = record {
    one = λ xs. (refl, refl);
    under = choice_under;
    turn = λ x y xs. (refl, ap (λ (a : Value). fold pick a xs) (either_way le o x y));
    chain = λ xs ys zs s t. (s.0 ∙ t.0, s.1 ∙ t.1);
  }

  pub choices : (xs ys : List Value) → IsPermutation xs ys → chosen pick xs ≡ chosen pick ys
  choices xs ys s = (reordered (SameChoice le) choice_kept xs ys s).1

no_less : (o p : Ordering) → p ≡ ordering_reverse o → is_le o ≡ false → is_le p ≡ true
no_less Less p e h = absurd cc
no_less Equal p e h = absurd cc
no_less Greater p e h = ap is_le e

both_le : (a b : Value) (o : Ordering) → value_cmp a b ≡ o → is_le o ≡ true → is_le (value_cmp b a) ≡ true → a ≡ b
both_le a b Less e h g = let turned : is_le (value_cmp b a) ≡ false = ap is_le (value_total.antisymm b a ∙ ap ordering_reverse e) in absurd cc
both_le a b Equal e h g = value_exact a b e
both_le a b Greater e h g = absurd cc

le_onward : (a b c : Value) (o p : Ordering) → value_cmp a b ≡ o → value_cmp b c ≡ p → is_le o ≡ true → is_le p ≡ true → is_le (value_cmp a c) ≡ true
le_onward a b c Less Less e f g h = ap is_le (value_total.trans a b c e f)
le_onward a b c Less Equal e f g h = ap (λ x. is_le (value_cmp a x)) (sym (value_exact b c f)) ∙ ap is_le e
le_onward a b c Less Greater e f g h = absurd cc
le_onward a b c Equal p e f g h = ap (λ x. is_le (value_cmp x c)) (value_exact a b e) ∙ ap is_le f ∙ h
le_onward a b c Greater p e f g h = absurd cc

by_least : IsChoice (λ a b. is_le (value_cmp a b))
by_least = record {
  other = λ a b h. no_less (value_cmp a b) (value_cmp b a) (value_total.antisymm b a) h;
  onward = λ a b c g h. le_onward a b c (value_cmp a b) (value_cmp b c) refl refl g h;
  exact = λ a b g h. both_le a b (value_cmp a b) refl g h;
}

at_least : (a b : Value) → is_ge (value_cmp a b) ≡ is_le (value_cmp b a)
at_least a b = turned (value_cmp a b) ∙ ap is_le (sym (value_total.antisymm b a))
  where
    turned : (o : Ordering) → is_ge o ≡ is_le (ordering_reverse o)
    turned Less = refl
    turned Equal = refl
    turned Greater = refl

by_greatest : IsChoice (λ a b. is_ge (value_cmp a b))
by_greatest = record {
  other = λ a b h. at_least b a ∙ by_least.other b a (sym (at_least a b) ∙ h);
  onward = λ a b c g h. at_least a c ∙ by_least.onward c b a (sym (at_least b c) ∙ h) (sym (at_least a b) ∙ g);
  exact = λ a b g h. by_least.exact a b (sym (at_least b a) ∙ h) (sym (at_least a b) ∙ g);
}

-- ---- the line of a group

module _ (places : List ℕ) (rs ts : List (List Value)) (s : IsPermutation rs ts) (firsts : values_at places (first_of rs) ≡ values_at places (first_of ts)) where
  known_shuffled : (at : ℕ) → IsPermutation (known_at at rs) (known_at at ts)
  known_shuffled at = filtered (λ v. not (is_null v)) (map (λ row. value_at row at) rs) (map (λ row. value_at row at) ts) (IsPermutation-map (λ row. value_at row at) rs ts s)

  item_same : (o : Output) → ItemRestsOn places o → item rs o ≡ item ts o
  item_same (output.Expression e) h = h (first_of rs) (first_of ts) firsts
  item_same output.CountRows h = ap (λ n. Some (value.Int (pos n))) (sym (length_permutation rs ts s))
  item_same (output.Count at) h = ap (λ n. Some (value.Int (pos n))) (sym (length_permutation (known_at at rs) (known_at at ts) (known_shuffled at)))
  item_same (output.Sum at) h = sums (numbers (known_at at rs)) (numbers (known_at at ts)) (chosen_shuffled number_of (known_at at rs) (known_at at ts) (known_shuffled at))
  item_same (output.Least at) h = ap Some (choices (λ a b. is_le (value_cmp a b)) by_least (known_at at rs) (known_at at ts) (known_shuffled at))
  item_same (output.Greatest at) h = ap Some (choices (λ a b. is_ge (value_cmp a b)) by_greatest (known_at at rs) (known_at at ts) (known_shuffled at))

  items_same : (outputs : List Output) → AllByRecursion (ItemRestsOn places) outputs → each (item rs) outputs ≡ each (item ts) outputs
  items_same [] h = refl
  items_same (o ∷ os) h = ap (λ x. before x (each (item rs) os)) (item_same o h.0) ∙ ap (before (item ts o)) (items_same os h.1)

  key_same : (printed : List Value) (k : SortBy) → SortRestsOn places k → key_of (first_of rs) printed k ≡ key_of (first_of ts) printed k
  key_same printed (by.Place at) h = h (first_of rs) (first_of ts) firsts
  key_same printed (by.Printed column) h = refl

  keys_same : (printed : List Value) (sorts : List Sort) → AllByRecursion (λ (sort : Sort). SortRestsOn places sort.by) sorts →
      map (λ (sort : Sort). key_of (first_of rs) printed sort.by) sorts ≡ map (λ (sort : Sort). key_of (first_of ts) printed sort.by) sorts
  keys_same printed [] h = refl
  keys_same printed (sort ∷ sorts) h =
      ap (λ (k : Value). k ∷ map (λ (sort : Sort). key_of (first_of rs) printed sort.by) sorts) (key_same printed sort.by h.0)
      ∙ ap (λ (ks : List Value). key_of (first_of ts) printed sort.by ∷ ks) (keys_same printed sorts h.1)

  with_keys_same : (o : Option (List Value)) (sorts : List Sort) → AllByRecursion (λ (sort : Sort). SortRestsOn places sort.by) sorts →
      with_keys sorts (first_of rs) o ≡ with_keys sorts (first_of ts) o
  with_keys_same None sorts h = refl
  with_keys_same (Some printed) sorts h = ap (λ (ks : List Value). Some (let line : Line = record { keys = ks; printed = printed } in line)) (keys_same printed sorts h)

  line_same : (q : Query) → AllByRecursion (ItemRestsOn places) q.outputs → AllByRecursion (λ (sort : Sort). SortRestsOn places sort.by) q.sort → line_of q rs ≡ line_of q ts
  line_same q g h = ap (with_keys q.sort (first_of rs)) (items_same q.outputs g) ∙ with_keys_same (each (item ts) q.outputs) q.sort h

-- ---- groups

-- a list of values stands once among the groups' values
filter_swap : {A : Type 0} (p r : A → Bool) (xs : List A) → filter p (filter r xs) ≡ filter r (filter p xs)
filter_swap p r [] = refl
filter_swap {A} p r (x ∷ xs) = one (p x) (r x) refl refl (filter_swap p r xs)
  where
    one : (a b : Bool) → p x ≡ a → r x ≡ b → filter p (filter r xs) ≡ filter r (filter p xs)
        → filter p (cond b (x ∷ filter r xs) (filter r xs)) ≡ filter r (cond a (x ∷ filter p xs) (filter p xs))
    one true true f g e = ap (λ t. cond t (x ∷ filter p (filter r xs)) (filter p (filter r xs))) f ∙ ap (λ l. x ∷ l) e ∙ sym (ap (λ t. cond t (x ∷ filter r (filter p xs)) (filter r (filter p xs))) g)
    one true false f g e = e ∙ sym (ap (λ t. cond t (x ∷ filter r (filter p xs)) (filter r (filter p xs))) g)
    one false true f g e = ap (λ t. cond t (x ∷ filter p (filter r xs)) (filter p (filter r xs))) f ∙ e
    one false false f g e = e

same_exact : (a b : List Value) → same_row a b ≡ true → a ≡ b
same_exact a b h = row_exact a b (tie (row_cmp a b) h)
  where
    tie : (o : Ordering) → is_eq o ≡ true → o ≡ Equal
    tie Less h = absurd cc
    tie Equal h = refl
    tie Greater h = absurd cc

same_back : (a b : List Value) → same_row a b ≡ same_row b a
same_back a b = ap is_eq (row_total.antisymm a b) ∙ turned (row_cmp b a)
  where
    turned : (o : Ordering) → is_eq (ordering_reverse o) ≡ is_eq o
    turned Less = refl
    turned Equal = refl
    turned Greater = refl

abbrev other_than : List Value → List Value → Bool
other_than a b = not (same_row a b)

abbrev left : List Value → List Value → List (List Value) → List (List Value)
left a b keys = filter (other_than a) (filter (other_than b) keys)

distinct_turn : (a b : List Value) (keys : List (List Value)) → IsPermutation (distinct same_row (a ∷ b ∷ keys)) (distinct same_row (b ∷ a ∷ keys))
distinct_turn a b keys = one (same_row a b) refl
  where
    others : List (List Value)
    others = distinct same_row keys

    one : (t : Bool) → same_row a b ≡ t → IsPermutation (distinct same_row (a ∷ b ∷ keys)) (distinct same_row (b ∷ a ∷ keys))
    one true e = subst (λ c. IsPermutation (distinct same_row (a ∷ b ∷ keys)) (distinct same_row (c ∷ a ∷ keys))) (same_exact a b e)
        (subst (λ c. IsPermutation (distinct same_row (a ∷ c ∷ keys)) (distinct same_row (a ∷ a ∷ keys))) (same_exact a b e) (IsPermutation-refl (distinct same_row (a ∷ a ∷ keys))))
    one false e =
        subst (λ t. IsPermutation (a ∷ cond (not t) (b ∷ left a b (distinct same_row keys)) (left a b (distinct same_row keys))) (distinct same_row (b ∷ a ∷ keys))) (sym e)
        (subst (λ t. IsPermutation (a ∷ b ∷ left a b (distinct same_row keys)) (b ∷ cond (not t) (a ∷ left b a (distinct same_row keys)) (left b a (distinct same_row keys)))) (sym (sym (same_back a b) ∙ e))
        (subst (λ l. IsPermutation (a ∷ b ∷ left a b (distinct same_row keys)) (b ∷ a ∷ l)) (filter_swap (other_than a) (other_than b) (distinct same_row keys))
        (flipped a b (left a b (distinct same_row keys)))))

distinct_kept : IsKept (λ xs ys. IsPermutation (distinct same_row xs) (distinct same_row ys))
distinct_kept = record {
  one = λ xs. IsPermutation-refl (distinct same_row xs);
  under = λ x xs ys s. IsPermutation-cons x _ _ (filtered (other_than x) (distinct same_row xs) (distinct same_row ys) s);
  turn = distinct_turn;
  chain = λ xs ys zs s t. IsPermutation-trans (distinct same_row xs) (distinct same_row ys) (distinct same_row zs) s t;
}

abbrev with_values : List ℕ → List Value → List (List Value) → List (List Value)
with_values places values rows = filter (λ row. same_row values (values_at places row)) rows

first_has : (places : List ℕ) (values : List Value) (rows : List (List Value)) → (with_values places values rows ≡ []) ⊎ (values_at places (first_of (with_values places values rows)) ≡ values)
first_has places values [] = inl refl
first_has places values (row ∷ rows) = one (same_row values (values_at places row)) refl (first_has places values rows)
  where
    one : (t : Bool) → same_row values (values_at places row) ≡ t → (with_values places values rows ≡ []) ⊎ (values_at places (first_of (with_values places values rows)) ≡ values)
        → (cond t (row ∷ with_values places values rows) (with_values places values rows) ≡ []) ⊎ (values_at places (first_of (cond t (row ∷ with_values places values rows) (with_values places values rows))) ≡ values)
    one true e rest = inr (sym (same_exact values (values_at places row) e))
    one false e rest = rest

no_more : {A : Type 0} (xs ys : List A) → IsPermutation xs ys → xs ≡ [] → ys ≡ []
no_more [] [] s e = refl
no_more [] (y ∷ ys) s e = let l = length_permutation [] (y ∷ ys) s in absurd (omega (arith, l))
no_more (x ∷ xs) ys s e = absurd cc

firsts_same : (places : List ℕ) (values : List Value) (rs ts : List (List Value)) → IsPermutation rs ts → (rs ≡ []) ⊎ (values_at places (first_of rs) ≡ values)
    → (ts ≡ []) ⊎ (values_at places (first_of ts) ≡ values) → values_at places (first_of rs) ≡ values_at places (first_of ts)
firsts_same places values rs ts s (inl e) h = ap (λ (l : List (List Value)). values_at places (first_of l)) (e ∙ sym (no_more rs ts s e))
firsts_same places values rs ts s (inr e) (inl f) = ap (λ (l : List (List Value)). values_at places (first_of l)) (no_more ts rs (IsPermutation-sym rs ts s) f ∙ sym f)
firsts_same places values rs ts s (inr e) (inr f) = e ∙ sym f

module _ (q : Query) (rs ts : List (List Value)) (s : IsPermutation rs ts) where
  grouped_lines : (places : List ℕ) → AllByRecursion (ItemRestsOn places) q.outputs → AllByRecursion (λ (sort : Sort). SortRestsOn places sort.by) q.sort →
      IsReordered (each (line_of q) (grouped places rs)) (each (line_of q) (grouped places ts))
  unfolding grouped
  grouped_lines places g h =
      let keys : IsPermutation (distinct same_row (map (values_at places) rs)) (distinct same_row (map (values_at places) ts)) =
      reordered (λ xs ys. IsPermutation (distinct same_row xs) (distinct same_row ys)) distinct_kept (map (values_at places) rs) (map (values_at places) ts) (IsPermutation-map (values_at places) rs ts s) in
      let lines : each (line_of q) (map (λ values. with_values places values rs) (distinct same_row (map (values_at places) rs))) ≡ each (λ values. line_of q (with_values places values ts)) (distinct same_row (map (values_at places) rs)) =
      each_map (line_of q) (λ values. with_values places values rs) (distinct same_row (map (values_at places) rs))
      ∙ each_same (λ values. line_of q (with_values places values rs)) (λ values. line_of q (with_values places values ts))
      (λ values.
      let t : IsPermutation (with_values places values rs) (with_values places values ts) = filtered (λ row. same_row values (values_at places row)) rs ts s in
      line_same places (with_values places values rs) (with_values places values ts) t
      (firsts_same places values (with_values places values rs) (with_values places values ts) t (first_has places values rs) (first_has places values ts)) q g h)
      (distinct same_row (map (values_at places) rs)) in
      subst (λ o. IsReordered o (each (line_of q) (map (λ values. with_values places values ts) (distinct same_row (map (values_at places) ts))))) (sym lines)
      (subst (λ o. IsReordered (each (λ values. line_of q (with_values places values ts)) (distinct same_row (map (values_at places) rs))) o)
      (sym (each_map (line_of q) (λ values. with_values places values ts) (distinct same_row (map (values_at places) ts))))
      (each_shuffled (λ values. line_of q (with_values places values ts)) (distinct same_row (map (values_at places) rs)) (distinct same_row (map (values_at places) ts)) keys))

  one_group : (x y : Option Line) → x ≡ y → IsReordered (before x (Some [])) (before y (Some []))
  one_group x y e = subst (λ (o : Option Line). IsReordered (before x (Some [])) (before o (Some []))) e (alone x)
    where
      alone : (o : Option Line) → IsReordered (before o (Some [])) (before o (Some []))
      alone None = tt
      alone (Some line) = IsPermutation-refl (line ∷ [])

  lines_by : (places : List ℕ) (aggregates : Bool) → (makes_groups places aggregates ≡ true → AllByRecursion (ItemRestsOn places) q.outputs × AllByRecursion (λ (sort : Sort). SortRestsOn places sort.by) q.sort) →
      IsReordered (each (line_of q) (groups_by places aggregates rs)) (each (line_of q) (groups_by places aggregates ts))
  lines_by [] true h = let rests = h refl in one_group (line_of q rs) (line_of q ts) (line_same [] rs ts s refl q rests.0 rests.1)
  lines_by [] false h = each_shuffled (line_of q) (map (λ row. row ∷ []) rs) (map (λ row. row ∷ []) ts) (IsPermutation-map (λ row. row ∷ []) rs ts s)
  lines_by (place ∷ places) aggregates h = let rests = h refl in grouped_lines (place ∷ places) rests.0 rests.1

  lines_reordered : SuitsGroups q → IsReordered (lines_of q rs) (lines_of q ts)
  unfolding lines_of
  lines_reordered h = lines_by q.group (list_any is_aggregate q.outputs) h

-- ---- what the query tells

prints : (q : Query) (all others : List Line) (answer : List (List Value)) → IsPermutation all others → Prints q others answer → Prints q all answer
prints q all others answer s p = record {
  ranked = p.ranked;
  permutation = IsPermutation-trans all others p.ranked s p.permutation;
  sorted = p.sorted;
  shown = p.shown;
}

-- what is told of lines that were found or not
abbrev TellsBy : Query → Option (List Line) → Result (List (List Value)) ValueFault → Type 0
TellsBy q found (Ok answer) = (all : List Line) × (found ≡ Some all) × Prints q all answer
TellsBy q found (Err e) = Fails e found

tells_by : (q : Query) (found other : Option (List Line)) (result : Result (List (List Value)) ValueFault) → IsReordered found other → TellsBy q other result → TellsBy q found result
tells_by q None None result s t = t
tells_by q None (Some others) result s t = absurd s
tells_by q (Some all) None result s t = absurd s
tells_by q (Some all) (Some others) (Ok answer) s t =
    (all, refl, prints q all others answer s (subst (λ (l : List Line). Prints q l answer) (sym (same_Some others t.0 t.1)) t.2))
tells_by q (Some all) (Some others) (Err fault.Overflow) s t = absurd cc
tells_by q (Some all) (Some others) (Err fault.NoMemory) s t = tt

tells_told : (q : Query) (tables : List (List (List Value))) (result : Result (List (List Value)) ValueFault) → Tells q tables result → TellsBy q (lines_of q (selected q tables)) result
tells_told q tables (Ok answer) t = t
tells_told q tables (Err e) t = t

told_tells : (q : Query) (tables : List (List (List Value))) (result : Result (List (List Value)) ValueFault) → TellsBy q (lines_of q (selected q tables)) result → Tells q tables result
told_tells q tables (Ok answer) t = t
told_tells q tables (Err e) t = t

pub no_order : SelectKnowsNoOrder
no_order q tables others result suits permuted t =
    told_tells q tables result
    (tells_by q (lines_of q (selected q tables)) (lines_of q (selected q others)) result
    (lines_reordered q (selected q tables) (selected q others) (filtered (passes q) (product tables) (product others) (products tables others permuted)) suits)
    (tells_told q others result t))
