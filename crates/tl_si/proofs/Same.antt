-- Answers that tell the same are the same.
use Rattle.std.proofs.Common.{◌≡◌, ℕ, Bool, true, Option, Some, List, [], ◌∷◌, refl, sym, ap, ◌∙◌, Ordering, Less, Equal, Greater}
use Rattle.std.specs.Cmp.{tied_itself}
use Rattle.std.specs.Cmp.Lexicographic.{slice_cmp}
use Rattle.std.specs.FinMap.{slice_cmp-IsAntisymmetric}
use Rattle.std.specs.Ordering.{is_eq, ordering_then}
use Rattle.std.proofs.lemmas.Bool.{eqb-true, eq-eqb}
use Rattle.tl_lemmas.proofs.Orders.{equal_is}
use Rattle.tl_values.specs.declared.value.Value.{Value}
use Rattle.tl_values.specs.Value.{row_cmp}
use Rattle.tl_values.proofs.ValueOrder.{row_exact, row_total}
use Rattle.tl_isolation.specs.declared.entry.Answer.{Answer}
use Rattle.tl_isolation.specs.declared.entry.Answer.TheVariants as answer
use Rattle.tl_si.specs.Answers.{is_begun, is_committed, is_duplicate, is_long, is_many, is_nested, is_null, is_outside, is_overflow, is_rolled_back, same_answer, same_rows, tells_count, tells_recovered, tells_rival, tells_rows, tells_there}

pub rows_same : (a b : List (List Value)) → same_rows a b ≡ true → a ≡ b
rows_same a b h = slice_cmp-IsAntisymmetric row_exact a b (equal_is (slice_cmp row_cmp a b) h)

same_row_itself : (o : Ordering) → o ≡ Equal → is_eq o ≡ true
same_row_itself o e = ap is_eq e

pub rows_itself : (a : List (List Value)) → same_rows a a ≡ true
rows_itself a = same_row_itself (slice_cmp row_cmp a a) (tied a)
  where
    tied : (a : List (List Value)) → slice_cmp row_cmp a a ≡ Equal
    tied [] = refl
    tied (x ∷ xs) = ap (λ (o : Ordering). ordering_then o (slice_cmp row_cmp xs xs)) (tied_itself row_total x) ∙ tied xs

pub rows_told : (b : Answer) (rows : List (List Value)) → tells_rows b rows ≡ true → answer.Rows rows ≡ b
rows_told (answer.Rows told) rows h = ap (λ (r : List (List Value)). answer.Rows r) (sym (rows_same told rows h))
rows_told b rows h = absurd cc

pub told_rows : (rows : List (List Value)) → tells_rows (answer.Rows rows) rows ≡ true
told_rows rows = rows_itself rows

pub count_told : (b : Answer) (n : ℕ) → tells_count b n ≡ true → answer.Changed n ≡ b
count_told (answer.Changed told) n h = ap (λ (m : ℕ). answer.Changed m) (sym (eqb-true told n h))
count_told b n h = absurd cc

rival_told : (b : Answer) (n : ℕ) → tells_rival b n ≡ true → answer.Conflict n ≡ b
rival_told (answer.Conflict told) n h = ap (λ (m : ℕ). answer.Conflict m) (sym (eqb-true told n h))
rival_told b n h = absurd cc

pub recovered_told : (b : Answer) (n : ℕ) → tells_recovered b n ≡ true → answer.Recovered n ≡ b
recovered_told (answer.Recovered told) n h = ap (λ (m : ℕ). answer.Recovered m) (sym (eqb-true told n h))
recovered_told b n h = absurd cc

pub there_told : (b : Answer) (n : ℕ) → tells_there b n ≡ true → answer.There n ≡ b
there_told (answer.There told) n h = ap (λ (m : ℕ). answer.There m) (sym (eqb-true told n h))
there_told b n h = absurd cc

pub begun_told : (b : Answer) → is_begun b ≡ true → answer.Begun ≡ b
begun_told answer.Begun h = refl
begun_told b h = absurd cc

pub duplicate_told : (b : Answer) → is_duplicate b ≡ true → answer.Duplicate ≡ b
duplicate_told answer.Duplicate h = refl
duplicate_told b h = absurd cc

pub null_told : (b : Answer) → is_null b ≡ true → answer.Null ≡ b
null_told answer.Null h = refl
null_told b h = absurd cc

pub overflow_told : (b : Answer) → is_overflow b ≡ true → answer.Overflow ≡ b
overflow_told answer.Overflow h = refl
overflow_told b h = absurd cc

pub long_told : (b : Answer) → is_long b ≡ true → answer.Long ≡ b
long_told answer.Long h = refl
long_told b h = absurd cc

pub many_told : (b : Answer) → is_many b ≡ true → answer.Many ≡ b
many_told answer.Many h = refl
many_told b h = absurd cc

pub nested_told : (b : Answer) → is_nested b ≡ true → answer.Nested ≡ b
nested_told answer.Nested h = refl
nested_told b h = absurd cc

pub outside_told : (b : Answer) → is_outside b ≡ true → answer.Outside ≡ b
outside_told answer.Outside h = refl
outside_told b h = absurd cc

pub committed_told : (b : Answer) → is_committed b ≡ true → answer.Committed ≡ b
committed_told answer.Committed h = refl
committed_told b h = absurd cc

pub rolled_back_told : (b : Answer) → is_rolled_back b ≡ true → answer.RolledBack ≡ b
rolled_back_told answer.RolledBack h = refl
rolled_back_told b h = absurd cc

pub same_is : (a b : Answer) → same_answer a b ≡ true → a ≡ b
same_is answer.Begun b h = begun_told b h
same_is answer.Duplicate b h = duplicate_told b h
same_is answer.Null b h = null_told b h
same_is answer.Overflow b h = overflow_told b h
same_is answer.Long b h = long_told b h
same_is answer.Many b h = many_told b h
same_is answer.Nested b h = nested_told b h
same_is answer.Outside b h = outside_told b h
same_is answer.Committed b h = committed_told b h
same_is answer.RolledBack b h = rolled_back_told b h
same_is (answer.Rows rows) b h = rows_told b rows h
same_is (answer.Changed n) b h = count_told b n h
same_is (answer.Conflict n) b h = rival_told b n h
same_is (answer.Recovered n) b h = recovered_told b n h
same_is (answer.There n) b h = there_told b n h

pub same_itself : (a : Answer) → same_answer a a ≡ true
same_itself (answer.Rows rows) = rows_itself rows
same_itself (answer.Changed n) = eq-eqb n n refl
same_itself (answer.Conflict n) = eq-eqb n n refl
same_itself (answer.Recovered n) = eq-eqb n n refl
same_itself (answer.There n) = eq-eqb n n refl
same_itself a = refl

pub same_from : (a b : Answer) → a ≡ b → same_answer a b ≡ true
same_from a b e = ap (same_answer a) (sym e) ∙ same_itself a

-- the answer to give is told where the two are the same
pub told_where : (given : Option Answer) (x told : Answer) (b : Bool) → given ≡ Some x → b ≡ same_answer x told
    → (b ≡ true → given ≡ Some told) × (given ≡ Some told → b ≡ true)
told_where given x told b g s =
    (λ h. g ∙ ap (λ (a : Answer). Some a) (same_is x told (sym s ∙ h)), λ h. s ∙ same_from x told (some_is x told (sym g ∙ h)))
  where
    some_is : (x y : Answer) → Some x ≡ Some y → x ≡ y
    some_is x y e = cc
