-- A query tells one thing of the same tables.
use Rattle.std.proofs.Common.{◌≡◌, ℕ, suc, ◌+◌, Bool, false, cond, Ordering, Less, Equal, Greater, List, [], ◌∷◌, get_or, map, Some, None, refl, ap, sym, subst, ◌∙◌, arith}
use Rattle.std.specs.Cmp.{IsTotalOrder}
use Rattle.std.specs.List.{AllByRecursion, sum_by}
use Rattle.std.specs.List.Sorted.{IsPermutation, IsSorted}
use Rattle.std.specs.Ordering.{is_eq, is_lt, ordering_reverse}
use Rattle.std.proofs.lemmas.Cmp.{alike_right, tied_itself}
use Rattle.std.proofs.lemmas.List.Elements.{recursion_from_All}
use Rattle.std.proofs.lemmas.List.Sorted.{IsPermutation-sym, IsPermutation-trans, ranks_by, sorted_far, sum_by-IsPermutation}
use Rattle.std.proofs.lemmas.List.Sums.{sum_by-cons}
use Rattle.std.proofs.lemmas.Option.{same_Some}
use Rattle.tl_values.specs.declared.value.Value.{Value}
use Rattle.tl_algebra.specs.declared.fault.ValueFault.TheVariants as fault
use Rattle.tl_algebra.specs.declared.line.Line.{Line}
use Rattle.tl_algebra.specs.declared.query.Query.{Query}
use Rattle.tl_algebra.specs.declared.query.Sort.{Sort}
use Rattle.tl_algebra.specs.Law.{SelectHasOneAnswer, SelectNeverDoesBoth}
use Rattle.tl_algebra.specs.Select.{Prints}
use Rattle.tl_algebra.specs.Sorting.{limited, line_cmp}
use Rattle.tl_algebra.proofs.LineOrder.{line_total, ties_print_the_same}

-- ---- a sorted list, by recursion

abbrev Rises : {X : Type 0} → (X → X → Ordering) → List X → Type 0
Rises R [] = Unit {0}
Rises R (x ∷ xs) = AllByRecursion (λ y. is_lt (R y x) ≡ false) xs × Rises R xs

tail_sorted : {X : Type 0} (R : X → X → Ordering) (x : X) (xs : List X) → IsSorted R (x ∷ xs) → IsSorted R xs
tail_sorted R x xs h = λ k d low below.
    let next : suc k + 1 ≡ suc (k + 1) = omega arith in
    subst (λ (n : ℕ). is_lt (R (get_or (x ∷ xs) n d) (get_or xs k d)) ≡ false) next (h (suc k) d (omega arith) (omega arith))

rises : {X : Type 0} (R : X → X → Ordering) → IsTotalOrder R → (xs : List X) → IsSorted R xs → Rises R xs
rises R o [] h = tt
rises R o (x ∷ xs) h = (
  recursion_from_All (λ y. is_lt (R y x) ≡ false) xs (λ k d below. sorted_far (λ a b. is_lt (R a b)) (ranks_by o (λ y. y)) (x ∷ xs) h 0 (suc k) d (omega arith) (omega arith)),
  rises R o xs (tail_sorted R x xs h),
)

-- ---- how many tie with z

abbrev tie : {X : Type 0} → (X → X → Ordering) → X → X → ℕ
tie R z x = cond (is_eq (R z x)) 1 0

no_tie : {X : Type 0} (R : X → X → Ordering) (z : X) (xs : List X) → AllByRecursion (λ x. is_eq (R z x) ≡ false) xs → sum_by (tie R z) xs ≡ 0
no_tie R z [] all = refl
no_tie R z (x ∷ xs) all = sum_by-cons (tie R z) x xs ∙ ap (λ (b : Bool). cond b 1 0 + sum_by (tie R z) xs) all.0 ∙ ap (λ (n : ℕ). 0 + n) (no_tie R z xs all.1)

own_tie : {X : Type 0} (R : X → X → Ordering) → IsTotalOrder R → (z : X) (xs : List X) → sum_by (tie R z) (z ∷ xs) ≡ 1 + sum_by (tie R z) xs
own_tie R o z xs = sum_by-cons (tie R z) z xs ∙ ap (λ (b : Ordering). cond (is_eq b) 1 0 + sum_by (tie R z) xs) (tied_itself o z)

-- ---- two sorted lists in which as many tie with each

not_tied : (o : Ordering) → is_lt o ≡ false → (o ≡ Less → ⊥)
not_tied Less e h = absurd cc
not_tied Equal e h = absurd cc
not_tied Greater e h = absurd cc

above_by : {X : Type 0} (R : X → X → Ordering) → IsTotalOrder R → (x y e : X) → R x y ≡ Less → is_lt (R e y) ≡ false → (t : Ordering) → R x e ≡ t → is_eq t ≡ false
above_by R o x y e less up Less h = refl
above_by R o x y e less up Equal h = absurd (not_tied (R e y) up (sym (o.congr x e y h) ∙ less))
above_by R o x y e less up Greater h = refl

above : {X : Type 0} (R : X → X → Ordering) → IsTotalOrder R → (x y : X) → R x y ≡ Less → (es : List X) → AllByRecursion (λ e. is_lt (R e y) ≡ false) es → AllByRecursion (λ e. is_eq (R x e) ≡ false) es
above R o x y less [] all = tt
above R o x y less (e ∷ es) all = (above_by R o x y e less all.0 (R x e) refl, above R o x y less es all.1)

-- where both are sorted and as many tie with each, the first does not stand below
not_below : {X : Type 0} (R : X → X → Ordering) → IsTotalOrder R → (x y : X) (xs ys : List X) → Rises R (y ∷ ys) → sum_by (tie R x) (x ∷ xs) ≡ sum_by (tie R x) (y ∷ ys) → (R x y ≡ Less → ⊥)
not_below R o x y xs ys up e less =
    let none = no_tie R x (y ∷ ys) (ap is_eq less, above R o x y less ys up.0) in
    absurd (omega (arith, own_tie R o x xs, e, none))

first_ties : {X : Type 0} (R : X → X → Ordering) → IsTotalOrder R → (x y : X) → (R x y ≡ Less → ⊥) → (R y x ≡ Less → ⊥) → (t : Ordering) → R x y ≡ t → t ≡ Equal
first_ties R o x y a b Less h = absurd (a h)
first_ties R o x y a b Equal h = refl
first_ties R o x y a b Greater h = absurd (b (o.antisymm y x ∙ ap ordering_reverse h))

abbrev AsManyTie : {X : Type 0} → (X → X → Ordering) → List X → List X → Type 0
AsManyTie {X} R xs ys = (z : X) → sum_by (tie R z) xs ≡ sum_by (tie R z) ys

rest_ties : {X : Type 0} (R : X → X → Ordering) → IsTotalOrder R → (x y : X) (xs ys : List X) → R x y ≡ Equal → AsManyTie R (x ∷ xs) (y ∷ ys) → AsManyTie R xs ys
rest_ties R o x y xs ys tied many = λ z.
    let e : tie R z x ≡ tie R z y = ap (λ (t : Ordering). cond (is_eq t) 1 0) (alike_right o x y z tied) in
    omega (arith, sum_by-cons (tie R z) x xs, sum_by-cons (tie R z) y ys, many z, e)

-- so what is the same of two that tie is the same along both
tied_alike : {X Y : Type 0} (R : X → X → Ordering) → IsTotalOrder R → (f : X → Y) → ((x y : X) → R x y ≡ Equal → f x ≡ f y) →
    (xs ys : List X) → Rises R xs → Rises R ys → AsManyTie R xs ys → map f xs ≡ map f ys
tied_alike R o f same [] [] r s many = refl
tied_alike R o f same [] (y ∷ ys) r s many = absurd (omega (arith, many y, own_tie R o y ys))
tied_alike R o f same (x ∷ xs) [] r s many = absurd (omega (arith, many x, own_tie R o x xs))
tied_alike R o f same (x ∷ xs) (y ∷ ys) r s many =
    let tied = first_ties R o x y (not_below R o x y xs ys s (many x)) (not_below R o y x ys xs r (sym (many y))) (R x y) refl in
    ap (λ (l : List _). f x ∷ l) (tied_alike R o f same xs ys r.1 s.1 (rest_ties R o x y xs ys tied many))
    ∙ ap (λ (v : _). v ∷ map f ys) (same x y tied)

-- ---- answers

sorted_alike : (sorts : List Sort) (xs ys : List Line) → IsPermutation xs ys → IsSorted (line_cmp sorts) xs → IsSorted (line_cmp sorts) ys →
    map (λ (line : Line). line.printed) xs ≡ map (λ (line : Line). line.printed) ys
sorted_alike sorts xs ys p r s =
    let o = line_total sorts in
    tied_alike (line_cmp sorts) o (λ line. line.printed) (ties_print_the_same sorts) xs ys (rises (line_cmp sorts) o xs r) (rises (line_cmp sorts) o ys s)
    (λ z. sym (sum_by-IsPermutation (tie (line_cmp sorts) z) xs ys p))

alike : (q : Query) (all : List Line) (a b : List (List Value)) → Prints q all a → Prints q all b → a ≡ b
alike q all a b p r =
    p.shown
    ∙ ap (limited q.limit) (sorted_alike q.sort p.ranked r.ranked (IsPermutation-trans p.ranked all r.ranked (IsPermutation-sym all p.ranked p.permutation) r.permutation) p.sorted r.sorted)
    ∙ sym r.shown

pub one : SelectHasOneAnswer
one q tables a b s t =
    let same : s.0 ≡ t.0 = same_Some s.0 t.0 (sym s.1 ∙ t.1) in
    alike q t.0 a b (subst (λ (all : List Line). Prints q all a) same s.2) t.2

pub never_both : SelectNeverDoesBoth
never_both q tables a s t = let clash : Some s.0 ≡ None = sym s.1 ∙ t in cc
