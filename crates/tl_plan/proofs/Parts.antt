-- What the code finds part by part is what the list of a column's tests says.
use Rattle.std.proofs.Common.{◌≡◌, ℕ, Bool, true, false, if◌then◌else◌, ◌+◌, ◌<◌, List, [], ◌∷◌, Option, Some, None, drop, filter_map, get_or, length, refl, sym, ap, ◌∙◌}
use Rattle.std.specs.List.{cons_option, fold}
use Rattle.std.proofs.lemmas.List.{drop_more}
use Rattle.tl_lemmas.proofs.Lists.{drop_read}
use Rattle.tl_values.specs.declared.value.Value.{Value}
use Rattle.tl_schema.specs.declared.access.Access.TheVariants as access
use Rattle.tl_algebra.specs.declared.condition.Condition.{Condition}
use Rattle.tl_plan.specs.Access.{ColumnTest, equal_to, greater_of, high_bound, high_of, is_equality, lesser_of, low_bound, low_of, range_by, test_of}
use Rattle.tl_plan.specs.Steps.{are_some, equality, first_equal, high_from, low_from, lowered, or_else, raised}

chosen : (b : Bool) (v : Value) (rest more : Option Value) → rest ≡ more → or_else (if b then Some v else None) rest ≡ (if b then Some v else more)
chosen true v rest more e = refl
chosen false v rest more e = e

one_equal : (o : Option ColumnTest) (ts : List ColumnTest) (rest : Option Value) → rest ≡ equal_to ts → or_else (equality o) rest ≡ equal_to (cons_option o ts)
one_equal None ts rest e = e
one_equal (Some t) ts rest e = chosen (is_equality t.by) t.value rest (equal_to ts) e

pub first_equal_is : (place : ℕ) (parts : List Condition) → first_equal place parts ≡ equal_to (filter_map (test_of place) parts)
first_equal_is place [] = refl
first_equal_is place (part ∷ parts) = one_equal (test_of place part) (filter_map (test_of place) parts) (first_equal place parts) (first_equal_is place parts)

-- the first part that tests the column for equality stands here
pub equal_at : (place : ℕ) (parts : List Condition) (i : ℕ) (part : Condition) (v : Value) → i < length parts → part ≡ get_or parts i part → Some v ≡ equality (test_of place part)
    → first_equal place (drop i parts) ≡ first_equal place parts → Some v ≡ equal_to (filter_map (test_of place) parts)
equal_at place parts i part v h is e left =
    ap (λ (o : Option Value). or_else o (first_equal place (drop (i + 1) parts))) e
    ∙ ap (first_equal place) (sym (drop_read parts i part h is)) ∙ left ∙ first_equal_is place parts

one_low : (o : Option ColumnTest) (low : List ℕ) (ts : List ColumnTest) → fold (λ low t. greater_of low (low_of t)) (raised low o) ts ≡ fold (λ low t. greater_of low (low_of t)) low (cons_option o ts)
one_low None low ts = refl
one_low (Some t) low ts = refl

low_from_is : (place : ℕ) (low : List ℕ) (parts : List Condition) → low_from place low parts ≡ fold (λ low t. greater_of low (low_of t)) low (filter_map (test_of place) parts)
low_from_is place low [] = refl
low_from_is place low (part ∷ parts) = low_from_is place (raised low (test_of place part)) parts ∙ one_low (test_of place part) low (filter_map (test_of place) parts)

pub low_bound_is : (place : ℕ) (parts : List Condition) → low_from place (1 ∷ []) parts ≡ low_bound (filter_map (test_of place) parts)
low_bound_is place parts = low_from_is place (1 ∷ []) parts

one_high : (o : Option ColumnTest) (high : List ℕ) (ts : List ColumnTest) → fold (λ high t. lesser_of high (high_of t)) (lowered high o) ts ≡ fold (λ high t. lesser_of high (high_of t)) high (cons_option o ts)
one_high None high ts = refl
one_high (Some t) high ts = refl

high_from_is : (place : ℕ) (high : List ℕ) (parts : List Condition) → high_from place high parts ≡ fold (λ high t. lesser_of high (high_of t)) high (filter_map (test_of place) parts)
high_from_is place high [] = refl
high_from_is place high (part ∷ parts) = high_from_is place (lowered high (test_of place part)) parts ∙ one_high (test_of place part) high (filter_map (test_of place) parts)

pub high_bound_is : (place : ℕ) (parts : List Condition) → high_from place (4 ∷ []) parts ≡ high_bound (filter_map (test_of place) parts)
high_bound_is place parts = high_from_is place (4 ∷ []) parts

-- a column without tests bounds nothing
pub range_by_is : (ts : List ColumnTest) → range_by ts ≡ (if are_some ts then access.KeyRange (low_bound ts) (high_bound ts) else access.Whole)
range_by_is [] = refl
range_by_is (t ∷ ts) = refl
