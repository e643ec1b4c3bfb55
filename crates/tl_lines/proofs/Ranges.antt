-- The numbers of directives are in their ranges.
use Rattle.std.proofs.Common.{◌≡◌, ℕ, ◌&&◌, Bool, true, false, not, List, [], ◌∷◌, Option, Some, None, length, refl, ap, subst, arith}
use Rattle.std.proofs.lemmas.Bool.Decides.{nat_tests}
use Rattle.std.proofs.lemmas.Option.{cond_some}
use Rattle.std.specs.Prelude.{◌==◌, nat_le, codes, drop, if◌then◌else◌}
use Rattle.std.specs.Char.{is_ascii_digit}
use Rattle.std.specs.List.{AllByRecursion, list_all}
use Rattle.std.specs.Option.{option_and_then, option_map}
use Rattle.std.specs.Str.{bytes_eq}
use Rattle.std.specs.Str.Parse.{digits_value}
use Rattle.tl_isolation.specs.declared.script.TurnItem.{TurnItem}
use Rattle.tl_isolation.specs.declared.script.TurnItem.TheVariants.{One, Until}
use Rattle.tl_isolation.specs.declared.script.Vanish.{Vanish}
use Rattle.tl_lines.specs.declared.directive.Directive.{Directive}
use Rattle.tl_lines.specs.declared.directive.Directive.TheVariants as directive
use Rattle.tl_lines.specs.Directive.{directive_by, directive_in, item_behind, item_in, items_in, kind_in, node_alone, turns_in, vanish_in}
use Rattle.tl_lines.specs.Fields.{fields_of}
use Rattle.tl_lines.specs.Number.{digits_at, is_empty, node_in, number_within}
use Rattle.tl_lines.specs.Range.{IsFromTo, IsInRange, IsItemInRange}

some_bind : {A B : Type 0} (f : A → Option B) (o : Option A) (y : B) → option_and_then f o ≡ Some y → (x : A) × (o ≡ Some x) × (f x ≡ Some y)
some_bind f None y e = absurd (cc)
some_bind f (Some x) y e = (x, refl, e)

some_map : {A B : Type 0} (f : A → B) (o : Option A) (y : B) → option_map f o ≡ Some y → (x : A) × (o ≡ Some x) × (f x ≡ y)
some_map f None y e = absurd (cc)
some_map f (Some x) y e = (x, refl, cc)

inside : {A : Type 0} (x y : A) → ◌≡◌ {A = Option A} (Some x) (Some y) → x ≡ y
inside x y e = cc

tests_pass : (p q : Bool) (least most n : ℕ) → (p && q && nat_le least n && nat_le n most) ≡ true → IsFromTo least most n
tests_pass false q least most n h = absurd (cc)
tests_pass true false least most n h = absurd (cc)
tests_pass true true least most n h = record { from = grind (arith, nat_tests); to = grind (arith, nat_tests) }

within_range : (least most : ℕ) (digits : List ℕ) (n : ℕ) → number_within least most digits ≡ Some n → IsFromTo least most n
within_range least most digits n e =
    let p = cond_some _ _ _ e in
    subst (IsFromTo least most) p.1 (tests_pass (not (is_empty digits)) (list_all is_ascii_digit digits) least most (digits_value 10 digits) p.0)

-- ---- the items of a schedule

times_range : (node : ℕ) (digits : List ℕ) (item : TurnItem) → option_map (λ times. One node times) (number_within 1 100000 digits) ≡ Some item → IsItemInRange item
times_range node digits item e =
    let read = some_map (λ times. One node times) (number_within 1 100000 digits) item e in
    subst IsItemInRange read.2 (within_range 1 100000 digits read.0 read.1)

until_range : (node : ℕ) (digits : List ℕ) (item : TurnItem) → option_map (λ statement. Until node statement) (number_within 1 1000000 digits) ≡ Some item → IsItemInRange item
until_range node digits item e =
    let read = some_map (λ statement. Until node statement) (number_within 1 1000000 digits) item e in
    subst IsItemInRange read.2 (within_range 1 1000000 digits read.0 read.1)

sign_range : (star colon : Bool) (node : ℕ) (digits : List ℕ) (item : TurnItem)
    → (if star then option_map (λ times. One node times) (number_within 1 100000 digits)
    else if colon then option_map (λ statement. Until node statement) (number_within 1 1000000 digits) else None) ≡ Some item → IsItemInRange item
sign_range true colon node digits item e = times_range node digits item e
sign_range false true node digits item e = until_range node digits item e
sign_range false false node digits item e = absurd (cc)

behind_range : (node : ℕ) (rest : List ℕ) (item : TurnItem) → item_behind node rest ≡ Some item → IsItemInRange item
behind_range node [] item e = subst IsItemInRange (inside (One node 1) item e) (record { from = omega arith; to = omega arith })
behind_range node (b ∷ digits) item e = sign_range (b == 42) (b == 58) node digits item e

item_range : (field : List ℕ) (item : TurnItem) → item_in field ≡ Some item → IsItemInRange item
unfolding item_in
item_range field item e = let node = some_bind _ (node_in (digits_at field)) item e in behind_range node.0 (drop (length (digits_at field)) field) item node.2

items_range : (fields : List (List ℕ)) (items : List TurnItem) → items_in fields ≡ Some items → AllByRecursion IsItemInRange items
items_range [] items e = subst (AllByRecursion IsItemInRange) (inside [] items e) tt
items_range (field ∷ fields) items e =
    let first = some_bind (λ (item : TurnItem). option_and_then (λ (more : List TurnItem). Some (item ∷ more)) (items_in fields)) (item_in field) items e in
    let more = some_bind (λ (more : List TurnItem). Some (first.0 ∷ more)) (items_in fields) items first.2 in
    subst (AllByRecursion IsItemInRange) (inside (first.0 ∷ more.0) items more.2) (item_range field first.0 first.1, items_range fields more.0 more.1)

turns_range : (fields : List (List ℕ)) (items : List TurnItem) → turns_in fields ≡ Some items → AllByRecursion IsItemInRange items
turns_range [] items e = absurd (cc)
turns_range (field ∷ fields) items e = items_range (field ∷ fields) items e

-- ---- the other directives

count_in : ℕ → Option Vanish → ℕ
count_in n None = n
count_in n (Some v) = v.count

vanish_range : (fields : List (List ℕ)) (v : Vanish) → vanish_in fields ≡ Some v → IsFromTo 1 100000 v.count
unfolding vanish_in some_bind count_in
vanish_range [] v e = absurd (cc)
vanish_range (node ∷ []) v e = absurd (cc)
vanish_range (node ∷ count ∷ words) v e =
    let a = some_bind _ (node_in node) v e in
    let b = some_bind _ (number_within 1 100000 count) v a.2 in
    let c = some_bind _ (kind_in words) v b.2 in
    let same : b.0 ≡ v.count = ap (λ (o : Option Vanish). count_in b.0 o) c.2 in
    subst (IsFromTo 1 100000) same (within_range 1 100000 count b.0 b.1)

node_range : (fields : List (List ℕ)) (node : ℕ) → node_alone fields ≡ Some node → IsFromTo 1 16 node
node_range [] node e = absurd (cc)
node_range (digits ∷ []) node e = within_range 1 16 digits node e
node_range (digits ∷ other ∷ fields) node e = absurd (cc)

by_range : (node turns vanish : Bool) (fields : List (List ℕ)) (d : Directive)
    → (if node then option_map (λ node. directive.Node node) (node_alone fields)
    else if turns then option_map (λ items. directive.Turns items) (turns_in fields)
    else if vanish then option_map (λ vanish. directive.Vanish vanish) (vanish_in fields) else None) ≡ Some d → IsInRange d
by_range true turns vanish fields d e =
    let read = some_map (λ node. directive.Node node) (node_alone fields) d e in subst IsInRange read.2 (node_range fields read.0 read.1)
by_range false true vanish fields d e =
    let read = some_map (λ items. directive.Turns items) (turns_in fields) d e in subst IsInRange read.2 (turns_range fields read.0 read.1)
by_range false false true fields d e =
    let read = some_map (λ vanish. directive.Vanish vanish) (vanish_in fields) d e in subst IsInRange read.2 (vanish_range fields read.0 read.1)
by_range false false false fields d e = absurd (cc)

fields_range : (fields : List (List ℕ)) (d : Directive) → directive_by fields ≡ Some d → IsInRange d
fields_range [] d e = absurd (cc)
fields_range (head ∷ fields) d e =
    by_range (bytes_eq head (codes "@node")) (bytes_eq head (codes "@turns")) (bytes_eq head (codes "@vanish")) fields d e

pub directives_range : (line : List ℕ) (d : Directive) → directive_in line ≡ Some d → IsInRange d
unfolding directive_in
directives_range line d e = fields_range (fields_of line) d e
