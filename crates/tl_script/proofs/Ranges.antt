-- The numbers of statements and directives are in their ranges.
use Rattle.std.proofs.Common.{◌≡◌, ℕ, ◌^◌, ◌<◌, ◌≤◌, ◌&&◌, Bool, true, false, not, cond, List, [], ◌∷◌, Option, Some, None, length, refl, ap, subst, arith}
use Rattle.std.proofs.lemmas.Bool.Decides.{nat_tests}
use Rattle.std.proofs.lemmas.Int.{ints}
use Rattle.std.proofs.lemmas.Option.{cond_some}
use Rattle.std.specs.Prelude.{ℤ, ◌==◌, pos, neg_ℤ, nat_lt, nat_le, codes, drop, nat_eq, if◌then◌else◌}
use Rattle.std.specs.Char.{is_ascii_digit}
use Rattle.std.specs.Int.{w64}
use Rattle.std.specs.Int.RustNames.{FitsSigned}
use Rattle.std.specs.List.{list_all}
use Rattle.std.specs.Option.{option_and_then, option_map, option_or}
use Rattle.std.specs.Str.{bytes_eq}
use Rattle.std.specs.Str.Parse.{digits_value}
use Rattle.tl_isolation.specs.declared.script.TurnItem.{TurnItem}
use Rattle.tl_isolation.specs.declared.script.TurnItem.TheVariants.{One, Until}
use Rattle.tl_isolation.specs.declared.script.Vanish.{Vanish}
use Rattle.tl_script.specs.declared.statement.Statement.{Statement}
use Rattle.tl_script.specs.declared.statement.Statement.TheVariants.{Begin, Commit, Rollback, Recover, Insert, SelectAll, Select, Update, Delete}
use Rattle.tl_script.specs.Directive.{item_behind, item_in, kind_in, vanish_in}
use Rattle.tl_script.specs.Lines.{after_text}
use Rattle.tl_script.specs.Node.{node_in}
use Rattle.tl_script.specs.Number.{digits_at, is_empty, magnitude_at, signed, number_behind, number_at, number_within}
use Rattle.tl_script.specs.Statement.{Names, delete_in, insert_in, one_word_in, recover_in, select_in, select_key_in, statement_in, update_in, where_key_in}
use Rattle.tl_script.proofs.Digits.{AllDigits-front, value_below}

pub some_bind : {A B : Type 0} (f : A → Option B) (o : Option A) (y : B) → option_and_then f o ≡ Some y → (x : A) × (o ≡ Some x) × (f x ≡ Some y)
some_bind f None y e = absurd (cc)
some_bind f (Some x) y e = (x, refl, e)

few_digits : (a b : ℕ) → (nat_lt 0 a && nat_le a b) ≡ true → a ≤ b
few_digits a b h = grind (arith, nat_tests)

magnitude_fits : (bytes : List ℕ) (found : ℕ × List ℕ) → magnitude_at bytes ≡ Some found → found.0 < 10 ^ 18
unfolding magnitude_at
magnitude_fits bytes found e =
    let p = cond_some _ _ _ e in
    let below : digits_value 10 (digits_at bytes) < 10 ^ 18 = value_below 18 (digits_at bytes) (AllDigits-front bytes) (few_digits _ _ p.0) in
    subst (λ (x : ℕ × List ℕ). x.0 < 10 ^ 18) p.1 below

pos_fits : (n : ℕ) → n < 10 ^ 18 → FitsSigned w64 (pos n)
pos_fits n h = omega (arith, ints)

neg_fits : (n : ℕ) → n < 10 ^ 18 → FitsSigned w64 (neg_ℤ (pos n))
neg_fits n h = omega (arith, ints)

signed_fits : (sign : ℕ → ℤ) → ((n : ℕ) → n < 10 ^ 18 → FitsSigned w64 (sign n)) → (read : Option (ℕ × List ℕ)) → ((found : ℕ × List ℕ) → read ≡ Some found → found.0 < 10 ^ 18)
    → (found : ℤ × List ℕ) → signed sign read ≡ Some found → FitsSigned w64 found.0
signed_fits sign fits None below found e = absurd (cc)
signed_fits sign fits (Some (n, rest)) below found e =
    let same : ◌≡◌ {A = ℤ × List ℕ} (sign n, rest) found = cc in
    subst (λ (x : ℤ × List ℕ). FitsSigned w64 x.0) same (fits n (below (n, rest) refl))

behind_fits : (bytes : List ℕ) (digits : Option (List ℕ)) (found : ℤ × List ℕ) → number_behind bytes digits ≡ Some found → FitsSigned w64 found.0
behind_fits bytes None found e = signed_fits _ pos_fits (magnitude_at bytes) (magnitude_fits bytes) found e
behind_fits bytes (Some digits) found e = signed_fits _ neg_fits (magnitude_at digits) (magnitude_fits digits) found e

number_fits : (bytes : List ℕ) (found : ℤ × List ℕ) → number_at bytes ≡ Some found → FitsSigned w64 found.0
unfolding number_at
number_fits bytes found e = behind_fits bytes (after_text (codes "-") bytes) found e

where_fits : (names : Names) (bytes : List ℕ) (key : ℤ) → where_key_in names bytes ≡ Some key → FitsSigned w64 key
unfolding where_key_in
where_fits names bytes key e =
    let a = some_bind _ (after_text (codes " WHERE ") bytes) key e in
    let b = some_bind _ (after_text names.key a.0) key a.2 in
    let c = some_bind _ (after_text (codes " = ") b.0) key b.2 in
    let read = some_bind _ (number_at c.0) key c.2 in
    subst (FitsSigned w64) (cond_some (nat_eq (length read.0.1) 0) read.0.0 key read.2).1 (number_fits c.0 read.0 read.1)

-- from the one number to the other
pub record IsFromTo (least most n : ℕ) : Type 0 where
  pub from : least ≤ n
  pub to : n ≤ most

tests_pass : (p q : Bool) (least most n : ℕ) → (p && q && nat_le least n && nat_le n most) ≡ true → IsFromTo least most n
tests_pass false q least most n h = absurd (cc)
tests_pass true false least most n h = absurd (cc)
tests_pass true true least most n h = record { from = grind (arith, nat_tests); to = grind (arith, nat_tests) }

pub within_range : (least most : ℕ) (digits : List ℕ) (n : ℕ) → number_within least most digits ≡ Some n → IsFromTo least most n
within_range least most digits n e =
    let p = cond_some _ _ _ e in
    subst (IsFromTo least most) p.1 (tests_pass (not (is_empty digits)) (list_all is_ascii_digit digits) least most (digits_value 10 digits) p.0)

-- the numbers of a statement fit 64 bits, and its node is one
abbrev pub IsInRange : Statement → Type 0
IsInRange Begin = Unit {0}
IsInRange Commit = Unit {0}
IsInRange Rollback = Unit {0}
IsInRange (Recover node) = IsFromTo 1 16 node
IsInRange (Insert key other) = FitsSigned w64 key × FitsSigned w64 other
IsInRange SelectAll = Unit {0}
IsInRange (Select key) = FitsSigned w64 key
IsInRange (Update other key) = FitsSigned w64 other × FitsSigned w64 key
IsInRange (Delete key) = FitsSigned w64 key

chosen : (test : Bool) (made s : Statement) (other : Option Statement) → IsInRange made → (other ≡ Some s → IsInRange s) → cond test (Some made) other ≡ Some s → IsInRange s
chosen true made s other fits later e = let same : made ≡ s = cc in subst IsInRange same fits
chosen false made s other fits later e = later e

none_is_some : {A : Type 0} {Q : Type 0} (x : A) → ◌≡◌ {A = Option A} None (Some x) → Q
none_is_some x e = absurd (cc)

one_word : (line : List ℕ) (s : Statement) → one_word_in line ≡ Some s → IsInRange s
unfolding one_word_in
one_word line s e =
    chosen (bytes_eq line (codes "BEGIN")) Begin s _ tt
    (chosen (bytes_eq line (codes "COMMIT")) Commit s _ tt
    (chosen (bytes_eq line (codes "ROLLBACK")) Rollback s None tt (λ n. none_is_some s n)))
    e

made_is : (made s : Statement) → IsInRange made → ◌≡◌ {A = Option Statement} (Some made) (Some s) → IsInRange s
made_is made s fits e = let same : made ≡ s = cc in subst IsInRange same fits

recover : (line : List ℕ) (s : Statement) → recover_in line ≡ Some s → IsInRange s
unfolding recover_in
recover line s e =
    let a = some_bind _ (after_text (codes "RECOVER ") line) s e in
    let node = some_bind _ (node_in a.0) s a.2 in
    made_is (Recover node.0) s (within_range 1 16 a.0 node.0 node.1) node.2

insert : (names : Names) (line : List ℕ) (s : Statement) → insert_in names line ≡ Some s → IsInRange s
unfolding insert_in
insert names line s e =
    let a = some_bind _ (after_text (codes "INSERT INTO ") line) s e in
    let b = some_bind _ (after_text names.table a.0) s a.2 in
    let c = some_bind _ (after_text (codes " VALUES (") b.0) s b.2 in
    let key = some_bind _ (number_at c.0) s c.2 in
    let d = some_bind _ (after_text (codes ", ") key.0.1) s key.2 in
    let other = some_bind _ (number_at d.0) s d.2 in
    chosen (bytes_eq other.0.1 (codes ")")) (Insert key.0.0 other.0.0) s None (number_fits c.0 key.0 key.1, number_fits d.0 other.0 other.1) (λ n. none_is_some s n) other.2

select_key : (names : Names) (rest : List ℕ) (s : Statement) → select_key_in names rest ≡ Some s → IsInRange s
select_key names rest s e =
    let key = some_bind _ (where_key_in names rest) s e in
    made_is (Select key.0) s (where_fits names rest key.0 key.1) key.2

select : (names : Names) (line : List ℕ) (s : Statement) → select_in names line ≡ Some s → IsInRange s
unfolding select_in
select names line s e =
    let a = some_bind _ (after_text (codes "SELECT * FROM ") line) s e in
    let b = some_bind _ (after_text names.table a.0) s a.2 in
    chosen (nat_eq (length b.0) 0) SelectAll s (select_key_in names b.0) tt (select_key names b.0 s) b.2

-- what stands behind the new number
abbrev pub update_behind : Names → ℤ × List ℕ → Option Statement
update_behind names other = option_and_then (λ key. Some (Update other.0 key)) (where_key_in names other.1)

update : (names : Names) (line : List ℕ) (s : Statement) → update_in names line ≡ Some s → IsInRange s
unfolding update_in
update names line s e =
    let a = some_bind _ (after_text (codes "UPDATE ") line) s e in
    let b = some_bind _ (after_text names.table a.0) s a.2 in
    let c = some_bind _ (after_text (codes " SET ") b.0) s b.2 in
    let d = some_bind _ (after_text names.other c.0) s c.2 in
    let f = some_bind _ (after_text (codes " = ") d.0) s d.2 in
    let other = some_bind (update_behind names) (number_at f.0) s f.2 in
    let key = some_bind (λ key. Some (Update other.0.0 key)) (where_key_in names other.0.1) s other.2 in
    made_is (Update other.0.0 key.0) s (number_fits f.0 other.0 other.1, where_fits names other.0.1 key.0 key.1) key.2

delete : (names : Names) (line : List ℕ) (s : Statement) → delete_in names line ≡ Some s → IsInRange s
unfolding delete_in
delete names line s e =
    let a = some_bind _ (after_text (codes "DELETE FROM ") line) s e in
    let b = some_bind _ (after_text names.table a.0) s a.2 in
    let key = some_bind _ (where_key_in names b.0) s b.2 in
    made_is (Delete key.0) s (where_fits names b.0 key.0 key.1) key.2

either : (o p : Option Statement) (s : Statement) → (o ≡ Some s → IsInRange s) → (p ≡ Some s → IsInRange s) → option_or o p ≡ Some s → IsInRange s
either None p s first second e = second e
either (Some x) p s first second e = first e

pub in_range : (names : Names) (line : List ℕ) (s : Statement) → statement_in names line ≡ Some s → IsInRange s
unfolding statement_in
in_range names line s e =
    either _ (delete_in names line) s
    (either _ (update_in names line) s
    (either _ (select_in names line) s
    (either _ (insert_in names line) s
    (either (one_word_in line) (recover_in line) s (one_word line s) (recover line s))
    (insert names line s))
    (select names line s))
    (update names line s))
    (delete names line s) e

-- ---- directives

some_map : {A B : Type 0} (f : A → B) (o : Option A) (y : B) → option_map f o ≡ Some y → (x : A) × (o ≡ Some x) × (f x ≡ y)
some_map f None y e = absurd (cc)
some_map f (Some x) y e = (x, refl, cc)

abbrev count_in : ℕ → Option Vanish → ℕ
count_in n None = n
count_in n (Some v) = v.count

-- so many requests, or the statement of this number
abbrev pub IsInSchedule : TurnItem → Type 0
IsInSchedule (One node times) = IsFromTo 1 100000 times
IsInSchedule (Until node statement) = IsFromTo 1 1000000 statement

times_range : (node : ℕ) (digits : List ℕ) (item : TurnItem) → option_map (λ times. One node times) (number_within 1 100000 digits) ≡ Some item → IsInSchedule item
times_range node digits item e =
    let read = some_map (λ times. One node times) (number_within 1 100000 digits) item e in
    subst IsInSchedule read.2 (within_range 1 100000 digits read.0 read.1)

until_range : (node : ℕ) (digits : List ℕ) (item : TurnItem) → option_map (λ statement. Until node statement) (number_within 1 1000000 digits) ≡ Some item → IsInSchedule item
until_range node digits item e =
    let read = some_map (λ statement. Until node statement) (number_within 1 1000000 digits) item e in
    subst IsInSchedule read.2 (within_range 1 1000000 digits read.0 read.1)

sign_range : (star colon : Bool) (node : ℕ) (digits : List ℕ) (item : TurnItem)
    → (if star then option_map (λ times. One node times) (number_within 1 100000 digits)
    else if colon then option_map (λ statement. Until node statement) (number_within 1 1000000 digits) else None) ≡ Some item → IsInSchedule item
sign_range true colon node digits item e = times_range node digits item e
sign_range false true node digits item e = until_range node digits item e
sign_range false false node digits item e = absurd (cc)

behind_range : (node : ℕ) (rest : List ℕ) (item : TurnItem) → item_behind node rest ≡ Some item → IsInSchedule item
behind_range node [] item e = let same : One node 1 ≡ item = cc in subst IsInSchedule same (record { from = omega arith; to = omega arith })
behind_range node (b ∷ digits) item e = sign_range (b == 42) (b == 58) node digits item e

pub item_range : (field : List ℕ) (item : TurnItem) → item_in field ≡ Some item → IsInSchedule item
unfolding item_in
item_range field item e = let node = some_bind _ (node_in (digits_at field)) item e in behind_range node.0 (drop (length (digits_at field)) field) item node.2

pub vanish_range : (fields : List (List ℕ)) (v : Vanish) → vanish_in fields ≡ Some v → IsFromTo 1 100000 v.count
unfolding vanish_in
vanish_range [] v e = absurd (cc)
vanish_range (node ∷ []) v e = absurd (cc)
vanish_range (node ∷ count ∷ words) v e =
    let a = some_bind _ (node_in node) v e in
    let b = some_bind _ (number_within 1 100000 count) v a.2 in
    let c = some_bind _ (kind_in words) v b.2 in
    let same : b.0 ≡ v.count = ap (λ (o : Option Vanish). count_in b.0 o) c.2 in
    subst (IsFromTo 1 100000) same (within_range 1 100000 count b.0 b.1)
