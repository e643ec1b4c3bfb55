-- Tables with a primary key, whose columns refuse NULL: the keys that their rows have.
use Rattle.std.proofs.Common.{◌≡◌, ℕ, zero, suc, Bool, true, false, ◌&&◌, ◌||◌, List, [], ◌∷◌, ◌++◌, None, length, refl, arith}
use Rattle.std.specs.Prelude.{nat_lt}
use Rattle.std.specs.List.{AllByRecursion, list_any}
use Rattle.std.proofs.lemmas.Bool.{or_from, or_parts}
use Rattle.tl_values.specs.declared.value.Value.{Value}
use Rattle.tl_values.specs.declared.value.Value.TheVariants as value
use Rattle.tl_values.specs.Key.{AreValues, IsValue, key_bytes, value_key}
use Rattle.tl_values.specs.Value.{is_null, value_at, values_at}
use Rattle.tl_schema.specs.declared.catalog.Column.{Column}
use Rattle.tl_schema.specs.declared.catalog.Table.{Table}
use Rattle.tl_schema.specs.Limits.{breaks_not_null, is_long}
use Rattle.tl_schema.specs.Record.{key_values}
use Rattle.tl_write.specs.declared.fault.ChangeFault.TheVariants as fault
use Rattle.tl_write.specs.Change.{first_of, where_so}
use Rattle.tl_isolation.specs.Tables.{IsAccepted}
use Rattle.tl_plan.specs.Access.{is_below}
use Rattle.tl_protocol.specs.Move.{is_empty}
use Rattle.tl_journal.specs.Binding.{IsKeyed, refuses_null}

known_at : (columns : List Column) (row : List Value) (place : ℕ) → breaks_not_null columns row ≡ false → refuses_null columns place ≡ true
    → is_null (value_at row place) ≡ false
known_at [] row place h r = absurd cc
known_at (c ∷ cs) [] zero h r = absurd (both c.not_null (breaks_not_null cs []) h r)
  where
    both : (a b : Bool) → (a || b) ≡ false → a ≡ true → ⊥
    both true b h r = cc
    both false b h r = cc
known_at (c ∷ cs) [] (suc place) h r = known_at cs [] place (or_parts c.not_null (breaks_not_null cs []) h).1 r
known_at (c ∷ cs) (v ∷ row) zero h r = one c.not_null (is_null v) (breaks_not_null cs row) h r
  where
    one : (a n b : Bool) → ((a && n) || b) ≡ false → a ≡ true → n ≡ false
    one a n b h r = grind arith
known_at (c ∷ cs) (v ∷ row) (suc place) h r = known_at cs row place (or_parts (c.not_null && is_null v) (breaks_not_null cs row) h).1 r

none_null : (columns : List Column) (row : List Value) (key : List ℕ) → breaks_not_null columns row ≡ false → AllByRecursion (λ place. refuses_null columns place ≡ true) key
    → list_any is_null (values_at key row) ≡ false
none_null columns row [] h r = refl
none_null columns row (place ∷ key) h r =
    or_from (is_null (value_at row place)) (list_any is_null (values_at key row)) (known_at columns row place h r.0) (none_null columns row key h r.1)

pub accepted_parts : (null long : Bool) → first_of (where_so null fault.Null) (where_so long fault.Long) ≡ None → (null ≡ false) × (long ≡ false)
accepted_parts true long e = absurd cc
accepted_parts false true e = absurd cc
accepted_parts false false e = (refl, refl)

-- a row that its table accepts has no NULL in its key
pub key_known : (table : Table) (row : List Value) → IsKeyed table → IsAccepted table row → list_any is_null (key_values table row) ≡ false
key_known table row k a = none_null table.columns row table.key (accepted_parts (breaks_not_null table.columns row) (is_long table row) a).0 k.not_null

-- and its key isn't long
pub key_short : (table : Table) (row : List Value) → IsAccepted table row → nat_lt 255 (length (key_bytes (key_values table row))) ≡ false
key_short table row a = one _ _ _ (accepted_parts (breaks_not_null table.columns row) (is_long table row) a).1
  where
    one : (x y z : Bool) → ((x || y) || z) ≡ false → y ≡ false
    one x y z h = grind arith

-- the bytes of values of which the first isn't NULL
value_within : (v : Value) (rest : List ℕ) → is_null v ≡ false → (is_below (value_key v ++ rest) (1 ∷ []) ≡ false) × (is_below (value_key v ++ rest) (4 ∷ []) ≡ true)
value_within value.Null rest h = absurd cc
value_within (value.Bool b) rest h = (refl, refl)
value_within (value.Int n) rest h = (refl, refl)
value_within (value.Text t) rest h = (refl, refl)

values_within : (row : List Value) (key : List ℕ) → is_empty key ≡ false → list_any is_null (values_at key row) ≡ false
    → (is_below (key_bytes (values_at key row)) (1 ∷ []) ≡ false) × (is_below (key_bytes (values_at key row)) (4 ∷ []) ≡ true)
values_within row [] e h = absurd cc
values_within row (place ∷ key) e h =
    value_within (value_at row place) (key_bytes (values_at key row)) (or_parts (is_null (value_at row place)) (list_any is_null (values_at key row)) h).0

-- the bytes of its key lie above 01 and below 04
pub key_within : (table : Table) (row : List Value) → IsKeyed table → IsAccepted table row
    → (is_below (key_bytes (key_values table row)) (1 ∷ []) ≡ false) × (is_below (key_bytes (key_values table row)) (4 ∷ []) ≡ true)
key_within table row k a = values_within row table.key k.some (key_known table row k a)

-- the key of a row of values is of values
pub key_of_values : (key : List ℕ) (row : List Value) → AreValues row → AreValues (values_at key row)
key_of_values [] row f = tt
key_of_values (place ∷ key) row f = (one row place f, key_of_values key row f)
  where
    one : (row : List Value) (place : ℕ) → AreValues row → IsValue (value_at row place)
    one [] place f = tt
    one (x ∷ row) zero f = f.0
    one (x ∷ row) (suc place) f = one row place f.1
