-- What a change writes, and what is deleted, stands under the record key of a row that a table of the catalog may have.
use Rattle.std.proofs.Common.{◌≡◌, ℕ, Bool, List, [], ◌∷◌, Option, Some, None, Result, Ok, Less, Equal, Greater, map, refl, subst}
use Rattle.std.specs.FinMap as finmap
use Rattle.std.specs.List.{AllByRecursion}
use Rattle.std.specs.Ordering.{match_ordering}
use Rattle.tl_values.specs.declared.value.Value.{Value}
use Rattle.tl_schema.specs.declared.catalog.Catalog.{Catalog}
use Rattle.tl_schema.specs.declared.catalog.OpeningRow.{OpeningRow}
use Rattle.tl_schema.specs.declared.catalog.Table.{Table}
use Rattle.tl_schema.specs.Record.{record_key}
use Rattle.tl_algebra.specs.declared.edit.Edit.{Edit}
use Rattle.tl_algebra.specs.declared.edit.Edit.TheVariants.{Insert, Update, Delete}
use Rattle.tl_write.specs.declared.fault.ChangeFault.{ChangeFault}
use Rattle.tl_write.specs.declared.write.Effect.{Effect}
use Rattle.tl_write.specs.declared.write.Write.{Write}
use Rattle.tl_write.specs.Change.{Deed, Add, Replace, Remove, Overflow, after, deeds, judged, matching, nothing, number_of, offence, on_from, replaced, set_columns, unless}
use Rattle.tl_write.specs.Own.{key_cmp, put_write, put_writes}
use Rattle.tl_write.specs.Tables.{Tables}
use Rattle.tl_isolation.specs.Meaning.{change_of}
use Rattle.tl_isolation.specs.Tables.{AreHome, Suits, opening_writes, table_of}
use Rattle.tl_protocol.specs.Stands.{IsKeyOf}
use Rattle.tl_protocol.proofs.Homes.{IsHomeIn, change_home, matching_home}
use Rattle.tl_protocol.proofs.Shown.{AreHomeWrites, AreKeyed}

-- a deletion is of a record
abbrev IsKeyedDeletion : Catalog → Write → Type 0
IsKeyedDeletion catalog w = w.row ≡ None → IsKeyOf catalog w.key

abbrev AreKeyedDeletions : Catalog → List Write → Type 0
AreKeyedDeletions catalog ws = AllByRecursion (IsKeyedDeletion catalog) ws

put_all : (P : Write → Type 0) (w : Write) (ws : List Write) → P w → AllByRecursion P ws → AllByRecursion P (put_write w ws)
put_all P w [] h i = (h, tt)
put_all P w (x ∷ xs) h i =
    elim (key_cmp w.key x.key) as (λ o. AllByRecursion P (match_ordering o (w ∷ x ∷ xs) (w ∷ xs) (x ∷ put_write w xs))) [
      | Less ↦ (h, i)
      | Equal ↦ (h, i.1)
      | Greater ↦ (i.0, put_all P w xs h i.1)
    ]

pub puts_keyed : (catalog : Catalog) (ws own : List Write) → AreKeyed catalog ws → AreKeyed catalog own → AreKeyed catalog (put_writes ws own)
puts_keyed catalog [] own h i = i
puts_keyed catalog (w ∷ ws) own h i =
    puts_keyed catalog ws (put_write w own) h.1 (put_all (λ (w : Write). IsKeyOf catalog w.key) w own h.0 i)

-- only a removal deletes
abbrev IsKeyedDeed : Catalog → Deed → Type 0
IsKeyedDeed catalog (Add key row) = Unit {0}
IsKeyedDeed catalog (Replace key row) = Unit {0}
IsKeyedDeed catalog (Remove key) = IsKeyOf catalog key
IsKeyedDeed catalog Overflow = Unit {0}

additions_keyed : (catalog : Catalog) (number : ℕ) (rows : List (List Value))
    → AllByRecursion (IsKeyedDeed catalog) (map (λ (row : List Value). Add (record_key number (table_of catalog number) row) row) rows)
additions_keyed catalog number [] = tt
additions_keyed catalog number (row ∷ rows) = (tt, additions_keyed catalog number rows)

replaced_keyed : (catalog : Catalog) (key : List ℕ) (changed : Option (List Value)) → IsKeyedDeed catalog (replaced key changed)
replaced_keyed catalog key None = tt
replaced_keyed catalog key (Some row) = tt

replacements_keyed : (catalog : Catalog) (change : List Value → Option (List Value)) (es : List (List ℕ × List Value))
    → AllByRecursion (IsKeyedDeed catalog) (map (λ (e : List ℕ × List Value). replaced e.0 (change e.1)) es)
replacements_keyed catalog change [] = tt
replacements_keyed catalog change (e ∷ es) = (replaced_keyed catalog e.0 (change e.1), replacements_keyed catalog change es)

removals_keyed : (catalog : Catalog) (number : ℕ) (es : List (List ℕ × List Value)) → AllByRecursion (IsHomeIn catalog number) es
    → AllByRecursion (IsKeyedDeed catalog) (map (λ (e : List ℕ × List Value). Remove e.0) es)
removals_keyed catalog number [] h = tt
removals_keyed catalog number (e ∷ es) h = ((e.1, h.0.0), removals_keyed catalog number es h.1)

deeds_keyed : (catalog : Catalog) (edit : Edit) (tables : Tables) → AreHome catalog tables
    → AllByRecursion (IsKeyedDeed catalog) (deeds edit (table_of catalog (number_of edit)) tables)
deeds_keyed catalog (Insert number rows) tables h = additions_keyed catalog number rows
deeds_keyed catalog (Update number sets condition) tables h =
    replacements_keyed catalog (λ row. set_columns sets row row) (matching number condition tables)
deeds_keyed catalog (Delete number condition) tables h =
    removals_keyed catalog number (matching number condition tables) (matching_home catalog number condition tables h)

after_keyed : (catalog : Catalog) (deed : Deed) (done : Effect) → IsKeyedDeed catalog deed → AreKeyedDeletions catalog done.writes
    → AreKeyedDeletions catalog (after deed done).writes
after_keyed catalog (Add key row) done h i = put_all (IsKeyedDeletion catalog) (record { key = key; row = Some row }) done.writes (λ e. absurd cc) i
after_keyed catalog (Replace key row) done h i = put_all (IsKeyedDeletion catalog) (record { key = key; row = Some row }) done.writes (λ e. absurd cc) i
after_keyed catalog (Remove key) done h i = put_all (IsKeyedDeletion catalog) (record { key = key; row = None }) done.writes (λ e. h) i
after_keyed catalog Overflow done h i = i

judged_keyed : (catalog : Catalog) (table : Table) (is_there : List ℕ → Bool) (own : List Write) (ds : List Deed) (done effect : Effect)
    → AllByRecursion (IsKeyedDeed catalog) ds → AreKeyedDeletions catalog done.writes → judged table is_there own ds done ≡ Ok effect
    → AreKeyedDeletions catalog effect.writes
judged_keyed catalog table is_there own [] done effect h i e = subst (λ (x : Effect). AreKeyedDeletions catalog x.writes) (same done effect e) i
  where
    same : (x y : Effect) → ◌≡◌ {A = Result Effect ChangeFault} (Ok x) (Ok y) → x ≡ y
    same x y e = cc
judged_keyed catalog table is_there own (d ∷ ds) done effect h i e =
    elim (offence table is_there own done.writes d) as (λ o. on_from (unless o (after d done)) (λ (more : Effect). judged table is_there own ds more) ≡ Ok effect
    → AreKeyedDeletions catalog effect.writes) [
      | None ↦ λ e. judged_keyed catalog table is_there own ds (after d done) effect h.1 (after_keyed catalog d done h.0 i) e
      | Some f ↦ λ e. absurd cc
    ] e

-- a row that is written at home has its key, and a deletion has that of the row which it deletes
one_keyed : (catalog : Catalog) (key : List ℕ) (row : Option (List Value)) → ((r : List Value) → row ≡ Some r → IsKeyOf catalog key) → (row ≡ None → IsKeyOf catalog key)
    → IsKeyOf catalog key
one_keyed catalog key None h i = i refl
one_keyed catalog key (Some row) h i = h row refl

all_keyed : (catalog : Catalog) (ws : List Write) → AreHomeWrites catalog ws → AreKeyedDeletions catalog ws → AreKeyed catalog ws
all_keyed catalog [] h i = tt
all_keyed catalog (w ∷ ws) h i = (one_keyed catalog w.key w.row (λ r e. (r, h.0 r e)) i.0, all_keyed catalog ws h.1 i.1)

-- opening rows delete nothing
opening_deletes : (catalog : Catalog) (rows : List OpeningRow) → AreKeyedDeletions catalog (opening_writes catalog rows)
opening_deletes catalog [] = tt
opening_deletes catalog (o ∷ os) =
    put_all (IsKeyedDeletion catalog) (record { key = record_key o.table (table_of catalog o.table) o.row; row = Some o.row }) (opening_writes catalog os)
    (λ e. absurd cc) (opening_deletes catalog os)

pub opening_keyed : (catalog : Catalog) (rows : List OpeningRow) → AreHomeWrites catalog (opening_writes catalog rows) → AreKeyed catalog (opening_writes catalog rows)
opening_keyed catalog rows home = all_keyed catalog (opening_writes catalog rows) home (opening_deletes catalog rows)

-- what a change of its table writes has the key of a record, where the tables are at home
pub change_keyed : (catalog : Catalog) (edit : Edit) (tables : Tables) (own : List Write) (effect : Effect) → AreHome catalog tables
    → Suits catalog edit → change_of catalog edit tables own ≡ Ok effect → AreKeyed catalog effect.writes
change_keyed catalog edit tables own effect h k e =
    all_keyed catalog effect.writes (change_home catalog edit tables own effect h k e)
    (judged_keyed catalog (table_of catalog (number_of edit)) (finmap.contains_key tables) own (deeds edit (table_of catalog (number_of edit)) tables) nothing effect
    (deeds_keyed catalog edit tables h) tt e)
