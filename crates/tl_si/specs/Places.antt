-- Where commits wrote a record, and what the record was after the first of them.
use Rattle.std.specs.Prelude.{◌≡◌, ℕ, ◌+◌, Bool, nat_lt, List, [], ◌∷◌, ◌++◌, Option, Some, None, find, option_and_then, reverse, slice_get, unwrap_or, if◌then◌else◌}
use Rattle.std.specs.FinMap as finmap
use Rattle.std.specs.Ordering.{is_eq}
use Rattle.tl_values.specs.declared.value.Value.{Value}
use Rattle.tl_write.specs.declared.write.Write.{Write}
use Rattle.tl_write.specs.Own.{key_cmp}
use Rattle.tl_write.specs.Tables.{Tables, is_in}
use Rattle.tl_isolation.specs.declared.state.Commit.{Commit}
use Rattle.tl_si.specs.declared.past.Place.{Place}

-- the places of each record that was written
abbrev pub Records : Type 0
Records = finmap.FinMap key_cmp (List Place)

abbrev pub same_key : List ℕ → List ℕ → Bool
same_key k l = is_eq (key_cmp k l)

-- the places of a record among the writes of one commit, those from this one on
abbrev pub places_in : ℕ → ℕ → List ℕ → List Write → List Place
places_in commit at key [] = []
places_in commit at key (w ∷ ws) =
    (if same_key w.key key then record { commit = commit; at = at } ∷ [] else []) ++ places_in commit (at + 1) key ws

-- the places of a record among the commits, the first of which has this number
abbrev pub places_from : ℕ → List ℕ → List Commit → List Place
places_from commit key [] = []
places_from commit key (c ∷ cs) = places_in commit 0 key c.writes ++ places_from (commit + 1) key cs

abbrev pub places_of : Records → List ℕ → List Place
places_of records key = unwrap_or (finmap.get records key) []

-- each record is found at the places where the commits wrote it
abbrev pub AreFound : List Commit → Records → Type 0
AreFound commits records = (key : List ℕ) → places_of records key ≡ places_from 0 key commits

-- the records with one place more
abbrev pub HasMore : Records → List ℕ → Place → Records → Type 0
HasMore records key place more =
    (k : List ℕ) → places_of more k ≡ places_of records k ++ (if same_key key k then place ∷ [] else [])

-- the last of the places that is among the first commits
abbrev pub latest : ℕ → List Place → Option Place
latest first places = find (λ (place : Place). nat_lt place.commit first) (reverse places)

-- what was written there
abbrev pub write_at : List Commit → Place → Option Write
write_at commits place = option_and_then (λ (c : Commit). slice_get c.writes place.at) (slice_get commits place.commit)

-- the row that a record had after the first commits
abbrev pub row_after : List Commit → ℕ → List Place → Option (List Value)
row_after commits first places = option_and_then (λ (w : Write). w.row) (option_and_then (write_at commits) (latest first places))

-- one record more of the table
abbrev pub with_row : Tables → List ℕ → Option (List Value) → Tables
with_row tables key None = tables
with_row tables key (Some row) = finmap.insert tables key row

abbrev pub with_record : ℕ → Tables → List ℕ → Option (List Value) → Tables
with_record number tables key row = if is_in number key then with_row tables key row else tables

-- these records more, as they were after the first commits
abbrev pub with_records : ℕ → List Commit → ℕ → Tables → List (List ℕ × List Place) → Tables
with_records number commits first tables [] = tables
with_records number commits first tables (e ∷ es) =
    with_records number commits first (with_record number tables e.0 (row_after commits first e.1)) es

-- a key above those of all records in the table of this number
abbrev pub above : ℕ → List ℕ
above number = if nat_lt number 255 then 4 ∷ (number + 1) ∷ [] else 5 ∷ []
