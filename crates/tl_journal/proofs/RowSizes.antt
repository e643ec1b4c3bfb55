-- The sizes of rows, of the keys of records, and of the versions in cells.
use Rattle.std.proofs.Common.{◌≡◌, ℕ, zero, suc, ◌+◌, ◌*◌, ◌<◌, ◌≤◌, Bool, true, false, ◌||◌, cond, eqb, ltb, List, [], ◌∷◌, length, Option, Some, None, refl, arith}
use Rattle.std.specs.Int.{w16, to_be_bytes}
use Rattle.std.specs.List.{AllByRecursion, flat_map}
use Rattle.std.proofs.lemmas.Bool.{ltb-false, or_parts}
use Rattle.std.proofs.lemmas.List.{length-append}
use Rattle.std.proofs.lemmas.List.Elements.{recursion_from_All}
use Rattle.tl_values.specs.declared.value.Value.{Value}
use Rattle.tl_values.specs.declared.value.Value.TheVariants as value
use Rattle.tl_values.specs.Key.{AreValues, key_bytes, text_key, value_key}
use Rattle.tl_values.specs.Value.{value_at, values_at}
use Rattle.tl_schema.specs.declared.catalog.Table.{Table}
use Rattle.tl_schema.specs.Limits.{is_long}
use Rattle.tl_schema.specs.Record.{key_values, record_key}
use Rattle.tl_schema.specs.Row.{row_spelling, value_spelling}
use Rattle.tl_descriptor.specs.Tids.{TidSet, has}
use Rattle.tl_versions.specs.declared.version.Version.{Version}
use Rattle.tl_versions.specs.Cell.{AreChanges, FitsVersion}
use Rattle.tl_versions.specs.Versions.{is_written, prune, strip, visible}
use Rattle.tl_versions.proofs.Lists.{prune_cell, push_cell, strip_cell}
use Rattle.tl_versions.proofs.Short.{fits_change}
use Rattle.tl_protocol.specs.Store.{row_of, row_shown}
use Rattle.tl_journal.specs.Binding.{IsBrief, KeyFits}
use Rattle.tl_journal.proofs.Fits.{RowFits, VersionsFit}

-- ---- rows and keys

-- a row of few columns and few bytes
pub row_fits : (row : List Value) → length row < 256 → AreValues row → length (row_spelling row) ≤ 1024 → RowFits row
row_fits row count values brief = record { change = fits_change row (record { count = count; short = omega arith }) values; brief = brief }

pub brief_parts : (row : List Value) → RowFits row → AreChanges (Some row) × IsBrief (Some row)
brief_parts row h = (h.change, h.brief)

pub row_from : (row : List Value) → AreChanges (Some row) → IsBrief (Some row) → RowFits row
row_from row c b = record { change = c; brief = b }

-- a text's key bytes
text_size : (t : List ℕ) → length (text_key t) ≤ 2 * length t + 2
text_size [] = omega arith
text_size (zero ∷ bytes) = let h = text_size bytes in omega arith
text_size (suc byte ∷ bytes) = let h = text_size bytes in omega arith

-- a value has at most twice as many key bytes as it has bytes in its row
value_size : (v : Value) → length (value_key v) ≤ 2 * length (value_spelling v)
value_size value.Null = omega arith
value_size (value.Bool b) = omega arith
value_size (value.Int n) = omega arith
value_size (value.Text t) = let h = text_size t in omega (arith, h, length-append (to_be_bytes w16 (length t)) t)

place_size : (row : List Value) (place : ℕ) → length (flat_map value_spelling row) ≤ 1023 → length (value_key (value_at row place)) ≤ 2046
place_size [] place le = omega arith
place_size (v ∷ vs) zero le = let h = value_size v in omega (arith, h, le, length-append (value_spelling v) (flat_map value_spelling vs))
place_size (v ∷ vs) (suc place) le = place_size vs place (omega (arith, le, length-append (value_spelling v) (flat_map value_spelling vs)))

places_size : (row : List Value) (places : List ℕ) → length (flat_map value_spelling row) ≤ 1023 → length (key_bytes (values_at places row)) ≤ 2046 * length places
places_size row [] le = omega arith
places_size row (place ∷ places) le =
    let here = place_size row place le in
    let behind = places_size row places le in
    omega (arith, here, behind, length-append (value_key (value_at row place)) (key_bytes (values_at places row)))

-- the record key of a row
pub key_fits : (number : ℕ) (table : Table) (row : List Value) → length table.key ≤ 32 → RowFits row → KeyFits (record_key number table row)
key_fits number table row few fits =
    let brief : length (row_spelling row) ≤ 1024 = fits.brief in
    let size = places_size row table.key (omega arith) in
    record { is_record = refl; short = omega arith }

-- what isn't long has few bytes, and a short key
pub not_long : (number : ℕ) (table : Table) (row : List Value) → is_long table row ≡ false → (length (row_spelling row) ≤ 1024) × KeyFits (record_key number table row)
not_long number table row e =
    let all = or_parts (ltb 1024 (length (row_spelling row)) || ltb 255 (length (key_bytes (key_values table row)))) _ e in
    let both = or_parts (ltb 1024 (length (row_spelling row))) (ltb 255 (length (key_bytes (key_values table row)))) all.0 in
    let key = ltb-false _ _ both.1 in
    (ltb-false _ _ both.0, record { is_record = refl; short = omega arith })

-- ---- versions

abbrev AreBrief : List Version → Type 0
AreBrief versions = AllByRecursion (λ (v : Version). IsBrief v.row) versions

strip_brief : (tid : ℕ) (versions : List Version) → AreBrief versions → AreBrief (strip tid versions)
strip_brief tid [] h = tt
strip_brief tid (version ∷ versions) h = by (eqb version.tid tid) (strip_brief tid versions h.1)
  where
    by : (b : Bool) → AreBrief (strip tid versions) → AreBrief (cond b versions (version ∷ strip tid versions))
    by true f = h.1
    by false f = (h.0, f)

prune_brief : (floor : TidSet) (versions : List Version) → AreBrief versions → AreBrief (prune floor versions)
prune_brief floor [] h = tt
prune_brief floor (version ∷ versions) h = by (has floor version.tid) (prune_brief floor versions h.1)
  where
    by : (b : Bool) → AreBrief (prune floor versions) → AreBrief (version ∷ cond b [] (prune floor versions))
    by true f = (h.0, tt)
    by false f = (h.0, f)

strip_length : (tid : ℕ) (versions : List Version) → length (strip tid versions) ≤ length versions
strip_length tid [] = omega arith
strip_length tid (version ∷ versions) = by (eqb version.tid tid) (strip_length tid versions)
  where
    by : (b : Bool) → length (strip tid versions) ≤ length versions → length (cond b versions (version ∷ strip tid versions)) ≤ length (version ∷ versions)
    by true f = omega arith
    by false f = omega arith

prune_length : (floor : TidSet) (versions : List Version) → length (prune floor versions) ≤ length versions
prune_length floor [] = omega arith
prune_length floor (version ∷ versions) = by (has floor version.tid) (prune_length floor versions)
  where
    by : (b : Bool) → length (prune floor versions) ≤ length versions → length (version ∷ cond b [] (prune floor versions)) ≤ length (version ∷ versions)
    by true f = omega arith
    by false f = omega arith

pub strip_fits : (few tid : ℕ) (versions : List Version) → VersionsFit few versions → VersionsFit few (strip tid versions)
strip_fits few tid versions h =
    let number : length versions ≤ few = h.number in
    let shorter = strip_length tid versions in
    record { cell = strip_cell tid versions h.cell; brief = strip_brief tid versions h.brief; number = omega arith }

pub prune_fits : (few : ℕ) (floor : TidSet) (versions : List Version) → VersionsFit few versions → VersionsFit few (prune floor versions)
prune_fits few floor versions h =
    let number : length versions ≤ few = h.number in
    let shorter = prune_length floor versions in
    record { cell = prune_cell floor versions h.cell; brief = prune_brief floor versions h.brief; number = omega arith }

pub push_fits : (few : ℕ) (version : Version) (versions : List Version) → VersionsFit few versions → FitsVersion version → IsBrief version.row
    → is_written version.tid versions ≡ false → VersionsFit (few + 1) (version ∷ versions)
push_fits few version versions h fits brief new =
    let number : length versions ≤ few = h.number in
    record { cell = push_cell version versions h.cell fits new; brief = (brief, h.brief); number = omega arith }

pub more_versions : (few : ℕ) (versions : List Version) → VersionsFit few versions → VersionsFit (few + 1) versions
more_versions few versions h =
    let number : length versions ≤ few = h.number in
    record { cell = h.cell; brief = h.brief; number = omega arith }

-- a row, where there is one
abbrev pub ShownFits : Option (List Value) → Type 0
ShownFits None = Unit {0}
ShownFits (Some row) = RowFits row

change_shown : (row : Option (List Value)) → AreChanges row → IsBrief row → ShownFits row
change_shown None c b = tt
change_shown (Some row) c b = row_from row c b

shown : (set : TidSet) (versions : List Version) → AllByRecursion FitsVersion versions → AreBrief versions → ShownFits (row_shown set versions)
shown set [] h b = tt
shown set (version ∷ versions) h b = by (has set version.tid) (shown set versions h.1 b.1)
  where
    by : (b : Bool) → ShownFits (row_shown set versions) → ShownFits (row_of (cond b (Some version) (visible set versions)))
    by true f = change_shown version.row h.0.change b.0
    by false f = f

-- what a set shows of versions that fit
pub shown_fits : (few : ℕ) (set : TidSet) (versions : List Version) → VersionsFit few versions → ShownFits (row_shown set versions)
shown_fits few set versions h = shown set versions (recursion_from_All FitsVersion versions h.cell.fit) h.brief
