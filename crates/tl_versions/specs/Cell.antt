-- The bytes of a record cell.
use Rattle.std.specs.Prelude.{◌≡◌, ◌<◌, ◌⊎◌, ℕ, ◌^◌, true, List, [], ◌∷◌, ◌++◌, length, Option, Some, None}
use Rattle.std.specs.Int.{w16, w32, w64, to_be_bytes}
use Rattle.std.specs.List.{All, flat_map}
use Rattle.tl_values.specs.declared.value.Value.{Value}
use Rattle.tl_schema.specs.Row.{FitsRow, row_spelling}
use Rattle.tl_versions.specs.declared.version.Version.{Version}
use Rattle.tl_versions.specs.Versions.{are_distinct}

-- 0 for a deletion; 1, the number of its bytes and its bytes for a row
abbrev pub change_spelling : Option (List Value) → List ℕ
change_spelling None = 0 ∷ []
change_spelling (Some row) = (1 ∷ []) ++ to_be_bytes w16 (length (row_spelling row)) ++ row_spelling row

abbrev pub version_spelling : Version → List ℕ
version_spelling version = to_be_bytes w64 version.tid ++ change_spelling version.row

-- 1, the number of versions, and the versions
abbrev pub spelling : List Version → List ℕ
spelling versions = (1 ∷ []) ++ to_be_bytes w32 (length versions) ++ flat_map version_spelling versions

-- the number of a row's bytes has two bytes
pub record FitsChange (row : List Value) : Type 0 where
  pub fits : FitsRow row
  pub short : length (row_spelling row) < 2 ^ 16

abbrev pub AreChanges : Option (List Value) → Type 0
AreChanges None = Unit {0}
AreChanges (Some row) = FitsChange row

pub record FitsVersion (version : Version) : Type 0 where
  pub tid : version.tid < 2 ^ 64
  pub change : AreChanges version.row

-- what the versions in a cell always are
pub record IsCell (versions : List Version) : Type 0 where
  pub distinct : are_distinct versions ≡ true
  pub fit : All FitsVersion versions

-- what has a spelling: the number of versions has four bytes
pub record FitsCell (versions : List Version) : Type 0 where
  pub cell : IsCell versions
  pub count : length versions < 2 ^ 32

-- a row that can stand in a version: it has fewer than 256 values, and fewer than 65,536 bytes
pub record IsShortRow (row : List Value) : Type 0 where
  pub count : length row < 256
  pub short : length (row_spelling row) < 2 ^ 16

abbrev pub IsShortChange : Option (List Value) → Type 0
IsShortChange None = Unit {0}
IsShortChange (Some row) = IsShortRow row

-- the bytes spell the versions, or there are none of both
abbrev pub IsSpelled : List ℕ → List Version → Type 0
IsSpelled bytes versions = (bytes ≡ spelling versions) ⊎ ((bytes ≡ []) × (versions ≡ []))
