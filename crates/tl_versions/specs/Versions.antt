-- The versions of a record, the newest write first: which of them a set of tids shows, and what is taken out.
use Rattle.std.specs.Prelude.{ℕ, Bool, true, not, ◌&&◌, ◌==◌, List, [], ◌∷◌, Option, Some, None, if◌then◌else◌}
use Rattle.std.specs.List.{list_any}
use Rattle.tl_descriptor.specs.Tids.{TidSet, has}
use Rattle.tl_versions.specs.declared.version.Version.{Version}

-- some version has the tid
abbrev pub is_written : ℕ → List Version → Bool
is_written tid versions = list_any (λ version. version.tid == tid) versions

-- no two versions have the same tid
abbrev pub are_distinct : List Version → Bool
are_distinct [] = true
are_distinct (version ∷ versions) = not (is_written version.tid versions) && are_distinct versions

-- the first version whose tid is in the set
abbrev pub visible : TidSet → List Version → Option Version
visible set [] = None
visible set (version ∷ versions) = if has set version.tid then Some version else visible set versions

-- the tid of the first version that isn't in the set
abbrev pub stranger : TidSet → List Version → Option ℕ
stranger set [] = None
stranger set (version ∷ versions) = if has set version.tid then stranger set versions else Some version.tid

-- the versions without that of the tid
abbrev pub strip : ℕ → List Version → List Version
strip tid [] = []
strip tid (version ∷ versions) = if version.tid == tid then versions else version ∷ strip tid versions

-- the versions up to the first one that is in the floor, and that one
abbrev pub prune : TidSet → List Version → List Version
prune floor [] = []
prune floor (version ∷ versions) = version ∷ (if has floor version.tid then [] else prune floor versions)
