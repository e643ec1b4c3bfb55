-- The opening rows, with the set of their keys.
use Rattle.std.specs.Prelude.{◌≡◌, ℤ, Bool, true, List}
use Rattle.std.specs.BTreeSet.{BTreeSet, contains}
use Rattle.std.specs.Ordering.{int_cmp}
use Rattle.tl_schema.specs.declared.catalog.OpeningRow.{OpeningRow}
use Rattle.tl_script.specs.declared.fault.LineFault.{LineFault}
use Rattle.tl_script.specs.declared.fault.LineFault.TheVariants as line_fault
use Rattle.tl_script.specs.declared.fault.ScriptKind.TheVariants.{NotBuilt}
use Rattle.tl_script.specs.Parts.{has_key}

-- the set has the keys of the rows and no others
abbrev pub AreKeys : List OpeningRow → BTreeSet ℤ → Type 0
AreKeys rows keys = (key : ℤ) → contains int_cmp keys key ≡ has_key key rows

-- a row is refused only where it may not stand
abbrev pub Refuses : LineFault → Bool → Type 0
Refuses (line_fault.Fault kind) amiss = (kind ≡ NotBuilt) × (amiss ≡ true)
Refuses line_fault.NoMemory amiss = Unit {0}
