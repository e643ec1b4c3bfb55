-- The catalog is within the limits of binding.
use Rattle.std.proofs.Common.{◌≤◌, List, [], ◌∷◌, length}
use Rattle.std.specs.List.{AllByRecursion}
use Rattle.tl_schema.specs.declared.catalog.Catalog.{Catalog}
use Rattle.tl_schema.specs.declared.catalog.Table.{Table}
use Rattle.tl_journal.specs.Binding.{TableFits}
use Rattle.tl_names.specs.Bind.{IsWithin}
use Rattle.tl_fits.specs.Fits.{CatalogFits}

tables_within : (tables : List Table) → AllByRecursion TableFits tables → AllByRecursion (λ (t : Table). length t.columns ≤ 32) tables
tables_within [] h = tt
tables_within (t ∷ tables) h = (h.0.columns, tables_within tables h.1)

pub fitting_is_within : (catalog : Catalog) → CatalogFits catalog → IsWithin catalog
fitting_is_within catalog h = record { tables = h.few; columns = tables_within catalog.tables h.tables }
