-- What the bytes of a cell and of a page say, where they stand for their keys.
use Rattle.std.specs.Prelude.{ℕ, Bool, ◌&&◌, List, [], Option, if◌then◌else◌}
use Rattle.tl_schema.specs.declared.catalog.Catalog.{Catalog}
use Rattle.tl_versions.specs.Reading as cells
use Rattle.tl_protocol.specs.Store.{Key}
use Rattle.tl_journal.specs.Ask.{LoadLog, LoadRecord, ReadPage, Found, Heard, Strange}
use Rattle.tl_journal.specs.Bytes.{log_in, page_in, record_in}
use Rattle.tl_journal.specs.Strange.{is_cell, is_log_cell, is_sound}

abbrev pub where_so : Bool → Heard → Heard
where_so fits says = if fits then says else Strange

abbrev pub log_shown : Catalog → ℕ → List ℕ → Heard
log_shown catalog stamp value = where_so (is_log_cell stamp value && is_sound catalog (LoadLog 0) (log_in stamp value)) (log_in stamp value)

abbrev pub record_shown : Catalog → Key → ℕ → List ℕ → Heard
record_shown catalog key stamp value =
    where_so (is_cell stamp value && is_sound catalog (LoadRecord key) (record_in stamp (cells.read_cell value))) (record_in stamp (cells.read_cell value))

abbrev pub page_shown : Catalog → Option (List Found) → Bool → Heard
page_shown catalog found more = where_so (is_sound catalog (ReadPage 0 [] []) (page_in found more)) (page_in found more)
