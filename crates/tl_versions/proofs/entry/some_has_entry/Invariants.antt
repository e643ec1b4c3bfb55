use Rattle.std.proofs.Common.{◌≡◌, drop}
use Rattle.std.specs.List.{list_any}
use Rattle.tl_versions.specs.declared.version.Version.{Version}
use Rattle.tl_versions.specs.Bears.{has_entry}
use Rattle.tl_versions.proofs.entry.some_has_entry.Given as goal

abbrev pub invariant-loop-version : goal.invariant-loop-version
invariant-loop-version l =
    list_any (λ (v : Version). has_entry l.table l.index l.key v.row) (drop l.version-index l.versions) ≡ list_any (λ (v : Version). has_entry l.table l.index l.key v.row) l.versions
