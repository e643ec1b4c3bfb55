use Rattle.std.proofs.Common.{◌≡◌, drop}
use Rattle.std.specs.List.{list_all}
use Rattle.tl_journal.specs.Ask.{Found}
use Rattle.tl_journal.specs.ForKey.{is_record_for}
use Rattle.tl_ask.proofs.for_key.are_records.Given as goal

-- what is left decides
abbrev pub invariant-loop-cell : goal.invariant-loop-cell
invariant-loop-cell l =
    list_all (λ (f : Found). is_record_for l.catalog f.key f.versions) (drop l.cell-index l.found)
    ≡ list_all (λ (f : Found). is_record_for l.catalog f.key f.versions) l.found
