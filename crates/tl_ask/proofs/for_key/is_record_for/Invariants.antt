use Rattle.std.proofs.Common.{◌≡◌, drop}
use Rattle.tl_journal.specs.ForKey.{is_record_for}
use Rattle.tl_ask.proofs.for_key.is_record_for.Given as goal

-- what is left decides
abbrev pub invariant-loop-version : goal.invariant-loop-version
invariant-loop-version l = is_record_for l.catalog l.key (drop l.version-index l.versions) ≡ is_record_for l.catalog l.key l.versions
