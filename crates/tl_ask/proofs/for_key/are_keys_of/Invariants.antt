use Rattle.std.proofs.Common.{◌≡◌, drop}
use Rattle.std.specs.List.{list_all}
use Rattle.tl_journal.specs.ForKey.{is_key_of}
use Rattle.tl_ask.proofs.for_key.are_keys_of.Given as goal

-- what is left decides
abbrev pub invariant-loop-key : goal.invariant-loop-key
invariant-loop-key l = list_all (is_key_of l.catalog) (drop l.key-index l.keys) ≡ list_all (is_key_of l.catalog) l.keys
