use Rattle.std.proofs.Common.{◌≡◌, drop}
use Rattle.tl_logrec.specs.Entry.{rise_from}
use Rattle.tl_logrec.proofs.keys.rise_from.Given as goal

abbrev pub invariant-loop-key : goal.invariant-loop-key
invariant-loop-key l = rise_from l.before (drop l.key-index l.keys) ≡ rise_from l.first l.keys
