use Rattle.std.proofs.Common.{◌≡◌, ◌++◌, drop, take}
use Rattle.tl_values.specs.Key.{AreValues, key_bytes}
use Rattle.tl_values.proofs.key.encode_key.Given as goal

-- what is written and the keys of what is left are the keys of all
abbrev pub invariant-loop-value : goal.invariant-loop-value
invariant-loop-value l = record {
  bytes : l.key ++ key_bytes (drop l.value-index l.values) ≡ key_bytes l.values;
  values : AreValues (take l.value-index l.values);
}
