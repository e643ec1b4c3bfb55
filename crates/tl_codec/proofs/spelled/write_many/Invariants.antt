use Rattle.std.proofs.Common.{◌≡◌, ◌++◌, drop}
use Rattle.std.specs.List.{flat_map}
use Rattle.tl_codec.proofs.spelled.write_many.Given as goal

-- what is written and the spelling of what is left are that of all
abbrev pub invariant-loop-item : goal.invariant-loop-item
invariant-loop-item g l = l.out ++ flat_map g.T.Spelled.spelling (drop l.item-index l.items) ≡ l.fn.out ++ flat_map g.T.Spelled.spelling l.items
