use Rattle.std.proofs.Common.{◌≡◌, ◌++◌, drop, codes}
use Rattle.std.specs.List.{flat_map}
use Rattle.tl_render.specs.Printed.{value_text}
use Rattle.tl_render.proofs.value.push_others.Given as goal

-- what is written and the text of what is left are the text of all
abbrev pub invariant-loop-value : goal.invariant-loop-value
invariant-loop-value l = l.out ++ flat_map (λ v. codes "|" ++ value_text v) (drop l.value-index l.values) ≡ l.initial.out ++ flat_map (λ v. codes "|" ++ value_text v) l.values
