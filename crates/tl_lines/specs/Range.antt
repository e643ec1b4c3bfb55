-- The numbers of directives are in their ranges.
use Rattle.std.specs.Prelude.{◌≡◌, ℕ, ◌≤◌, List, Some}
use Rattle.std.specs.List.{AllByRecursion}
use Rattle.tl_isolation.specs.declared.script.TurnItem.{TurnItem}
use Rattle.tl_isolation.specs.declared.script.TurnItem.TheVariants.{One, Until}
use Rattle.tl_lines.specs.declared.directive.Directive.{Directive}
use Rattle.tl_lines.specs.declared.directive.Directive.TheVariants as directive
use Rattle.tl_lines.specs.Directive.{directive_in}

-- from the one number to the other
pub record IsFromTo (least most n : ℕ) : Type 0 where
  pub from : least ≤ n
  pub to : n ≤ most

-- so many requests, or the statement of this number
abbrev pub IsItemInRange : TurnItem → Type 0
IsItemInRange (One node times) = IsFromTo 1 100000 times
IsItemInRange (Until node statement) = IsFromTo 1 1000000 statement

abbrev pub IsInRange : Directive → Type 0
IsInRange (directive.Node node) = IsFromTo 1 16 node
IsInRange (directive.Turns items) = AllByRecursion IsItemInRange items
IsInRange (directive.Vanish v) = IsFromTo 1 100000 v.count

abbrev pub DirectivesAreInRange : Type 0
DirectivesAreInRange = (line : List ℕ) (d : Directive) → directive_in line ≡ Some d → IsInRange d
