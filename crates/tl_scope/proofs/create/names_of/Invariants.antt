use Rattle.std.proofs.Common.{◌≡◌, ◌||◌, ℕ, List, drop, map}
use Rattle.tl_scope.specs.Create.{form_text}
use Rattle.tl_scope.specs.Named.{is_among}
use Rattle.tl_scope.proofs.create.names_of.Given as goal

-- those so far and those that are left
abbrev pub invariant-loop-column : goal.invariant-loop-column
invariant-loop-column l = (text : List ℕ) → (is_among l.names text || is_among (map form_text (drop l.column-index l.columns)) text) ≡ is_among (map form_text l.columns) text
