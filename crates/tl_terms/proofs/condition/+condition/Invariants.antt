use Rattle.std.proofs.Common.{◌≡◌, [], ◌+◌, ◌-◌, ◌*◌, length}
use Rattle.tl_grammar.specs.Form.{read_row}
use Rattle.tl_grammar.specs.Grammar.{and_part, behind, nested, or_part}
use Rattle.tl_tokens.specs.Seen.{seen}
use Rattle.tl_terms.proofs.condition.+condition.Given as goal

abbrev pub decreases-nested : goal.decreases-nested
decreases-nested l = 16 * l.depth

abbrev pub decreases-not : goal.decreases-not
decreases-not l = 16 * l.depth + 1

abbrev pub decreases-and_part : goal.decreases-and_part
decreases-and_part l = 16 * l.depth + 2

abbrev pub decreases-many_and : goal.decreases-many_and
decreases-many_and l = 16 * l.depth + 3

abbrev pub decreases-all_form : goal.decreases-all_form
decreases-all_form l = 16 * l.depth + 4

abbrev pub decreases-or_part : goal.decreases-or_part
decreases-or_part l = 16 * l.depth + 5

abbrev pub decreases-many_or : goal.decreases-many_or
decreases-many_or l = 16 * l.depth + 6

abbrev pub decreases-condition : goal.decreases-condition
decreases-condition l = 16 * l.depth + 7

abbrev pub decreases-condition_in_brackets : goal.decreases-condition_in_brackets
decreases-condition_in_brackets l = 16 * l.depth + 9

abbrev pub decreases-negated : goal.decreases-negated
decreases-negated l = 16 * l.depth + 9

abbrev pub invariant-many_and-loop-i : goal.invariant-many_and-loop-i
invariant-many_and-loop-i l =
    read_row behind (λ x. and_part (nested l.depth)) (l.i-end - l.i) l.found (seen l.here)
    ≡ read_row behind (λ x. and_part (nested l.depth)) (length (seen l.at).rest) [] (seen l.at)

abbrev pub invariant-many_or-loop-i : goal.invariant-many_or-loop-i
invariant-many_or-loop-i l =
    read_row behind (λ x. or_part (nested l.depth)) (l.i-end - l.i) l.found (seen l.here)
    ≡ read_row behind (λ x. or_part (nested l.depth)) (length (seen l.at).rest) [] (seen l.at)
