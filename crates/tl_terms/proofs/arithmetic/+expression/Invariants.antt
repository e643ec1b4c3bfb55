use Rattle.std.proofs.Common.{◌≡◌, [], ◌+◌, ◌-◌, ◌*◌, length}
use Rattle.tl_grammar.specs.Form.{read_row}
use Rattle.tl_grammar.specs.Grammar.{behind, bracketed, plus, times}
use Rattle.tl_tokens.specs.Seen.{seen}
use Rattle.tl_terms.proofs.arithmetic.+expression.Given as goal

abbrev pub decreases-bracketed : goal.decreases-bracketed
decreases-bracketed l = 8 * l.depth

abbrev pub decreases-factor : goal.decreases-factor
decreases-factor l = 8 * l.depth + 1

abbrev pub decreases-times : goal.decreases-times
decreases-times l = 8 * l.depth + 2

abbrev pub decreases-many_times : goal.decreases-many_times
decreases-many_times l = 8 * l.depth + 3

abbrev pub decreases-term : goal.decreases-term
decreases-term l = 8 * l.depth + 4

abbrev pub decreases-plus : goal.decreases-plus
decreases-plus l = 8 * l.depth + 5

abbrev pub decreases-many_plus : goal.decreases-many_plus
decreases-many_plus l = 8 * l.depth + 6

abbrev pub decreases-expression : goal.decreases-expression
decreases-expression l = 8 * l.depth + 7

abbrev pub invariant-many_plus-loop-i : goal.invariant-many_plus-loop-i
invariant-many_plus-loop-i l =
    read_row behind (λ x. plus (bracketed l.depth)) (l.i-end - l.i) l.found (seen l.here)
    ≡ read_row behind (λ x. plus (bracketed l.depth)) (length (seen l.at).rest) [] (seen l.at)

abbrev pub invariant-many_times-loop-i : goal.invariant-many_times-loop-i
invariant-many_times-loop-i l =
    read_row behind (λ x. times (bracketed l.depth)) (l.i-end - l.i) l.found (seen l.here)
    ≡ read_row behind (λ x. times (bracketed l.depth)) (length (seen l.at).rest) [] (seen l.at)
