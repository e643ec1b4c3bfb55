use Rattle.std.proofs.Common.{ℕ, ◌-◌, ◌+◌, sym, ◌∙◌, arith, ap}
use Rattle.tl_grammar.specs.Form as form
use Rattle.tl_grammar.specs.Form.{Form}
use Rattle.tl_grammar.specs.Grammar.{and_part, behind, cond_form, in_brackets, negated, nested, not_form, or_part, test, word}
use Rattle.tl_tokens.specs.Seen.{seen}
use Rattle.tl_tokens.proofs.Choices.{reads_first, reads_same, reads_second}
use Rattle.tl_terms.proofs.Nesting.{nested_reads, nested_wants}
use Rattle.tl_tokens.proofs.Rows.{row_ends, row_keeps, row_none}
use Rattle.tl_terms.proofs.condition.+condition.Goals as goal

pub nested-returns-then-depth-eq0 : goal.nested-returns-then-depth-eq0
nested-returns-then-depth-eq0 t c =
    reads_same c.no_more_nested.result _ _ (ap (λ (d : ℕ). (nested d).read (seen c.args.at)) (sym c.if-depth-eq0.true)) c.no_more_nested.ensures

pub not-returns : goal.not-returns
unfolding not_form
not-returns t c =
    reads_second c.test.result (nested c.args.depth) test (seen c.args.at) c.missing.result (sym c.is_nested.ensures ∙ c.if-is_nested.false)
    (c.missing.ensures ∙ ap (λ e. form.missing e (seen c.args.at)) (sym (nested_wants c.args.depth))) c.test.ensures

pub many_and-returns-then-not-is_word : goal.many_and-returns-then-not-is_word
unfolding and_part word
many_and-returns-then-not-is_word t c =
    row_ends behind (λ x. and_part (nested c.args.depth)) (c.left-i-end.result - c.loop-i.i) c.loop-i.found (seen c.loop-i.here) _ _
    c.loop-i.invariant (sym c.is_word.ensures ∙ c.if-not-is_word.true) c.missing.ensures

pub many_and-loop-i-preserved : goal.many_and-loop-i-preserved
unfolding and_part word
many_and-loop-i-preserved t c =
    row_keeps behind (λ x. and_part (nested c.args.depth)) (c.left-i-end.result - c.loop-i.i) (c.left-i-end.result - (c.loop-i.i + 1)) c.loop-i.found c.push.new.self
    (seen c.loop-i.here) (seen c.in_ok-next.after) c.in_ok-next.next _
    (omega arith) c.loop-i.invariant (sym c.is_word.ensures ∙ c.if-not-is_word.false) c.in_ok-next.ensures c.in_ok-push.ensures.ok

pub many_and-returns : goal.many_and-returns
unfolding and_part word
many_and-returns t c =
    row_none behind (λ x. and_part (nested c.args.depth)) (c.left-i-end.result - c.loop-i.i) c.loop-i.found (seen c.loop-i.here) _ _
    (omega arith) c.loop-i.invariant c.missing-2.ensures

pub many_or-returns-then-not-is_word : goal.many_or-returns-then-not-is_word
unfolding or_part word
many_or-returns-then-not-is_word t c =
    row_ends behind (λ x. or_part (nested c.args.depth)) (c.left-i-end.result - c.loop-i.i) c.loop-i.found (seen c.loop-i.here) _ _
    c.loop-i.invariant (sym c.is_word.ensures ∙ c.if-not-is_word.true) c.missing.ensures

pub many_or-loop-i-preserved : goal.many_or-loop-i-preserved
unfolding or_part word
many_or-loop-i-preserved t c =
    row_keeps behind (λ x. or_part (nested c.args.depth)) (c.left-i-end.result - c.loop-i.i) (c.left-i-end.result - (c.loop-i.i + 1)) c.loop-i.found c.push.new.self
    (seen c.loop-i.here) (seen c.in_ok-next.after) c.in_ok-next.next _
    (omega arith) c.loop-i.invariant (sym c.is_word.ensures ∙ c.if-not-is_word.false) c.in_ok-next.ensures c.in_ok-push.ensures.ok

pub many_or-returns : goal.many_or-returns
unfolding or_part word
many_or-returns t c =
    row_none behind (λ x. or_part (nested c.args.depth)) (c.left-i-end.result - c.loop-i.i) c.loop-i.found (seen c.loop-i.here) _ _
    (omega arith) c.loop-i.invariant c.missing-2.ensures

pub nested-returns-then-is_word : goal.nested-returns-then-is_word
unfolding negated word
nested-returns-then-is_word t c =
    reads_same c.negated.result _ _ (nested_reads c.args.depth (c.args.depth - 1) (seen c.args.at) (omega arith))
    (reads_first c.negated.result (negated (nested (c.args.depth - 1))) (in_brackets (cond_form (nested (c.args.depth - 1)))) (seen c.args.at)
    (sym c.is_word.ensures ∙ c.if-is_word.true) c.negated.ensures)

pub nested-returns : goal.nested-returns
unfolding negated word
nested-returns t c =
    reads_same c.condition_in_brackets.result _ _ (nested_reads c.args.depth (c.args.depth - 1) (seen c.args.at) (omega arith))
    (reads_second c.condition_in_brackets.result (negated (nested (c.args.depth - 1))) (in_brackets (cond_form (nested (c.args.depth - 1)))) (seen c.args.at) c.missing.result
    (sym c.is_word.ensures ∙ c.if-is_word.false) c.missing.ensures c.condition_in_brackets.ensures)
