use Rattle.std.proofs.Common.{ℕ, ◌-◌, ◌+◌, sym, ◌∙◌, arith, ap}
use Rattle.tl_grammar.specs.Grammar.{behind, bracketed, factor, name, column, column_operand, operand_form, plain, plus, plus_or_minus, sign, times}
use Rattle.tl_tokens.specs.Seen.{seen}
use Rattle.tl_tokens.proofs.Choices.{reads_same, reads_second}
use Rattle.tl_tokens.proofs.Rows.{row_ends, row_keeps, row_none}
use Rattle.tl_terms.proofs.arithmetic.+expression.Goals as goal

pub bracketed-returns-then-depth-eq0 : goal.bracketed-returns-then-depth-eq0
bracketed-returns-then-depth-eq0 t c =
    reads_same c.no_more_brackets.result _ _ (ap (λ (d : ℕ). (bracketed d).read (seen c.args.at)) (sym c.if-depth-eq0.true)) c.no_more_brackets.ensures

pub factor-returns : goal.factor-returns
unfolding factor plain operand_form column_operand column name
factor-returns t c =
    reads_second c.bracketed.result plain (bracketed c.args.depth) (seen c.args.at) c.missing.result (sym c.is_plain.ensures ∙ c.if-is_plain.false) c.missing.ensures c.bracketed.ensures

pub many_times-returns-then-not-is_sign : goal.many_times-returns-then-not-is_sign
unfolding times sign
many_times-returns-then-not-is_sign t c =
    row_ends behind (λ x. times (bracketed c.args.depth)) (c.left-i-end.result - c.loop-i.i) c.loop-i.found (seen c.loop-i.here) _ _
    c.loop-i.invariant (sym c.is_sign.ensures ∙ c.if-not-is_sign.true) c.missing.ensures

pub many_times-loop-i-preserved : goal.many_times-loop-i-preserved
unfolding times sign
many_times-loop-i-preserved t c =
    row_keeps behind (λ x. times (bracketed c.args.depth)) (c.left-i-end.result - c.loop-i.i) (c.left-i-end.result - (c.loop-i.i + 1)) c.loop-i.found c.push.new.self
    (seen c.loop-i.here) (seen c.in_ok-next.after) c.in_ok-next.next _
    (omega arith) c.loop-i.invariant (sym c.is_sign.ensures ∙ c.if-not-is_sign.false) c.in_ok-next.ensures c.in_ok-push.ensures.ok

pub many_times-returns : goal.many_times-returns
unfolding times sign
many_times-returns t c =
    row_none behind (λ x. times (bracketed c.args.depth)) (c.left-i-end.result - c.loop-i.i) c.loop-i.found (seen c.loop-i.here) _ _
    (omega arith) c.loop-i.invariant c.missing-2.ensures

pub many_plus-returns-then-not-is_plus_or_minus : goal.many_plus-returns-then-not-is_plus_or_minus
unfolding plus plus_or_minus
many_plus-returns-then-not-is_plus_or_minus t c =
    row_ends behind (λ x. plus (bracketed c.args.depth)) (c.left-i-end.result - c.loop-i.i) c.loop-i.found (seen c.loop-i.here) _ _
    c.loop-i.invariant (sym c.is_plus_or_minus.ensures ∙ c.if-not-is_plus_or_minus.true) c.missing.ensures

pub many_plus-loop-i-preserved : goal.many_plus-loop-i-preserved
unfolding plus plus_or_minus
many_plus-loop-i-preserved t c =
    row_keeps behind (λ x. plus (bracketed c.args.depth)) (c.left-i-end.result - c.loop-i.i) (c.left-i-end.result - (c.loop-i.i + 1)) c.loop-i.found c.push.new.self
    (seen c.loop-i.here) (seen c.in_ok-next.after) c.in_ok-next.next _
    (omega arith) c.loop-i.invariant (sym c.is_plus_or_minus.ensures ∙ c.if-not-is_plus_or_minus.false) c.in_ok-next.ensures c.in_ok-push.ensures.ok

pub many_plus-returns : goal.many_plus-returns
unfolding plus plus_or_minus
many_plus-returns t c =
    row_none behind (λ x. plus (bracketed c.args.depth)) (c.left-i-end.result - c.loop-i.i) c.loop-i.found (seen c.loop-i.here) _ _
    (omega arith) c.loop-i.invariant c.missing-2.ensures
