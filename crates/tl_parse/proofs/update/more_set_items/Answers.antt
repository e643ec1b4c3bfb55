use Rattle.std.proofs.Common.{◌-◌, ◌+◌, sym, ◌∙◌, arith}
use Rattle.tl_grammar.specs.Grammar.{behind, comma, set_item, sign}
use Rattle.tl_tokens.specs.Seen.{seen}
use Rattle.tl_tokens.proofs.Rows.{row_ends, row_keeps, row_none}
use Rattle.tl_parse.proofs.update.more_set_items.Goals as goal

pub returns-then-not-is_sign : goal.returns-then-not-is_sign
unfolding comma sign
returns-then-not-is_sign c =
    row_ends behind (λ x. comma (set_item 64)) (c.left-i-end.result - c.loop-i.i) c.loop-i.found (seen c.loop-i.here) _ _
    c.loop-i.invariant (sym c.is_sign.ensures ∙ c.if-not-is_sign.true) c.missing.ensures

pub loop-i-preserved : goal.loop-i-preserved
unfolding comma sign
loop-i-preserved c =
    row_keeps behind (λ x. comma (set_item 64)) (c.left-i-end.result - c.loop-i.i) (c.left-i-end.result - (c.loop-i.i + 1)) c.loop-i.found c.push-in-loop-i.new.self
    (seen c.loop-i.here) (seen c.in_ok-next.after) c.in_ok-next.next _
    (omega arith) c.loop-i.invariant (sym c.is_sign.ensures ∙ c.if-not-is_sign.false) c.in_ok-next.ensures c.in_ok-push-2.ensures.ok

pub returns : goal.returns
unfolding comma sign
returns c =
    row_none behind (λ x. comma (set_item 64)) (c.left-i-end.result - c.loop-i.i) c.loop-i.found (seen c.loop-i.here) _ _
    (omega arith) c.loop-i.invariant c.missing-2.ensures
