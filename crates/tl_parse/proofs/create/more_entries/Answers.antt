use Rattle.std.proofs.Common.{◌-◌, ◌+◌, ◌∙◌, None, Ok, Some, ap, arith, refl, sym}
use Rattle.std.proofs.lemmas.Result.{err_from_is_err_and}
use Rattle.tl_grammar.specs.Grammar as grammar
use Rattle.tl_grammar.specs.Grammar.{comma, entry, sign, with_entry}
use Rattle.tl_parse.specs.declared.create.Entry.{Entry}
use Rattle.tl_parse.specs.Entries.{entry_of}
use Rattle.tl_tokens.specs.Seen.{seen}
use Rattle.tl_tokens.proofs.Rows.{never, row_ends, row_keeps, row_none, row_stopped}
use Rattle.tl_parse.proofs.create.more_entries.Goals as goal

pub returns-then-not-is_sign : goal.returns-then-not-is_sign
unfolding entry comma sign
returns-then-not-is_sign c =
    row_ends with_entry (λ so_far. entry so_far.1) (c.left-i-end.result - c.loop-i.i) (c.loop-i.columns, None) (seen c.loop-i.here) _ _
    c.loop-i.invariant (sym c.is_sign.ensures ∙ c.if-not-is_sign.true) c.missing.ensures

pub returns-in_err-next : goal.returns-in_err-next
unfolding entry comma sign
returns-in_err-next c =
    let p = err_from_is_err_and c.from_residual-in_err-next.result c.from_residual-in_err-next.ensures.1 in
    rw p.1 (rw p.2
    (row_stopped with_entry (λ so_far. entry so_far.1) (c.left-i-end.result - c.loop-i.i) (c.left-i-end.result - (c.loop-i.i + 1)) (c.loop-i.columns, None) (seen c.loop-i.here) _ _
    (omega arith) c.loop-i.invariant (sym c.is_sign.ensures ∙ c.if-not-is_sign.false) c.in_err-next.ensures))

pub returns-in-Key : goal.returns-in-Key
unfolding entry comma sign
returns-in-Key c =
    row_ends with_entry (λ so_far. entry so_far.1) (c.left-i-end.result - (c.loop-i.i + 1)) (c.loop-i.columns, Some c.in-Key.key) (seen c.in_ok-next.after) _ _
    (row_keeps with_entry (λ so_far. entry so_far.1) (c.left-i-end.result - c.loop-i.i) (c.left-i-end.result - (c.loop-i.i + 1)) (c.loop-i.columns, None) (c.loop-i.columns, Some c.in-Key.key)
    (seen c.loop-i.here) (seen c.in_ok-next.after) (grammar.Key c.in-Key.key) _
    (omega arith) c.loop-i.invariant (sym c.is_sign.ensures ∙ c.if-not-is_sign.false)
    (c.in_ok-next.ensures ∙ ap (λ (e : Entry). Ok (entry_of e, seen c.in_ok-next.after)) c.in-Key.is) refl)
    (never (seen c.in_ok-next.after).rest) c.missing-in-Key.ensures

pub loop-i-preserved : goal.loop-i-preserved
unfolding entry comma sign
loop-i-preserved c =
    row_keeps with_entry (λ so_far. entry so_far.1) (c.left-i-end.result - c.loop-i.i) (c.left-i-end.result - (c.loop-i.i + 1)) (c.loop-i.columns, None) (c.push-in-Column.new.self, None)
    (seen c.loop-i.here) (seen c.in_ok-next.after) (grammar.Column c.in-Column.column) _
    (omega arith) c.loop-i.invariant (sym c.is_sign.ensures ∙ c.if-not-is_sign.false)
    (c.in_ok-next.ensures ∙ ap (λ (e : Entry). Ok (entry_of e, seen c.in_ok-next.after)) c.in-Column.is) (rw c.in_ok-push-in-Column.ensures.ok refl)

pub returns : goal.returns
unfolding entry comma sign
returns c =
    row_none with_entry (λ so_far. entry so_far.1) (c.left-i-end.result - c.loop-i.i) (c.loop-i.columns, None) (seen c.loop-i.here) _ _
    (omega arith) c.loop-i.invariant c.missing-2.ensures
