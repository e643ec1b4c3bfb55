use Rattle.std.proofs.Common.{◌≡◌, ℕ, List, Option, Some, None, ap, ◌∙◌}
use Rattle.std.proofs.lemmas.Result.{err_from_is_err_and}
use Rattle.tl_values.specs.Reading.{read_byte, read_escaped}
use Rattle.tl_values.proofs.EscapedOn.{ends, goes_on, is_done, shorter}
use Rattle.tl_values.proofs.reading.escaped_of.Goals as goal

read_at : (bytes : List ℕ) (o p : Option ℕ) (rest : List ℕ) → read_byte bytes ≡ Some (o, rest) → o ≡ p → read_byte bytes ≡ Some (p, rest)
read_at bytes o p rest e same = e ∙ ap (λ (q : Option ℕ). Some (q, rest)) same

pub returns-in_err-byte : goal.returns-in_err-byte
returns-in_err-byte c =
    let p = err_from_is_err_and c.from_residual.result c.from_residual.ensures.1 in
    rw (p.1, p.2) (ends c.in_err-byte.field-0.0 c.loop-text.text.items c.loop-text.rest.now (read_escaped c.args.bytes.now) c.in_err-byte.ensures c.loop-text.invariant)

pub returns-in_default : goal.returns-in_default
returns-in_default c =
    is_done c.loop-text.text.items c.loop-text.rest.now c.in_ok-byte.after.now (read_escaped c.args.bytes.now)
    (read_at c.loop-text.rest.now c.in_ok-byte.byte None c.in_ok-byte.after.now c.in_ok-byte.ensures c.in_default.is) c.loop-text.invariant

pub loop-text-smaller : goal.loop-text-smaller
loop-text-smaller c =
    shorter c.loop-text.rest.now c.in-Some.byte c.in_ok-byte.after.now
    (read_at c.loop-text.rest.now c.in_ok-byte.byte (Some c.in-Some.byte) c.in_ok-byte.after.now c.in_ok-byte.ensures c.in-Some.is)

pub loop-text-preserved : goal.loop-text-preserved
loop-text-preserved c =
    rw c.in_ok-push.ensures.items
    (goes_on c.loop-text.text.items c.loop-text.rest.now c.in-Some.byte c.in_ok-byte.after.now (read_escaped c.args.bytes.now)
    (read_at c.loop-text.rest.now c.in_ok-byte.byte (Some c.in-Some.byte) c.in_ok-byte.after.now c.in_ok-byte.ensures c.in-Some.is) c.loop-text.invariant)
