use Rattle.std.proofs.Common.{arith, refl}
use Rattle.tl_tokens.proofs.Quotes.{after_utf8, no_quote_more, one_quote_more, shorter}
use Rattle.tl_tokens.proofs.text.unquoted.Goals as goal

pub loop-before-init : goal.loop-before-init
loop-before-init c = (c.utf8.quoted, rw c.new-found.ensures.bytes refl)

pub split_once-requires-text-self : goal.split_once-requires-text-self
split_once-requires-text-self c κs = c.loop-before.invariant.0

pub loop-before-smaller : goal.loop-before-smaller
loop-before-smaller c = let found = c.in-Some.ensures.byte (omega arith) (λ w o h. h) in shorter c.loop-before.rest.now c.in-Some.after.now found.2 found.1

pub loop-before-preserved : goal.loop-before-preserved
loop-before-preserved c =
    let found = c.in-Some.ensures.byte (omega arith) (λ w o h. h) in (
      after_utf8 c.loop-before.rest.now c.in-Some.after.now c.loop-before.invariant.0 found.2 found.1,
      one_quote_more _ _ c.loop-before.rest.now c.in-Some.before.now c.in-Some.after.now _ c.loop-before.after_quote c.in_ok-after_quote.after_quote
          c.loop-before.invariant.1 found.2 found.0 found.1 c.in_ok-after_quote.ensures.quote c.in_ok-after_quote.ensures.found,
    )

pub push_str-requires-text-string : goal.push_str-requires-text-string
push_str-requires-text-string c κs = c.loop-before.invariant.0

pub returns : goal.returns
returns c =
    no_quote_more _ c.loop-before.rest.now _ _ c.from_string.result c.loop-before.after_quote
    c.loop-before.invariant.1 (c.in_default.ensures.byte (omega arith) (λ w o h. h)) c.in_ok-push_str.ensures.bytes c.from_string.ensures
