use Rattle.std.proofs.Common.{◌<◌, sym, ap, ◌∙◌, arith, Ok}
use Rattle.std.proofs.lemmas.Result.{err_from_is_err_and}
use Rattle.tl_lex.proofs.Turns.{none_so_far, one_more, all_found, fault_found}
use Rattle.tl_lex.proofs.lexer.tokens_of.Goals as goal

pub loop-tokens-init : goal.loop-tokens-init
loop-tokens-init c = record { within = omega arith; so_far = rw c.new-tokens.ensures (none_so_far c.args.text.now) }

pub returns-in_err-token : goal.returns-in_err-token
returns-in_err-token c =
    let at = c.loop-tokens in
    let p = err_from_is_err_and c.from_residual.result c.from_residual.ensures.1 in
    rw (p.1, p.2)
    (fault_found c.args.text.now at.tokens at.before at.at c.in_err-token.field-0.0 at.invariant.so_far at.invariant.within
    (sym c.next_token.ensures.token ∙ c.in_err-token.was))

pub loop-tokens-preserved : goal.loop-tokens-preserved
loop-tokens-preserved c =
    let at = c.loop-tokens in
    let spans = rw c.in-Some.is at c.in_ok-token.ensures.within in
    let behind : at.at < c.in-Some.token.end = omega (arith, spans.0, spans.1) in
    record {
      within = spans.2;
      so_far =
          rw (c.in_ok-push.ensures.ok, c.after-before.ensures)
          (one_more c.args.text.now at.tokens at.before at.at c.in-Some.token at.invariant.so_far behind spans.2
          (sym c.next_token.ensures.token ∙ (c.in_ok-token.was ∙ ap Ok c.in-Some.is)));
    }

pub returns : goal.returns
returns c =
    let at = c.loop-tokens in
    all_found c.args.text.now at.tokens at.before at.at at.invariant.so_far at.invariant.within
    (sym c.next_token.ensures.token ∙ (c.in_ok-token.was ∙ ap Ok c.in_default.is))
