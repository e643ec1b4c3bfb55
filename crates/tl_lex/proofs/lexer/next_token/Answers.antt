use Rattle.std.proofs.Common.{◌<◌, length, sym, ap, ◌∙◌, arith}
use Rattle.std.proofs.lemmas.List.{length-drop}
use Rattle.tl_lex.proofs.Fronts.{found_front}
use Rattle.tl_lex.proofs.lexer.next_token.Goals as goal

pub overflow_cast-result : goal.overflow_cast-result
overflow_cast-result c =
    let front = found_front c.args.before c.from_place.result.now (c.in-Ok.kind, c.in-Ok.len) (sym c.token_at.ensures ∙ c.in-Ok.is) in
    omega (arith, front.within, ap length c.from_place.ensures, length-drop c.past_blanks-start.result c.args.text.now)

pub overflow_add-result : goal.overflow_add-result
overflow_add-result c =
    let front = found_front c.args.before c.from_place.result.now (c.in-Ok.kind, c.in-Ok.len) (sym c.token_at.ensures ∙ c.in-Ok.is) in
    omega (arith, front.within, ap length c.from_place.ensures, length-drop c.past_blanks-start.result c.args.text.now)

pub returns-in-Ok-clause-within : goal.returns-in-Ok-clause-within
returns-in-Ok-clause-within c =
    let front = found_front c.args.before c.from_place.result.now (c.in-Ok.kind, c.in-Ok.len) (sym c.token_at.ensures ∙ c.in-Ok.is) in
    let some : 0 < c.in-Ok.len = front.some in (
      c.past_blanks-start.ensures.behind,
      omega arith,
      omega (arith, front.within, ap length c.from_place.ensures, length-drop c.past_blanks-start.result c.args.text.now),
    )
