use Rattle.tl_lex.proofs.Found.{cut_given, order_given, place_given, signed_given}
use Rattle.tl_lex.proofs.lexer.lex.Goals as goal

pub returns-clause-in_order : goal.returns-clause-in_order
returns-clause-in_order c = order_given c.args.text.now c.tokens_of.result c.utf8.text (rw (← c.as_bytes.ensures.value) c.tokens_of.ensures)

pub returns-clause-cut : goal.returns-clause-cut
returns-clause-cut c = cut_given c.args.text.now c.tokens_of.result c.utf8.text (rw (← c.as_bytes.ensures.value) c.tokens_of.ensures)

pub returns-clause-signed : goal.returns-clause-signed
returns-clause-signed c = signed_given c.args.text.now c.tokens_of.result c.utf8.text (rw (← c.as_bytes.ensures.value) c.tokens_of.ensures)

pub returns-clause-place : goal.returns-clause-place
returns-clause-place c = place_given c.args.text.now c.tokens_of.result c.utf8.text (rw (← c.as_bytes.ensures.value) c.tokens_of.ensures)
