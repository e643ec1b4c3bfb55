use Rattle.std.proofs.Common.{List, subst, sym}
use Rattle.std.specs.Prelude.{All}
use Rattle.tl_lex.specs.declared.token.Token as lex
use Rattle.tl_parse.specs.Read.{Answers, read, statement_of}
use Rattle.tl_tokens.specs.Tokens.{IsWritten}
use Rattle.tl_parse.proofs.Answered.{read_answers}
use Rattle.tl_parse.proofs.Few.{few_answer}
use Rattle.tl_parse.proofs.Whole.{whole_answer}
use Rattle.tl_tokens.proofs.Pieces.{all_written}
use Rattle.tl_parse.proofs.parser.parse.Goals as goal

pub read-requires-clause-written : goal.read-requires-clause-written
read-requires-clause-written c =
    subst (λ (tokens : List lex.Token). All (IsWritten c.args.text.now) tokens) (sym c.as_slice.ensures)
    (all_written c.args.text.now c.in_ok-tokens.tokens c.in_ok-tokens.ensures.in_order c.in_ok-tokens.ensures.cut)

pub returns : goal.returns
returns c =
    let answered : Answers c.read.result (statement_of c.args.text.now) =
    read_answers c.args.text.now c.in_ok-tokens.tokens c.read.result c.in_ok-tokens.ensures.exact
    (subst (λ (tokens : List lex.Token). Answers c.read.result (read c.args.text.now tokens)) c.as_slice.ensures c.read.ensures) in
    record {
      exact = answered;
      whole = whole_answer c.args.text.now c.read.result answered;
      few = few_answer c.args.text.now c.in_ok-tokens.tokens c.read.result c.in_ok-tokens.ensures.in_order c.in_ok-tokens.ensures.exact answered;
    }
