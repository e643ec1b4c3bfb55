use Rattle.std.proofs.Common.{◌+◌, add-one, get_or, take}
use Rattle.std.proofs.Math.Seq.{take-suc}
use Rattle.tl_lex.specs.declared.token.Token.{Token}
use Rattle.tl_lex.specs.declared.token.TokenKind.TheVariants as lexed
use Rattle.tl_tokens.proofs.Lengths.{one_token_more}
use Rattle.tl_tokens.proofs.lexeme.lexemes.Goals as goal

pub loop-token-preserved : goal.loop-token-preserved
loop-token-preserved c =
    let tokens = c.args.tokens.now in
    let i = c.loop-token.token-index in
    let none : Token = record { kind = lexed.Name; start = 0; end = 0 } in
    one_token_more c.args.text.now c.loop-token.found c.push.new.self c.lexeme_in.result (take i tokens) (take (i + 1) tokens) (get_or tokens i none)
    c.loop-token.invariant c.in_ok-push.ensures.ok c.lexeme_in.ensures (rw add-one (take-suc tokens i none c.loop-token-test.true))
