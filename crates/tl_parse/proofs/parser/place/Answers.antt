use Rattle.std.proofs.Common.{List, ℕ, ◌-◌, ◌∙◌, ap, drop, sym}
use Rattle.tl_grammar.specs.Grammar.{place_or_end}
use Rattle.tl_grammar.specs.Token.{Token}
use Rattle.tl_tokens.specs.Lexemes.{tokens_of}
use Rattle.tl_tokens.proofs.Lengths.{drop-tokens, length-tokens}
use Rattle.tl_parse.proofs.parser.place.Goals as goal

pub returns : goal.returns
returns c =
    c.place_or_end.ensures
    ∙ ap (λ (ts : List Token). place_or_end c.args.end ts)
    (ap tokens_of c.split_at.ensures.back ∙ sym (drop-tokens c.saturating_sub.result c.args.tokens.now)
    ∙ ap (λ (n : ℕ). drop n (tokens_of c.args.tokens.now)) (c.saturating_sub.ensures ∙ ap (λ (n : ℕ). n - c.args.left) (sym (length-tokens c.args.tokens.now))))
