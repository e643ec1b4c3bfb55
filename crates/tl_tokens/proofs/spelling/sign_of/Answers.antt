use Rattle.std.proofs.Common.{List, ℕ, Bor, ap, refl}
use Rattle.std.specs.Option.{option_map}
use Rattle.tl_grammar.specs.declared.token.Sign.{Sign}
use Rattle.tl_tokens.proofs.Spellings.{sign_found}
use Rattle.tl_tokens.proofs.spelling.sign_of.Goals as goal

pub returns-in-Some : goal.returns-in-Some
returns-in-Some c = sign_found c.args.bytes.now _ _ refl (ap (option_map (λ (x : Bor (List ℕ) × Sign). x.1)) c.in-Some.ensures)

pub returns-in-None : goal.returns-in-None
returns-in-None c = sign_found c.args.bytes.now _ _ refl (ap (option_map (λ (x : Bor (List ℕ) × Sign). x.1)) c.in-None.ensures)
