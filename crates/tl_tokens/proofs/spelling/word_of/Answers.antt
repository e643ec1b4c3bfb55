use Rattle.std.proofs.Common.{List, ℕ, Bor, ap, refl}
use Rattle.std.specs.Option.{option_map}
use Rattle.tl_grammar.specs.declared.token.Word.{Word}
use Rattle.tl_tokens.proofs.Spellings.{word_found}
use Rattle.tl_tokens.proofs.spelling.word_of.Goals as goal

pub returns-in-Some : goal.returns-in-Some
returns-in-Some c = word_found c.args.bytes.now _ _ refl (ap (option_map (λ (x : Bor (List ℕ) × Word). x.1)) c.in-Some.ensures)

pub returns-in-None : goal.returns-in-None
returns-in-None c = word_found c.args.bytes.now _ _ refl (ap (option_map (λ (x : Bor (List ℕ) × Word). x.1)) c.in-None.ensures)
