-- What nests, by how much more may.
use Rattle.std.proofs.Common.{◌≡◌, ℕ, zero, suc, Bool, true, false, List, [], ◌∷◌, refl}
use Rattle.tl_grammar.specs.declared.fault.Expected.TheVariants as want
use Rattle.tl_grammar.specs.Token.{Token}
use Rattle.tl_grammar.specs.declared.token.Word.TheVariants as w
use Rattle.tl_grammar.specs.declared.token.Sign.TheVariants as s
use Rattle.tl_grammar.specs.Form.{Cursor, starts, either}
use Rattle.tl_grammar.specs.Grammar.{cond_form, in_brackets, negated, nested, sign, word}
use Rattle.std.specs.Prelude.{◌||◌}

pub nested_begins : (d : ℕ) (ts : List Token) → starts (nested d).begins ts ≡ (starts (word w.Not).begins ts || starts (sign s.Open).begins ts)
unfolding nested negated in_brackets word sign
nested_begins zero [] = refl
nested_begins zero (t ∷ ts) = refl
nested_begins (suc d) [] = refl
nested_begins (suc d) (t ∷ ts) = refl

pub nested_reads : (d m : ℕ) (at : Cursor) → d ≡ suc m → (either (negated (nested m)) (in_brackets (cond_form (nested m)))).read at ≡ (nested d).read at
unfolding nested
nested_reads d m at e = rw e refl

pub or_first : (a b : Bool) → a ≡ true → true ≡ (a || b)
or_first true b h = refl
or_first false b h = absurd (cc)

pub or_second : (a b c : Bool) → a ≡ false → c ≡ b → c ≡ (a || b)
or_second true b c h k = absurd (cc)
or_second false b c h k = k

pub nested_wants : (d : ℕ) → (nested d).wants ≡ want.Word
unfolding nested negated word
nested_wants zero = refl
nested_wants (suc d) = refl
