-- A table of spellings in code, and the one of the grammar.
use Rattle.std.proofs.Common.{◌≡◌, ℕ, Bool, true, false, cond, List, [], ◌∷◌, map, Option, Some, Bor, refl, ap, ◌∙◌}
use Rattle.std.specs.List.{find}
use Rattle.std.specs.Option.{option_map}
use Rattle.std.specs.Str.{bytes_eq, str_eq_ignore_ascii_case, str_to_ascii_lowercase}
use Rattle.tl_grammar.specs.declared.token.Word.{Word}
use Rattle.tl_grammar.specs.declared.token.Sign.{Sign}
use Rattle.tl_grammar.specs.Spelling.{sign_spellings, spelled, word_spellings}
use Rattle.tl_tokens.specs.Tables.{sign_entry, word_entry}

-- an entry, without where its spelling lies
abbrev pub entry_of : {A : Type 0} → Bor (List ℕ) × A → List ℕ × A
entry_of e = (e.0.now, e.1)

found_step : {A : Type 0} (p : List ℕ × A → Bool) (e : Bor (List ℕ) × A) (es : List (Bor (List ℕ) × A)) (t : Bool)
    → option_map (λ (x : Bor (List ℕ) × A). x.1) (find (λ x. p (entry_of x)) es) ≡ option_map (λ (x : List ℕ × A). x.1) (find p (map entry_of es))
    → option_map (λ (x : Bor (List ℕ) × A). x.1) (cond t (Some e) (find (λ x. p (entry_of x)) es)) ≡ option_map (λ (x : List ℕ × A). x.1) (cond t (Some (entry_of e)) (find p (map entry_of es)))
found_step p e es true h = refl
found_step p e es false h = h

pub found : {A : Type 0} (p : List ℕ × A → Bool) (es : List (Bor (List ℕ) × A))
    → option_map (λ (x : Bor (List ℕ) × A). x.1) (find (λ x. p (entry_of x)) es) ≡ option_map (λ (x : List ℕ × A). x.1) (find p (map entry_of es))
found p [] = refl
found p (e ∷ es) = found_step p e es (p (entry_of e)) (found p es)

-- the words of the table are in lower case
pub in_lower_case : (bytes : List ℕ) → option_map (λ (x : List ℕ × Word). x.1) (find (λ (e : List ℕ × Word). str_eq_ignore_ascii_case e.0 bytes) word_spellings) ≡ spelled word_spellings (str_to_ascii_lowercase bytes)
in_lower_case bytes = refl

pub word_found : (bytes : List ℕ) (table : List (Bor (List ℕ) × Word)) (r : Option Word) → map entry_of table ≡ word_spellings
    → r ≡ option_map (λ (x : Bor (List ℕ) × Word). x.1) (word_entry table bytes) → r ≡ spelled word_spellings (str_to_ascii_lowercase bytes)
unfolding word_entry
word_found bytes table r e h =
    h ∙ found (λ (x : List ℕ × Word). str_eq_ignore_ascii_case x.0 bytes) table
    ∙ ap (λ (l : List (List ℕ × Word)). option_map (λ (x : List ℕ × Word). x.1) (find (λ (x : List ℕ × Word). str_eq_ignore_ascii_case x.0 bytes) l)) e ∙ in_lower_case bytes

pub sign_found : (bytes : List ℕ) (table : List (Bor (List ℕ) × Sign)) (r : Option Sign) → map entry_of table ≡ sign_spellings
    → r ≡ option_map (λ (x : Bor (List ℕ) × Sign). x.1) (sign_entry table bytes) → r ≡ spelled sign_spellings bytes
unfolding sign_entry
sign_found bytes table r e h =
    h ∙ found (λ (x : List ℕ × Sign). bytes_eq x.0 bytes) table
    ∙ ap (λ (l : List (List ℕ × Sign)). option_map (λ (x : List ℕ × Sign). x.1) (find (λ (x : List ℕ × Sign). bytes_eq x.0 bytes) l)) e
