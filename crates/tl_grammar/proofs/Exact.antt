-- What is shown of each form.
use Rattle.std.proofs.Common.{◌≡◌, ℕ, ◌≤◌, ◌<◌, Bool, true, false, ◌⊎◌, List, [], ◌∷◌, ◌++◌, length, Result, Ok, Err}
use Rattle.tl_grammar.specs.declared.fault.Fault.{Fault}
use Rattle.tl_grammar.specs.Token.{Token}
use Rattle.tl_grammar.specs.Form.{Cursor, Form, starts}
use Rattle.tl_grammar.specs.Classes.{among}
use Rattle.tl_grammar.specs.Law.{left_of}

abbrev pub put : Cursor → List Token → Cursor
put at ts = record at { rest = ts }

-- the same token, or the end
abbrev pub SameHead : List Token → List Token → Type 0
SameHead [] v = v ≡ []
SameHead (t ∷ ts) v = (w : List Token) × (v ≡ t ∷ w)

abbrev pub Fails : {A : Type 0} → Result A Fault → Type 0
Fails r = (f : Fault) × (r ≡ Err f)

pub record Exact {X : Type 0} (F : Form X) (first : List ℕ) (more : List ℕ) (null : Bool) : Type 0 where
  -- which token begins it
  pub heads : (ts rest : List Token) (x : X) → F.is ts x rest → (starts (among first) ts ≡ true) ⊎ ((null ≡ true) × (ts ≡ rest))
  pub shrinks : (ts rest : List Token) (x : X) → F.is ts x rest → length rest ≤ length ts
  -- what is read is of the form
  pub sound : (at next : Cursor) (x : X) → F.read at ≡ Ok (x, next) → F.is at.rest x next.rest
  -- what is of the form is read, where it can't go on
  pub complete : (at : Cursor) (rest : List Token) (x : X) → F.is at.rest x rest → starts (among more) rest ≡ false
      → (next : Cursor) × (F.read at ≡ Ok (x, next)) × (next.rest ≡ rest)
  -- the tokens that were taken and the next one decide
  pub ok : (at next : Cursor) (x : X) → F.read at ≡ Ok (x, next)
      → (u : List Token) × (at.rest ≡ u ++ next.rest) × ((v : List Token) → SameHead next.rest v → F.read (put at (u ++ v)) ≡ Ok (x, put next v))
  -- also of a fault
  pub err : (at : Cursor) (f : Fault) → F.read at ≡ Err f
      → (u : List Token) × (v : List Token) × (at.rest ≡ u ++ v) × (left_of f ≡ length v) × ((w : List Token) → SameHead v w → Fails (F.read (put at (u ++ w))))

-- a form that isn't empty, and tells by its first token
pub record Opens {X : Type 0} (F : Form X) (first : List ℕ) : Type 0 where
  pub leads : (ts rest : List Token) (x : X) → F.is ts x rest → starts F.begins ts ≡ true
  pub begins : (t : Token) → F.begins t ≡ true → among first t ≡ true
  pub strict : (ts rest : List Token) (x : X) → F.is ts x rest → length rest < length ts
