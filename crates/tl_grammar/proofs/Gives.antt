-- What is shown of everything that a form gives.
use Rattle.std.proofs.Common.{◌≡◌, ℕ, ◌≤◌, Bool, ◌⊎◌, inl, inr, List, [], ◌∷◌, ◌++◌, length, length-append, Option, Some, None, sym, subst, arith}
use Rattle.std.specs.List.{AllByRecursion}
use Rattle.tl_grammar.specs.declared.fault.Expected.{Expected}
use Rattle.tl_grammar.specs.declared.token.Sign.TheVariants as s
use Rattle.tl_grammar.specs.Token.{Token}
use Rattle.tl_grammar.specs.Form.{Form, IsRow, ◌>>=◌, either, is_one, one, placed, pure, row, row_by, too_deep}
use Rattle.tl_grammar.specs.Grammar.{behind, comma, in_brackets, list, optional, sign}

-- whatever is read as the form is so
pub record Gives {X : Type 0} (F : Form X) (P : X → Type 0) : Type 0 where
  pub give : (ts rest : List Token) (x : X) → F.is ts x rest → P x

pub weaken : {X : Type 0} (F : Form X) (P Q : X → Type 0) → Gives F P → ((x : X) → P x → Q x) → Gives F Q
weaken F P Q g f = record { give = λ ts rest x h. f x (g.give ts rest x h) }

pub done : {X : Type 0} (P : X → Type 0) (x : X) → P x → Gives (pure x) P
done P x p = record { give = λ ts rest y h. subst P (sym h.0) p }

pub next : {A B : Type 0} (a : Form A) (b : A → Form B) (P : A → Type 0) (Q : B → Type 0) → Gives a P → ((x : A) → P x → Gives (b x) Q) → Gives (a >>= b) Q
next a b P Q ga gb = record { give = λ ts rest y h. (gb h.0 (ga.give ts h.1 h.0 h.2)).give h.1 rest y h.3 }

pub skip : {A B : Type 0} (a : Form A) (b : A → Form B) (Q : B → Type 0) → ((x : A) → Gives (b x) Q) → Gives (a >>= b) Q
skip a b Q gb = record { give = λ ts rest y h. (gb h.0).give h.1 rest y h.3 }

give_either : {X : Type 0} (a b : Form X) (P : X → Type 0) → Gives a P → Gives b P → (ts rest : List Token) (x : X) → a.is ts x rest ⊎ b.is ts x rest → P x
give_either a b P ga gb ts rest x (inl h) = ga.give ts rest x h
give_either a b P ga gb ts rest x (inr h) = gb.give ts rest x h

pub or : {X : Type 0} (a b : Form X) (P : X → Type 0) → Gives a P → Gives b P → Gives (either a b) P
or a b P ga gb = record { give = give_either a b P ga gb }

give_one : {X : Type 0} (pick : Token → Option X) (P : X → Type 0) → ((t : Token) (x : X) → pick t ≡ Some x → P x) → (ts rest : List Token) (x : X) → is_one pick ts x rest → P x
give_one pick P f [] rest x h = absurd h
give_one pick P f (t ∷ ts) rest x h = f t x h.0

pub token : {X : Type 0} (e : Expected) (pick : Token → Option X) (P : X → Type 0) → ((t : Token) (x : X) → pick t ≡ Some x → P x) → Gives (one e pick) P
token e pick P f = record { give = give_one pick P f }

pub never : {X : Type 0} (begins : Token → Bool) (e : Expected) (P : X → Type 0) → Gives (too_deep begins e) P
never begins e P = record { give = λ ts rest x h. absurd h }

pub with_place : {X : Type 0} (a : Form X) (P : X → Type 0) → Gives a P → Gives (placed a) (λ (x : ℕ × X). P x.1)
with_place a P g = record { give = λ ts rest x h. g.give ts rest x.1 h.0 }

give_row : {X Y : Type 0} (step : X → Y → X) (F : X → Form Y) (P : X → Type 0) (Q : Y → Type 0) → ((x : X) → Gives (F x) Q) → ((x : X) (y : Y) → P x → Q y → P (step x y))
    → (ys : List Y) (acc x : X) (ts rest : List Token) → P acc → IsRow step F acc ts ys x rest → P x
give_row step F P Q g keeps [] acc x ts rest p h = subst P (sym h.0) p
give_row step F P Q g keeps (y ∷ ys) acc x ts rest p h =
    give_row step F P Q g keeps ys (step acc y) x h.0 rest (keeps acc y p ((g acc).give ts h.0 y h.1)) h.2

pub many_by : {X Y : Type 0} (step : X → Y → X) (F : X → Form Y) (acc : X) (P : X → Type 0) (Q : Y → Type 0) → ((x : X) → Gives (F x) Q) → ((x : X) (y : Y) → P x → Q y → P (step x y))
    → P acc → Gives (row_by step F acc) P
many_by step F acc P Q g keeps p = record { give = λ ts rest x h. give_row step F P Q g keeps h.0 acc x ts rest p h.1 }

-- lists
pub all_behind : {X : Type 0} (P : X → Type 0) (xs : List X) (y : X) → AllByRecursion P xs → P y → AllByRecursion P (xs ++ y ∷ [])
all_behind P [] y a p = (p, tt)
all_behind P (x ∷ xs) y a p = (a.0, all_behind P xs y a.1 p)

pub many : {X : Type 0} (F : Form X) (acc : List X) (P : X → Type 0) → Gives F P → AllByRecursion P acc → Gives (row behind F acc) (AllByRecursion P)
many F acc P g a = many_by behind (λ so_far. F) acc (AllByRecursion P) P (λ so_far. g) (λ xs y. all_behind P xs y) a

-- one or more, of which each is so
abbrev pub ListOf : {X : Type 0} → (X → Type 0) → List X → Type 0
ListOf P xs = (1 ≤ length xs) × AllByRecursion P xs

pub list_behind : {X : Type 0} (P : X → Type 0) (xs : List X) (y : X) → ListOf P xs → P y → ListOf P (xs ++ y ∷ [])
list_behind P xs y l p = let long = length-append xs (y ∷ []) in (omega arith, all_behind P xs y l.1 p)

pub after_comma : {X : Type 0} (F : Form X) (P : X → Type 0) → Gives F P → Gives (comma F) P
unfolding comma
after_comma F P g = skip (sign s.Comma) (λ at. F) P (λ at. g)

pub list_gives : {X : Type 0} (F : Form X) (P : X → Type 0) → Gives F P → Gives (list F) (ListOf P)
unfolding list
list_gives F P g =
    next F (λ first. row behind (comma F) (first ∷ [])) P (ListOf P) g
    (λ first p. many_by behind (λ so_far. comma F) (first ∷ []) (ListOf P) P (λ so_far. after_comma F P g) (λ xs y. list_behind P xs y) (omega arith, (p, tt)))

pub bracketed_gives : {X : Type 0} (F : Form X) (P : X → Type 0) → Gives F P → Gives (in_brackets F) P
unfolding in_brackets
bracketed_gives F P g =
    skip (sign s.Open) (λ at. F >>= (λ x. sign s.Close >>= (λ end. pure x))) P
    (λ at. next F (λ x. sign s.Close >>= (λ end. pure x)) P P g (λ x p. skip (sign s.Close) (λ end. pure x) P (λ end. done P x p)))

abbrev pub WhereGiven : {X : Type 0} → (X → Type 0) → Option X → Type 0
WhereGiven P None = Unit {0}
WhereGiven P (Some x) = P x

pub optional_gives : {X : Type 0} (F : Form X) (P : X → Type 0) → Gives F P → Gives (optional F) (WhereGiven P)
unfolding optional
optional_gives F P g =
    or (F >>= (λ x. pure (Some x))) (pure None) (WhereGiven P) (next F (λ x. pure (Some x)) P (WhereGiven P) g (λ x p. done (WhereGiven P) (Some x) p)) (done (WhereGiven P) None tt)
