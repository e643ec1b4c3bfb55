-- What a form looks for in vain goes on there.
use Rattle.std.proofs.Common.{◌≡◌, ℕ, zero, suc, Bool, true, false, ◌⊎◌, inl, inr, List, [], ◌∷◌, ◌++◌, append_assoc, length, Option, Some, None, Ok, Err, refl, sym, subst, ap, ◌∙◌}
use Rattle.std.proofs.lemmas.List.{append-nil}
use Rattle.tl_grammar.specs.declared.fault.Expected.{Expected}
use Rattle.tl_grammar.specs.declared.fault.Fault.TheVariants as fault
use Rattle.tl_grammar.specs.Token.{Token}
use Rattle.tl_grammar.specs.Form.{Cursor, Form, ◌>>=◌, either, missing, nothing, one, or_else, picked, place_of, placed, pure, read_one, read_row, refused, row_by, some, starts, too_deep}
use Rattle.tl_grammar.specs.Law.{expected_of}
use Rattle.tl_grammar.proofs.Sets.{same_front}
use Rattle.tl_grammar.proofs.Combine.{bind_err, bind_ok, same_fault, same_ok, sound_pick}
use Rattle.tl_grammar.proofs.Choose.{by_start, first_read, second_read}
use Rattle.tl_grammar.proofs.Rows.{row_stops, row_takes}
use Rattle.tl_grammar.proofs.RowLaw.{ends_ok}
use Rattle.tl_grammar.proofs.Alive.{Alive, Sample, regroup}
use Rattle.tl_grammar.proofs.Deeper.{not_deep, not_ok}
use Rattle.tl_grammar.proofs.Placed.{at_place, token_place}

-- behind these tokens there is one that goes on with a token of this kind
abbrev pub On : {X : Type 0} → Form X → List Token → Expected → Type 0
On {X} G u w = (t : Token) × (expected_of t.kind ≡ Some w) × (s : List Token) × (x : X) × ((tail : List Token) → G.is (u ++ (t ∷ (s ++ tail))) x tail)

-- what was looked for before any of these tokens is forgotten behind them
abbrev pub carried : Option Expected → List Token → Option Expected
carried from [] = from
carried from (t ∷ u) = None

-- nothing more was looked for, or what has this property
abbrev pub Sought : (Expected → Type 0) → Option Expected → Option Expected → Type 0
Sought P from to = (to ≡ from) ⊎ ((w : Expected) × (to ≡ Some (or_else from w)) × P w)

abbrev pub Named : (Expected → Type 0) → Option Expected → Expected → Type 0
Named P from e = (w : Expected) × (e ≡ or_else from w) × P w

abbrev pub Never : Expected → Type 0
Never w = ⊥

-- what it may look for though it doesn't go on with it
abbrev pub OkAt : {X : Type 0} → (Expected → Type 0) → Form X → Form X → Cursor → Type 0
OkAt {X} E F G at = (next : Cursor) (x : X) → F.read at ≡ Ok (x, next) → (u : List Token) × (at.rest ≡ u ++ next.rest) × Sought (λ w. On G u w ⊎ E w) (carried at.wanted u) next.wanted

abbrev pub ErrAt : {X : Type 0} → Form X → Form X → Cursor → Type 0
ErrAt F G at = (l : ℕ) (e : Expected) → F.read at ≡ Err (fault.Parse l e)
    → (u : List Token) × (v : List Token) × (at.rest ≡ u ++ v) × (l ≡ length v) × Named (λ w. On G u w) (carried at.wanted u) e

pub record Seeks {X : Type 0} (E : Expected → Type 0) (F G : Form X) : Type 0 where
  pub ok : (at : Cursor) → OkAt E F G at
  pub err : (at : Cursor) → ErrAt F G at

-- where it has begun
abbrev pub BegunSeeks : {X : Type 0} → Form X → Form X → Type 0
BegunSeeks F G = (at : Cursor) → starts F.begins at.rest ≡ true → OkAt Never F G at × ErrAt F G at

pub as_begun : {X : Type 0} (F G : Form X) → Seeks Never F G → BegunSeeks F G
as_begun F G s at e = (s.ok at, s.err at)

sought_map : (P Q : Expected → Type 0) (from to : Option Expected) → ((w : Expected) → P w → Q w) → Sought P from to → Sought Q from to
sought_map P Q from to f (inl e) = inl e
sought_map P Q from to f (inr k) = inr (k.0, k.1, f k.0 k.2)

pub named_map : (P Q : Expected → Type 0) (from : Option Expected) (e : Expected) → ((w : Expected) → P w → Q w) → Named P from e → Named Q from e
named_map P Q from e f k = (k.0, k.1, f k.0 k.2)

pub carried_more : (from : Option Expected) (u : List Token) (t : Token) (v : List Token) → None ≡ carried from (u ++ (t ∷ v))
carried_more from [] t v = refl
carried_more from (s ∷ u) t v = refl

pub carried_none : (from : Option Expected) (u : List Token) → carried from u ≡ carried from (u ++ [])
carried_none from [] = refl
carried_none from (s ∷ u) = refl

-- one after the other, with no token of the second
sought_by : (P Q R : Expected → Type 0) (from mid to : Option Expected) → ((w : Expected) → P w → R w) → ((w : Expected) → Q w → R w) → Sought P from mid → Sought Q mid to → Sought R from to
sought_by P Q R from mid to f g (inl e) s = sought_map Q R from to g (subst (λ (z : Option Expected). Sought Q z to) e s)
sought_by P Q R from mid to f g (inr k) (inl h) = inr (k.0, h ∙ k.1, f k.0 k.2)
sought_by P Q R from mid to f g (inr k) (inr m) = inr (k.0, m.1 ∙ ap (λ (z : Option Expected). Some (or_else z m.0)) k.1, f k.0 k.2)

named_by : (P Q R : Expected → Type 0) (from mid : Option Expected) (e : Expected) → ((w : Expected) → P w → R w) → ((w : Expected) → Q w → R w) → Sought P from mid → Named Q mid e → Named R from e
named_by P Q R from mid e f g (inl h) s = named_map Q R from e g (subst (λ (z : Option Expected). Named Q z e) h s)
named_by P Q R from mid e f g (inr k) m = (k.0, m.1 ∙ ap (λ (z : Option Expected). or_else z m.0) k.1, f k.0 k.2)

pub sought_two : (P Q R : Expected → Type 0) (from mid to : Option Expected) (u v : List Token) → ((w : Expected) → v ≡ [] → P w → R w) → ((w : Expected) → Q w → R w)
    → Sought P (carried from u) mid → Sought Q (carried mid v) to → Sought R (carried from (u ++ v)) to
sought_two P Q R from mid to u [] f g a b = subst (λ (z : Option Expected). Sought R z to) (carried_none from u) (sought_by P Q R (carried from u) mid to (λ w. f w refl) g a b)
sought_two P Q R from mid to u (t ∷ v) f g a b = subst (λ (z : Option Expected). Sought R z to) (carried_more from u t v) (sought_map Q R None to g b)

pub named_two : (P Q R : Expected → Type 0) (from mid : Option Expected) (e : Expected) (u v : List Token) → ((w : Expected) → v ≡ [] → P w → R w) → ((w : Expected) → Q w → R w)
    → Sought P (carried from u) mid → Named Q (carried mid v) e → Named R (carried from (u ++ v)) e
named_two P Q R from mid e u [] f g a b = subst (λ (z : Option Expected). Named R z e) (carried_none from u) (named_by P Q R (carried from u) mid e (λ w. f w refl) g a b)
named_two P Q R from mid e u (t ∷ v) f g a b = subst (λ (z : Option Expected). Named R z e) (carried_more from u t v) (named_map Q R None e g b)

or_extra : {X : Type 0} (E : Expected → Type 0) (F G : Form X) (u v : List Token) (w : Expected) → (On F u w → On G v w) → On F u w ⊎ E w → On G v w ⊎ E w
or_extra E F G u v w f (inl h) = inl (f h)
or_extra E F G u v w f (inr h) = inr h

-- no token
pub pure_seeks : {X : Type 0} (x : X) → Seeks Never (pure x) (pure x)
pure_seeks {X} x =
    record {
      ok = λ at next y h. let z = same_ok {A = X × Cursor} (x, at) (y, next) h in ([], ap (λ (r : X × Cursor). r.1.rest) z, inl (ap (λ (r : X × Cursor). r.1.wanted) (sym z)));
      err = λ at l e h. absurd (cc);
    }

-- one token
one_ok : {X : Type 0} (e : Expected) (pick : Token → Option X) (at next : Cursor) (x : X) (ts : List Token) → read_one pick e at ts ≡ Ok (x, next)
    → (u : List Token) × (ts ≡ u ++ next.rest) × Sought (λ w. On (one e pick) u w ⊎ Never w) (carried at.wanted u) next.wanted
one_ok e pick at next x [] h = absurd (cc)
one_ok e pick at next x (t ∷ ts) h =
    let z = sound_pick pick (pick t) e at next t ts x refl h in
    (t ∷ [], ap (λ (c : Cursor). t ∷ c.rest) (sym z.1), inl (ap (λ (c : Cursor). c.wanted) z.1))

pub refused_is : {A : Type 0} (e : Expected) (at : Cursor) (l : ℕ) (x : Expected) → refused {A = A} e at ≡ Err (fault.Parse l x) → (l ≡ length at.rest) × (x ≡ or_else at.wanted e)
refused_is {A} e at l x h =
    let z = same_fault {A = A} (fault.Parse (length at.rest) (or_else at.wanted e)) (fault.Parse l x) h in (cc, cc)

picked_err : {X : Type 0} (e : Expected) (p : Option X) (at : Cursor) (ts : List Token) (l : ℕ) (x : Expected) → picked p e at ts ≡ Err (fault.Parse l x) → (l ≡ length at.rest) × (x ≡ or_else at.wanted e)
picked_err {X} e None at ts l x h = refused_is {A = X × Cursor} e at l x h
picked_err e (Some y) at ts l x h = absurd (cc)

pub one_err : {X : Type 0} (e : Expected) (pick : Token → Option X) (at : Cursor) (ts : List Token) (l : ℕ) (x : Expected) → read_one pick e at ts ≡ Err (fault.Parse l x) → (l ≡ length at.rest) × (x ≡ or_else at.wanted e)
one_err {X} e pick at [] l x h = refused_is {A = X × Cursor} e at l x h
one_err e pick at (t ∷ ts) l x h = picked_err e (pick t) at ts l x h

pub one_on : {X : Type 0} (e : Expected) (pick : Token → Option X) (t : Token) (x : X) → pick t ≡ Some x → expected_of t.kind ≡ Some e → On (one e pick) [] e
one_on e pick t x h k = (t, k, [], x, λ tail. (h, refl))

pub one_seeks : {X : Type 0} (e : Expected) (pick : Token → Option X) → On (one e pick) [] e → Seeks Never (one e pick) (one e pick)
one_seeks e pick on =
    record {
      ok = λ at next x h. one_ok e pick at next x at.rest h;
      err = λ at l x h. let z = one_err e pick at at.rest l x h in ([], at.rest, refl, z.0, (e, z.1, on));
    }

picked_begun : {X : Type 0} (e : Expected) (p : Option X) (at : Cursor) (ts : List Token) (l : ℕ) (x : Expected) → some p ≡ true → picked p e at ts ≡ Err (fault.Parse l x) → ⊥
picked_begun e None at ts l x b h = cc
picked_begun e (Some y) at ts l x b h = cc

pub one_begun_err : {X : Type 0} (e : Expected) (pick : Token → Option X) (at : Cursor) (ts : List Token) (l : ℕ) (x : Expected) → starts (λ t. some (pick t)) ts ≡ true → read_one pick e at ts ≡ Err (fault.Parse l x) → ⊥
one_begun_err e pick at [] l x b h = cc
one_begun_err e pick at (t ∷ ts) l x b h = picked_begun e (pick t) at ts l x b h

-- one that has begun is never refused
pub one_begun_seeks : {X : Type 0} (e : Expected) (pick : Token → Option X) → BegunSeeks (one e pick) (one e pick)
one_begun_seeks e pick at b = (λ next x h. one_ok e pick at next x at.rest h, λ l x h. absurd (one_begun_err e pick at at.rest l x b h))

-- one behind the other
pub on_first : {A B : Type 0} (c : Form A) (d : A → Form B) → ((x : A) → Sample (d x)) → (u : List Token) (w : Expected) → On c u w → On (c >>= d) u w
on_first c d sd u w h =
    let k = sd h.3 in (
      h.0,
      h.1,
      h.2 ++ k.0,
      k.1,
      λ tail. (
        h.3,
        k.0 ++ tail,
        subst (λ (z : List Token). c.is (u ++ (h.0 ∷ z)) h.3 (k.0 ++ tail)) (sym (append_assoc h.2 k.0 tail)) (h.4 (k.0 ++ tail)),
        k.2 tail,
      ),
    )

on_second : {A B : Type 0} (c : Form A) (d : A → Form B) (x : A) (u v : List Token) (w : Expected) → ((tail : List Token) → c.is (u ++ tail) x tail) → On (d x) v w → On (c >>= d) (u ++ v) w
on_second c d x u v w front h = (
  h.0,
  h.1,
  h.2,
  h.3,
  λ tail. (x, v ++ (h.0 ∷ (h.2 ++ tail)), regroup c u v (h.0 ∷ (h.2 ++ tail)) (v ++ (h.0 ∷ (h.2 ++ tail))) x (front (v ++ (h.0 ∷ (h.2 ++ tail)))), h.4 tail),
)

behind_none : {X : Type 0} (G : Form X) (u v : List Token) (w : Expected) → v ≡ [] → On G u w → On G (u ++ v) w
behind_none G u v w e h = subst (λ (z : List Token). On G z w) (sym (ap (λ (z : List Token). u ++ z) e ∙ append-nil u)) h

-- the tokens of the first can be those of the second form
abbrev pub FrontOf : {X : Type 0} → Form X → List Token → X → Type 0
FrontOf G u x = (tail : List Token) → G.is (u ++ tail) x tail

pub front_of : {X : Type 0} (G : Form X) → Alive G → (ts u rest : List Token) (x : X) → ts ≡ u ++ rest → G.is ts x rest → FrontOf G u x
front_of G l ts u rest x e h =
    let p = l.front ts rest x h in
    subst (λ (z : List Token). FrontOf G z x) (same_front p.0 u rest (sym p.1 ∙ e)) p.2

first_lift : {A B : Type 0} (E H : Expected → Type 0) (c : Form A) (d : A → Form B) (x : A) → ((x : A) → Sample (d x)) → ((w : Expected) → E w → On (d x) [] w) → (u v : List Token) → FrontOf c u x
    → (w : Expected) → v ≡ [] → On c u w ⊎ E w → On (c >>= d) (u ++ v) w ⊎ H w
first_lift E H c d x sd dis u v front w e (inl h) = inl (behind_none (c >>= d) u v w e (on_first c d sd u w h))
first_lift E H c d x sd dis u v front w e (inr h) = inl (subst (λ (z : List Token). On (c >>= d) (u ++ z) w) (sym e) (on_second c d x u [] w front (dis w h)))

first_named : {A B : Type 0} (E : Expected → Type 0) (c : Form A) (d : A → Form B) (x : A) → ((x : A) → Sample (d x)) → ((w : Expected) → E w → On (d x) [] w) → (u v : List Token) → FrontOf c u x
    → (w : Expected) → v ≡ [] → On c u w ⊎ E w → On (c >>= d) (u ++ v) w
first_named E c d x sd dis u v front w e (inl h) = behind_none (c >>= d) u v w e (on_first c d sd u w h)
first_named E c d x sd dis u v front w e (inr h) = subst (λ (z : List Token). On (c >>= d) (u ++ z) w) (sym e) (on_second c d x u [] w front (dis w h))

second_lift : {A B : Type 0} (H : Expected → Type 0) (c : Form A) (d : A → Form B) (x : A) (u v : List Token) → FrontOf c u x → (w : Expected) → On (d x) v w ⊎ H w → On (c >>= d) (u ++ v) w ⊎ H w
second_lift H c d x u v front w (inl h) = inl (on_second c d x u v w front h)
second_lift H c d x u v front w (inr h) = inr h

bind_seeks_err : {A B : Type 0} (E H : Expected → Type 0) (a c : Form A) (b d : A → Form B) → ((ts rest : List Token) (x : A) → a.is ts x rest → c.is ts x rest) → ((at next : Cursor) (x : A) → a.read at ≡ Ok (x, next) → a.is at.rest x next.rest) → Alive c
    → ((x : A) → Sample (d x)) → Seeks E a c → ((x : A) → Seeks H (b x) (d x)) → ((x : A) (w : Expected) → E w → On (d x) [] w)
    → (at : Cursor) (l : ℕ) (e : Expected) → (a.read at ≡ Err (fault.Parse l e)) ⊎ ((r : A × Cursor) × (a.read at ≡ Ok r) × ((b r.0).read r.1 ≡ Err (fault.Parse l e)))
    → (u : List Token) × (v : List Token) × (at.rest ≡ u ++ v) × (l ≡ length v) × Named (λ w. On (c >>= d) u w) (carried at.wanted u) e
bind_seeks_err E H a c b d mono sound lc sd sa sb dis at l e (inl h) =
    let p = sa.err at l e h in
    (p.0, p.1, p.2, p.3, named_map (λ w. On c p.0 w) (λ w. On (c >>= d) p.0 w) (carried at.wanted p.0) e (λ w. on_first c d sd p.0 w) p.4)
bind_seeks_err E H a c b d mono sound lc sd sa sb dis at l e (inr r) =
    let p = sa.ok at r.0.1 r.0.0 r.1 in
    let q = (sb r.0.0).err r.0.1 l e r.2 in
    let front = front_of c lc at.rest p.0 r.0.1.rest r.0.0 p.1 (mono at.rest r.0.1.rest r.0.0 (sound at r.0.1 r.0.0 r.1)) in (
      p.0 ++ q.0,
      q.1,
      p.1 ∙ ap (λ (z : List Token). p.0 ++ z) q.2 ∙ sym (append_assoc p.0 q.0 q.1),
      q.3,
      named_two (λ w. On c p.0 w ⊎ E w) (λ w. On (d r.0.0) q.0 w) (λ w. On (c >>= d) (p.0 ++ q.0) w) at.wanted r.0.1.wanted e p.0 q.0 (first_named E c d r.0.0 sd (dis r.0.0) p.0 q.0 front)
          (λ w. on_second c d r.0.0 p.0 q.0 w front) p.2 q.4,
    )

pub bind_seeks : {A B : Type 0} (E H : Expected → Type 0) (a c : Form A) (b d : A → Form B) → ((ts rest : List Token) (x : A) → a.is ts x rest → c.is ts x rest) → ((at next : Cursor) (x : A) → a.read at ≡ Ok (x, next) → a.is at.rest x next.rest) → Alive c
    → ((x : A) → Sample (d x)) → Seeks E a c → ((x : A) → Seeks H (b x) (d x)) → ((x : A) (w : Expected) → E w → On (d x) [] w) → Seeks H (a >>= b) (c >>= d)
bind_seeks {A} {B} E H a c b d mono sound lc sd sa sb dis =
    record {
      ok = λ at next y h.
          let r = bind_ok (a.read at) (λ r. (b r.0).read r.1) (y, next) h in
          let p = sa.ok at r.0.1 r.0.0 r.1 in
          let q = (sb r.0.0).ok r.0.1 next y r.2 in
          let front = front_of c lc at.rest p.0 r.0.1.rest r.0.0 p.1 (mono at.rest r.0.1.rest r.0.0 (sound at r.0.1 r.0.0 r.1)) in (
            p.0 ++ q.0,
            p.1 ∙ ap (λ (z : List Token). p.0 ++ z) q.1 ∙ sym (append_assoc p.0 q.0 next.rest),
            sought_two (λ w. On c p.0 w ⊎ E w) (λ w. On (d r.0.0) q.0 w ⊎ H w) (λ w. On (c >>= d) (p.0 ++ q.0) w ⊎ H w) at.wanted r.0.1.wanted next.wanted p.0 q.0
                (first_lift E H c d r.0.0 sd (dis r.0.0) p.0 q.0 front) (second_lift H c d r.0.0 p.0 q.0 front) p.2 q.2,
          );
      err = λ at l e h. bind_seeks_err E H a c b d mono sound lc sd sa sb dis at l e (bind_err (a.read at) (λ r. (b r.0).read r.1) (fault.Parse l e) h);
    }

-- the one or the other
pub on_left : {X : Type 0} (c d : Form X) (u : List Token) (w : Expected) → On c u w → On (either c d) u w
on_left c d u w h = (h.0, h.1, h.2, h.3, λ tail. inl (h.4 tail))

pub on_right : {X : Type 0} (c d : Form X) (u : List Token) (w : Expected) → On d u w → On (either c d) u w
on_right c d u w h = (h.0, h.1, h.2, h.3, λ tail. inr (h.4 tail))

-- what the first begins with was looked for before the second
missed : (P Q : Expected → Type 0) (from to : Option Expected) (e : Expected) (u : List Token) → ((w : Expected) → P w → Q w) → (u ≡ [] → Q e) → Sought P (carried (Some (or_else from e)) u) to → Sought Q (carried from u) to
missed P Q from to e [] f on (inl h) = inr (e, h, on refl)
missed P Q from to e [] f on (inr k) = inr (e, k.1, on refl)
missed P Q from to e (t ∷ u) f on s = sought_map P Q None to f s

missed_named : (P Q : Expected → Type 0) (from : Option Expected) (x e : Expected) (u : List Token) → ((w : Expected) → P w → Q w) → (u ≡ [] → Q e) → Named P (carried (Some (or_else from e)) u) x → Named Q (carried from u) x
missed_named P Q from x e [] f on k = (e, k.1, on refl)
missed_named P Q from x e (t ∷ u) f on k = named_map P Q None x f k

either_ok : {X : Type 0} (a b c d : Form X) → BegunSeeks a c → Seeks Never b d → On (either c d) [] a.wants → (at : Cursor) → (starts a.begins at.rest ≡ true) ⊎ (starts a.begins at.rest ≡ false) → OkAt Never (either a b) (either c d) at
either_ok a b c d sa sb on at (inl e) next x h =
    let s = sa at e in
    let p = s.0 next x (sym (first_read a b at e) ∙ h) in
    (p.0, p.1, sought_map (λ w. On c p.0 w ⊎ Never w) (λ w. On (either c d) p.0 w ⊎ Never w) (carried at.wanted p.0) next.wanted (λ w. or_extra Never c (either c d) p.0 p.0 w (on_left c d p.0 w)) p.2)
either_ok a b c d sa sb on at (inr e) next x h =
    let p = sb.ok (missing a.wants at) next x (sym (second_read a b at e) ∙ h) in (
      p.0,
      p.1,
      missed (λ w. On d p.0 w ⊎ Never w) (λ w. On (either c d) p.0 w ⊎ Never w) at.wanted next.wanted a.wants p.0 (λ w. or_extra Never d (either c d) p.0 p.0 w (on_right c d p.0 w))
          (λ k. inl (subst (λ (z : List Token). On (either c d) z a.wants) (sym k) on)) p.2,
    )

either_err : {X : Type 0} (a b c d : Form X) → BegunSeeks a c → Seeks Never b d → On (either c d) [] a.wants → (at : Cursor) → (starts a.begins at.rest ≡ true) ⊎ (starts a.begins at.rest ≡ false) → ErrAt (either a b) (either c d) at
either_err a b c d sa sb on at (inl e) l x h =
    let s = sa at e in
    let p = s.1 l x (sym (first_read a b at e) ∙ h) in
    (p.0, p.1, p.2, p.3, named_map (λ w. On c p.0 w) (λ w. On (either c d) p.0 w) (carried at.wanted p.0) x (λ w. on_left c d p.0 w) p.4)
either_err a b c d sa sb on at (inr e) l x h =
    let p = sb.err (missing a.wants at) l x (sym (second_read a b at e) ∙ h) in (
      p.0,
      p.1,
      p.2,
      p.3,
      missed_named (λ w. On d p.0 w) (λ w. On (either c d) p.0 w) at.wanted x a.wants p.0 (λ w. on_right c d p.0 w) (λ k. subst (λ (z : List Token). On (either c d) z a.wants) (sym k) on) p.4,
    )

pub either_seeks : {X : Type 0} (a b c d : Form X) → BegunSeeks a c → Seeks Never b d → On (either c d) [] a.wants → Seeks Never (either a b) (either c d)
either_seeks a b c d sa sb on =
    record {
      ok = λ at. either_ok a b c d sa sb on at (by_start (starts a.begins at.rest));
      err = λ at. either_err a b c d sa sb on at (by_start (starts a.begins at.rest));
    }

-- a row
on_item : {X Y : Type 0} (step : X → Y → X) (G : X → Form Y) (acc : X) (u : List Token) (w : Expected) → On (G acc) u w → On (row_by step G acc) u w
on_item step G acc u w h = (h.0, h.1, h.2, step acc h.3, λ tail. (h.3 ∷ [], (tail, h.4 tail, (refl, refl))))

on_more : {X Y : Type 0} (step : X → Y → X) (G : X → Form Y) (acc : X) (y : Y) (u v : List Token) (w : Expected) → FrontOf (G acc) u y → On (row_by step G (step acc y)) v w → On (row_by step G acc) (u ++ v) w
on_more step G acc y u v w front h = (
  h.0,
  h.1,
  h.2,
  h.3,
  λ tail. let k = h.4 tail in
      (y ∷ k.0, (v ++ (h.0 ∷ (h.2 ++ tail)), regroup (G acc) u v (h.0 ∷ (h.2 ++ tail)) (v ++ (h.0 ∷ (h.2 ++ tail))) y (front (v ++ (h.0 ∷ (h.2 ++ tail)))), k.1)),
)

item_lift : {X Y : Type 0} (E : Expected → Type 0) (step : X → Y → X) (G : X → Form Y) (acc : X) (u v : List Token) (w : Expected) → v ≡ [] → On (G acc) u w ⊎ Never w → On (row_by step G acc) (u ++ v) w
item_lift E step G acc u v w e (inl h) = behind_none (row_by step G acc) u v w e (on_item step G acc u w h)
item_lift E step G acc u v w e (inr h) = absurd h

more_lift : {X Y : Type 0} (E : Expected → Type 0) (step : X → Y → X) (G : X → Form Y) (acc : X) (y : Y) (u v : List Token) (w : Expected) → FrontOf (G acc) u y
    → On (row_by step G (step acc y)) v w ⊎ E w → On (row_by step G acc) (u ++ v) w ⊎ E w
more_lift E step G acc y u v w front (inl h) = inl (on_more step G acc y u v w front h)
more_lift E step G acc y u v w front (inr h) = inr h

row_ended_ok : {X Y : Type 0} (E : Expected → Type 0) (step : X → Y → X) (F G : X → Form Y) (acc x : X) (at next : Cursor) → On (G acc) [] (F acc).wants ⊎ E (F acc).wants → (acc ≡ x) × (missing (F acc).wants at ≡ next)
    → (u : List Token) × (at.rest ≡ u ++ next.rest) × Sought (λ w. On (row_by step G acc) u w ⊎ E w) (carried at.wanted u) next.wanted
row_ended_ok E step F G acc x at next (inl on) z = ([], ap (λ (c : Cursor). c.rest) z.1, inr ((F acc).wants, ap (λ (c : Cursor). c.wanted) (sym z.1), inl (on_item step G acc [] (F acc).wants on)))
row_ended_ok E step F G acc x at next (inr on) z = ([], ap (λ (c : Cursor). c.rest) z.1, inr ((F acc).wants, ap (λ (c : Cursor). c.wanted) (sym z.1), inr on))

row_ok : {X Y : Type 0} (E : Expected → Type 0) (step : X → Y → X) (F G : X → Form Y) → ((acc : X) (ts rest : List Token) (y : Y) → (F acc).is ts y rest → (G acc).is ts y rest)
    → ((acc : X) (at next : Cursor) (y : Y) → (F acc).read at ≡ Ok (y, next) → (F acc).is at.rest y next.rest) → ((acc : X) → Alive (G acc)) → ((acc : X) → BegunSeeks (F acc) (G acc)) → ((acc : X) → On (G acc) [] (F acc).wants ⊎ E (F acc).wants)
    → (n : ℕ) (acc : X) (at next : Cursor) (x : X) → read_row step F n acc at ≡ Ok (x, next) → (starts (F acc).begins at.rest ≡ true) ⊎ (starts (F acc).begins at.rest ≡ false)
    → (u : List Token) × (at.rest ≡ u ++ next.rest) × Sought (λ w. On (row_by step G acc) u w ⊎ E w) (carried at.wanted u) next.wanted
row_ok {X} E step F G mono sound lg sf on zero acc at next x h b =
    let z = same_ok {A = X × Cursor} (acc, missing (F acc).wants at) (x, next) h in
    row_ended_ok E step F G acc x at next (on acc) (ap (λ (r : X × Cursor). r.0) z, ap (λ (r : X × Cursor). r.1) z)
row_ok E step F G mono sound lg sf on (suc n) acc at next x h (inr e) = row_ended_ok E step F G acc x at next (on acc) (ends_ok step F (suc n) acc x at next e h)
row_ok E step F G mono sound lg sf on (suc n) acc at next x h (inl e) =
    let r = bind_ok ((F acc).read at) (λ r. read_row step F n (step acc r.0) r.1) (x, next) (sym (row_takes step F (suc n) n acc at refl e) ∙ h) in
    let s = sf acc at e in
    let p = s.0 r.0.1 r.0.0 r.1 in
    let q = row_ok E step F G mono sound lg sf on n (step acc r.0.0) r.0.1 next x r.2 (by_start (starts (F (step acc r.0.0)).begins r.0.1.rest)) in
    let front = front_of (G acc) (lg acc) at.rest p.0 r.0.1.rest r.0.0 p.1 (mono acc at.rest r.0.1.rest r.0.0 (sound acc at r.0.1 r.0.0 r.1)) in (
      p.0 ++ q.0,
      p.1 ∙ ap (λ (z : List Token). p.0 ++ z) q.1 ∙ sym (append_assoc p.0 q.0 next.rest),
      sought_two (λ w. On (G acc) p.0 w ⊎ Never w) (λ w. On (row_by step G (step acc r.0.0)) q.0 w ⊎ E w) (λ w. On (row_by step G acc) (p.0 ++ q.0) w ⊎ E w) at.wanted r.0.1.wanted next.wanted p.0 q.0
          (λ w k m. inl (item_lift E step G acc p.0 q.0 w k m)) (λ w. more_lift E step G acc r.0.0 p.0 q.0 w front) p.2 q.2,
    )

row_err_by : {X Y : Type 0} (step : X → Y → X) (F G : X → Form Y) → ((acc : X) (ts rest : List Token) (y : Y) → (F acc).is ts y rest → (G acc).is ts y rest)
    → ((acc : X) (at next : Cursor) (y : Y) → (F acc).read at ≡ Ok (y, next) → (F acc).is at.rest y next.rest) → ((acc : X) → Alive (G acc)) → ((acc : X) → BegunSeeks (F acc) (G acc))
    → (n : ℕ) (acc : X) (at : Cursor) (l : ℕ) (e : Expected) → starts (F acc).begins at.rest ≡ true
    → ((acc : X) (at : Cursor) → read_row step F n acc at ≡ Err (fault.Parse l e) → (u : List Token) × (v : List Token) × (at.rest ≡ u ++ v) × (l ≡ length v) × Named (λ w. On (row_by step G acc) u w) (carried at.wanted u) e)
    → ((F acc).read at ≡ Err (fault.Parse l e)) ⊎ ((r : Y × Cursor) × ((F acc).read at ≡ Ok r) × (read_row step F n (step acc r.0) r.1 ≡ Err (fault.Parse l e)))
    → (u : List Token) × (v : List Token) × (at.rest ≡ u ++ v) × (l ≡ length v) × Named (λ w. On (row_by step G acc) u w) (carried at.wanted u) e
row_err_by step F G mono sound lg sf n acc at l e b hyp (inl h) =
    let s = sf acc at b in
    let p = s.1 l e h in
    (p.0, p.1, p.2, p.3, named_map (λ w. On (G acc) p.0 w) (λ w. On (row_by step G acc) p.0 w) (carried at.wanted p.0) e (λ w. on_item step G acc p.0 w) p.4)
row_err_by step F G mono sound lg sf n acc at l e b hyp (inr r) =
    let s = sf acc at b in
    let p = s.0 r.0.1 r.0.0 r.1 in
    let q = hyp (step acc r.0.0) r.0.1 r.2 in
    let front = front_of (G acc) (lg acc) at.rest p.0 r.0.1.rest r.0.0 p.1 (mono acc at.rest r.0.1.rest r.0.0 (sound acc at r.0.1 r.0.0 r.1)) in (
      p.0 ++ q.0,
      q.1,
      p.1 ∙ ap (λ (z : List Token). p.0 ++ z) q.2 ∙ sym (append_assoc p.0 q.0 q.1),
      q.3,
      named_two (λ w. On (G acc) p.0 w ⊎ Never w) (λ w. On (row_by step G (step acc r.0.0)) q.0 w) (λ w. On (row_by step G acc) (p.0 ++ q.0) w) at.wanted r.0.1.wanted e p.0 q.0
          (λ w k m. item_lift Never step G acc p.0 q.0 w k m) (λ w. on_more step G acc r.0.0 p.0 q.0 w front) p.2 q.4,
    )

row_err : {X Y : Type 0} (step : X → Y → X) (F G : X → Form Y) → ((acc : X) (ts rest : List Token) (y : Y) → (F acc).is ts y rest → (G acc).is ts y rest)
    → ((acc : X) (at next : Cursor) (y : Y) → (F acc).read at ≡ Ok (y, next) → (F acc).is at.rest y next.rest) → ((acc : X) → Alive (G acc)) → ((acc : X) → BegunSeeks (F acc) (G acc))
    → (n : ℕ) (acc : X) (at : Cursor) (l : ℕ) (e : Expected) → read_row step F n acc at ≡ Err (fault.Parse l e) → (starts (F acc).begins at.rest ≡ true) ⊎ (starts (F acc).begins at.rest ≡ false)
    → (u : List Token) × (v : List Token) × (at.rest ≡ u ++ v) × (l ≡ length v) × Named (λ w. On (row_by step G acc) u w) (carried at.wanted u) e
row_err step F G mono sound lg sf zero acc at l e h b = absurd (cc)
row_err step F G mono sound lg sf (suc n) acc at l e h (inr b) = absurd (let z = sym (row_stops step F (suc n) acc at b) ∙ h in cc)
row_err step F G mono sound lg sf (suc n) acc at l e h (inl b) =
    row_err_by step F G mono sound lg sf n acc at l e b (λ acc at h. row_err step F G mono sound lg sf n acc at l e h (by_start (starts (F acc).begins at.rest)))
    (bind_err ((F acc).read at) (λ r. read_row step F n (step acc r.0) r.1) (fault.Parse l e) (sym (row_takes step F (suc n) n acc at refl b) ∙ h))

pub row_seeks : {X Y : Type 0} (E : Expected → Type 0) (step : X → Y → X) (F G : X → Form Y) (acc : X) → ((acc : X) (ts rest : List Token) (y : Y) → (F acc).is ts y rest → (G acc).is ts y rest)
    → ((acc : X) (at next : Cursor) (y : Y) → (F acc).read at ≡ Ok (y, next) → (F acc).is at.rest y next.rest) → ((acc : X) → Alive (G acc)) → ((acc : X) → BegunSeeks (F acc) (G acc)) → ((acc : X) → On (G acc) [] (F acc).wants ⊎ E (F acc).wants)
    → Seeks E (row_by step F acc) (row_by step G acc)
row_seeks E step F G acc mono sound lg sf on =
    record {
      ok = λ at next x h. row_ok E step F G mono sound lg sf on (length at.rest) acc at next x h (by_start (starts (F acc).begins at.rest));
      err = λ at l e h. row_err step F G mono sound lg sf (length at.rest) acc at l e h (by_start (starts (F acc).begins at.rest));
    }

-- with its place
pub on_placed : {X : Type 0} (c : Form X) (u : List Token) (w : Expected) → On c u w → On (placed c) u w
on_placed c u w h = (h.0, h.1, h.2, (place_of (u ++ (h.0 ∷ [])), h.3), λ tail. (h.4 tail, token_place u h.0 [] (h.2 ++ tail)))

placed_err_seeks : {X : Type 0} (a c : Form X) → Seeks Never a c → (at : Cursor) (l : ℕ) (e : Expected) → (a.read at ≡ Err (fault.Parse l e)) ⊎ ((r : X × Cursor) × (a.read at ≡ Ok r) × (at_place at r ≡ Err (fault.Parse l e)))
    → (u : List Token) × (v : List Token) × (at.rest ≡ u ++ v) × (l ≡ length v) × Named (λ w. On (placed c) u w) (carried at.wanted u) e
placed_err_seeks a c s at l e (inl h) =
    let p = s.err at l e h in
    (p.0, p.1, p.2, p.3, named_map (λ w. On c p.0 w) (λ w. On (placed c) p.0 w) (carried at.wanted p.0) e (λ w. on_placed c p.0 w) p.4)
placed_err_seeks a c s at l e (inr r) = absurd (let z = r.2 in cc)

pub placed_seeks : {X : Type 0} (a c : Form X) → Seeks Never a c → Seeks Never (placed a) (placed c)
placed_seeks {X} a c s =
    record {
      ok = λ at next x h.
          let r = bind_ok (a.read at) (at_place at) (x, next) h in
          let p = s.ok at r.0.1 r.0.0 r.1 in
          subst (λ (q : (ℕ × X) × Cursor). (u : List Token) × (at.rest ≡ u ++ q.1.rest) × Sought (λ w. On (placed c) u w ⊎ Never w) (carried at.wanted u) q.1.wanted) (same_ok {A = (ℕ × X) × Cursor} _ (x, next) r.2)
          (p.0, p.1, sought_map (λ w. On c p.0 w ⊎ Never w) (λ w. On (placed c) p.0 w ⊎ Never w) (carried at.wanted p.0) r.0.1.wanted (lift_placed c p.0) p.2);
      err = λ at l e h. placed_err_seeks a c s at l e (bind_err (a.read at) (at_place at) (fault.Parse l e) h);
    }
  where
    lift_placed : {X : Type 0} (c : Form X) (u : List Token) (w : Expected) → On c u w ⊎ Never w → On (placed c) u w ⊎ Never w
    lift_placed c u w (inl h) = inl (on_placed c u w h)
    lift_placed c u w (inr h) = inr h

-- what is too deep, beside what isn't
pub deep_named : {X : Type 0} (e : Expected) (at : Cursor) (b : Bool) (l : ℕ) (x : Expected) → not_deep {X = X} e at b ≡ Err (fault.Parse l x) → (l ≡ length at.rest) × (x ≡ or_else at.wanted e)
deep_named {X} e at true l x h = absurd (let z = same_fault {A = X × Cursor} (fault.Deep (length at.rest)) (fault.Parse l x) h in cc)
deep_named {X} e at false l x h = refused_is {A = X × Cursor} e at l x h

pub too_deep_seeks : {X : Type 0} (begins : Token → Bool) (e : Expected) (G : Form X) → On G [] e → Seeks Never (too_deep begins e) G
too_deep_seeks {X} begins e G on =
    record {
      ok = λ at next x h. absurd (not_ok {X = X} e at (starts begins at.rest) (x, next) h);
      err = λ at l x h. let z = deep_named {X = X} e at (starts begins at.rest) l x h in ([], at.rest, refl, z.0, (e, z.1, on));
    }

-- nothing never begins
nothing_begun : (ts : List Token) → starts (λ t. false) ts ≡ true → ⊥
nothing_begun [] h = cc
nothing_begun (t ∷ ts) h = cc

pub nothing_seeks : {X : Type 0} (e : Expected) → BegunSeeks (nothing {X = X} e) (nothing e)
nothing_seeks e at b = absurd (nothing_begun at.rest b)
