-- What a form names comes first there, in the order in which the grammar is written.
use Rattle.std.proofs.Common.{◌≡◌, ℕ, zero, suc, ◌<◌, Bool, true, false, ◌⊎◌, inl, inr, List, [], ◌∷◌, ◌++◌, append_assoc, length, Option, Some, None, Ok, Err, refl, sym, subst, ap, ◌∙◌, arith}
use Rattle.std.proofs.lemmas.List.{append-nil}
use Rattle.tl_grammar.specs.declared.fault.Expected.{Expected}
use Rattle.tl_grammar.specs.declared.fault.Fault.TheVariants as fault
use Rattle.tl_grammar.specs.Token.{Token}
use Rattle.tl_grammar.specs.Form.{Cursor, Form, ◌>>=◌, either, ends_one, missing, one, or_else, placed, pure, read_one, read_row, row_by, some, starts, too_deep}
use Rattle.tl_grammar.proofs.Exact.{Opens}
use Rattle.tl_grammar.proofs.Combine.{bind_err, bind_ok, same_ok, sound_pick}
use Rattle.tl_grammar.proofs.Choose.{by_start, first_read, second_read}
use Rattle.tl_grammar.proofs.Rows.{row_stops, row_takes}
use Rattle.tl_grammar.proofs.RowLaw.{ends_ok}
use Rattle.tl_grammar.proofs.Alive.{Alive}
use Rattle.tl_grammar.proofs.Deeper.{not_ok}
use Rattle.tl_grammar.proofs.Placed.{at_place}
use Rattle.tl_grammar.proofs.Seeks.{FrontOf, Named, carried, carried_more, carried_none, deep_named, front_of, named_map, one_err}

-- nothing more was looked for, since nothing more may come, or what comes first
abbrev pub Left : Type 0 → (Expected → Type 0) → Option Expected → Option Expected → Type 0
Left Z P from to = ((to ≡ from) × Z) ⊎ ((w : Expected) × (to ≡ Some (or_else from w)) × P w)

abbrev pub AskedOk : {X : Type 0} → Form X → Cursor → Cursor → Type 0
AskedOk F at next = (u : List Token) × (at.rest ≡ u ++ next.rest) × Left (F.ends u) (F.asks u) (carried at.wanted u) next.wanted

abbrev pub AskedErr : {X : Type 0} → Form X → Cursor → ℕ → Expected → Type 0
AskedErr F at l e = (u : List Token) × (v : List Token) × (at.rest ≡ u ++ v) × (l ≡ length v) × Named (F.asks u) (carried at.wanted u) e

pub record Asks {X : Type 0} (F : Form X) : Type 0 where
  pub ok : (at next : Cursor) (x : X) → F.read at ≡ Ok (x, next) → AskedOk F at next
  pub err : (at : Cursor) (l : ℕ) (e : Expected) → F.read at ≡ Err (fault.Parse l e) → AskedErr F at l e

left_map : (Z Y : Type 0) (P Q : Expected → Type 0) (from to : Option Expected) → (Z → Y) → ((w : Expected) → P w → Q w) → Left Z P from to → Left Y Q from to
left_map Z Y P Q from to z f (inl k) = inl (k.0, z k.1)
left_map Z Y P Q from to z f (inr k) = inr (k.0, k.1, f k.0 k.2)

-- one after the other, with no token of the second
left_by : (A B Z : Type 0) (P Q R : Expected → Type 0) (from mid to : Option Expected) → (A → B → Z) → ((w : Expected) → P w → R w) → (A → (w : Expected) → Q w → R w)
    → Left A P from mid → Left B Q mid to → Left Z R from to
left_by A B Z P Q R from mid to z f g (inl k) (inl m) = inl (m.0 ∙ k.0, z k.1 m.1)
left_by A B Z P Q R from mid to z f g (inl k) (inr m) = inr (m.0, m.1 ∙ ap (λ (o : Option Expected). Some (or_else o m.0)) k.0, g k.1 m.0 m.2)
left_by A B Z P Q R from mid to z f g (inr k) (inl m) = inr (k.0, m.0 ∙ k.1, f k.0 k.2)
left_by A B Z P Q R from mid to z f g (inr k) (inr m) = inr (k.0, m.1 ∙ ap (λ (o : Option Expected). Some (or_else o m.0)) k.1, f k.0 k.2)

name_by : (A : Type 0) (P Q R : Expected → Type 0) (from mid : Option Expected) (e : Expected) → ((w : Expected) → P w → R w) → (A → (w : Expected) → Q w → R w) → Left A P from mid → Named Q mid e → Named R from e
name_by A P Q R from mid e f g (inl k) m = (m.0, m.1 ∙ ap (λ (o : Option Expected). or_else o m.0) k.0, g k.1 m.0 m.2)
name_by A P Q R from mid e f g (inr k) m = (k.0, m.1 ∙ ap (λ (o : Option Expected). or_else o m.0) k.1, f k.0 k.2)

not_none : (A : Type 0) (t : Token) (v : List Token) → t ∷ v ≡ [] → A
not_none A t v h = absurd (cc)

left_two : (A B Z : Type 0) (P Q R : Expected → Type 0) (from mid to : Option Expected) (u v : List Token) → ((v ≡ [] → A) → B → Z) → (v ≡ [] → (w : Expected) → P w → R w) → ((v ≡ [] → A) → (w : Expected) → Q w → R w)
    → Left A P (carried from u) mid → Left B Q (carried mid v) to → Left Z R (carried from (u ++ v)) to
left_two A B Z P Q R from mid to u [] z f g a b =
    subst (λ (o : Option Expected). Left Z R o to) (carried_none from u) (left_by A B Z P Q R (carried from u) mid to (λ k. z (λ h. k)) (f refl) (λ k. g (λ h. k)) a b)
left_two A B Z P Q R from mid to u (t ∷ v) z f g a b =
    subst (λ (o : Option Expected). Left Z R o to) (carried_more from u t v) (left_map B Z Q R None to (z (not_none A t v)) (g (not_none A t v)) b)

name_two : (A : Type 0) (P Q R : Expected → Type 0) (from mid : Option Expected) (e : Expected) (u v : List Token) → (v ≡ [] → (w : Expected) → P w → R w) → ((v ≡ [] → A) → (w : Expected) → Q w → R w)
    → Left A P (carried from u) mid → Named Q (carried mid v) e → Named R (carried from (u ++ v)) e
name_two A P Q R from mid e u [] f g a b = subst (λ (o : Option Expected). Named R o e) (carried_none from u) (name_by A P Q R (carried from u) mid e (f refl) (λ k. g (λ h. k)) a b)
name_two A P Q R from mid e u (t ∷ v) f g a b = subst (λ (o : Option Expected). Named R o e) (carried_more from u t v) (named_map Q R None e (g (not_none A t v)) b)

-- no token
pub pure_asks : {X : Type 0} (x : X) → Asks (pure x)
pure_asks {X} x =
    record {
      ok = λ at next y h. let z = same_ok {A = X × Cursor} (x, at) (y, next) h in ([], ap (λ (r : X × Cursor). r.1.rest) z, inl (ap (λ (r : X × Cursor). r.1.wanted) (sym z), refl));
      err = λ at l e h. absurd (cc);
    }

-- one token
one_ok : {X : Type 0} (e : Expected) (pick : Token → Option X) (at next : Cursor) (x : X) (ts : List Token) → read_one pick e at ts ≡ Ok (x, next)
    → (u : List Token) × (ts ≡ u ++ next.rest) × Left (ends_one pick u) (λ w. (u ≡ []) × (w ≡ e)) (carried at.wanted u) next.wanted
one_ok e pick at next x [] h = absurd (cc)
one_ok e pick at next x (t ∷ ts) h =
    let z = sound_pick pick (pick t) e at next t ts x refl h in
    (t ∷ [], ap (λ (c : Cursor). t ∷ c.rest) (sym z.1), inl (ap (λ (c : Cursor). c.wanted) z.1, (ap some z.0, refl)))

pub one_asks : {X : Type 0} (e : Expected) (pick : Token → Option X) → Asks (one e pick)
one_asks e pick =
    record {
      ok = λ at next x h. one_ok e pick at next x at.rest h;
      err = λ at l x h. let z = one_err e pick at at.rest l x h in ([], at.rest, refl, z.0, (e, z.1, (refl, refl)));
    }

-- what would nest too deep
pub too_deep_asks : {X : Type 0} (begins : Token → Bool) (e : Expected) → Asks (too_deep {X = X} begins e)
too_deep_asks {X} begins e =
    record {
      ok = λ at next x h. absurd (not_ok {X = X} e at (starts begins at.rest) (x, next) h);
      err = λ at l x h. let z = deep_named {X = X} e at (starts begins at.rest) l x h in ([], at.rest, refl, z.0, (e, z.1, (refl, refl)));
    }

-- one behind the other
alone : {X : Type 0} (F : Form X) (u : List Token) (x : X) → FrontOf F u x → F.is u x []
alone F u x front = subst (λ (z : List Token). F.is z x []) (append-nil u) (front [])

same_asks : {X : Type 0} (F : Form X) (u v : List Token) → v ≡ [] → (w : Expected) → F.asks u w → F.asks (u ++ v) w
same_asks F u v e w h = subst (λ (z : List Token). F.asks z w) (sym (ap (λ (z : List Token). u ++ z) e ∙ append-nil u)) h

bind_first : {A B : Type 0} (a : Form A) (b : A → Form B) (u v : List Token) → v ≡ [] → (w : Expected) → a.asks u w → (a >>= b).asks (u ++ v) w
bind_first a b u v e w h = inl (same_asks a u v e w h)

bind_second : {A B : Type 0} (a : Form A) (b : A → Form B) (x : A) (u v : List Token) → a.is u x [] → (v ≡ [] → a.ends u) → (w : Expected) → (b x).asks v w → (a >>= b).asks (u ++ v) w
bind_second a b x u v i q w h = inr (x, u, v, refl, (i, q), h)

bind_ends : {A B : Type 0} (a : Form A) (b : A → Form B) (x : A) (u v : List Token) → a.is u x [] → (v ≡ [] → a.ends u) → (b x).ends v → (a >>= b).ends (u ++ v)
bind_ends a b x u v i q h = (x, u, v, refl, (i, q), h)

bind_asked_err : {A B : Type 0} (a : Form A) (b : A → Form B) → ((at next : Cursor) (x : A) → a.read at ≡ Ok (x, next) → a.is at.rest x next.rest) → Alive a → Asks a → ((x : A) → Asks (b x)) → (at : Cursor) (l : ℕ) (e : Expected)
    → (a.read at ≡ Err (fault.Parse l e)) ⊎ ((r : A × Cursor) × (a.read at ≡ Ok r) × ((b r.0).read r.1 ≡ Err (fault.Parse l e))) → AskedErr (a >>= b) at l e
bind_asked_err a b sound la qa qb at l e (inl h) =
    let p = qa.err at l e h in
    (p.0, p.1, p.2, p.3, named_map (a.asks p.0) ((a >>= b).asks p.0) (carried at.wanted p.0) e (λ w k. inl k) p.4)
bind_asked_err a b sound la qa qb at l e (inr r) =
    let p = qa.ok at r.0.1 r.0.0 r.1 in
    let q = (qb r.0.0).err r.0.1 l e r.2 in
    let i = alone a p.0 r.0.0 (front_of a la at.rest p.0 r.0.1.rest r.0.0 p.1 (sound at r.0.1 r.0.0 r.1)) in (
      p.0 ++ q.0,
      q.1,
      p.1 ∙ ap (λ (z : List Token). p.0 ++ z) q.2 ∙ sym (append_assoc p.0 q.0 q.1),
      q.3,
      name_two (a.ends p.0) (a.asks p.0) ((b r.0.0).asks q.0) ((a >>= b).asks (p.0 ++ q.0)) at.wanted r.0.1.wanted e p.0 q.0 (bind_first a b p.0 q.0) (bind_second a b r.0.0 p.0 q.0 i) p.2 q.4,
    )

pub bind_asks : {A B : Type 0} (a : Form A) (b : A → Form B) → ((at next : Cursor) (x : A) → a.read at ≡ Ok (x, next) → a.is at.rest x next.rest) → Alive a → Asks a → ((x : A) → Asks (b x)) → Asks (a >>= b)
bind_asks a b sound la qa qb =
    record {
      ok = λ at next y h.
          let r = bind_ok (a.read at) (λ r. (b r.0).read r.1) (y, next) h in
          let p = qa.ok at r.0.1 r.0.0 r.1 in
          let q = (qb r.0.0).ok r.0.1 next y r.2 in
          let i = alone a p.0 r.0.0 (front_of a la at.rest p.0 r.0.1.rest r.0.0 p.1 (sound at r.0.1 r.0.0 r.1)) in (
            p.0 ++ q.0,
            p.1 ∙ ap (λ (z : List Token). p.0 ++ z) q.1 ∙ sym (append_assoc p.0 q.0 next.rest),
            left_two (a.ends p.0) ((b r.0.0).ends q.0) ((a >>= b).ends (p.0 ++ q.0)) (a.asks p.0) ((b r.0.0).asks q.0) ((a >>= b).asks (p.0 ++ q.0)) at.wanted r.0.1.wanted next.wanted p.0 q.0
                (bind_ends a b r.0.0 p.0 q.0 i) (bind_first a b p.0 q.0) (bind_second a b r.0.0 p.0 q.0 i) p.2 q.2,
          );
      err = λ at l e h. bind_asked_err a b sound la qa qb at l e (bind_err (a.read at) (λ r. (b r.0).read r.1) (fault.Parse l e) h);
    }

-- the one or the other
left_asks : {X : Type 0} (a b : Form X) (u : List Token) (w : Expected) → a.asks u w → (either a b).asks u w
left_asks a b [] w h = h
left_asks a b (t ∷ u) w h = inl h

left_ends : {X : Type 0} (a b : Form X) (ts rest u : List Token) → length rest < length ts → ts ≡ u ++ rest → a.ends u → (either a b).ends u
left_ends a b ts rest [] l e h = absurd (let z = ap (λ (k : List Token). length k) e in omega arith)
left_ends a b ts rest (t ∷ u) l e h = inl h

-- the first was asked for before the second
second_left : {X : Type 0} (a b : Form X) (from to : Option Expected) (u : List Token) → a.asks [] a.wants → Left (b.ends u) (b.asks u) (carried (Some (or_else from a.wants)) u) to
    → Left ((either a b).ends u) ((either a b).asks u) (carried from u) to
second_left a b from to [] on (inl k) = inr (a.wants, k.0, on)
second_left a b from to [] on (inr k) = inr (a.wants, k.1, on)
second_left a b from to (t ∷ u) on k = left_map (b.ends (t ∷ u)) ((either a b).ends (t ∷ u)) (b.asks (t ∷ u)) ((either a b).asks (t ∷ u)) None to (λ h. inr h) (λ w h. inr h) k

second_named : {X : Type 0} (a b : Form X) (from : Option Expected) (e : Expected) (u : List Token) → a.asks [] a.wants → Named (b.asks u) (carried (Some (or_else from a.wants)) u) e → Named ((either a b).asks u) (carried from u) e
second_named a b from e [] on k = (a.wants, k.1, on)
second_named a b from e (t ∷ u) on k = named_map (b.asks (t ∷ u)) ((either a b).asks (t ∷ u)) None e (λ w h. inr h) k

either_ok : {X : Type 0} (a b : Form X) (first : List ℕ) → Opens a first → ((at next : Cursor) (x : X) → a.read at ≡ Ok (x, next) → a.is at.rest x next.rest) → Asks a → Asks b → a.asks [] a.wants
    → (at next : Cursor) (x : X) → (either a b).read at ≡ Ok (x, next) → (starts a.begins at.rest ≡ true) ⊎ (starts a.begins at.rest ≡ false) → AskedOk (either a b) at next
either_ok a b first oa sound qa qb on at next x h (inl e) =
    let k = sym (first_read a b at e) ∙ h in
    let p = qa.ok at next x k in
    (p.0, p.1, left_map (a.ends p.0) ((either a b).ends p.0) (a.asks p.0) ((either a b).asks p.0) (carried at.wanted p.0) next.wanted (left_ends a b at.rest next.rest p.0 (oa.strict at.rest next.rest x (sound at next x k)) p.1) (left_asks a b p.0) p.2)
either_ok a b first oa sound qa qb on at next x h (inr e) =
    let p = qb.ok (missing a.wants at) next x (sym (second_read a b at e) ∙ h) in
    (p.0, p.1, second_left a b at.wanted next.wanted p.0 on p.2)

either_err : {X : Type 0} (a b : Form X) → Asks a → Asks b → a.asks [] a.wants → (at : Cursor) (l : ℕ) (e : Expected) → (either a b).read at ≡ Err (fault.Parse l e) → (starts a.begins at.rest ≡ true) ⊎ (starts a.begins at.rest ≡ false) → AskedErr (either a b) at l e
either_err a b qa qb on at l e h (inl k) =
    let p = qa.err at l e (sym (first_read a b at k) ∙ h) in
    (p.0, p.1, p.2, p.3, named_map (a.asks p.0) ((either a b).asks p.0) (carried at.wanted p.0) e (left_asks a b p.0) p.4)
either_err a b qa qb on at l e h (inr k) =
    let p = qb.err (missing a.wants at) l e (sym (second_read a b at k) ∙ h) in
    (p.0, p.1, p.2, p.3, second_named a b at.wanted e p.0 on p.4)

pub either_asks : {X : Type 0} (a b : Form X) (first : List ℕ) → Opens a first → ((at next : Cursor) (x : X) → a.read at ≡ Ok (x, next) → a.is at.rest x next.rest) → Asks a → Asks b → a.asks [] a.wants → Asks (either a b)
either_asks a b first oa sound qa qb on =
    record {
      ok = λ at next x h. either_ok a b first oa sound qa qb on at next x h (by_start (starts a.begins at.rest));
      err = λ at l e h. either_err a b qa qb on at l e h (by_start (starts a.begins at.rest));
    }

-- a row
row_item : {X Y : Type 0} (step : X → Y → X) (F : X → Form Y) (acc : X) (u v : List Token) → v ≡ [] → (w : Expected) → (F acc).asks u w → (row_by step F acc).asks (u ++ v) w
row_item step F acc u v e w h = ([], same_asks (F acc) u v e w h)

row_more : {X Y : Type 0} (step : X → Y → X) (F : X → Form Y) (acc : X) (y : Y) (u v : List Token) → (F acc).is u y [] → (v ≡ [] → (F acc).ends u) → (w : Expected) → (row_by step F (step acc y)).asks v w → (row_by step F acc).asks (u ++ v) w
row_more step F acc y u v i q w h = (y ∷ h.0, (u, v, refl, (i, q), h.1))

row_ended : {X Y : Type 0} (step : X → Y → X) (F : X → Form Y) (acc x : X) (at next : Cursor) → (F acc).asks [] (F acc).wants → (acc ≡ x) × (missing (F acc).wants at ≡ next) → AskedOk (row_by step F acc) at next
row_ended step F acc x at next on z = ([], ap (λ (c : Cursor). c.rest) z.1, inr ((F acc).wants, ap (λ (c : Cursor). c.wanted) (sym z.1), ([], on)))

row_ok : {X Y : Type 0} (step : X → Y → X) (F : X → Form Y) → ((acc : X) (at next : Cursor) (y : Y) → (F acc).read at ≡ Ok (y, next) → (F acc).is at.rest y next.rest) → ((acc : X) → Alive (F acc)) → ((acc : X) → Asks (F acc)) → ((acc : X) → (F acc).asks [] (F acc).wants)
    → (n : ℕ) (acc : X) (at next : Cursor) (x : X) → read_row step F n acc at ≡ Ok (x, next) → (starts (F acc).begins at.rest ≡ true) ⊎ (starts (F acc).begins at.rest ≡ false) → AskedOk (row_by step F acc) at next
row_ok {X} step F sound lf qf on zero acc at next x h b =
    let z = same_ok {A = X × Cursor} (acc, missing (F acc).wants at) (x, next) h in
    row_ended step F acc x at next (on acc) (ap (λ (r : X × Cursor). r.0) z, ap (λ (r : X × Cursor). r.1) z)
row_ok step F sound lf qf on (suc n) acc at next x h (inr e) = row_ended step F acc x at next (on acc) (ends_ok step F (suc n) acc x at next e h)
row_ok step F sound lf qf on (suc n) acc at next x h (inl e) =
    let r = bind_ok ((F acc).read at) (λ r. read_row step F n (step acc r.0) r.1) (x, next) (sym (row_takes step F (suc n) n acc at refl e) ∙ h) in
    let p = (qf acc).ok at r.0.1 r.0.0 r.1 in
    let q = row_ok step F sound lf qf on n (step acc r.0.0) r.0.1 next x r.2 (by_start (starts (F (step acc r.0.0)).begins r.0.1.rest)) in
    let i = alone (F acc) p.0 r.0.0 (front_of (F acc) (lf acc) at.rest p.0 r.0.1.rest r.0.0 p.1 (sound acc at r.0.1 r.0.0 r.1)) in (
      p.0 ++ q.0,
      p.1 ∙ ap (λ (z : List Token). p.0 ++ z) q.1 ∙ sym (append_assoc p.0 q.0 next.rest),
      left_two ((F acc).ends p.0) ⊥ ⊥ ((F acc).asks p.0) ((row_by step F (step acc r.0.0)).asks q.0) ((row_by step F acc).asks (p.0 ++ q.0)) at.wanted r.0.1.wanted next.wanted p.0 q.0 (λ k z. z) (row_item step F acc p.0 q.0)
          (row_more step F acc r.0.0 p.0 q.0 i) p.2 q.2,
    )

row_err_by : {X Y : Type 0} (step : X → Y → X) (F : X → Form Y) → ((acc : X) (at next : Cursor) (y : Y) → (F acc).read at ≡ Ok (y, next) → (F acc).is at.rest y next.rest) → ((acc : X) → Alive (F acc)) → ((acc : X) → Asks (F acc))
    → (n : ℕ) (acc : X) (at : Cursor) (l : ℕ) (e : Expected) → ((acc : X) (at : Cursor) → read_row step F n acc at ≡ Err (fault.Parse l e) → AskedErr (row_by step F acc) at l e)
    → ((F acc).read at ≡ Err (fault.Parse l e)) ⊎ ((r : Y × Cursor) × ((F acc).read at ≡ Ok r) × (read_row step F n (step acc r.0) r.1 ≡ Err (fault.Parse l e))) → AskedErr (row_by step F acc) at l e
row_err_by step F sound lf qf n acc at l e hyp (inl h) =
    let p = (qf acc).err at l e h in
    (p.0, p.1, p.2, p.3, named_map ((F acc).asks p.0) ((row_by step F acc).asks p.0) (carried at.wanted p.0) e (λ w k. ([], k)) p.4)
row_err_by step F sound lf qf n acc at l e hyp (inr r) =
    let p = (qf acc).ok at r.0.1 r.0.0 r.1 in
    let q = hyp (step acc r.0.0) r.0.1 r.2 in
    let i = alone (F acc) p.0 r.0.0 (front_of (F acc) (lf acc) at.rest p.0 r.0.1.rest r.0.0 p.1 (sound acc at r.0.1 r.0.0 r.1)) in (
      p.0 ++ q.0,
      q.1,
      p.1 ∙ ap (λ (z : List Token). p.0 ++ z) q.2 ∙ sym (append_assoc p.0 q.0 q.1),
      q.3,
      name_two ((F acc).ends p.0) ((F acc).asks p.0) ((row_by step F (step acc r.0.0)).asks q.0) ((row_by step F acc).asks (p.0 ++ q.0)) at.wanted r.0.1.wanted e p.0 q.0 (row_item step F acc p.0 q.0)
          (row_more step F acc r.0.0 p.0 q.0 i) p.2 q.4,
    )

row_err : {X Y : Type 0} (step : X → Y → X) (F : X → Form Y) → ((acc : X) (at next : Cursor) (y : Y) → (F acc).read at ≡ Ok (y, next) → (F acc).is at.rest y next.rest) → ((acc : X) → Alive (F acc)) → ((acc : X) → Asks (F acc))
    → (n : ℕ) (acc : X) (at : Cursor) (l : ℕ) (e : Expected) → read_row step F n acc at ≡ Err (fault.Parse l e) → (starts (F acc).begins at.rest ≡ true) ⊎ (starts (F acc).begins at.rest ≡ false) → AskedErr (row_by step F acc) at l e
row_err step F sound lf qf zero acc at l e h b = absurd (cc)
row_err step F sound lf qf (suc n) acc at l e h (inr b) = absurd (let z = sym (row_stops step F (suc n) acc at b) ∙ h in cc)
row_err step F sound lf qf (suc n) acc at l e h (inl b) =
    row_err_by step F sound lf qf n acc at l e (λ acc at h. row_err step F sound lf qf n acc at l e h (by_start (starts (F acc).begins at.rest)))
    (bind_err ((F acc).read at) (λ r. read_row step F n (step acc r.0) r.1) (fault.Parse l e) (sym (row_takes step F (suc n) n acc at refl b) ∙ h))

pub row_asks : {X Y : Type 0} (step : X → Y → X) (F : X → Form Y) (acc : X) → ((acc : X) (at next : Cursor) (y : Y) → (F acc).read at ≡ Ok (y, next) → (F acc).is at.rest y next.rest) → ((acc : X) → Alive (F acc)) → ((acc : X) → Asks (F acc))
    → ((acc : X) → (F acc).asks [] (F acc).wants) → Asks (row_by step F acc)
row_asks step F acc sound lf qf on =
    record {
      ok = λ at next x h. row_ok step F sound lf qf on (length at.rest) acc at next x h (by_start (starts (F acc).begins at.rest));
      err = λ at l e h. row_err step F sound lf qf (length at.rest) acc at l e h (by_start (starts (F acc).begins at.rest));
    }

-- with its place
placed_asked_err : {X : Type 0} (a : Form X) → Asks a → (at : Cursor) (l : ℕ) (e : Expected) → (a.read at ≡ Err (fault.Parse l e)) ⊎ ((r : X × Cursor) × (a.read at ≡ Ok r) × (at_place at r ≡ Err (fault.Parse l e))) → AskedErr a at l e
placed_asked_err a q at l e (inl h) = q.err at l e h
placed_asked_err a q at l e (inr r) = absurd (let z = r.2 in cc)

pub placed_asks : {X : Type 0} (a : Form X) → Asks a → Asks (placed a)
placed_asks {X} a q =
    record {
      ok = λ at next x h.
          let r = bind_ok (a.read at) (at_place at) (x, next) h in
          subst (λ (p : (ℕ × X) × Cursor). AskedOk a at p.1) (same_ok {A = (ℕ × X) × Cursor} _ (x, next) r.2) (q.ok at r.0.1 r.0.0 r.1);
      err = λ at l e h. placed_asked_err a q at l e (bind_err (a.read at) (at_place at) (fault.Parse l e) h);
    }
