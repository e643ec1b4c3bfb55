-- The laws of the one form or the other.
use Rattle.std.proofs.Common.{◌≡◌, ℕ, ◌≤◌, ◌<◌, Bool, true, false, ◌||◌, ◌⊎◌, inl, inr, List, [], ◌∷◌, ◌++◌, length, cond, Ok, Err, refl, sym, subst, ap, ◌∙◌}
use Rattle.tl_grammar.specs.declared.fault.Expected.{Expected}
use Rattle.tl_grammar.specs.declared.fault.Fault.{Fault}
use Rattle.tl_grammar.specs.declared.fault.Fault.TheVariants as fault
use Rattle.tl_grammar.specs.Token.{Token}
use Rattle.tl_grammar.specs.Form.{Cursor, Form, either, missing, refused, starts, too_deep}
use Rattle.tl_grammar.specs.Classes.{among, apart, class_of, mem}
use Rattle.tl_grammar.specs.Law.{left_of}
use Rattle.tl_grammar.proofs.Exact.{Exact, Fails, Opens, SameHead, put}
use Rattle.tl_grammar.proofs.Sets.{apart_stops, mem_left, mem_right, same_behind, starts_grow, starts_same, stops_at}
use Rattle.tl_grammar.proofs.Combine.{ErrLaw, OkLaw, same_fault}

pub first_read : {X : Type 0} (a b : Form X) (at : Cursor) → starts a.begins at.rest ≡ true → (either a b).read at ≡ a.read at
first_read a b at e = rw e refl

pub second_read : {X : Type 0} (a b : Form X) (at : Cursor) → starts a.begins at.rest ≡ false → (either a b).read at ≡ b.read (missing a.wants at)
second_read a b at e = rw e refl

left_or : (a b : Bool) → a ≡ true → (a || b) ≡ true
left_or true b h = refl
left_or false b h = absurd (cc)

right_or : (a b : Bool) → b ≡ true → (a || b) ≡ true
right_or true b h = refl
right_or false b h = h

pub by_start : (b : Bool) → (b ≡ true) ⊎ (b ≡ false)
by_start true = inl refl
by_start false = inr refl

either_heads : (fa fb : List ℕ) (nb : Bool) (ts rest : List Token) → (starts (among fb) ts ≡ true) ⊎ ((nb ≡ true) × (ts ≡ rest)) → (starts (among (fa ++ fb)) ts ≡ true) ⊎ ((nb ≡ true) × (ts ≡ rest))
either_heads fa fb nb ts rest (inl h) = inl (starts_grow fb (fa ++ fb) ts (λ c. mem_right c fa fb) h)
either_heads fa fb nb ts rest (inr h) = inr h

-- what may stand behind: of the first, of the second, and what begins the first where the second may be empty
abbrev pub chosen : Bool → List ℕ → List ℕ → List ℕ → List ℕ
chosen nb fa ma mb = ma ++ (mb ++ cond nb fa [])

a_stops : (nb : Bool) (fa ma mb : List ℕ) (rest : List Token) → starts (among (chosen nb fa ma mb)) rest ≡ false → starts (among ma) rest ≡ false
a_stops nb fa ma mb rest h = stops_at (among ma) rest (chosen nb fa ma mb) (λ t. mem_left (class_of t.kind) ma (mb ++ cond nb fa [])) h

b_stops : (nb : Bool) (fa ma mb : List ℕ) (rest : List Token) → starts (among (chosen nb fa ma mb)) rest ≡ false → starts (among mb) rest ≡ false
b_stops nb fa ma mb rest h =
    stops_at (among mb) rest (chosen nb fa ma mb) (λ t k. mem_right (class_of t.kind) ma (mb ++ cond nb fa []) (mem_left (class_of t.kind) mb (cond nb fa []) k)) h

none_begins : (fa ma fb mb : List ℕ) (nb : Bool) (ts rest : List Token) → apart fa fb ≡ true → (starts (among fb) ts ≡ true) ⊎ ((nb ≡ true) × (ts ≡ rest))
    → starts (among (chosen nb fa ma mb)) rest ≡ false → starts (among fa) ts ≡ false
none_begins fa ma fb mb nb ts rest a (inl h) stop = apart_stops fa fb ts a h
none_begins fa ma fb mb false ts rest a (inr h) stop = absurd (let z = h.0 in cc)
none_begins fa ma fb mb true ts rest a (inr h) stop =
    subst (λ (l : List Token). starts (among fa) l ≡ false) (sym h.1)
    (stops_at (among fa) rest (ma ++ (mb ++ fa)) (λ t k. mem_right (class_of t.kind) ma (mb ++ fa) (mem_right (class_of t.kind) mb fa k)) stop)

still : {X : Type 0} (a : Form X) (at : Cursor) (u v w : List Token) (b : Bool) → at.rest ≡ u ++ v → SameHead v w → starts a.begins at.rest ≡ b → starts a.begins (u ++ w) ≡ b
still a at u v w b e s h = starts_same a.begins (u ++ v) (u ++ w) (same_behind u v w s) ∙ ap (λ (l : List Token). starts a.begins l) (sym e) ∙ h

ok_by : {X : Type 0} (a b : Form X) → OkLaw a → OkLaw b → (at next : Cursor) (x : X) → (either a b).read at ≡ Ok (x, next) → (starts a.begins at.rest ≡ true) ⊎ (starts a.begins at.rest ≡ false)
    → (u : List Token) × (at.rest ≡ u ++ next.rest) × ((v : List Token) → SameHead next.rest v → (either a b).read (put at (u ++ v)) ≡ Ok (x, put next v))
ok_by a b oka okb at next x h (inl e) =
    let p = oka at next x (sym (first_read a b at e) ∙ h) in
    (p.0, p.1, λ v s. first_read a b (put at (p.0 ++ v)) (still a at p.0 next.rest v true p.1 s e) ∙ p.2 v s)
ok_by a b oka okb at next x h (inr e) =
    let p = okb (missing a.wants at) next x (sym (second_read a b at e) ∙ h) in
    (p.0, p.1, λ v s. second_read a b (put at (p.0 ++ v)) (still a at p.0 next.rest v false p.1 s e) ∙ p.2 v s)

err_by : {X : Type 0} (a b : Form X) → ErrLaw a → ErrLaw b → (at : Cursor) (f : Fault) → (either a b).read at ≡ Err f → (starts a.begins at.rest ≡ true) ⊎ (starts a.begins at.rest ≡ false)
    → (u : List Token) × (v : List Token) × (at.rest ≡ u ++ v) × (left_of f ≡ length v) × ((w : List Token) → SameHead v w → Fails ((either a b).read (put at (u ++ w))))
err_by a b erra errb at f h (inl e) =
    let p = erra at f (sym (first_read a b at e) ∙ h) in
    (p.0, p.1, p.2, p.3, λ w s. let z = p.4 w s in (z.0, first_read a b (put at (p.0 ++ w)) (still a at p.0 p.1 w true p.2 s e) ∙ z.1))
err_by a b erra errb at f h (inr e) =
    let p = errb (missing a.wants at) f (sym (second_read a b at e) ∙ h) in
    (p.0, p.1, p.2, p.3, λ w s. let z = p.4 w s in (z.0, second_read a b (put at (p.0 ++ w)) (still a at p.0 p.1 w false p.2 s e) ∙ z.1))

sound_by : {X : Type 0} (a b : Form X) (fa ma fb mb : List ℕ) (nb : Bool) → Exact a fa ma false → Exact b fb mb nb → (at next : Cursor) (x : X) → (either a b).read at ≡ Ok (x, next)
    → (starts a.begins at.rest ≡ true) ⊎ (starts a.begins at.rest ≡ false) → a.is at.rest x next.rest ⊎ b.is at.rest x next.rest
sound_by a b fa ma fb mb nb ea eb at next x h (inl e) = inl (ea.sound at next x (sym (first_read a b at e) ∙ h))
sound_by a b fa ma fb mb nb ea eb at next x h (inr e) = inr (eb.sound (missing a.wants at) next x (sym (second_read a b at e) ∙ h))

complete_by : {X : Type 0} (a b : Form X) (fa ma fb mb : List ℕ) (nb : Bool) → apart fa fb ≡ true → Opens a fa → Exact a fa ma false → Exact b fb mb nb → (at : Cursor) (rest : List Token) (x : X)
    → a.is at.rest x rest ⊎ b.is at.rest x rest → starts (among (chosen nb fa ma mb)) rest ≡ false → (next : Cursor) × ((either a b).read at ≡ Ok (x, next)) × (next.rest ≡ rest)
complete_by a b fa ma fb mb nb ap_ab oa ea eb at rest x (inl h) stop =
    let p = ea.complete at rest x h (a_stops nb fa ma mb rest stop) in
    (p.0, first_read a b at (oa.leads at.rest rest x h) ∙ p.1, p.2)
complete_by a b fa ma fb mb nb ap_ab oa ea eb at rest x (inr h) stop =
    let p = eb.complete (missing a.wants at) rest x h (b_stops nb fa ma mb rest stop) in
    (p.0, second_read a b at (stops_at a.begins at.rest fa oa.begins (none_begins fa ma fb mb nb at.rest rest ap_ab (eb.heads at.rest rest x h) stop)) ∙ p.1, p.2)

opened : (fa fb : List ℕ) (nb : Bool) (ts rest : List Token) → (starts (among fa) ts ≡ true) ⊎ ((false ≡ true) × (ts ≡ rest)) → (starts (among (fa ++ fb)) ts ≡ true) ⊎ ((nb ≡ true) × (ts ≡ rest))
opened fa fb nb ts rest (inl h) = inl (starts_grow fa (fa ++ fb) ts (λ c. mem_left c fa fb) h)
opened fa fb nb ts rest (inr h) = absurd (let z = h.0 in cc)

begun_left : (p q : Token → Bool) (ts : List Token) → starts p ts ≡ true → starts (λ t. p t || q t) ts ≡ true
begun_left p q [] h = h
begun_left p q (t ∷ ts) h = left_or (p t) (q t) h

begun_right : (p q : Token → Bool) (ts : List Token) → starts q ts ≡ true → starts (λ t. p t || q t) ts ≡ true
begun_right p q [] h = h
begun_right p q (t ∷ ts) h = right_or (p t) (q t) h

begun_among : (b c : Bool) (n : ℕ) (fa fb : List ℕ) → (b ≡ true → mem n fa ≡ true) → (c ≡ true → mem n fb ≡ true) → (b || c) ≡ true → mem n (fa ++ fb) ≡ true
begun_among true c n fa fb f g h = mem_left n fa fb (f refl)
begun_among false c n fa fb f g h = mem_right n fa fb (g h)

heads_by : {X : Type 0} (a b : Form X) (fa ma fb mb : List ℕ) (nb : Bool) → Exact a fa ma false → Exact b fb mb nb → (ts rest : List Token) (x : X)
    → a.is ts x rest ⊎ b.is ts x rest → (starts (among (fa ++ fb)) ts ≡ true) ⊎ ((nb ≡ true) × (ts ≡ rest))
heads_by a b fa ma fb mb nb ea eb ts rest x (inl h) = opened fa fb nb ts rest (ea.heads ts rest x h)
heads_by a b fa ma fb mb nb ea eb ts rest x (inr h) = either_heads fa fb nb ts rest (eb.heads ts rest x h)

shrinks_by : {X : Type 0} (a b : Form X) (fa ma fb mb : List ℕ) (na nb : Bool) → Exact a fa ma na → Exact b fb mb nb → (ts rest : List Token) (x : X)
    → a.is ts x rest ⊎ b.is ts x rest → length rest ≤ length ts
shrinks_by a b fa ma fb mb na nb ea eb ts rest x (inl h) = ea.shrinks ts rest x h
shrinks_by a b fa ma fb mb na nb ea eb ts rest x (inr h) = eb.shrinks ts rest x h

pub either_exact : {X : Type 0} (a b : Form X) (fa ma fb mb : List ℕ) (nb : Bool) → apart fa fb ≡ true → Opens a fa → Exact a fa ma false → Exact b fb mb nb
    → Exact (either a b) (fa ++ fb) (chosen nb fa ma mb) nb
either_exact a b fa ma fb mb nb ap_ab oa ea eb =
    record {
      heads = λ ts rest x h. heads_by a b fa ma fb mb nb ea eb ts rest x h;
      shrinks = λ ts rest x h. shrinks_by a b fa ma fb mb false nb ea eb ts rest x h;
      sound = λ at next x h. sound_by a b fa ma fb mb nb ea eb at next x h (by_start (starts a.begins at.rest));
      complete = λ at rest x h stop. complete_by a b fa ma fb mb nb ap_ab oa ea eb at rest x h stop;
      ok = λ at next x h. ok_by a b ea.ok eb.ok at next x h (by_start (starts a.begins at.rest));
      err = λ at f h. err_by a b ea.err eb.err at f h (by_start (starts a.begins at.rest));
    }

leads_by : {X : Type 0} (a b : Form X) (fa fb : List ℕ) → Opens a fa → Opens b fb → (ts rest : List Token) (x : X) → a.is ts x rest ⊎ b.is ts x rest → starts (either a b).begins ts ≡ true
leads_by a b fa fb oa ob ts rest x (inl h) = begun_left a.begins b.begins ts (oa.leads ts rest x h)
leads_by a b fa fb oa ob ts rest x (inr h) = begun_right a.begins b.begins ts (ob.leads ts rest x h)

strict_by : {X : Type 0} (a b : Form X) (fa fb : List ℕ) → Opens a fa → Opens b fb → (ts rest : List Token) (x : X) → a.is ts x rest ⊎ b.is ts x rest → length rest < length ts
strict_by a b fa fb oa ob ts rest x (inl h) = oa.strict ts rest x h
strict_by a b fa fb oa ob ts rest x (inr h) = ob.strict ts rest x h

pub either_opens : {X : Type 0} (a b : Form X) (fa fb : List ℕ) → Opens a fa → Opens b fb → Opens (either a b) (fa ++ fb)
either_opens a b fa fb oa ob =
    record {
      leads = leads_by a b fa fb oa ob;
      begins = λ t h. begun_among (a.begins t) (b.begins t) (class_of t.kind) fa fb (oa.begins t) (ob.begins t) h;
      strict = strict_by a b fa fb oa ob;
    }

-- nothing is of a form that would nest too deep
pub deep_err : {X : Type 0} (begins : Token → Bool) (e : Expected) (at : Cursor) (b : Bool) → (f : Fault) → cond b (Err (fault.Deep (length at.rest))) (refused {A = X × Cursor} e at) ≡ Err f → left_of f ≡ length at.rest
deep_err {X} begins e at true f h = ap left_of (sym (same_fault {A = X × Cursor} _ f h))
deep_err {X} begins e at false f h = ap left_of (sym (same_fault {A = X × Cursor} _ f h))

deep_fails : {X : Type 0} (e : Expected) (at : Cursor) (b : Bool) → Fails (cond b (Err (fault.Deep (length at.rest))) (refused {A = X × Cursor} e at))
deep_fails e at true = (_, refl)
deep_fails e at false = (_, refl)

deep_not_ok : {X : Type 0} (e : Expected) (at next : Cursor) (x : X) (b : Bool) → cond b (Err (fault.Deep (length at.rest))) (refused {A = X × Cursor} e at) ≡ Ok (x, next) → ⊥
deep_not_ok e at next x true h = cc
deep_not_ok e at next x false h = cc

pub deep_exact : {X : Type 0} (begins : Token → Bool) (e : Expected) (first : List ℕ) → Exact (too_deep {X = X} begins e) first [] false
deep_exact {X} begins e first =
    record {
      heads = λ ts rest x h. absurd h;
      shrinks = λ ts rest x h. absurd h;
      sound = λ at next x h. deep_not_ok e at next x (starts begins at.rest) h;
      complete = λ at rest x h stop. absurd h;
      ok = λ at next x h. absurd (deep_not_ok e at next x (starts begins at.rest) h);
      err = λ at f h. ([], at.rest, refl, deep_err {X = X} begins e at (starts begins at.rest) f h, λ w s. deep_fails {X = X} e (put at w) (starts begins w));
    }

pub deep_opens : {X : Type 0} (begins : Token → Bool) (e : Expected) (first : List ℕ) → ((t : Token) → begins t ≡ true → among first t ≡ true) → Opens (too_deep {X = X} begins e) first
deep_opens begins e first f =
    record {
      leads = λ ts rest x h. absurd h;
      begins = f;
      strict = λ ts rest x h. absurd h;
    }
