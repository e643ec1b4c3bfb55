-- What was read before a fault can be gone on with.
use Rattle.std.proofs.Common.{◌≡◌, ℕ, zero, suc, Bool, true, false, ◌⊎◌, inl, inr, List, [], ◌∷◌, ◌++◌, append_assoc, length, Option, Some, Ok, Err, refl, sym, subst, ap, ◌∙◌}
use Rattle.tl_grammar.specs.declared.fault.Expected.{Expected}
use Rattle.tl_grammar.specs.declared.fault.Fault.{Fault}
use Rattle.tl_grammar.specs.Token.{Token}
use Rattle.tl_grammar.specs.Form.{Cursor, Form, IsRow, ◌>>=◌, either, is_one, missing, one, pure, read_one, read_row, row_by, starts, too_deep}
use Rattle.tl_grammar.specs.Law.{left_of}
use Rattle.tl_grammar.proofs.Exact.{Exact}
use Rattle.tl_grammar.proofs.Rows.{row_stops, row_takes}
use Rattle.tl_grammar.proofs.Combine.{bind_err, err_pick, same_fault}
use Rattle.tl_grammar.proofs.Choose.{by_start, deep_err, first_read, second_read}

-- with what was read and something behind it there is one
abbrev pub Going : {X : Type 0} → Form X → List Token → ℕ → Type 0
Going {X} F ts left = (u : List Token) × (v : List Token) × (ts ≡ u ++ v) × (left ≡ length v) × (s : List Token) × (x : X) × ((tail : List Token) → F.is (u ++ (s ++ tail)) x tail)

-- there is one at all
abbrev pub Sample : {X : Type 0} → Form X → Type 0
Sample {X} F = (s : List Token) × (x : X) × ((tail : List Token) → F.is (s ++ tail) x tail)

abbrev pub Front : {X : Type 0} → Form X → List Token → X → List Token → Type 0
Front F ts x rest = (u : List Token) × (ts ≡ u ++ rest) × ((tail : List Token) → F.is (u ++ tail) x tail)

pub record Alive {X : Type 0} (F : Form X) : Type 0 where
  -- what stands behind doesn't matter
  pub front : (ts rest : List Token) (x : X) → F.is ts x rest → Front F ts x rest
  -- a fault stands at the first token, or behind what can be gone on with
  pub viable : (at : Cursor) (f : Fault) → F.read at ≡ Err f → (left_of f ≡ length at.rest) ⊎ Going F at.rest (left_of f)

pub regroup : {X : Type 0} (F : Form X) (a b c rest : List Token) (x : X) → F.is (a ++ (b ++ c)) x rest → F.is ((a ++ b) ++ c) x rest
regroup {X} F a b c rest x h = subst (λ (l : List Token). F.is l x rest) (sym (append_assoc a b c)) h

-- one token
front_one : {X : Type 0} (e : Expected) (pick : Token → Option X) (ts rest : List Token) (x : X) → is_one pick ts x rest → Front (one e pick) ts x rest
front_one e pick [] rest x h = absurd h
front_one e pick (t ∷ ts) rest x h = (t ∷ [], ap (λ (l : List Token). t ∷ l) h.1, λ tail. (h.0, refl))

err_left : {X : Type 0} (pick : Token → Option X) (e : Expected) (at : Cursor) (ts : List Token) (f : Fault) → read_one pick e at ts ≡ Err f → left_of f ≡ length at.rest
err_left {X} pick e at [] f h = ap left_of (sym (same_fault {A = X × Cursor} _ f h))
err_left pick e at (t ∷ ts) f h = let z = err_pick pick (pick t) e at ts f h in z.1

pub one_alive : {X : Type 0} (e : Expected) (pick : Token → Option X) → Alive (one e pick)
one_alive e pick = record { front = front_one e pick; viable = λ at f h. inl (err_left pick e at at.rest f h) }

pub one_sample : {X : Type 0} (e : Expected) (pick : Token → Option X) (t : Token) (x : X) → pick t ≡ Some x → Sample (one e pick)
one_sample e pick t x h = (t ∷ [], x, λ tail. (h, refl))

pub pure_alive : {X : Type 0} (x : X) → Alive (pure x)
pure_alive x = record { front = λ ts rest y h. ([], h.1, λ tail. (h.0, refl)); viable = λ at f h. absurd (cc) }

pub pure_sample : {X : Type 0} (x : X) → Sample (pure x)
pure_sample x = ([], x, λ tail. (refl, refl))

-- one behind the other
viable_first : {A B : Type 0} (a : Form A) (b : A → Form B) → ((x : A) → Sample (b x)) → (at : Cursor) (f : Fault)
    → (left_of f ≡ length at.rest) ⊎ Going a at.rest (left_of f) → (left_of f ≡ length at.rest) ⊎ Going (a >>= b) at.rest (left_of f)
viable_first a b sb at f (inl h) = inl h
viable_first a b sb at f (inr g) =
    let t = sb g.5 in
    inr (
      g.0,
      g.1,
      g.2,
      g.3,
      g.4 ++ t.0,
      t.1,
      λ tail. (
        g.5,
        t.0 ++ tail,
        subst (λ (l : List Token). a.is (g.0 ++ l) g.5 (t.0 ++ tail)) (sym (append_assoc g.4 t.0 tail)) (g.6 (t.0 ++ tail)),
        t.2 tail,
      ),
    )

viable_second : {A B : Type 0} (a : Form A) (b : A → Form B) (at : Cursor) (f : Fault) (x : A) (mid : Cursor) → Front a at.rest x mid.rest → Sample (b x)
    → (left_of f ≡ length mid.rest) ⊎ Going (b x) mid.rest (left_of f) → (left_of f ≡ length at.rest) ⊎ Going (a >>= b) at.rest (left_of f)
viable_second a b at f x mid p t (inl h) = inr (p.0, mid.rest, p.1, h, t.0, t.1, λ tail. (x, t.0 ++ tail, p.2 (t.0 ++ tail), t.2 tail))
viable_second a b at f x mid p t (inr g) =
    inr (
      p.0 ++ g.0,
      g.1,
      p.1 ∙ ap (λ (l : List Token). p.0 ++ l) g.2 ∙ sym (append_assoc p.0 g.0 g.1),
      g.3,
      g.4,
      g.5,
      λ tail. (x, g.0 ++ (g.4 ++ tail), regroup a p.0 g.0 (g.4 ++ tail) (g.0 ++ (g.4 ++ tail)) x (p.2 (g.0 ++ (g.4 ++ tail))), g.6 tail),
    )

viable_by : {A B : Type 0} (a : Form A) (b : A → Form B) (fa ma : List ℕ) (na : Bool) → Exact a fa ma na → Alive a → ((x : A) → Alive (b x)) → ((x : A) → Sample (b x)) → (at : Cursor) (f : Fault)
    → (a.read at ≡ Err f) ⊎ ((r : A × Cursor) × (a.read at ≡ Ok r) × ((b r.0).read r.1 ≡ Err f)) → (left_of f ≡ length at.rest) ⊎ Going (a >>= b) at.rest (left_of f)
viable_by a b fa ma na ea la lb sb at f (inl h) = viable_first a b sb at f (la.viable at f h)
viable_by a b fa ma na ea la lb sb at f (inr r) =
    viable_second a b at f r.0.0 r.0.1 (la.front at.rest r.0.1.rest r.0.0 (ea.sound at r.0.1 r.0.0 r.1)) (sb r.0.0) ((lb r.0.0).viable r.0.1 f r.2)

pub bind_alive : {A B : Type 0} (a : Form A) (b : A → Form B) (fa ma : List ℕ) (na : Bool) → Exact a fa ma na → Alive a → ((x : A) → Alive (b x)) → ((x : A) → Sample (b x)) → Alive (a >>= b)
bind_alive a b fa ma na ea la lb sb =
    record {
      front = λ ts rest y h.
          let p = la.front ts h.1 h.0 h.2 in
          let q = (lb h.0).front h.1 rest y h.3 in (
            p.0 ++ q.0,
            p.1 ∙ ap (λ (l : List Token). p.0 ++ l) q.1 ∙ sym (append_assoc p.0 q.0 rest),
            λ tail. (h.0, q.0 ++ tail, regroup a p.0 q.0 tail (q.0 ++ tail) h.0 (p.2 (q.0 ++ tail)), q.2 tail),
          );
      viable = λ at f h. viable_by a b fa ma na ea la lb sb at f (bind_err (a.read at) (λ r. (b r.0).read r.1) f h);
    }

pub bind_sample : {A B : Type 0} (a : Form A) (b : A → Form B) → Sample a → ((x : A) → Sample (b x)) → Sample (a >>= b)
bind_sample a b sa sb =
    let t = sb sa.1 in
    (sa.0 ++ t.0, t.1, λ tail. (sa.1, t.0 ++ tail, regroup a sa.0 t.0 tail (t.0 ++ tail) sa.1 (sa.2 (t.0 ++ tail)), t.2 tail))

-- the one or the other
either_going_left : {X : Type 0} (a b : Form X) (ts : List Token) (left : ℕ) (l : ℕ) → (left ≡ l) ⊎ Going a ts left → (left ≡ l) ⊎ Going (either a b) ts left
either_going_left a b ts left l (inl h) = inl h
either_going_left a b ts left l (inr g) = inr (g.0, g.1, g.2, g.3, g.4, g.5, λ tail. inl (g.6 tail))

either_going_right : {X : Type 0} (a b : Form X) (ts : List Token) (left : ℕ) (l : ℕ) → (left ≡ l) ⊎ Going b ts left → (left ≡ l) ⊎ Going (either a b) ts left
either_going_right a b ts left l (inl h) = inl h
either_going_right a b ts left l (inr g) = inr (g.0, g.1, g.2, g.3, g.4, g.5, λ tail. inr (g.6 tail))

either_viable : {X : Type 0} (a b : Form X) → Alive a → Alive b → (at : Cursor) (f : Fault) → (either a b).read at ≡ Err f → (starts a.begins at.rest ≡ true) ⊎ (starts a.begins at.rest ≡ false)
    → (left_of f ≡ length at.rest) ⊎ Going (either a b) at.rest (left_of f)
either_viable a b la lb at f h (inl e) = either_going_left a b at.rest (left_of f) (length at.rest) (la.viable at f (sym (first_read a b at e) ∙ h))
either_viable a b la lb at f h (inr e) = either_going_right a b at.rest (left_of f) (length at.rest) (lb.viable (missing a.wants at) f (sym (second_read a b at e) ∙ h))

either_front : {X : Type 0} (a b : Form X) → Alive a → Alive b → (ts rest : List Token) (x : X) → a.is ts x rest ⊎ b.is ts x rest → Front (either a b) ts x rest
either_front a b la lb ts rest x (inl h) = let p = la.front ts rest x h in (p.0, p.1, λ tail. inl (p.2 tail))
either_front a b la lb ts rest x (inr h) = let p = lb.front ts rest x h in (p.0, p.1, λ tail. inr (p.2 tail))

pub either_alive : {X : Type 0} (a b : Form X) → Alive a → Alive b → Alive (either a b)
either_alive a b la lb =
    record {
      front = either_front a b la lb;
      viable = λ at f h. either_viable a b la lb at f h (by_start (starts a.begins at.rest));
    }

pub either_sample : {X : Type 0} (a b : Form X) → Sample a → Sample (either a b)
either_sample a b s = (s.0, s.1, λ tail. inl (s.2 tail))

pub other_sample : {X : Type 0} (a b : Form X) → Sample b → Sample (either a b)
other_sample a b s = (s.0, s.1, λ tail. inr (s.2 tail))

-- a row
row_front : {X Y : Type 0} (step : X → Y → X) (F : X → Form Y) → ((x : X) → Alive (F x)) → (ys : List Y) (acc x : X) (ts rest : List Token) → IsRow step F acc ts ys x rest
    → (u : List Token) × (ts ≡ u ++ rest) × ((tail : List Token) → IsRow step F acc (u ++ tail) ys x tail)
row_front step F l [] acc x ts rest h = ([], h.1, λ tail. (h.0, refl))
row_front step F l (y ∷ ys) acc x ts rest h =
    let p = (l acc).front ts h.0 y h.1 in
    let q = row_front step F l ys (step acc y) x h.0 rest h.2 in (
      p.0 ++ q.0,
      p.1 ∙ ap (λ (l : List Token). p.0 ++ l) q.1 ∙ sym (append_assoc p.0 q.0 rest),
      λ tail. (q.0 ++ tail, regroup (F acc) p.0 q.0 tail (q.0 ++ tail) y (p.2 (q.0 ++ tail)), q.2 tail),
    )

row_viable_first : {X Y : Type 0} (step : X → Y → X) (F : X → Form Y) (acc : X) (ts : List Token) (left : ℕ) → (left ≡ length ts) ⊎ Going (F acc) ts left → (left ≡ length ts) ⊎ Going (row_by step F acc) ts left
row_viable_first step F acc ts left (inl h) = inl h
row_viable_first step F acc ts left (inr g) = inr (g.0, g.1, g.2, g.3, g.4, step acc g.5, λ tail. (g.5 ∷ [], (tail, g.6 tail, (refl, refl))))

row_viable_more : {X Y : Type 0} (step : X → Y → X) (F : X → Form Y) (acc : X) (ts mid : List Token) (y : Y) (left : ℕ) → Front (F acc) ts y mid
    → (left ≡ length mid) ⊎ Going (row_by step F (step acc y)) mid left → (left ≡ length ts) ⊎ Going (row_by step F acc) ts left
row_viable_more step F acc ts mid y left p (inl h) = inr (p.0, mid, p.1, h, [], step acc y, λ tail. (y ∷ [], (tail, p.2 tail, (refl, refl))))
row_viable_more step F acc ts mid y left p (inr g) =
    inr (
      p.0 ++ g.0,
      g.1,
      p.1 ∙ ap (λ (l : List Token). p.0 ++ l) g.2 ∙ sym (append_assoc p.0 g.0 g.1),
      g.3,
      g.4,
      g.5,
      λ tail. let k = g.6 tail in (y ∷ k.0, (g.0 ++ (g.4 ++ tail), regroup (F acc) p.0 g.0 (g.4 ++ tail) (g.0 ++ (g.4 ++ tail)) y (p.2 (g.0 ++ (g.4 ++ tail))), k.1)),
    )

row_split : {X Y : Type 0} (step : X → Y → X) (F : X → Form Y) (first mf : List ℕ) → ((x : X) → Exact (F x) first mf false) → ((x : X) → Alive (F x)) → (n : ℕ) (acc : X) (at : Cursor) (f : Fault)
    → ((acc : X) (at : Cursor) → read_row step F n acc at ≡ Err f → (left_of f ≡ length at.rest) ⊎ Going (row_by step F acc) at.rest (left_of f))
    → ((F acc).read at ≡ Err f) ⊎ ((r : Y × Cursor) × ((F acc).read at ≡ Ok r) × (read_row step F n (step acc r.0) r.1 ≡ Err f)) → (left_of f ≡ length at.rest) ⊎ Going (row_by step F acc) at.rest (left_of f)
row_split step F first mf ef l n acc at f hyp (inl h) = row_viable_first step F acc at.rest (left_of f) ((l acc).viable at f h)
row_split step F first mf ef l n acc at f hyp (inr r) =
    row_viable_more step F acc at.rest r.0.1.rest r.0.0 (left_of f) ((l acc).front at.rest r.0.1.rest r.0.0 ((ef acc).sound at r.0.1 r.0.0 r.1)) (hyp (step acc r.0.0) r.0.1 r.2)

row_viable : {X Y : Type 0} (step : X → Y → X) (F : X → Form Y) (first mf : List ℕ) → ((x : X) → Exact (F x) first mf false) → ((x : X) → Alive (F x)) → (n : ℕ) (acc : X) (at : Cursor) (f : Fault) → read_row step F n acc at ≡ Err f
    → (starts (F acc).begins at.rest ≡ true) ⊎ (starts (F acc).begins at.rest ≡ false) → (left_of f ≡ length at.rest) ⊎ Going (row_by step F acc) at.rest (left_of f)
row_viable step F first mf ef l zero acc at f h b = absurd (cc)
row_viable step F first mf ef l (suc n) acc at f h (inr e) = absurd (let z = sym (row_stops step F (suc n) acc at e) ∙ h in cc)
row_viable step F first mf ef l (suc n) acc at f h (inl e) =
    row_split step F first mf ef l n acc at f (λ acc at h. row_viable step F first mf ef l n acc at f h (by_start (starts (F acc).begins at.rest)))
    (bind_err ((F acc).read at) (λ r. read_row step F n (step acc r.0) r.1) f (sym (row_takes step F (suc n) n acc at refl e) ∙ h))

pub row_alive : {X Y : Type 0} (step : X → Y → X) (F : X → Form Y) (acc : X) (first mf : List ℕ) → ((x : X) → Exact (F x) first mf false) → ((x : X) → Alive (F x)) → Alive (row_by step F acc)
row_alive step F acc first mf ef l =
    record {
      front = λ ts rest x h. let p = row_front step F l h.0 acc x ts rest h.1 in (p.0, p.1, λ tail. (h.0, p.2 tail));
      viable = λ at f h. row_viable step F first mf ef l (length at.rest) acc at f h (by_start (starts (F acc).begins at.rest));
    }

pub row_sample : {X Y : Type 0} (step : X → Y → X) (F : X → Form Y) (acc : X) → Sample (row_by step F acc)
row_sample step F acc = ([], acc, λ tail. ([], (refl, refl)))

pub deep_alive : {X : Type 0} (begins : Token → Bool) (e : Expected) → Alive (too_deep {X = X} begins e)
deep_alive {X} begins e =
    record {
      front = λ ts rest x h. absurd h;
      viable = λ at f h. inl (deep_err {X = X} begins e at (starts begins at.rest) f h);
    }
