-- What is expected goes on.
use Rattle.std.proofs.Common.{◌≡◌, ℕ, suc, Bool, true, false, ◌⊎◌, inl, inr, List, [], ◌∷◌, ◌++◌, append_assoc, length, Option, Some, None, Result, Ok, Err, refl, sym, subst, ap, ◌∙◌}
use Rattle.std.proofs.lemmas.List.{append-nil}
use Rattle.tl_grammar.specs.declared.fault.Expected.{Expected}
use Rattle.tl_grammar.specs.declared.fault.Expected.TheVariants as want
use Rattle.tl_grammar.specs.declared.fault.Fault.{Fault}
use Rattle.tl_grammar.specs.declared.fault.Fault.TheVariants as fault
use Rattle.tl_grammar.specs.declared.token.Sign.TheVariants as s
use Rattle.tl_grammar.specs.declared.statement.Statement.{Statement}
use Rattle.tl_grammar.specs.Token.{Kind, Token}
use Rattle.tl_grammar.specs.Token as kind
use Rattle.tl_grammar.specs.Pick.{sign_kind}
use Rattle.tl_grammar.specs.Form.{Cursor, ◌>>=ᵣ◌, ◌>>=◌, fresh, missing, nothing, or_else, pure, read_one, starts}
use Rattle.tl_grammar.specs.Grammar.{IsStatement, ended, ending, given, parsed_within, sentence, sign, statement_form}
use Rattle.tl_grammar.specs.Law.{Begins, GoesOnWith, expected_of}
use Rattle.tl_grammar.proofs.Combine.{bind_err, bind_ok, same_ok, sound_pick}
use Rattle.tl_grammar.proofs.Choose.{by_start, first_read, second_read}
use Rattle.tl_grammar.proofs.Seeks.{FrontOf, Never, On, Seeks, carried, front_of, one_begun_err, refused_is}
use Rattle.tl_grammar.proofs.Forms.{Full}
use Rattle.tl_grammar.proofs.Rules.{statement_law}

statement_seeks : (d : ℕ) → Seeks Never (statement_form d) (statement_form (suc d))
statement_seeks d = (statement_law {k = Full} d).inner.near.seeks refl

statement_front : (d : ℕ) (at mid : Cursor) (u : List Token) (x : Statement) → at.rest ≡ u ++ mid.rest → (statement_form d).read at ≡ Ok (x, mid) → FrontOf (statement_form (suc d)) u x
statement_front d at mid u x e h =
    let l = statement_law {k = Full} d in
    front_of (statement_form (suc d)) l.inner.near.high_lives at.rest u mid.rest x e ((l.inner.near.deeper refl).mono at.rest mid.rest x (l.inner.near.low.sound at mid x h))

-- the end of a statement
semicolon_reads : (c next : Cursor) (at : ℕ) (ts : List Token) → read_one (λ t. sign_kind s.Semicolon t.start t.kind) want.Sign c ts ≡ Ok (at, next)
    → (t : Token) × (ts ≡ t ∷ next.rest) × (next.wanted ≡ None) × (sign_kind s.Semicolon t.start t.kind ≡ Some at)
semicolon_reads c next at [] h = absurd (cc)
semicolon_reads c next at (t ∷ ts) h =
    let z = sound_pick (λ t. sign_kind s.Semicolon t.start t.kind) (sign_kind s.Semicolon t.start t.kind) want.Sign c next t ts at refl h in
    (t, ap (λ (c : Cursor). t ∷ c.rest) (sym z.1), ap (λ (c : Cursor). c.wanted) z.1, z.0)

none_starts : (ts : List Token) → starts (λ t. false) ts ≡ false
none_starts [] = refl
none_starts (t ∷ ts) = refl

-- nothing, or a semicolon
abbrev EndedBy : Cursor → Cursor → Type 0
EndedBy c next =
    ((c.rest ≡ next.rest) × (next.wanted ≡ Some (or_else c.wanted want.End)))
    ⊎ ((t : Token) × (c.rest ≡ t ∷ next.rest) × (next.wanted ≡ None) × (end : Bool) × ((tail : List Token) → ending.is (t ∷ tail) end tail))

semicolon_is : (t : Token) (at : ℕ) → sign_kind s.Semicolon t.start t.kind ≡ Some at → (tail : List Token) → ending.is (t ∷ tail) true tail
unfolding ending given sign
semicolon_is t at h tail = inr (inl (at, tail, (h, refl), (refl, refl)))

ending_by : (c next : Cursor) (b : Bool) → (given (sign s.Semicolon)).read (missing want.End c) ≡ Ok (b, next) → (starts (sign s.Semicolon).begins c.rest ≡ true) ⊎ (starts (sign s.Semicolon).begins c.rest ≡ false) → EndedBy c next
unfolding given sign
ending_by c next b h (inl e) =
    let k = sym (first_read (sign s.Semicolon >>= (λ x. pure true)) (pure false) (missing want.End c) e) ∙ h in
    let r = bind_ok ((sign s.Semicolon).read (missing want.End c)) (λ r. Ok (true, r.1)) (b, next) k in
    let z = semicolon_reads (missing want.End c) r.0.1 r.0.0 c.rest r.1 in
    let same = ap (λ (q : Bool × Cursor). q.1) (same_ok {A = Bool × Cursor} (true, r.0.1) (b, next) r.2) in
    inr (z.0, z.1 ∙ ap (λ (q : Cursor). z.0 ∷ q.rest) same, ap (λ (q : Cursor). q.wanted) (sym same) ∙ z.2, true, semicolon_is z.0 r.0.0 z.3)
ending_by c next b h (inr e) =
    let k = sym (second_read (sign s.Semicolon >>= (λ x. pure true)) (pure false) (missing want.End c) e) ∙ h in
    let same = ap (λ (q : Bool × Cursor). q.1) (same_ok {A = Bool × Cursor} (false, missing want.Sign (missing want.End c)) (b, next) k) in
    inl (ap (λ (q : Cursor). q.rest) same, ap (λ (q : Cursor). q.wanted) (sym same))

ending_reads : (c next : Cursor) (b : Bool) → ending.read c ≡ Ok (b, next) → EndedBy c next
unfolding ending
ending_reads c next b h =
    ending_by c next b (sym (second_read (nothing want.End) (given (sign s.Semicolon)) c (none_starts c.rest)) ∙ h) (by_start (starts (sign s.Semicolon).begins c.rest))

ending_sure : (c : Cursor) (l : ℕ) (e : Expected) → (given (sign s.Semicolon)).read (missing want.End c) ≡ Err (fault.Parse l e) → (starts (sign s.Semicolon).begins c.rest ≡ true) ⊎ (starts (sign s.Semicolon).begins c.rest ≡ false) → ⊥
unfolding given sign
ending_sure c l e h (inl b) =
    let k = sym (first_read (sign s.Semicolon >>= (λ x. pure true)) (pure false) (missing want.End c) b) ∙ h in
    semicolon_sure (bind_err ((sign s.Semicolon).read (missing want.End c)) (λ r. Ok (true, r.1)) (fault.Parse l e) k)
  where
    semicolon_sure : ((sign s.Semicolon).read (missing want.End c) ≡ Err (fault.Parse l e)) ⊎ ((r : ℕ × Cursor) × ((sign s.Semicolon).read (missing want.End c) ≡ Ok r) × (◌≡◌ {A = Result (Bool × Cursor) Fault} (Ok (true, r.1)) (Err (fault.Parse l e)))) → ⊥
    semicolon_sure (inl h) = one_begun_err want.Sign (λ t. sign_kind s.Semicolon t.start t.kind) (missing want.End c) c.rest l e b h
    semicolon_sure (inr r) = let z = r.2 in cc
ending_sure c l e h (inr b) = let k = sym (second_read (sign s.Semicolon >>= (λ x. pure true)) (pure false) (missing want.End c) b) ∙ h in cc

ending_never_fails : (c : Cursor) (l : ℕ) (e : Expected) → ending.read c ≡ Err (fault.Parse l e) → ⊥
unfolding ending
ending_never_fails c l e h =
    ending_sure c l e (sym (second_read (nothing want.End) (given (sign s.Semicolon)) c (none_starts c.rest)) ∙ h) (by_start (starts (sign s.Semicolon).begins c.rest))

-- what goes on with a statement
never_end : (k : Kind) → expected_of k ≡ Some want.End → ⊥
never_end (kind.Word x) h = cc
never_end (kind.Name text) h = cc
never_end (kind.Number n) h = cc
never_end (kind.Sign x) h = cc
never_end (kind.Text bytes) h = cc
never_end kind.Other h = cc

no_ending : ending.is [] false []
unfolding ending given
no_ending = inr (inr (refl, refl))

begins_with : (d : ℕ) (u : List Token) (e : Expected) → (o : On (statement_form d) u e) → Begins d (u ++ o.0 ∷ [])
unfolding sentence
begins_with d u e o = (
  o.2,
  o.3,
  (
    o.3,
    [],
    subst (λ (z : List Token). (statement_form d).is z o.3 []) (ap (λ (z : List Token). u ++ (o.0 ∷ z)) (append-nil o.2) ∙ sym (append_assoc u (o.0 ∷ []) o.2)) (o.4 []),
    (false, [], no_ending, (refl, refl)),
  ),
)

goes_on_with : (d : ℕ) (u : List Token) (e : Expected) → On (statement_form d) u e → GoesOnWith d u e
goes_on_with d u want.Word o = (o.0, o.1, begins_with d u want.Word o)
goes_on_with d u want.Name o = (o.0, o.1, begins_with d u want.Name o)
goes_on_with d u want.Number o = (o.0, o.1, begins_with d u want.Number o)
goes_on_with d u want.Sign o = (o.0, o.1, begins_with d u want.Sign o)
goes_on_with d u want.End o = absurd (never_end o.0.kind o.1)

pub carried_nothing : (u : List Token) → carried None u ≡ None
carried_nothing [] = refl
carried_nothing (t ∷ u) = refl

abbrev GoesOnAt : ℕ → List Token → ℕ → Expected → Type 0
GoesOnAt d ts l e = (before : List Token) × (rest : List Token) × (ts ≡ before ++ rest) × (l ≡ length rest) × GoesOnWith d before e

-- within the statement
inside : (d : ℕ) (ts : List Token) (l : ℕ) (e : Expected) → (statement_form d).read (fresh ts) ≡ Err (fault.Parse l e) → GoesOnAt (suc d) ts l e
inside d ts l e h =
    let p = (statement_seeks d).err (fresh ts) l e h in
    (p.0, p.1, p.2, p.3, goes_on_with (suc d) p.0 e (subst (λ (w : Expected). On (statement_form (suc d)) p.0 w) (sym (p.4.1 ∙ ap (λ (z : Option Expected). or_else z p.4.0) (carried_nothing p.0))) p.4.2))

-- behind it
abbrev Looked : ℕ → List Token → Option Expected → Type 0
Looked d u wanted = (wanted ≡ carried None u) ⊎ ((w : Expected) × (wanted ≡ Some (or_else (carried None u) w)) × (On (statement_form d) u w ⊎ Never w))

whole : (d : ℕ) (u : List Token) (x : Statement) → FrontOf (statement_form d) u x → IsStatement d u x
unfolding sentence
whole d u x front = (x, [], subst (λ (z : List Token). (statement_form d).is z x []) (append-nil u) (front []), (false, [], no_ending, (refl, refl)))

whole_with : (d : ℕ) (u : List Token) (t : Token) (x : Statement) (end : Bool) → FrontOf (statement_form d) u x → ((tail : List Token) → ending.is (t ∷ tail) end tail) → IsStatement d (u ++ t ∷ []) x
unfolding sentence
whole_with d u t x end front h = (x, t ∷ [], front (t ∷ []), (end, [], h [], (refl, refl)))

behind_whole : (d : ℕ) (u : List Token) (x : Statement) (wanted : Option Expected) (e : Expected) → FrontOf (statement_form d) u x → e ≡ or_else wanted want.End → Looked d u wanted → GoesOnWith d u e
behind_whole d u x wanted e front h (inl k) =
    subst (λ (w : Expected). GoesOnWith d u w) (sym (h ∙ ap (λ (z : Option Expected). or_else z want.End) (k ∙ carried_nothing u))) (x, whole d u x front)
behind_whole d u x wanted e front h (inr (w, k, inl on)) =
    goes_on_with d u e (subst (λ (w : Expected). On (statement_form d) u w) (sym (h ∙ ap (λ (z : Option Expected). or_else z want.End) (k ∙ ap (λ (z : Option Expected). Some (or_else z w)) (carried_nothing u)))) on)
behind_whole d u x wanted e front h (inr (w, k, inr n)) = absurd n

behind : (d : ℕ) (ts : List Token) (l : ℕ) (e : Expected) (x : Statement) (mid next : Cursor) → (statement_form d).read (fresh ts) ≡ Ok (x, mid) → EndedBy mid next → (l ≡ length next.rest) × (e ≡ or_else next.wanted want.End) → GoesOnAt (suc d) ts l e
behind d ts l e x mid next h (inl k) z =
    let p = (statement_seeks d).ok (fresh ts) mid x h in (
      p.0,
      next.rest,
      p.1 ∙ ap (λ (r : List Token). p.0 ++ r) k.0,
      z.0,
      behind_whole (suc d) p.0 x mid.wanted e (statement_front d (fresh ts) mid p.0 x p.1 h) (z.1 ∙ ap (λ (w : Option Expected). or_else w want.End) k.1) p.2,
    )
behind d ts l e x mid next h (inr k) z =
    let p = (statement_seeks d).ok (fresh ts) mid x h in (
      p.0 ++ k.0 ∷ [],
      next.rest,
      p.1 ∙ ap (λ (r : List Token). p.0 ++ r) k.1 ∙ sym (append_assoc p.0 (k.0 ∷ []) next.rest),
      z.0,
      subst (λ (w : Expected). GoesOnWith (suc d) (p.0 ++ k.0 ∷ []) w) (sym (z.1 ∙ ap (λ (w : Option Expected). or_else w want.End) k.2))
          (x, whole_with (suc d) p.0 k.0 x k.3 (statement_front d (fresh ts) mid p.0 x p.1 h) k.4),
    )

pub ended_err : (x : Statement) (at : Cursor) (ts : List Token) (l : ℕ) (e : Expected) → at.rest ≡ ts → ended x at ts ≡ Err (fault.Parse l e) → (l ≡ length at.rest) × (e ≡ or_else at.wanted want.End)
ended_err x at [] l e same h = absurd (cc)
ended_err x at (t ∷ ts) l e same h = refused_is {A = Statement} want.End at l e h

abbrev close : Statement → Cursor → Result (Statement × Cursor) Fault
close x at = ending.read at >>=ᵣ λ q. Ok (x, q.1)

no_close : (x : Statement) (at : Cursor) (l : ℕ) (e : Expected) → (ending.read at ≡ Err (fault.Parse l e)) ⊎ ((q : Bool × Cursor) × (ending.read at ≡ Ok q) × (◌≡◌ {A = Result (Statement × Cursor) Fault} (Ok (x, q.1)) (Err (fault.Parse l e)))) → ⊥
no_close x at l e (inl h) = ending_never_fails at l e h
no_close x at l e (inr q) = let z = q.2 in cc

sentence_err : (d : ℕ) (ts : List Token) (l : ℕ) (e : Expected)
    → ((statement_form d).read (fresh ts) ≡ Err (fault.Parse l e)) ⊎ ((r : Statement × Cursor) × ((statement_form d).read (fresh ts) ≡ Ok r) × (close r.0 r.1 ≡ Err (fault.Parse l e))) → GoesOnAt (suc d) ts l e
sentence_err d ts l e (inl h) = inside d ts l e h
sentence_err d ts l e (inr r) = absurd (no_close r.0.0 r.0.1 l e (bind_err (ending.read r.0.1) (λ q. Ok (r.0.0, q.1)) (fault.Parse l e) r.2))

sentence_ok : (d : ℕ) (ts : List Token) (l : ℕ) (e : Expected) (x : Statement) (next : Cursor)
    → (r : Statement × Cursor) × ((statement_form d).read (fresh ts) ≡ Ok r) × (close r.0 r.1 ≡ Ok (x, next)) → (l ≡ length next.rest) × (e ≡ or_else next.wanted want.End) → GoesOnAt (suc d) ts l e
sentence_ok d ts l e x next r z =
    let q = bind_ok (ending.read r.0.1) (λ q. Ok (r.0.0, q.1)) (x, next) r.2 in
    let same = ap (λ (k : Statement × Cursor). k.1) (same_ok {A = Statement × Cursor} (r.0.0, q.0.1) (x, next) q.2) in
    behind d ts l e r.0.0 r.0.1 next r.1 (subst (λ (c : Cursor). EndedBy r.0.1 c) same (ending_reads r.0.1 q.0.1 q.0.0 q.1)) z

goes_by : (d : ℕ) (ts : List Token) (l : ℕ) (e : Expected)
    → ((sentence d).read (fresh ts) ≡ Err (fault.Parse l e)) ⊎ ((r : Statement × Cursor) × ((sentence d).read (fresh ts) ≡ Ok r) × (ended r.0 r.1 r.1.rest ≡ Err (fault.Parse l e))) → GoesOnAt (suc d) ts l e
unfolding sentence
goes_by d ts l e (inl h) = sentence_err d ts l e (bind_err ((statement_form d).read (fresh ts)) (λ r. close r.0 r.1) (fault.Parse l e) h)
goes_by d ts l e (inr r) =
    sentence_ok d ts l e r.0.0 r.0.1 (bind_ok ((statement_form d).read (fresh ts)) (λ r. close r.0 r.1) r.0 r.1) (ended_err r.0.0 r.0.1 r.0.1.rest l e refl r.2)

pub goes_on_law : (d : ℕ) (ts : List Token) (l : ℕ) (e : Expected) → parsed_within d ts ≡ Err (fault.Parse l e) → GoesOnAt (suc d) ts l e
unfolding parsed_within
goes_on_law d ts l e h = goes_by d ts l e (bind_err ((sentence d).read (fresh ts)) (λ r. ended r.0 r.1 r.1.rest) (fault.Parse l e) h)
