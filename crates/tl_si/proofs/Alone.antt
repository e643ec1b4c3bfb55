-- One transaction in the place of another of its number.
use Rattle.std.proofs.Common.{◌≡◌, ℕ, zero, suc, ◌==◌, ◌||◌, Bool, true, false, not, cond, List, [], ◌∷◌, Option, Some, None, refl, sym, ap, subst, ◌∙◌}
use Rattle.std.specs.Prelude.{find, insert, remove, slice_get, if◌then◌else◌}
use Rattle.std.specs.List.{list_any}
use Rattle.std.proofs.lemmas.Bool.{both_ways, eq-eqb, eqb-true}
use Rattle.std.proofs.lemmas.Option.{same_Some}
use Rattle.tl_lemmas.proofs.Tests.{or_first, or_second}
use Rattle.tl_isolation.specs.declared.state.SiState.{SiState}
use Rattle.tl_isolation.specs.declared.state.Transaction.{Transaction}
use Rattle.tl_isolation.specs.State.{put_held, without_held}
use Rattle.tl_isolation.specs.Step.{with_held}
use Rattle.tl_si.specs.declared.state.State.{State}
use Rattle.tl_si.specs.Shown.{IsOut, shown}
use Rattle.tl_si.specs.Sound.{AreAlone, tids}

-- where no other has the number nothing is put
unput : (t : Transaction) (n : ℕ) (held : List Transaction) → t.tid ≡ n → list_any (λ m. m == n) (tids held) ≡ false → put_held t held ≡ held
unput t n [] e h = refl
unput t n (x ∷ xs) e h = λ i. apart (x.tid == t.tid) (ap (λ (k : ℕ). x.tid == k) e ∙ or_first (x.tid == n) (list_any (λ m. m == n) (tids xs)) h) i ∷ unput t n xs e (or_second (x.tid == n) (list_any (λ m. m == n) (tids xs)) h) i
  where
    apart : (b : Bool) → b ≡ false → (if b then t else x) ≡ x
    apart true e = absurd cc
    apart false e = refl

-- the number of one further back isn't that of the first
behind : (n : ℕ) (held : List Transaction) (at : ℕ) (t : Transaction) → list_any (λ m. m == n) (tids held) ≡ false → slice_get held at ≡ Some t → (n == t.tid) ≡ false
behind n [] at t h e = absurd cc
behind n (x ∷ xs) zero t h e = subst (λ (y : Transaction). (n == y.tid) ≡ false) (same_Some x t e) (turned (x.tid == n) refl (list_any (λ m. m == n) (tids xs)) h)
  where
    other : (b : Bool) → (n == x.tid) ≡ b → (x.tid == n) ≡ false → (n == x.tid) ≡ false
    other true i o = absurd (both_ways (x.tid == n) o (eq-eqb x.tid n (sym (eqb-true n x.tid i))))
    other false i o = i

    turned : (b : Bool) → (x.tid == n) ≡ b → (c : Bool) → ((x.tid == n) || c) ≡ false → (n == x.tid) ≡ false
    turned true i c h = absurd (both_ways ((x.tid == n) || c) h (ap (λ (b : Bool). b || c) i))
    turned false i c h = other (n == x.tid) refl i
behind n (x ∷ xs) (suc at) t h e = behind n xs at t (or_second (x.tid == n) (list_any (λ m. m == n) (tids xs)) h) e

chosen : (b : Bool) (t x : Transaction) → b ≡ true → (if b then t else x) ≡ t
chosen true t x e = refl
chosen false t x e = absurd cc

unchosen : (b : Bool) (t x : Transaction) → b ≡ false → (if b then t else x) ≡ x
unchosen true t x e = absurd cc
unchosen false t x e = refl

put_at : (held : List Transaction) (at : ℕ) (t changed : Transaction) → AreAlone held → slice_get held at ≡ Some t → changed.tid ≡ t.tid
    → insert (remove held at) at changed ≡ put_held changed held
put_at [] at t changed a e k = absurd cc
put_at (x ∷ xs) zero t changed a e k =
    let same : x.tid ≡ changed.tid = ap (λ (y : Transaction). y.tid) (same_Some x t e) ∙ sym k in
    sym (λ i. chosen (x.tid == changed.tid) changed x (eq-eqb x.tid changed.tid same) i ∷ unput changed x.tid xs (sym same) a.0 i)
put_at (x ∷ xs) (suc at) t changed a e k =
    let apart : (x.tid == changed.tid) ≡ false = ap (λ (n : ℕ). x.tid == n) k ∙ behind x.tid xs at t a.0 e in
    let kept = sym (unchosen (x.tid == changed.tid) changed x apart) in
    λ i. kept i ∷ put_at xs at t changed a.1 e k i

-- nor is that of one found further back
named : (p : Transaction → Bool) (n : ℕ) (held : List Transaction) (t : Transaction) → find p held ≡ Some t → list_any (λ m. m == n) (tids held) ≡ false → (n == t.tid) ≡ false
named p n [] t e h = absurd cc
named p n (y ∷ ys) t e h = elim (p y) as (λ b. cond b (Some y) (find p ys) ≡ Some t → (n == t.tid) ≡ false) [
  | true ↦ λ e. behind n (y ∷ ys) 0 t h e
  | false ↦ λ e. named p n ys t e (or_second (y.tid == n) (list_any (λ m. m == n) (tids ys)) h)
] e

-- a transaction in its own place
put_same : (p : Transaction → Bool) (held : List Transaction) (t : Transaction) → AreAlone held → find p held ≡ Some t → put_held t held ≡ held
put_same p [] t a e = absurd cc
put_same p (x ∷ xs) t a e = by (p x) e (λ e. put_same p xs t a.1 e)
  where
    either : (b : Bool) → (if b then x else x) ≡ x
    either true = refl
    either false = refl

    here : x ≡ t → put_held t (x ∷ xs) ≡ x ∷ xs
    here e = subst (λ (y : Transaction). put_held y (x ∷ xs) ≡ x ∷ xs) e (λ i. either (x.tid == x.tid) i ∷ unput x x.tid xs refl a.0 i)

    by : (b : Bool) → cond b (Some x) (find p xs) ≡ Some t → (find p xs ≡ Some t → put_held t xs ≡ xs) → put_held t (x ∷ xs) ≡ x ∷ xs
    by true e f = here (same_Some x t e)
    by false e f = λ i. unchosen (x.tid == t.tid) t x (named p x.tid xs t e a.0) i ∷ f e i

pub same_held : (p : Transaction → Bool) (s : SiState) → AreAlone s.held → with_held (find p s.held) (λ t. t) s ≡ s
same_held p s a = by (find p s.held) refl
  where
    by : (o : Option Transaction) → find p s.held ≡ o → with_held o (λ t. t) s ≡ s
    by None e = refl
    by (Some t) e = ap (λ (held : List Transaction). record s { held = held }) (put_same p s.held t a e)

-- the transaction that was taken out is put back, changed
pub put_changed : (p : Transaction → Bool) (f : Transaction → Transaction) (old mid new : State) (at : ℕ) (t changed : Transaction) → AreAlone old.held.items
    → IsOut p old at t mid → changed ≡ f t → (f t).tid ≡ t.tid → shown new ≡ record (shown mid) { held = insert mid.held.items at changed }
    → shown new ≡ with_held (find p old.held.items) f (shown old)
put_changed p f old mid new at t changed a out is k put =
    let rest : mid.held.items ≡ remove old.held.items at = ap (λ (s : SiState). s.held) out.rest in
    put
    ∙ ap (λ (held : List Transaction). record (shown mid) { held = insert held at changed }) rest
    ∙ ap (λ (s : SiState). record s { held = insert (remove old.held.items at) at changed }) out.rest
    ∙ ap (λ (held : List Transaction). record (shown old) { held = held }) (put_at old.held.items at t changed a out.here (ap (λ (u : Transaction). u.tid) is ∙ k))
    ∙ ap (λ (u : Transaction). record (shown old) { held = put_held u old.held.items }) is
    ∙ ap (λ (o : Option Transaction). with_held o f (shown old)) (sym out.first)

-- the others of its number are no others
pub without_out : (held : List Transaction) (at : ℕ) (t : Transaction) → slice_get held at ≡ Some t → without_held t.tid (remove held at) ≡ without_held t.tid held
without_out [] at t e = absurd cc
without_out (x ∷ xs) zero t e = sym (ap (λ (b : Bool). cond (not b) (x ∷ without_held t.tid xs) (without_held t.tid xs)) (eq-eqb x.tid t.tid (ap (λ (y : Transaction). y.tid) (same_Some x t e))))
without_out (x ∷ xs) (suc at) t e = ap (λ (ys : List Transaction). cond (not (x.tid == t.tid)) (x ∷ ys) ys) (without_out xs at t e)
