-- One event more: how many requests a node has made, and how many of them count.
use Rattle.std.proofs.Common.{◌≡◌, ℕ, ◌+◌, Bool, true, false, List, [], ◌∷◌, ◌++◌, length, Option, Some, None, refl, sym, ap, ◌∙◌, subst, arith}
use Rattle.std.specs.Prelude.{◌==◌, ◌&&◌, not, filter, if◌then◌else◌}
use Rattle.std.proofs.lemmas.Bool.{eq-eqb}
use Rattle.std.proofs.lemmas.List.{length_push}
use Rattle.tl_lemmas.proofs.Tests.{and_not}
use Rattle.tl_isolation.specs.declared.script.Vanish.{Vanish}
use Rattle.tl_journal.specs.declared.event.Event.{Event}
use Rattle.tl_journal.specs.Journal.{is_post}
use Rattle.tl_journal.specs.Schedule.{counts, requests_of}
use Rattle.tl_world.specs.Stands.{counted_by, counted_more}

pub filter_none : {A : Type 0} (p : A → Bool) (xs : List A) (x : A) → p x ≡ false → filter p (xs ++ x ∷ []) ≡ filter p xs
filter_none p [] x e = rw e refl
filter_none p (y ∷ ys) x e = by (p y) (filter_none p ys x e)
  where
    by : (b : Bool) → filter p (ys ++ x ∷ []) ≡ filter p ys → (if b then y ∷ filter p (ys ++ x ∷ []) else filter p (ys ++ x ∷ [])) ≡ (if b then y ∷ filter p ys else filter p ys)
    by true h = ap (λ zs. y ∷ zs) h
    by false h = h

pub filter_one : {A : Type 0} (p : A → Bool) (xs : List A) (x : A) → p x ≡ true → filter p (xs ++ x ∷ []) ≡ filter p xs ++ x ∷ []
filter_one p [] x e = rw e refl
filter_one p (y ∷ ys) x e = by (p y) (filter_one p ys x e)
  where
    by : (b : Bool) → filter p (ys ++ x ∷ []) ≡ filter p ys ++ x ∷ []
        → (if b then y ∷ filter p (ys ++ x ∷ []) else filter p (ys ++ x ∷ [])) ≡ (if b then y ∷ filter p ys else filter p ys) ++ x ∷ []
    by true h = ap (λ zs. y ∷ zs) h
    by false h = h

module _ (past : List Event) (e : Event) where
  -- an event of another node, or a death notice
  pub requests_stay : (n : ℕ) → (e.node == n) && not (is_post e.request) ≡ false → requests_of n (past ++ e ∷ []) ≡ requests_of n past
  requests_stay n h = filter_none (λ (x : Event). (x.node == n) && not (is_post x.request)) past e h

  pub counted_stays : (v : Option Vanish) (n : ℕ) → ((w : Vanish) → v ≡ Some w → w.node ≡ n) → (e.node == n) && not (is_post e.request) ≡ false
      → counted_by v (past ++ e ∷ []) ≡ counted_by v past
  counted_stays None n own h = refl
  counted_stays (Some v) n own h =
      ap (λ es. length (filter (λ (x : Event). counts v.kind x.request x.reply) es))
      (requests_stay v.node (subst (λ k. (e.node == k) && not (is_post e.request) ≡ false) (sym (own v refl)) h))

  -- a request of the node
  pub requests_grow : (n : ℕ) → e.node ≡ n → is_post e.request ≡ false → requests_of n (past ++ e ∷ []) ≡ requests_of n past ++ e ∷ []
  requests_grow n own post = filter_one (λ (x : Event). (x.node == n) && not (is_post x.request)) past e (and_not (e.node == n) (is_post e.request) (eq-eqb e.node n own) post)

  pub made_more : (n : ℕ) → e.node ≡ n → is_post e.request ≡ false → length (requests_of n (past ++ e ∷ [])) ≡ length (requests_of n past) + 1
  made_more n own post = ap length (requests_grow n own post) ∙ length_push (requests_of n past) e

  one_counts : (v : Vanish) (xs : List Event) (b : Bool) → counts v.kind e.request e.reply ≡ b
      → length (filter (λ (x : Event). counts v.kind x.request x.reply) (xs ++ e ∷ []))
      ≡ (if b then length (filter (λ (x : Event). counts v.kind x.request x.reply) xs) + 1 else length (filter (λ (x : Event). counts v.kind x.request x.reply) xs))
  one_counts v xs true h =
      ap length (filter_one (λ (x : Event). counts v.kind x.request x.reply) xs e h)
      ∙ length_push (filter (λ (x : Event). counts v.kind x.request x.reply) xs) e
  one_counts v xs false h = ap length (filter_none (λ (x : Event). counts v.kind x.request x.reply) xs e h)

  pub counts_more : (v : Option Vanish) (n : ℕ) → ((w : Vanish) → v ≡ Some w → w.node ≡ n) → e.node ≡ n → is_post e.request ≡ false
      → counted_by v (past ++ e ∷ []) ≡ counted_more v e.request e.reply (counted_by v past)
  counts_more None n own is post = refl
  counts_more (Some v) n own is post =
      ap (λ es. length (filter (λ (x : Event). counts v.kind x.request x.reply) es)) (requests_grow v.node (is ∙ sym (own v refl)) post)
      ∙ one_counts v (requests_of v.node past) (counts v.kind e.request e.reply) refl
