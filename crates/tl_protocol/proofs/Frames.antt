-- What a move of one node leaves as it was.
use Rattle.std.proofs.Common.{◌≡◌, ℕ, Bool, true, false, Option, Some, None, refl, sym, ap, ◌∙◌, subst, arith}
use Rattle.std.specs.Prelude.{◌==◌, ◌&&◌, not, if◌then◌else◌}
use Rattle.std.proofs.lemmas.Bool.{and_parts, eq-eqb, eqb-false, eqb-true, ne_eqb}
use Rattle.std.proofs.lemmas.Option.{same_Some}
use Rattle.tl_manager.specs.declared.active.Active.{Active}
use Rattle.tl_protocol.specs.Store.{put}
use Rattle.tl_protocol.specs.World.{Phase, Recovery}
use Rattle.tl_protocol.specs.Next.{owed}
use Rattle.tl_protocol.specs.Stands.{Mender, Notice, Duty}
use Rattle.tl_protocol.proofs.Ledger.{Seat}
use Rattle.tl_protocol.proofs.Inv.{ActiveOk, Base, Link, MenderOk, NodeOk, Nodes, RecoveryOk, Shared, is_running, mends_it, tid_of}
use Rattle.tl_protocol.proofs.Later.{Grows, Later, node_later, recovery_later}

-- two functions changed at one place
pub put_both : {A B : Type 0} (P : ℕ → A → B → Type 0) (n : ℕ) (x : A) (f : ℕ → A) (y : B) (g : ℕ → B)
    → P n x y → ((i : ℕ) → (n ≡ i → ⊥) → P i (f i) (g i)) → (i : ℕ) → P i (put n x f i) (put n y g i)
put_both P n x f y g h r i = by (n == i) refl
  where
    by : (b : Bool) → (n == i) ≡ b → P i (if b then x else f i) (if b then y else g i)
    by true e = subst (λ j. P j x y) (eqb-true n i e) h
    by false e = r i (eqb-false n i e)

pub put_one : {A : Type 0} (P : ℕ → A → Type 0) (n : ℕ) (x : A) (f : ℕ → A)
    → P n x → ((i : ℕ) → (n ≡ i → ⊥) → P i (f i)) → (i : ℕ) → P i (put n x f i)
put_one P n x f h r i = by (n == i) refl
  where
    by : (b : Bool) → (n == i) ≡ b → P i (if b then x else f i)
    by true e = subst (λ j. P j x) (eqb-true n i e) h
    by false e = r i (eqb-false n i e)

pub put_same : {A : Type 0} (n : ℕ) (x : A) (f : ℕ → A) → put n x f n ≡ x
put_same n x f = ap (λ b. if b then x else f n) (eq-eqb n n refl)

pub put_other : {A : Type 0} (n i : ℕ) (x : A) (f : ℕ → A) → (n ≡ i → ⊥) → put n x f i ≡ f i
put_other n i x f h = ap (λ b. if b then x else f i) (ne_eqb n i h)

-- what is put back changes nothing
pub put_again : {A : Type 0} (n i : ℕ) (f : ℕ → A) → put n (f n) f i ≡ f i
put_again n i f = put_one (λ j y. y ≡ f j) n (f n) f refl (λ j e. refl) i

-- the facts of all nodes, after a move for the transaction of node i
pub nodes_after : (i : ℕ) (s z : Shared) (p : Phase) (seat : Seat) (phases : ℕ → Phase) (seats : ℕ → Seat)
    → NodeOk z i p seat → ((j : ℕ) → (i ≡ j → ⊥) → Later j s z) → ((j : ℕ) → NodeOk s j (phases j) (seats j))
    → (j : ℕ) → NodeOk z j (put i p phases j) (put i seat seats j)
nodes_after i s z p seat phases seats h later v =
    put_both (λ j q t. NodeOk z j q t) i p phases seat seats h (λ j ne. node_later j s z (later j ne) (phases j) (seats j) (v j))

-- and where its seat stays
pub nodes_after_phase : (i : ℕ) (s z : Shared) (p : Phase) (phases : ℕ → Phase) (seats : ℕ → Seat)
    → NodeOk z i p (seats i) → ((j : ℕ) → (i ≡ j → ⊥) → Later j s z) → ((j : ℕ) → NodeOk s j (phases j) (seats j))
    → (j : ℕ) → NodeOk z j (put i p phases j) (seats j)
nodes_after_phase i s z p phases seats h later v =
    put_one (λ j q. NodeOk z j q (seats j)) i p phases h (λ j ne. node_later j s z (later j ne) (phases j) (seats j) (v j))

pub active_after : (i : ℕ) (p : Phase) (o : Option Active) (phases : ℕ → Phase) (active : ℕ → Option Active)
    → ActiveOk i p o → ((j : ℕ) → ActiveOk j (phases j) (active j)) → (j : ℕ) → ActiveOk j (put i p phases j) (put i o active j)
active_after i p o phases active h v = put_both (λ j q x. ActiveOk j q x) i p phases o active h (λ j ne. v j)

pub active_after_phase : (i : ℕ) (p : Phase) (phases : ℕ → Phase) (active : ℕ → Option Active)
    → ActiveOk i p (active i) → ((j : ℕ) → ActiveOk j (phases j) (active j)) → (j : ℕ) → ActiveOk j (put i p phases j) (active j)
active_after_phase i p phases active h v = put_one (λ j q. ActiveOk j q (active j)) i p phases h (λ j ne. v j)

-- a running node and a vanished one are two
pub apart : (ns : Nodes) (n d : ℕ) → is_running ns n ≡ true → ns.gone d ≡ true → n ≡ d → ⊥
apart ns n d r g e = step (n == 0) (ns.gone n) r (subst (λ x. ns.gone x ≡ true) (sym e) g)
  where
    step : (z b : Bool) → not z && not b ≡ true → b ≡ true → ⊥
    step true true r g = cc
    step true false r g = cc
    step false true r g = cc
    step false false r g = cc

-- a duty of a running node has vanished, and it is its mender
pub duty_of : (b : Base) (ns : Nodes) (v : ℕ → Bool) (xs : ℕ → Phase) (ms : ℕ → Option Mender) → Link b ns v xs ms → (r d : ℕ)
    → is_running ns r ≡ true → owed (ns.recoveries r) d ≡ true → (ms d ≡ Some (Duty r)) × (ns.gone d ≡ true)
duty_of b ns v xs ms l r d run h = l.one d (Duty r) (both (is_running ns r) (owed (ns.recoveries r) d) run h)
  where
    both : (x y : Bool) → x ≡ true → y ≡ true → x && y ≡ true
    both x y e f = grind arith

-- a running node goes on with its own transaction
pub link_own : (b b' : Base) (ns : Nodes) (v v' : ℕ → Bool) (xs : ℕ → Phase) (ms : ℕ → Option Mender) (n : ℕ) (p : Phase)
    → Grows b.cells b.commits b'.cells b'.commits → is_running ns n ≡ true → ((i : ℕ) → v' i ≡ v i)
    → Link b ns v xs ms → Link b' (record ns { phases = put n p ns.phases }) v' (put n p xs) ms
link_own b b' ns v v' xs ms n p c run e l = record {
  seats = λ i. e i ∙ l.seats i;
  numbered = l.numbered;
  runs = put_both (λ i q y. is_running ns i ≡ true → q ≡ y) n p xs p ns.phases (λ h. refl) (λ i ne. l.runs i);
  recoveries = λ r h.
      recovery_later b b' c xs (put n p xs) (ns.recoveries r)
      (λ d o. put_other n d p xs (apart ns n d run (duty_of b ns v xs ms l r d h o).1)) (l.recoveries r h);
  one = l.one;
  mended = λ d g. subst (λ q. MenderOk ns d q (ms d)) (sym (put_other n d p xs (apart ns n d run g))) (l.mended d g);
}

-- the node says something, and its transaction stays as it is
pub link_same : (b b' : Base) (ns : Nodes) (v v' : ℕ → Bool) (xs : ℕ → Phase) (ms : ℕ → Option Mender)
    → Grows b.cells b.commits b'.cells b'.commits → ((i : ℕ) → v' i ≡ v i) → Link b ns v xs ms → Link b' ns v' xs ms
link_same b b' ns v v' xs ms c e l = record {
  seats = λ i. e i ∙ l.seats i;
  numbered = l.numbered;
  runs = l.runs;
  recoveries = λ r h. recovery_later b b' c xs xs (ns.recoveries r) (λ d o. refl) (l.recoveries r h);
  one = l.one;
  mended = l.mended;
}

not_two : (n i : ℕ) → (n ≡ i → ⊥) → Duty n ≡ Duty i → ⊥
not_two n i ne q = ne cc

nobody : (n : ℕ) → Some (Duty n) ≡ None → ⊥
nobody n q = cc

mends_still : (ns : Nodes) (rs : ℕ → Recovery) (i : ℕ) → ((j k : ℕ) → owed (rs j) k ≡ owed (ns.recoveries j) k) → (m : Mender)
    → mends_it (record ns { recoveries = rs }) i m ≡ mends_it ns i m
mends_still ns rs i h (Notice x) = refl
mends_still ns rs i h (Duty j) = ap (λ y. is_running ns j && y) (h j i)

mended_still : (ns ns' : Nodes) (i : ℕ) (q x : Phase) (o : Option Mender) → ((m : Mender) → mends_it ns' i m ≡ mends_it ns i m)
    → (o ≡ None → q ≡ x) → MenderOk ns i x o → MenderOk ns' i q o
mended_still ns ns' i q x None s f h = ap tid_of (f refl) ∙ h
mended_still ns ns' i q x (Some m) s f h = s m ∙ h

-- a running node goes on with the transaction of a node d that it is to recover
pub link_recovery : (b b' : Base) (ns : Nodes) (v v' : ℕ → Bool) (xs : ℕ → Phase) (ms : ℕ → Option Mender) (n d : ℕ) (p : Phase) (r : Recovery)
    → Grows b.cells b.commits b'.cells b'.commits → is_running ns n ≡ true → owed (ns.recoveries n) d ≡ true
    → ((i : ℕ) → owed r i ≡ owed (ns.recoveries n) i) → ((i : ℕ) → v' i ≡ v i)
    → RecoveryOk b' (put d p xs) r
    → Link b ns v xs ms → Link b' (record ns { recoveries = put n r ns.recoveries }) v' (put d p xs) ms
link_recovery b b' ns v v' xs ms n d p r c run o same e ok l =
    let mine = duty_of b ns v xs ms l n d run o in
    let owed_same : (j i : ℕ) → owed (put n r ns.recoveries j) i ≡ owed (ns.recoveries j) i =
    λ j i. put_one (λ (y : ℕ) x. owed x i ≡ owed (ns.recoveries y) i) n r ns.recoveries (same i) (λ y ne. refl) j in
    let mends_same : (i : ℕ) (m : Mender) → mends_it (record ns { recoveries = put n r ns.recoveries }) i m ≡ mends_it ns i m = λ i m. mends_still ns (put n r ns.recoveries) i owed_same m in
    record {
      seats = λ i. e i ∙ l.seats i;
      numbered = l.numbered;
      runs = λ i h. put_other d i p xs (λ q. apart ns i d h mine.1 (sym q)) ∙ l.runs i h;
      recoveries = λ j h. put_one (λ (i : ℕ) x. is_running ns i ≡ true → RecoveryOk b' (put d p xs) x) n r ns.recoveries (λ q. ok)
          (λ i ne q. recovery_later b b' c xs (put d p xs) (ns.recoveries i)
          (λ x y. put_other d x p xs (λ z. not_two n i ne (same_Some (Duty n) (Duty i) (sym mine.0 ∙ ap ms z ∙ (duty_of b ns v xs ms l i x q y).0)))) (l.recoveries i q)) j h;
      one = λ i m h. l.one i m (sym (mends_same i m) ∙ h);
      mended = λ i g. mended_still ns (record ns { recoveries = put n r ns.recoveries }) i (put d p xs i) (xs i) (ms i) (mends_same i)
          (λ q. put_other d i p xs (λ z. nobody n (sym mine.0 ∙ ap ms z ∙ q))) (l.mended i g);
    }
