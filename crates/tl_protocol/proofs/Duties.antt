-- What a recoverer knows of its duties, and the frame of a move that changes a recoverer's own state.
use Rattle.std.proofs.Common.{◌≡◌, ℕ, Bool, true, false, ◌⊎◌, Option, Some, None, refl, sym, ap, ◌∙◌, subst, inl, inr, ⊎_elim}
use Rattle.std.specs.Prelude.{◌&&◌, if◌then◌else◌}
use Rattle.std.proofs.lemmas.Bool.{false≢true}
use Rattle.std.proofs.lemmas.Option.{same_Some}
use Rattle.tl_manager.specs.declared.active.Active.{Active}
use Rattle.tl_protocol.specs.Store.{Key, put, put_at, same_key}
use Rattle.tl_protocol.specs.World.{Phase, Idle, Noted, Drawn, Live, Trying, Undoing, Closing, Ending, Duties, Recovery, World, Recovers}
use Rattle.tl_protocol.specs.Next.{owed, with_recovery, without}
use Rattle.tl_protocol.specs.Stands.{Mender, Notice, Duty}
use Rattle.tl_protocol.proofs.Ledger.{Ledger, Seat}
use Rattle.tl_protocol.proofs.Inv.{ActiveOk, Base, Ghost, Inv, Link, MenderOk, NodeOk, Nodes, Owes, RecoveryOk, Shared, active_txn, base, is_running, mends_it, nodes_of, shared, tid_of, vanished_of}
use Rattle.tl_protocol.proofs.Later.{Grows}
use Rattle.tl_protocol.proofs.Frames.{duty_of, link_recovery, put_one}

-- ---- functions changed at one place

-- at the place, or elsewhere
pub put_cases : {A : Type 0} (P : A → Type 0) (n i : ℕ) (x : A) (f : ℕ → A) → (n ≡ i → P x) → ((n ≡ i → ⊥) → P (f i)) → P (put n x f i)
put_cases P n i x f h r = put_one (λ j y. (n ≡ j → P x) → ((n ≡ j → ⊥) → P (f j)) → P y) n x f (λ h r. h refl) (λ j ne h r. r ne) i h r

-- at the key, or elsewhere
pub key_cases : {A : Type 0} (P : A → Type 0) (n i : Key) (x : A) (f : Key → A) → (same_key n i ≡ true → P x) → (same_key n i ≡ false → P (f i)) → P (put_at n x f i)
key_cases P n i x f h r = by (same_key n i) refl
  where
    by : (b : Bool) → same_key n i ≡ b → P (if b then x else f i)
    by true e = h e
    by false e = r e

-- ---- what a manager has of a node, and the node's transaction

tid_is : (x y : Active) → Some x ≡ Some y → Some x.tid ≡ Some y.tid
tid_is x y e = ap (λ (z : Active). Some z.tid) (same_Some x y e)

pub active_tid : (i : ℕ) (p : Phase) (o : Option Active) (x : Active) → ActiveOk i p o → o ≡ Some x → tid_of p ≡ Some x.tid
active_tid i Idle o x h e = cc
active_tid i (Noted seen) o x h e = cc
active_tid i (Drawn seen low) o x h e = cc
active_tid i (Live t facts) o x h e = tid_is (active_txn i t) x (sym h ∙ e)
active_tid i (Trying a l) o x h e = tid_is (active_txn i a.txn) x (sym h ∙ e)
active_tid i (Undoing a rival l) o x h e = tid_is (active_txn i a.txn) x (sym h ∙ e)
active_tid i (Closing t d c) o x h e = tid_is (active_txn i t) x (sym h ∙ e)
active_tid i (Ending tid told) o x h e = tid_is (record { tid = tid; node = i; snapshot = h.0 }) x (sym h.1 ∙ e)

pub active_none : (i : ℕ) (p : Phase) (o : Option Active) → ActiveOk i p o → o ≡ None → tid_of p ≡ None
active_none i Idle o h e = refl
active_none i (Noted seen) o h e = refl
active_none i (Drawn seen low) o h e = refl
active_none i (Live t facts) o h e = cc
active_none i (Trying a l) o h e = cc
active_none i (Undoing a rival l) o h e = cc
active_none i (Closing t d c) o h e = cc
active_none i (Ending tid told) o h e = let p = h.1 in cc

-- no transaction is held where none is active
pub none_held : (s : Shared) (i : ℕ) (p : Phase) (seat : Seat) → tid_of p ≡ None → NodeOk s i p seat → seat.held ≡ None
none_held s i Idle seat e o = o.free.not_held
none_held s i (Noted seen) seat e o = o.free.not_held
none_held s i (Drawn seen low) seat e o = o.noted.free.not_held
none_held s i (Live t facts) seat e o = cc
none_held s i (Trying a l) seat e o = cc
none_held s i (Undoing a rival l) seat e o = cc
none_held s i (Closing t d c) seat e o = cc
none_held s i (Ending tid told) seat e o = cc

-- ---- the duties

-- the orphan of one of them comes into hand
pub owes_take : (xs : ℕ → Phase) (duties : Duties) (d : ℕ) → duties.left d ≡ true → Owes xs duties None → Owes xs (without d duties) (Some d)
owes_take xs duties d l o = record {
  node = o.node;
  among = λ e. put_cases (λ y. y ≡ true → duties.all e ≡ true) d e false duties.left (λ q h. absurd (false≢true h)) (λ q h. o.among e h);
  in_hand = λ e q. subst (λ x. duties.all x ≡ true) (same_Some d e q) (o.among d l);
  rest = λ e h. put_cases (λ y. (y ≡ true) ⊎ ((tid_of (xs e) ≡ None) ⊎ (Some d ≡ Some e))) d e false duties.left (λ q. inr (inr (ap Some q)))
      (λ q. ⊎_elim (λ x. inl x) (λ x. ⊎_elim (λ y. inr (inl y)) (λ y. absurd (never e y)) x) (o.rest e h));
}
  where
    never : (e : ℕ) → ◌≡◌ {A = Option ℕ} None (Some e) → ⊥
    never e q = cc

-- one of them has no transaction
pub owes_skip : (xs : ℕ → Phase) (duties : Duties) (d : ℕ) → tid_of (xs d) ≡ None → Owes xs duties None → Owes xs (without d duties) None
owes_skip xs duties d n o = record {
  node = o.node;
  among = λ e. put_cases (λ y. y ≡ true → duties.all e ≡ true) d e false duties.left (λ q h. absurd (false≢true h)) (λ q h. o.among e h);
  in_hand = o.in_hand;
  rest = λ e h. put_cases (λ y. (y ≡ true) ⊎ ((tid_of (xs e) ≡ None) ⊎ (None ≡ Some e))) d e false duties.left
      (λ q. inr (inl (subst (λ x. tid_of (xs x) ≡ None) q n))) (λ q. o.rest e h);
}

-- the transaction in hand goes on
pub owes_turn : (xs : ℕ → Phase) (duties : Duties) (d : ℕ) (p : Phase) → Owes xs duties (Some d) → Owes (put d p xs) duties (Some d)
owes_turn xs duties d p o = record {
  node = o.node;
  among = o.among;
  in_hand = o.in_hand;
  rest = λ e h. ⊎_elim (λ x. inl x) (λ x. ⊎_elim
      (λ y. inr (put_cases (λ q. (tid_of q ≡ None) ⊎ (Some d ≡ Some e)) d e p xs (λ q. inr (ap Some q)) (λ q. inl y)))
      (λ y. inr (inr y)) x) (o.rest e h);
}

-- and is ended
pub owes_end : (xs : ℕ → Phase) (duties : Duties) (d : ℕ) (p : Phase) → tid_of p ≡ None → Owes xs duties (Some d) → Owes (put d p xs) duties None
owes_end xs duties d p n o = record {
  node = o.node;
  among = o.among;
  in_hand = λ e q. absurd (never e q);
  rest = λ e h. ⊎_elim (λ x. inl x) (λ x. inr (inl (put_cases (λ q. tid_of q ≡ None) d e p xs (λ q. n)
      (λ q. ⊎_elim (λ y. y) (λ y. absurd (q (same_Some d e y))) x)))) (o.rest e h);
}
  where
    never : (e : ℕ) → ◌≡◌ {A = Option ℕ} None (Some e) → ⊥
    never e q = cc

-- ---- the recoverer's own state alone

mends_still : (ns : Nodes) (rs : ℕ → Recovery) (i : ℕ) → ((j k : ℕ) → owed (rs j) k ≡ owed (ns.recoveries j) k) → (m : Mender)
    → mends_it (record ns { recoveries = rs }) i m ≡ mends_it ns i m
mends_still ns rs i h (Notice x) = refl
mends_still ns rs i h (Duty j) = ap (λ y. is_running ns j && y) (h j i)

mended_still : (ns ns' : Nodes) (i : ℕ) (p : Phase) (o : Option Mender) → ((m : Mender) → mends_it ns' i m ≡ mends_it ns i m)
    → MenderOk ns i p o → MenderOk ns' i p o
mended_still ns ns' i p None s h = h
mended_still ns ns' i p (Some m) s h = s m ∙ h

pub link_work : (b : Base) (ns : Nodes) (v : ℕ → Bool) (xs : ℕ → Phase) (ms : ℕ → Option Mender) (n : ℕ) (r : Recovery)
    → ((i : ℕ) → owed r i ≡ owed (ns.recoveries n) i) → RecoveryOk b xs r
    → Link b ns v xs ms → Link b (record ns { recoveries = put n r ns.recoveries }) v xs ms
link_work b ns v xs ms n r same ok l =
    let owed_same : (j i : ℕ) → owed (put n r ns.recoveries j) i ≡ owed (ns.recoveries j) i =
    λ j i. put_one (λ (y : ℕ) x. owed x i ≡ owed (ns.recoveries y) i) n r ns.recoveries (same i) (λ y ne. refl) j in
    let mends_same : (i : ℕ) (m : Mender) → mends_it (record ns { recoveries = put n r ns.recoveries }) i m ≡ mends_it ns i m = λ i m. mends_still ns (put n r ns.recoveries) i owed_same m in
    record {
      seats = l.seats;
      numbered = l.numbered;
      runs = l.runs;
      recoveries = λ j h. put_one (λ (i : ℕ) x. is_running ns i ≡ true → RecoveryOk b xs x) n r ns.recoveries (λ q. ok) (λ i ne q. l.recoveries i q) j h;
      one = λ i m h. l.one i m (sym (mends_same i m) ∙ h);
      mended = λ i e. mended_still ns (record ns { recoveries = put n r ns.recoveries }) i (xs i) (ms i) (mends_same i) (l.mended i e);
    }

module _ (w : World) (a : Ledger) (g : Ghost) (v : Inv w a g) where
  pub work_inv : (n : ℕ) (q r : Recovery) → Recovers w n q → ((i : ℕ) → owed r i ≡ owed q i) → RecoveryOk (base w) g.phases r → Inv (with_recovery w n r) a g
  work_inv n q r at e ok = record {
    core = v.core;
    link = link_work (base w) (nodes_of w) (vanished_of a) g.phases g.menders n r (λ i. e i ∙ sym (ap (λ x. owed x i) at.so_far)) ok v.link;
  }

  -- a duty has vanished
  pub duty_gone : (n d : ℕ) (q : Recovery) → Recovers w n q → owed q d ≡ true → (a.seats d).vanished ≡ true
  duty_gone n d q at h =
      v.link.seats d ∙ (duty_of (base w) (nodes_of w) (vanished_of a) g.phases g.menders v.link n d at.runs (subst (λ x. owed x d ≡ true) (sym at.so_far) h)).1

  -- the transaction of a duty goes on, where the recoverer's own state follows
  pub turn_link : (b : Base) (n d : ℕ) (p : Phase) (q r : Recovery) (v' : ℕ → Bool) → Recovers w n q → owed q d ≡ true → ((i : ℕ) → owed r i ≡ owed q i)
      → Grows w.cells w.commits b.cells b.commits → ((i : ℕ) → v' i ≡ vanished_of a i) → RecoveryOk b (put d p g.phases) r
      → Link b (nodes_of (with_recovery w n r)) v' (put d p g.phases) g.menders
  turn_link b n d p q r v' at o e c s ok =
      link_recovery (base w) b (nodes_of w) (vanished_of a) v' g.phases g.menders n d p r c at.runs (subst (λ x. owed x d ≡ true) (sym at.so_far) o)
      (λ i. e i ∙ sym (ap (λ x. owed x i) at.so_far)) s ok v.link

  pub part_at : (d : ℕ) (p : Phase) → g.phases d ≡ p → NodeOk (shared (base w) g) d p (a.seats d)
  part_at d p e = subst (λ q. NodeOk (shared (base w) g) d q (a.seats d)) e (v.core.nodes d)

  pub active_part : (d : ℕ) (p : Phase) → g.phases d ≡ p → ActiveOk d p (w.active d)
  active_part d p e = subst (λ q. ActiveOk d q (w.active d)) e (v.core.active d)
