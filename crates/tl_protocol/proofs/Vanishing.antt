-- The moves that change who is to mend what a vanished node left: a node vanishes, its death notice is taken, all is recovered.
use Rattle.std.proofs.Common.{◌≡◌, ℕ, ◌≤◌, Bool, true, false, Option, Some, None, refl, sym, ap, ◌∙◌, subst, inl, ⊎_elim, arith}
use Rattle.std.specs.Prelude.{◌==◌, ◌&&◌, ◌||◌, not, if◌then◌else◌}
use Rattle.std.proofs.lemmas.Bool.{and_parts, both_ways, eq-eqb, eqb-false, eqb-true, false_from_ne_true, false≢true, or_cases, or_left}
use Rattle.std.proofs.lemmas.Bool.Decides.{nat_tests}
use Rattle.tl_isolation.specs.declared.entry.Ending.{Ending as Ends}
use Rattle.tl_isolation.specs.declared.state.Transaction.{Transaction}
use Rattle.tl_isolation.specs.declared.state.TxnPhase.{TxnPhase}
use Rattle.tl_isolation.specs.declared.state.TxnPhase.TheVariants as phase
use Rattle.tl_protocol.specs.Store.{put}
use Rattle.tl_protocol.specs.World.{Txn, Commit as ToCommit, Undo, Phase, Idle, Noted, Drawn, Live, Trying, Undoing, Closing, Ending, Duties, NoDuty, Next, World, runs, At}
use Rattle.tl_protocol.specs.Move.{Vanish, Claim, SayRecovered}
use Rattle.tl_protocol.specs.Next.{owed}
use Rattle.tl_protocol.specs.Stands.{Mender, Notice, Duty, posted}
use Rattle.tl_protocol.proofs.Ledger.{Ledger, Seat, left, lost, seated}
use Rattle.tl_protocol.proofs.Inv.{Base, Core, FreeOk, Ghost, IdleOk, Inv, Kept, Link, MenderOk, NodeOk, Nodes, NotedOk, Owes, RecoveryOk, Shared, TxnOk, base, is_running, mends_it, nodes_of, shared, tid_of, vanished_of}
use Rattle.tl_protocol.proofs.Showing.{said_recovered, vanished}
use Rattle.tl_protocol.proofs.Frames.{apart, duty_of, put_one, put_other, put_same}
use Rattle.tl_protocol.proofs.Steps.{node_at, not_vanished, numbered, recovery_at, seated_vanished}
use Rattle.tl_protocol.proofs.Duties.{none_held, put_cases}

-- ---- the node's own facts, once it has vanished

lost_txn : (s : Shared) (i : ℕ) (t : Txn) (stored : _) (held : Option Transaction) (p : TxnPhase) (tried : Bool) (rival : Option ℕ)
    → TxnOk s i t stored held p tried rival → TxnOk s i t stored (lost held) phase.Lost tried rival
lost_txn s i t stored held p tried rival o = record {
  m = o.m;
  known = o.known;
  first = o.first;
  first_is = o.first_is;
  begun = o.begun;
  unfinished = o.unfinished;
  is_held = ap lost o.is_held;
  stands = o.stands;
  only = o.only;
}

lost_free : (s : Shared) (i : ℕ) (held : Option Transaction) → FreeOk s.fronts i held → FreeOk s.fronts i (lost held)
lost_free s i held o = record { not_held = ap lost o.not_held; nowhere = o.nowhere }

lost_noted : (s : Shared) (i : ℕ) (seen : _) (seat : Seat) → NotedOk s i seen seat → NotedOk s i seen (left seat)
lost_noted s i seen seat o = record { free = lost_free s i seat.held o.free; m = o.m; known = o.known; noted = λ h. absurd (false≢true (sym h)) }

node_left : (s : Shared) (i : ℕ) (p : Phase) (seat : Seat) → NodeOk s i p seat → NodeOk s i p (left seat)
unfolding lost_txn
node_left s i Idle seat o = record { free = lost_free s i seat.held o.free; answered = λ h. absurd (false≢true (sym h)) }
node_left s i (Noted seen) seat o = lost_noted s i seen seat o
node_left s i (Drawn seen low) seat o = record { noted = lost_noted s i seen seat o.noted; drawn = o.drawn }
node_left s i (Live t facts) seat o = record { txn = lost_txn s i t _ seat.held _ false None o.txn; log = o.log; reads = o.reads }
node_left s i (Trying a l) seat o = record { txn = lost_txn s i a.txn a.stored seat.held _ true None o.txn; log = o.log; hand = o.hand }
node_left s i (Undoing a rival l) seat o = record {
  p = phase.Lost;
  txn = lost_txn s i a.txn a.stored seat.held o.p true rival o.txn;
  runs = λ h. absurd (false≢true (sym h));
  gives_up = refl;
  log = o.log;
  hand = o.hand;
}
node_left s i (Closing t ToCommit c) seat o = record { txn = lost_txn s i t _ seat.held _ true None o.txn; log = o.log; hand = o.hand }
node_left s i (Closing t (Undo rival) c) seat o = record {
  p = phase.Lost;
  tried = o.tried;
  txn = lost_txn s i t _ seat.held o.p o.tried rival o.txn;
  runs = λ h. absurd (false≢true (sym h));
  gives_up = refl;
  log = o.log;
  hand = o.hand;
}
node_left s i (Ending tid told) seat o = record {
  free = lost_free s i seat.held o.free;
  begun = o.begun;
  finished = o.finished;
  log = o.log;
  answer = λ h. absurd (false≢true (sym h));
}

-- ---- who is to mend

-- the nodes that are taken have another mender, or none
abbrev handed : (ℕ → Bool) → Option Mender → (ℕ → Option Mender) → ℕ → Option Mender
handed takes new ms d = if takes d then new else ms d

-- each that is taken has the new mender, and no other; for the others all is as it was
record Hands (ns z : Nodes) (xs : ℕ → Phase) (takes : ℕ → Bool) (new : Option Mender) : Type 0 where
  only : (d : ℕ) (m : Mender) → takes d ≡ true → mends_it z d m ≡ true → new ≡ Some m
  taken_gone : (d : ℕ) → takes d ≡ true → z.gone d ≡ true
  mended : (d : ℕ) → takes d ≡ true → MenderOk z d (xs d) new
  others : (d : ℕ) (m : Mender) → takes d ≡ false → mends_it z d m ≡ mends_it ns d m
  others_gone : (d : ℕ) → takes d ≡ false → z.gone d ≡ ns.gone d

mender_same : (ns z : Nodes) (d : ℕ) (p : Phase) (o : Option Mender) → ((m : Mender) → mends_it z d m ≡ mends_it ns d m) → MenderOk ns d p o → MenderOk z d p o
mender_same ns z d p None s h = h
mender_same ns z d p (Some m) s h = s m ∙ h

one_handed : (b : Base) (ns z : Nodes) (v : ℕ → Bool) (xs : ℕ → Phase) (ms : ℕ → Option Mender) (takes : ℕ → Bool) (new : Option Mender)
    → Link b ns v xs ms → Hands ns z xs takes new
    → (d : ℕ) (m : Mender) → mends_it z d m ≡ true → (handed takes new ms d ≡ Some m) × (z.gone d ≡ true)
one_handed b ns z v xs ms takes new l h d m e = by (takes d) refl
  where
    by : (c : Bool) → takes d ≡ c → ((if c then new else ms d) ≡ Some m) × (z.gone d ≡ true)
    by true t = (h.only d m t e, h.taken_gone d t)
    by false t = let q = l.one d m (sym (h.others d m t) ∙ e) in (q.0, h.others_gone d t ∙ q.1)

mended_handed : (b : Base) (ns z : Nodes) (v : ℕ → Bool) (xs : ℕ → Phase) (ms : ℕ → Option Mender) (takes : ℕ → Bool) (new : Option Mender)
    → Link b ns v xs ms → Hands ns z xs takes new
    → (d : ℕ) → z.gone d ≡ true → MenderOk z d (xs d) (handed takes new ms d)
mended_handed b ns z v xs ms takes new l h d e = by (takes d) refl
  where
    by : (c : Bool) → takes d ≡ c → MenderOk z d (xs d) (if c then new else ms d)
    by true t = h.mended d t
    by false t = mender_same ns z d (xs d) (ms d) (λ m. h.others d m t) (l.mended d (sym (h.others_gone d t) ∙ e))

not_both : (n r : ℕ) (o : Option Mender) → o ≡ Some (Duty n) → o ≡ Some (Notice r) → ⊥
not_both n r o e f = cc

same_duty : (n r : ℕ) (o : Option Mender) → o ≡ Some (Duty n) → o ≡ Some (Duty r) → n ≡ r
same_duty n r o e f = cc

same_notice : (n r : ℕ) (o : Option Mender) → o ≡ Some (Notice n) → o ≡ Some (Notice r) → n ≡ r
same_notice n r o e f = cc

-- ---- a node vanishes

abbrev after_vanishing : Nodes → ℕ → Nodes
after_vanishing ns n = record ns { gone = put n true ns.gone; notices = put n (Some (owed (ns.recoveries n))) ns.notices }

-- it and all that it owed
abbrev leaves : Nodes → ℕ → ℕ → Bool
leaves ns n d = n == d || owed (ns.recoveries n) d

-- another node runs as it did
still_runs : (ns : Nodes) (n i : ℕ) → is_running (after_vanishing ns n) i ≡ true → (n ≡ i → ⊥) × (is_running ns i ≡ true)
still_runs ns n i = by (n == i) refl
  where
    step : (z b : Bool) → not z && not true ≡ true → b ≡ true
    step z b e = grind arith

    by : (c : Bool) → (n == i) ≡ c → not (i == 0) && not (if c then true else ns.gone i) ≡ true → (n ≡ i → ⊥) × (is_running ns i ≡ true)
    by true q e = absurd (false≢true (step (i == 0) false e))
    by false q e = (eqb-false n i q, e)

runs_as_before : (ns : Nodes) (n i : ℕ) → (n ≡ i → ⊥) → is_running (after_vanishing ns n) i ≡ is_running ns i
runs_as_before ns n i ne = ap (λ b. not (i == 0) && not b) (put_other n i true ns.gone ne)

runs_no_more : (ns : Nodes) (n : ℕ) → is_running (after_vanishing ns n) n ≡ false
runs_no_more ns n = ap (λ b. not (n == 0) && not b) (put_same n true ns.gone) ∙ never (n == 0)
  where
    never : (z : Bool) → not z && not true ≡ false
    never z = grind arith

module _ (b : Base) (ns : Nodes) (v : ℕ → Bool) (xs : ℕ → Phase) (ms : ℕ → Option Mender) (l : Link b ns v xs ms) (n : ℕ) where
  -- a node that has a mender has vanished, and a running node hasn't
  mended_apart : is_running ns n ≡ true → (d : ℕ) (m : Mender) → mends_it ns d m ≡ true → n ≡ d → ⊥
  mended_apart run d m e = apart ns n d run (l.one d m e).1

  -- no notice of a running node was posted
  no_notice : is_running ns n ≡ true → (d : ℕ) → posted (ns.notices n) n d ≡ false
  no_notice run d = by (ns.notices n) refl
    where
      by : (o : Option (ℕ → Bool)) → ns.notices n ≡ o → posted o n d ≡ false
      by None e = refl
      by (Some also) e = absurd (mended_apart run n (Notice n) (ap (λ o. posted o n n) e ∙ or_left (n == n) (also n) (eq-eqb n n refl)) refl)

  duty_mender : is_running ns n ≡ true → (d : ℕ) → owed (ns.recoveries n) d ≡ true → ms d ≡ Some (Duty n)
  duty_mender run d o = (duty_of b ns v xs ms l n d run o).0

  vanish_only : is_running ns n ≡ true → (d : ℕ) (m : Mender) → leaves ns n d ≡ true → mends_it (after_vanishing ns n) d m ≡ true → Some (Notice n) ≡ Some m
  vanish_only run d (Notice x) t e = put_cases (λ y. posted y x d ≡ true → Some (Notice n) ≡ Some (Notice x)) n x (Some (owed (ns.recoveries n))) ns.notices
      (λ q e. ap (λ y. Some (Notice y)) q)
      (λ q e.
      let own = (l.one d (Notice x) e).0 in
      absurd (⊎_elim (λ c. mended_apart run d (Notice x) e (eqb-true n d c)) (λ o. not_both n x (ms d) (duty_mender run d o) own) (or_cases (n == d) (owed (ns.recoveries n) d) t))) e
  vanish_only run d (Duty r) t e =
      let e2 = and_parts (is_running (after_vanishing ns n) r) (owed (ns.recoveries r) d) e in
      let s = still_runs ns n r e2.0 in
      let m : (ms d ≡ Some (Duty r)) × (ns.gone d ≡ true) = duty_of b ns v xs ms l r d s.1 e2.1 in
      absurd (⊎_elim (λ c. apart ns n d run m.1 (eqb-true n d c)) (λ o. s.0 (same_duty n r (ms d) (duty_mender run d o) m.0)) (or_cases (n == d) (owed (ns.recoveries n) d) t))

  vanish_others : is_running ns n ≡ true → (d : ℕ) (m : Mender) → leaves ns n d ≡ false → mends_it (after_vanishing ns n) d m ≡ mends_it ns d m
  vanish_others run d (Notice x) t = put_cases (λ y. posted y x d ≡ posted (ns.notices x) x d) n x (Some (owed (ns.recoveries n))) ns.notices
      (λ q. subst (λ y. (y == d || owed (ns.recoveries n) d) ≡ posted (ns.notices y) y d) q (t ∙ sym (no_notice run d)))
      (λ q. refl)
  vanish_others run d (Duty r) t = by (n == r) refl
    where
      neither : (x y : Bool) → x || y ≡ false → y ≡ false
      neither x y e = grind arith

      none : (x y z : Bool) → x ≡ false → z ≡ false → (x && z) ≡ (y && z)
      none x y z e f = grind arith

      by : (c : Bool) → (n == r) ≡ c → mends_it (after_vanishing ns n) d (Duty r) ≡ mends_it ns d (Duty r)
      by true q =
          let e = eqb-true n r q in
          none (is_running (after_vanishing ns n) r) (is_running ns r) (owed (ns.recoveries r) d)
          (subst (λ y. is_running (after_vanishing ns n) y ≡ false) e (runs_no_more ns n))
          (subst (λ y. owed (ns.recoveries y) d ≡ false) e (neither (n == d) (owed (ns.recoveries n) d) t))
      by false q = ap (λ y. y && owed (ns.recoveries r) d) (runs_as_before ns n r (eqb-false n r q))

  vanish_hands : is_running ns n ≡ true → Hands ns (after_vanishing ns n) xs (leaves ns n) (Some (Notice n))
  vanish_hands run = record {
    only = vanish_only run;
    taken_gone = λ d t. put_cases (λ y. y ≡ true) n d true ns.gone (λ q. refl)
        (λ q. ⊎_elim (λ c. absurd (q (eqb-true n d c))) (λ o. (duty_of b ns v xs ms l n d run o).1) (or_cases (n == d) (owed (ns.recoveries n) d) t));
    mended = λ d t. ap (λ o. posted o n d) (put_same n (Some (owed (ns.recoveries n))) ns.notices) ∙ t;
    others = vanish_others run;
    others_gone = λ d t. put_other n d true ns.gone (λ q. both_ways (leaves ns n d) t (or_left (n == d) (owed (ns.recoveries n) d) (eq-eqb n d q)));
  }

  link_vanish : (v' : ℕ → Bool) → is_running ns n ≡ true → ((i : ℕ) → v' i ≡ put n true ns.gone i)
      → Link b (after_vanishing ns n) v' xs (handed (leaves ns n) (Some (Notice n)) ms)
  link_vanish v' run s = record {
    seats = s;
    numbered = λ i. put_one (λ j y. y ≡ true → 1 ≤ j) n true ns.gone (λ h. above n (ns.gone n) run) (λ j ne. l.numbered j) i;
    runs = λ i h. l.runs i (still_runs ns n i h).1;
    recoveries = λ r h. l.recoveries r (still_runs ns n r h).1;
    one = one_handed b ns (after_vanishing ns n) v xs ms (leaves ns n) (Some (Notice n)) l (vanish_hands run);
    mended = mended_handed b ns (after_vanishing ns n) v xs ms (leaves ns n) (Some (Notice n)) l (vanish_hands run);
  }
    where
      above : (n : ℕ) (y : Bool) → not (n == 0) && not y ≡ true → 1 ≤ n
      above n y e = grind (arith, nat_tests)

-- ---- a death notice is taken

abbrev claimed_duties : ℕ → (ℕ → Bool) → Duties
claimed_duties gone also = record { node = gone; all = put gone true also; left = put gone true also }

abbrev after_claim : Nodes → ℕ → ℕ → (ℕ → Bool) → Nodes
after_claim ns n gone also = record ns { recoveries = put n (Next (claimed_duties gone also)) ns.recoveries; notices = put gone None ns.notices }

either : (c x : Bool) → (c || x) ≡ (if c then true else x)
either true x = refl
either false x = refl

module _ (b : Base) (ns : Nodes) (v : ℕ → Bool) (xs : ℕ → Phase) (ms : ℕ → Option Mender) (l : Link b ns v xs ms) (n gone : ℕ) (also : ℕ → Bool)
    (run : is_running ns n ≡ true) (free : ns.recoveries n ≡ NoDuty) (at : ns.notices gone ≡ Some also) where
  -- the notice names those that are taken
  named_there : (d : ℕ) → posted (ns.notices gone) gone d ≡ put gone true also d
  named_there d = ap (λ o. posted o gone d) at ∙ either (gone == d) (also d)

  claimed : (d : ℕ) → put gone true also d ≡ true → (ms d ≡ Some (Notice gone)) × (ns.gone d ≡ true)
  claimed d t = l.one d (Notice gone) (named_there d ∙ t)

  claim_only : (d : ℕ) (m : Mender) → put gone true also d ≡ true → mends_it (after_claim ns n gone also) d m ≡ true → Some (Duty n) ≡ Some m
  claim_only d (Notice x) t e = put_cases (λ y. posted y x d ≡ true → Some (Duty n) ≡ Some (Notice x)) gone x None ns.notices
      (λ q e. absurd (false≢true e))
      (λ q e. absurd (q (same_notice gone x (ms d) (claimed d t).0 (l.one d (Notice x) e).0))) e
  claim_only d (Duty r) t e =
      let e2 = and_parts (is_running ns r) (owed (put n (Next (claimed_duties gone also)) ns.recoveries r) d) e in
      put_cases (λ y. owed y d ≡ true → Some (Duty n) ≡ Some (Duty r)) n r (Next (claimed_duties gone also)) ns.recoveries
      (λ q o. ap (λ y. Some (Duty y)) q)
      (λ q o. absurd (not_both r gone (ms d) (duty_of b ns v xs ms l r d e2.0 o).0 (claimed d t).0)) e2.1

  claim_others : (d : ℕ) (m : Mender) → put gone true also d ≡ false → mends_it (after_claim ns n gone also) d m ≡ mends_it ns d m
  claim_others d (Notice x) t = put_cases (λ y. posted y x d ≡ posted (ns.notices x) x d) gone x None ns.notices
      (λ q. subst (λ y. false ≡ posted (ns.notices y) y d) q (sym t ∙ sym (named_there d)))
      (λ q. refl)
  claim_others d (Duty r) t = ap (λ y. is_running ns r && y)
      (put_cases (λ y. owed y d ≡ owed (ns.recoveries r) d) n r (Next (claimed_duties gone also)) ns.recoveries
      (λ q. t ∙ subst (λ y. false ≡ owed (ns.recoveries y) d) q (sym (ap (λ y. owed y d) free)))
      (λ q. refl))

  claim_hands : Hands ns (after_claim ns n gone also) xs (put gone true also) (Some (Duty n))
  claim_hands = record {
    only = claim_only;
    taken_gone = λ d t. (claimed d t).1;
    mended = λ d t. both (is_running ns n) (owed (put n (Next (claimed_duties gone also)) ns.recoveries n) d) run
        (ap (λ y. owed y d) (put_same n (Next (claimed_duties gone also)) ns.recoveries) ∙ t);
    others = claim_others;
    others_gone = λ d t. refl;
  }
    where
      both : (x y : Bool) → x ≡ true → y ≡ true → x && y ≡ true
      both x y e f = grind arith

  owes_claimed : Owes xs (claimed_duties gone also) None
  owes_claimed = record { node = put_same gone true also; among = λ d h. h; in_hand = λ d q. absurd (never d q); rest = λ d h. inl h }
    where
      never : (d : ℕ) → ◌≡◌ {A = Option ℕ} None (Some d) → ⊥
      never d q = cc

  link_claim : Link b (after_claim ns n gone also) v xs (handed (put gone true also) (Some (Duty n)) ms)
  link_claim = record {
    seats = l.seats;
    numbered = l.numbered;
    runs = l.runs;
    recoveries = put_one (λ (i : ℕ) x. is_running ns i ≡ true → RecoveryOk b xs x) n (Next (claimed_duties gone also)) ns.recoveries (λ q. owes_claimed) (λ i ne. l.recoveries i);
    one = one_handed b ns (after_claim ns n gone also) v xs ms (put gone true also) (Some (Duty n)) l claim_hands;
    mended = mended_handed b ns (after_claim ns n gone also) v xs ms (put gone true also) (Some (Duty n)) l claim_hands;
  }

-- ---- all is recovered

abbrev after_recovery : Nodes → ℕ → Nodes
after_recovery ns n = record ns { recoveries = put n NoDuty ns.recoveries }

module _ (b : Base) (ns : Nodes) (v v' : ℕ → Bool) (xs : ℕ → Phase) (ms : ℕ → Option Mender) (l : Link b ns v xs ms) (n : ℕ) (duties : Duties)
    (run : is_running ns n ≡ true) (so_far : ns.recoveries n ≡ Next duties) (s : (i : ℕ) → v' i ≡ v i) (over : (d : ℕ) → duties.all d ≡ true → tid_of (xs d) ≡ None) where
  mine : (d : ℕ) → duties.all d ≡ true → (ms d ≡ Some (Duty n)) × (ns.gone d ≡ true)
  mine d t = duty_of b ns v xs ms l n d run (ap (λ y. owed y d) so_far ∙ t)

  recovered_only : (d : ℕ) (m : Mender) → duties.all d ≡ true → mends_it (after_recovery ns n) d m ≡ true → ⊥
  recovered_only d (Notice x) t e = not_both n x (ms d) (mine d t).0 (l.one d (Notice x) e).0
  recovered_only d (Duty r) t e =
      let e2 = and_parts (is_running ns r) (owed (put n NoDuty ns.recoveries r) d) e in
      put_cases (λ y. owed y d ≡ true → ⊥) n r NoDuty ns.recoveries
      (λ q o. false≢true o)
      (λ q o. q (same_duty n r (ms d) (mine d t).0 (duty_of b ns v xs ms l r d e2.0 o).0)) e2.1

  recovered_others : (d : ℕ) (m : Mender) → duties.all d ≡ false → mends_it (after_recovery ns n) d m ≡ mends_it ns d m
  recovered_others d (Notice x) t = refl
  recovered_others d (Duty r) t = ap (λ y. is_running ns r && y)
      (put_cases (λ y. owed y d ≡ owed (ns.recoveries r) d) n r NoDuty ns.recoveries
      (λ q. subst (λ y. false ≡ owed (ns.recoveries y) d) q (sym (ap (λ y. owed y d) so_far ∙ t)))
      (λ q. refl))

  recovered_hands : Hands ns (after_recovery ns n) xs duties.all None
  recovered_hands = record {
    only = λ d m t e. absurd (recovered_only d m t e);
    taken_gone = λ d t. (mine d t).1;
    mended = over;
    others = recovered_others;
    others_gone = λ d t. refl;
  }

  link_recovered : Link b (after_recovery ns n) v' xs (handed duties.all None ms)
  link_recovered = record {
    seats = λ i. s i ∙ l.seats i;
    numbered = l.numbered;
    runs = l.runs;
    recoveries = put_one (λ (i : ℕ) x. is_running ns i ≡ true → RecoveryOk b xs x) n NoDuty ns.recoveries (λ q. tt) (λ i ne. l.recoveries i);
    one = one_handed b ns (after_recovery ns n) v xs ms duties.all None l recovered_hands;
    mended = mended_handed b ns (after_recovery ns n) v xs ms duties.all None l recovered_hands;
  }

-- ---- the moves

-- the seats and the menders alone
core_reseat : (b : Base) (a : Ledger) (g : Ghost) → Core b a g → (seats : ℕ → Seat) (ms : ℕ → Option Mender) → ((i : ℕ) → NodeOk (shared b g) i (g.phases i) (seats i))
    → Core b (record a { seats = seats }) (record g { menders = ms })
core_reseat b a g c seats ms h = record {
  cells = c.cells;
  nodes = h;
  active = c.active;
  done = c.done;
  managers = c.managers;
  numbers = c.numbers;
  commits = c.commits;
  distinct = c.distinct;
  opens = c.opens;
  taken = c.taken;
  begun = c.begun;
  logs = c.logs;
}

module _ (w : World) (a : Ledger) (g : Ghost) (v : Inv w a g) where
  pub vanish_kept : (n : ℕ) (ending : Ends) (r : runs w n ≡ true) → Kept w a g (Vanish n ending r)
  vanish_kept n ending r =
      let ms : ℕ → Option Mender = handed (leaves (nodes_of w) n) (Some (Notice n)) g.menders in
      record {
        ledger = seated a n (left (a.seats n));
        ghost = record g { menders = ms };
        inv = record {
          core = core_reseat (base w) a g v.core (put n (left (a.seats n)) a.seats) ms
              (put_one (λ i s. NodeOk (shared (base w) g) i (g.phases i) s) n (left (a.seats n)) a.seats
              (node_left (shared (base w) g) n (g.phases n) (a.seats n) (v.core.nodes n)) (λ i ne. v.core.nodes i));
          link = link_vanish (base w) (nodes_of w) (vanished_of a) g.phases g.menders v.link n (vanished_of (seated a n (left (a.seats n)))) r
              (λ i. gone_seats i);
        };
        tells = λ s h proper. vanished w.catalog s a h n (numbered w a g v n r) ending (not_vanished w a g v n r);
        ended = λ s t. refl;
        catalog = refl;
      }
    where
      gone_seats : (i : ℕ) → vanished_of (seated a n (left (a.seats n))) i ≡ put n true w.gone i
      gone_seats i = by (n == i)
        where
          by : (c : Bool) → (if c then left (a.seats n) else a.seats i).vanished ≡ (if c then true else w.gone i)
          by true = refl
          by false = v.link.seats i

  pub claim_kept : (n gone : ℕ) (also : ℕ → Bool) (at : At w n Idle) (free : w.recoveries n ≡ NoDuty) (there : w.notices gone ≡ Some also)
      → Kept w a g (Claim n gone also at free there)
  claim_kept n gone also at free there =
      let ms : ℕ → Option Mender = handed (put gone true also) (Some (Duty n)) g.menders in
      record {
        ledger = a;
        ghost = record g { menders = ms };
        inv = record {
          core = core_reseat (base w) a g v.core a.seats ms v.core.nodes;
          link = link_claim (base w) (nodes_of w) (vanished_of a) g.phases g.menders v.link n gone also at.runs free there;
        };
        tells = λ s h proper. record { allowed = tt; shows = h };
        ended = λ s t. refl;
        catalog = refl;
      }

  pub say_recovered_kept : (n statement : ℕ) (duties : Duties) (at : At w n Idle) (so_far : w.recoveries n ≡ Next duties)
      (none : (d : ℕ) → duties.left d ≡ false) → Kept w a g (SayRecovered n statement duties at so_far none)
  say_recovered_kept n statement duties at so_far none =
      let seat : Seat = record (a.seats n) { noted = None } in
      let ms : ℕ → Option Mender = handed duties.all None g.menders in
      let o : Owes g.phases duties None = recovery_at w a g v n (Next duties) (record { runs = at.runs; so_far = so_far }) in
      let idle : IdleOk (shared (base w) g) n (a.seats n) = node_at w a g v n Idle at in
      let d = duties.node in
      let gone = (duty_of (base w) (nodes_of w) (vanished_of a) g.phases g.menders v.link n d at.runs (ap (λ y. owed y d) so_far ∙ o.node)).1 in
      record {
        ledger = seated a n seat;
        ghost = record g { menders = ms };
        inv = record {
          core = core_reseat (base w) a g v.core (put n seat a.seats) ms
              (put_one (λ i s. NodeOk (shared (base w) g) i (g.phases i) s) n seat a.seats
              (subst (λ p. NodeOk (shared (base w) g) n p seat) (sym (v.link.runs n at.runs ∙ at.so_far)) (record { free = idle.free; answered = idle.answered }))
              (λ i ne. v.core.nodes i));
          link = link_recovered (base w) (nodes_of w) (vanished_of a) (vanished_of (seated a n seat)) g.phases g.menders v.link n duties at.runs so_far
              (seated_vanished a n seat refl) (λ e t. over e t o none);
        };
        tells = λ s h proper. said_recovered w.catalog s a h n (numbered w a g v n at.runs) statement d (not_vanished w a g v n at.runs) idle.free.not_held
            (v.link.numbered d gone) (none_held (shared (base w) g) d (g.phases d) (a.seats d) (over d o.node o none) (v.core.nodes d));
        ended = λ s t. refl;
        catalog = refl;
      }
    where
      never : (d : ℕ) → ◌≡◌ {A = Option ℕ} None (Some d) → ⊥
      never d q = cc

      over : (d : ℕ) → duties.all d ≡ true → Owes g.phases duties None → ((d : ℕ) → duties.left d ≡ false) → tid_of (g.phases d) ≡ None
      over d t o none = ⊎_elim (λ x. absurd (both_ways (duties.left d) (none d) x)) (λ x. ⊎_elim (λ y. y) (λ y. absurd (never d y)) x) (o.rest d t)
