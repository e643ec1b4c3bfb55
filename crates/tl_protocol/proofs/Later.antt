-- What one node's move leaves of the facts of another.
use Rattle.std.proofs.Common.{◌≡◌, ℕ, ◌≤◌, Bool, true, false, List, [], ◌∷◌, length, Option, Some, None, refl, sym, ap, ◌∙◌, subst, inl, inr, ⊎_elim, arith}
use Rattle.std.specs.List.{AllByRecursion}
use Rattle.tl_values.specs.declared.value.Value.{Value}
use Rattle.tl_descriptor.specs.Tids.{TidSet}
use Rattle.tl_isolation.specs.declared.state.Transaction.{Transaction}
use Rattle.tl_isolation.specs.declared.state.TxnPhase.{TxnPhase}
use Rattle.tl_protocol.specs.Store.{Key, Cell, CommitsCell}
use Rattle.tl_protocol.specs.World.{Carried, Begun, Txn, Fact, Rows, Covers, Holds, Attempt, Loaded, Commit as ToCommit, Undo, Phase, Idle, Noted, Drawn, Live, Trying, Undoing, Closing, Ending, Duties, Recovery, NoDuty, Next, Reading, Stripping, Finishing, Closed}
use Rattle.tl_protocol.specs.Next.{owed}
use Rattle.tl_protocol.proofs.Ledger.{Seat, view}
use Rattle.tl_protocol.proofs.Finished.{Known, commits_of, firsts, is_done}
use Rattle.tl_protocol.proofs.Sets.{firsts_le}
use Rattle.tl_protocol.proofs.Inv.{Base, Blank, CommitLog, Front, FreeOk, FactOk, InHand, LoadOk, SeenOk, OwnLoad, UndoLoad, BearLoad, NodeOk, NotedOk, Owes, RecoveryOk, Shared, TxnOk, is_trying, nowhere, own_stored, tid_of}

-- stamps only grow, and what has its stamp is the same
pub record Grows (cells : Key → Cell) (commits : CommitsCell) (cells' : Key → Cell) (commits' : CommitsCell) : Type 0 where
  pub stamps : (k : Key) → (cells k).stamp ≤ (cells' k).stamp
  pub versions : (k : Key) → (cells' k).stamp ≡ (cells k).stamp → (cells' k).versions ≡ (cells k).versions
  pub stamp : commits.stamp ≤ commits'.stamp
  pub finished : commits'.stamp ≡ commits.stamp → commits'.finished ≡ commits.finished

pub grows_refl : (cells : Key → Cell) (commits : CommitsCell) → Grows cells commits cells commits
grows_refl cells commits = record { stamps = λ k. omega arith; versions = λ k e. refl; stamp = omega arith; finished = λ e. refl }

-- a later state, as node i sees it
pub record Later (i : ℕ) (s z : Shared) : Type 0 where
  pub grows : Grows s.cells s.commits z.cells z.commits
  pub begun : (t : ℕ) → s.numbers t ≡ Begun i → z.numbers t ≡ Begun i
  pub carried : (t : ℕ) → s.numbers t ≡ Carried i → z.numbers t ≡ Carried i
  pub keeps : (k : Key) (f : Front) → f.node ≡ i → s.fronts k ≡ Some f → z.fronts k ≡ Some f
  pub no_more : (k : Key) (f : Front) → f.node ≡ i → z.fronts k ≡ Some f → s.fronts k ≡ Some f
  pub logs : (t : ℕ) → s.numbers t ≡ Begun i → z.logs t ≡ s.logs t
  pub finished : (t : ℕ) → is_done t s.finished ≡ true → is_done t z.finished ≡ true
  pub unfinished : (t : ℕ) → s.numbers t ≡ Begun i → is_done t s.finished ≡ false → is_done t z.finished ≡ false
  pub known : (x : TidSet) (m : ℕ) → Known x m s.finished → Known x m z.finished
  pub firsts : (m : ℕ) → m ≤ length s.finished → firsts m z.finished ≡ firsts m s.finished
  pub views : (n : ℕ) (k : Key) → n ≤ length (commits_of s.finished) → view n k (commits_of z.finished) ≡ view n k (commits_of s.finished)

pub load_later : (cells cells' : Key → Cell) (commits commits' : CommitsCell) → Grows cells commits cells' commits' → (l : Loaded) → LoadOk cells l → LoadOk cells' l
load_later cells cells' commits commits' c l o = record {
  before = let a = c.stamps l.key in let b = o.before in omega arith;
  same = λ e.
      let a = c.stamps l.key in
      let b = o.before in
      let d : (cells l.key).stamp ≡ l.stamp = omega arith in
      let g : (cells' l.key).stamp ≡ (cells l.key).stamp = omega arith in
      c.versions l.key g ∙ o.same d;
}

pub seen_later : (cells cells' : Key → Cell) (commits commits' : CommitsCell) → Grows cells commits cells' commits' → (l : CommitsCell) → SeenOk commits l → SeenOk commits' l
seen_later cells cells' commits commits' c l o = record {
  before = let a = c.stamp in let b = o.before in omega arith;
  same = λ e.
      let a = c.stamp in
      let b = o.before in
      let d : commits.stamp ≡ l.stamp = omega arith in
      let g : commits'.stamp ≡ commits.stamp = omega arith in
      c.finished g ∙ o.same d;
}

hand_later : {A : Type 0} (P Q : A → Type 0) → ((x : A) → P x → Q x) → (o : Option A) → InHand P o → InHand Q o
hand_later P Q f None h = tt
hand_later P Q f (Some x) h = f x h

free_later : (i : ℕ) (s z : Shared) → Later i s z → (h : Option Transaction) → FreeOk s.fronts i h → FreeOk z.fronts i h
free_later i s z c h o = record { not_held = o.not_held; nowhere = λ k f e m. o.nowhere k f (c.no_more k f m e) m }

pub txn_later : (i : ℕ) (s z : Shared) → Later i s z → (t : Txn) (stored : Key → Bool) (h : Option Transaction) (p : TxnPhase) (b : Bool) (r : Option ℕ)
    → TxnOk s i t stored h p b r → TxnOk z i t stored h p b r
txn_later i s z c t stored h p b r o = record {
  m = o.m;
  known = c.known t.snapshot o.m o.known;
  first = o.first;
  first_is = o.first_is ∙ sym (c.firsts o.m o.known.within);
  begun = c.begun t.tid o.begun;
  unfinished = c.unfinished t.tid o.begun o.unfinished;
  is_held = o.is_held;
  stands = λ k e. let q = o.stands k e in (q.0, q.1, c.keeps k (record { node = i; tid = t.tid; row = q.0; first = o.first }) refl q.2);
  only = λ k f e m. o.only k f (c.no_more k f m e) m;
}

-- a fact is true of all that has the same rows
pub holds_same : (f g : Key → Option (List Value)) → ((k : Key) → g k ≡ f k) → (fact : Fact) → Holds f fact → Holds g fact
holds_same f g e (Rows looked rows) h = λ k l. e k ∙ h k l
holds_same f g e (Covers covers looked) h = λ k row at. h k row (sym (e k) ∙ at)

fact_later : (i : ℕ) (s z : Shared) → Later i s z → (first : ℕ) → first ≤ length (commits_of s.finished) → (facts : List Fact)
    → AllByRecursion (FactOk first (commits_of s.finished)) facts → AllByRecursion (FactOk first (commits_of z.finished)) facts
fact_later i s z c first l [] h = tt
fact_later i s z c first l (f ∷ fs) h = (holds_same _ _ (λ k. c.views first k l) f h.0, fact_later i s z c first l fs h.1)

-- a transaction sees no more commits than there are
pub first_within : (s : Shared) (i : ℕ) (t : Txn) (stored : Key → Bool) (h : Option Transaction) (p : TxnPhase) (b : Bool) (r : Option ℕ)
    → (o : TxnOk s i t stored h p b r) → o.first ≤ length (commits_of s.finished)
first_within s i t stored h p b r o = let e = o.first_is in let l = firsts_le o.m s.finished in rw e l

own_later : (s z : Shared) → Grows s.cells s.commits z.cells z.commits → (a : Attempt) (o : Option Loaded) → InHand (OwnLoad s.cells a) o → InHand (OwnLoad z.cells a) o
own_later s z c a o = hand_later (OwnLoad s.cells a) (OwnLoad z.cells a)
    (λ l h. record { load = load_later s.cells z.cells s.commits z.commits c l h.load; not_yet = h.not_yet; is_own = h.is_own; no_stranger = h.no_stranger }) o

undo_later : (s z : Shared) → Grows s.cells s.commits z.cells z.commits → (st : Key → Bool) (o : Option Loaded) → InHand (UndoLoad s.cells st) o → InHand (UndoLoad z.cells st) o
undo_later s z c st o = hand_later (UndoLoad s.cells st) (UndoLoad z.cells st) (λ l h. record { load = load_later s.cells z.cells s.commits z.commits c l h.load; still = h.still }) o

end_later : (s z : Shared) → Grows s.cells s.commits z.cells z.commits → (o : Option CommitsCell) → InHand (SeenOk s.commits) o → InHand (SeenOk z.commits) o
end_later s z c o = hand_later (SeenOk s.commits) (SeenOk z.commits) (seen_later s.cells z.cells s.commits z.commits c) o

noted_later : (i : ℕ) (s z : Shared) → Later i s z → (x : TidSet) (seat : Seat) → NotedOk s i x seat → NotedOk z i x seat
noted_later i s z c x seat o = record {
  free = free_later i s z c seat.held o.free;
  m = o.m;
  known = c.known x o.m o.known;
  noted = λ g. o.noted g ∙ ap Some (sym (c.firsts o.m o.known.within));
}

-- node i's facts stay in a later state
pub node_later : (i : ℕ) (s z : Shared) → Later i s z → (p : Phase) (seat : Seat) → NodeOk s i p seat → NodeOk z i p seat
unfolding txn_later
node_later i s z c Idle seat o = record { free = free_later i s z c seat.held o.free; answered = o.answered }
node_later i s z c (Noted x) seat o = noted_later i s z c x seat o
node_later i s z c (Drawn x low) seat o = record { noted = noted_later i s z c x seat o.noted; drawn = λ t e. c.carried t (o.drawn t e) }
node_later i s z c (Live t facts) seat o = record {
  txn = txn_later i s z c t nowhere seat.held _ false None o.txn;
  log = c.logs t.tid o.txn.begun ∙ o.log;
  reads = fact_later i s z c o.txn.first (first_within s i t nowhere seat.held _ false None o.txn) facts o.reads;
}
node_later i s z c (Trying a l) seat o = record {
  txn = txn_later i s z c a.txn a.stored seat.held _ true None o.txn;
  log = c.logs a.txn.tid o.txn.begun ∙ o.log;
  hand = own_later s z c.grows a l o.hand;
}
node_later i s z c (Undoing a rival l) seat o = record {
  p = o.p;
  txn = txn_later i s z c a.txn a.stored seat.held o.p true rival o.txn;
  runs = o.runs;
  gives_up = o.gives_up;
  log = c.logs a.txn.tid o.txn.begun ∙ o.log;
  hand = undo_later s z c.grows a.stored l o.hand;
}
node_later i s z c (Closing t ToCommit l) seat o = record {
  txn = txn_later i s z c t (own_stored t) seat.held _ true None o.txn;
  log = subst (CommitLog i t) (sym (c.logs t.tid o.txn.begun)) o.log;
  hand = end_later s z c.grows l o.hand;
}
node_later i s z c (Closing t (Undo rival) l) seat o = record {
  p = o.p;
  tried = o.tried;
  txn = txn_later i s z c t nowhere seat.held o.p o.tried rival o.txn;
  runs = o.runs;
  gives_up = o.gives_up;
  log = subst (Blank i t) (sym (c.logs t.tid o.txn.begun)) o.log;
  hand = end_later s z c.grows l o.hand;
}
node_later i s z c (Ending t told) seat o = record {
  free = free_later i s z c seat.held o.free;
  begun = c.begun t o.begun;
  finished = c.finished t o.finished;
  log = ap is_trying (c.logs t o.begun) ∙ o.log;
  answer = o.answer;
}

bear_later : (b d : Base) → Grows b.cells b.commits d.cells d.commits → (t : ℕ) (o : Option Loaded) → InHand (BearLoad b.cells t) o → InHand (BearLoad d.cells t) o
bear_later b d c t o = hand_later (BearLoad b.cells t) (BearLoad d.cells t) (λ l h. record { load = load_later b.cells d.cells b.commits d.commits c l h.load; bears_it = h.bears_it }) o

owes_later : (xs ys : ℕ → Phase) (duties : Duties) (busy : Option ℕ) → ((d : ℕ) → duties.all d ≡ true → ys d ≡ xs d) → Owes xs duties busy → Owes ys duties busy
owes_later xs ys duties busy e o = record {
  node = o.node;
  among = o.among;
  in_hand = o.in_hand;
  rest = λ d h. ⊎_elim (λ l. inl l) (λ r. inr (⊎_elim (λ n. inl (ap tid_of (e d h) ∙ n)) (λ b. inr b) r)) (o.rest d h);
}

-- what a recoverer knows stays while the phases of its duties stay
pub recovery_later : (b d : Base) → Grows b.cells b.commits d.cells d.commits → (xs ys : ℕ → Phase) (r : Recovery) → ((i : ℕ) → owed r i ≡ true → ys i ≡ xs i)
    → RecoveryOk b xs r → RecoveryOk d ys r
recovery_later b d c xs ys NoDuty e o = tt
recovery_later b d c xs ys (Next duties) e o = owes_later xs ys duties None e o
recovery_later b d c xs ys (Reading duties x) e o =
    (owes_later xs ys duties (Some x.node) e o.0, ap tid_of (e x.node (o.0.in_hand x.node refl)) ∙ o.1)
recovery_later b d c xs ys (Stripping duties x log seen l) e o = (
  owes_later xs ys duties (Some x.node) e o.0,
  record {
    a = o.1.a;
    rival = o.1.rival;
    is_so = e x.node (o.0.in_hand x.node refl) ∙ o.1.is_so;
    tid = o.1.tid;
    log_is = o.1.log_is;
    off = o.1.off;
    hand = bear_later b d c x.tid l o.1.hand;
  },
)
recovery_later b d c xs ys (Finishing duties x committed l) e o =
    let q = e x.node (o.0.in_hand x.node refl) in (
      owes_later xs ys duties (Some x.node) e o.0,
      record {
        is_so = ⊎_elim (λ h. inl (h.0, q ∙ h.1)) (λ h. inr (h.0, h.1, q ∙ h.2, h.3, h.4)) o.1.is_so;
        hand = hand_later (SeenOk b.commits) (SeenOk d.commits) (seen_later b.cells d.cells b.commits d.commits c) l o.1.hand;
        fresh = o.1.fresh;
      },
    )
recovery_later b d c xs ys (Closed duties x) e o =
    (owes_later xs ys duties (Some x.node) e o.0, (o.1.0, e x.node (o.0.in_hand x.node refl) ∙ o.1.1))
