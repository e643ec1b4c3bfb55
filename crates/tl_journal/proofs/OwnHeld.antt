-- The transactions that a node finishes, its own and those of vanished nodes, as the machine of snapshot isolation holds them.
use Rattle.std.proofs.Common.{◌≡◌, ℕ, Bool, true, List, Option, Some, None, refl, sym, ap, ◌∙◌, subst, ⊎_elim}
use Rattle.std.proofs.lemmas.Option.{same_Some}
use Rattle.tl_base.specs.declared.place.Settings.{Settings}
use Rattle.tl_schema.specs.declared.catalog.Setup.{Setup}
use Rattle.tl_isolation.specs.declared.entry.Answer.{Answer}
use Rattle.tl_isolation.specs.declared.entry.Entry.{Entry}
use Rattle.tl_isolation.specs.declared.state.SiState.{SiState}
use Rattle.tl_isolation.specs.declared.state.Transaction.{Transaction}
use Rattle.tl_isolation.specs.declared.state.TxnPhase.{TxnPhase}
use Rattle.tl_isolation.specs.State.{held_as, is_lost}
use Rattle.tl_isolation.specs.History.{state_after}
use Rattle.tl_protocol.specs.Store.{CommitsCell, Key}
use Rattle.tl_protocol.specs.World.{Number, Begun, Txn, Fact, Decision, Commit as ToCommit, Undo, Phase, Idle, Noted, Drawn, Live, Trying, Undoing, Closing, Ending, Duties, Finishing, Orphan, World}
use Rattle.tl_protocol.specs.Next.{owed}
use Rattle.tl_protocol.specs.Run.{Layout}
use Rattle.tl_protocol.proofs.Frames.{duty_of}
use Rattle.tl_protocol.proofs.Inv.{Inv, NodeOk, Shared, TxnOk, base, held_txn, is_opened, nodes_of, shared, vanished_of}
use Rattle.tl_protocol.proofs.Ledger.{Seat}
use Rattle.tl_protocol.proofs.Reached.{Reached, reached}
use Rattle.tl_protocol.proofs.Showing.{held_shown}
use Rattle.tl_protocol.proofs.Steps.{node_at, numbered, recovery_at}
use Rattle.tl_protocol.proofs.Turns.{held_by_number}
use Rattle.tl_journal.specs.Reads.{Reads}
use Rattle.tl_journal.specs.Node.{Node}
use Rattle.tl_journal.proofs.Gone.{gone_lost}
use Rattle.tl_journal.proofs.Meets.{Before}
use Rattle.tl_protocol.proofs.Borne.{begun_once}

-- a held transaction of this number is the one of this node, with this rival
abbrev pub IsOwn : SiState → ℕ → Txn → Option ℕ → Type 0
IsOwn s n t rival = (h : Transaction) → held_as t.tid s.held ≡ Some h → (h.opened ≡ is_opened t.stage) × (h.node ≡ n) × (h.rival ≡ rival)

-- a held transaction of this number is lost
abbrev pub IsLost : SiState → ℕ → Type 0
IsLost s tid = (h : Transaction) → held_as tid s.held ≡ Some h → is_lost h.phase ≡ true

-- the number of a held transaction was begun by its node
held_begun : (s : Shared) (i : ℕ) (p : Phase) (seat : Seat) (h : Transaction) → NodeOk s i p seat → seat.held ≡ Some h → s.numbers h.tid ≡ Begun i
held_begun s i p seat h o e = by p o
  where
    none : (held : Option Transaction) → held ≡ Some h → held ≡ None → ⊥
    none held e f = cc

    so : (t : Txn) (stored : Key → Bool) (q : TxnPhase) (b : Bool) (r : Option ℕ) → TxnOk s i t stored seat.held q b r → s.numbers h.tid ≡ Begun i
    so t stored q b r o =
        let x : held_txn i o.first t q b r ≡ h = same_Some (held_txn i o.first t q b r) h (sym o.is_held ∙ e) in
        subst (λ (y : Transaction). s.numbers y.tid ≡ Begun i) x o.begun

    by : (p : Phase) → NodeOk s i p seat → s.numbers h.tid ≡ Begun i
    by Idle o = absurd (none seat.held e o.free.not_held)
    by (Noted x) o = absurd (none seat.held e o.free.not_held)
    by (Drawn x low) o = absurd (none seat.held e o.noted.free.not_held)
    by (Live t facts) o = so t _ _ _ _ o.txn
    by (Trying a l) o = so a.txn _ _ _ _ o.txn
    by (Undoing a r l) o = so a.txn _ _ _ _ o.txn
    by (Closing t ToCommit l) o = so t _ _ _ _ o.txn
    by (Closing t (Undo r) l) o = so t _ _ _ _ o.txn
    by (Ending t told) o = absurd (none seat.held e o.free.not_held)

closing_begun : (s : Shared) (i : ℕ) (t : Txn) (d : Decision) (c : Option CommitsCell) (seat : Seat) → NodeOk s i (Closing t d c) seat → s.numbers t.tid ≡ Begun i
closing_begun s i t ToCommit c seat o = o.txn.begun
closing_begun s i t (Undo r) c seat o = o.txn.begun

module _ (R : Txn → List Fact → Reads → Type 0) (layout : Layout) (setup : Setup) (settings : Settings) (w : World) (state : SiState) (entries : List Entry)
    (n : ℕ) (node : Node) (b : Before R layout setup settings w state entries n node) where
  own_txn : (r : Reached setup w state entries) (t : Txn) (stored : Key → Bool) (p : TxnPhase) (tried : Bool) (rival : Option ℕ)
      → TxnOk (shared (base w) r.ghost) n t stored (r.ledger.seats n).held p tried rival → IsOwn (state_after setup entries) n t rival
  own_txn r t stored p tried rival o =
      subst (λ s. IsOwn s n t rival) r.state (λ h e.
      let own : Transaction = held_txn n o.first t p tried rival in
      let x : h ≡ own =
      same_Some h own (sym e ∙ held_by_number state r.ledger r.shows n (numbered w r.ledger r.ghost r.inv n b.runs) own o.is_held) in
      (ap (λ (y : Transaction). y.opened) x, ap (λ (y : Transaction). y.node) x, ap (λ (y : Transaction). y.rival) x))

  -- a running transaction
  pub own_live : (t : Txn) (facts : List Fact) → w.phases n ≡ Live t facts → IsOwn (state_after setup entries) n t None
  own_live t facts e =
      let r = reached b.opening b.reach in
      let o = node_at w r.ledger r.ghost r.inv n (Live t facts) (record { runs = b.runs; so_far = e }) in
      own_txn r t _ _ _ None o.txn

  -- one that is undone
  pub own_closing : (t : Txn) (rival : Option ℕ) (c : Option CommitsCell) → w.phases n ≡ Closing t (Undo rival) c → IsOwn (state_after setup entries) n t rival
  own_closing t rival c e =
      let r = reached b.opening b.reach in
      let o = node_at w r.ledger r.ghost r.inv n (Closing t (Undo rival) c) (record { runs = b.runs; so_far = e }) in
      own_txn r t _ _ _ rival o.txn

  -- one of a vanished node
  pub orphan_lost : (duties : Duties) (o : Orphan) (committed : Bool) (c : Option CommitsCell) → w.recoveries n ≡ Finishing duties o committed c
      → IsLost (state_after setup entries) o.tid
  orphan_lost duties o committed c e =
      let r = reached b.opening b.reach in
      subst (λ s. IsLost s o.tid) r.state (λ h f.
      let v : Inv w r.ledger r.ghost = r.inv in
      let k = recovery_at w r.ledger r.ghost v n (Finishing duties o committed c) (record { runs = b.runs; so_far = e }) in
      let gone : w.gone o.node ≡ true =
      (duty_of (base w) (nodes_of w) (vanished_of r.ledger) r.ghost.phases r.ghost.menders v.link n o.node b.runs
      (subst (λ x. owed x o.node ≡ true) (sym e) (k.0.in_hand o.node refl))).1 in
      let q = held_shown state r.ledger r.shows o.tid h f in
      let held : w.numbers h.tid ≡ Begun h.node =
      held_begun (shared (base w) r.ghost) h.node (r.ghost.phases h.node) (r.ledger.seats h.node) h (v.core.nodes h.node) q.1 in
      let own : w.numbers o.tid ≡ Begun o.node =
      ⊎_elim
      (λ (x : (told : Answer) × (r.ghost.phases o.node ≡ Ending o.tid told)).
      (subst (λ p. NodeOk (shared (base w) r.ghost) o.node p (r.ledger.seats o.node)) x.1 (v.core.nodes o.node)).begun)
      (λ (x : (t : Txn) × (d : Decision) × (r.ghost.phases o.node ≡ Closing t d None) × (t.tid ≡ o.tid) × (_ ≡ committed)).
      subst (λ i. w.numbers i ≡ Begun o.node) x.3
      (closing_begun (shared (base w) r.ghost) o.node x.0 x.1 None (r.ledger.seats o.node)
      (subst (λ p. NodeOk (shared (base w) r.ghost) o.node p (r.ledger.seats o.node)) x.2 (v.core.nodes o.node))))
      k.1.is_so in
      let same : h.node ≡ o.node = begun_once (w.numbers o.tid) h.node o.node (subst (λ i. w.numbers i ≡ Begun h.node) q.2 held) own in
      gone_lost b.opening b.reach o.tid h f (subst (λ i. w.gone i ≡ true) (sym same) gone))
