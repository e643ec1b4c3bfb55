-- Whose version stands in front of a cell, and what a snapshot shows of it.
use Rattle.std.proofs.Common.{◌≡◌, ℕ, Bool, true, false, ◌⊎◌, List, [], ◌∷◌, Option, Some, None, refl, sym, ap, ◌∙◌, subst, inl, inr, arith}
use Rattle.std.specs.Prelude.{◌||◌, if◌then◌else◌, is_some, map}
use Rattle.std.proofs.lemmas.Bool.{false≢true}
use Rattle.std.proofs.lemmas.Option.{same_Some}
use Rattle.tl_values.specs.declared.value.Value.{Value}
use Rattle.tl_descriptor.specs.Tids.{TidSet, IsWithin, has}
use Rattle.tl_logrec.specs.declared.entry.Flag.{Flag}
use Rattle.tl_logrec.specs.declared.entry.Flag.TheVariants as flag
use Rattle.tl_versions.specs.declared.version.Version.{Version}
use Rattle.tl_versions.specs.Versions.{stranger}
use Rattle.tl_write.specs.declared.write.Write.{Write}
use Rattle.tl_write.specs.Own.{is_written}
use Rattle.tl_isolation.specs.declared.state.Commit.{Commit}
use Rattle.tl_isolation.specs.declared.state.Transaction.{Transaction}
use Rattle.tl_isolation.specs.declared.state.TxnPhase.{TxnPhase}
use Rattle.tl_protocol.specs.Store.{Key, LogCell, row_shown, same_key, written}
use Rattle.tl_protocol.specs.World.{Number, Begun, Txn, Commit as ToCommit, Undo, Phase, Idle, Noted, Drawn, Live, Trying, Undoing, Closing, Ending}
use Rattle.tl_protocol.specs.Move.{is_empty, is_named}
use Rattle.tl_protocol.specs.Next.{log_cell}
use Rattle.tl_protocol.specs.Stands.{Names, is_undone}
use Rattle.tl_protocol.proofs.Ledger.{CommittedLater, Ledger, Seat, view}
use Rattle.tl_protocol.proofs.Finished.{Finished, Fits, Known, firsts, is_done}
use Rattle.tl_protocol.proofs.Sets.{fits}
use Rattle.tl_protocol.proofs.History.{shown_kept, stranger_later, written_is}
use Rattle.tl_protocol.proofs.Inv.{Base, CellOk, CommitLog, Nothing, Said, Core, Front, Ghost, NodeOk, Shared, TxnOk, active_txn, held_txn, nowhere, own_stored, shared}

-- the log cell of a transaction names the records of its own writes
pub named_keys : (k : Key) (ws : List Write) → is_named k (map (λ (o : Write). o.key) ws) ≡ is_written k ws
named_keys k [] = refl
named_keys k (w ∷ ws) = ap (λ b. same_key w.key k || b) (named_keys k ws)

-- whose version the front of the cell at k is
pub record Owner (numbers : ℕ → Number) (ds : List Finished) (k : Key) (f : Front) (held : Option Transaction) (log : Option LogCell) : Type 0 where
  pub unfinished : is_done f.tid ds ≡ false
  pub begun : numbers f.tid ≡ Begun f.node
  pub t : Transaction
  pub is_held : held ≡ Some t
  pub tid : t.tid ≡ f.tid
  pub tried : t.tried ≡ true
  pub writes : is_written k t.own ≡ true
  pub row : written k t.own ≡ Some f.row
  pub named : Names k log

no_writes : (k : Key) (ws : List Write) → is_empty ws ≡ true → is_written k ws ≡ true → ⊥
no_writes k [] e h = false≢true h
no_writes k (w ∷ ws) e h = cc

named_by : (k : Key) (stamp i : ℕ) (fl : Flag) (t : Txn) → is_undone fl ≡ false → is_written k t.own ≡ true → Names k (Some (log_cell stamp i fl t))
named_by k stamp i fl t e h = (named_keys k t.own ∙ h, e)

decided : (k : Key) (i : ℕ) (t : Txn) (l : Option LogCell) → CommitLog i t l → is_written k t.own ≡ true → Names k l
decided k _ _ _ (Nothing i t e) h = absurd (no_writes k t.own e h)
decided k _ _ _ (Said i t stamp) h = named_by k stamp i flag.Decided t refl h

owner_txn : (s : Shared) (i : ℕ) (t : Txn) (stored : Key → Bool) (held : Option Transaction) (p : TxnPhase) (rival : Option ℕ) → TxnOk s i t stored held p true rival
    → ((k : Key) → is_written k t.own ≡ true → Names k (s.logs t.tid))
    → (k : Key) (f : Front) → s.fronts k ≡ Some f → f.node ≡ i → Owner s.numbers s.finished k f held (s.logs f.tid)
owner_txn s i t stored held p rival o n k f e m =
    let q = o.stands k (o.only k f e m) in
    let x : f ≡ record { node = i; tid = t.tid; row = q.0; first = o.first } = same_Some f (record { node = i; tid = t.tid; row = q.0; first = o.first }) (sym e ∙ q.2) in
    let r : t.tid ≡ f.tid = sym (ap (λ (y : Front). y.tid) x) in
    let w : is_written k t.own ≡ true = written_is k t.own ∙ ap is_some q.1 in
    record {
      unfinished = subst (λ y. is_done y s.finished ≡ false) r o.unfinished;
      begun = subst (λ y. s.numbers y ≡ Begun f.node) r (subst (λ y. s.numbers t.tid ≡ Begun y) (sym m) o.begun);
      t = held_txn i o.first t p true rival;
      is_held = o.is_held;
      tid = r;
      tried = refl;
      writes = w;
      row = q.1 ∙ ap (λ (y : Front). Some y.row) (sym x);
      named = subst (λ y. Names k (s.logs y)) r (n k w);
    }

owner_none : (s : Shared) (i : ℕ) (t : Txn) (held : Option Transaction) (p : TxnPhase) (b : Bool) (rival : Option ℕ) (log : Option LogCell) → TxnOk s i t nowhere held p b rival
    → (k : Key) (f : Front) → s.fronts k ≡ Some f → f.node ≡ i → Owner s.numbers s.finished k f held log
owner_none s i t held p b rival log o k f e m = absurd (false≢true (o.only k f e m))

owner_of : (s : Shared) (i : ℕ) (k : Key) (f : Front) → s.fronts k ≡ Some f → f.node ≡ i → (p : Phase) (seat : Seat) → NodeOk s i p seat
    → Owner s.numbers s.finished k f seat.held (s.logs f.tid)
owner_of s i k f e m Idle seat o = absurd (o.free.nowhere k f e m)
owner_of s i k f e m (Noted x) seat o = absurd (o.free.nowhere k f e m)
owner_of s i k f e m (Drawn x low) seat o = absurd (o.noted.free.nowhere k f e m)
owner_of s i k f e m (Live t facts) seat o = owner_none s i t seat.held _ false None (s.logs f.tid) o.txn k f e m
owner_of s i k f e m (Trying a l) seat o =
    owner_txn s i a.txn a.stored seat.held _ None o.txn (λ k w. subst (Names k) (sym o.log) (named_by k a.log i flag.Trying a.txn refl w)) k f e m
owner_of s i k f e m (Undoing a rival l) seat o =
    owner_txn s i a.txn a.stored seat.held o.p rival o.txn (λ k w. subst (Names k) (sym o.log) (named_by k a.log i flag.Trying a.txn refl w)) k f e m
owner_of s i k f e m (Closing t ToCommit c) seat o =
    owner_txn s i t (own_stored t) seat.held _ None o.txn (λ k w. decided k i t (s.logs t.tid) o.log w) k f e m
owner_of s i k f e m (Closing t (Undo rival) c) seat o = owner_none s i t seat.held o.p o.tried rival (s.logs f.tid) o.txn k f e m
owner_of s i k f e m (Ending t told) seat o = absurd (o.free.nowhere k f e m)

-- what a snapshot shows of a cell: the version in front isn't in it
pub shown_front : (s : TidSet) (n : ℕ) (k : Key) (cs : List Commit) (cut : TidSet) (vs : List Version) (o : Option Front) → ((f : Front) → o ≡ Some f → has s f.tid ≡ false)
    → Fits s n cs → IsWithin cut s → CellOk cs k cut vs o → row_shown s vs ≡ view n k cs
shown_front s n k cs cut vs None u f b c = shown_kept s cut n k cs vs f b c
shown_front s n k cs cut vs (Some g) u f b c =
    ap (row_shown s) c.1 ∙ skipped s g.tid g.row c.0 (u g refl) ∙ shown_kept s cut n k cs c.0 f b c.2
  where
    skipped : (s : TidSet) (t : ℕ) (row : Option (List Value)) (vs : List Version) → has s t ≡ false → row_shown s (record { tid = t; row = row } ∷ vs) ≡ row_shown s vs
    skipped s t row vs e = rw e refl

-- a version outside the snapshot: the one in front, or that of a later commit
pub stranger_front : (s : TidSet) (n : ℕ) (k : Key) (r : ℕ) (cs : List Commit) (cut : TidSet) (vs : List Version) (o : Option Front) → ((f : Front) → o ≡ Some f → has s f.tid ≡ false)
    → Fits s n cs → CellOk cs k cut vs o → stranger s vs ≡ Some r → ((f : Front) × (o ≡ Some f) × (f.tid ≡ r)) ⊎ CommittedLater n r k cs
stranger_front s n k r cs cut vs None u f c e = inr (stranger_later s cut n r k cs vs f c e)
stranger_front s n k r cs cut vs (Some g) u f c e =
    let d : stranger s (record { tid = g.tid; row = g.row } ∷ c.0) ≡ Some r = subst (λ x. stranger s x ≡ Some r) c.1 e in
    inl (g, refl, front_is (has s g.tid) (stranger s c.0) g.tid r (u g refl) d)
  where
    front_is : (b : Bool) (o : Option ℕ) (t r : ℕ) → b ≡ false → (if b then o else Some t) ≡ Some r → t ≡ r
    front_is b o t r e f = grind arith

-- with none nothing is in front
pub no_front : (s : TidSet) (cs : List Commit) (k : Key) (cut : TidSet) (vs : List Version) (o : Option Front) → ((f : Front) → o ≡ Some f → has s f.tid ≡ false)
    → CellOk cs k cut vs o → stranger s vs ≡ None → o ≡ None
no_front s cs k cut vs None u c e = refl
no_front s cs k cut vs (Some g) u c e =
    let d : stranger s (record { tid = g.tid; row = g.row } ∷ c.0) ≡ None = subst (λ x. stranger s x ≡ None) c.1 e in
    absurd (never (has s g.tid) (stranger s c.0) g.tid (u g refl) d)
  where
    never : (b : Bool) (o : Option ℕ) (t : ℕ) → b ≡ false → (if b then o else Some t) ≡ None → ⊥
    never b o t e f = grind arith

module _ (b : Base) (a : Ledger) (g : Ghost) (c : Core b a g) where
  pub owner : (k : Key) (f : Front) → g.fronts k ≡ Some f → Owner b.numbers g.finished k f (a.seats f.node).held (b.logs f.tid)
  owner k f e = owner_of (shared b g) f.node k f e refl (g.phases f.node) (a.seats f.node) (c.nodes f.node)

  -- a set that is known doesn't have the version in front
  pub unknown_front : (s : TidSet) (m : ℕ) → Known s m g.finished → (k : Key) (f : Front) → g.fronts k ≡ Some f → has s f.tid ≡ false
  unknown_front s m x k f e = x.strange f.tid (owner k f e).unfinished

  -- of the commits a known set has the first ones
  pub known_fits : (s : TidSet) (m : ℕ) → Known s m g.finished → Fits s (firsts m g.finished) a.commits
  known_fits s m x = subst (Fits s (firsts m g.finished)) (sym c.commits) (fits s m g.finished x.agree)

  pub txn_fits : (i : ℕ) (t : Txn) (stored : Key → Bool) (held : Option Transaction) (p : TxnPhase) (b' : Bool) (r : Option ℕ)
      → (o : TxnOk (shared b g) i t stored held p b' r) → Fits t.snapshot o.first a.commits
  txn_fits i t stored held p b' r o = subst (λ x. Fits t.snapshot x a.commits) (sym o.first_is) (known_fits t.snapshot o.m o.known)

  -- a transaction's snapshot shows of each cell what its first commits left
  pub txn_sees : (i : ℕ) (t : Txn) (stored : Key → Bool) (held : Option Transaction) (p : TxnPhase) (b' : Bool) (r : Option ℕ)
      → (o : TxnOk (shared b g) i t stored held p b' r) → b.active i ≡ Some (active_txn i t)
      → (k : Key) → row_shown t.snapshot (b.cells k).versions ≡ view o.first k a.commits
  txn_sees i t stored held p b' r o x k =
      shown_front t.snapshot o.first k a.commits (g.cuts k) (b.cells k).versions (g.fronts k) (unknown_front t.snapshot o.m o.known k)
      (txn_fits i t stored held p b' r o) (c.managers.cut_snap k i (active_txn i t) x) (c.cells k)
