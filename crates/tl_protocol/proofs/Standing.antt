-- At every moment the store stands for the tables, a running node's log cell is as it left it, and a vanished node's
-- transaction has one mender.
use Rattle.std.proofs.Common.{◌≡◌, ℕ, Bool, true, false, List, [], ◌∷◌, ◌++◌, length, Option, Some, None, refl, sym, ap, ◌∙◌, subst, arith}
use Rattle.std.specs.List.{AllByRecursion}
use Rattle.std.proofs.lemmas.Bool.{both_ways}
use Rattle.std.proofs.lemmas.Option.{same_Some}
use Rattle.tl_schema.specs.declared.catalog.Setup.{Setup}
use Rattle.tl_descriptor.specs.Tids.{TidSet, IsWithin, has}
use Rattle.tl_manager.specs.declared.active.Active.{Active}
use Rattle.tl_versions.specs.declared.version.Version.{Version}
use Rattle.tl_isolation.specs.declared.entry.Entry.{Entry}
use Rattle.tl_isolation.specs.declared.state.Commit.{Commit}
use Rattle.tl_isolation.specs.declared.state.Transaction.{Transaction}
use Rattle.tl_isolation.specs.declared.state.TxnPhase.{TxnPhase}
use Rattle.tl_isolation.specs.declared.state.SiState.{SiState}
use Rattle.tl_protocol.specs.Store.{Key, LogCell, row_shown}
use Rattle.tl_protocol.specs.World.{Txn, Commit as ToCommit, Undo, Phase, Idle, Noted, Drawn, Live, Trying, Undoing, Closing, Ending, World, runs}
use Rattle.tl_protocol.specs.Stands.{FirstAlone, HasInLog, HasOneMender, Mender, Notice, Duty, Names, StandsFor, mends}
use Rattle.tl_protocol.proofs.Ledger.{Ledger, Seat, view}
use Rattle.tl_protocol.proofs.Showing.{all_tables_shown, held_shown, tables_shown}
use Rattle.tl_protocol.proofs.Finished.{Fits, Known, firsts}
use Rattle.tl_protocol.proofs.Sets.{firsts_all, has_done, snap_within}
use Rattle.tl_protocol.proofs.History.{IsKept, all_in_history, history}
use Rattle.tl_protocol.proofs.Inv.{ActiveOk, Base, CellOk, Core, Front, Ghost, MenderOk, NodeOk, Nodes, Shared, TxnOk, active_txn, base, held_txn, mends_it, nodes_of, nowhere, own_stored, shared, tid_of, txn_in}
use Rattle.tl_protocol.proofs.Reached.{Reached}
use Rattle.tl_protocol.proofs.ForKey.{logs_for, records_for}
use Rattle.tl_protocol.proofs.Owner.{known_fits, owner, shown_front, unknown_front}

abbrev AreFinished : TidSet → List Version → Type 0
AreFinished s vs = AllByRecursion (λ (v : Version). has s v.tid ≡ true) vs

kept_front : (s : TidSet) (vs gone : List Version) → AreFinished s (vs ++ gone) → AreFinished s vs
kept_front s [] gone h = tt
kept_front s (v ∷ vs) gone h = (h.0, kept_front s vs gone h.1)

kept_finished : (s : TidSet) (h : List Version) (cut : TidSet) (vs : List Version) → IsKept h cut vs → AreFinished s h → AreFinished s vs
kept_finished s h cut vs k a = kept_front s vs k.gone (subst (λ x. AreFinished s x) (sym k.whole) a)

-- at most the first version isn't finished, and then the log cell of its writer names the record
first_alone : (logs : ℕ → Option LogCell) (s : TidSet) (k : Key) (cs : List Commit) (cut : TidSet) (vs : List Version) (o : Option Front) → AreFinished s (history k cs)
    → ((f : Front) → o ≡ Some f → Names k (logs f.tid)) → CellOk cs k cut vs o → FirstAlone logs s k vs
first_alone logs s k cs cut vs None h l c = on vs (kept_finished s (history k cs) cut vs c h)
  where
    on : (vs : List Version) → AreFinished s vs → FirstAlone logs s k vs
    on [] h = tt
    on (v ∷ vs) h = ((λ e. absurd (both_ways (has s v.tid) e h.0)), h.1)
first_alone logs s k cs cut vs (Some f) h l c =
    subst (λ y. FirstAlone logs s k y) (sym c.1) ((λ e. l f refl), kept_finished s (history k cs) cut c.0 c.2 h)

-- a node with a held transaction has it in its phase, with all that is known of it
record HeldAt (s : Shared) (i : ℕ) (p : Phase) (h : Transaction) : Type 0 where
  t : Txn
  in_phase : txn_in p ≡ Some t
  tid : t.tid ≡ h.tid
  m : ℕ
  known : Known t.snapshot m s.finished
  first : h.first ≡ firsts m s.finished

held_by_txn : (s : Shared) (i : ℕ) (p : Phase) (t : Txn) (stored : Key → Bool) (held : Option Transaction) (q : TxnPhase) (b : Bool) (r : Option ℕ) (h : Transaction)
    → txn_in p ≡ Some t → TxnOk s i t stored held q b r → held ≡ Some h → HeldAt s i p h
held_by_txn s i p t stored held q b r h e o w =
    let x : h ≡ held_txn i o.first t q b r = same_Some h (held_txn i o.first t q b r) (sym w ∙ o.is_held) in
    record {
      t = t;
      in_phase = e;
      tid = sym (ap (λ (y : Transaction). y.tid) x);
      m = o.m;
      known = o.known;
      first = ap (λ (y : Transaction). y.first) x ∙ o.first_is;
    }

held_at : (s : Shared) (i : ℕ) (p : Phase) (seat : Seat) (h : Transaction) → NodeOk s i p seat → seat.held ≡ Some h → HeldAt s i p h
held_at s i Idle seat h o e = let n = o.free.not_held in cc
held_at s i (Noted x) seat h o e = let n = o.free.not_held in cc
held_at s i (Drawn x low) seat h o e = let n = o.noted.free.not_held in cc
held_at s i (Live t facts) seat h o e = held_by_txn s i (Live t facts) t nowhere seat.held _ false None h refl o.txn e
held_at s i (Trying a l) seat h o e = held_by_txn s i (Trying a l) a.txn a.stored seat.held _ true None h refl o.txn e
held_at s i (Undoing a r l) seat h o e = held_by_txn s i (Undoing a r l) a.txn a.stored seat.held o.p true r h refl o.txn e
held_at s i (Closing t ToCommit l) seat h o e = held_by_txn s i (Closing t ToCommit l) t (own_stored t) seat.held _ true None h refl o.txn e
held_at s i (Closing t (Undo r) l) seat h o e = held_by_txn s i (Closing t (Undo r) l) t nowhere seat.held o.p o.tried r h refl o.txn e
held_at s i (Ending t told) seat h o e = let n = o.free.not_held in cc

active_in : (i : ℕ) (p : Phase) (o : Option Active) (t : Txn) → ActiveOk i p o → txn_in p ≡ Some t → o ≡ Some (active_txn i t)
active_in i Idle o t h e = cc
active_in i (Noted s) o t h e = cc
active_in i (Drawn s low) o t h e = cc
active_in i (Live x facts) o t h e = subst (λ y. o ≡ Some (active_txn i y)) (same_Some x t e) h
active_in i (Trying a l) o t h e = subst (λ y. o ≡ Some (active_txn i y)) (same_Some a.txn t e) h
active_in i (Undoing a r l) o t h e = subst (λ y. o ≡ Some (active_txn i y)) (same_Some a.txn t e) h
active_in i (Closing x d c) o t h e = subst (λ y. o ≡ Some (active_txn i y)) (same_Some x t e) h
active_in i (Ending x told) o t h e = cc

module _ (b : Base) (a : Ledger) (g : Ghost) (c : Core b a g) where
  -- what a known set whose first m are committed shows, where no cut is above it
  shows_first : (s : TidSet) (m : ℕ) → Known s m g.finished → ((k : Key) → IsWithin (g.cuts k) s) → (k : Key)
      → row_shown s (b.cells k).versions ≡ view (firsts m g.finished) k a.commits
  shows_first s m x w k =
      shown_front s (firsts m g.finished) k a.commits (g.cuts k) (b.cells k).versions (g.fronts k) (unknown_front b a g c s m x k) (known_fits b a g c s m x) (w k) (c.cells k)

  now_within : (k : Key) → IsWithin (g.cuts k) b.commits.finished
  now_within k = record { by = λ t h. (snap_within (b.copies 0) b.commits.finished g.finished (c.managers.copy_known 0) c.done).by t ((c.managers.cut_copy k 0 (omega arith)).by t h) }

  all_firsts : firsts (length g.finished) g.finished ≡ length a.commits
  all_firsts = firsts_all (length g.finished) g.finished (omega arith) ∙ ap length (sym c.commits)

pub stands_for : (setup : Setup) (w : World) (s : SiState) (es : List Entry) → Reached setup w s es → StandsFor w s es
stands_for setup w s es r =
    let a = r.ledger in
    let g = r.ghost in
    let c : Core (base w) a g = r.inv.core in
    let all : Fits w.commits.finished (length a.commits) a.commits = subst (λ n. Fits w.commits.finished n a.commits) (all_firsts (base w) a g c) (known_fits (base w) a g c w.commits.finished (length g.finished) c.done) in
    record {
      snapshots = λ tid t h.
          let q = held_shown s a r.shows tid t h in
          let x : HeldAt (shared (base w) g) t.node (g.phases t.node) t = held_at (shared (base w) g) t.node (g.phases t.node) (a.seats t.node) t (c.nodes t.node) q.1 in
          let active : w.active t.node ≡ Some (active_txn t.node x.t) = active_in t.node (g.phases t.node) (w.active t.node) x.t (c.active t.node) x.in_phase in (
            active_txn t.node x.t,
            active,
            x.tid,
            λ k.
                shows_first (base w) a g c x.t.snapshot x.m x.known (λ j. c.managers.cut_snap j t.node (active_txn t.node x.t) active) k
                ∙ ap (λ n. view n k a.commits) (sym x.first) ∙ sym (tables_shown s a r.shows t.first k),
          );
      now = λ k. shows_first (base w) a g c w.commits.finished (length g.finished) c.done (now_within (base w) a g c) k
          ∙ ap (λ n. view n k a.commits) (all_firsts (base w) a g c) ∙ sym (all_tables_shown s a r.shows k);
      finished = λ t. has_done w.commits.finished g.finished c.done t ∙ r.ended t;
      first_alone = λ k. first_alone w.logs w.commits.finished k a.commits (g.cuts k) (w.cells k).versions (g.fronts k)
          (all_in_history w.commits.finished (length a.commits) k a.commits (omega arith) all)
          (λ f e. (owner (base w) a g c k f e).named) (c.cells k);
      records = records_for setup w s es r;
      logs = logs_for setup w s es r;
    }

in_log : (w : World) (g : Ghost) (i : ℕ) (p : Phase) (seat : Seat) → NodeOk (shared (base w) g) i p seat → ActiveOk i p (w.active i) → HasInLog w i p
in_log w g i Idle seat o e = e
in_log w g i (Noted x) seat o e = e
in_log w g i (Drawn x low) seat o e = e
in_log w g i (Live t facts) seat o e = (o.log, e)
in_log w g i (Trying a l) seat o e = (o.log, e)
in_log w g i (Undoing a r l) seat o e = (o.log, e)
in_log w g i (Closing t d c) seat o e = e
in_log w g i (Ending t told) seat o e = e

pub nodes_know : (setup : Setup) (w : World) (s : SiState) (es : List Entry) → Reached setup w s es → (n : ℕ) → runs w n ≡ true → HasInLog w n (w.phases n)
nodes_know setup w s es r n h =
    subst (HasInLog w n) (r.inv.link.runs n h)
    (in_log w r.ghost n (r.ghost.phases n) (r.ledger.seats n) (r.inv.core.nodes n) (r.inv.core.active n))

-- a vanished node with an active transaction has a mender, and it is the one
has_mender : (ns : Nodes) (d : ℕ) (p : Phase) (o : Option Active) (x : Active) → ActiveOk d p o → o ≡ Some x → (m : Option Mender) → MenderOk ns d p m
    → (n : Mender) × (m ≡ Some n) × (mends_it ns d n ≡ true)
has_mender ns d p o x a e (Some m) h = (m, refl, h)
has_mender ns d p o x a e None h = absurd (nothing p a h)
  where
    nothing : (p : Phase) → ActiveOk d p o → tid_of p ≡ None → ⊥
    nothing Idle a h = cc
    nothing (Noted s) a h = cc
    nothing (Drawn s low) a h = cc
    nothing (Live t facts) a h = cc
    nothing (Trying y l) a h = cc
    nothing (Undoing y r l) a h = cc
    nothing (Closing t d c) a h = cc
    nothing (Ending t told) a h = cc

same_mends : (w : World) (d : ℕ) (m : Mender) → mends w d m ≡ mends_it (nodes_of w) d m
same_mends w d (Notice n) = refl
same_mends w d (Duty r) = refl

pub one_mender : (setup : Setup) (w : World) (s : SiState) (es : List Entry) → Reached setup w s es → (d : ℕ) (x : Active) → w.gone d ≡ true → w.active d ≡ Some x → HasOneMender w d
one_mender setup w s es r d x g e =
    let l = r.inv.link in
    let q = has_mender (nodes_of w) d (r.ghost.phases d) (w.active d) x (r.inv.core.active d) e (r.ghost.menders d) (l.mended d g) in (
      q.0,
      same_mends w d q.0 ∙ q.2,
      λ other h. same_Some other q.0 (sym (l.one d other (sym (same_mends w d other) ∙ h)).0 ∙ q.1),
    )
