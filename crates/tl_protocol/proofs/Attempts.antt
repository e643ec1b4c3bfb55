-- The moves of a commit and an undo that change no record cell and not the commits cell.
use Rattle.std.proofs.Common.{◌≡◌, ℕ, ◌<◌, ◌≤◌, Bool, true, false, ◌⊎◌, List, [], ◌∷◌, Option, Some, None, refl, sym, ap, ◌∙◌, subst, inl, inr, ⊎_elim, arith}
use Rattle.std.specs.Prelude.{◌==◌, ◌&&◌, ◌||◌, not, is_some, slice_get}
use Rattle.std.specs.List.{list_all}
use Rattle.std.specs.FinMap.{nat_cmp-IsAntisymmetric, slice_cmp-IsAntisymmetric}
use Rattle.std.specs.Ordering.{is_eq}
use Rattle.std.specs.declared.cmp.Ordering.{Ordering}
use Rattle.std.specs.declared.cmp.Ordering.TheVariants.{Less, Equal, Greater}
use Rattle.std.proofs.lemmas.Bool.{and_parts, both_ways, false≢true, ne_eqb}
use Rattle.tl_logrec.specs.declared.entry.Flag.TheVariants as flag
use Rattle.tl_versions.specs.Versions.{stranger}
use Rattle.tl_write.specs.declared.write.Write.{Write}
use Rattle.tl_write.specs.Own.{is_written, key_cmp}
use Rattle.tl_isolation.specs.declared.state.Transaction.{Transaction}
use Rattle.tl_isolation.specs.declared.state.TxnPhase.{TxnPhase}
use Rattle.tl_isolation.specs.declared.state.TxnPhase.TheVariants as phase
use Rattle.tl_isolation.specs.Step.{meet_rival}
use Rattle.tl_protocol.specs.Store.{Key, LogCell, CommitsCell, log_stamp, put, same_key}
use Rattle.tl_protocol.specs.World.{Number, Begun, Txn, Attempt, Loaded, Decision, Commit as ToCommit, Undo, Phase, Trying, Undoing, Closing, World, runs, At}
use Rattle.tl_protocol.specs.Move.{LoadOwn, Clash, MovedOwn, Decide, LoadUndo, MovedUndo, MarkUndone, LoadCommits, MovedCommits, all_stored, none_stored}
use Rattle.tl_protocol.specs.Next.{loaded, log_cell, with_log, with_phase}
use Rattle.tl_protocol.proofs.Ledger.{CommittedLater, Ledger, Seat, holding}
use Rattle.tl_protocol.proofs.Finished.{is_done}
use Rattle.tl_protocol.proofs.Sets.{later_done}
use Rattle.tl_protocol.proofs.History.{written_is}
use Rattle.tl_protocol.proofs.Inv.{ActiveOk, CommitLog, Said, Blank, Removed, Front, Ghost, InHand, Inv, Kept, LoadOk, NodeOk, SeenOk, Shared, TxnOk, base, held_txn, nodes_of, nowhere, own_stored, shared, unless_lost, vanished_of}
use Rattle.tl_protocol.proofs.Later.{grows_refl}
use Rattle.tl_protocol.proofs.Frames.{link_own, put_same}
use Rattle.tl_protocol.proofs.Steps.{active_at, core_log, core_seat, core_turn, node_at, not_vanished, numbered, seated_vanished}
use Rattle.tl_protocol.proofs.Steps.{with_phase as ghost_phase}
use Rattle.tl_protocol.proofs.Owner.{Owner, owner, stranger_front, txn_fits, unknown_front}
use Rattle.tl_protocol.proofs.Showing.{clashed}
use Rattle.tl_write.proofs.Keys.{key_eq}

-- ---- tests over the own writes

-- what holds of the key of each write, holds of each record that is written
all_at : (f : Key → Bool) (k : Key) (ws : List Write) → list_all (λ (o : Write). f o.key) ws ≡ true → is_written k ws ≡ true → f k ≡ true
all_at f k [] h i = absurd (false≢true i)
all_at f k (w ∷ ws) h i =
    let q = and_parts (f w.key) (list_all (λ (o : Write). f o.key) ws) h in
    by (same_key w.key k) refl i q.0 (all_at f k ws q.1)
  where
    by : (b : Bool) → same_key w.key k ≡ b → b || is_written k ws ≡ true → f w.key ≡ true → (is_written k ws ≡ true → f k ≡ true) → f k ≡ true
    by true e i h r = subst (λ (x : Key). f x ≡ true) (key_eq w.key k e) h
    by false e i h r = r i

not_true : (b : Bool) → not b ≡ true → b ≡ true → ⊥
not_true true h e = absurd cc
not_true false h e = absurd cc

-- ---- facts of the transaction where its phase or its log changes

loaded_ok : (w : World) (k : Key) → LoadOk w.cells (loaded w k)
loaded_ok w k = record { before = omega arith; same = λ e. refl }

seen_ok : (c : CommitsCell) → SeenOk c c
seen_ok c = record { before = omega arith; same = λ e. refl }

-- it is known where each stored version stands, and that it is one of an own record
stored_own : (s : Shared) (i : ℕ) (t : Txn) (stored : Key → Bool) (held : Option Transaction) (p : TxnPhase) (b : Bool) (r : Option ℕ)
    → TxnOk s i t stored held p b r → (k : Key) → stored k ≡ true → is_written k t.own ≡ true
stored_own s i t stored held p b r o k h = written_is k t.own ∙ ap is_some (o.stands k h).1

-- the same where nothing but logs has changed, and its version stands in each own record
txn_stored : (s : Shared) (logs : ℕ → Option LogCell) (i : ℕ) (a : Attempt) (held : Option Transaction) (p : TxnPhase) (b : Bool) (r : Option ℕ)
    → all_stored a ≡ true → TxnOk s i a.txn a.stored held p b r → TxnOk (record s { logs = logs }) i a.txn (own_stored a.txn) held p b r
txn_stored s logs i a held p b r e o = record {
  m = o.m;
  known = o.known;
  first = o.first;
  first_is = o.first_is;
  begun = o.begun;
  unfinished = o.unfinished;
  is_held = o.is_held;
  stands = λ k h. o.stands k (all_at a.stored k a.txn.own e h);
  only = λ k f x m. stored_own s i a.txn a.stored held p b r o k (o.only k f x m);
}

-- and where it stands in none
txn_bare : (s : Shared) (logs : ℕ → Option LogCell) (i : ℕ) (a : Attempt) (held : Option Transaction) (p : TxnPhase) (b : Bool) (r : Option ℕ)
    → none_stored a ≡ true → (o : TxnOk s i a.txn a.stored held p b r) → TxnOk (record s { logs = logs }) i a.txn nowhere held p b r
txn_bare s logs i a held p b r e o = record {
  m = o.m;
  known = o.known;
  first = o.first;
  first_is = o.first_is;
  begun = o.begun;
  unfinished = o.unfinished;
  is_held = o.is_held;
  stands = λ k h. absurd (false≢true h);
  only = λ k f x m. absurd (not_stored k (o.only k f x m));
}
  where
    not_stored : (k : Key) → a.stored k ≡ true → ⊥
    not_stored k h = not_true (a.stored k) (all_at (λ q. not (a.stored q)) k a.txn.own e (stored_own s i a.txn a.stored held p b r o k h)) h

-- another commits cell is in hand, or none
closing_hand : (s : Shared) (i : ℕ) (t : Txn) (d : Decision) (c x : Option CommitsCell) (seat : Seat) → InHand (SeenOk s.commits) x
    → NodeOk s i (Closing t d c) seat → NodeOk s i (Closing t d x) seat
closing_hand s i t ToCommit c x seat h o = record { txn = o.txn; log = o.log; hand = h }
closing_hand s i t (Undo rival) c x seat h o = record {
  p = o.p;
  tried = o.tried;
  txn = o.txn;
  runs = o.runs;
  gives_up = o.gives_up;
  log = o.log;
  hand = h;
}

-- the rival is another transaction than t: it is committed after the first commits, or held somewhere and has tried
record Rival (a : Ledger) (first rival own : ℕ) (k : Key) : Type 0 where
  other : (rival == own) ≡ false
  is_there : CommittedLater first rival k a.commits
      ⊎ ((i : ℕ) × (g : Transaction) × (1 ≤ i) × ((a.seats i).held ≡ Some g) × (g.tid ≡ rival) × (g.tried ≡ true) × (is_written k g.own ≡ true))

begun_once : (i j : ℕ) (x : Number) → x ≡ Begun i → x ≡ Begun j → i ≡ j
begun_once i j x e f = cc

module _ (w : World) (a : Ledger) (g : Ghost) (v : Inv w a g) where
  -- a running node's own transaction goes on, and nothing else changes
  turn : (n : ℕ) (p : Phase) → runs w n ≡ true → NodeOk (shared (base w) g) n p (a.seats n) → ActiveOk n p (w.active n)
      → Inv (with_phase w n p) a (ghost_phase g n p)
  turn n p run h e = record {
    core = core_turn (base w) a g v.core n p h e;
    link = link_own (base w) (base w) (nodes_of w) (vanished_of a) (vanished_of a) g.phases g.menders n p (grows_refl w.cells w.commits) run (λ i. refl) v.link;
  }

  -- and its log cell is stored
  turn_log : (n t : ℕ) (l : LogCell) (p : Phase) → runs w n ≡ true → w.numbers t ≡ Begun n
      → NodeOk (shared (record (base w) { logs = put t (Some l) w.logs }) g) n p (a.seats n) → ActiveOk n p (w.active n)
      → Inv (with_phase (with_log w t l) n p) a (ghost_phase g n p)
  turn_log n t l p run b h e = record {
    core = core_log (base w) a g v.core n p t (Some l) b h e;
    link = link_own (base w) (base (with_log w t l)) (nodes_of w) (vanished_of a) (vanished_of a) g.phases g.menders n p (grows_refl w.cells w.commits) run (λ i. refl) v.link;
  }

  -- and the machine of snapshot isolation holds it in another state
  turn_held : (n : ℕ) (t : Transaction) (p : Phase) → runs w n ≡ true
      → NodeOk (shared (base w) g) n p (record (a.seats n) { held = Some t }) → ActiveOk n p (w.active n)
      → Inv (with_phase w n p) (holding a n t) (ghost_phase g n p)
  turn_held n t p run h e =
      let seat : Seat = record (a.seats n) { held = Some t } in
      record {
        core = core_seat (base w) a g v.core n p seat h e;
        link = link_own (base w) (base w) (nodes_of w) (vanished_of a) (vanished_of (holding a n t)) g.phases g.menders n p (grows_refl w.cells w.commits) run
            (seated_vanished a n seat refl) v.link;
      }

  pub load_own_kept : (n : ℕ) (k : Key) (x : Attempt) (at : At w n (Trying x None)) (own : is_written k x.txn.own ≡ true) (new : x.stored k ≡ false)
      (none : stranger x.txn.snapshot (w.cells k).versions ≡ None) → Kept w a g (LoadOwn n k x at own new none)
  load_own_kept n k x at own new none =
      let o = node_at w a g v n (Trying x None) at in
      record {
        ledger = a;
        ghost = ghost_phase g n (Trying x (Some (loaded w k)));
        inv = turn n (Trying x (Some (loaded w k))) at.runs
            (record { txn = o.txn; log = o.log; hand = record { load = loaded_ok w k; not_yet = new; is_own = own; no_stranger = none } })
            (active_at w a g v n (Trying x None) at);
        tells = λ s h proper. record { allowed = tt; shows = h };
        ended = λ s t. refl;
        catalog = refl;
      }

  pub moved_own_kept : (n : ℕ) (x : Attempt) (l : Loaded) (at : At w n (Trying x (Some l))) (moved : ((w.cells l.key).stamp == l.stamp) ≡ false)
      → Kept w a g (MovedOwn n x l at moved)
  moved_own_kept n x l at moved =
      let o = node_at w a g v n (Trying x (Some l)) at in
      record {
        ledger = a;
        ghost = ghost_phase g n (Trying x None);
        inv = turn n (Trying x None) at.runs (record { txn = o.txn; log = o.log; hand = tt }) (active_at w a g v n (Trying x (Some l)) at);
        tells = λ s h proper. record { allowed = tt; shows = h };
        ended = λ s t. refl;
        catalog = refl;
      }

  pub decide_kept : (n stamp : ℕ) (x : Attempt) (at : At w n (Trying x None)) (all : all_stored x ≡ true) (same : log_stamp (w.logs x.txn.tid) ≡ x.log)
      (above : x.log < stamp) → Kept w a g (Decide n stamp x at all same above)
  decide_kept n stamp x at all same above =
      let o = node_at w a g v n (Trying x None) at in
      let l : LogCell = log_cell stamp n flag.Decided x.txn in
      let logs : ℕ → Option LogCell = put x.txn.tid (Some l) w.logs in
      record {
        ledger = a;
        ghost = ghost_phase g n (Closing x.txn ToCommit None);
        inv = turn_log n x.txn.tid l (Closing x.txn ToCommit None) at.runs o.txn.begun (record {
          txn = txn_stored (shared (base w) g) logs n x (a.seats n).held (unless_lost (a.seats n).vanished phase.Trying) true None all o.txn;
          log = subst (CommitLog n x.txn) (sym (put_same x.txn.tid (Some l) w.logs)) (Said n x.txn stamp);
          hand = tt;
        })
            (active_at w a g v n (Trying x None) at);
        tells = λ s h proper. record { allowed = tt; shows = h };
        ended = λ s t. refl;
        catalog = refl;
      }

  pub load_undo_kept : (n : ℕ) (k : Key) (x : Attempt) (rival : Option ℕ) (at : At w n (Undoing x rival None)) (stored : x.stored k ≡ true)
      → Kept w a g (LoadUndo n k x rival at stored)
  load_undo_kept n k x rival at stored =
      let o = node_at w a g v n (Undoing x rival None) at in
      record {
        ledger = a;
        ghost = ghost_phase g n (Undoing x rival (Some (loaded w k)));
        inv = turn n (Undoing x rival (Some (loaded w k))) at.runs (record {
          p = o.p;
          txn = o.txn;
          runs = o.runs;
          gives_up = o.gives_up;
          log = o.log;
          hand = record { load = loaded_ok w k; still = stored };
        })
            (active_at w a g v n (Undoing x rival None) at);
        tells = λ s h proper. record { allowed = tt; shows = h };
        ended = λ s t. refl;
        catalog = refl;
      }

  pub moved_undo_kept : (n : ℕ) (x : Attempt) (rival : Option ℕ) (l : Loaded) (at : At w n (Undoing x rival (Some l)))
      (moved : ((w.cells l.key).stamp == l.stamp) ≡ false) → Kept w a g (MovedUndo n x rival l at moved)
  moved_undo_kept n x rival l at moved =
      let o = node_at w a g v n (Undoing x rival (Some l)) at in
      record {
        ledger = a;
        ghost = ghost_phase g n (Undoing x rival None);
        inv = turn n (Undoing x rival None) at.runs (record {
          p = o.p;
          txn = o.txn;
          runs = o.runs;
          gives_up = o.gives_up;
          log = o.log;
          hand = tt;
        })
            (active_at w a g v n (Undoing x rival (Some l)) at);
        tells = λ s h proper. record { allowed = tt; shows = h };
        ended = λ s t. refl;
        catalog = refl;
      }

  pub mark_undone_kept : (n stamp : ℕ) (x : Attempt) (rival : Option ℕ) (at : At w n (Undoing x rival None)) (none : none_stored x ≡ true)
      (same : log_stamp (w.logs x.txn.tid) ≡ x.log) (above : x.log < stamp) → Kept w a g (MarkUndone n stamp x rival at none same above)
  mark_undone_kept n stamp x rival at none same above =
      let o = node_at w a g v n (Undoing x rival None) at in
      let l : LogCell = log_cell stamp n flag.Undone x.txn in
      let logs : ℕ → Option LogCell = put x.txn.tid (Some l) w.logs in
      record {
        ledger = a;
        ghost = ghost_phase g n (Closing x.txn (Undo rival) None);
        inv = turn_log n x.txn.tid l (Closing x.txn (Undo rival) None) at.runs o.txn.begun (record {
          p = o.p;
          tried = true;
          txn = txn_bare (shared (base w) g) logs n x (a.seats n).held o.p true rival none o.txn;
          runs = o.runs;
          gives_up = o.gives_up;
          log = subst (Blank n x.txn) (sym (put_same x.txn.tid (Some l) w.logs)) (Removed n x.txn stamp);
          hand = tt;
        })
            (active_at w a g v n (Undoing x rival None) at);
        tells = λ s h proper. record { allowed = tt; shows = h };
        ended = λ s t. refl;
        catalog = refl;
      }

  pub load_commits_kept : (n : ℕ) (t : Txn) (d : Decision) (at : At w n (Closing t d None)) → Kept w a g (LoadCommits n t d at)
  load_commits_kept n t d at = record {
    ledger = a;
    ghost = ghost_phase g n (Closing t d (Some w.commits));
    inv = turn n (Closing t d (Some w.commits)) at.runs
        (closing_hand (shared (base w) g) n t d None (Some w.commits) (a.seats n) (seen_ok w.commits) (node_at w a g v n (Closing t d None) at))
        (active_at w a g v n (Closing t d None) at);
    tells = λ s h proper. record { allowed = tt; shows = h };
    ended = λ s q. refl;
    catalog = refl;
  }

  pub moved_commits_kept : (n : ℕ) (t : Txn) (d : Decision) (c : CommitsCell) (at : At w n (Closing t d (Some c)))
      (moved : (w.commits.stamp == c.stamp) ≡ false) → Kept w a g (MovedCommits n t d c at moved)
  moved_commits_kept n t d c at moved = record {
    ledger = a;
    ghost = ghost_phase g n (Closing t d None);
    inv = turn n (Closing t d None) at.runs
        (closing_hand (shared (base w) g) n t d (Some c) None (a.seats n) tt (node_at w a g v n (Closing t d (Some c)) at))
        (active_at w a g v n (Closing t d (Some c)) at);
    tells = λ s h proper. record { allowed = tt; shows = h };
    ended = λ s q. refl;
    catalog = refl;
  }

  -- a version outside the snapshot, in a cell where the transaction's own one doesn't stand, is that of a rival
  met : (n : ℕ) (t : Txn) (stored : Key → Bool) (held : Option Transaction) (p : TxnPhase) (b : Bool) (r : Option ℕ)
      (o : TxnOk (shared (base w) g) n t stored held p b r) (k : Key) (rival : ℕ) → stored k ≡ false → stranger t.snapshot (w.cells k).versions ≡ Some rival
      → Rival a o.first rival t.tid k
  met n t stored held p b r o k rival new strange =
      ⊎_elim
      front
      later
      (stranger_front t.snapshot o.first k rival a.commits (g.cuts k) (w.cells k).versions (g.fronts k)
      (unknown_front (base w) a g v.core t.snapshot o.m o.known k) (txn_fits (base w) a g v.core n t stored held p b r o) (v.core.cells k) strange)
    where
      front : ((f : Front) × (g.fronts k ≡ Some f) × (f.tid ≡ rival)) → Rival a o.first rival t.tid k
      front (f, e, is) =
          let q : Owner w.numbers g.finished k f (a.seats f.node).held (w.logs f.tid) = owner (base w) a g v.core k f e in
          record {
            other = ne_eqb rival t.tid (λ (z : rival ≡ t.tid).
                both_ways (stored k) new (o.only k f e (begun_once f.node n (w.numbers f.tid) q.begun (ap w.numbers (is ∙ z) ∙ o.begun))));
            is_there = inr (f.node, q.t, v.core.numbers.begun_at f.tid f.node q.begun, q.is_held, q.tid ∙ is, q.tried, q.writes);
          }

      later : CommittedLater o.first rival k a.commits → Rival a o.first rival t.tid k
      later h =
          let done : is_done rival g.finished ≡ true = later_done o.first rival k g.finished (subst (CommittedLater o.first rival k) v.core.commits h) in
          record {
            other = ne_eqb rival t.tid (λ (z : rival ≡ t.tid). both_ways (is_done t.tid g.finished) o.unfinished (subst (λ q. is_done q g.finished ≡ true) z done));
            is_there = inl h;
          }

  pub clash_kept : (n place rival : ℕ) (o : Write) (x : Attempt) (at : At w n (Trying x None))
      (own : slice_get x.txn.own place ≡ Some o) (new : x.stored o.key ≡ false) (strange : stranger x.txn.snapshot (w.cells o.key).versions ≡ Some rival)
      → Kept w a g (Clash n place rival o x at own new strange)
  clash_kept n place rival o x at own new strange =
      let trying = node_at w a g v n (Trying x None) at in
      let t : Transaction = held_txn n trying.txn.first x.txn phase.Trying true None in
      let is_held : (a.seats n).held ≡ Some t = subst
      (λ (b : Bool). (a.seats n).held ≡ Some (held_txn n trying.txn.first x.txn (unless_lost b phase.Trying) true None)) (not_vanished w a g v n at.runs) trying.txn.is_held in
      let r : Rival a trying.txn.first rival x.txn.tid o.key = met n x.txn x.stored (a.seats n).held (unless_lost (a.seats n).vanished phase.Trying) true None trying.txn o.key rival new strange in
      record {
        ledger = holding a n (meet_rival rival t);
        ghost = ghost_phase g n (Undoing x (Some rival) None);
        inv = turn_held n (meet_rival rival t) (Undoing x (Some rival) None) at.runs (record {
          p = phase.Undoing;
          txn = record {
            m = trying.txn.m;
            known = trying.txn.known;
            first = trying.txn.first;
            first_is = trying.txn.first_is;
            begun = trying.txn.begun;
            unfinished = trying.txn.unfinished;
            is_held = refl;
            stands = trying.txn.stands;
            only = trying.txn.only;
          };
          runs = λ e. refl;
          gives_up = refl;
          log = trying.log;
          hand = tt;
        })
            (active_at w a g v n (Trying x None) at);
        tells = λ s h proper. clashed w.catalog s a h n (numbered w a g v n at.runs) rival place t o is_held refl r.other own r.is_there;
        ended = λ s q. refl;
        catalog = refl;
      }
