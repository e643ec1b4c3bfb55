-- A transaction is finished: the commits cell is stored with it in it.
use Rattle.std.proofs.Common.{◌≡◌, ℕ, ◌<◌, ◌≤◌, Bool, true, false, ⊎_elim, List, [], ◌∷◌, length, Option, Some, None, refl, sym, ap, ◌∙◌, subst, arith}
use Rattle.std.specs.Prelude.{◌==◌, ◌^◌, ◌||◌, is_some, if◌then◌else◌}
use Rattle.std.specs.List.{list_any}
use Rattle.std.proofs.lemmas.Bool.{both_ways, cases_lt, eqb-true}
use Rattle.std.proofs.lemmas.Bool.Decides.{nat_tests}
use Rattle.std.proofs.lemmas.Option.{same_Some}
use Rattle.tl_values.specs.declared.value.Value.{Value}
use Rattle.tl_schema.specs.declared.catalog.Catalog.{Catalog}
use Rattle.tl_descriptor.specs.Tids.{TidSet, inserted}
use Rattle.tl_manager.specs.declared.active.Active.{Active}
use Rattle.tl_versions.specs.declared.version.Version.{Version}
use Rattle.tl_write.specs.declared.write.Write.{Write}
use Rattle.tl_write.specs.Own.{is_written}
use Rattle.tl_isolation.specs.declared.entry.Answer.{Answer}
use Rattle.tl_isolation.specs.declared.state.Commit.{Commit}
use Rattle.tl_isolation.specs.declared.state.SiState.{SiState}
use Rattle.tl_isolation.specs.declared.state.Transaction.{Transaction}
use Rattle.tl_isolation.specs.declared.state.TxnPhase.{TxnPhase}
use Rattle.tl_isolation.specs.declared.state.TxnPhase.TheVariants as phase
use Rattle.tl_isolation.specs.State.{is_lost}
use Rattle.tl_isolation.specs.Step.{is_ready}
use Rattle.tl_protocol.specs.Store.{Key, CommitsCell, LogCell, put, written}
use Rattle.tl_protocol.specs.World.{Number, Undrawn, Begun, Txn, Decision, Commit as ToCommit, Undo, Phase, Closing, Ending, World, At}
use Rattle.tl_protocol.specs.Move.{StoreCommits}
use Rattle.tl_protocol.specs.Next.{end_answer, next}
use Rattle.tl_protocol.specs.Stands.{finishes}
use Rattle.tl_protocol.specs.Told.{finished_as}
use Rattle.tl_protocol.proofs.Ledger.{Clear, Ledger, Seat, ended, view}
use Rattle.tl_protocol.proofs.Shown.{Shows, Tells}
use Rattle.tl_protocol.proofs.Finished.{Finished, Known, Snap, commits_of, is_done}
use Rattle.tl_protocol.proofs.Sets.{firsts_more, known_insert, known_more, opens_more}
use Rattle.tl_protocol.proofs.History.{IsKept, clear_more, history, history_other, history_own, kept_more, view_more, written_is}
use Rattle.tl_protocol.proofs.Inv.{ActiveOk, Base, Blank, CellOk, CommitLog, Core, Front, Ghost, Inv, Kept, Link, ManagersOk, NoLog, NodeOk, Nothing, NumbersOk, Removed, Said, SeenOk, Shared, TxnOk, active_txn, base, held_txn, is_taken, is_trying, nodes_of, nowhere, own_stored, shared, unless_lost, vanished_of}
use Rattle.tl_protocol.proofs.Later.{Grows}
use Rattle.tl_protocol.proofs.Frames.{active_after_phase, link_own, nodes_after, put_one}
use Rattle.tl_protocol.proofs.Steps.{node_at, numbered}
use Rattle.tl_protocol.proofs.Showing.{committed, undone}
use Rattle.tl_protocol.proofs.Cells.{Standing}

-- ---- one more is finished

-- the stamp of the commits cell has grown
pub grows_finish : (b : Base) (cc : CommitsCell) (stamp : ℕ) (set : TidSet) → b.commits.stamp ≡ cc.stamp → cc.stamp < stamp
    → Grows b.cells b.commits b.cells (record { stamp = stamp; finished = set })
grows_finish b cc stamp set e above = record {
  stamps = λ k. omega arith;
  versions = λ k q. refl;
  stamp = omega arith;
  finished = λ q. absurd (omega arith);
}

-- the number of a transaction is small enough for a set
pub small_begun : (numbers : ℕ → Number) (counter i t : ℕ) → NumbersOk numbers counter → numbers t ≡ Begun i → t ≤ 2 ^ 62
small_begun numbers counter i t n b =
    let s = n.small in
    ⊎_elim
    (λ (above : counter < t). absurd (never (numbers t) (n.undrawn t above) b))
    (λ (within : t ≤ counter). omega arith)
    (cases_lt counter t)
  where
    never : (x : Number) → x ≡ Undrawn → x ≡ Begun i → ⊥
    never x e f = cc

-- the transaction of another node is finished as before
done_other : (numbers : ℕ → Number) (i j t q : ℕ) (b : Bool) → (i ≡ j → ⊥) → numbers t ≡ Begun i → numbers q ≡ Begun j → b ≡ false → (if t == q then true else b) ≡ false
done_other numbers i j t q b ne x y h = by (t == q) refl
  where
    by : (e : Bool) → (t == q) ≡ e → (if e then true else b) ≡ false
    by true e = let f : numbers t ≡ numbers q = ap numbers (eqb-true t q e) in absurd (ne cc)
    by false e = h

taken_more : (numbers : ℕ → Number) (i t q : ℕ) (b : Bool) → numbers t ≡ Begun i → (b ≡ true → is_taken (numbers q) ≡ true) → (if t == q then true else b) ≡ true → is_taken (numbers q) ≡ true
taken_more numbers i t q b x h = by (t == q) refl
  where
    by : (e : Bool) → (t == q) ≡ e → (if e then true else b) ≡ true → is_taken (numbers q) ≡ true
    by true e z = ap is_taken (ap numbers (sym (eqb-true t q e)) ∙ x)
    by false e z = h z

done_same : (t q : ℕ) (b : Bool) → b ≡ true → (if t == q then true else b) ≡ true
done_same t q b e = grind arith

done_now : (t : ℕ) (b : Bool) → (if t == t then true else b) ≡ true
done_now t b = grind (arith, nat_tests)

done_committed : (t q : ℕ) (b : Bool) → (if t == q then true else b) ≡ ((t == q || false) || b)
done_committed t q b = grind arith

-- a view of commits that there were doesn't know of one more that is finished
views_more : (n : ℕ) (k : Key) (d : Finished) (ds : List Finished) → n ≤ length (commits_of ds) → view n k (commits_of (d ∷ ds)) ≡ view n k (commits_of ds)
views_more n k d ds l = by d.writes
  where
    by : (writes : Option (List Write)) → view n k (commits_of (record { tid = d.tid; writes = writes } ∷ ds)) ≡ view n k (commits_of ds)
    by None = refl
    by (Some own) = view_more n k (record { tid = d.tid; writes = own }) (commits_of ds) l

managers_more : (home : ℕ → ℕ) (top : ℕ) (floors : ℕ → ℕ → TidSet) (copies : ℕ → TidSet) (active : ℕ → Option Active) (cuts : Key → TidSet) (d : Finished) (ds : List Finished)
    → is_done d.tid ds ≡ false → ManagersOk home top floors copies active cuts ds → ManagersOk home top floors copies active cuts (d ∷ ds)
managers_more home top floors copies active cuts d ds absent m = record {
  at_home = m.at_home;
  copy_known = λ j. still (copies j) (m.copy_known j);
  snaps = λ n x e. still x.snapshot (m.snaps n x e);
  floor_known = λ i j. still (floors i j) (m.floor_known i j);
  floor_copy = m.floor_copy;
  floor_snap = m.floor_snap;
  cut_copy = m.cut_copy;
  cut_snap = m.cut_snap;
}
  where
    still : (x : TidSet) → Snap x ds → Snap x (d ∷ ds)
    still x s = record { m = s.m; known = known_more x s.m d ds absent s.known }

-- ---- the versions in front that are so no more

-- the fronts once those of these records are gone
abbrev pub left_out : (Key → Bool) → (Key → Option Front) → Key → Option Front
left_out stored fronts k = if stored k then None else fronts k

left_keeps : (stored : Key → Bool) (fronts : Key → Option Front) (j : ℕ) (k : Key) (f : Front) → (stored k ≡ true → fronts k ≡ Some f → f.node ≡ j → ⊥) → f.node ≡ j → fronts k ≡ Some f
    → left_out stored fronts k ≡ Some f
left_keeps stored fronts j k f h m e = by (stored k) refl
  where
    by : (b : Bool) → stored k ≡ b → (if b then None else fronts k) ≡ Some f
    by true c = absurd (h c e m)
    by false c = e

left_no_more : (stored : Key → Bool) (fronts : Key → Option Front) (k : Key) (f : Front) → left_out stored fronts k ≡ Some f → (stored k ≡ false) × (fronts k ≡ Some f)
left_no_more stored fronts k f = by (stored k)
  where
    by : (b : Bool) → ◌≡◌ {A = Option Front} (if b then None else fronts k) (Some f) → (b ≡ false) × (fronts k ≡ Some f)
    by true e = absurd cc
    by false e = (refl, e)

none_written : (k : Key) (own : List Write) → is_written k own ≡ false → written k own ≡ None
none_written k own e = by (written k own) (sym (written_is k own) ∙ e)
  where
    by : (o : Option (Option (List Value))) → is_some o ≡ false → o ≡ None
    by None e = refl
    by (Some row) e = absurd cc

-- a cell once the transaction whose version stands in front of its own records is committed
cell_committed : (i : ℕ) (t : Txn) (first : ℕ) (fronts : Key → Option Front) (cs : List Commit) (k : Key) (cut : TidSet) (vs : List Version)
    → (is_written k t.own ≡ true → Standing fronts i t first k) → CellOk cs k cut vs (fronts k)
    → CellOk (record { tid = t.tid; writes = t.own } ∷ cs) k cut vs (left_out (own_stored t) fronts k)
cell_committed i t first fronts cs k cut vs h ok = by (is_written k t.own) refl
  where
    c : Commit
    c = record { tid = t.tid; writes = t.own }

    other : is_written k t.own ≡ false → (o : Option Front) → CellOk cs k cut vs o → CellOk (c ∷ cs) k cut vs o
    other e None p = subst (λ y. IsKept y cut vs) (sym (history_other k c cs (none_written k t.own e))) p
    other e (Some f) p = (
      p.0,
      p.1,
      subst (λ y. IsKept y cut p.0) (sym (history_other k c cs (none_written k t.own e))) p.2,
      clear_more f.first k c cs e p.3,
    )

    by : (b : Bool) → is_written k t.own ≡ b → CellOk (c ∷ cs) k cut vs (if b then None else fronts k)
    by true e =
        let s = h e in
        let v : Version = record { tid = t.tid; row = s.0 } in
        let p : CellOk cs k cut vs (Some (record { node = i; tid = t.tid; row = s.0; first = first })) = subst (λ o. CellOk cs k cut vs o) s.2 ok in
        subst (λ y. IsKept y cut vs) (sym (history_own k c s.0 cs s.1))
        (subst (λ y. IsKept (v ∷ history k cs) cut y) (sym p.1) (kept_more cut (history k cs) p.0 v p.2))
    by false e = other e (fronts k) ok

-- ---- the state after it

-- what nodes share, once one more is finished
abbrev pub finished_shared : Base → Ghost → CommitsCell → Finished → (Key → Bool) → Shared
finished_shared b g cell d stored =
    record {
      cells = b.cells;
      commits = cell;
      logs = b.logs;
      numbers = b.numbers;
      fronts = left_out stored g.fronts;
      finished = d ∷ g.finished;
    }

module _ (b : Base) (a : Ledger) (g : Ghost) (c : Core b a g) (i : ℕ) (t : Txn) where
  -- the transaction t of node i is finished, with its writes where it is committed
  finish_core : (writes : Option (List Write)) (stored : Key → Bool) (p : TxnPhase) (tried : Bool) (rival : Option ℕ) (told : Answer) (seat : Seat) (cs : List Commit)
      (stamp : ℕ) (cc : CommitsCell)
      → TxnOk (shared b g) i t stored (a.seats i).held p tried rival → is_trying (b.logs t.tid) ≡ false → b.commits.finished ≡ cc.finished
      → Grows b.cells b.commits b.cells (record { stamp = stamp; finished = inserted cc.finished t.tid })
      → cs ≡ commits_of (record { tid = t.tid; writes = writes } ∷ g.finished)
      → ((k : Key) → CellOk cs k (g.cuts k) (b.cells k).versions (left_out stored g.fronts k))
      → seat.held ≡ None → (seat.vanished ≡ false → seat.outcome ≡ Some told) → b.active i ≡ Some (active_txn i t)
      → Core (record b { commits = record { stamp = stamp; finished = inserted cc.finished t.tid } }) (record { commits = cs; begun = a.begun; seats = put i seat a.seats })
      (record g { fronts = left_out stored g.fronts; finished = record { tid = t.tid; writes = writes } ∷ g.finished; phases = put i (Ending t.tid told) g.phases })
  finish_core writes stored p tried rival told seat cs stamp cc o log all grow new cells none answer act =
      let d : Finished = record { tid = t.tid; writes = writes } in
      let cell : CommitsCell = record { stamp = stamp; finished = inserted cc.finished t.tid } in
      let z : Shared = finished_shared b g cell d stored in
      record {
        cells = cells;
        nodes = nodes_after i (shared b g) z (Ending t.tid told) seat g.phases a.seats
            (record {
              free = record { not_held = none; nowhere = λ k f e m. let q = left_no_more stored g.fronts k f e in both_ways (stored k) q.0 (o.only k f q.1 m) };
              begun = o.begun;
              finished = done_now t.tid (is_done t.tid g.finished);
              log = log;
              answer = answer;
            })
            (λ j ne. record {
              grows = grow;
              begun = λ q h. h;
              carried = λ q h. h;
              keeps = λ k f. left_keeps stored g.fronts j k f (λ s e m. ne (owner k f (o.stands k s) e ∙ m));
              no_more = λ k f m e. (left_no_more stored g.fronts k f e).1;
              logs = λ q h. refl;
              finished = λ q h. done_same t.tid q (is_done q g.finished) h;
              unfinished = λ q h e. done_other b.numbers i j t.tid q (is_done q g.finished) ne o.begun h e;
              known = λ x m k. known_more x m d g.finished o.unfinished k;
              firsts = λ m l. firsts_more m d g.finished l;
              views = λ n k l. views_more n k d g.finished l;
            })
            c.nodes;
        active = active_after_phase i (Ending t.tid told) g.phases b.active (t.snapshot, act) c.active;
        done = known_insert cc.finished d g.finished (small_begun b.numbers b.counter i t.tid c.numbers o.begun) o.unfinished
            (subst (λ x. Known x (length g.finished) g.finished) all c.done);
        managers = managers_more b.home b.top b.floors b.copies b.active g.cuts d g.finished o.unfinished c.managers;
        numbers = c.numbers;
        commits = new;
        distinct = (o.unfinished, c.distinct);
        opens = opens_more d g.finished c.opens;
        taken = λ q. taken_more b.numbers i t.tid q (is_done q g.finished) o.begun (c.taken q);
        begun = c.begun;
        logs = c.logs;
      }
    where
      owner : (k : Key) (f : Front) → Standing g.fronts i t o.first k → g.fronts k ≡ Some f → i ≡ f.node
      owner k f s e = ap (λ (x : Front). x.node) (same_Some (record { node = i; tid = t.tid; row = s.0; first = o.first }) f (sym s.2 ∙ e))

-- the state once the transaction t of node i is finished, and what is told of it
pub record FinishedSo (b : Base) (a : Ledger) (g : Ghost) (i : ℕ) (t : Txn) (d : Decision) (cell : CommitsCell) : Type 0 where
  pub ledger : Ledger
  pub ghost : Ghost
  pub core : Core (record b { commits = cell }) ledger ghost
  pub phases : ghost.phases ≡ put i (Ending t.tid (end_answer t.stage d)) g.phases
  pub menders : ghost.menders ≡ g.menders
  pub vanished : (j : ℕ) → vanished_of ledger j ≡ vanished_of a j
  pub ended : (q : ℕ) → is_done q ghost.finished ≡ (list_any (finishes q) (finished_as d t.tid ∷ []) || is_done q g.finished)
  pub tells : (catalog : Catalog) (s : SiState) → Shows s a → 1 ≤ i → Tells catalog s (finished_as d t.tid ∷ []) ledger

decided_log : (i : ℕ) (t : Txn) (l : Option LogCell) → CommitLog i t l → is_trying l ≡ false
decided_log _ _ _ (Nothing i t e) = refl
decided_log _ _ _ (Said i t stamp) = refl

blank_log : (i : ℕ) (t : Txn) (l : Option LogCell) → Blank i t l → is_trying l ≡ false
blank_log _ _ _ (NoLog i t) = refl
blank_log _ _ _ (Removed i t stamp) = refl

-- a transaction that is to be committed met no rival
ready : (i first : ℕ) (t : Txn) (vanished : Bool) → is_ready (held_txn i first t (unless_lost vanished phase.Trying) true None) ≡ true
ready i first t true = refl
ready i first t false = refl

not_lost : (vanished : Bool) → vanished ≡ false → is_lost (unless_lost vanished phase.Trying) ≡ false
not_lost true e = absurd cc
not_lost false e = refl

answers : (b : Bool) (before : Option Answer) (told : Answer) → b ≡ false → (if b then before else Some told) ≡ Some told
answers b before told e = ap (λ (y : Bool). if y then before else Some told) e

seat_vanished : (a : Ledger) (i : ℕ) (seat : Seat) → seat.vanished ≡ (a.seats i).vanished → (j : ℕ) → (put i seat a.seats j).vanished ≡ vanished_of a j
seat_vanished a i seat e = put_one (λ j (x : Seat). x.vanished ≡ vanished_of a j) i seat a.seats e (λ j ne. refl)

-- the commits cell is stored with the transaction in it, by its node or by a recoverer
pub finish : (b : Base) (a : Ledger) (g : Ghost) (c : Core b a g) (i stamp : ℕ) (t : Txn) (d : Decision) (lo : Option CommitsCell) (cc : CommitsCell)
    → g.phases i ≡ Closing t d lo → SeenOk b.commits cc → b.commits.stamp ≡ cc.stamp → cc.stamp < stamp
    → FinishedSo b a g i t d (record { stamp = stamp; finished = inserted cc.finished t.tid })
finish b a g c i stamp t ToCommit lo cc so seen same above =
    let o : NodeOk (shared b g) i (Closing t ToCommit lo) (a.seats i) = subst (λ q. NodeOk (shared b g) i q (a.seats i)) so (c.nodes i) in
    let act : ActiveOk i (Closing t ToCommit lo) (b.active i) = subst (λ q. ActiveOk i q (b.active i)) so (c.active i) in
    let p = o.txn in
    let held : Transaction = held_txn i p.first t (unless_lost (a.seats i).vanished phase.Trying) true None in
    let told : Answer = end_answer t.stage ToCommit in
    let seat : Seat = ended (a.seats i) held told in
    let one : Commit = record { tid = t.tid; writes = t.own } in
    record {
      ledger = record { commits = one ∷ a.commits; begun = a.begun; seats = put i seat a.seats };
      ghost = record g { fronts = left_out (own_stored t) g.fronts; finished = record { tid = t.tid; writes = Some t.own } ∷ g.finished; phases = put i (Ending t.tid told) g.phases };
      core = finish_core b a g c i t (Some t.own) (own_stored t) (unless_lost (a.seats i).vanished phase.Trying) true None told seat (one ∷ a.commits) stamp cc p
          (decided_log i t (b.logs t.tid) o.log) (seen.same same) (grows_finish b cc stamp (inserted cc.finished t.tid) same above)
          (ap (λ (cs : List Commit). one ∷ cs) c.commits)
          (λ k. cell_committed i t p.first g.fronts a.commits k (g.cuts k) (b.cells k).versions (p.stands k) (c.cells k))
          refl (λ e. answers (is_lost held.phase) (a.seats i).outcome told (not_lost (a.seats i).vanished e)) act;
      phases = refl;
      menders = refl;
      vanished = seat_vanished a i seat refl;
      ended = λ q. done_committed t.tid q (is_done q g.finished);
      tells = λ catalog s shows node. committed catalog s a shows i node held p.is_held (ready i p.first t (a.seats i).vanished)
          (λ k e. clear k (p.stands k e));
    }
  where
    clear_front : (cs : List Commit) (k : Key) (cut : TidSet) (vs : List Version) (f : Front) → CellOk cs k cut vs (Some f) → Clear f.first k cs
    clear_front cs k cut vs f ok = ok.3

    clear : {first : ℕ} (k : Key) → Standing g.fronts i t first k → Clear first k a.commits
    clear {first} k s =
        clear_front a.commits k (g.cuts k) (b.cells k).versions (record { node = i; tid = t.tid; row = s.0; first = first })
        (subst (λ f. CellOk a.commits k (g.cuts k) (b.cells k).versions f) s.2 (c.cells k))
finish b a g c i stamp t (Undo rival) lo cc so seen same above =
    let o : NodeOk (shared b g) i (Closing t (Undo rival) lo) (a.seats i) = subst (λ q. NodeOk (shared b g) i q (a.seats i)) so (c.nodes i) in
    let act : ActiveOk i (Closing t (Undo rival) lo) (b.active i) = subst (λ q. ActiveOk i q (b.active i)) so (c.active i) in
    let p = o.txn in
    let held : Transaction = held_txn i p.first t o.p o.tried rival in
    let told : Answer = end_answer t.stage (Undo rival) in
    let seat : Seat = ended (a.seats i) held told in
    record {
      ledger = record { commits = a.commits; begun = a.begun; seats = put i seat a.seats };
      ghost = record g { fronts = left_out nowhere g.fronts; finished = record { tid = t.tid; writes = None } ∷ g.finished; phases = put i (Ending t.tid told) g.phases };
      core = finish_core b a g c i t None nowhere o.p o.tried rival told seat a.commits stamp cc p
          (blank_log i t (b.logs t.tid) o.log) (seen.same same) (grows_finish b cc stamp (inserted cc.finished t.tid) same above)
          c.commits c.cells refl (λ e. answers (is_lost o.p) (a.seats i).outcome told (o.runs e)) act;
      phases = refl;
      menders = refl;
      vanished = seat_vanished a i seat refl;
      ended = λ q. done_committed t.tid q (is_done q g.finished);
      tells = λ catalog s shows node. undone catalog s a shows i node held p.is_held o.gives_up;
    }

module _ (w : World) (a : Ledger) (g : Ghost) (v : Inv w a g) where
  -- the node finishes its own transaction
  pub store_commits_kept : (n stamp : ℕ) (t : Txn) (d : Decision) (cc : CommitsCell) (at : At w n (Closing t d (Some cc)))
      (same : w.commits.stamp ≡ cc.stamp) (above : cc.stamp < stamp) → Kept w a g (StoreCommits n stamp t d cc at same above)
  store_commits_kept n stamp t d cc at same above =
      let f = finish (base w) a g v.core n stamp t d (Some cc) cc (v.link.runs n at.runs ∙ at.so_far) (seen n t d cc (node_at w a g v n (Closing t d (Some cc)) at)) same above in
      let p : Phase = Ending t.tid (end_answer t.stage d) in
      record {
        ledger = f.ledger;
        ghost = f.ghost;
        inv = record {
          core = f.core;
          link = subst (λ ms. Link (base (next w (StoreCommits n stamp t d cc at same above))) (nodes_of (next w (StoreCommits n stamp t d cc at same above))) (vanished_of f.ledger) f.ghost.phases ms)
              (sym f.menders)
              (subst (λ xs. Link (base (next w (StoreCommits n stamp t d cc at same above))) (nodes_of (next w (StoreCommits n stamp t d cc at same above))) (vanished_of f.ledger) xs g.menders)
              (sym f.phases)
              (link_own (base w) (base (next w (StoreCommits n stamp t d cc at same above))) (nodes_of w) (vanished_of a) (vanished_of f.ledger) g.phases g.menders n p
              (grows_finish (base w) cc stamp (inserted cc.finished t.tid) same above) at.runs f.vanished v.link));
        };
        tells = λ s h proper. f.tells w.catalog s h (numbered w a g v n at.runs);
        ended = λ s q. f.ended q;
        catalog = refl;
      }
    where
      seen : (n : ℕ) (t : Txn) (d : Decision) (cc : CommitsCell) → NodeOk (shared (base w) g) n (Closing t d (Some cc)) (a.seats n) → SeenOk w.commits cc
      seen n t ToCommit cc o = o.hand
      seen n t (Undo rival) cc o = o.hand
