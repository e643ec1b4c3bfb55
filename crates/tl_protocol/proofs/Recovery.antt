-- What a recoverer does with the transactions of vanished nodes.
use Rattle.std.proofs.Common.{◌≡◌, ℕ, ◌<◌, Bool, true, false, List, [], ◌∷◌, Option, Some, None, refl, sym, ap, ◌∙◌, subst, inl, inr, ⊎_elim, arith}
use Rattle.std.specs.Prelude.{◌==◌, ◌&&◌, ◌||◌, if◌then◌else◌, is_some, map}
use Rattle.std.specs.List.{list_all, list_any}
use Rattle.std.proofs.lemmas.Bool.{both_ways, false≢true}
use Rattle.std.proofs.lemmas.Option.{same_Some}
use Rattle.tl_descriptor.specs.Tids.{TidSet, has, inserted}
use Rattle.tl_logrec.specs.declared.entry.Flag.{Flag}
use Rattle.tl_logrec.specs.declared.entry.Flag.TheVariants as flag
use Rattle.tl_manager.specs.declared.active.Active.{Active}
use Rattle.tl_versions.specs.Versions.{is_written as is_borne, strip}
use Rattle.tl_write.specs.declared.write.Write.{Write}
use Rattle.tl_write.specs.Own.{is_written}
use Rattle.tl_isolation.specs.declared.entry.Answer.{Answer}
use Rattle.tl_isolation.specs.declared.state.TxnPhase.TheVariants as phase
use Rattle.tl_isolation.specs.Step.{may_undo}
use Rattle.tl_protocol.specs.Store.{Key, LogCell, CommitsCell, log_stamp, put, put_at, same_key}
use Rattle.tl_protocol.specs.World.{Begun, Txn, Loaded, Decision, Commit as ToCommit, Undo, Phase, Idle, Noted, Drawn, Live, Trying, Undoing, Closing, Ending, Duties, Orphan, Next, Reading, Stripping, Finishing, Closed, World, Recovers}
use Rattle.tl_protocol.specs.Move.{FindOrphan, FindNone, ReadLog, LoadLost, StoreLost, MovedLost, MarkLost, LoadFinish, StoreFinish, MovedFinish, EndLost, all_seen, is_empty, is_named}
use Rattle.tl_protocol.specs.Next.{by_flag, by_log, end_answer, loaded, log_cell, marked, owed, with_recovery, without}
use Rattle.tl_protocol.specs.Stands.{finishes}
use Rattle.tl_protocol.specs.Told.{finished_as, finished_so}
use Rattle.tl_protocol.proofs.Ledger.{Ledger, Seat}
use Rattle.tl_protocol.proofs.Shown.{Tells}
use Rattle.tl_protocol.proofs.Finished.{Finished, is_done}
use Rattle.tl_protocol.proofs.Sets.{has_done}
use Rattle.tl_protocol.proofs.History.{written_is}
use Rattle.tl_protocol.proofs.Owner.{named_keys}
use Rattle.tl_protocol.proofs.Inv.{ActiveOk, Base, Blank, NoLog, Removed, CloseOk, CommitLog, Nothing, Said, Core, Ghost, Inv, Kept, Link, ManagersOk, NodeOk, Owes, RecoveryOk, Shared, base, held_txn, is_commit, is_trying, nodes_of, own_stored, shared, tid_of, unless_lost, vanished_of}
use Rattle.tl_protocol.proofs.Later.{grows_refl}
use Rattle.tl_protocol.proofs.Frames.{active_after, nodes_after_phase, put_same}
use Rattle.tl_protocol.proofs.Steps.{core_log, core_turn, later_same, recovery_at, with_phase}
use Rattle.tl_protocol.proofs.Cells.{core_strip, grows_store}
use Rattle.tl_protocol.proofs.Finishing.{finish, grows_finish}
use Rattle.tl_protocol.proofs.Borne.{borne, unborne}
use Rattle.tl_protocol.proofs.Duties.{active_none, active_part, active_tid, duty_gone, key_cases, owes_end, owes_skip, owes_take, owes_turn, part_at, put_cases, turn_link, work_inv}
use Rattle.tl_write.proofs.Keys.{key_eq}

-- ---- what a recoverer does by the log cell

-- the transaction that a recoverer took on, by its log
record Judged (s : Shared) (i : ℕ) (seat : Seat) (p : Phase) (o : Orphan) : Type 0 where
  new : Phase
  ok : NodeOk s i new seat
  is_active : (x : Option Active) → ActiveOk i p x → ActiveOk i new x
  takes : (b : Base) (xs : ℕ → Phase) (duties : Duties) → Owes xs duties (Some o.node) → xs o.node ≡ new → RecoveryOk b xs (by_log duties o (s.logs o.tid))

-- the log cell is that of the orphan
by_its_log : (s : Shared) (t : ℕ) (o : Orphan) (l : Option LogCell) (b : Base) (xs : ℕ → Phase) (duties : Duties) → t ≡ o.tid → s.logs t ≡ l
    → RecoveryOk b xs (by_log duties o l) → RecoveryOk b xs (by_log duties o (s.logs o.tid))
by_its_log s t o l b xs duties e f h = subst (λ x. RecoveryOk b xs (by_log duties o x)) (sym f ∙ ap s.logs e) h

-- a lost transaction may be undone
lost_undoes : (v : Bool) (i first : ℕ) (t : Txn) (tried : Bool) → v ≡ true → may_undo (held_txn i first t (unless_lost v phase.Live) tried None) ≡ true
lost_undoes v i first t tried e = ap (λ x. may_undo (held_txn i first t (unless_lost x phase.Live) tried None)) e

lost_gives_up : (v : Bool) (i first : ℕ) (t : Txn) (tried : Bool) → v ≡ true → may_undo (held_txn i first t (unless_lost v phase.Trying) tried None) ≡ true
lost_gives_up v i first t tried e = ap (λ x. may_undo (held_txn i first t (unless_lost x phase.Trying) tried None)) e

closing : (b : Base) (t : Txn) (o : Orphan) (r : Option ℕ) (p : Phase) → p ≡ Closing t (Undo r) None → t.tid ≡ o.tid → CloseOk b p o false None
closing b t o r p e f = record { is_so = inr (t, Undo r, e, f, refl); hand = tt; fresh = tt }

-- removed or not there
by_blank : (i : ℕ) (t : Txn) (o : Orphan) (l : Option LogCell) (b : Base) (xs : ℕ → Phase) (duties : Duties) → Blank i t l
    → Owes xs duties (Some o.node) → CloseOk b (xs o.node) o false None → RecoveryOk b xs (by_log duties o l)
by_blank _ _ o _ b xs duties (NoLog i t) d c = (d, c)
by_blank _ _ o _ b xs duties (Removed i t stamp) d c = (d, c)

-- finished already
by_ended : (o : Orphan) (told : Answer) (l : Option LogCell) (b : Base) (xs : ℕ → Phase) (duties : Duties) → is_trying l ≡ false
    → Owes xs duties (Some o.node) → xs o.node ≡ Ending o.tid told → RecoveryOk b xs (by_log duties o l)
by_ended o told None b xs duties n d e = (d, record { is_so = inl (told, e); hand = tt; fresh = tt })
by_ended o told (Some log) b xs duties n d e = by log.entry.flag refl
  where
    by : (f : Flag) → log.entry.flag ≡ f → RecoveryOk b xs (by_flag duties o log log.entry.flag)
    by flag.Trying h = absurd (false≢true (sym n ∙ trying log.entry.flag h))
      where
        trying : (f : Flag) → f ≡ flag.Trying → is_trying (Some (record { stamp = log.stamp; entry = record log.entry { flag = f } })) ≡ true
        trying f h = rw h refl
    by flag.Decided h = subst (λ f. RecoveryOk b xs (by_flag duties o log f)) (sym h) (d, record { is_so = inl (told, e); hand = tt; fresh = tt })
    by flag.Undone h = subst (λ f. RecoveryOk b xs (by_flag duties o log f)) (sym h) (d, record { is_so = inl (told, e); hand = tt; fresh = tt })

-- without own writes no version stands anywhere
own_nowhere : (t : Txn) (k : Key) → is_empty t.own ≡ true → own_stored t k ≡ true → ⊥
own_nowhere t k e h = by t.own e h
  where
    by : (ws : List Write) → is_empty ws ≡ true → is_written k ws ≡ true → ⊥
    by [] e h = false≢true h
    by (x ∷ ws) e h = cc

judge_commit : (s : Shared) (i : ℕ) (seat : Seat) (t : Txn) (c : Option CommitsCell) (o : Orphan) → seat.vanished ≡ true → t.tid ≡ o.tid
    → NodeOk s i (Closing t ToCommit c) seat → (l : Option LogCell) → s.logs t.tid ≡ l → CommitLog i t l → Judged s i seat (Closing t ToCommit c) o
judge_commit s _ seat _ c o g e n _ f (Nothing i t none) = record {
  new = Closing t (Undo None) None;
  ok = record {
    p = unless_lost seat.vanished phase.Trying;
    tried = true;
    txn = record {
      m = n.txn.m;
      known = n.txn.known;
      first = n.txn.first;
      first_is = n.txn.first_is;
      begun = n.txn.begun;
      unfinished = n.txn.unfinished;
      is_held = n.txn.is_held;
      stands = λ k h. absurd (false≢true h);
      only = λ k f h m. absurd (own_nowhere t k none (n.txn.only k f h m));
    };
    runs = λ h. absurd (both_ways seat.vanished h g);
    gives_up = lost_gives_up seat.vanished i n.txn.first t true g;
    log = subst (Blank i t) (sym f) (NoLog i t);
    hand = tt;
  };
  is_active = λ x h. h;
  takes = λ b xs duties d h. by_its_log s t.tid o None b xs duties e f (d, closing b t o None (xs o.node) h e);
}
judge_commit s _ seat _ c o g e n _ f (Said i t stamp) = record {
  new = Closing t ToCommit None;
  ok = record { txn = n.txn; log = n.log; hand = tt };
  is_active = λ x h. h;
  takes = λ b xs duties d h. by_its_log s t.tid o (Some (log_cell stamp i flag.Decided t)) b xs duties e f
      (d, record { is_so = inr (t, ToCommit, h, e, refl); hand = tt; fresh = tt });
}

judge : (s : Shared) (i : ℕ) (seat : Seat) (p : Phase) (o : Orphan) → o.node ≡ i → seat.vanished ≡ true → tid_of p ≡ Some o.tid → NodeOk s i p seat → Judged s i seat p o
judge s i seat Idle o q g e n = cc
judge s i seat (Noted seen) o q g e n = cc
judge s i seat (Drawn seen low) o q g e n = cc
judge s i seat (Live t facts) o q g e n =
    let f = same_Some t.tid o.tid e in
    record {
      new = Closing t (Undo None) None;
      ok = record {
        p = unless_lost seat.vanished phase.Live;
        tried = false;
        txn = n.txn;
        runs = λ h. absurd (both_ways seat.vanished h g);
        gives_up = lost_undoes seat.vanished i n.txn.first t false g;
        log = subst (Blank i t) (sym n.log) (NoLog i t);
        hand = tt;
      };
      is_active = λ x h. h;
      takes = λ b xs duties d h. by_its_log s t.tid o None b xs duties f n.log (d, closing b t o None (xs o.node) h f);
    }
judge s i seat (Trying a l) o q g e n =
    let f = same_Some a.txn.tid o.tid e in
    record {
      new = Undoing a None None;
      ok = record {
        p = unless_lost seat.vanished phase.Trying;
        txn = n.txn;
        runs = λ h. absurd (both_ways seat.vanished h g);
        gives_up = lost_gives_up seat.vanished i n.txn.first a.txn true g;
        log = n.log;
        hand = tt;
      };
      is_active = λ x h. h;
      takes = λ b xs duties d h. by_its_log s a.txn.tid o (Some (log_cell a.log i flag.Trying a.txn)) b xs duties f n.log (
        d,
        record {
          a = a;
          rival = None;
          is_so = h;
          tid = f;
          log_is = ap (λ y. log_cell a.log y flag.Trying a.txn) (sym q);
          off = λ k z. absurd (false≢true z);
          hand = tt;
        },
      );
    }
judge s i seat (Undoing a rival l) o q g e n =
    let f = same_Some a.txn.tid o.tid e in
    record {
      new = Undoing a rival None;
      ok = record { p = n.p; txn = n.txn; runs = n.runs; gives_up = n.gives_up; log = n.log; hand = tt };
      is_active = λ x h. h;
      takes = λ b xs duties d h. by_its_log s a.txn.tid o (Some (log_cell a.log i flag.Trying a.txn)) b xs duties f n.log (
        d,
        record {
          a = a;
          rival = rival;
          is_so = h;
          tid = f;
          log_is = ap (λ y. log_cell a.log y flag.Trying a.txn) (sym q);
          off = λ k z. absurd (false≢true z);
          hand = tt;
        },
      );
    }
judge s i seat (Closing t ToCommit c) o q g e n = judge_commit s i seat t c o g (same_Some t.tid o.tid e) n (s.logs t.tid) refl n.log
judge s i seat (Closing t (Undo rival) c) o q g e n =
    let f = same_Some t.tid o.tid e in
    record {
      new = Closing t (Undo rival) None;
      ok = record { p = n.p; tried = n.tried; txn = n.txn; runs = n.runs; gives_up = n.gives_up; log = n.log; hand = tt };
      is_active = λ x h. h;
      takes = λ b xs duties d h. by_its_log s t.tid o (s.logs t.tid) b xs duties f refl
          (by_blank i t o (s.logs t.tid) b xs duties n.log d (closing b t o rival (xs o.node) h f));
    }
judge s i seat (Ending tid told) o q g e n =
    let f = same_Some tid o.tid e in
    record {
      new = Ending tid told;
      ok = n;
      is_active = λ x h. h;
      takes = λ b xs duties d h. by_ended o told (s.logs o.tid) b xs duties (subst (λ y. is_trying (s.logs y) ≡ false) f n.log) d (h ∙ ap (λ y. Ending y told) f);
    }

-- whatever the log cell says, the duties are the same
same_flag : (duties : Duties) (o : Orphan) (log : LogCell) (f : Flag) (i : ℕ) → owed (by_flag duties o log f) i ≡ duties.all i
same_flag duties o log flag.Trying i = refl
same_flag duties o log flag.Decided i = refl
same_flag duties o log flag.Undone i = refl

same_duties : (duties : Duties) (o : Orphan) (l : Option LogCell) (i : ℕ) → owed (by_log duties o l) i ≡ duties.all i
same_duties duties o None i = refl
same_duties duties o (Some log) i = same_flag duties o log log.entry.flag i

-- what the log cell names is seen to
seen_named : (k : Key) (seen : Key → Bool) (keys : List Key) → list_all seen keys ≡ true → is_named k keys ≡ true → seen k ≡ true
seen_named k seen [] e h = absurd (false≢true h)
seen_named k seen (x ∷ xs) e h = by (seen x) (list_all seen xs) (same_key x k) (is_named k xs) e h (λ z. ap seen (sym (key_eq x k z))) (seen_named k seen xs)
  where
    by : (b c d f : Bool) → b && c ≡ true → d || f ≡ true → (d ≡ true → seen k ≡ b) → (c ≡ true → f ≡ true → seen k ≡ true) → seen k ≡ true
    by b c true f e h q r = q refl ∙ first b c e
      where
        first : (b c : Bool) → b && c ≡ true → b ≡ true
        first b c e = grind arith
    by b c false f e h q r = r (rest b c e) h
      where
        rest : (b c : Bool) → b && c ≡ true → c ≡ true
        rest b c e = grind arith

-- so is each record of the own writes
seen_own : (k : Key) (seen : Key → Bool) (log : LogCell) (stamp i : ℕ) (t : Txn) → log ≡ log_cell stamp i flag.Trying t → all_seen log seen ≡ true
    → is_written k t.own ≡ true → seen k ≡ true
seen_own k seen log stamp i t e h w =
    seen_named k seen (map (λ (o : Write). o.key) t.own) (subst (λ (y : LogCell). all_seen y seen ≡ true) e h) (named_keys k t.own ∙ w)

off_put : (l k : Key) (seen stored : Key → Bool) → (seen k ≡ true → stored k ≡ false) → put_at l true seen k ≡ true → put_at l false stored k ≡ false
off_put l k seen stored h = by (same_key l k)
  where
    by : (b : Bool) → (if b then true else seen k) ≡ true → (if b then false else stored k) ≡ false
    by true z = refl
    by false z = h z

-- a transaction that is closing isn't finished
closing_unfinished : (s : Shared) (i : ℕ) (t : Txn) (d : Decision) (c : Option CommitsCell) (seat : Seat) → NodeOk s i (Closing t d c) seat → is_done t.tid s.finished ≡ false
closing_unfinished s i t ToCommit c seat o = o.txn.unfinished
closing_unfinished s i t (Undo rival) c seat o = o.txn.unfinished

none_active : (d i : ℕ) (x : Active) (active : ℕ → Option Active) → put d None active i ≡ Some x → active i ≡ Some x
none_active d i x active = put_cases (λ y. y ≡ Some x → active i ≡ Some x) d i None active (λ q e. absurd cc) (λ q e. e)

-- the managers, once one transaction less is active
managers_ended : (home : ℕ → ℕ) (top : ℕ) (floors : ℕ → ℕ → TidSet) (copies : ℕ → TidSet) (active : ℕ → Option Active) (cuts : Key → TidSet) (ds : List Finished) (d : ℕ)
    → ManagersOk home top floors copies active cuts ds → ManagersOk home top floors copies (put d None active) cuts ds
managers_ended home top floors copies active cuts ds d m = record {
  at_home = m.at_home;
  copy_known = m.copy_known;
  snaps = λ i x e. m.snaps i x (none_active d i x active e);
  floor_known = m.floor_known;
  floor_copy = m.floor_copy;
  floor_snap = λ j i x e. m.floor_snap j i x (none_active d i x active e);
  cut_copy = m.cut_copy;
  cut_snap = λ k i x e. m.cut_snap k i x (none_active d i x active e);
}

-- a transaction is ended at its manager
core_ended : (b : Base) (a : Ledger) (g : Ghost) (c : Core b a g) (i : ℕ) → NodeOk (shared b g) i Idle (a.seats i)
    → Core (record b { active = put i None b.active }) a (with_phase g i Idle)
core_ended b a g c i h = record {
  cells = c.cells;
  nodes = nodes_after_phase i (shared b g) (shared b g) Idle g.phases a.seats h (λ j ne. later_same (shared b g) j) c.nodes;
  active = active_after i Idle None g.phases b.active refl c.active;
  done = c.done;
  managers = managers_ended b.home b.top b.floors b.copies b.active g.cuts g.finished i c.managers;
  numbers = c.numbers;
  commits = c.commits;
  distinct = c.distinct;
  opens = c.opens;
  taken = c.taken;
  begun = c.begun;
  logs = c.logs;
}

-- what is told of a finish
finish_told : (d : Decision) (committed : Bool) (tid : ℕ) → is_commit d ≡ committed → finished_as d tid ≡ finished_so committed tid
finish_told ToCommit committed tid e = ap (λ c. finished_so c tid) e
finish_told (Undo rival) committed tid e = ap (λ c. finished_so c tid) e

module _ (w : World) (a : Ledger) (g : Ghost) (v : Inv w a g) where
  pub find_orphan_kept : (n : ℕ) (duties : Duties) (x : Active) (d : ℕ) (at : Recovers w n (Next duties)) (l : duties.left d ≡ true)
      (e : w.active d ≡ Some x) → Kept w a g (FindOrphan n duties x d at l e)
  find_orphan_kept n duties x d at l e = record {
    ledger = a;
    ghost = g;
    inv = work_inv w a g v n (Next duties) (Reading (without d duties) (record { node = d; tid = x.tid })) at (λ i. refl)
        (owes_take g.phases duties d l (recovery_at w a g v n (Next duties) at), active_tid d (g.phases d) (w.active d) x (v.core.active d) e);
    tells = λ s h proper. record { allowed = tt; shows = h };
    ended = λ s t. refl;
    catalog = refl;
  }

  pub find_none_kept : (n : ℕ) (duties : Duties) (d : ℕ) (at : Recovers w n (Next duties)) (l : duties.left d ≡ true)
      (e : w.active d ≡ None) → Kept w a g (FindNone n duties d at l e)
  find_none_kept n duties d at l e = record {
    ledger = a;
    ghost = g;
    inv = work_inv w a g v n (Next duties) (Next (without d duties)) at (λ i. refl)
        (owes_skip g.phases duties d (active_none d (g.phases d) (w.active d) (v.core.active d) e) (recovery_at w a g v n (Next duties) at));
    tells = λ s h proper. record { allowed = tt; shows = h };
    ended = λ s t. refl;
    catalog = refl;
  }

  pub read_log_kept : (n : ℕ) (duties : Duties) (o : Orphan) (at : Recovers w n (Reading duties o)) → Kept w a g (ReadLog n duties o at)
  read_log_kept n duties o at =
      let k = recovery_at w a g v n (Reading duties o) at in
      let d = o.node in
      let mine : duties.all d ≡ true = k.0.in_hand d refl in
      let j = judge (shared (base w) g) d (a.seats d) (g.phases d) o refl (duty_gone w a g v n d (Reading duties o) at mine) k.1 (v.core.nodes d) in
      record {
        ledger = a;
        ghost = with_phase g d j.new;
        inv = record {
          core = core_turn (base w) a g v.core d j.new j.ok (j.is_active (w.active d) (v.core.active d));
          link = turn_link w a g v (base w) n d j.new (Reading duties o) (by_log duties o (w.logs o.tid)) (vanished_of a) at mine
              (same_duties duties o (w.logs o.tid)) (grows_refl w.cells w.commits) (λ i. refl)
              (j.takes (base w) (put d j.new g.phases) duties (owes_turn g.phases duties d j.new k.0) (put_same d j.new g.phases));
        };
        tells = λ s h proper. record { allowed = tt; shows = h };
        ended = λ s t. refl;
        catalog = refl;
      }

  pub load_lost_kept : (n : ℕ) (k : Key) (duties : Duties) (o : Orphan) (log : LogCell) (seen : Key → Bool)
      (at : Recovers w n (Stripping duties o log seen None)) (named : is_named k log.entry.writes ≡ true) (e : seen k ≡ false)
      → Kept w a g (LoadLost n k duties o log seen at named e)
  load_lost_kept n k duties o log seen at named e = record {
    ledger = a;
    ghost = g;
    inv = by (is_borne o.tid (w.cells k).versions) refl;
    tells = λ s h proper. record { allowed = tt; shows = h };
    ended = λ s t. refl;
    catalog = refl;
  }
    where
      know : RecoveryOk (base w) g.phases (Stripping duties o log seen None)
      know = recovery_at w a g v n (Stripping duties o log seen None) at

      off : is_borne o.tid (w.cells k).versions ≡ false → (j : Key) → put_at k true seen j ≡ true → know.1.a.stored j ≡ false
      off b j =
          let x = know.1 in
          let q : NodeOk (shared (base w) g) o.node (Undoing x.a x.rival None) (a.seats o.node) = part_at w a g v o.node (Undoing x.a x.rival None) x.is_so in
          key_cases (λ y. y ≡ true → x.a.stored j ≡ false) k j true seen
          (λ z h. subst (λ y. x.a.stored y ≡ false) (key_eq k j z)
          (unborne (base w) a g v.core o.node x.a.txn x.a.stored (a.seats o.node).held q.p true x.rival q.txn k
          (subst (λ y. is_borne y (w.cells k).versions ≡ false) (sym x.tid) b)))
          (λ z h. x.off j h)

      by : (b : Bool) → is_borne o.tid (w.cells k).versions ≡ b
          → Inv (with_recovery w n (if b then Stripping duties o log seen (Some (loaded w k)) else Stripping duties o log (put_at k true seen) None)) a g
      by true b =
          let x = know.1 in
          work_inv w a g v n (Stripping duties o log seen None) (Stripping duties o log seen (Some (loaded w k))) at (λ i. refl) (
            know.0,
            record {
              a = x.a;
              rival = x.rival;
              is_so = x.is_so;
              tid = x.tid;
              log_is = x.log_is;
              off = x.off;
              hand = record { load = record { before = omega arith; same = λ z. refl }; bears_it = b };
            },
          )
      by false b =
          let x = know.1 in
          work_inv w a g v n (Stripping duties o log seen None) (Stripping duties o log (put_at k true seen) None) at (λ i. refl)
          (know.0, record { a = x.a; rival = x.rival; is_so = x.is_so; tid = x.tid; log_is = x.log_is; off = off b; hand = tt })

  pub moved_lost_kept : (n : ℕ) (duties : Duties) (o : Orphan) (log : LogCell) (seen : Key → Bool) (l : Loaded)
      (at : Recovers w n (Stripping duties o log seen (Some l))) (moved : ((w.cells l.key).stamp == l.stamp) ≡ false)
      → Kept w a g (MovedLost n duties o log seen l at moved)
  moved_lost_kept n duties o log seen l at moved =
      let k = recovery_at w a g v n (Stripping duties o log seen (Some l)) at in
      record {
        ledger = a;
        ghost = g;
        inv = work_inv w a g v n (Stripping duties o log seen (Some l)) (Stripping duties o log seen None) at (λ i. refl)
            (k.0, record { a = k.1.a; rival = k.1.rival; is_so = k.1.is_so; tid = k.1.tid; log_is = k.1.log_is; off = k.1.off; hand = tt });
        tells = λ s h proper. record { allowed = tt; shows = h };
        ended = λ s t. refl;
        catalog = refl;
      }

  pub store_lost_kept : (n stamp : ℕ) (duties : Duties) (o : Orphan) (log : LogCell) (seen : Key → Bool) (l : Loaded)
      (at : Recovers w n (Stripping duties o log seen (Some l))) (same : (w.cells l.key).stamp ≡ l.stamp) (above : l.stamp < stamp)
      → Kept w a g (StoreLost n stamp duties o log seen l at same above)
  store_lost_kept n stamp duties o log seen l at same above =
      let know = recovery_at w a g v n (Stripping duties o log seen (Some l)) at in
      let d = o.node in
      let x = know.1 in
      let q : NodeOk (shared (base w) g) d (Undoing x.a x.rival None) (a.seats d) = part_at w a g v d (Undoing x.a x.rival None) x.is_so in
      let bears : is_borne x.a.txn.tid (w.cells l.key).versions ≡ true =
      ap (is_borne x.a.txn.tid) (x.hand.load.same same) ∙ subst (λ y. is_borne y l.versions ≡ true) (sym x.tid) x.hand.bears_it in
      let here : x.a.stored l.key ≡ true = borne (base w) a g v.core d x.a.txn x.a.stored (a.seats d).held q.p true x.rival q.txn l.key bears in
      let p : Phase = Undoing (record x.a { stored = put_at l.key false x.a.stored }) x.rival None in
      let ghost : Ghost = record g { fronts = put_at l.key None g.fronts; phases = put d p g.phases } in
      let b : Base = record (base w) { cells = put_at l.key (record { stamp = stamp; versions = strip o.tid l.versions }) w.cells } in
      record {
        ledger = a;
        ghost = ghost;
        inv = record {
          core = subst (λ y. Core (record (base w) { cells = put_at l.key (record { stamp = stamp; versions = strip y l.versions }) w.cells }) a ghost) x.tid
              (core_strip (base w) a g v.core d stamp x.a x.rival None l x.is_so here x.hand.load same above);
          link = turn_link w a g v b n d p (Stripping duties o log seen (Some l)) (Stripping duties o log (put_at l.key true seen) None) (vanished_of a) at
              (know.0.in_hand d refl) (λ i. refl) (grows_store (base w) l stamp (strip o.tid l.versions) same above) (λ i. refl) (
                owes_turn g.phases duties d p know.0,
                record {
                  a = record x.a { stored = put_at l.key false x.a.stored };
                  rival = x.rival;
                  is_so = put_same d p g.phases;
                  tid = x.tid;
                  log_is = x.log_is;
                  off = λ k. off_put l.key k seen x.a.stored (x.off k);
                  hand = tt;
                },
              );
        };
        tells = λ s h proper. record { allowed = tt; shows = h };
        ended = λ s t. refl;
        catalog = refl;
      }

  pub mark_lost_kept : (n stamp : ℕ) (duties : Duties) (o : Orphan) (log : LogCell) (seen : Key → Bool)
      (at : Recovers w n (Stripping duties o log seen None)) (all : all_seen log seen ≡ true)
      (same : log_stamp (w.logs o.tid) ≡ log.stamp) (above : log.stamp < stamp)
      → Kept w a g (MarkLost n stamp duties o log seen at all same above)
  mark_lost_kept n stamp duties o log seen at all same above =
      let know = recovery_at w a g v n (Stripping duties o log seen None) at in
      let d = o.node in
      let x = know.1 in
      let q : NodeOk (shared (base w) g) d (Undoing x.a x.rival None) (a.seats d) = part_at w a g v d (Undoing x.a x.rival None) x.is_so in
      let p : Phase = Closing x.a.txn (Undo x.rival) None in
      let cell : Option LogCell = Some (marked stamp flag.Undone log) in
      let b : Base = record (base w) { logs = put o.tid cell w.logs } in
      let begun : w.numbers o.tid ≡ Begun d = subst (λ y. w.numbers y ≡ Begun d) x.tid q.txn.begun in
      record {
        ledger = a;
        ghost = with_phase g d p;
        inv = record {
          core = core_log (base w) a g v.core d p o.tid cell begun (record {
            p = q.p;
            tried = true;
            txn = record {
              m = q.txn.m;
              known = q.txn.known;
              first = q.txn.first;
              first_is = q.txn.first_is;
              begun = q.txn.begun;
              unfinished = q.txn.unfinished;
              is_held = q.txn.is_held;
              stands = λ k h. absurd (false≢true h);
              only = λ k f h m.
                  let st = q.txn.only k f h m in
                  absurd (both_ways (x.a.stored k) (x.off k (seen_own k seen log x.a.log d x.a.txn x.log_is all (written_is k x.a.txn.own ∙ ap is_some (q.txn.stands k st).1))) st);
            };
            runs = q.runs;
            gives_up = q.gives_up;
            log = subst (λ y. Blank d x.a.txn (put o.tid cell w.logs y)) (sym x.tid)
                (subst (Blank d x.a.txn) (sym (put_same o.tid cell w.logs))
                (subst (λ y. Blank d x.a.txn (Some (marked stamp flag.Undone y))) (sym x.log_is) (Removed d x.a.txn stamp)));
            hand = tt;
          }) (active_part w a g v d (Undoing x.a x.rival None) x.is_so);
          link = turn_link w a g v b n d p (Stripping duties o log seen None) (Finishing duties o false None) (vanished_of a) at
              (know.0.in_hand d refl) (λ i. refl) (grows_refl w.cells w.commits) (λ i. refl)
              (owes_turn g.phases duties d p know.0, closing b x.a.txn o x.rival (put d p g.phases d) (put_same d p g.phases) x.tid);
        };
        tells = λ s h proper. record { allowed = tt; shows = h };
        ended = λ s t. refl;
        catalog = refl;
      }

  pub load_finish_kept : (n : ℕ) (duties : Duties) (o : Orphan) (committed : Bool) (at : Recovers w n (Finishing duties o committed None))
      → Kept w a g (LoadFinish n duties o committed at)
  load_finish_kept n duties o committed at = record {
    ledger = a;
    ghost = g;
    inv = by (has w.commits.finished o.tid) refl;
    tells = λ s h proper. record { allowed = tt; shows = h };
    ended = λ s t. refl;
    catalog = refl;
  }
    where
      know : RecoveryOk (base w) g.phases (Finishing duties o committed None)
      know = recovery_at w a g v n (Finishing duties o committed None) at

      over : has w.commits.finished o.tid ≡ true → (told : Answer) × (g.phases o.node ≡ Ending o.tid told)
      over h = ⊎_elim (λ y. y)
          (λ y. absurd (both_ways (is_done y.0.tid g.finished)
          (closing_unfinished (shared (base w) g) o.node y.0 y.1 None (a.seats o.node) (part_at w a g v o.node (Closing y.0 y.1 None) y.2))
          (subst (λ q. is_done q g.finished ≡ true) (sym y.3) (sym (has_done w.commits.finished g.finished v.core.done o.tid) ∙ h)))) know.1.is_so

      by : (b : Bool) → has w.commits.finished o.tid ≡ b
          → Inv (with_recovery w n (if b then Closed duties o else Finishing duties o committed (Some w.commits))) a g
      by true h = work_inv w a g v n (Finishing duties o committed None) (Closed duties o) at (λ i. refl) (know.0, over h)
      by false h = work_inv w a g v n (Finishing duties o committed None) (Finishing duties o committed (Some w.commits)) at (λ i. refl)
          (know.0, record { is_so = know.1.is_so; hand = record { before = omega arith; same = λ z. refl }; fresh = h })

  pub moved_finish_kept : (n : ℕ) (duties : Duties) (o : Orphan) (committed : Bool) (c : CommitsCell)
      (at : Recovers w n (Finishing duties o committed (Some c))) (moved : (w.commits.stamp == c.stamp) ≡ false)
      → Kept w a g (MovedFinish n duties o committed c at moved)
  moved_finish_kept n duties o committed c at moved =
      let k = recovery_at w a g v n (Finishing duties o committed (Some c)) at in
      record {
        ledger = a;
        ghost = g;
        inv = work_inv w a g v n (Finishing duties o committed (Some c)) (Finishing duties o committed None) at (λ i. refl)
            (k.0, record { is_so = k.1.is_so; hand = tt; fresh = tt });
        tells = λ s h proper. record { allowed = tt; shows = h };
        ended = λ s t. refl;
        catalog = refl;
      }

  pub end_lost_kept : (n : ℕ) (duties : Duties) (o : Orphan) (at : Recovers w n (Closed duties o)) → Kept w a g (EndLost n duties o at)
  end_lost_kept n duties o at =
      let k = recovery_at w a g v n (Closed duties o) at in
      let d = o.node in
      let mine : duties.all d ≡ true = k.0.in_hand d refl in
      let gone = duty_gone w a g v n d (Closed duties o) at mine in
      let q : NodeOk (shared (base w) g) d (Ending o.tid k.1.0) (a.seats d) = part_at w a g v d (Ending o.tid k.1.0) k.1.1 in
      let b : Base = record (base w) { active = put d None w.active } in
      record {
        ledger = a;
        ghost = with_phase g d Idle;
        inv = record {
          core = core_ended (base w) a g v.core d (record { free = q.free; answered = λ h. absurd (both_ways (a.seats d).vanished h gone) });
          link = turn_link w a g v b n d Idle (Closed duties o) (Next duties) (vanished_of a) at mine (λ i. refl) (grows_refl w.cells w.commits) (λ i. refl)
              (owes_end g.phases duties d Idle refl k.0);
        };
        tells = λ s h proper. record { allowed = tt; shows = h };
        ended = λ s t. refl;
        catalog = refl;
      }

  -- the transaction of a duty is finished as it was closing
  finish_closing : (n stamp : ℕ) (duties : Duties) (o : Orphan) (committed : Bool) (c : CommitsCell)
      (at : Recovers w n (Finishing duties o committed (Some c))) (same : w.commits.stamp ≡ c.stamp) (above : c.stamp < stamp)
      → (t : Txn) (dec : Decision) → g.phases o.node ≡ Closing t dec None → t.tid ≡ o.tid → is_commit dec ≡ committed
      → Kept w a g (StoreFinish n stamp duties o committed c at same above)
  finish_closing n stamp duties o committed c at same above t dec so e is_so =
      let know = recovery_at w a g v n (Finishing duties o committed (Some c)) at in
      let d = o.node in
      let mine : duties.all d ≡ true = know.0.in_hand d refl in
      let f = finish (base w) a g v.core d stamp t dec None c so know.1.hand same above in
      let told : Answer = end_answer t.stage dec in
      let p : Phase = Ending t.tid told in
      let b : Base = record (base w) { commits = record { stamp = stamp; finished = inserted c.finished o.tid } } in
      let entry : finished_as dec t.tid ≡ finished_so committed o.tid = finish_told dec committed t.tid is_so ∙ ap (finished_so committed) e in
      let link : Link b (nodes_of (with_recovery w n (Closed duties o))) (vanished_of f.ledger) (put d p g.phases) g.menders =
      turn_link w a g v b n d p (Finishing duties o committed (Some c)) (Closed duties o) (vanished_of f.ledger) at mine (λ i. refl)
      (grows_finish (base w) c stamp (inserted c.finished o.tid) same above) f.vanished
      (owes_turn g.phases duties d p know.0, (told, put_same d p g.phases ∙ ap (λ y. Ending y told) e)) in
      record {
        ledger = f.ledger;
        ghost = f.ghost;
        inv = record {
          core = subst (λ y. Core (record (base w) { commits = record { stamp = stamp; finished = inserted c.finished y } }) f.ledger f.ghost) e f.core;
          link = subst (λ y. Link b (nodes_of (with_recovery w n (Closed duties o))) (vanished_of f.ledger) y f.ghost.menders) (sym f.phases)
              (subst (λ y. Link b (nodes_of (with_recovery w n (Closed duties o))) (vanished_of f.ledger) (put d p g.phases) y) (sym f.menders) link);
        };
        tells = λ s h proper. subst (λ y. Tells w.catalog s (y ∷ []) f.ledger) entry (f.tells w.catalog s h (v.link.numbered d (sym (v.link.seats d) ∙ duty_gone w a g v n d (Finishing duties o committed (Some c)) at mine)));
        ended = λ s q. subst (λ y. is_done q f.ghost.finished ≡ (list_any (finishes q) (y ∷ []) || is_done q g.finished)) entry (f.ended q);
        catalog = refl;
      }

  pub store_finish_kept : (n stamp : ℕ) (duties : Duties) (o : Orphan) (committed : Bool) (c : CommitsCell)
      (at : Recovers w n (Finishing duties o committed (Some c))) (same : w.commits.stamp ≡ c.stamp) (above : c.stamp < stamp)
      → Kept w a g (StoreFinish n stamp duties o committed c at same above)
  store_finish_kept n stamp duties o committed c at same above =
      let know = recovery_at w a g v n (Finishing duties o committed (Some c)) at in
      let d = o.node in
      let all : w.commits.finished ≡ c.finished = know.1.hand.same same in
      ⊎_elim
      (λ y. absurd (both_ways (has w.commits.finished o.tid) (ap (λ x. has x o.tid) all ∙ know.1.fresh)
      (has_done w.commits.finished g.finished v.core.done o.tid
      ∙ (let q : NodeOk (shared (base w) g) d (Ending o.tid y.0) (a.seats d) = part_at w a g v d (Ending o.tid y.0) y.1 in q.finished))))
      (λ y. finish_closing n stamp duties o committed c at same above y.0 y.1 y.2 y.3 y.4)
      know.1.is_so
