-- A node that stores the writes of its transaction, or removes them: each request is a move of the protocol.
use Rattle.std.proofs.Common.{◌≡◌, inl, inr, ℕ, ◌==◌, ◌<◌, true, false, List, [], ◌∷◌, ◌++◌, length, Option, Some, None, refl, sym, ap, ◌∙◌, subst, append-nil}
use Rattle.std.specs.Prelude.{slice_get}
use Rattle.std.specs.List.{list_all}
use Rattle.tl_lemmas.proofs.Lists.{behind_first}
use Rattle.tl_base.specs.declared.place.Settings.{Settings}
use Rattle.tl_schema.specs.declared.catalog.Setup.{Setup}
use Rattle.tl_collect.specs.Floors.{least_of}
use Rattle.tl_logrec.specs.declared.entry.Flag.TheVariants as flag
use Rattle.tl_versions.specs.Versions.{prune, stranger, strip}
use Rattle.tl_write.specs.declared.write.Write.{Write}
use Rattle.tl_write.specs.Own.{is_rising, is_written}
use Rattle.tl_isolation.specs.declared.bound.Bound.{Bound}
use Rattle.tl_isolation.specs.declared.entry.Entry.{Entry}
use Rattle.tl_isolation.specs.declared.state.SiState.{SiState}
use Rattle.tl_protocol.specs.Store.{log_stamp, put, put_at}
use Rattle.tl_protocol.specs.World.{Txn, Fact, Attempt, Loaded, Commit, Undo, Phase, Trying, Undoing, Closing, NoDuty, World, At}
use Rattle.tl_protocol.specs.Move.{LoadOwn, Clash, StoreOwn, MovedOwn, Decide, LoadUndo, StoreUndo, MovedUndo, MarkUndone, Move, all_stored}
use Rattle.tl_protocol.specs.Next.{loaded, log_cell, next, own_version}
use Rattle.tl_protocol.specs.Told.{told}
use Rattle.tl_protocol.specs.Run.{Layout}
use Rattle.tl_protocol.proofs.Frames.{put_same}
use Rattle.tl_protocol.proofs.Reached.{Reached, reached}
use Rattle.tl_journal.specs.Ask.{Heard, Record, Stored, Moved, Strange}
use Rattle.tl_journal.specs.Reads.{Reads}
use Rattle.tl_journal.specs.Node.{Storing, Removing, Doing, Stores, Removes, Closing as IsClosing, Node}
use Rattle.tl_journal.specs.Asks.{asks_removing, asks_storing}
use Rattle.tl_journal.specs.Takes.{finds, stopped, takes_removing, takes_storing, with_doing}
use Rattle.tl_journal.specs.Says.{says_rival, says_storing}
use Rattle.tl_journal.specs.Served.{Parts, Serves, parts_of}
use Rattle.tl_journal.specs.Served as served
use Rattle.tl_journal.proofs.Meets.{Before, Goes, IsPartOf, OwnOk, PhaseIs, PresentIs, RecoveryIs, StatementIs, attempt_left, attempt_of}
use Rattle.tl_journal.proofs.Goings.{Steps, going, is_vanishing, mover, steps_as, steps_at, stops, turned}
use Rattle.tl_journal.proofs.OwnWrites.{all_among, first_part, has_one, less_part, none_among, not_before, one_more, one_removed, one_stored, rising_part}
use Rattle.tl_journal.proofs.Lows.{least_mark}

-- of a conditional store's replies each leads to what holds of it
pub by_store : (P : Heard → Parts → Type 0) (found stamp : ℕ) (heard : Heard) (done : ℕ → Parts) (p after : Parts)
    → ((fresh : ℕ) → found ≡ stamp → stamp < fresh → P (Stored fresh) (done fresh)) → ((found == stamp) ≡ false → P Moved p) → P Strange p
    → served.Stores found stamp heard done p after → P heard after
by_store P found stamp heard done p after f g h (inl (fresh, e, same, above, d)) =
    subst (λ x. P x after) (sym e) (subst (P (Stored fresh)) (sym d) (f fresh same above))
by_store P found stamp heard done p after f g h (inr (inl (e, moved, d))) = subst (λ x. P x after) (sym e) (subst (P Moved) (sym d) (g moved))
by_store P found stamp heard done p after f g h (inr (inr (e, d))) = subst (λ x. P x after) (sym e) (subst (P Strange) (sym d) h)

-- and a load's reply
by_load : (P : Heard → Parts → Type 0) (reply heard : Heard) (p after : Parts) → P reply p → (heard ≡ reply) × (after ≡ p) → P heard after
by_load P reply heard p after h (e, d) = subst (λ x. P x after) (sym e) (subst (P reply) (sym d) h)

-- nothing is asked of the present statement
free : (todo : List Bound) → PresentIs (λ statement. Unit {0}) todo
free [] = tt
free (statement ∷ later) = tt

module _ (R : Txn → List Fact → Reads → Type 0) (layout : Layout) (setup : Setup) (settings : Settings) (w : World) (state : SiState)
    (entries : List Entry) (n : ℕ) (node : Node) (b : Before R layout setup settings w state entries n node) where
  -- one move, by which of the nodes only n goes on with its own transaction
  turns : (m : Move w) (p : Phase) (doing : Doing) (after : Parts) → mover m ≡ n → is_vanishing m ≡ false → (next w m).phases ≡ put n p w.phases
      → (next w m).recoveries ≡ w.recoveries → (next w m).floors ≡ w.floors → parts_of (next w m) ≡ after → PhaseIs R doing p
      → RecoveryIs doing (w.recoveries n) → PresentIs (StatementIs doing) node.todo
      → Goes R layout setup settings w state entries (told state.commits w m) n (with_doing node doing) after
  turns m p doing after is_n on phases recoveries floors e h r f =
      going R layout setup settings w state entries n node b (with_doing node doing) after (told state.commits w m) m is_n on refl e
      (turned R settings node (with_doing node doing) w (next w m) n b.node_is refl refl (λ j. ap (λ x. x n j) floors)
      (subst (PhaseIs R doing) (sym (ap (λ x. x n) phases ∙ put_same n p w.phases)) h)
      (subst (RecoveryIs doing) (sym (ap (λ x. x n) recoveries)) r) f)

  -- a reply came that no place of a run gives
  halts : Goes R layout setup settings w state entries [] n (stopped node) (parts_of w)
  halts = stops R layout setup settings w state entries n node b (parts_of w) refl

  -- ---- its writes are stored

  -- the log cell says that it is committed
  decides : (t : Txn) (log : ℕ) (stored : List Write) → At w n (Trying (attempt_of (record { txn = t; log = log; stored = stored; left = [] })) None)
      → t.own ≡ stored ++ [] → w.recoveries n ≡ NoDuty → (fresh : ℕ) → log_stamp (w.logs t.tid) ≡ log → log < fresh
      → Goes R layout setup settings w state entries [] n (with_doing node (IsClosing t Commit None))
      (served.stored_log (parts_of w) (log_cell 0 node.number flag.Decided t).entry fresh)
  decides t log stored at whole no_duty fresh same above =
      let a : Attempt = attempt_of (record { txn = t; log = log; stored = stored; left = [] }) in
      let all : all_stored a ≡ true =
      subst (λ os. list_all (λ (o : Write). is_written o.key stored) os ≡ true) (sym (whole ∙ append-nil stored)) (all_among stored) in
      turns (Decide n fresh a at all same above) (Closing t Commit None) (IsClosing t Commit None)
      (served.stored_log (parts_of w) (log_cell 0 node.number flag.Decided t).entry fresh)
      refl refl refl refl refl (ap (λ i. served.stored_log (parts_of w) (log_cell 0 i flag.Decided t).entry fresh) (sym b.node_is.number)) refl no_duty (free node.todo)

  -- the cell of the next own record is loaded
  finds_own : (t : Txn) (log : ℕ) (stored : List Write) (o : Write) (left : List Write)
      → At w n (Trying (attempt_of (record { txn = t; log = log; stored = stored; left = o ∷ left })) None)
      → OwnOk t.own → t.own ≡ stored ++ o ∷ left → w.recoveries n ≡ NoDuty → (rival : Option ℕ) → stranger t.snapshot (w.cells o.key).versions ≡ rival
      → Goes R layout setup settings w state entries (says_rival (record { txn = t; log = log; stored = stored; left = o ∷ left }) rival) n
      (finds node (record { txn = t; log = log; stored = stored; left = o ∷ left }) o.key (w.cells o.key) rival) (parts_of w)
  finds_own t log stored o left at own whole no_duty None strange =
      let s : Storing = record { txn = t; log = log; stored = stored; left = o ∷ left } in
      turns (LoadOwn n o.key (attempt_of s) at (subst (λ os. is_written o.key os ≡ true) (sym whole) (has_one stored o left))
      (not_before stored o left (subst (λ os. is_rising os ≡ true) whole own.rising)) strange)
      (Trying (attempt_of s) (Some (loaded w o.key))) (Stores s (Some (loaded w o.key))) (parts_of w)
      refl refl refl refl refl refl (refl, own, whole, refl) no_duty (free node.todo)
  finds_own t log stored o left at own whole no_duty (Some rival) strange =
      let s : Storing = record { txn = t; log = log; stored = stored; left = o ∷ left } in
      let r : Removing = record { txn = t; log = log; rival = rival; left = stored } in
      turns (Clash n (length stored) rival o (attempt_of s) at
      (subst (λ os. slice_get os (length stored) ≡ Some o) (sym whole) (behind_first stored o left))
      (not_before stored o left (subst (λ os. is_rising os ≡ true) whole own.rising)) strange)
      (Undoing (attempt_of s) (Some rival) None) (Removes r None) (parts_of w)
      refl refl refl refl refl refl (refl, own, first_part t.own stored (o ∷ left) whole, tt) no_duty (free node.todo)

  -- its version is stored
  stores_own : (t : Txn) (log : ℕ) (stored : List Write) (o : Write) (left : List Write) (l : Loaded)
      → At w n (Trying (attempt_of (record { txn = t; log = log; stored = stored; left = o ∷ left })) (Some l))
      → OwnOk t.own → t.own ≡ stored ++ o ∷ left → o.key ≡ l.key → w.recoveries n ≡ NoDuty → (fresh : ℕ) → (w.cells l.key).stamp ≡ l.stamp → l.stamp < fresh
      → Goes R layout setup settings w state entries [] n (with_doing node (Stores (record { txn = t; log = log; stored = stored ++ o ∷ []; left = left }) None))
      (served.stored_record (parts_of w) l.key (prune (least_of node.floors) (own_version l.key t ∷ l.versions)) fresh)
  stores_own t log stored o left l at own whole key no_duty fresh same above =
      let s : Storing = record { txn = t; log = log; stored = stored; left = o ∷ left } in
      let z : Storing = record { txn = t; log = log; stored = stored ++ o ∷ []; left = left } in
      let c : Reached setup w state entries = reached b.opening b.reach in
      turns (StoreOwn n fresh (least_of node.floors) (attempt_of s) l at same above (least_mark R settings node w n c.ledger c.ghost c.inv b.node_is b.laid_out))
      (Trying (record { txn = t; log = log; stored = put_at l.key true (λ k. is_written k stored) }) None) (Stores z None)
      (served.stored_record (parts_of w) l.key (prune (least_of node.floors) (own_version l.key t ∷ l.versions)) fresh)
      refl refl refl refl refl refl (
        ap (λ f. Trying (record { txn = t; log = log; stored = f }) None)
            (ap (λ k. put_at k true (λ q. is_written q stored)) (sym key) ∙ one_stored o stored),
        own,
        whole ∙ one_more stored o left,
        tt,
      ) no_duty (free node.todo)

  -- the cell has moved
  moved_own : (s : Storing) (l : Loaded) → At w n (Trying (attempt_of s) (Some l)) → OwnOk s.txn.own → s.txn.own ≡ s.stored ++ s.left
      → w.recoveries n ≡ NoDuty → ((w.cells l.key).stamp == l.stamp) ≡ false
      → Goes R layout setup settings w state entries [] n (with_doing node (Stores s None)) (parts_of w)
  moved_own s l at own whole no_duty moved =
      turns (MovedOwn n (attempt_of s) l at moved) (Trying (attempt_of s) None) (Stores s None) (parts_of w)
      refl refl refl refl refl refl (refl, own, whole, tt) no_duty (free node.todo)

  -- what becomes of a node that stores its writes
  abbrev StoringGoes : Storing → Option Loaded → Heard → Parts → Type 0
  StoringGoes s l heard after =
      Goes R layout setup settings w state entries (says_storing s l s.left heard) n (takes_storing node s l s.left heard) after

  storing_goes : (t : Txn) (log : ℕ) (stored left : List Write) (l : Option Loaded)
      → PhaseIs R (Stores (record { txn = t; log = log; stored = stored; left = left }) l) (w.phases n) → w.recoveries n ≡ NoDuty
      → (heard : Heard) (after : Parts) → Serves settings (parts_of w) n (asks_storing node (record { txn = t; log = log; stored = stored; left = left }) l) heard after
      → StoringGoes (record { txn = t; log = log; stored = stored; left = left }) l heard after
  storing_goes t log stored [] None h no_duty heard after v =
      let s : Storing = record { txn = t; log = log; stored = stored; left = [] } in
      by_store (StoringGoes s None) (log_stamp (w.logs t.tid)) log heard
      (served.stored_log (parts_of w) (log_cell 0 node.number flag.Decided t).entry) (parts_of w) after
      (decides t log stored (record { runs = b.runs; so_far = h.0 }) h.2 no_duty) (λ moved. halts) halts v
  storing_goes t log stored (o ∷ left) None h no_duty heard after v =
      let s : Storing = record { txn = t; log = log; stored = stored; left = o ∷ left } in
      by_load (StoringGoes s None) (Record (w.cells o.key)) heard (parts_of w) after
      (finds_own t log stored o left (record { runs = b.runs; so_far = h.0 }) h.1 h.2 no_duty (stranger t.snapshot (w.cells o.key).versions) refl) v
  storing_goes t log stored [] (Some l) h no_duty heard after v = absurd h.3
  storing_goes t log stored (o ∷ left) (Some l) h no_duty heard after v =
      let s : Storing = record { txn = t; log = log; stored = stored; left = o ∷ left } in
      by_store (StoringGoes s (Some l)) (w.cells l.key).stamp l.stamp heard
      (served.stored_record (parts_of w) l.key (prune (least_of node.floors) (own_version l.key t ∷ l.versions))) (parts_of w) after
      (stores_own t log stored o left l (record { runs = b.runs; so_far = h.0 }) h.1 h.2 h.3 no_duty)
      (moved_own s l (record { runs = b.runs; so_far = h.0 }) h.1 h.2 no_duty) halts v

  -- ---- its versions are removed

  -- the log cell says that none is left
  marks_undone : (t : Txn) (log rival : ℕ) → At w n (Undoing (attempt_left (record { txn = t; log = log; rival = rival; left = [] })) (Some rival) None)
      → w.recoveries n ≡ NoDuty → (fresh : ℕ) → log_stamp (w.logs t.tid) ≡ log → log < fresh
      → Goes R layout setup settings w state entries [] n (with_doing node (IsClosing t (Undo (Some rival)) None))
      (served.stored_log (parts_of w) (log_cell 0 node.number flag.Undone t).entry fresh)
  marks_undone t log rival at no_duty fresh same above =
      turns (MarkUndone n fresh (attempt_left (record { txn = t; log = log; rival = rival; left = [] })) (Some rival) at (none_among t.own) same above)
      (Closing t (Undo (Some rival)) None) (IsClosing t (Undo (Some rival)) None)
      (served.stored_log (parts_of w) (log_cell 0 node.number flag.Undone t).entry fresh)
      refl refl refl refl refl (ap (λ i. served.stored_log (parts_of w) (log_cell 0 i flag.Undone t).entry fresh) (sym b.node_is.number)) refl no_duty (free node.todo)

  -- the cell of the next record is loaded in which its version stands
  loads_undo : (t : Txn) (log rival : ℕ) (o : Write) (left : List Write)
      → At w n (Undoing (attempt_left (record { txn = t; log = log; rival = rival; left = o ∷ left })) (Some rival) None)
      → OwnOk t.own → IsPartOf (o ∷ left) t.own → w.recoveries n ≡ NoDuty
      → Goes R layout setup settings w state entries [] n
      (with_doing node (Removes (record { txn = t; log = log; rival = rival; left = o ∷ left }) (Some (loaded w o.key)))) (parts_of w)
  loads_undo t log rival o left at own part no_duty =
      let r : Removing = record { txn = t; log = log; rival = rival; left = o ∷ left } in
      turns (LoadUndo n o.key (attempt_left r) (Some rival) at (has_one [] o left))
      (Undoing (attempt_left r) (Some rival) (Some (loaded w o.key))) (Removes r (Some (loaded w o.key))) (parts_of w)
      refl refl refl refl refl refl (refl, own, part, refl) no_duty (free node.todo)

  -- its version is removed
  removes_own : (t : Txn) (log rival : ℕ) (o : Write) (left : List Write) (l : Loaded)
      → At w n (Undoing (attempt_left (record { txn = t; log = log; rival = rival; left = o ∷ left })) (Some rival) (Some l))
      → OwnOk t.own → IsPartOf (o ∷ left) t.own → o.key ≡ l.key → w.recoveries n ≡ NoDuty → (fresh : ℕ) → (w.cells l.key).stamp ≡ l.stamp → l.stamp < fresh
      → Goes R layout setup settings w state entries [] n (with_doing node (Removes (record { txn = t; log = log; rival = rival; left = left }) None))
      (served.stored_record (parts_of w) l.key (strip t.tid l.versions) fresh)
  removes_own t log rival o left l at own part key no_duty fresh same above =
      let r : Removing = record { txn = t; log = log; rival = rival; left = o ∷ left } in
      turns (StoreUndo n fresh (attempt_left r) (Some rival) l at same above)
      (Undoing (record { txn = t; log = log; stored = put_at l.key false (λ k. is_written k (o ∷ left)) }) (Some rival) None)
      (Removes (record { txn = t; log = log; rival = rival; left = left }) None) (served.stored_record (parts_of w) l.key (strip t.tid l.versions) fresh)
      refl refl refl refl refl refl (
        ap (λ f. Undoing (record { txn = t; log = log; stored = f }) (Some rival) None)
            (ap (λ k. put_at k false (λ q. is_written q (o ∷ left))) (sym key) ∙ one_removed o left (rising_part (o ∷ left) t.own part own.rising)),
        own,
        less_part o left t.own part,
        tt,
      ) no_duty (free node.todo)

  -- the cell has moved
  moved_undo : (r : Removing) (l : Loaded) → At w n (Undoing (attempt_left r) (Some r.rival) (Some l)) → OwnOk r.txn.own → IsPartOf r.left r.txn.own
      → w.recoveries n ≡ NoDuty → ((w.cells l.key).stamp == l.stamp) ≡ false
      → Goes R layout setup settings w state entries [] n (with_doing node (Removes r None)) (parts_of w)
  moved_undo r l at own part no_duty moved =
      turns (MovedUndo n (attempt_left r) (Some r.rival) l at moved) (Undoing (attempt_left r) (Some r.rival) None) (Removes r None) (parts_of w)
      refl refl refl refl refl refl (refl, own, part, tt) no_duty (free node.todo)

  -- what becomes of a node that removes its versions
  abbrev RemovingGoes : Removing → Option Loaded → Heard → Parts → Type 0
  RemovingGoes r l heard after = Goes R layout setup settings w state entries [] n (takes_removing node r l r.left heard) after

  removing_goes : (t : Txn) (log rival : ℕ) (left : List Write) (l : Option Loaded)
      → PhaseIs R (Removes (record { txn = t; log = log; rival = rival; left = left }) l) (w.phases n) → w.recoveries n ≡ NoDuty
      → (heard : Heard) (after : Parts) → Serves settings (parts_of w) n (asks_removing node (record { txn = t; log = log; rival = rival; left = left }) l) heard after
      → RemovingGoes (record { txn = t; log = log; rival = rival; left = left }) l heard after
  removing_goes t log rival [] None h no_duty heard after v =
      let r : Removing = record { txn = t; log = log; rival = rival; left = [] } in
      by_store (RemovingGoes r None) (log_stamp (w.logs t.tid)) log heard
      (served.stored_log (parts_of w) (log_cell 0 node.number flag.Undone t).entry) (parts_of w) after
      (marks_undone t log rival (record { runs = b.runs; so_far = h.0 }) no_duty) (λ moved. halts) halts v
  removing_goes t log rival (o ∷ left) None h no_duty heard after v =
      let r : Removing = record { txn = t; log = log; rival = rival; left = o ∷ left } in
      by_load (RemovingGoes r None) (Record (w.cells o.key)) heard (parts_of w) after
      (loads_undo t log rival o left (record { runs = b.runs; so_far = h.0 }) h.1 h.2 no_duty) v
  removing_goes t log rival [] (Some l) h no_duty heard after v = absurd h.3
  removing_goes t log rival (o ∷ left) (Some l) h no_duty heard after v =
      let r : Removing = record { txn = t; log = log; rival = rival; left = o ∷ left } in
      by_store (RemovingGoes r (Some l)) (w.cells l.key).stamp l.stamp heard
      (served.stored_record (parts_of w) l.key (strip t.tid l.versions)) (parts_of w) after
      (removes_own t log rival o left l (record { runs = b.runs; so_far = h.0 }) h.1 h.2 h.3 no_duty)
      (moved_undo r l (record { runs = b.runs; so_far = h.0 }) h.1 h.2 no_duty) halts v

module _ (R : Txn → List Fact → Reads → Type 0) (layout : Layout) (setup : Setup) (settings : Settings) where
  -- a node that stores its writes
  pub storing_steps : (node : Node) (statement : Bound) (later : List Bound) (s : Storing) (l : Option Loaded) → node.todo ≡ statement ∷ later
      → node.doing ≡ Stores s l → Steps R layout setup settings node
  storing_steps node statement later s l e d =
      let now : Node = record node { todo = statement ∷ later; doing = Stores s l } in
      steps_at R layout setup settings node (statement ∷ later) (Stores s l) e d
      (steps_as R layout setup settings now (asks_storing node s l) refl
      (λ w state entries heard told after b v means.
      storing_goes R layout setup settings w state entries now.number now b s.txn s.log s.stored s.left l b.node_is.phase b.node_is.recovery heard after v))

  -- a node that removes its versions
  pub removing_steps : (node : Node) (statement : Bound) (later : List Bound) (r : Removing) (l : Option Loaded) → node.todo ≡ statement ∷ later
      → node.doing ≡ Removes r l → Steps R layout setup settings node
  removing_steps node statement later r l e d =
      let now : Node = record node { todo = statement ∷ later; doing = Removes r l } in
      steps_at R layout setup settings node (statement ∷ later) (Removes r l) e d
      (steps_as R layout setup settings now (asks_removing node r l) refl
      (λ w state entries heard told after b v means.
      removing_goes R layout setup settings w state entries now.number now b r.txn r.log r.rival r.left l b.node_is.phase b.node_is.recovery heard after v))
