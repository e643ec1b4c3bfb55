-- No place of a run tells a transaction number where it can't stand.
use Rattle.std.proofs.Common.{◌≡◌, inl, inr, ℕ, ◌+◌, ◌≤◌, ◌^◌, Bool, true, false, List, [], ◌∷◌, ◌++◌, Option, Some, None, refl, sym, ap, ◌∙◌, subst, arith}
use Rattle.std.specs.Prelude.{not, nat_lt}
use Rattle.std.specs.List.{list_any}
use Rattle.std.proofs.lemmas.Bool.{both_ways, eq-eqb, or_from}
use Rattle.std.proofs.lemmas.Bool.Decides.{nat_tests}
use Rattle.tl_base.specs.declared.place.Settings.{Settings}
use Rattle.tl_schema.specs.declared.catalog.Setup.{Setup}
use Rattle.tl_descriptor.specs.Tids.{TidSet, has}
use Rattle.tl_manager.specs.declared.request.ManagerReply.{ManagerReply}
use Rattle.tl_manager.specs.declared.request.ManagerReply.TheVariants as replied
use Rattle.tl_manager.specs.declared.request.ManagerRequest.{ManagerRequest}
use Rattle.tl_manager.specs.declared.request.ManagerRequest.TheVariants as manager
use Rattle.tl_versions.specs.Versions.{is_written}
use Rattle.tl_write.specs.declared.write.Write.{Write}
use Rattle.tl_write.specs.Own.{is_rising}
use Rattle.tl_isolation.specs.declared.bound.Bound.{Bound}
use Rattle.tl_isolation.specs.declared.entry.Entry.{Entry}
use Rattle.tl_isolation.specs.declared.state.SiState.{SiState}
use Rattle.tl_protocol.specs.Store.{CommitsCell, LogCell}
use Rattle.tl_protocol.specs.World.{Txn, Fact, Commit, Undo, Decision, Phase, World, At}
use Rattle.tl_protocol.specs.World as protocol
use Rattle.tl_protocol.specs.Run.{Layout}
use Rattle.tl_protocol.proofs.Borne.{borne}
use Rattle.tl_protocol.proofs.Finished.{is_done}
use Rattle.tl_protocol.proofs.Inv.{NodeOk, base, shared}
use Rattle.tl_protocol.proofs.Reached.{Reached, reached}
use Rattle.tl_protocol.proofs.Steps.{node_at}
use Rattle.tl_journal.specs.Ask.{Ask, LoadCommits, StoreCommits, LoadLog, StoreLog, LoadRecord, StoreRecord, ReadPage, DrawNumbers, AskManager, Heard, Commits, Log, Told}
use Rattle.tl_journal.specs.Asks.{asks, asks_doing, asks_storing}
use Rattle.tl_journal.specs.Node.{Storing, Claimed, Lost, Doing, Noted, Drawing, Inside, Stores, Closing, Recovering, ReadingLog, Node}
use Rattle.tl_journal.specs.Reads.{Reads}
use Rattle.tl_journal.specs.Served as served
use Rattle.tl_journal.specs.Served.{Answers, Parts, Serves, parts_of}
use Rattle.tl_journal.specs.ForKey.{greatest_tid}
use Rattle.tl_journal.specs.Strange.{is_odd_for}
use Rattle.tl_journal.proofs.Attempts.{by_store}
use Rattle.tl_journal.proofs.Meets.{Before, PhaseIs, attempt_of}
use Rattle.tl_journal.proofs.OwnWrites.{not_before}
use Rattle.tl_journal.proofs.Sizes.{AreTids, DoingFits, ToldFits}
use Rattle.tl_journal.proofs.StrangeCounts.{HasRoom}
use Rattle.tl_journal.proofs.StrangeStops.{Replied}

-- a number is not above the greatest one
not_above : (tid most : ℕ) → tid ≤ most → nat_lt most tid ≡ false
not_above tid most le = grind (arith, nat_tests)

none_above : (tids : List ℕ) → AreTids tids → list_any (nat_lt greatest_tid) tids ≡ false
none_above [] h = refl
none_above (tid ∷ tids) h = or_from (nat_lt greatest_tid tid) (list_any (nat_lt greatest_tid) tids) (not_above tid greatest_tid h.0) (none_above tids h.1)

-- what a manager tells fits
noted_odd : (seen : TidSet) (heard : Heard) → ToldFits heard → is_odd_for (Noted seen) heard ≡ false
noted_odd seen (Told (replied.Began tid snapshot floor)) f = or_from (nat_lt greatest_tid tid) (has snapshot tid) (not_above tid greatest_tid f.0) f.1
noted_odd seen heard f = refl

recovering_odd : (c : Claimed) (heard : Heard) → ToldFits heard → is_odd_for (Recovering c) heard ≡ false
recovering_odd c (Told (replied.Orphaned tids)) f = none_above tids f
recovering_odd c heard f = refl

-- what stands in a log cell is of the transaction of its key
abbrev pub OwnLog : ℕ → Option LogCell → Type 0
OwnLog tid None = Unit {0}
OwnLog tid (Some log) = log.entry.tid ≡ tid

log_odd : (c : Claimed) (o : Lost) (log : Option LogCell) → OwnLog o.tid log → is_odd_for (ReadingLog c o) (Log log) ≡ false
log_odd c o None own = refl
log_odd c o (Some log) own = ap not (eq-eqb log.entry.tid o.tid own)

-- ---- the commits cell

-- a loaded commits cell is the one that stands
abbrev SeenIs : CommitsCell → Heard → Type 0
SeenIs c (Commits x) = x ≡ c
SeenIs c heard = Unit {0}

module _ (settings : Settings) (p : Parts) where
  seen_store : (found stamp : ℕ) (heard : Heard) (done : ℕ → Parts) (after : Parts) → served.Stores found stamp heard done p after → SeenIs p.commits heard
  seen_store found stamp heard done after s = by_store (λ x q. SeenIs p.commits x) found stamp heard done p after (λ fresh same above. tt) (λ moved. tt) tt s

  -- what a manager replies is told
  pub told_by : (m : ℕ) (asked : ManagerRequest) (heard : Heard) (after : Parts) → Answers settings p m asked heard after → (reply : ManagerReply) × (heard ≡ Told reply)
  told_by m (manager.Begin node seen) heard after (inl v) = (_, v.2)
  told_by m (manager.Begin node seen) heard after (inr v) = (_, v.0)
  told_by m (manager.Range low high) heard after v = (_, v.0)
  told_by m (manager.End tid) heard after v = (_, v.0)
  told_by m (manager.Orphans node) heard after (inl v, same) = (_, v.2)
  told_by m (manager.Orphans node) heard after (inr v, same) = (_, v.1)
  told_by m (manager.Floor seen) heard after v = (_, v.0.1)
  told_by m (manager.Post node also) heard after v = absurd v
  told_by m (manager.Claim node) heard after (inl v) = (_, v.1)
  told_by m (manager.Claim node) heard after (inr v) = (_, v.4)

  seen_is : (n : ℕ) (ask : Ask) (heard : Heard) (after : Parts) → Serves settings p n ask heard after → SeenIs p.commits heard
  seen_is n LoadCommits heard after v = subst (SeenIs p.commits) (sym v.0) refl
  seen_is n (StoreCommits stamp set) heard after v = seen_store _ stamp heard _ after v
  seen_is n (LoadLog tid) heard after v = subst (SeenIs p.commits) (sym v.0) tt
  seen_is n (StoreLog stamp entry) heard after v = seen_store _ stamp heard _ after v
  seen_is n (LoadRecord key) heard after v = subst (SeenIs p.commits) (sym v.0) tt
  seen_is n (StoreRecord key stamp versions) heard after v = seen_store _ stamp heard _ after v
  seen_is n (ReadPage shard from before) heard after v = subst (SeenIs p.commits) (sym v.0.2) tt
  seen_is n DrawNumbers heard after (inl v) = subst (SeenIs p.commits) (sym v.0) tt
  seen_is n DrawNumbers heard after (inr v) = subst (SeenIs p.commits) (sym v.0) tt
  seen_is n (AskManager m asked) heard after v = subst (SeenIs p.commits) (sym (told_by m asked heard after v).1) tt

inside_odd : (c : CommitsCell) (t : Txn) (heard : Heard) → SeenIs c heard → has c.finished t.tid ≡ false → is_odd_for (Inside t) heard ≡ false
inside_odd c t (Commits x) seen e = ap (λ (y : CommitsCell). has y.finished t.tid) seen ∙ e
inside_odd c t heard seen e = refl

closing_odd : (c : CommitsCell) (t : Txn) (d : Decision) (heard : Heard) → SeenIs c heard → has c.finished t.tid ≡ false → is_odd_for (Closing t d None) heard ≡ false
closing_odd c t d (Commits x) seen e = ap (λ (y : CommitsCell). has y.finished t.tid) seen ∙ e
closing_odd c t d heard seen e = refl

-- ---- what the invariant knows

module _ (R : Txn → List Fact → Reads → Type 0) (layout : Layout) (setup : Setup) (settings : Settings) (w : World) (state : SiState)
    (entries : List Entry) (n : ℕ) (node : Node) (b : Before R layout setup settings w state entries n node) where
  at_phase : (p : Phase) → w.phases n ≡ p → At w n p
  at_phase p e = record { runs = b.runs; so_far = e }

  node_ok : (p : Phase) → w.phases n ≡ p → NodeOk (shared (base w) (reached b.opening b.reach).ghost) n p ((reached b.opening b.reach).ledger.seats n)
  node_ok p e = let r : Reached setup w state entries = reached b.opening b.reach in node_at w r.ledger r.ghost r.inv n p (at_phase p e)

  -- a transaction that isn't finished isn't in the commits cell
  not_committed : (tid : ℕ) → is_done tid (reached b.opening b.reach).ghost.finished ≡ false → has w.commits.finished tid ≡ false
  not_committed tid e = (reached b.opening b.reach).inv.core.done.strange tid e

  closing_unfinished : (t : Txn) (d : Decision) → w.phases n ≡ protocol.Closing t d None → is_done t.tid (reached b.opening b.reach).ghost.finished ≡ false
  closing_unfinished t Commit e = (node_ok (protocol.Closing t Commit None) e).txn.unfinished
  closing_unfinished t (Undo rival) e = (node_ok (protocol.Closing t (Undo rival) None) e).txn.unfinished

  -- before its own store no version of the transaction stands in a record
  own_unborne : (s : Storing) (o : Write) (left : List Write) → w.phases n ≡ protocol.Trying (attempt_of (record s { left = o ∷ left })) None → is_rising s.txn.own ≡ true
      → s.txn.own ≡ s.stored ++ o ∷ left → is_written s.txn.tid (w.cells o.key).versions ≡ false
  own_unborne s o left e rising whole = by (is_written s.txn.tid (w.cells o.key).versions) refl
    where
      r : Reached setup w state entries
      r = reached b.opening b.reach

      by : (x : Bool) → is_written s.txn.tid (w.cells o.key).versions ≡ x → x ≡ false
      by false h = refl
      by true h =
          let txn = (node_ok (protocol.Trying (attempt_of (record s { left = o ∷ left })) None) e).txn in
          absurd (both_ways _ (not_before s.stored o left (subst (λ (os : List Write). is_rising os ≡ true) whole rising))
          (borne (base w) r.ledger r.ghost r.inv.core n s.txn _ _ _ true None txn o.key h))

  stores_odd : (s : Storing) (left : List Write) (heard : Heard) (after : Parts) → PhaseIs R (Stores (record s { left = left }) None) (w.phases n)
      → Serves settings (parts_of w) n (asks_storing node (record s { left = left }) None) heard after → is_odd_for (Stores (record s { left = left }) None) heard ≡ false
  stores_odd s [] heard after p v =
      by_store (λ x q. is_odd_for (Stores (record s { left = [] }) None) x ≡ false) _ s.log heard _ (parts_of w) after (λ fresh same above. refl) (λ moved. refl) refl v
  stores_odd s (o ∷ left) heard after p v =
      subst (λ (x : Heard). is_odd_for (Stores (record s { left = o ∷ left }) None) x ≡ false) (sym v.0) (own_unborne s o left p.0 p.1.rising p.2)

  drawing_odd : (seen : TidSet) (heard : Heard) (after : Parts) → Serves settings (parts_of w) n DrawNumbers heard after → is_odd_for (Drawing seen) heard ≡ false
  drawing_odd seen heard after (inl v) = subst (λ (x : Heard). is_odd_for (Drawing seen) x ≡ false) (sym v.0) (not_above (w.counter + 16) greatest_tid v.1)
  drawing_odd seen heard after (inr v) = subst (λ (x : Heard). is_odd_for (Drawing seen) x ≡ false) (sym v.0) refl

  doing_odd : (few : ℕ) (statement : Bound) (doing : Doing) (heard : Heard) (after : Parts) → PhaseIs R doing (w.phases n) → DoingFits few doing → Replied settings setup.catalog w n (asks_doing settings setup.catalog node statement doing) heard after
      → ToldFits heard → SeenIs w.commits heard → ((tid : ℕ) → tid ≤ 2 ^ 62 → OwnLog tid (w.logs tid)) → is_odd_for doing heard ≡ false
  doing_odd few statement (Noted seen) heard after p fits v told seen_so logs = noted_odd seen heard told
  doing_odd few statement (Drawing seen) heard after p fits v told seen_so logs = drawing_odd seen heard after v.0
  doing_odd few statement (Inside t) heard after p fits v told seen_so logs =
      inside_odd w.commits t heard seen_so (not_committed t.tid (node_ok (protocol.Live t []) p.0).txn.unfinished)
  doing_odd few statement (Stores s None) heard after p fits v told seen_so logs = stores_odd s s.left heard after p v.0
  doing_odd few statement (Closing t d None) heard after p fits v told seen_so logs = closing_odd w.commits t d heard seen_so (not_committed t.tid (closing_unfinished t d p))
  doing_odd few statement (Recovering c) heard after p fits v told seen_so logs = recovering_odd c heard told
  doing_odd few statement (ReadingLog c o) heard after p fits v told seen_so logs =
      subst (λ (x : Heard). is_odd_for (ReadingLog c o) x ≡ false) (sym v.0.0) (log_odd c o (w.logs o.tid) (logs o.tid fits.tid))
  doing_odd few statement doing heard after p fits v told seen_so logs = refl

  pub not_odd_at : (few : ℕ) (ask : Ask) (heard : Heard) (after : Parts) → asks settings setup.catalog node ≡ Some ask → DoingFits few node.doing → Serves settings (parts_of w) n ask heard after → HasRoom ask heard → ToldFits heard
      → ((tid : ℕ) → tid ≤ 2 ^ 62 → OwnLog tid (w.logs tid)) → is_odd_for node.doing heard ≡ false
  not_odd_at few ask heard after asked fits serves room told logs =
      by node.todo (subst (λ (o : Option Ask). Replied settings setup.catalog w n o heard after) (sym asked) (serves, room))
    where
      by : (todo : List Bound) → Replied settings setup.catalog w n (asks settings setup.catalog (record node { todo = todo })) heard after → is_odd_for node.doing heard ≡ false
      by [] v = absurd v
      by (statement ∷ later) v = doing_odd few statement node.doing heard after b.node_is.phase fits v told (seen_is settings (parts_of w) n ask heard after serves) logs
