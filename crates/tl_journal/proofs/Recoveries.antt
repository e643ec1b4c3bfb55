-- A node that recovers what vanished nodes left: whatever it hears, the protocol goes on.
use Rattle.std.proofs.Common.{◌≡◌, ℕ, ◌<◌, ◌≤◌, Bool, true, false, ⊎_elim, List, [], ◌∷◌, ◌++◌, Option, Some, None, refl, sym, ap, ◌∙◌, subst, arith}
use Rattle.std.specs.Prelude.{◌==◌, ◌&&◌, ◌||◌, nat_le, if◌then◌else◌}
use Rattle.std.proofs.lemmas.Bool.Decides.{nat_tests}
use Rattle.std.proofs.lemmas.List.{append-nil}
use Rattle.std.proofs.lemmas.Option.{same_Some}
use Rattle.tl_base.specs.NodeSet.{has_node, with_node}
use Rattle.tl_base.specs.declared.node.NodeSet.{NodeSet}
use Rattle.tl_base.specs.declared.place.Settings.{Settings}
use Rattle.tl_schema.specs.declared.catalog.Setup.{Setup}
use Rattle.tl_descriptor.specs.Tids.{has, inserted}
use Rattle.tl_logrec.specs.Entry.{are_rising}
use Rattle.tl_logrec.specs.declared.entry.Flag.{Flag}
use Rattle.tl_logrec.specs.declared.entry.Flag.TheVariants as flag
use Rattle.tl_manager.specs.declared.active.Active.{Active}
use Rattle.tl_manager.specs.declared.request.ManagerReply.TheVariants as replied
use Rattle.tl_manager.specs.declared.request.ManagerRequest.TheVariants as manager
use Rattle.tl_versions.specs.Versions.{is_written, strip}
use Rattle.tl_isolation.specs.declared.bound.Bound.{Bound}
use Rattle.tl_isolation.specs.declared.bound.Bound.TheVariants as bound
use Rattle.tl_isolation.specs.declared.entry.Answer.{Answer}
use Rattle.tl_isolation.specs.declared.entry.Answer.TheVariants as answer
use Rattle.tl_isolation.specs.declared.entry.Entry.{Entry}
use Rattle.tl_isolation.specs.declared.state.SiState.{SiState}
use Rattle.tl_protocol.specs.Store.{Key, CommitsCell, LogCell, log_stamp, put, put_at}
use Rattle.tl_protocol.specs.World.{Txn, Fact, Ending, Idle, Loaded, Duties, Orphan, Recovery, World, runs, At, Recovers}
use Rattle.tl_protocol.specs.World as protocol
use Rattle.tl_protocol.specs.Move as move
use Rattle.tl_protocol.specs.Move.{Move}
use Rattle.tl_protocol.specs.Next.{by_flag, by_log, load_finish, load_lost, loaded, marked, next, without}
use Rattle.tl_protocol.specs.Told.{finished_so, says, told}
use Rattle.tl_protocol.specs.Run.{Layout}
use Rattle.tl_protocol.specs.Stands.{Notice, posted}
use Rattle.tl_protocol.proofs.Frames.{put_same}
use Rattle.tl_protocol.proofs.Duties.{active_part}
use Rattle.tl_protocol.proofs.Inv.{ActiveOk, RecoveryOk, base}
use Rattle.tl_protocol.proofs.Reached.{Reached, reached}
use Rattle.tl_protocol.proofs.Steps.{recovery_at}
use Rattle.tl_journal.specs.Ask.{Ask, LoadCommits, StoreCommits, LoadLog, StoreLog, LoadRecord, StoreRecord, AskManager, Heard, Commits, Log, Record, Stored, Moved, Told, Strange}
use Rattle.tl_journal.specs.Bytes.{home_of}
use Rattle.tl_journal.specs.Reads.{Reads}
use Rattle.tl_journal.specs.Node.{Claimed, Lost, Doing, Outside, Recovering, ReadingLog, Stripping, Finishing, EndingLost, Node, nodes_in}
use Rattle.tl_journal.specs.Asks.{ToRecover, asks, course_outside}
use Rattle.tl_journal.specs.Takes.{MayMean, next_duty, next_lost, stopped, takes}
use Rattle.tl_journal.specs.Takes as takes_so
use Rattle.tl_journal.specs.Says.{says_at, says_recovered, statement_number}
use Rattle.tl_journal.specs.Served.{AreNodes, Parts, Serves, Stores, parts_of, stored_commits, stored_log, stored_record}
use Rattle.tl_journal.proofs.Meets.{Before, ClaimedOk, Goes, NodeIs, PhaseIs, PresentIs, RecoveryIs, StatementIs, orphan_of, seen_but}
use Rattle.tl_journal.proofs.Owed.{claimed_ok, claimed_rest, first_left}
use Rattle.tl_journal.proofs.LostKeys.{left_named, left_new, part_rest, seen_all, seen_next, seen_none}
use Rattle.tl_journal.proofs.Goings.{Steps, going, going_two, is_vanishing, mover, steps_as, steps_at, stops, turned}

present_outside : (todo : List Bound) → PresentIs (StatementIs Outside) todo
present_outside [] = tt
present_outside (statement ∷ later) = tt

module _ (R : Txn → List Fact → Reads → Type 0) (layout : Layout) (setup : Setup) (settings : Settings) where
  -- the protocol goes on where the node hears this
  abbrev Hears : (w : World) (state : SiState) (entries : List Entry) (node : Node) (reply : Heard) (said : Answer) (after : Parts) → Type 0
  Hears w state entries node reply said after =
      Goes R layout setup settings w state entries (says_at settings setup.catalog state.commits node reply said) node.number
      (takes settings setup.catalog node reply said) after

  hears : (w : World) (state : SiState) (entries : List Entry) (node : Node) (reply heard : Heard) (said : Answer) (after p : Parts) → reply ≡ heard → after ≡ p
      → Hears w state entries node heard said p → Hears w state entries node reply said after
  hears w state entries node reply heard said after p e f h =
      subst (λ x. Hears w state entries node x said after) (sym e) (subst (λ x. Hears w state entries node heard said x) (sym f) h)

  -- where a cell was to be stored
  hears_store : (w : World) (state : SiState) (entries : List Entry) (node : Node) (reply : Heard) (said : Answer) (after : Parts)
      (found stamp : ℕ) (done : ℕ → Parts) → Stores found stamp reply done (parts_of w) after
      → ((fresh : ℕ) → found ≡ stamp → stamp < fresh → Hears w state entries node (Stored fresh) said (done fresh))
      → ((found == stamp) ≡ false → Hears w state entries node Moved said (parts_of w))
      → Hears w state entries node Strange said (parts_of w)
      → Hears w state entries node reply said after
  hears_store w state entries node reply said after found stamp done s h m o =
      ⊎_elim (λ x. hears w state entries node reply (Stored x.0) said after (done x.0) x.1 x.4 (h x.0 x.2 x.3))
      (λ y. ⊎_elim (λ x. hears w state entries node reply Moved said after (parts_of w) x.0 x.2 (m x.1))
      (λ x. hears w state entries node reply Strange said after (parts_of w) x.0 x.1 o) y) s

  module _ (node : Node) (statement : Bound) (later : List Bound) where
    -- the node, doing this
    abbrev doing_so : Doing → Node
    doing_so doing = record node { todo = statement ∷ later; doing = doing }

    module _ (w : World) (state : SiState) (entries : List Entry) (doing : Doing)
        (b : Before R layout setup settings w state entries node.number (doing_so doing)) where
      -- the state of the node's recovery, once it has gone on
      turned_so : (new : Doing) (todo : List Bound) (answers : List Answer) (world : World) → w.phases node.number ≡ Idle
          → world.phases node.number ≡ w.phases node.number
          → ((j : ℕ) → world.floors node.number j ≡ w.floors node.number j) → PhaseIs R new Idle
          → RecoveryIs new (world.recoveries node.number) → PresentIs (StatementIs new) todo
          → NodeIs R settings (record node { todo = todo; answers = answers; doing = new }) world node.number
      turned_so new todo answers world idle p f q r s =
          turned R settings (doing_so doing) (record node { todo = todo; answers = answers; doing = new }) w world node.number b.node_is refl refl f
          (subst (PhaseIs R new) (sym (p ∙ idle)) q) r s

      -- the recovery has gone on by one move
      works : (new : Doing) (after : Parts) (ts : List Entry) (m : Move w) → mover m ≡ node.number → is_vanishing m ≡ false → ts ≡ told state.commits w m
          → parts_of (next w m) ≡ after → w.phases node.number ≡ Idle → (next w m).phases node.number ≡ w.phases node.number
          → ((j : ℕ) → (next w m).floors node.number j ≡ w.floors node.number j) → PhaseIs R new Idle
          → RecoveryIs new ((next w m).recoveries node.number) → PresentIs (StatementIs new) (statement ∷ later)
          → Goes R layout setup settings w state entries ts node.number (doing_so new) after
      works new after ts m is_n on e p idle q f h r s =
          going R layout setup settings w state entries node.number (doing_so doing) b (doing_so new) after ts m is_n on e p
          (turned_so new (statement ∷ later) node.answers (next w m) idle q f h r s)

      -- the next duty comes, or RECOVER is answered
      goes_next : (c : Claimed) (left : List ℕ) (duties : Duties) (after : Parts) (m : Move w) → mover m ≡ node.number → is_vanishing m ≡ false
          → told state.commits w m ≡ [] → parts_of (next w m) ≡ after → w.phases node.number ≡ Idle
          → (next w m).phases node.number ≡ w.phases node.number
          → ((j : ℕ) → (next w m).floors node.number j ≡ w.floors node.number j)
          → runs (next w m) node.number ≡ true
          → (next w m).recoveries node.number ≡ protocol.Next duties → ClaimedOk (record c { left = left }) duties
          → Goes R layout setup settings w state entries (says_recovered (doing_so doing) c [] left) node.number
          (next_duty (doing_so doing) (record c { left = left })) after
      goes_next c (d ∷ left) duties after m is_n on e p idle q f u r ok =
          works (Recovering (record c { left = d ∷ left })) after [] m is_n on (sym e) p idle q f refl (duties, r, ok) tt
      goes_next c [] duties after m is_n on e p idle q f u r ok =
          let v : World = next w m in
          let at : At v node.number Idle = record { runs = u; so_far = q ∙ idle } in
          let o : Move v = move.SayRecovered node.number (statement_number node) duties at r ok.left in
          let entry : says node.number (statement_number node) (bound.Recover c.node) (answer.Recovered c.node) ∷ []
          ≡ says node.number (statement_number node) (bound.Recover duties.node) (answer.Recovered duties.node) ∷ [] =
          ap (λ (x : ℕ). says node.number (statement_number node) (bound.Recover x) (answer.Recovered x) ∷ []) (sym ok.node) in
          going_two R layout setup settings w state entries node.number (doing_so doing) b
          (record node { todo = later; answers = node.answers ++ answer.Recovered c.node ∷ []; doing = Outside }) after
          (says node.number (statement_number node) (bound.Recover c.node) (answer.Recovered c.node) ∷ []) m o is_n on refl refl
          (entry ∙ ap (λ es. es ++ says node.number (statement_number node) (bound.Recover duties.node) (answer.Recovered duties.node) ∷ []) (sym e)) p
          (turned_so Outside later (node.answers ++ answer.Recovered c.node ∷ []) (next v o) idle q f refl
          (put_same node.number protocol.NoDuty v.recoveries) (present_outside later))

    -- ---- the orphans of the first duty are asked for

    recovering_at : (c : Claimed) (left : List ℕ) → Steps R layout setup settings (doing_so (Recovering (record c { left = left })))
    recovering_at c [] =
        steps_as R layout setup settings (doing_so (Recovering (record c { left = [] }))) LoadCommits refl
        (λ w state entries reply said after b s means.
        hears w state entries (doing_so (Recovering (record c { left = [] }))) reply (Commits w.commits) said after (parts_of w) s.0 s.1
        (stops R layout setup settings w state entries node.number (doing_so (Recovering (record c { left = [] }))) b (parts_of w) refl))
    recovering_at c (d ∷ left) =
        steps_as R layout setup settings (doing_so (Recovering (record c { left = d ∷ left }))) (AskManager (home_of settings d) (manager.Orphans d)) refl
        (λ w state entries reply said after b s means.
        ⊎_elim
        (λ y. hears w state entries (doing_so (Recovering (record c { left = d ∷ left }))) reply (Told (replied.Orphaned (y.0.tid ∷ []))) said after (parts_of w) y.2 s.1
        (found w state entries said b y.0 y.1))
        (λ y. hears w state entries (doing_so (Recovering (record c { left = d ∷ left }))) reply (Told (replied.Orphaned [])) said after (parts_of w) y.1 s.1
        (none w state entries said b y.0)) s.0)
      where
        found : (w : World) (state : SiState) (entries : List Entry) (said : Answer)
            → Before R layout setup settings w state entries node.number (doing_so (Recovering (record c { left = d ∷ left })))
            → (x : Active) → w.active d ≡ Some x
            → Hears w state entries (doing_so (Recovering (record c { left = d ∷ left }))) (Told (replied.Orphaned (x.tid ∷ []))) said (parts_of w)
        found w state entries said b x e =
            let k : RecoveryIs (Recovering (record c { left = d ∷ left })) (w.recoveries node.number) = b.node_is.recovery in
            let o : Lost = record { node = d; tid = x.tid; others = [] } in
            works w state entries (Recovering (record c { left = d ∷ left })) b (ReadingLog (record c { left = left }) o) (parts_of w) []
            (move.FindOrphan node.number k.0 x d (record { runs = b.runs; so_far = k.1 }) (first_left c k.0 d left k.2) e) refl refl refl refl
            b.node_is.phase refl (λ j. refl) refl
            (without d k.0, put_same node.number (protocol.Reading (without d k.0) (orphan_of o)) w.recoveries, claimed_rest c k.0 d left k.2, refl) tt

        none : (w : World) (state : SiState) (entries : List Entry) (said : Answer)
            → Before R layout setup settings w state entries node.number (doing_so (Recovering (record c { left = d ∷ left })))
            → w.active d ≡ None
            → Hears w state entries (doing_so (Recovering (record c { left = d ∷ left }))) (Told (replied.Orphaned [])) said (parts_of w)
        none w state entries said b e =
            let k : RecoveryIs (Recovering (record c { left = d ∷ left })) (w.recoveries node.number) = b.node_is.recovery in
            goes_next w state entries (Recovering (record c { left = d ∷ left })) b (record c { left = left }) left (without d k.0) (parts_of w)
            (move.FindNone node.number k.0 d (record { runs = b.runs; so_far = k.1 }) (first_left c k.0 d left k.2) e) refl refl refl refl
            b.node_is.phase refl (λ j. refl) b.runs
            (put_same node.number (protocol.Next (without d k.0)) w.recoveries) (claimed_rest c k.0 d left k.2)

    -- ---- the log cell of an orphan is loaded

    by_its_flag : (w : World) (state : SiState) (entries : List Entry) (c : Claimed) (o : Lost)
        → Before R layout setup settings w state entries node.number (doing_so (ReadingLog c o))
        → (log : LogCell) (f : Flag) → w.logs o.tid ≡ Some log → log.entry.flag ≡ f
        → Goes R layout setup settings w state entries [] node.number (takes_so.by_flag (doing_so (ReadingLog c o)) c o log f) (parts_of w)
    by_its_flag w state entries c o b log flag.Trying e f =
        let k : RecoveryIs (ReadingLog c o) (w.recoveries node.number) = b.node_is.recovery in
        works w state entries (ReadingLog c o) b (Stripping c o log log.entry.writes None) (parts_of w) []
        (move.ReadLog node.number k.0 (orphan_of o) (record { runs = b.runs; so_far = k.1 })) refl refl refl refl b.node_is.phase refl (λ j. refl) refl (
          k.0,
          (λ key. false),
          put_same node.number (by_log k.0 (orphan_of o) (w.logs o.tid)) w.recoveries ∙ ap (by_log k.0 (orphan_of o)) e ∙ ap (by_flag k.0 (orphan_of o) log) f,
          k.2,
          k.3,
          ([], [], sym (append-nil log.entry.writes)),
          seen_none log.entry.writes,
          tt,
        ) tt
    by_its_flag w state entries c o b log flag.Decided e f =
        let k : RecoveryIs (ReadingLog c o) (w.recoveries node.number) = b.node_is.recovery in
        works w state entries (ReadingLog c o) b (Finishing c o true None) (parts_of w) []
        (move.ReadLog node.number k.0 (orphan_of o) (record { runs = b.runs; so_far = k.1 })) refl refl refl refl b.node_is.phase refl (λ j. refl) refl (
          k.0,
          put_same node.number (by_log k.0 (orphan_of o) (w.logs o.tid)) w.recoveries ∙ ap (by_log k.0 (orphan_of o)) e ∙ ap (by_flag k.0 (orphan_of o) log) f,
          k.2,
          k.3,
        ) tt
    by_its_flag w state entries c o b log flag.Undone e f =
        let k : RecoveryIs (ReadingLog c o) (w.recoveries node.number) = b.node_is.recovery in
        works w state entries (ReadingLog c o) b (Finishing c o false None) (parts_of w) []
        (move.ReadLog node.number k.0 (orphan_of o) (record { runs = b.runs; so_far = k.1 })) refl refl refl refl b.node_is.phase refl (λ j. refl) refl (
          k.0,
          put_same node.number (by_log k.0 (orphan_of o) (w.logs o.tid)) w.recoveries ∙ ap (by_log k.0 (orphan_of o)) e ∙ ap (by_flag k.0 (orphan_of o) log) f,
          k.2,
          k.3,
        ) tt

    by_its_log : (w : World) (state : SiState) (entries : List Entry) (said : Answer) (c : Claimed) (o : Lost)
        → Before R layout setup settings w state entries node.number (doing_so (ReadingLog c o))
        → (x : Option LogCell) → w.logs o.tid ≡ x → Hears w state entries (doing_so (ReadingLog c o)) (Log x) said (parts_of w)
    by_its_log w state entries said c o b None e =
        let k : RecoveryIs (ReadingLog c o) (w.recoveries node.number) = b.node_is.recovery in
        works w state entries (ReadingLog c o) b (Finishing c o false None) (parts_of w) []
        (move.ReadLog node.number k.0 (orphan_of o) (record { runs = b.runs; so_far = k.1 })) refl refl refl refl b.node_is.phase refl (λ j. refl) refl
        (k.0, put_same node.number (by_log k.0 (orphan_of o) (w.logs o.tid)) w.recoveries ∙ ap (by_log k.0 (orphan_of o)) e, k.2, k.3) tt
    by_its_log w state entries said c o b (Some log) e = by_its_flag w state entries c o b log log.entry.flag e refl

    reading_log_at : (c : Claimed) (o : Lost) → Steps R layout setup settings (doing_so (ReadingLog c o))
    reading_log_at c o =
        steps_as R layout setup settings (doing_so (ReadingLog c o)) (LoadLog o.tid) refl
        (λ w state entries reply said after b s means.
        hears w state entries (doing_so (ReadingLog c o)) reply (Log (w.logs o.tid)) said after (parts_of w) s.0 s.1
        (by_its_log w state entries said c o b (w.logs o.tid) refl))

    -- ---- its versions are removed

    -- the cell of a record that is left is loaded: it has a version of the orphan, or is seen to
    load_at : (w : World) (state : SiState) (entries : List Entry) (said : Answer) (c : Claimed) (o : Lost) (log : LogCell) (key : Key) (keys : List Key)
        → are_rising log.entry.writes ≡ true
        → Before R layout setup settings w state entries node.number (doing_so (Stripping c o log (key ∷ keys) None))
        → Hears w state entries (doing_so (Stripping c o log (key ∷ keys) None)) (Record (w.cells key)) said (parts_of w)
    load_at w state entries said c o log key keys rising b = by (is_written o.tid (w.cells key).versions) refl
      where
        by : (x : Bool) → is_written o.tid (w.cells key).versions ≡ x
            → Goes R layout setup settings w state entries [] node.number
            (if x then doing_so (Stripping c o log (key ∷ keys) (Some (loaded w key))) else doing_so (Stripping c o log keys None)) (parts_of w)
        by true e =
            let k : RecoveryIs (Stripping c o log (key ∷ keys) None) (w.recoveries node.number) = b.node_is.recovery in
            works w state entries (Stripping c o log (key ∷ keys) None) b (Stripping c o log (key ∷ keys) (Some (loaded w key))) (parts_of w) []
            (move.LoadLost node.number key k.0 (orphan_of o) log k.1 (record { runs = b.runs; so_far = k.2 }) (left_named log.entry.writes key keys k.5)
            (k.6 key ∙ left_new log.entry.writes key keys)) refl refl refl refl b.node_is.phase refl (λ j. refl) refl (
              k.0,
              k.1,
              put_same node.number (load_lost w key k.0 (orphan_of o) log k.1) w.recoveries
                  ∙ ap (λ y. if y then protocol.Stripping k.0 (orphan_of o) log k.1 (Some (loaded w key)) else protocol.Stripping k.0 (orphan_of o) log (put_at key true k.1) None) e,
              k.3,
              k.4,
              k.5,
              k.6,
              refl,
            ) tt
        by false e =
            let k : RecoveryIs (Stripping c o log (key ∷ keys) None) (w.recoveries node.number) = b.node_is.recovery in
            works w state entries (Stripping c o log (key ∷ keys) None) b (Stripping c o log keys None) (parts_of w) []
            (move.LoadLost node.number key k.0 (orphan_of o) log k.1 (record { runs = b.runs; so_far = k.2 }) (left_named log.entry.writes key keys k.5)
            (k.6 key ∙ left_new log.entry.writes key keys)) refl refl refl refl b.node_is.phase refl (λ j. refl) refl (
              k.0,
              put_at key true k.1,
              put_same node.number (load_lost w key k.0 (orphan_of o) log k.1) w.recoveries
                  ∙ ap (λ y. if y then protocol.Stripping k.0 (orphan_of o) log k.1 (Some (loaded w key)) else protocol.Stripping k.0 (orphan_of o) log (put_at key true k.1) None) e,
              k.3,
              k.4,
              part_rest log.entry.writes key keys k.5,
              seen_next log.entry.writes key keys k.1 rising k.5 k.6,
              tt,
            ) tt

    -- it is stored without the orphan's version
    store_at : (w : World) (state : SiState) (entries : List Entry) (c : Claimed) (o : Lost) (log : LogCell) (key : Key) (keys : List Key) (l : Loaded)
        → are_rising log.entry.writes ≡ true
        → Before R layout setup settings w state entries node.number (doing_so (Stripping c o log (key ∷ keys) (Some l)))
        → (stamp : ℕ) → (w.cells l.key).stamp ≡ l.stamp → l.stamp < stamp
        → Goes R layout setup settings w state entries [] node.number (doing_so (Stripping c o log keys None))
        (stored_record (parts_of w) l.key (strip o.tid l.versions) stamp)
    store_at w state entries c o log key keys l rising b stamp same above =
        let k : RecoveryIs (Stripping c o log (key ∷ keys) (Some l)) (w.recoveries node.number) = b.node_is.recovery in
        works w state entries (Stripping c o log (key ∷ keys) (Some l)) b (Stripping c o log keys None)
        (stored_record (parts_of w) l.key (strip o.tid l.versions) stamp) []
        (move.StoreLost node.number stamp k.0 (orphan_of o) log k.1 l (record { runs = b.runs; so_far = k.2 }) same above) refl refl refl refl
        b.node_is.phase refl (λ j. refl) refl (
          k.0,
          put_at l.key true k.1,
          put_same node.number (protocol.Stripping k.0 (orphan_of o) log (put_at l.key true k.1) None) w.recoveries,
          k.3,
          k.4,
          part_rest log.entry.writes key keys k.5,
          subst (λ x. (y : Key) → put_at x true k.1 y ≡ seen_but log.entry.writes keys y) (sym k.7) (seen_next log.entry.writes key keys k.1 rising k.5 k.6),
          tt,
        ) tt

    -- it has changed
    moved_at : (w : World) (state : SiState) (entries : List Entry) (c : Claimed) (o : Lost) (log : LogCell) (key : Key) (keys : List Key) (l : Loaded)
        → Before R layout setup settings w state entries node.number (doing_so (Stripping c o log (key ∷ keys) (Some l)))
        → ((w.cells l.key).stamp == l.stamp) ≡ false
        → Goes R layout setup settings w state entries [] node.number (doing_so (Stripping c o log (key ∷ keys) None)) (parts_of w)
    moved_at w state entries c o log key keys l b moved =
        let k : RecoveryIs (Stripping c o log (key ∷ keys) (Some l)) (w.recoveries node.number) = b.node_is.recovery in
        works w state entries (Stripping c o log (key ∷ keys) (Some l)) b (Stripping c o log (key ∷ keys) None) (parts_of w) []
        (move.MovedLost node.number k.0 (orphan_of o) log k.1 l (record { runs = b.runs; so_far = k.2 }) moved) refl refl refl refl
        b.node_is.phase refl (λ j. refl) refl
        (k.0, k.1, put_same node.number (protocol.Stripping k.0 (orphan_of o) log k.1 None) w.recoveries, k.3, k.4, k.5, k.6, tt) tt

    -- the log cell says that none is left
    mark_at : (w : World) (state : SiState) (entries : List Entry) (c : Claimed) (o : Lost) (log : LogCell)
        → Before R layout setup settings w state entries node.number (doing_so (Stripping c o log [] None))
        → (stamp : ℕ) → log_stamp (w.logs log.entry.tid) ≡ log.stamp → log.stamp < stamp
        → Goes R layout setup settings w state entries [] node.number (doing_so (Finishing c o false None))
        (stored_log (parts_of w) (marked 0 flag.Undone log).entry stamp)
    mark_at w state entries c o log b stamp same above =
        let k : RecoveryIs (Stripping c o log [] None) (w.recoveries node.number) = b.node_is.recovery in
        let at : Recovers w node.number (protocol.Stripping k.0 (orphan_of o) log k.1 None) = record { runs = b.runs; so_far = k.2 } in
        let r : Reached setup w state entries = reached b.opening b.reach in
        let know : RecoveryOk (base w) r.ghost.phases (protocol.Stripping k.0 (orphan_of o) log k.1 None) =
        recovery_at w r.ledger r.ghost r.inv node.number (protocol.Stripping k.0 (orphan_of o) log k.1 None) at in
        let its : log.entry.tid ≡ o.tid = ap (λ (x : LogCell). x.entry.tid) know.1.log_is ∙ know.1.tid in
        works w state entries (Stripping c o log [] None) b (Finishing c o false None) (stored_log (parts_of w) (marked 0 flag.Undone log).entry stamp) []
        (move.MarkLost node.number stamp k.0 (orphan_of o) log k.1 at (seen_all log.entry.writes k.1 k.6)
        (sym (ap (λ (x : ℕ). log_stamp (w.logs x)) its) ∙ same) above) refl refl refl
        (ap (λ (x : ℕ). record (parts_of w) { logs = put x (Some (marked stamp flag.Undone log)) w.logs }) (sym its))
        b.node_is.phase refl (λ j. refl) refl
        (k.0, put_same node.number (protocol.Finishing k.0 (orphan_of o) false None) w.recoveries, k.3, k.4) tt

    stripping_at : (c : Claimed) (o : Lost) (log : LogCell) (keys : List Key) (l : Option Loaded) → are_rising log.entry.writes ≡ true
        → Steps R layout setup settings (doing_so (Stripping c o log keys l))
    stripping_at c o log [] None rising =
        steps_as R layout setup settings (doing_so (Stripping c o log [] None)) (StoreLog log.stamp (marked 0 flag.Undone log).entry) refl
        (λ w state entries reply said after b s means.
        hears_store w state entries (doing_so (Stripping c o log [] None)) reply said after (log_stamp (w.logs log.entry.tid)) log.stamp
        (stored_log (parts_of w) (marked 0 flag.Undone log).entry) s
        (λ fresh same above. mark_at w state entries c o log b fresh same above)
        (λ moved. stops R layout setup settings w state entries node.number (doing_so (Stripping c o log [] None)) b (parts_of w) refl)
        (stops R layout setup settings w state entries node.number (doing_so (Stripping c o log [] None)) b (parts_of w) refl))
    stripping_at c o log (key ∷ keys) None rising =
        steps_as R layout setup settings (doing_so (Stripping c o log (key ∷ keys) None)) (LoadRecord key) refl
        (λ w state entries reply said after b s means.
        hears w state entries (doing_so (Stripping c o log (key ∷ keys) None)) reply (Record (w.cells key)) said after (parts_of w) s.0 s.1
        (load_at w state entries said c o log key keys rising b))
    stripping_at c o log [] (Some l) rising =
        steps_as R layout setup settings (doing_so (Stripping c o log [] (Some l))) (StoreRecord l.key l.stamp (strip o.tid l.versions)) refl
        (λ w state entries reply said after b s means.
        let k : RecoveryIs (Stripping c o log [] (Some l)) (w.recoveries node.number) = b.node_is.recovery in absurd k.7)
    stripping_at c o log (key ∷ keys) (Some l) rising =
        steps_as R layout setup settings (doing_so (Stripping c o log (key ∷ keys) (Some l))) (StoreRecord l.key l.stamp (strip o.tid l.versions)) refl
        (λ w state entries reply said after b s means.
        hears_store w state entries (doing_so (Stripping c o log (key ∷ keys) (Some l))) reply said after (w.cells l.key).stamp l.stamp
        (stored_record (parts_of w) l.key (strip o.tid l.versions)) s
        (λ fresh same above. store_at w state entries c o log key keys l rising b fresh same above)
        (λ moved. moved_at w state entries c o log key keys l b moved)
        (stops R layout setup settings w state entries node.number (doing_so (Stripping c o log (key ∷ keys) (Some l))) b (parts_of w) refl))

    -- ---- it is finished

    -- the commits cell is loaded: the orphan is there, or is to be put there
    seen_at : (w : World) (state : SiState) (entries : List Entry) (c : Claimed) (o : Lost) (committed : Bool)
        → Before R layout setup settings w state entries node.number (doing_so (Finishing c o committed None))
        → (x : Bool) → has w.commits.finished o.tid ≡ x
        → Goes R layout setup settings w state entries [] node.number
        (if x then doing_so (EndingLost c o) else doing_so (Finishing c o committed (Some w.commits))) (parts_of w)
    seen_at w state entries c o committed b true e =
        let k : RecoveryIs (Finishing c o committed None) (w.recoveries node.number) = b.node_is.recovery in
        works w state entries (Finishing c o committed None) b (EndingLost c o) (parts_of w) []
        (move.LoadFinish node.number k.0 (orphan_of o) committed (record { runs = b.runs; so_far = k.1 })) refl refl refl refl
        b.node_is.phase refl (λ j. refl) refl (
          k.0,
          put_same node.number (load_finish w k.0 (orphan_of o) committed) w.recoveries
              ∙ ap (λ y. if y then protocol.Closed k.0 (orphan_of o) else protocol.Finishing k.0 (orphan_of o) committed (Some w.commits)) e,
          k.2,
          k.3,
        ) tt
    seen_at w state entries c o committed b false e =
        let k : RecoveryIs (Finishing c o committed None) (w.recoveries node.number) = b.node_is.recovery in
        works w state entries (Finishing c o committed None) b (Finishing c o committed (Some w.commits)) (parts_of w) []
        (move.LoadFinish node.number k.0 (orphan_of o) committed (record { runs = b.runs; so_far = k.1 })) refl refl refl refl
        b.node_is.phase refl (λ j. refl) refl (
          k.0,
          put_same node.number (load_finish w k.0 (orphan_of o) committed) w.recoveries
              ∙ ap (λ y. if y then protocol.Closed k.0 (orphan_of o) else protocol.Finishing k.0 (orphan_of o) committed (Some w.commits)) e,
          k.2,
          k.3,
        ) tt

    -- it is stored with the orphan in it
    finish_at : (w : World) (state : SiState) (entries : List Entry) (c : Claimed) (o : Lost) (committed : Bool) (x : CommitsCell)
        → Before R layout setup settings w state entries node.number (doing_so (Finishing c o committed (Some x)))
        → (stamp : ℕ) → w.commits.stamp ≡ x.stamp → x.stamp < stamp
        → Goes R layout setup settings w state entries (finished_so committed o.tid ∷ []) node.number (doing_so (EndingLost c o))
        (stored_commits (parts_of w) (inserted x.finished o.tid) stamp)
    finish_at w state entries c o committed x b stamp same above =
        let k : RecoveryIs (Finishing c o committed (Some x)) (w.recoveries node.number) = b.node_is.recovery in
        works w state entries (Finishing c o committed (Some x)) b (EndingLost c o) (stored_commits (parts_of w) (inserted x.finished o.tid) stamp)
        (finished_so committed o.tid ∷ [])
        (move.StoreFinish node.number stamp k.0 (orphan_of o) committed x (record { runs = b.runs; so_far = k.1 }) same above) refl refl refl refl
        b.node_is.phase refl (λ j. refl) refl
        (k.0, put_same node.number (protocol.Closed k.0 (orphan_of o)) w.recoveries, k.2, k.3) tt

    -- it has changed
    seen_moved_at : (w : World) (state : SiState) (entries : List Entry) (c : Claimed) (o : Lost) (committed : Bool) (x : CommitsCell)
        → Before R layout setup settings w state entries node.number (doing_so (Finishing c o committed (Some x)))
        → (w.commits.stamp == x.stamp) ≡ false
        → Goes R layout setup settings w state entries [] node.number (doing_so (Finishing c o committed None)) (parts_of w)
    seen_moved_at w state entries c o committed x b moved =
        let k : RecoveryIs (Finishing c o committed (Some x)) (w.recoveries node.number) = b.node_is.recovery in
        works w state entries (Finishing c o committed (Some x)) b (Finishing c o committed None) (parts_of w) []
        (move.MovedFinish node.number k.0 (orphan_of o) committed x (record { runs = b.runs; so_far = k.1 }) moved) refl refl refl refl
        b.node_is.phase refl (λ j. refl) refl
        (k.0, put_same node.number (protocol.Finishing k.0 (orphan_of o) committed None) w.recoveries, k.2, k.3) tt

    finishing_at : (c : Claimed) (o : Lost) (committed : Bool) (x : Option CommitsCell)
        → Steps R layout setup settings (doing_so (Finishing c o committed x))
    finishing_at c o committed None =
        steps_as R layout setup settings (doing_so (Finishing c o committed None)) LoadCommits refl
        (λ w state entries reply said after b s means.
        hears w state entries (doing_so (Finishing c o committed None)) reply (Commits w.commits) said after (parts_of w) s.0 s.1
        (seen_at w state entries c o committed b (has w.commits.finished o.tid) refl))
    finishing_at c o committed (Some x) =
        steps_as R layout setup settings (doing_so (Finishing c o committed (Some x))) (StoreCommits x.stamp (inserted x.finished o.tid)) refl
        (λ w state entries reply said after b s means.
        hears_store w state entries (doing_so (Finishing c o committed (Some x))) reply said after w.commits.stamp x.stamp
        (stored_commits (parts_of w) (inserted x.finished o.tid)) s
        (λ fresh same above. finish_at w state entries c o committed x b fresh same above)
        (λ moved. seen_moved_at w state entries c o committed x b moved)
        (stops R layout setup settings w state entries node.number (doing_so (Finishing c o committed (Some x))) b (parts_of w) refl))

    -- ---- its manager ends it

    ended_at : (w : World) (state : SiState) (entries : List Entry) (c : Claimed) (o : Lost) (left : List ℕ)
        → Before R layout setup settings w state entries node.number (doing_so (EndingLost (record c { left = left }) o))
        → Goes R layout setup settings w state entries (says_recovered (doing_so (EndingLost (record c { left = left }) o)) (record c { left = left }) [] left)
        node.number (next_duty (doing_so (EndingLost (record c { left = left }) o)) (record c { left = left }))
        (record (parts_of w) { active = put o.node None w.active })
    ended_at w state entries c o left b =
        let k : RecoveryIs (EndingLost (record c { left = left }) o) (w.recoveries node.number) = b.node_is.recovery in
        goes_next w state entries (EndingLost (record c { left = left }) o) b c left k.0 (record (parts_of w) { active = put o.node None w.active })
        (move.EndLost node.number k.0 (orphan_of o) (record { runs = b.runs; so_far = k.1 })) refl refl refl refl
        b.node_is.phase refl (λ j. refl) b.runs (put_same node.number (protocol.Next k.0) w.recoveries) k.2

    -- the orphan is active at its manager
    orphan_active : (w : World) (state : SiState) (entries : List Entry) (c : Claimed) (o : Lost)
        → Before R layout setup settings w state entries node.number (doing_so (EndingLost c o))
        → (x : Active) × (w.active o.node ≡ Some x) × (x.tid ≡ o.tid)
    orphan_active w state entries c o b =
        let k : RecoveryIs (EndingLost c o) (w.recoveries node.number) = b.node_is.recovery in
        let at : Recovers w node.number (protocol.Closed k.0 (orphan_of o)) = record { runs = b.runs; so_far = k.1 } in
        let r : Reached setup w state entries = reached b.opening b.reach in
        let know : RecoveryOk (base w) r.ghost.phases (protocol.Closed k.0 (orphan_of o)) =
        recovery_at w r.ledger r.ghost r.inv node.number (protocol.Closed k.0 (orphan_of o)) at in
        let active : ActiveOk o.node (Ending o.tid know.1.0) (w.active o.node) =
        active_part w r.ledger r.ghost r.inv o.node (Ending o.tid know.1.0) know.1.1 in
        (record { tid = o.tid; node = o.node; snapshot = active.0 }, active.1, refl)

    ending_at : (c : Claimed) (o : Lost) (left : List ℕ) → Steps R layout setup settings (doing_so (EndingLost (record c { left = left }) o))
    ending_at c o left =
        steps_as R layout setup settings (doing_so (EndingLost (record c { left = left }) o)) (AskManager (home_of settings o.node) (manager.End o.tid)) refl
        (λ w state entries reply said after b s means.
        let k : RecoveryIs (EndingLost (record c { left = left }) o) (w.recoveries node.number) = b.node_is.recovery in
        let x = orphan_active w state entries (record c { left = left }) o b in
        hears w state entries (doing_so (EndingLost (record c { left = left }) o)) reply (Told replied.Ended) said after
        (record (parts_of w) { active = put o.node None w.active }) s.0 (s.1 o.node x.0 x.1 x.2)
        (subst
        (λ tids.
        Goes R layout setup settings w state entries (says_recovered (doing_so (EndingLost (record c { left = left }) o)) (record c { left = left }) tids left)
        node.number (next_lost (doing_so (EndingLost (record c { left = left }) o)) (record c { left = left }) o.node tids)
        (record (parts_of w) { active = put o.node None w.active }))
        (sym k.3) (ended_at w state entries c o left b)))

  -- ---- RECOVER

  module _ (node : Node) (gone : ℕ) (later : List Bound) where
    abbrev recovers : Node
    recovers = record node { todo = bound.Recover gone ∷ later; doing = Outside }

    -- there is no notice
    there_at : (w : World) (state : SiState) (entries : List Entry) (said : Answer)
        → Before R layout setup settings w state entries node.number recovers → w.notices gone ≡ None
        → Hears w state entries recovers (Told replied.There) said (parts_of w)
    there_at w state entries said b none =
        going R layout setup settings w state entries node.number recovers b
        (record node { todo = later; answers = node.answers ++ answer.There gone ∷ []; doing = Outside }) (parts_of w)
        (says node.number (statement_number node) (bound.Recover gone) (answer.There gone) ∷ [])
        (move.There node.number (statement_number node) gone (record { runs = b.runs; so_far = b.node_is.phase }) b.node_is.recovery none) refl refl refl refl
        (turned R settings recovers (record node { todo = later; answers = node.answers ++ answer.There gone ∷ []; doing = Outside }) w w node.number b.node_is
        refl refl (λ j. refl) b.node_is.phase b.node_is.recovery (present_outside later))

    -- the notice is taken
    given_at : (w : World) (state : SiState) (entries : List Entry) (said : Answer)
        → Before R layout setup settings w state entries node.number recovers → 1 ≤ gone → gone ≤ 16
        → (set : NodeSet) (also : ℕ → Bool) → w.notices gone ≡ Some also → AreNodes also set → ((d : ℕ) → 16 < d → has_node set d ≡ false)
        → Hears w state entries recovers (Told (replied.Given set)) said (record (parts_of w) { notices = put gone None w.notices })
    given_at w state entries said b some few set also posted are small =
        let duties : Duties = record { node = gone; all = put gone true also; left = put gone true also } in
        let c : Claimed = record { node = gone; all = with_node set gone; left = nodes_in (with_node set gone) } in
        works node (bound.Recover gone) later w state entries Outside b (Recovering c) (record (parts_of w) { notices = put gone None w.notices }) []
        (move.Claim node.number gone also (record { runs = b.runs; so_far = b.node_is.phase }) b.node_is.recovery posted) refl refl refl refl
        b.node_is.phase refl (λ j. refl) refl
        (duties, put_same node.number (protocol.Next duties) w.recoveries, claimed_ok also set gone some few small are) tt

    claim_goes : (w : World) (state : SiState) (entries : List Entry) (reply : Heard) (said : Answer) (after : Parts) → 1 ≤ gone → gone ≤ 16
        → Before R layout setup settings w state entries node.number recovers
        → Serves settings (parts_of w) node.number (AskManager (home_of settings gone) (manager.Claim gone)) reply after
        → ((set : NodeSet) → reply ≡ Told (replied.Given set) → (d : ℕ) → 16 < d → has_node set d ≡ false)
        → Hears w state entries recovers reply said after
    claim_goes w state entries reply said after some few b s small =
        ⊎_elim
        (λ x. hears w state entries recovers reply (Told replied.There) said after (parts_of w) x.1 x.2 (there_at w state entries said b x.0))
        (λ x. hears w state entries recovers reply (Told (replied.Given x.0)) said after (record (parts_of w) { notices = put gone None w.notices }) x.4 x.5
        (given_at w state entries said b some few x.0 x.1 x.2 x.3 (small x.0 x.4))) s

  -- what is to be shown of a node, where no node above 16 is given to it
  abbrev pub StepsSmall : Node → Type 0
  StepsSmall node =
      (n : ℕ) (ask : Ask) → asks settings setup.catalog node ≡ Some ask
      → (w : World) (state : SiState) (entries : List Entry) (reply : Heard) (said : Answer) (after : Parts)
      → Before R layout setup settings w state entries n node
      → Serves settings (parts_of w) n ask reply after
      → (small : (set : NodeSet) → reply ≡ Told (replied.Given set) → (d : ℕ) → 16 < d → has_node set d ≡ false)
      → Goes R layout setup settings w state entries (says_at settings setup.catalog state.commits node reply said) n
      (takes settings setup.catalog node reply said) after

  -- where no node above 16 has vanished
  abbrev pub StepsFew : Node → Type 0
  StepsFew node =
      (n : ℕ) (ask : Ask) → asks settings setup.catalog node ≡ Some ask
      → (w : World) (state : SiState) (entries : List Entry) (reply : Heard) (said : Answer) (after : Parts)
      → Before R layout setup settings w state entries n node
      → Serves settings (parts_of w) n ask reply after
      → (few : (d : ℕ) → w.gone d ≡ true → d ≤ 16)
      → Goes R layout setup settings w state entries (says_at settings setup.catalog state.commits node reply said) n
      (takes settings setup.catalog node reply said) after

  claim_steps : (node : Node) (gone : ℕ) (later : List Bound) → 1 ≤ gone → gone ≤ 16 → StepsSmall (recovers node gone later)
  claim_steps node gone later some few n ask e w state entries reply said after b s small =
      let its : AskManager (home_of settings gone) (manager.Claim gone) ≡ ask = same_Some (AskManager (home_of settings gone) (manager.Claim gone)) ask e in
      subst
      (λ (k : ℕ).
      Before R layout setup settings w state entries k (recovers node gone later)
      → Goes R layout setup settings w state entries (says_at settings setup.catalog state.commits (recovers node gone later) reply said) k
      (takes settings setup.catalog (recovers node gone later) reply said) after)
      b.node_is.number
      (λ h. claim_goes node gone later w state entries reply said after some few h
      (subst (λ a. Serves settings (parts_of w) node.number a reply after) (sym its)
      (subst (λ (k : ℕ). Serves settings (parts_of w) k ask reply after) (sym b.node_is.number) s)) small) b

  recover_of : (statement : Bound) (gone : ℕ) → course_outside statement ≡ ToRecover gone → statement ≡ bound.Recover gone
  recover_of bound.Begin gone e = absurd cc
  recover_of (bound.Select query) gone e = absurd cc
  recover_of (bound.Change edit) gone e = absurd cc
  recover_of bound.Commit gone e = absurd cc
  recover_of bound.Rollback gone e = absurd cc
  recover_of (bound.Recover other) gone e = ap bound.Recover (same other gone e)
    where
      same : (x y : ℕ) → ToRecover x ≡ ToRecover y → x ≡ y
      same x y e = cc

  -- RECOVER outside a transaction
  pub recover_steps : (node : Node) (statement : Bound) (later : List Bound) (gone : ℕ) → node.todo ≡ statement ∷ later → node.doing ≡ Outside
      → course_outside statement ≡ ToRecover gone → 1 ≤ gone → gone ≤ 16 → StepsSmall node
  recover_steps node statement later gone e f course some few =
      subst (λ x. StepsSmall (record node { doing = x })) (sym f)
      (subst (λ x. StepsSmall (record node { todo = x; doing = Outside })) (sym (e ∙ ap (λ x. x ∷ later) (recover_of statement gone course)))
      (claim_steps node gone later some few))

  -- the nodes of a notice have vanished
  given_few : (w : World) (state : SiState) (entries : List Entry) (n : ℕ) (node : Node) → Before R layout setup settings w state entries n node
      → ((d : ℕ) → w.gone d ≡ true → d ≤ 16) → (gone : ℕ) (also : ℕ → Bool) (set : NodeSet) → w.notices gone ≡ Some also → AreNodes also set
      → (d : ℕ) → 16 < d → has_node set d ≡ false
  given_few w state entries n node b few gone also set posted_so are d above = by (has_node set d) refl
    where
      named : (d : ℕ) (x : Bool) → 16 < d → x ≡ true → (nat_le 1 d && x) ≡ true
      named d x above e = grind (arith, nat_tests)

      right : (x y : Bool) → y ≡ true → (x || y) ≡ true
      right x y e = grind arith

      by : (x : Bool) → has_node set d ≡ x → x ≡ false
      by true e =
          let r : Reached setup w state entries = reached b.opening b.reach in
          let mends_so : posted (w.notices gone) gone d ≡ true =
          ap (λ o. posted o gone d) posted_so ∙ right (gone == d) (also d) (are d ∙ named d (has_node set d) above e) in
          let least : d ≤ 16 = few d (r.inv.link.one d (Notice gone) mends_so).1 in
          absurd (omega arith)
      by false e = refl

  -- so none above 16 is given where none has vanished
  recover_few : (node : Node) (gone : ℕ) (later : List Bound) → 1 ≤ gone → gone ≤ 16 → StepsFew (recovers node gone later)
  recover_few node gone later some least n ask e w state entries reply said after b s few =
      claim_steps node gone later some least n ask e w state entries reply said after b s
      (λ set is. ⊎_elim (λ x. absurd (two set (sym is ∙ x.1)))
      (λ x. given_few w state entries n (recovers node gone later) b few gone x.1 set x.2 (subst (AreNodes x.1) (sym (given_same set x.0 (sym is ∙ x.4))) x.3))
      (subst (λ a. Serves settings (parts_of w) n a reply after) (sym (same_Some (AskManager (home_of settings gone) (manager.Claim gone)) ask e)) s))
    where
      two : (set : NodeSet) → Told (replied.Given set) ≡ Told replied.There → ⊥
      two set e = cc

      given_same : (x y : NodeSet) → Told (replied.Given x) ≡ Told (replied.Given y) → x ≡ y
      given_same x y e = cc

  pub recover_steps_few : (node : Node) (statement : Bound) (later : List Bound) (gone : ℕ) → node.todo ≡ statement ∷ later → node.doing ≡ Outside
      → course_outside statement ≡ ToRecover gone → 1 ≤ gone → gone ≤ 16 → StepsFew node
  recover_steps_few node statement later gone e f course some least =
      subst (λ x. StepsFew (record node { doing = x })) (sym f)
      (subst (λ x. StepsFew (record node { todo = x; doing = Outside })) (sym (e ∙ ap (λ x. x ∷ later) (recover_of statement gone course)))
      (recover_few node gone later some least))

  -- ---- a node that recovers

  module _ (node : Node) (statement : Bound) (later : List Bound) (e : node.todo ≡ statement ∷ later) where
    pub recovering_steps : (c : Claimed) → node.doing ≡ Recovering c → Steps R layout setup settings node
    recovering_steps c f =
        steps_at R layout setup settings node (statement ∷ later) (Recovering c) e f (recovering_at node statement later c c.left)

    pub reading_log_steps : (c : Claimed) (o : Lost) → node.doing ≡ ReadingLog c o → Steps R layout setup settings node
    reading_log_steps c o f =
        steps_at R layout setup settings node (statement ∷ later) (ReadingLog c o) e f (reading_log_at node statement later c o)

    pub stripping_steps : (c : Claimed) (o : Lost) (log : LogCell) (keys : List Key) (l : Option Loaded) → node.doing ≡ Stripping c o log keys l
        → are_rising log.entry.writes ≡ true → Steps R layout setup settings node
    stripping_steps c o log keys l f rising =
        steps_at R layout setup settings node (statement ∷ later) (Stripping c o log keys l) e f (stripping_at node statement later c o log keys l rising)

    pub finishing_steps : (c : Claimed) (o : Lost) (committed : Bool) (x : Option CommitsCell) → node.doing ≡ Finishing c o committed x
        → Steps R layout setup settings node
    finishing_steps c o committed x f =
        steps_at R layout setup settings node (statement ∷ later) (Finishing c o committed x) e f (finishing_at node statement later c o committed x)

    pub end_lost_steps : (c : Claimed) (o : Lost) → node.doing ≡ EndingLost c o → Steps R layout setup settings node
    end_lost_steps c o f =
        steps_at R layout setup settings node (statement ∷ later) (EndingLost c o) e f (ending_at node statement later c o c.left)
