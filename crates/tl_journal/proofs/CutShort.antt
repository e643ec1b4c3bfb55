-- A node that wants memory at a reply at which it would answer or meet a rival says nothing; what else follows from the event
-- stands.
use Rattle.std.proofs.Common.{◌≡◌, ℕ, Bool, true, false, inl, inr, List, [], ◌∷◌, Option, Some, None, refl, sym, ap, ◌∙◌, subst, ⊎_elim}
use Rattle.std.specs.Prelude.{slice_set}
use Rattle.std.proofs.lemmas.Option.{same_Some}
use Rattle.tl_base.specs.declared.place.Settings.{Settings}
use Rattle.tl_schema.specs.declared.catalog.Catalog.{Catalog}
use Rattle.tl_schema.specs.declared.catalog.Setup.{Setup}
use Rattle.tl_values.specs.declared.value.Value.{Value}
use Rattle.tl_descriptor.specs.Tids.{TidSet}
use Rattle.tl_manager.specs.declared.active.Active.{Active}
use Rattle.tl_manager.specs.declared.request.ManagerReply.TheVariants as reply
use Rattle.tl_manager.specs.declared.request.ManagerRequest.TheVariants as asked
use Rattle.tl_manager.specs.Floor.{newer}
use Rattle.tl_manager.specs.State.{opening_copy}
use Rattle.tl_versions.specs.Versions.{stranger}
use Rattle.tl_write.specs.declared.write.Write.{Write}
use Rattle.tl_isolation.specs.declared.bound.Bound.{Bound}
use Rattle.tl_isolation.specs.declared.bound.Bound.TheVariants as bound
use Rattle.tl_isolation.specs.declared.entry.Answer.{Answer}
use Rattle.tl_isolation.specs.declared.entry.Entry.{Entry}
use Rattle.tl_isolation.specs.declared.entry.Entry.TheVariants as entry
use Rattle.tl_isolation.specs.declared.state.SiState.{SiState}
use Rattle.tl_protocol.specs.Store.{CommitsCell, put}
use Rattle.tl_protocol.specs.World.{Ready, Stage, Fresh, Opened, Answering, Txn, Fact, Ending, Loaded, Decision, Commit, Undo, World, At, Recovers}
use Rattle.tl_protocol.specs.World as protocol
use Rattle.tl_protocol.specs.Move as move
use Rattle.tl_protocol.specs.Move.{Move}
use Rattle.tl_protocol.specs.Next.{begun_txn, next}
use Rattle.tl_protocol.specs.Told.{count_in, finished_as, finished_so, told}
use Rattle.tl_protocol.specs.Run.{Layout}
use Rattle.tl_protocol.proofs.Duties.{active_part}
use Rattle.tl_protocol.proofs.Frames.{put_same}
use Rattle.tl_protocol.proofs.Inv.{ActiveOk, RecoveryOk, base}
use Rattle.tl_protocol.proofs.Reached.{Reached, reached}
use Rattle.tl_protocol.proofs.Steps.{recovery_at}
use Rattle.tl_journal.specs.Ask.{Ask, AskManager, Heard, Commits, Record, Page, Stored, Told}
use Rattle.tl_journal.specs.Bytes.{home_of}
use Rattle.tl_journal.specs.Reads.{Read, Point, Range, Reads, all_reads, begin_reads, tables_read}
use Rattle.tl_journal.specs.Node.{Storing, Claimed, Lost, Doing, Outside, Noted, Inside, Reading, Trying, Stores, Closing, Recovering, Finishing, EndingLost, Stopped, Node, owed_by}
use Rattle.tl_journal.specs.Node as node_so
use Rattle.tl_journal.specs.Asks.{Course, ToBegin, ToRead, ToIdle, ToCommit, ToRecover, ask_floor, asks, asks_duty, asks_inside, asks_read, asks_storing, course_in}
use Rattle.tl_journal.specs.Takes.{after_reply, begins, finds, goes_on, idles, learnt, next_duty, next_lost, said, stopped, takes_idle, takes_inside, takes_noted, takes_outside, takes_read, takes_recovering, takes_storing}
use Rattle.tl_journal.specs.Says.{says_at, says_closing, says_commit, says_finishing, says_idle, says_inside, says_noted, says_outside, says_read, says_recovered, says_recovering, says_rival, says_storing}
use Rattle.tl_journal.specs.Served.{IsMark, Parts, Serves, begun_parts, parts_of}
use Rattle.tl_journal.specs.Memory.{cut_short, has_said, is_ending, unsaid}
use Rattle.tl_journal.proofs.Meets.{Before, Goes, RecoveryIs, orphan_of}
use Rattle.tl_journal.proofs.Owed.{owed_is}
use Rattle.tl_journal.proofs.Goings.{going, is_floor, is_vanishing, mover, stops, turned, turned_learnt, present_of_stopped}

-- ---- where nothing is said

quiet_commit : (t : Txn) (heard : Heard) → has_said (says_commit t heard) ≡ false
quiet_commit t (Commits c) = refl
quiet_commit t (Stored stamp) = refl
quiet_commit t heard = refl

quiet_closing : (t : Txn) (d : Decision) (c : Option CommitsCell) (heard : Heard) → has_said (says_closing t d c heard) ≡ false
quiet_closing t d (Some c) (Stored stamp) = by d
  where
    by : (d : Decision) → has_said (finished_as d t.tid ∷ []) ≡ false
    by Commit = refl
    by (Undo rival) = refl
quiet_closing t d c heard = refl

quiet_finishing : (o : Lost) (committed : Bool) (c : Option CommitsCell) (heard : Heard) → has_said (says_finishing o committed c heard) ≡ false
quiet_finishing o committed (Some c) (Stored stamp) = by committed
  where
    by : (b : Bool) → has_said (finished_so b o.tid ∷ []) ≡ false
    by true = refl
    by false = refl
quiet_finishing o committed c heard = refl

quiet_begin : (node : Node) (statement : Bound) (heard : Heard) → has_said (says_outside node statement ToBegin heard) ≡ false
quiet_begin node statement (Commits c) = refl
quiet_begin node statement heard = refl

-- ---- what is said is all that is told

pub unsaid_read : (node : Node) (statement : Bound) (t : Txn) (o : Option Reads) (told : Answer) → unsaid (says_read node statement t o told) ≡ []
unsaid_read node statement t None told = refl
unsaid_read node statement t (Some after) told = by after.left
  where
    by : (left : List Read) → unsaid (says_read node statement t (Some (record after { left = left })) told) ≡ []
    by [] = refl
    by (read ∷ left) = refl

unsaid_idle : (node : Node) (statement : Bound) (t : Txn) (floor : TidSet) (told : Answer)
    → unsaid (says_idle node statement t (Told (reply.FloorIs floor)) told) ≡ []
unsaid_idle node bound.Begin t floor told = refl
unsaid_idle node (bound.Recover gone) t floor told = refl
unsaid_idle node statement t floor told = refl

unsaid_recovered : (node : Node) (c : Claimed) (tids left : List ℕ) → unsaid (says_recovered node c tids left) ≡ []
unsaid_recovered node c [] [] = refl
unsaid_recovered node c tids left = refl

unsaid_recovering : (node : Node) (c : Claimed) (left : List ℕ) (heard : Heard) → unsaid (says_recovering node c left heard) ≡ []
unsaid_recovering node c (d ∷ left) (Told (reply.Orphaned tids)) = unsaid_recovered node c tids left
unsaid_recovering node c left heard = refl

unsaid_storing : (s : Storing) (o : Write) (left : List Write) (heard : Heard) → unsaid (says_storing s None (o ∷ left) heard) ≡ []
unsaid_storing s o left (Record cell) = by (stranger s.txn.snapshot cell.versions)
  where
    by : (rival : Option ℕ) → unsaid (says_rival s rival) ≡ []
    by None = refl
    by (Some rival) = refl
unsaid_storing s o left heard = refl

-- ---- low-water marks that stay

said_floors : (catalog : Catalog) (node : Node) (statement : Bound) (t : Txn) (rows : List (List (List Value))) (told : Answer)
    → (said catalog node statement t rows told).floors ≡ node.floors
said_floors catalog node statement t rows told = by t.stage
  where
    by : (stage : Stage) → (said catalog node statement (record t { stage = stage }) rows told).floors ≡ node.floors
    by Fresh = refl
    by Opened = refl
    by (Answering before) = refl

goes_on_floors : (catalog : Catalog) (node : Node) (statement : Bound) (t : Txn) (reads : Reads) (told : Answer)
    → (goes_on catalog node statement t reads told).floors ≡ node.floors
goes_on_floors catalog node statement t reads told = by reads.left
  where
    by : (left : List Read) → (goes_on catalog node statement t (record reads { left = left }) told).floors ≡ node.floors
    by [] = said_floors catalog node statement t _ told
    by (read ∷ left) = refl

read_floors : (settings : Settings) (catalog : Catalog) (node : Node) (statement : Bound) (t : Txn) (reads : Reads) (heard : Heard) (told : Answer)
    → (takes_read settings catalog node statement t reads heard told).floors ≡ node.floors
read_floors settings catalog node statement t reads heard told = by reads.left heard
  where
    by : (left : List Read) (heard : Heard) → (takes_read settings catalog node statement t (record reads { left = left }) heard told).floors ≡ node.floors
    by (Point key ∷ left) (Record cell) = goes_on_floors catalog node statement t _ told
    by (Range shard from first before ∷ left) (Page found more) = goes_on_floors catalog node statement t _ told
    by left heard = refl

idles_floors : (catalog : Catalog) (node : Node) (statement : Bound) (t : Txn) (reads : Reads) (told : Answer)
    → (idles catalog node statement t reads told).floors ≡ node.floors
idles_floors catalog node bound.Begin t reads told = refl
idles_floors catalog node (bound.Recover gone) t reads told = refl
idles_floors catalog node (bound.Select query) t reads told = said_floors catalog node (bound.Select query) t (tables_read reads) told
idles_floors catalog node (bound.Change edit) t reads told = said_floors catalog node (bound.Change edit) t (tables_read reads) told
idles_floors catalog node bound.Commit t reads told = said_floors catalog node bound.Commit t (tables_read reads) told
idles_floors catalog node bound.Rollback t reads told = said_floors catalog node bound.Rollback t (tables_read reads) told

duty_floors : (node : Node) (c : Claimed) → (next_duty node c).floors ≡ node.floors
duty_floors node c = by c.left
  where
    by : (left : List ℕ) → (next_duty node (record c { left = left })).floors ≡ node.floors
    by [] = refl
    by (d ∷ left) = refl

lost_floors : (node : Node) (c : Claimed) (d : ℕ) (tids : List ℕ) → (next_lost node c d tids).floors ≡ node.floors
lost_floors node c d [] = duty_floors node c
lost_floors node c d (tid ∷ others) = refl

recovering_floors : (node : Node) (c : Claimed) (left : List ℕ) (heard : Heard) → (takes_recovering node c left heard).floors ≡ node.floors
recovering_floors node c (d ∷ left) (Told (reply.Orphaned tids)) = lost_floors node (record c { left = left }) d tids
recovering_floors node c left heard = refl

storing_floors : (node : Node) (s : Storing) (o : Write) (left : List Write) (heard : Heard) → (takes_storing node s None (o ∷ left) heard).floors ≡ node.floors
storing_floors node s o left (Record cell) = by (stranger s.txn.snapshot cell.versions)
  where
    by : (rival : Option ℕ) → (finds node s o.key cell rival).floors ≡ node.floors
    by None = refl
    by (Some rival) = refl
storing_floors node s o left heard = refl

-- ---- parts that stay

read_parts : (settings : Settings) (p after : Parts) (n : ℕ) (left : List Read) (heard : Heard) → Serves settings p n (asks_read left) heard after → p ≡ after
read_parts settings p after n [] heard serves = sym serves.1
read_parts settings p after n (Point key ∷ left) heard serves = sym serves.1
read_parts settings p after n (Range shard from first before ∷ left) heard serves = sym serves.1

duty_parts : (settings : Settings) (p after : Parts) (n : ℕ) (c : Claimed) (heard : Heard) → Serves settings p n (asks_duty settings c) heard after → p ≡ after
duty_parts settings p after n c heard serves = by c.left serves
  where
    by : (left : List ℕ) → Serves settings p n (asks_duty settings (record c { left = left })) heard after → p ≡ after
    by [] serves = sym serves.1
    by (d ∷ left) serves = sym serves.1

-- the node with these statements left, doing this
abbrev so_far : Node → List Bound → Doing → Node
so_far node todo doing = record node { todo = todo; doing = doing }

module _ (R : Txn → List Fact → Reads → Type 0) (layout : Layout) (setup : Setup) (settings : Settings) where
  -- where something would be said, the protocol goes on without it
  abbrev CutsSo : (w : World) (state : SiState) (entries : List Entry) (node : Node) (ts : List Entry) (floors : List TidSet) (after : Parts) → Type 0
  CutsSo w state entries node ts floors after =
      has_said ts ≡ true → Goes R layout setup settings w state entries (unsaid ts) node.number (record (stopped node) { floors = floors }) after

  -- what is to be shown of a node
  abbrev CutsAs : ℕ → Node → Ask → Type 0
  CutsAs n node ask =
      (w : World) (state : SiState) (entries : List Entry) (heard : Heard) (told : Answer) (after : Parts)
      → Before R layout setup settings w state entries n node
      → Serves settings (parts_of w) n ask heard after
      → has_said (says_at settings setup.catalog state.commits node heard told) ≡ true
      → Goes R layout setup settings w state entries (unsaid (says_at settings setup.catalog state.commits node heard told)) n
      (cut_short settings setup.catalog node heard told) after

  abbrev Cuts : Node → Type 0
  Cuts node = (n : ℕ) (ask : Ask) → asks settings setup.catalog node ≡ Some ask → CutsAs n node ask

  renumber : (node : Node) (n : ℕ) (ask : Ask) → CutsAs node.number node ask → CutsAs n node ask
  renumber node n ask h w state entries heard told after b =
      subst
      (λ k.
      Before R layout setup settings w state entries k node → Serves settings (parts_of w) k ask heard after
      → has_said (says_at settings setup.catalog state.commits node heard told) ≡ true
      → Goes R layout setup settings w state entries (unsaid (says_at settings setup.catalog state.commits node heard told)) k
      (cut_short settings setup.catalog node heard told) after)
      b.node_is.number (h w state entries heard told after) b

  cuts_as : (node : Node) (ask : Ask) → asks settings setup.catalog node ≡ Some ask → CutsAs node.number node ask → Cuts node
  cuts_as node ask e h n other f = subst (λ a. CutsAs n node a) (same_Some ask other (sym e ∙ f)) (renumber node n ask h)

  cuts_at : (node : Node) (todo : List Bound) (doing : Doing) → node.todo ≡ todo → node.doing ≡ doing → Cuts (so_far node todo doing) → Cuts node
  cuts_at node todo doing e f h =
      subst (λ x. Cuts (record node { doing = x })) (sym f) (subst (λ x. Cuts (record node { todo = x; doing = doing })) (sym e) h)

  -- where nothing is said
  cuts_quiet : (node : Node)
      → ((state : SiState) (heard : Heard) (told : Answer) → has_said (says_at settings setup.catalog state.commits node heard told) ≡ false) → Cuts node
  cuts_quiet node h n ask asked w state entries heard told after b serves e = absurd (both _ (h state heard told) e)
    where
      both : (x : Bool) → x ≡ false → x ≡ true → ⊥
      both x e f = cc

  not_said : (w : World) (state : SiState) (entries : List Entry) (node : Node) (ts : List Entry) (floors : List TidSet) (after : Parts)
      → has_said ts ≡ false → CutsSo w state entries node ts floors after
  not_said w state entries node ts floors after e f = absurd (both (has_said ts) e f)
    where
      both : (x : Bool) → x ≡ false → x ≡ true → ⊥
      both x e f = cc

  module _ (w : World) (state : SiState) (entries : List Entry) (node : Node) (b : Before R layout setup settings w state entries node.number node) where
    -- the world stays
    cut_stays : (ts : List Entry) (floors : List TidSet) (after : Parts) → unsaid ts ≡ [] → floors ≡ node.floors → parts_of w ≡ after
        → CutsSo w state entries node ts floors after
    cut_stays ts floors after u e p has =
        subst (λ (x : List Entry). Goes R layout setup settings w state entries x node.number (record (stopped node) { floors = floors }) after) (sym u)
        (subst (λ (f : List TidSet). Goes R layout setup settings w state entries [] node.number (record (stopped node) { floors = f }) after) (sym e)
        (stops R layout setup settings w state entries node.number node b after p))

    -- a low-water mark is learnt
    cut_learns : (ts es : List Entry) (floors : List TidSet) (m : ℕ) (floor : TidSet) (after : Parts) (first : Move w) → mover first ≡ node.number
        → is_vanishing first ≡ false → unsaid ts ≡ es → es ≡ told state.commits w first → floors ≡ slice_set node.floors m floor
        → parts_of (next w first) ≡ after → ((j : ℕ) → (next w first).floors node.number j ≡ put m floor (w.floors node.number) j)
        → (next w first).recoveries node.number ≡ w.recoveries node.number
        → CutsSo w state entries node ts floors after
    cut_learns ts es floors m floor after first is_n on u e f p same r has =
        let new : Node = record (stopped node) { floors = floors } in
        subst (λ (x : List Entry). Goes R layout setup settings w state entries x node.number new after) (sym u)
        (going R layout setup settings w state entries node.number node b new after es first is_n on e p
        (turned_learnt R settings node new w (next w first) node.number m floor b.node_is refl f same tt
        (owed_is node.doing ((next w first).recoveries node.number) (subst (RecoveryIs node.doing) (sym r) b.node_is.recovery))
        (present_of_stopped (owed_by node.doing) node.todo)))

  -- ---- outside a transaction

  -- COMMIT and ROLLBACK are refused there
  outside_idle : (w : World) (state : SiState) (entries : List Entry) (here : Node) (statement : Bound) (heard : Heard) (after : Parts)
      → Before R layout setup settings w state entries here.number here
      → Serves settings (parts_of w) here.number (ask_floor settings here opening_copy) heard after
      → CutsSo w state entries here (says_outside here statement ToIdle heard) (takes_outside settings here ToIdle heard).floors after
  outside_idle w state entries here statement heard after b serves =
      let n : ℕ = here.number in
      let m : ℕ = home_of settings n in
      let floor : TidSet = serves.0.0 in
      let first : Move w =
      move.Learn n m opening_copy floor b.runs (inl refl) (is_floor settings w m (newer (w.copies m) opening_copy) floor b.laid_out serves.0.2) in
      subst (λ x. CutsSo w state entries here (says_outside here statement ToIdle x) (takes_outside settings here ToIdle x).floors after) (sym serves.0.1)
      (cut_learns w state entries here b (says_outside here statement ToIdle (Told (reply.FloorIs floor))) [] (slice_set here.floors m floor) m floor after first
      refl refl refl refl refl (sym serves.1) (λ j. ap (λ x. x j) (put_same n (put m floor (w.floors n)) w.floors)) refl)

  -- there is no notice, or it is taken
  outside_recover : (w : World) (state : SiState) (entries : List Entry) (here : Node) (statement : Bound) (gone : ℕ) (heard : Heard) (after : Parts)
      → Before R layout setup settings w state entries here.number here
      → Serves settings (parts_of w) here.number (AskManager (home_of settings gone) (asked.Claim gone)) heard after
      → CutsSo w state entries here (says_outside here statement (ToRecover gone) heard) (takes_outside settings here (ToRecover gone) heard).floors after
  outside_recover w state entries here statement gone heard after b serves =
      ⊎_elim
      (λ h.
      subst (λ x. CutsSo w state entries here (says_outside here statement (ToRecover gone) x) (takes_outside settings here (ToRecover gone) x).floors after) (sym h.1)
      (cut_stays w state entries here b (says_outside here statement (ToRecover gone) (Told reply.There)) here.floors after refl refl (sym h.2)))
      (λ h.
      subst (λ x. CutsSo w state entries here (says_outside here statement (ToRecover gone) x) (takes_outside settings here (ToRecover gone) x).floors after) (sym h.4)
      (not_said w state entries here [] here.floors after refl))
      serves

  outside : (node : Node) (statement : Bound) (later : List Bound) → Cuts (so_far node (statement ∷ later) Outside)
  outside node bound.Begin later =
      cuts_quiet (so_far node (bound.Begin ∷ later) Outside) (λ state heard told. quiet_begin (so_far node (bound.Begin ∷ later) Outside) bound.Begin heard)
  outside node (bound.Select query) later =
      cuts_quiet (so_far node (bound.Select query ∷ later) Outside)
      (λ state heard told. quiet_begin (so_far node (bound.Select query ∷ later) Outside) (bound.Select query) heard)
  outside node (bound.Change edit) later =
      cuts_quiet (so_far node (bound.Change edit ∷ later) Outside)
      (λ state heard told. quiet_begin (so_far node (bound.Change edit ∷ later) Outside) (bound.Change edit) heard)
  outside node bound.Commit later =
      let here : Node = so_far node (bound.Commit ∷ later) Outside in
      cuts_as here (ask_floor settings here opening_copy) refl
      (λ w state entries heard told after b serves. outside_idle w state entries here bound.Commit heard after b serves)
  outside node bound.Rollback later =
      let here : Node = so_far node (bound.Rollback ∷ later) Outside in
      cuts_as here (ask_floor settings here opening_copy) refl
      (λ w state entries heard told after b serves. outside_idle w state entries here bound.Rollback heard after b serves)
  outside node (bound.Recover gone) later =
      let here : Node = so_far node (bound.Recover gone ∷ later) Outside in
      cuts_as here (AskManager (home_of settings gone) (asked.Claim gone)) refl
      (λ w state entries heard told after b serves. outside_recover w state entries here (bound.Recover gone) gone heard after b serves)

  -- ---- a transaction has begun: of the statement BEGIN it would be said

  begun : (w : World) (state : SiState) (entries : List Entry) (node : Node) (statement : Bound) (later : List Bound) (seen : TidSet) (tid : ℕ) (floor : TidSet) (after : Parts)
      → Before R layout setup settings w state entries node.number (so_far node (statement ∷ later) (Noted seen))
      → w.numbers tid ≡ Ready (w.home node.number) → IsMark settings w.active (w.home node.number) (newer (w.copies (w.home node.number)) seen) floor
      → after ≡ begun_parts (parts_of w) (w.home node.number) node.number tid (newer (w.copies (w.home node.number)) seen)
      → CutsSo w state entries (so_far node (statement ∷ later) (Noted seen))
      (says_noted state.commits (so_far node (statement ∷ later) (Noted seen)) statement
      (Told (reply.Began tid (newer (w.copies (w.home node.number)) seen) floor)))
      (begins (learnt (so_far node (statement ∷ later) (Noted seen)) (w.home node.number) floor) statement
      (begun_txn tid (newer (w.copies (w.home node.number)) seen))).floors after
  begun w state entries node bound.Begin later seen tid floor after b number mark parts =
      let n : ℕ = node.number in
      let m : ℕ = w.home n in
      let copy : TidSet = newer (w.copies m) seen in
      let here : Node = so_far node (bound.Begin ∷ later) (Noted seen) in
      let at : At w n (protocol.Noted seen) = record { runs = b.runs; so_far = b.node_is.phase } in
      let first : Move w = move.Begin n tid seen floor at number (is_floor settings w m copy floor b.laid_out mark) in
      cut_learns w state entries here b (says_noted state.commits here bound.Begin (Told (reply.Began tid copy floor)))
      (entry.Began n tid (count_in copy state.commits) ∷ []) (slice_set here.floors m floor) m floor after first
      refl refl refl refl refl (sym parts) (λ j. ap (λ x. x j) (put_same n (put m floor (w.floors n)) w.floors)) refl
  begun w state entries node statement later seen tid floor after b number mark parts = λ e. absurd cc

  noted : (node : Node) (statement : Bound) (later : List Bound) (seen : TidSet) → Cuts (so_far node (statement ∷ later) (Noted seen))
  noted node statement later seen =
      let n : ℕ = node.number in
      let here : Node = so_far node (statement ∷ later) (Noted seen) in
      cuts_as here (AskManager (home_of settings n) (asked.Begin n seen)) refl
      (λ w state entries heard told after b serves.
      ⊎_elim
      (λ h.
      let tid : ℕ = h.0 in
      let floor : TidSet = h.1 in
      subst (λ x. CutsSo w state entries here (says_noted state.commits here statement x) (takes_noted settings here statement seen x).floors after)
      (sym h.2)
      (subst
      (λ m.
      w.numbers tid ≡ Ready m → IsMark settings w.active m (newer (w.copies m) seen) floor → after ≡ begun_parts (parts_of w) m n tid (newer (w.copies m) seen)
      → CutsSo w state entries here (says_noted state.commits here statement (Told (reply.Began tid (newer (w.copies m) seen) floor)))
      (begins (learnt here m floor) statement (begun_txn tid (newer (w.copies m) seen))).floors after)
      (b.laid_out.home n)
      (λ number mark parts. begun w state entries node statement later seen tid floor after b number mark parts)
      h.3 h.4 h.5))
      (λ h.
      subst (λ x. CutsSo w state entries here (says_noted state.commits here statement x) (takes_noted settings here statement seen x).floors after)
      (sym h.0) (not_said w state entries here [] here.floors after refl))
      serves)

  -- ---- inside one

  -- the last read
  reads_last : (w : World) (state : SiState) (entries : List Entry) (here : Node) (statement : Bound) (t : Txn) (reads : Reads) (heard : Heard) (told : Answer) (after : Parts)
      → Before R layout setup settings w state entries here.number here → Serves settings (parts_of w) here.number (asks_read reads.left) heard after
      → CutsSo w state entries here (says_read here statement t (after_reply settings t.snapshot reads reads.left heard) told)
      (takes_read settings setup.catalog here statement t reads heard told).floors after
  reads_last w state entries here statement t reads heard told after b serves =
      cut_stays w state entries here b (says_read here statement t (after_reply settings t.snapshot reads reads.left heard) told)
      (takes_read settings setup.catalog here statement t reads heard told).floors after
      (unsaid_read here statement t (after_reply settings t.snapshot reads reads.left heard) told)
      (read_floors settings setup.catalog here statement t reads heard told) (read_parts settings (parts_of w) after here.number reads.left heard serves)

  reading : (node : Node) (statement : Bound) (later : List Bound) (t : Txn) (reads : Reads) → Cuts (so_far node (statement ∷ later) (Reading t reads))
  reading node statement later t reads =
      let here : Node = so_far node (statement ∷ later) (Reading t reads) in
      cuts_as here (asks_read reads.left) refl
      (λ w state entries heard told after b serves. reads_last w state entries here statement t reads heard told after b serves)

  module _ (node : Node) (statement : Bound) (later : List Bound) (t : Txn) where
    abbrev now : Node
    now = so_far node (statement ∷ later) (Inside t)

    abbrev CutsInside : Course → Type 0
    CutsInside c =
        (w : World) (state : SiState) (entries : List Entry) (heard : Heard) (told : Answer) (after : Parts)
        → Before R layout setup settings w state entries node.number now
        → Serves settings (parts_of w) node.number (asks_inside settings now t c) heard after
        → CutsSo w state entries now (says_inside settings now statement t c heard told) (takes_inside settings setup.catalog now statement t c heard told).floors after

    inside_so : (c : Course) → CutsInside c
    inside_so (ToRead reads) w state entries heard told after b serves = reads_last w state entries now statement t reads heard told after b serves
    inside_so ToIdle w state entries heard told after b serves =
        let n : ℕ = node.number in
        let m : ℕ = home_of settings n in
        let floor : TidSet = serves.0.0 in
        let first : Move w =
        move.Learn n m t.snapshot floor b.runs (inr (t, [], b.node_is.phase.0, refl)) (is_floor settings w m (newer (w.copies m) t.snapshot) floor b.laid_out serves.0.2) in
        subst
        (λ x. CutsSo w state entries now (says_idle now statement t x told) (takes_idle settings setup.catalog now statement t x told).floors after)
        (sym serves.0.1)
        (cut_learns w state entries now b (says_idle now statement t (Told (reply.FloorIs floor)) told) []
        (takes_idle settings setup.catalog now statement t (Told (reply.FloorIs floor)) told).floors m floor after first
        refl refl (unsaid_idle now statement t floor told) refl
        (idles_floors setup.catalog (learnt now m floor) statement t (begin_reads (all_reads setup.catalog statement)) told)
        (sym serves.1) (λ j. ap (λ x. x j) (put_same n (put m floor (w.floors n)) w.floors)) refl)
    inside_so ToCommit w state entries heard told after b serves =
        not_said w state entries now (says_commit t heard) (takes_inside settings setup.catalog now statement t ToCommit heard told).floors after (quiet_commit t heard)
    inside_so c w state entries heard told after b serves = λ e. absurd cc

    inside : Cuts now
    inside =
        cuts_as now (asks_inside settings now t (course_in setup.catalog t.stage statement)) refl
        (inside_so (course_in setup.catalog t.stage statement))

  -- ---- a node that stores its writes

  -- the cell of the next own record was loaded: the world stays, and the transaction is where it was
  storing_so : (w : World) (state : SiState) (entries : List Entry) (here : Node) (s : Storing) (after : Parts)
      → Before R layout setup settings w state entries here.number here
      → (l : Option Loaded) (left : List Write) (heard : Heard)
      → Serves settings (parts_of w) here.number (asks_storing here (record s { left = left }) l) heard after
      → CutsSo w state entries here (says_storing s l left heard) (takes_storing here s l left heard).floors after
  storing_so w state entries here s after b None (o ∷ left) heard serves =
      cut_stays w state entries here b (says_storing s None (o ∷ left) heard) (takes_storing here s None (o ∷ left) heard).floors after
      (unsaid_storing s o left heard) (storing_floors here s o left heard) (sym serves.1)
  storing_so w state entries here s after b None [] heard serves =
      not_said w state entries here [] (takes_storing here s None [] heard).floors after refl
  storing_so w state entries here s after b (Some l) left heard serves =
      not_said w state entries here [] (takes_storing here s (Some l) left heard).floors after refl

  storing : (node : Node) (statement : Bound) (later : List Bound) (s : Storing) (l : Option Loaded) → Cuts (so_far node (statement ∷ later) (Stores s l))
  storing node statement later s l =
      let here : Node = so_far node (statement ∷ later) (Stores s l) in
      cuts_as here (asks_storing here s l) refl
      (λ w state entries heard told after b serves. storing_so w state entries here s after b l s.left heard serves)

  -- ---- a node that recovers

  recovering : (node : Node) (statement : Bound) (later : List Bound) (c : Claimed) → Cuts (so_far node (statement ∷ later) (Recovering c))
  recovering node statement later c =
      let here : Node = so_far node (statement ∷ later) (Recovering c) in
      cuts_as here (asks_duty settings c) refl
      (λ w state entries heard told after b serves.
      cut_stays w state entries here b (says_recovering here c c.left heard) (takes_recovering here c c.left heard).floors after
      (unsaid_recovering here c c.left heard) (recovering_floors here c c.left heard) (duty_parts settings (parts_of w) after node.number c heard serves))

  -- the orphan is active at its manager
  orphan_active : (w : World) (state : SiState) (entries : List Entry) (here : Node) (c : Claimed) (o : Lost)
      → Before R layout setup settings w state entries here.number here → RecoveryIs (EndingLost c o) (w.recoveries here.number)
      → (x : Active) × (w.active o.node ≡ Some x) × (x.tid ≡ o.tid)
  orphan_active w state entries here c o b k =
      let at : Recovers w here.number (protocol.Closed k.0 (orphan_of o)) = record { runs = b.runs; so_far = k.1 } in
      let r : Reached setup w state entries = reached b.opening b.reach in
      let know : RecoveryOk (base w) r.ghost.phases (protocol.Closed k.0 (orphan_of o)) =
      recovery_at w r.ledger r.ghost r.inv here.number (protocol.Closed k.0 (orphan_of o)) at in
      let active : ActiveOk o.node (Ending o.tid know.1.0) (w.active o.node) =
      active_part w r.ledger r.ghost r.inv o.node (Ending o.tid know.1.0) know.1.1 in
      (record { tid = o.tid; node = o.node; snapshot = active.0 }, active.1, refl)

  -- its manager ends it; the duties stay
  ending_lost : (node : Node) (statement : Bound) (later : List Bound) (c : Claimed) (o : Lost) → Cuts (so_far node (statement ∷ later) (EndingLost c o))
  ending_lost node statement later c o =
      let n : ℕ = node.number in
      let here : Node = so_far node (statement ∷ later) (EndingLost c o) in
      cuts_as here (AskManager (home_of settings o.node) (asked.End o.tid)) refl
      (λ w state entries heard told after b serves has.
      let k : RecoveryIs (EndingLost c o) (w.recoveries n) = b.node_is.recovery in
      let x = orphan_active w state entries here c o b k in
      let first : Move w = move.EndLost n k.0 (orphan_of o) (record { runs = b.runs; so_far = k.1 }) in
      let all : Parts = record (parts_of w) { active = put o.node None w.active } in
      let new : Node = stopped here in
      let goes : Goes R layout setup settings w state entries [] n new after =
      going R layout setup settings w state entries n here b new after [] first refl refl refl (sym (serves.1 o.node x.0 x.1 x.2))
      (turned R settings here new w (next w first) n b.node_is refl refl (λ j. refl) tt
      (owed_is (Recovering c) ((next w first).recoveries n) (k.0, put_same n (protocol.Next k.0) w.recoveries, k.2))
      tt) in
      subst
      (λ (h : Heard).
      Goes R layout setup settings w state entries (unsaid (says_at settings setup.catalog state.commits here h told)) n
      (cut_short settings setup.catalog here h told) after)
      (sym serves.0)
      (subst
      (λ (es : List Entry).
      Goes R layout setup settings w state entries es n
      (cut_short settings setup.catalog here (Told reply.Ended) told) after)
      (sym (unsaid_recovered here c o.others c.left))
      (subst (λ (f : List TidSet). Goes R layout setup settings w state entries [] n (record (stopped here) { floors = f }) after)
      (sym (lost_floors here c o.node o.others)) goes)))

  -- ---- whatever it does

  cuts_doing : (node : Node) (statement : Bound) (later : List Bound) (doing : Doing) → is_ending doing ≡ false → Cuts (so_far node (statement ∷ later) doing)
  cuts_doing node statement later Outside e = outside node statement later
  cuts_doing node statement later (Noted seen) e = noted node statement later seen
  cuts_doing node statement later (Inside t) e = inside node statement later t
  cuts_doing node statement later (Reading t reads) e = reading node statement later t reads
  cuts_doing node statement later (Trying t) e = cuts_quiet (so_far node (statement ∷ later) (Trying t)) (λ state heard told. quiet_commit t heard)
  cuts_doing node statement later (Stores s l) e = storing node statement later s l
  cuts_doing node statement later (Closing t d c) e = cuts_quiet (so_far node (statement ∷ later) (Closing t d c)) (λ state heard told. quiet_closing t d c heard)
  cuts_doing node statement later (node_so.Ending tid told) e = absurd cc
  cuts_doing node statement later (Recovering c) e = recovering node statement later c
  cuts_doing node statement later (Finishing c o committed x) e =
      cuts_quiet (so_far node (statement ∷ later) (Finishing c o committed x)) (λ state heard told. quiet_finishing o committed x heard)
  cuts_doing node statement later (EndingLost c o) e = ending_lost node statement later c o
  cuts_doing node statement later doing e = cuts_quiet (so_far node (statement ∷ later) doing) (λ state heard told. refl)

  cuts : (node : Node) → is_ending node.doing ≡ false → Cuts node
  cuts node e = by node.todo refl
    where
      by : (todo : List Bound) → node.todo ≡ todo → Cuts node
      by [] f = cuts_at node [] node.doing f refl (cuts_quiet (so_far node [] node.doing) (λ state heard told. refl))
      by (statement ∷ later) f = cuts_at node (statement ∷ later) node.doing f refl (cuts_doing node statement later node.doing e)

-- what follows from the event stands, without what would have been said
pub cut_goes : (R : Txn → List Fact → Reads → Type 0) (layout : Layout) (setup : Setup) (settings : Settings) (node : Node) (n : ℕ) (ask : Ask)
    → asks settings setup.catalog node ≡ Some ask
    → (w : World) (state : SiState) (entries : List Entry) (heard : Heard) (told : Answer) (after : Parts)
    → Before R layout setup settings w state entries n node → Serves settings (parts_of w) n ask heard after
    → is_ending node.doing ≡ false → has_said (says_at settings setup.catalog state.commits node heard told) ≡ true
    → Goes R layout setup settings w state entries (unsaid (says_at settings setup.catalog state.commits node heard told)) n
    (cut_short settings setup.catalog node heard told) after
cut_goes R layout setup settings node n ask asked w state entries heard told after b serves e has =
    cuts R layout setup settings node e n ask asked w state entries heard told after b serves has
