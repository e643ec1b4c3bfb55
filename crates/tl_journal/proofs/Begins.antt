-- A node begins a transaction, or is refused a statement: how the protocol goes on.
use Rattle.std.proofs.Common.{◌≡◌, ℕ, ◌+◌, Bool, true, false, ◌⊎◌, inl, inr, List, [], ◌∷◌, Some, refl, sym, ap, ◌∙◌, subst, ⊎_elim, arith}
use Rattle.std.specs.Prelude.{◌-◌, if◌then◌else◌}
use Rattle.tl_base.specs.declared.place.Settings.{Settings}
use Rattle.tl_schema.specs.declared.catalog.Catalog.{Catalog}
use Rattle.tl_schema.specs.declared.catalog.Setup.{Setup}
use Rattle.tl_descriptor.specs.Tids.{TidSet}
use Rattle.tl_manager.specs.declared.request.ManagerReply.TheVariants as reply
use Rattle.tl_manager.specs.declared.request.ManagerRequest.TheVariants as asked
use Rattle.tl_manager.specs.Floor.{newer}
use Rattle.tl_manager.specs.State.{opening_copy}
use Rattle.tl_isolation.specs.declared.bound.Bound.{Bound}
use Rattle.tl_isolation.specs.declared.bound.Bound.TheVariants as bound
use Rattle.tl_isolation.specs.declared.entry.Answer.TheVariants as answer
use Rattle.tl_isolation.specs.declared.entry.Entry.{Entry}
use Rattle.tl_isolation.specs.declared.entry.Entry.TheVariants as entry
use Rattle.tl_isolation.specs.declared.state.SiState.{SiState}
use Rattle.tl_isolation.specs.State.{is_refusal}
use Rattle.tl_protocol.specs.Store.{put}
use Rattle.tl_protocol.specs.World.{Ready, Stage, Fresh, Opened, Answering, Txn, Fact, World, At}
use Rattle.tl_protocol.specs.World as protocol
use Rattle.tl_protocol.specs.Move as move
use Rattle.tl_protocol.specs.Move.{Move, is_nested, is_outside}
use Rattle.tl_protocol.specs.Next.{begun_txn, next, numbered}
use Rattle.tl_protocol.specs.Told.{count_in, says}
use Rattle.tl_protocol.specs.Run.{Layout}
use Rattle.tl_protocol.proofs.Frames.{put_same}
use Rattle.tl_journal.specs.Ask.{LoadCommits, DrawNumbers, AskManager, Told}
use Rattle.tl_journal.specs.Bytes.{home_of}
use Rattle.tl_journal.specs.Reads.{Read, Reads}
use Rattle.tl_journal.specs.Node.{Doing, Outside, Noted, Drawing, Bringing, Inside, Node}
use Rattle.tl_journal.specs.Asks.{Course, ToBegin, ToRead, ToIdle, ToCommit, ToGiveUp, ask_floor, asks_inside, asks_outside, course_in, course_outside, reading_course}
use Rattle.tl_journal.specs.Takes.{answered, begins, learnt, takes_bringing, takes_drawing, takes_inside, takes_noted, takes_outside, with_doing}
use Rattle.tl_journal.specs.Says.{says_inside, says_noted, says_outside, statement_number}
use Rattle.tl_journal.specs.Served.{IsMark, Parts, begun_parts, parts_of}
use Rattle.tl_journal.proofs.Meets.{Before, Goes, PresentIs, StatementIs, is_single}
use Rattle.tl_journal.proofs.Goings.{Steps, going, going_two, is_floor, stays, steps_as, stops, turned, turned_learnt}

-- the node with these statements left, doing this
abbrev pub so_far : Node → List Bound → Doing → Node
so_far node todo doing = record node { todo = todo; doing = doing }

-- what is asked of each statement holds of the present one
pub any_statement : (P : Bound → Type 0) → ((statement : Bound) → P statement) → (todo : List Bound) → PresentIs P todo
any_statement P h [] = tt
any_statement P h (statement ∷ later) = h statement

-- a statement with reads reads, or makes its one request
reading_is : (reads : Reads) (c : Course) → reading_course reads ≡ c → (c ≡ ToIdle) ⊎ ((r : Reads) × (c ≡ ToRead r))
reading_is reads c e = by reads.left c e
  where
    by : (left : List Read) (c : Course) → reading_course (record reads { left = left }) ≡ c → (c ≡ ToIdle) ⊎ ((r : Reads) × (c ≡ ToRead r))
    by [] c e = inl (sym e)
    by (read ∷ left) c e = inr (record reads { left = read ∷ left }, sym e)

-- BEGIN or RECOVER is refused in a transaction that BEGIN opened alone
nested_opened : (catalog : Catalog) (stage : Stage) (statement : Bound) → course_in catalog stage statement ≡ ToIdle → is_nested statement ≡ true
    → (stage ≡ Fresh → is_single statement ≡ true) → stage ≡ Opened
nested_opened catalog Opened statement e n s = refl
nested_opened catalog Fresh bound.Begin e n s = let h = s refl in cc
nested_opened catalog Fresh (bound.Recover gone) e n s = let h = s refl in cc
nested_opened catalog Fresh (bound.Select query) e n s = cc
nested_opened catalog Fresh (bound.Change edit) e n s = cc
nested_opened catalog Fresh bound.Commit e n s = cc
nested_opened catalog Fresh bound.Rollback e n s = cc
nested_opened catalog (Answering told) statement e n s = by (is_refusal told) e
  where
    by : (b : Bool) → (if b then ToGiveUp else ToCommit) ≡ ToIdle → Answering told ≡ Opened
    by true e = cc
    by false e = cc

outside_is : (statement : Bound) → course_outside statement ≡ ToIdle → is_outside statement ≡ true
outside_is bound.Begin e = cc
outside_is (bound.Recover gone) e = cc
outside_is (bound.Select query) e = cc
outside_is (bound.Change edit) e = cc
outside_is bound.Commit e = refl
outside_is bound.Rollback e = refl

not_fresh : (stage : Stage) → stage ≡ Opened → stage ≡ Fresh → ⊥
not_fresh stage e f = cc

brought : (low : ℕ) → (low + 1) - 1 ≡ low
brought low = omega arith

module _ (R : Txn → List Fact → Reads → Type 0) (layout : Layout) (setup : Setup) (settings : Settings) where
  -- outside a transaction a statement that begins one loads the commits cell
  pub outside_begins : (node : Node) (statement : Bound) (later : List Bound) → course_outside statement ≡ ToBegin
      → Steps R layout setup settings (so_far node (statement ∷ later) Outside)
  outside_begins node statement later c =
      let n : ℕ = node.number in
      let here : Node = so_far node (statement ∷ later) Outside in
      steps_as R layout setup settings here LoadCommits (ap (λ x. Some (asks_outside settings here statement x)) c)
      (λ w state entries told said after b serves means.
      let at : At w n protocol.Idle = record { runs = b.runs; so_far = b.node_is.phase } in
      let new : Node = with_doing here (Noted w.commits.finished) in
      subst (λ x. Goes R layout setup settings w state entries (says_outside here statement x told) n (takes_outside settings here x told) after) (sym c)
      (subst (λ x. Goes R layout setup settings w state entries (says_outside here statement ToBegin x) n (takes_outside settings here ToBegin x) after)
      (sym serves.0)
      (going R layout setup settings w state entries n here b new after (entry.Asked n ∷ []) (move.Ask n at) refl refl refl (sym serves.1)
      (turned R settings here new w (next w (move.Ask n at)) n b.node_is refl refl (λ j. refl)
      (put_same n (protocol.Noted w.commits.finished) w.phases) b.node_is.recovery c))))

  -- COMMIT and ROLLBACK are refused there
  pub outside_refused : (node : Node) (statement : Bound) (later : List Bound) → course_outside statement ≡ ToIdle
      → Steps R layout setup settings (so_far node (statement ∷ later) Outside)
  outside_refused node statement later c =
      let n : ℕ = node.number in
      let m : ℕ = home_of settings n in
      let here : Node = so_far node (statement ∷ later) Outside in
      steps_as R layout setup settings here (ask_floor settings here opening_copy) (ap (λ x. Some (asks_outside settings here statement x)) c)
      (λ w state entries told said after b serves means.
      let floor : TidSet = serves.0.0 in
      let first : Move w =
      move.Learn n m opening_copy floor b.runs (inl refl) (is_floor settings w m (newer (w.copies m) opening_copy) floor b.laid_out serves.0.2) in
      let at : At (next w first) n protocol.Idle = record { runs = b.runs; so_far = b.node_is.phase } in
      let second : Move (next w first) = move.SayOutside n (statement_number here) statement at (outside_is statement c) in
      let new : Node = answered (learnt here m floor) answer.Outside Outside in
      subst (λ x. Goes R layout setup settings w state entries (says_outside here statement x told) n (takes_outside settings here x told) after) (sym c)
      (subst (λ x. Goes R layout setup settings w state entries (says_outside here statement ToIdle x) n (takes_outside settings here ToIdle x) after)
      (sym serves.0.1)
      (going_two R layout setup settings w state entries n here b new after (says n (statement_number here) statement answer.Outside ∷ [])
      first second refl refl refl refl refl (sym serves.1)
      (turned_learnt R settings here new w (next (next w first) second) n m floor b.node_is refl refl
      (λ j. ap (λ x. x j) (put_same n (put m floor (w.floors n)) w.floors)) b.node_is.phase b.node_is.recovery
      (any_statement (StatementIs Outside) (λ s. tt) later)))))

  -- the manager begins the transaction; of the statement BEGIN it is said at once
  BeginsSo : Node → List Bound → TidSet → World → SiState → List Entry → Parts → ℕ → TidSet → Bound → Type 0
  BeginsSo node later seen w state entries after tid floor statement =
      Before R layout setup settings w state entries node.number (so_far node (statement ∷ later) (Noted seen))
      → Goes R layout setup settings w state entries
      (says_noted state.commits (so_far node (statement ∷ later) (Noted seen)) statement
      (Told (reply.Began tid (newer (w.copies (w.home node.number)) seen) floor))) node.number
      (begins (learnt (so_far node (statement ∷ later) (Noted seen)) (w.home node.number) floor) statement
      (begun_txn tid (newer (w.copies (w.home node.number)) seen))) after

  module _ (node : Node) (later : List Bound) (seen : TidSet) (w : World) (state : SiState) (entries : List Entry) (after : Parts) (tid : ℕ) (floor : TidSet)
      (number : w.numbers tid ≡ Ready (w.home node.number)) (mark : IsMark settings w.active (w.home node.number) (newer (w.copies (w.home node.number)) seen) floor)
      (parts : after ≡ begun_parts (parts_of w) (w.home node.number) node.number tid (newer (w.copies (w.home node.number)) seen)) where
    -- in a transaction of its own a SELECT or a change is not said yet
    begun_single : (statement : Bound) → is_single statement ≡ true → (b : Before R layout setup settings w state entries node.number (so_far node (statement ∷ later) (Noted seen)))
        → Goes R layout setup settings w state entries
        (entry.Began node.number tid (count_in (newer (w.copies (w.home node.number)) seen) state.commits) ∷ []) node.number
        (with_doing (learnt (so_far node (statement ∷ later) (Noted seen)) (w.home node.number) floor) (Inside (begun_txn tid (newer (w.copies (w.home node.number)) seen)))) after
    begun_single statement single b =
        let n : ℕ = node.number in
        let m : ℕ = w.home n in
        let copy : TidSet = newer (w.copies m) seen in
        let here : Node = so_far node (statement ∷ later) (Noted seen) in
        let t : Txn = begun_txn tid copy in
        let at : At w n (protocol.Noted seen) = record { runs = b.runs; so_far = b.node_is.phase } in
        let first : Move w = move.Begin n tid seen floor at number (is_floor settings w m copy floor b.laid_out mark) in
        let new : Node = with_doing (learnt here m floor) (Inside t) in
        going R layout setup settings w state entries n here b new after (entry.Began n tid (count_in copy state.commits) ∷ []) first refl refl refl (sym parts)
        (turned_learnt R settings here new w (next w first) n m floor b.node_is refl refl (λ j. ap (λ x. x j) (put_same n (put m floor (w.floors n)) w.floors))
        (put_same n (protocol.Live t []) w.phases, record { rising = refl }) b.node_is.recovery (λ e. single))

    begun_opened : (b : Before R layout setup settings w state entries node.number (so_far node (bound.Begin ∷ later) (Noted seen)))
        → Goes R layout setup settings w state entries
        (entry.Began node.number tid (count_in (newer (w.copies (w.home node.number)) seen) state.commits)
        ∷ says node.number (statement_number node) bound.Begin answer.Begun ∷ []) node.number
        (answered (learnt (so_far node (bound.Begin ∷ later) (Noted seen)) (w.home node.number) floor) answer.Begun
        (Inside (record (begun_txn tid (newer (w.copies (w.home node.number)) seen)) { stage = Opened }))) after
    begun_opened b =
        let n : ℕ = node.number in
        let m : ℕ = w.home n in
        let copy : TidSet = newer (w.copies m) seen in
        let here : Node = so_far node (bound.Begin ∷ later) (Noted seen) in
        let t : Txn = begun_txn tid copy in
        let at : At w n (protocol.Noted seen) = record { runs = b.runs; so_far = b.node_is.phase } in
        let first : Move w = move.Begin n tid seen floor at number (is_floor settings w m copy floor b.laid_out mark) in
        let live : At (next w first) n (protocol.Live t []) = record { runs = b.runs; so_far = put_same n (protocol.Live t []) w.phases } in
        let second : Move (next w first) = move.SayBegun n (statement_number node) t [] live refl in
        let opened : Txn = record t { stage = Opened } in
        let new : Node = answered (learnt here m floor) answer.Begun (Inside opened) in
        going_two R layout setup settings w state entries n here b new after
        (entry.Began n tid (count_in copy state.commits) ∷ says n (statement_number node) bound.Begin answer.Begun ∷ [])
        first second refl refl refl refl refl (sym parts)
        (turned_learnt R settings here new w (next (next w first) second) n m floor b.node_is refl refl
        (λ j. ap (λ x. x j) (put_same n (put m floor (w.floors n)) w.floors))
        (put_same n (protocol.Live opened []) (next w first).phases, record { rising = refl }) b.node_is.recovery
        (any_statement (StatementIs (Inside opened)) (λ s e. absurd (not_fresh Opened refl e)) later))

    begun : (statement : Bound) → BeginsSo node later seen w state entries after tid floor statement
    unfolding BeginsSo
    begun bound.Begin b = begun_opened b
    begun (bound.Select query) b = begun_single (bound.Select query) refl b
    begun (bound.Change edit) b = begun_single (bound.Change edit) refl b
    begun bound.Commit b = let h = b.node_is.statement in absurd cc
    begun bound.Rollback b = let h = b.node_is.statement in absurd cc
    begun (bound.Recover gone) b = let h = b.node_is.statement in absurd cc

  -- the manager is asked to begin it; it may have no number left
  pub noted_goes : (node : Node) (statement : Bound) (later : List Bound) (seen : TidSet)
      → Steps R layout setup settings (so_far node (statement ∷ later) (Noted seen))
  unfolding BeginsSo
  noted_goes node statement later seen =
      let n : ℕ = node.number in
      let here : Node = so_far node (statement ∷ later) (Noted seen) in
      steps_as R layout setup settings here (AskManager (home_of settings n) (asked.Begin n seen)) refl
      (λ w state entries told said after b serves means.
      ⊎_elim
      (λ h.
      let tid : ℕ = h.0 in
      let floor : TidSet = h.1 in
      subst (λ x. Goes R layout setup settings w state entries (says_noted state.commits here statement x) n (takes_noted settings here statement seen x) after)
      (sym h.2)
      (subst
      (λ m.
      w.numbers tid ≡ Ready m → IsMark settings w.active m (newer (w.copies m) seen) floor → after ≡ begun_parts (parts_of w) m n tid (newer (w.copies m) seen)
      → Goes R layout setup settings w state entries (says_noted state.commits here statement (Told (reply.Began tid (newer (w.copies m) seen) floor))) n
      (begins (learnt here m floor) statement (begun_txn tid (newer (w.copies m) seen))) after)
      (b.laid_out.home n)
      (λ number mark parts. begun node later seen w state entries after tid floor number mark parts statement b)
      h.3 h.4 h.5))
      (λ h.
      subst (λ x. Goes R layout setup settings w state entries (says_noted state.commits here statement x) n (takes_noted settings here statement seen x) after)
      (sym h.0)
      (stays R layout setup settings w state entries n here b (with_doing here (Drawing seen)) after (sym h.1)
      (turned R settings here (with_doing here (Drawing seen)) w w n b.node_is refl refl (λ j. refl) b.node_is.phase b.node_is.recovery b.node_is.statement)))
      serves)

  -- 16 numbers are drawn
  pub drawing_goes : (node : Node) (statement : Bound) (later : List Bound) (seen : TidSet)
      → Steps R layout setup settings (so_far node (statement ∷ later) (Drawing seen))
  drawing_goes node statement later seen =
      let n : ℕ = node.number in
      let here : Node = so_far node (statement ∷ later) (Drawing seen) in
      steps_as R layout setup settings here DrawNumbers refl
      (λ w state entries told said after b serves means.
      ⊎_elim
      (λ h.
      let at : At w n (protocol.Noted seen) = record { runs = b.runs; so_far = b.node_is.phase } in
      let first : Move w = move.Draw n seen at h.1 in
      let new : Node = with_doing here (Bringing seen w.counter) in
      subst (λ x. Goes R layout setup settings w state entries [] n (takes_drawing here seen x) after) (sym h.0)
      (going R layout setup settings w state entries n here b new after [] first refl refl refl (sym h.2)
      (turned R settings here new w (next w first) n b.node_is refl refl (λ j. refl)
      (put_same n (protocol.Drawn seen w.counter) w.phases) b.node_is.recovery b.node_is.statement)))
      (λ h.
      subst (λ x. Goes R layout setup settings w state entries [] n (takes_drawing here seen x) after) (sym h.0)
      (stops R layout setup settings w state entries n here b after (sym h.1)))
      serves)

  -- and brought to the manager
  pub bringing_goes : (node : Node) (statement : Bound) (later : List Bound) (seen : TidSet) (low : ℕ)
      → Steps R layout setup settings (so_far node (statement ∷ later) (Bringing seen low))
  bringing_goes node statement later seen low =
      let n : ℕ = node.number in
      let here : Node = so_far node (statement ∷ later) (Bringing seen low) in
      steps_as R layout setup settings here (AskManager (home_of settings n) (asked.Range (low + 1) (low + 16))) refl
      (λ w state entries told said after b serves means.
      let at : At w n (protocol.Drawn seen low) = record { runs = b.runs; so_far = b.node_is.phase } in
      let first : Move w = move.Bring n seen low at in
      let new : Node = with_doing here (Noted seen) in
      subst (λ x. Goes R layout setup settings w state entries [] n (takes_bringing here seen x) after) (sym serves.0)
      (going R layout setup settings w state entries n here b new after [] first refl refl refl
      (ap (λ m. record (parts_of w) { numbers = numbered low (Ready m) w.numbers }) (b.laid_out.home n)
      ∙ sym (ap (λ l. record (parts_of w) { numbers = numbered l (Ready (home_of settings n)) w.numbers }) (brought low))
      ∙ sym serves.1)
      (turned R settings here new w (next w first) n b.node_is refl refl (λ j. refl)
      (put_same n (protocol.Noted seen) w.phases) b.node_is.recovery b.node_is.statement)))

  -- BEGIN and RECOVER are refused in a transaction that BEGIN opened: the low-water mark is learnt, and then it is said
  refused : (node : Node) (statement : Bound) (later : List Bound) (t : Txn) (w : World) (state : SiState) (entries : List Entry) (after : Parts) (floor : TidSet)
      → Before R layout setup settings w state entries node.number (so_far node (statement ∷ later) (Inside t))
      → t.stage ≡ Opened → is_nested statement ≡ true
      → IsMark settings w.active (home_of settings node.number) (newer (w.copies (home_of settings node.number)) t.snapshot) floor
      → after ≡ record (parts_of w) { copies = put (home_of settings node.number) (newer (w.copies (home_of settings node.number)) t.snapshot) w.copies }
      → Goes R layout setup settings w state entries (says node.number (statement_number node) statement answer.Nested ∷ []) node.number
      (answered (learnt (so_far node (statement ∷ later) (Inside t)) (home_of settings node.number) floor) answer.Nested (Inside t)) after
  refused node statement later t w state entries after floor b opened nested mark parts =
      let n : ℕ = node.number in
      let m : ℕ = home_of settings n in
      let here : Node = so_far node (statement ∷ later) (Inside t) in
      let first : Move w =
      move.Learn n m t.snapshot floor b.runs (inr (t, [], b.node_is.phase.0, refl)) (is_floor settings w m (newer (w.copies m) t.snapshot) floor b.laid_out mark) in
      let at : At (next w first) n (protocol.Live t []) = record { runs = b.runs; so_far = b.node_is.phase.0 } in
      let second : Move (next w first) = move.SayNested n (statement_number node) statement t [] at opened nested in
      let new : Node = answered (learnt here m floor) answer.Nested (Inside t) in
      going_two R layout setup settings w state entries n here b new after (says n (statement_number node) statement answer.Nested ∷ [])
      first second refl refl refl refl refl (sym parts)
      (turned_learnt R settings here new w (next (next w first) second) n m floor b.node_is refl refl
      (λ j. ap (λ x. x j) (put_same n (put m floor (w.floors n)) w.floors)) b.node_is.phase b.node_is.recovery
      (any_statement (StatementIs (Inside t)) (λ s e. absurd (not_fresh t.stage opened e)) later))

  nested_begin : (node : Node) (later : List Bound) (t : Txn) → course_in setup.catalog t.stage bound.Begin ≡ ToIdle
      → Steps R layout setup settings (so_far node (bound.Begin ∷ later) (Inside t))
  nested_begin node later t c =
      let n : ℕ = node.number in
      let here : Node = so_far node (bound.Begin ∷ later) (Inside t) in
      steps_as R layout setup settings here (ask_floor settings here t.snapshot) (ap (λ x. Some (asks_inside settings here t x)) c)
      (λ w state entries told said after b serves means.
      subst
      (λ x.
      Goes R layout setup settings w state entries (says_inside settings here bound.Begin t x told said) n
      (takes_inside settings setup.catalog here bound.Begin t x told said) after) (sym c)
      (subst
      (λ x.
      Goes R layout setup settings w state entries (says_inside settings here bound.Begin t ToIdle x said) n
      (takes_inside settings setup.catalog here bound.Begin t ToIdle x said) after) (sym serves.0.1)
      (refused node bound.Begin later t w state entries after serves.0.0 b
      (nested_opened setup.catalog t.stage bound.Begin c refl b.node_is.statement) refl serves.0.2 serves.1)))

  nested_recover : (node : Node) (gone : ℕ) (later : List Bound) (t : Txn) → course_in setup.catalog t.stage (bound.Recover gone) ≡ ToIdle
      → Steps R layout setup settings (so_far node (bound.Recover gone ∷ later) (Inside t))
  nested_recover node gone later t c =
      let n : ℕ = node.number in
      let here : Node = so_far node (bound.Recover gone ∷ later) (Inside t) in
      steps_as R layout setup settings here (ask_floor settings here t.snapshot) (ap (λ x. Some (asks_inside settings here t x)) c)
      (λ w state entries told said after b serves means.
      subst
      (λ x.
      Goes R layout setup settings w state entries (says_inside settings here (bound.Recover gone) t x told said) n
      (takes_inside settings setup.catalog here (bound.Recover gone) t x told said) after) (sym c)
      (subst
      (λ x.
      Goes R layout setup settings w state entries (says_inside settings here (bound.Recover gone) t ToIdle x said) n
      (takes_inside settings setup.catalog here (bound.Recover gone) t ToIdle x said) after) (sym serves.0.1)
      (refused node (bound.Recover gone) later t w state entries after serves.0.0 b
      (nested_opened setup.catalog t.stage (bound.Recover gone) c refl b.node_is.statement) refl serves.0.2 serves.1)))

  -- inside a transaction
  pub nested_goes : (node : Node) (statement : Bound) (later : List Bound) (t : Txn) → course_in setup.catalog t.stage statement ≡ ToIdle
      → is_nested statement ≡ true → Steps R layout setup settings (so_far node (statement ∷ later) (Inside t))
  nested_goes node bound.Begin later t c e = nested_begin node later t c
  nested_goes node (bound.Recover gone) later t c e = nested_recover node gone later t c
  nested_goes node (bound.Select query) later t c e = absurd cc
  nested_goes node (bound.Change edit) later t c e = absurd cc
  nested_goes node bound.Commit later t c e = absurd cc
  nested_goes node bound.Rollback later t c e = absurd cc
