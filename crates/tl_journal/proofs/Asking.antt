-- What a node asks of a manager it may ask so, by the invariant of the protocol, and what it is told fits.
use Rattle.std.proofs.Common.{◌≡◌, ◌⊎◌, inl, inr, ℕ, ◌+◌, ◌-◌, ◌%◌, ◌<◌, ◌≤◌, ◌^◌, Bool, true, false, List, [], ◌∷◌, ◌++◌, Option, Some, None, refl, sym, ap, ◌∙◌, subst, arith}
use Rattle.std.specs.Prelude.{nat_le, if◌then◌else◌}
use Rattle.std.proofs.lemmas.Bool.{cases_Bool, cases_lt}
use Rattle.std.proofs.lemmas.Nat.{mod_below}
use Rattle.tl_base.specs.declared.node.NodeSet.{NodeSet}
use Rattle.tl_base.specs.declared.place.Settings.{Settings}
use Rattle.tl_schema.specs.declared.catalog.Catalog.{Catalog}
use Rattle.tl_schema.specs.declared.catalog.Setup.{Setup}
use Rattle.tl_descriptor.specs.Tids.{TidSet, has}
use Rattle.tl_manager.specs.declared.request.ManagerReply.{ManagerReply}
use Rattle.tl_manager.specs.declared.request.ManagerRequest.{ManagerRequest}
use Rattle.tl_manager.specs.declared.request.ManagerRequest.TheVariants as asked
use Rattle.tl_manager.specs.declared.request.Reply.TheVariants as reply
use Rattle.tl_manager.specs.Floor.{newer}
use Rattle.tl_manager.specs.Serves as serving
use Rattle.tl_manager.specs.State.{opening_copy}
use Rattle.tl_write.specs.declared.write.Write.{Write}
use Rattle.tl_isolation.specs.declared.bound.Bound.{Bound}
use Rattle.tl_isolation.specs.declared.entry.Entry.{Entry}
use Rattle.tl_isolation.specs.declared.state.SiState.{SiState}
use Rattle.tl_protocol.specs.Store.{Key, LogCell, CommitsCell}
use Rattle.tl_protocol.specs.World.{Number, Undrawn, Carried, Ready, Begun, Txn, Fact, Loaded, Commit as ToCommit, Undo, Phase, World, At, runs}
use Rattle.tl_protocol.specs.World as protocol
use Rattle.tl_protocol.specs.Move.{is_empty}
use Rattle.tl_protocol.specs.Run.{Layout}
use Rattle.tl_protocol.proofs.Finished.{Known, Snap, is_done}
use Rattle.tl_protocol.proofs.Inv.{ActiveOk, Ghost, Inv, is_taken}
use Rattle.tl_protocol.proofs.Ledger.{Ledger}
use Rattle.tl_protocol.proofs.Reached.{Reached, reached}
use Rattle.tl_protocol.proofs.Sets.{newer_known, opening_first}
use Rattle.tl_protocol.proofs.Steps.{active_at, node_at, recovery_at}
use Rattle.tl_journal.specs.declared.event.Event.{Event}
use Rattle.tl_journal.specs.Ask.{Ask, LoadCommits, AskManager, Heard}
use Rattle.tl_journal.specs.Asks.{Course, ToBegin, ToRead, ToIdle, ToCommit as IsCommit, ToGiveUp, ToRecover, asks, asks_commit, asks_doing, asks_duty, asks_finish, asks_inside, asks_outside, asks_read, asks_removing, asks_storing, asks_stripping, course_in, course_outside, other_manager, store_trying}
use Rattle.tl_journal.specs.Bytes.{heard, home_of, place_of, written}
use Rattle.tl_journal.specs.Journal.{manager_log}
use Rattle.tl_journal.specs.Node.{Storing, Removing, Claimed, Lost, Doing, Outside, Noted, Drawing, Bringing, Inside, Reading, Trying, Stores, Removes, Closing, Ending, Recovering, ReadingLog, Stripping, Finishing, EndingLost, Stopped, Node}
use Rattle.tl_journal.specs.Reads.{Read, Point, Range, Reads}
use Rattle.tl_journal.specs.Served.{Answers, Parts, parts_of}
use Rattle.tl_journal.proofs.ManagerServes.{AreBegun, AreChained, MayAsk, manager_serves}
use Rattle.tl_journal.proofs.Managers.{ManagersAre}
use Rattle.tl_journal.proofs.ManagerPremises.{are_begun, are_chained, may_bring}
use Rattle.tl_journal.proofs.Sizes.{ToldFits}
use Rattle.tl_journal.proofs.Meets.{Before, NodeIs, PhaseIs, RecoveryIs, orphan_of}

-- ---- what is asked of managers

-- what is asked of a manager has the property
abbrev Suits : (ℕ → ManagerRequest → Type 0) → Ask → Type 0
Suits P (AskManager m request) = P m request
Suits P ask = Unit {0}

abbrev MaySuit : (ℕ → ManagerRequest → Type 0) → Option Ask → Type 0
MaySuit P None = Unit {0}
MaySuit P (Some ask) = Suits P ask

-- all that a node that is so far may ask of managers has the property
abbrev AllAsked : (ℕ → ManagerRequest → Type 0) → Settings → Node → Doing → Type 0
AllAsked P settings node Outside = ((gone : ℕ) → P (home_of settings gone) (asked.Claim gone)) × P (home_of settings node.number) (asked.Floor opening_copy)
AllAsked P settings node (Noted seen) = P (home_of settings node.number) (asked.Begin node.number seen)
AllAsked P settings node (Bringing seen low) = P (home_of settings node.number) (asked.Range (low + 1) (low + 16))
AllAsked P settings node (Inside t) = P (home_of settings node.number) (asked.Floor t.snapshot) × P (other_manager settings node) (asked.Floor t.snapshot)
AllAsked P settings node (Ending tid told) = P (home_of settings node.number) (asked.End tid)
AllAsked P settings node (Recovering c) = (d : ℕ) → P (home_of settings d) (asked.Orphans d)
AllAsked P settings node (EndingLost c o) = P (home_of settings o.node) (asked.End o.tid)
AllAsked P settings node doing = Unit {0}

module _ (P : ℕ → ManagerRequest → Type 0) (settings : Settings) (catalog : Catalog) where
  suits_read : (reads : List Read) → Suits P (asks_read reads)
  suits_read [] = tt
  suits_read (Point key ∷ left) = tt
  suits_read (Range shard from first before ∷ left) = tt

  suits_outside : (node : Node) (statement : Bound) (course : Course) → AllAsked P settings node Outside → Suits P (asks_outside settings node statement course)
  suits_outside node statement ToBegin h = tt
  suits_outside node statement (ToRead reads) h = tt
  suits_outside node statement ToIdle h = h.1
  suits_outside node statement IsCommit h = tt
  suits_outside node statement ToGiveUp h = tt
  suits_outside node statement (ToRecover gone) h = h.0 gone

  suits_commit : (node : Node) (t : Txn) → P (other_manager settings node) (asked.Floor t.snapshot) → Suits P (asks_commit settings node t)
  suits_commit node t h = by (is_empty t.own) (nat_le settings.managers 1)
    where
      by : (x y : Bool)
          → Suits P (if x then LoadCommits else (if y then store_trying node t else AskManager (other_manager settings node) (asked.Floor t.snapshot)))
      by true y = tt
      by false true = tt
      by false false = h

  suits_inside : (node : Node) (t : Txn) (course : Course) → AllAsked P settings node (Inside t) → Suits P (asks_inside settings node t course)
  suits_inside node t ToBegin h = tt
  suits_inside node t (ToRead reads) h = suits_read reads.left
  suits_inside node t ToIdle h = h.0
  suits_inside node t IsCommit h = suits_commit node t h.1
  suits_inside node t ToGiveUp h = tt
  suits_inside node t (ToRecover gone) h = tt

  suits_storing : (node : Node) (s : Storing) (l : Option Loaded) → Suits P (asks_storing node s l)
  suits_storing node s (Some l) = tt
  suits_storing node s None = by s.left
    where
      by : (left : List Write) → Suits P (asks_storing node (record s { left = left }) None)
      by [] = tt
      by (o ∷ left) = tt

  suits_removing : (node : Node) (r : Removing) (l : Option Loaded) → Suits P (asks_removing node r l)
  suits_removing node r (Some l) = tt
  suits_removing node r None = by r.left
    where
      by : (left : List Write) → Suits P (asks_removing node (record r { left = left }) None)
      by [] = tt
      by (o ∷ left) = tt

  suits_finish : (tid : ℕ) (c : Option CommitsCell) → Suits P (asks_finish tid c)
  suits_finish tid None = tt
  suits_finish tid (Some c) = tt

  suits_duty : (c : Claimed) → ((d : ℕ) → P (home_of settings d) (asked.Orphans d)) → Suits P (asks_duty settings c)
  suits_duty c h = by c.left
    where
      by : (left : List ℕ) → Suits P (asks_duty settings (record c { left = left }))
      by [] = tt
      by (d ∷ left) = h d

  suits_stripping : (o : Lost) (log : LogCell) (keys : List Key) (l : Option Loaded) → Suits P (asks_stripping o log keys l)
  suits_stripping o log keys (Some l) = tt
  suits_stripping o log [] None = tt
  suits_stripping o log (key ∷ keys) None = tt

  suits_doing : (node : Node) (statement : Bound) (doing : Doing) → AllAsked P settings node doing → MaySuit P (asks_doing settings catalog node statement doing)
  suits_doing node statement Outside h = suits_outside node statement (course_outside statement) h
  suits_doing node statement (Noted seen) h = h
  suits_doing node statement (Drawing seen) h = tt
  suits_doing node statement (Bringing seen low) h = h
  suits_doing node statement (Inside t) h = suits_inside node t (course_in catalog t.stage statement) h
  suits_doing node statement (Reading t reads) h = suits_read reads.left
  suits_doing node statement (Trying t) h = tt
  suits_doing node statement (Stores s l) h = suits_storing node s l
  suits_doing node statement (Removes r l) h = suits_removing node r l
  suits_doing node statement (Closing t d c) h = suits_finish t.tid c
  suits_doing node statement (Ending tid told) h = h
  suits_doing node statement (Recovering c) h = suits_duty c h
  suits_doing node statement (ReadingLog c o) h = tt
  suits_doing node statement (Stripping c o log keys l) h = suits_stripping o log keys l
  suits_doing node statement (Finishing c o committed l) h = suits_finish o.tid l
  suits_doing node statement (EndingLost c o) h = h
  suits_doing node statement (Stopped nodes) h = tt

  suits_asks : (node : Node) → AllAsked P settings node node.doing → MaySuit P (asks settings catalog node)
  suits_asks node = by node.todo
    where
      by : (todo : List Bound) → AllAsked P settings (record node { todo = todo }) node.doing → MaySuit P (asks settings catalog (record node { todo = todo }))
      by [] h = tt
      by (statement ∷ later) h = suits_doing (record node { todo = statement ∷ later }) statement node.doing h

  -- so what is asked of a manager has it
  asked_so : (node : Node) (m : ℕ) (request : ManagerRequest) → AllAsked P settings node node.doing → asks settings catalog node ≡ Some (AskManager m request)
      → P m request
  asked_so node m request h e = subst (MaySuit P) e (suits_asks node h)

-- no node that runs posts a notice
abbrev IsNoPost : ℕ → ManagerRequest → Type 0
IsNoPost m (asked.Post node also) = ⊥
IsNoPost m request = Unit {0}

no_posts : (settings : Settings) (node : Node) (doing : Doing) → AllAsked IsNoPost settings node doing
no_posts settings node Outside = ((λ gone. tt), tt)
no_posts settings node (Noted seen) = tt
no_posts settings node (Drawing seen) = tt
no_posts settings node (Bringing seen low) = tt
no_posts settings node (Inside t) = (tt, tt)
no_posts settings node (Reading t reads) = tt
no_posts settings node (Trying t) = tt
no_posts settings node (Stores s l) = tt
no_posts settings node (Removes r l) = tt
no_posts settings node (Closing t d c) = tt
no_posts settings node (Ending tid told) = tt
no_posts settings node (Recovering c) = λ d. tt
no_posts settings node (ReadingLog c o) = tt
no_posts settings node (Stripping c o log keys l) = tt
no_posts settings node (Finishing c o committed l) = tt
no_posts settings node (EndingLost c o) = tt
no_posts settings node (Stopped nodes) = tt

pub asks_no_post : (settings : Settings) (catalog : Catalog) (node : Node) (m d : ℕ) (also : NodeSet) → asks settings catalog node ≡ Some (AskManager m (asked.Post d also)) → ⊥
asks_no_post settings catalog node m d also e = asked_so IsNoPost settings catalog node m (asked.Post d also) (no_posts settings node node.doing) e

-- and the manager is one of those that there are
is_among : (settings : Settings) → 1 ≤ settings.managers → (k : ℕ) → k % settings.managers < settings.managers
is_among settings some k = mod_below k settings.managers some

abbrev IsAmong : Settings → ℕ → ManagerRequest → Type 0
IsAmong settings m request = m < settings.managers

all_among : (settings : Settings) (node : Node) (doing : Doing) → ((k : ℕ) → k % settings.managers < settings.managers) → AllAsked (IsAmong settings) settings node doing
all_among settings node Outside h = ((λ gone. h (gone - 1)), h (node.number - 1))
all_among settings node (Noted seen) h = h (node.number - 1)
all_among settings node (Drawing seen) h = tt
all_among settings node (Bringing seen low) h = h (node.number - 1)
all_among settings node (Inside t) h = (h (node.number - 1), h (home_of settings node.number + 1 + (node.asked_others % (settings.managers - 1))))
all_among settings node (Reading t reads) h = tt
all_among settings node (Trying t) h = tt
all_among settings node (Stores s l) h = tt
all_among settings node (Removes r l) h = tt
all_among settings node (Closing t d c) h = tt
all_among settings node (Ending tid told) h = h (node.number - 1)
all_among settings node (Recovering c) h = λ d. h (d - 1)
all_among settings node (ReadingLog c o) h = tt
all_among settings node (Stripping c o log keys l) h = tt
all_among settings node (Finishing c o committed l) h = tt
all_among settings node (EndingLost c o) h = h (o.node - 1)
all_among settings node (Stopped nodes) h = tt

-- ---- what the invariant knows

module _ (w : World) (a : Ledger) (g : Ghost) (v : Inv w a g) where
  -- of two sets that the managers hold one begins the other
  pub chained : AreChained (λ s. Snap s g.finished) (parts_of w)
  chained = are_chained w a g v

  -- what is active has its number
  pub begun_so : AreBegun (parts_of w)
  begun_so = are_begun w a g v

  -- above the counter no number is drawn
  pub undrawn_above : (t : ℕ) → w.counter < t → w.numbers t ≡ Undrawn
  undrawn_above = v.core.numbers.undrawn

  -- a number that is drawn has its eight bytes
  pub drawn_small : (t : ℕ) (x : Number) → w.numbers t ≡ x → (x ≡ Undrawn → ⊥) → t ≤ 2 ^ 62
  drawn_small t x e h = by (cases_lt w.counter t)
    where
      by : (w.counter < t) ⊎ (t ≤ w.counter) → t ≤ 2 ^ 62
      by (inl l) = absurd (h (sym e ∙ undrawn_above t l))
      by (inr l) = let small : w.counter ≤ 2 ^ 62 = v.core.numbers.small in omega arith

  ready_small : (t m : ℕ) → w.numbers t ≡ Ready m → t ≤ 2 ^ 62
  ready_small t m e = drawn_small t (Ready m) e (clash m)
    where
      clash : (m : ℕ) → Ready m ≡ Undrawn → ⊥
      clash m e = cc

  begun_small : (t i : ℕ) → w.numbers t ≡ Begun i → t ≤ 2 ^ 62
  begun_small t i e = drawn_small t (Begun i) e (clash i)
    where
      clash : (i : ℕ) → Begun i ≡ Undrawn → ⊥
      clash i e = cc

  -- a number that is ready is not finished
  ready_not_done : (t m : ℕ) → w.numbers t ≡ Ready m → is_done t g.finished ≡ false
  ready_not_done t m e = by (cases_Bool (is_done t g.finished))
    where
      clash : (x : Number) (m : ℕ) → x ≡ Ready m → is_taken x ≡ true → ⊥
      clash x m e h = cc

      by : (is_done t g.finished ≡ true) ⊎ (is_done t g.finished ≡ false) → is_done t g.finished ≡ false
      by (inl d) = absurd (clash (w.numbers t) m e (v.core.taken t d))
      by (inr d) = d

  -- so no known set has it
  ready_strange : (s : TidSet) (t m : ℕ) → Snap s g.finished → w.numbers t ≡ Ready m → has s t ≡ false
  ready_strange s t m k e = k.known.strange t (ready_not_done t m e)

  -- of two known sets the newer one is known
  pub newer_snap : (s t : TidSet) → Snap s g.finished → Snap t g.finished → Snap (newer s t) g.finished
  newer_snap s t p q = let r = newer_known s t p.m q.m g.finished p.known q.known in record { m = r.m; known = r.known }

  -- the opening set is known
  pub opening_snap : Snap opening_copy g.finished
  opening_snap = record { m = 1; known = opening_first g.finished v.core.opens v.core.distinct }

  -- what a manager tells fits, where it was asked as it may be
  pub answer_fits : (settings : Settings) (n m : ℕ) (request : ManagerRequest) (heard : Heard) (after : Parts)
      → MayAsk (λ s. Snap s g.finished) settings (parts_of w) n m request → Answers settings (parts_of w) m request heard after → ToldFits heard
  answer_fits settings n m (asked.Begin node seen) heard after may (inl (tid, floor, told, ready, mark, after_is)) =
      subst ToldFits (sym told) (ready_small tid m ready, ready_strange (newer (w.copies m) seen) tid m (newer_snap (w.copies m) seen (v.core.managers.copy_known m) may.2) ready)
  answer_fits settings n m (asked.Begin node seen) heard after may (inr (told, after_is, none)) = subst ToldFits (sym told) tt
  answer_fits settings n m (asked.Range low high) heard after may h = subst ToldFits (sym h.0) tt
  answer_fits settings n m (asked.End tid) heard after may h = subst ToldFits (sym h.0) tt
  answer_fits settings n m (asked.Orphans node) heard after may (inl (x, active, told), after_is) =
      subst ToldFits (sym told) (begun_small x.tid node (begun_so node x active), tt)
  answer_fits settings n m (asked.Orphans node) heard after may (inr (none, told), after_is) = subst ToldFits (sym told) tt
  answer_fits settings n m (asked.Floor seen) heard after may ((floor, told, mark), after_is) = subst ToldFits (sym told) tt
  answer_fits settings n m (asked.Post node also) heard after may h = absurd h
  answer_fits settings n m (asked.Claim node) heard after may (inl (none, told, after_is)) = subst ToldFits (sym told) tt
  answer_fits settings n m (asked.Claim node) heard after may (inr (set, nodes, posted, are, told, after_is)) = subst ToldFits (sym told) tt

-- ---- a node may ask what it asks

-- the first m that finished are the first ones
known_snap : (s : TidSet) (m : ℕ) (g : Ghost) → Known s m g.finished → Snap s g.finished
known_snap s m g k = record { m = m; known = k }

module _ (R : Txn → List Fact → Reads → Type 0) (settings : Settings) (node : Node) (w : World) (n : ℕ) (a : Ledger) (g : Ghost)
    (v : Inv w a g) (is : NodeIs R settings node w n) (r : runs w n ≡ true) where
  all_may : AllAsked (MayAsk (λ s. Snap s g.finished) settings (parts_of w) n) settings node node.doing
  all_may = by node.doing is.phase is.recovery
    where
      at_phase : (p : Phase) → w.phases n ≡ p → At w n p
      at_phase p e = record { runs = r; so_far = e }

      live : (t : Txn) → w.phases n ≡ protocol.Live t [] → Snap t.snapshot g.finished
      live t e = let k = node_at w a g v n (protocol.Live t []) (at_phase (protocol.Live t []) e) in known_snap t.snapshot k.txn.m g k.txn.known

      by : (doing : Doing) → PhaseIs R doing (w.phases n) → RecoveryIs doing (w.recoveries n)
          → AllAsked (MayAsk (λ s. Snap s g.finished) settings (parts_of w) n) settings node doing
      by Outside e q = ((λ gone. refl), opening_snap w a g v)
      by (Noted seen) e q =
          let k = node_at w a g v n (protocol.Noted seen) (at_phase (protocol.Noted seen) e) in
          (refl, ap w.active is.number ∙ active_at w a g v n (protocol.Noted seen) (at_phase (protocol.Noted seen) e), known_snap seen k.m g k.known)
      by (Drawing seen) e q = tt
      by (Bringing seen low) e q =
          let k = node_at w a g v n (protocol.Drawn seen low) (at_phase (protocol.Drawn seen low) e) in
          may_bring (λ s. Snap s g.finished) settings (parts_of w) n (home_of settings node.number) low k.drawn
      by (Inside t) e q = (live t e.0, live t e.0)
      by (Reading t reads) e q = tt
      by (Trying t) e q = tt
      by (Stores s l) e q = tt
      by (Removes x l) e q = tt
      by (Closing t d c) e q = tt
      by (Ending tid told) e q =
          let active = active_at w a g v n (protocol.Ending tid told) (at_phase (protocol.Ending tid told) e) in
          (n, record { tid = tid; node = n; snapshot = active.0 }, active.1, refl, ap (home_of settings) (sym is.number))
      by (Recovering c) e q = λ d. refl
      by (ReadingLog c o) e q = tt
      by (Stripping c o log keys l) e q = tt
      by (Finishing c o committed l) e q = tt
      by (EndingLost c o) e (duties, so_far, claimed, others) =
          let closed = recovery_at w a g v n (protocol.Closed duties (orphan_of o)) (record { runs = r; so_far = so_far }) in
          let active = subst (λ p. ActiveOk o.node p (w.active o.node)) closed.1.1 (v.core.active o.node) in
          (o.node, record { tid = o.tid; node = o.node; snapshot = active.0 }, active.1, refl, refl)
      by (Stopped nodes) e q = tt

module _ (R : Txn → List Fact → Reads → Type 0) (layout : Layout) (setup : Setup) (settings : Settings) (w : World) (state : SiState)
    (entries : List Entry) (n : ℕ) (node : Node) (b : Before R layout setup settings w state entries n node) where
  -- the manager is one of those that there are
  pub manager_among : (m : ℕ) (request : ManagerRequest) → asks settings setup.catalog node ≡ Some (AskManager m request) → m < settings.managers
  manager_among m request e =
      asked_so (IsAmong settings) settings setup.catalog node m request (all_among settings node node.doing (is_among settings b.laid_out.some)) e

  -- a node may ask what it asks
  pub may_ask : (m : ℕ) (request : ManagerRequest) → asks settings setup.catalog node ≡ Some (AskManager m request)
      → MayAsk (λ s. Snap s (reached b.opening b.reach).ghost.finished) settings (parts_of w) n m request
  may_ask m request e =
      let c : Reached setup w state entries = reached b.opening b.reach in
      asked_so (MayAsk (λ s. Snap s c.ghost.finished) settings (parts_of w) n) settings setup.catalog node m request
      (all_may R settings node w n c.ledger c.ghost c.inv b.node_is b.runs) e

  -- what the node is told by the manager fits
  pub told_fits : (m : ℕ) (request : ManagerRequest) (heard : Heard) (after : Parts) → asks settings setup.catalog node ≡ Some (AskManager m request)
      → Answers settings (parts_of w) m request heard after → ToldFits heard
  told_fits m request heard after e h =
      let c : Reached setup w state entries = reached b.opening b.reach in
      answer_fits w c.ledger c.ghost c.inv settings n m request heard after (may_ask m request e) h

  -- so what the manager serves by its log is what the protocol's manager replies, and it fits
  pub manager_tells : (past : List Event) (event : Event) (m : ℕ) (request : ManagerRequest) (answer : ManagerReply)
      → asks settings setup.catalog node ≡ Some (AskManager m request)
      → event.place ≡ place_of settings (AskManager m request) → event.request ≡ written (AskManager m request) → event.reply ≡ reply.Manager answer
      → serving.Serves (manager_log m past) (record { request = request; reply = answer })
      → ManagersAre settings past (parts_of w)
      → (after : Parts) × Answers settings (parts_of w) m request (heard (AskManager m request) event.reply) after
      × ManagersAre settings (past ++ event ∷ []) after × ToldFits (heard (AskManager m request) event.reply)
  manager_tells past event m request answer e at_place request_so reply_so served v =
      let c : Reached setup w state entries = reached b.opening b.reach in
      let s = manager_serves (λ s. Snap s c.ghost.finished) settings past event (parts_of w) n m request answer (manager_among m request e)
      (chained w c.ledger c.ghost c.inv) (begun_so w c.ledger c.ghost c.inv) (may_ask m request e) at_place request_so reply_so served v in
      (s.0, s.1, s.2, told_fits m request (heard (AskManager m request) event.reply) s.0 e s.1)
