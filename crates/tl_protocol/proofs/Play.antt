-- A run as a list of choices: which node makes which move next.
use Rattle.std.proofs.Common.{◌≡◌, ◌⊎◌, ℕ, zero, suc, ◌+◌, ◌^◌, ◌≤◌, Bool, true, false, ◌&&◌, ◌||◌, List, [], ◌∷◌, ◌++◌, Option, Some, None, Result, refl, sym, ap, ◌∙◌, subst, inl, inr, arith}
use Rattle.std.specs.Prelude.{◌==◌, not, nat_lt, nat_le, slice_get, if◌then◌else◌}
use Rattle.std.specs.FinMap as finmap
use Rattle.std.specs.List.{list_all}
use Rattle.std.proofs.lemmas.Bool.{eqb-true, eqb-false, eq-eqb, not-true, ltb-true, leb-true}
use Rattle.tl_schema.specs.declared.catalog.Catalog.{Catalog}
use Rattle.tl_schema.specs.declared.catalog.Setup.{Setup}
use Rattle.tl_descriptor.specs.Tids.{TidSet, begins}
use Rattle.tl_manager.specs.declared.active.Active.{Active}
use Rattle.tl_manager.specs.Floor.{newer}
use Rattle.tl_manager.specs.State.{opening_copy}
use Rattle.tl_versions.specs.Versions.{stranger}
use Rattle.tl_algebra.specs.declared.line.Line.{Line}
use Rattle.tl_write.specs.declared.fault.ChangeFault.{ChangeFault}
use Rattle.tl_write.specs.declared.write.Effect.{Effect}
use Rattle.tl_write.specs.Own.{is_written}
use Rattle.tl_isolation.specs.declared.bound.Bound.{Bound}
use Rattle.tl_isolation.specs.declared.entry.Answer.{Answer}
use Rattle.tl_isolation.specs.declared.entry.Ending.{Ending}
use Rattle.tl_isolation.specs.declared.entry.Entry.{Entry}
use Rattle.tl_isolation.specs.declared.state.SiState.{SiState}
use Rattle.tl_isolation.specs.State.{opening_state, tables_after}
use Rattle.tl_isolation.specs.History.{IsHistory, state_from}
use Rattle.tl_isolation.specs.Meaning.{told_of}
use Rattle.tl_isolation.specs.Step.{own_after}
use Rattle.tl_isolation.specs.Tables.{AreHome, OpensFitting, Suits}
use Rattle.tl_protocol.specs.Store.{Key, CommitsCell, LogCell, log_stamp, row_shown}
use Rattle.tl_protocol.specs.World.{Number, Ready, Stage, Fresh, Opened, Txn, Fact, Attempt, Loaded, Decision, Phase, Idle, Noted, Drawn, Live, Trying, Undoing, Closing, Ending as IsEnding, Duties, Orphan, Recovery, NoDuty, Next, Reading, Stripping, Finishing, Closed, World, runs, At, IsFloor}
use Rattle.tl_protocol.specs.Move as move
use Rattle.tl_protocol.specs.Move.{Changes, Move, all_seen, all_stored, is_empty, is_named, is_nested, is_outside, may_commit, may_give_up, none_stored, takes_statements}
use Rattle.tl_protocol.specs.Next.{fact_of, next}
use Rattle.tl_protocol.specs.Told.{told}
use Rattle.tl_protocol.specs.Run.{Layout, Reach, Start, Step, opening_world}
use Rattle.tl_protocol.proofs.Confined.{ConfinedIn, catalog_next, confined_next, confined_opening, has_not, is_listed}
use Rattle.tl_protocol.proofs.Frames.{put_same}
use Rattle.tl_protocol.proofs.Meanings.{Row, Selecting, Updating, edit_of, lines_told, select_lines, select_looks, select_means, stand_sorted, update_looks, update_means, update_so}
use Rattle.tl_protocol.proofs.Reached.{reached}
use Rattle.tl_protocol.proofs.Standing.{stands_for}

-- A node's next move. Where it goes through records, it names one by its place in the own writes, or in the log cell
pub data Choice (catalog : Catalog) : Type 0 where
  Asks : (node : ℕ) → Choice catalog
  Draws : (node : ℕ) → Choice catalog
  Brings : (node : ℕ) → Choice catalog
  -- the number, and whose snapshot is the low-water mark of the manager, if it isn't what the manager has seen finished
  Begins : (node number : ℕ) → (floor : Option ℕ) → Choice catalog
  -- the node shows the manager no set but the opening one
  Learns : (node manager : ℕ) → (floor : Option ℕ) → Choice catalog
  SaysBegun : (node statement : ℕ) → Choice catalog
  SaysNested : (node statement : ℕ) → Bound → Choice catalog
  SaysOutside : (node statement : ℕ) → Bound → Choice catalog
  -- it reads what the statement looks at, and then it answers
  Selects : (node statement : ℕ) → Selecting → Choice catalog
  Updates : (node statement : ℕ) → Updating catalog → Choice catalog
  -- stores name the stamp
  Tries : (node stamp : ℕ) → Choice catalog
  Loads : (node place : ℕ) → Choice catalog
  -- and the manager whose low-water mark is the least that the node has
  Stores : (node stamp manager : ℕ) → Choice catalog
  Decides : (node stamp : ℕ) → Choice catalog
  TakesBack : (node place : ℕ) → Choice catalog
  StoresBack : (node stamp : ℕ) → Choice catalog
  MarksUndone : (node stamp : ℕ) → Choice catalog
  GivesUp : (node : ℕ) → Choice catalog
  LoadsCommits : (node : ℕ) → Choice catalog
  StoresCommits : (node stamp : ℕ) → Choice catalog
  Answers : (node statement : ℕ) → Choice catalog
  Vanishes : (node : ℕ) → Ending → Choice catalog
  -- RECOVER: it claims the death notice, or answers that there is none
  Recoverer : (node statement gone : ℕ) → Choice catalog
  AsksFor : (node duty : ℕ) → Choice catalog
  ReadsLog : (node : ℕ) → Choice catalog
  LoadsLost : (node place : ℕ) → Choice catalog
  StoresLost : (node stamp : ℕ) → Choice catalog
  MarksLost : (node stamp : ℕ) → Choice catalog
  LoadsFinish : (node : ℕ) → Choice catalog
  StoresFinish : (node stamp : ℕ) → Choice catalog
  EndsLost : (node : ℕ) → Choice catalog
  SaysRecovered : (node statement : ℕ) → Choice catalog

-- one move, or two
pub data Moves (w : World) : Type 0 where
  One : Move w → Moves w
  Two : (m : Move w) → Move (next w m) → Moves w

-- ---- tests

-- where it is so
abbrev pub when : {A : Type 0} (b : Bool) → (b ≡ true → Option A) → Option A
when {A} b f = elim b as (λ c. b ≡ c → Option A) [ true ↦ λ e. f e | false ↦ λ e. None ] refl

-- where it is so, and where it isn't
abbrev pub whether : {A : Type 0} (b : Bool) → (b ≡ true → Option A) → (b ≡ false → Option A) → Option A
whether {A} b f g = elim b as (λ c. b ≡ c → Option A) [ true ↦ λ e. f e | false ↦ λ e. g e ] refl

-- what there is, or where there is none
abbrev pub one_or : {X A : Type 0} (o : Option X) → ((x : X) → o ≡ Some x → Option A) → (o ≡ None → Option A) → Option A
one_or {X} {A} o f g = elim o as (λ c. o ≡ c → Option A) [ None ↦ λ e. g e | Some x ↦ λ e. f x e ] refl

abbrev pub one_of : {X A : Type 0} (o : Option X) → ((x : X) → o ≡ Some x → Option A) → Option A
one_of o f = one_or o f (λ e. None)

-- the phases
abbrev pub idle : {A : Type 0} (q p : Phase) → q ≡ p → (q ≡ Idle → Option A) → Option A
idle q Idle e f = f e
idle q p e f = None

abbrev pub noted : {A : Type 0} (q p : Phase) → q ≡ p → ((seen : TidSet) → q ≡ Noted seen → Option A) → Option A
noted q (Noted seen) e f = f seen e
noted q p e f = None

abbrev pub drawn : {A : Type 0} (q p : Phase) → q ≡ p → ((seen : TidSet) (low : ℕ) → q ≡ Drawn seen low → Option A) → Option A
drawn q (Drawn seen low) e f = f seen low e
drawn q p e f = None

abbrev pub live : {A : Type 0} (q p : Phase) → q ≡ p → ((t : Txn) (facts : List Fact) → q ≡ Live t facts → Option A) → Option A
live q (Live t facts) e f = f t facts e
live q p e f = None

abbrev pub trying : {A : Type 0} (q p : Phase) → q ≡ p → ((a : Attempt) → q ≡ Trying a None → Option A) → Option A
trying q (Trying a None) e f = f a e
trying q p e f = None

abbrev pub storing : {A : Type 0} (q p : Phase) → q ≡ p → ((a : Attempt) (l : Loaded) → q ≡ Trying a (Some l) → Option A) → Option A
storing q (Trying a (Some l)) e f = f a l e
storing q p e f = None

abbrev pub undoing : {A : Type 0} (q p : Phase) → q ≡ p → ((a : Attempt) (rival : Option ℕ) → q ≡ Undoing a rival None → Option A) → Option A
undoing q (Undoing a rival None) e f = f a rival e
undoing q p e f = None

abbrev pub taking_back : {A : Type 0} (q p : Phase) → q ≡ p → ((a : Attempt) (rival : Option ℕ) (l : Loaded) → q ≡ Undoing a rival (Some l) → Option A) → Option A
taking_back q (Undoing a rival (Some l)) e f = f a rival l e
taking_back q p e f = None

abbrev pub closing : {A : Type 0} (q p : Phase) → q ≡ p → ((t : Txn) (d : Decision) → q ≡ Closing t d None → Option A) → Option A
closing q (Closing t d None) e f = f t d e
closing q p e f = None

abbrev pub finishing : {A : Type 0} (q p : Phase) → q ≡ p → ((t : Txn) (d : Decision) (c : CommitsCell) → q ≡ Closing t d (Some c) → Option A) → Option A
finishing q (Closing t d (Some c)) e f = f t d c e
finishing q p e f = None

abbrev pub ending : {A : Type 0} (q p : Phase) → q ≡ p → ((tid : ℕ) (said : Answer) → q ≡ IsEnding tid said → Option A) → Option A
ending q (IsEnding tid said) e f = f tid said e
ending q p e f = None

-- and the steps of a recovery
abbrev pub no_duty : {A : Type 0} (q p : Recovery) → q ≡ p → (q ≡ NoDuty → Option A) → Option A
no_duty q NoDuty e f = f e
no_duty q p e f = None

abbrev pub next_duty : {A : Type 0} (q p : Recovery) → q ≡ p → ((duties : Duties) → q ≡ Next duties → Option A) → Option A
next_duty q (Next duties) e f = f duties e
next_duty q p e f = None

abbrev pub reading : {A : Type 0} (q p : Recovery) → q ≡ p → ((duties : Duties) (o : Orphan) → q ≡ Reading duties o → Option A) → Option A
reading q (Reading duties o) e f = f duties o e
reading q p e f = None

abbrev pub stripping : {A : Type 0} (q p : Recovery) → q ≡ p → ((duties : Duties) (o : Orphan) (log : LogCell) (seen : Key → Bool) → q ≡ Stripping duties o log seen None → Option A) → Option A
stripping q (Stripping duties o log seen None) e f = f duties o log seen e
stripping q p e f = None

abbrev pub storing_lost : {A : Type 0} (q p : Recovery) → q ≡ p
    → ((duties : Duties) (o : Orphan) (log : LogCell) (seen : Key → Bool) (l : Loaded) → q ≡ Stripping duties o log seen (Some l) → Option A) → Option A
storing_lost q (Stripping duties o log seen (Some l)) e f = f duties o log seen l e
storing_lost q p e f = None

abbrev pub finishing_lost : {A : Type 0} (q p : Recovery) → q ≡ p → ((duties : Duties) (o : Orphan) (committed : Bool) → q ≡ Finishing duties o committed None → Option A) → Option A
finishing_lost q (Finishing duties o committed None) e f = f duties o committed e
finishing_lost q p e f = None

abbrev pub storing_finish : {A : Type 0} (q p : Recovery) → q ≡ p
    → ((duties : Duties) (o : Orphan) (committed : Bool) (c : CommitsCell) → q ≡ Finishing duties o committed (Some c) → Option A) → Option A
storing_finish q (Finishing duties o committed (Some c)) e f = f duties o committed c e
storing_finish q p e f = None

abbrev pub closed : {A : Type 0} (q p : Recovery) → q ≡ p → ((duties : Duties) (o : Orphan) → q ≡ Closed duties o → Option A) → Option A
closed q (Closed duties o) e f = f duties o e
closed q p e f = None

-- this manager may give the number
abbrev pub ready : {A : Type 0} (q p : Number) → q ≡ p → ((manager : ℕ) → q ≡ Ready manager → Option A) → Option A
ready q (Ready manager) e f = f manager e
ready q p e f = None

-- the stages
abbrev pub fresh : {A : Type 0} (q p : Stage) → q ≡ p → (q ≡ Fresh → Option A) → Option A
fresh q Fresh e f = f e
fresh q p e f = None

abbrev pub opened : {A : Type 0} (q p : Stage) → q ≡ p → (q ≡ Opened → Option A) → Option A
opened q Opened e f = f e
opened q p e f = None

-- ---- low-water marks

listed_all : (p : ℕ → Bool) (nodes : List ℕ) (d : ℕ) → is_listed d nodes ≡ true → list_all p nodes ≡ true → p d ≡ true
listed_all p [] d e f = absurd cc
listed_all p (n ∷ nodes) d e f = one (n == d) refl e (listed_all p nodes d)
  where
    first : (a b : Bool) → (a && b) ≡ true → a ≡ true
    first true b e = refl
    first false b e = absurd cc

    second : (a b : Bool) → (a && b) ≡ true → b ≡ true
    second true b e = e
    second false b e = absurd cc

    one : (b : Bool) → (n == d) ≡ b → (b || is_listed d nodes) ≡ true → (is_listed d nodes ≡ true → list_all p nodes ≡ true → p d ≡ true) → p d ≡ true
    one true same e more = subst (λ (m : ℕ). p m ≡ true) (eqb-true n d same) (first (p n) (list_all p nodes) f)
    one false same e more = more e (second (p n) (list_all p nodes) f)

-- the mark begins the snapshot of the node's transaction, where the manager is its home
abbrev pub begins_one : TidSet → Option Active → Bool
begins_one floor None = true
begins_one floor (Some x) = begins floor x.snapshot

abbrev pub begins_at : World → ℕ → TidSet → ℕ → Bool
begins_at w manager floor d = if w.home d == manager then begins_one floor (w.active d) else true

abbrev pub is_own : World → ℕ → TidSet → TidSet → Type 0
is_own w manager copy floor = (floor ≡ copy) ⊎ ((d : ℕ) × (x : Active) × (w.active d ≡ Some x) × (w.home d ≡ manager) × (floor ≡ x.snapshot))

pub floor_so : (w : World) (v : ConfinedIn w) (manager : ℕ) (copy floor : TidSet) → is_own w manager copy floor → begins floor copy ≡ true
    → list_all (begins_at w manager floor) v.nodes ≡ true → IsFloor w manager copy floor
floor_so w v manager copy floor one b all = record { is_one = one; begins_copy = b; begins_active = active }
  where
    none_some : {x : Active} → ◌≡◌ {A = Option Active} None (Some x) → ⊥
    none_some e = cc

    listed : (d : ℕ) (x : Active) → w.active d ≡ Some x → (c : Bool) → is_listed d v.nodes ≡ c → is_listed d v.nodes ≡ true
    listed d x e true h = h
    listed d x e false h = absurd (none_some (sym (v.begun d h) ∙ e))

    active : (d : ℕ) (x : Active) → w.active d ≡ Some x → w.home d ≡ manager → begins floor x.snapshot ≡ true
    active d x e home =
        let here : begins_at w manager floor d ≡ true = listed_all (begins_at w manager floor) v.nodes d (listed d x e (is_listed d v.nodes) refl) all in
        ap (begins_one floor) (sym e) ∙ ap (λ (c : Bool). if c then begins_one floor (w.active d) else true) (sym (eq-eqb (w.home d) manager home)) ∙ here

-- the low-water mark of the manager: its copy, or the snapshot of this node's transaction
abbrev pub with_floor : {A : Type 0} (w : World) → ConfinedIn w → (manager : ℕ) (copy : TidSet) → Option ℕ → ((floor : TidSet) → IsFloor w manager copy floor → Option A) → Option A
with_floor {A} w v manager copy whose f = by whose
  where
    go : (floor : TidSet) → is_own w manager copy floor → Option A
    go floor one = when (begins floor copy) (λ b. when (list_all (begins_at w manager floor) v.nodes) (λ all. f floor (floor_so w v manager copy floor one b all)))

    by : Option ℕ → Option A
    by None = go copy (inl refl)
    by (Some d) = one_of (w.active d) (λ x e. when (w.home d == manager) (λ h. go x.snapshot (inr (d, x, e, eqb-true (w.home d) manager h, refl))))

-- so for each number up to this one
abbrev pub all_to : ℕ → (ℕ → Bool) → Bool
all_to zero p = p zero
all_to (suc m) p = p (suc m) && all_to m p

pub each_to : (m : ℕ) (p : ℕ → Bool) → all_to m p ≡ true → (j : ℕ) → j ≤ m → p j ≡ true
each_to zero p e j l = let none : zero ≡ j = omega arith in subst (λ (i : ℕ). p i ≡ true) none e
each_to (suc m) p e j l = one (suc m == j) refl (p (suc m)) refl (all_to m p) refl e (λ h. each_to m p h j)
  where
    one : (b : Bool) → (suc m == j) ≡ b → (x : Bool) → p (suc m) ≡ x → (y : Bool) → all_to m p ≡ y → (x && y) ≡ true → (all_to m p ≡ true → j ≤ m → p j ≡ true) → p j ≡ true
    one true s true h y k e more = subst (λ (i : ℕ). p i ≡ true) (eqb-true (suc m) j s) h
    one false s true h y k e more = let apart : suc m ≡ j → ⊥ = eqb-false (suc m) j s in more (k ∙ e) (below apart)
      where
        below : (suc m ≡ j → ⊥) → j ≤ m
        below apart = omega arith
    one b s false h y k e more = absurd cc

-- ---- the move that a node chooses

module _ (catalog : Catalog) (w : World) (v : ConfinedIn w) (is : w.catalog ≡ catalog) where
  abbrev pub rows_seen : TidSet → Key → Option Row
  rows_seen snapshot k = row_shown snapshot (w.cells k).versions

  pub none_seen : (snapshot : TidSet) (k : Key) → is_named k v.keys ≡ false → rows_seen snapshot k ≡ None
  none_seen snapshot k e = ap (row_shown snapshot) (v.stored k e)

  module _ (n : ℕ) (r : runs w n ≡ true) where
    abbrev pub begin : ℕ → Option ℕ → Option (Move w)
    begin tid whose =
        noted (w.phases n) (w.phases n) refl (λ seen e.
        ready (w.numbers tid) (w.numbers tid) refl (λ manager number.
        when (manager == w.home n) (λ h.
        with_floor w v (w.home n) (newer (w.copies (w.home n)) seen) whose (λ floor low.
        Some (move.Begin n tid seen floor (record { runs = r; so_far = e }) (number ∙ ap Ready (eqb-true manager (w.home n) h)) low)))))

    abbrev pub learn : ℕ → Option ℕ → Option (Move w)
    learn manager whose =
        with_floor w v manager (newer (w.copies manager) opening_copy) whose (λ floor low. Some (move.Learn n manager opening_copy floor r (inl refl) low))

    -- the node reads, and answers a SELECT
    abbrev pub select : ℕ → Selecting → Option (Moves w)
    select statement s =
        live (w.phases n) (w.phases n) refl (λ t facts e.
        when (takes_statements t.stage) (λ takes.
        let at : At w n (Live t facts) = record { runs = r; so_far = e } in
        let look : Move w = move.Look n t facts (select_looks s) at in
        let read : List Fact = fact_of w t.snapshot (select_looks s) ∷ facts in
        let rows : Key → Option Row = rows_seen t.snapshot in
        let none : (k : Key) → is_named k v.keys ≡ false → rows k ≡ None = none_seen t.snapshot in
        let lines : Option (List Line) = select_lines s v.keys rows none t.own in
        when (stand_sorted s.query.sort lines) (λ sorted.
        Some (Two look (move.SaySelect n statement s.query (lines_told s.query.limit lines) t read
        (record { runs = r; so_far = put_same n (Live t read) w.phases }) takes
        (λ tables home agree. select_means s v.keys rows none t.own tables agree.0 sorted))))))

    -- it reads, and answers an UPDATE
    abbrev pub update : ℕ → Updating catalog → Option (Moves w)
    update statement u =
        live (w.phases n) (w.phases n) refl (λ t facts e.
        when (takes_statements t.stage) (λ takes.
        let at : At w n (Live t facts) = record { runs = r; so_far = e } in
        let look : Move w = move.Look n t facts (update_looks catalog u) at in
        let read : List Fact = fact_of w t.snapshot (update_looks catalog u) ∷ facts in
        let rows : Key → Option Row = rows_seen t.snapshot in
        let none : (k : Key) → is_named k v.keys ≡ false → rows k ≡ None = none_seen t.snapshot in
        let effect : Result Effect ChangeFault = update_so catalog u v.keys rows none t.own in
        one_of (told_of effect) (λ said h.
        Some (Two look (move.SayChange n statement (edit_of catalog u) said (own_after effect t.own) t read
        (record { runs = r; so_far = put_same n (Live t read) w.phases }) takes
        (subst (λ (c : Catalog). Suits c (edit_of catalog u)) (sym is) u.suits)
        (λ tables home agree.
        subst (λ (c : Catalog). Changes c (edit_of catalog u) tables t.own said (own_after effect t.own)) (sym is)
        (update_means catalog u v.keys rows none t.own said h tables (subst (λ (c : Catalog). AreHome c tables) is home) agree.0)))))))

    abbrev pub try : ℕ → Option (Move w)
    try stamp =
        live (w.phases n) (w.phases n) refl (λ t facts e.
        when (may_commit t.stage) (λ may.
        whether (is_empty t.own) (λ none. Some (move.TryNothing n t facts (record { runs = r; so_far = e }) may none)) (λ some.
        when (log_stamp (w.logs t.tid) == 0) (λ absent.
        when (nat_lt 0 stamp) (λ above.
        Some (move.Try n stamp t facts (record { runs = r; so_far = e }) may some (eqb-true (log_stamp (w.logs t.tid)) 0 absent) (ltb-true 0 stamp above)))))))

    -- the record of the own write at this place: its cell is loaded, or the transaction clashes there
    abbrev pub load : ℕ → Option (Move w)
    load place =
        trying (w.phases n) (w.phases n) refl (λ a e.
        one_of (slice_get a.txn.own place) (λ o own.
        whether (a.stored o.key) (λ stored. None) (λ new.
        one_or (stranger a.txn.snapshot (w.cells o.key).versions)
        (λ rival strange. Some (move.Clash n place rival o a (record { runs = r; so_far = e }) own new strange))
        (λ none. when (is_written o.key a.txn.own) (λ written. Some (move.LoadOwn n o.key a (record { runs = r; so_far = e }) written new none))))))

    abbrev pub store : ℕ → ℕ → Option (Move w)
    store stamp manager =
        storing (w.phases n) (w.phases n) refl (λ a l e.
        whether ((w.cells l.key).stamp == l.stamp)
        (λ same.
        when (nat_lt l.stamp stamp) (λ above.
        when (nat_le manager w.top) (λ within.
        when (all_to w.top (λ j. begins (w.floors n manager) (w.floors n j))) (λ least.
        Some (move.StoreOwn n stamp (w.floors n manager) a l (record { runs = r; so_far = e }) (eqb-true (w.cells l.key).stamp l.stamp same) (ltb-true l.stamp stamp above)
        (record {
          is_one = (manager, leb-true manager w.top within, refl);
          begins_all = each_to w.top (λ j. begins (w.floors n manager) (w.floors n j)) least;
        }))))))
        (λ moved. Some (move.MovedOwn n a l (record { runs = r; so_far = e }) moved)))

    abbrev pub decide : ℕ → Option (Move w)
    decide stamp =
        trying (w.phases n) (w.phases n) refl (λ a e.
        when (all_stored a) (λ all.
        when (log_stamp (w.logs a.txn.tid) == a.log) (λ same.
        when (nat_lt a.log stamp) (λ above.
        Some (move.Decide n stamp a (record { runs = r; so_far = e }) all (eqb-true (log_stamp (w.logs a.txn.tid)) a.log same) (ltb-true a.log stamp above))))))

    abbrev pub take_back : ℕ → Option (Move w)
    take_back place =
        undoing (w.phases n) (w.phases n) refl (λ a rival e.
        one_of (slice_get a.txn.own place) (λ o own.
        when (a.stored o.key) (λ stored. Some (move.LoadUndo n o.key a rival (record { runs = r; so_far = e }) stored))))

    abbrev pub store_back : ℕ → Option (Move w)
    store_back stamp =
        taking_back (w.phases n) (w.phases n) refl (λ a rival l e.
        whether ((w.cells l.key).stamp == l.stamp)
        (λ same.
        when (nat_lt l.stamp stamp) (λ above.
        Some (move.StoreUndo n stamp a rival l (record { runs = r; so_far = e }) (eqb-true (w.cells l.key).stamp l.stamp same) (ltb-true l.stamp stamp above))))
        (λ moved. Some (move.MovedUndo n a rival l (record { runs = r; so_far = e }) moved)))

    abbrev pub mark_undone : ℕ → Option (Move w)
    mark_undone stamp =
        undoing (w.phases n) (w.phases n) refl (λ a rival e.
        when (none_stored a) (λ none.
        when (log_stamp (w.logs a.txn.tid) == a.log) (λ same.
        when (nat_lt a.log stamp) (λ above.
        Some (move.MarkUndone n stamp a rival (record { runs = r; so_far = e }) none (eqb-true (log_stamp (w.logs a.txn.tid)) a.log same) (ltb-true a.log stamp above))))))

    abbrev pub give_up : Option (Move w)
    give_up =
        live (w.phases n) (w.phases n) refl (λ t facts e. when (may_give_up t.stage) (λ may. Some (move.GiveUp n t facts (record { runs = r; so_far = e }) may)))

    abbrev pub store_commits : ℕ → Option (Move w)
    store_commits stamp =
        finishing (w.phases n) (w.phases n) refl (λ t d c e.
        whether (w.commits.stamp == c.stamp)
        (λ same.
        when (nat_lt c.stamp stamp) (λ above.
        Some (move.StoreCommits n stamp t d c (record { runs = r; so_far = e }) (eqb-true w.commits.stamp c.stamp same) (ltb-true c.stamp stamp above))))
        (λ moved. Some (move.MovedCommits n t d c (record { runs = r; so_far = e }) moved)))

    abbrev pub recover : ℕ → ℕ → Option (Move w)
    recover statement gone =
        idle (w.phases n) (w.phases n) refl (λ e.
        no_duty (w.recoveries n) (w.recoveries n) refl (λ free.
        one_or (w.notices gone)
        (λ also posted. Some (move.Claim n gone also (record { runs = r; so_far = e }) free posted))
        (λ none. Some (move.There n statement gone (record { runs = r; so_far = e }) free none))))

    abbrev pub ask_for : ℕ → Option (Move w)
    ask_for d =
        next_duty (w.recoveries n) (w.recoveries n) refl (λ duties e.
        when (duties.left d) (λ left.
        one_or (w.active d)
        (λ x active. Some (move.FindOrphan n duties x d (record { runs = r; so_far = e }) left active))
        (λ none. Some (move.FindNone n duties d (record { runs = r; so_far = e }) left none))))

    -- the record at this place in the log cell
    abbrev pub load_lost : ℕ → Option (Move w)
    load_lost place =
        stripping (w.recoveries n) (w.recoveries n) refl (λ duties o log seen e.
        one_of (slice_get log.entry.writes place) (λ k listed.
        when (is_named k log.entry.writes) (λ named.
        whether (seen k) (λ before. None) (λ new. Some (move.LoadLost n k duties o log seen (record { runs = r; so_far = e }) named new)))))

    abbrev pub store_lost : ℕ → Option (Move w)
    store_lost stamp =
        storing_lost (w.recoveries n) (w.recoveries n) refl (λ duties o log seen l e.
        whether ((w.cells l.key).stamp == l.stamp)
        (λ same.
        when (nat_lt l.stamp stamp) (λ above.
        Some (move.StoreLost n stamp duties o log seen l (record { runs = r; so_far = e }) (eqb-true (w.cells l.key).stamp l.stamp same) (ltb-true l.stamp stamp above))))
        (λ moved. Some (move.MovedLost n duties o log seen l (record { runs = r; so_far = e }) moved)))

    abbrev pub mark_lost : ℕ → Option (Move w)
    mark_lost stamp =
        stripping (w.recoveries n) (w.recoveries n) refl (λ duties o log seen e.
        when (all_seen log seen) (λ all.
        when (log_stamp (w.logs o.tid) == log.stamp) (λ same.
        when (nat_lt log.stamp stamp) (λ above.
        Some (move.MarkLost n stamp duties o log seen (record { runs = r; so_far = e }) all (eqb-true (log_stamp (w.logs o.tid)) log.stamp same) (ltb-true log.stamp stamp above))))))

    abbrev pub store_finish : ℕ → Option (Move w)
    store_finish stamp =
        storing_finish (w.recoveries n) (w.recoveries n) refl (λ duties o committed c e.
        whether (w.commits.stamp == c.stamp)
        (λ same.
        when (nat_lt c.stamp stamp) (λ above.
        Some (move.StoreFinish n stamp duties o committed c (record { runs = r; so_far = e }) (eqb-true w.commits.stamp c.stamp same) (ltb-true c.stamp stamp above))))
        (λ moved. Some (move.MovedFinish n duties o committed c (record { runs = r; so_far = e }) moved)))

    pub none_left : (left : ℕ → Bool) → ((d : ℕ) → is_listed d v.nodes ≡ false → left d ≡ false) → list_all (λ (d : ℕ). not (left d)) v.nodes ≡ true → (d : ℕ) → left d ≡ false
    none_left left outside all d = one (is_listed d v.nodes) refl
      where
        one : (b : Bool) → is_listed d v.nodes ≡ b → left d ≡ false
        one true h = not-true (left d) (listed_all (λ (i : ℕ). not (left i)) v.nodes d h all)
        one false h = outside d h

    abbrev pub say_recovered : ℕ → Option (Move w)
    say_recovered statement =
        idle (w.phases n) (w.phases n) refl (λ e.
        next_duty (w.recoveries n) (w.recoveries n) refl (λ duties is_next.
        when (list_all (λ (d : ℕ). not (duties.left d)) v.nodes) (λ all.
        Some (move.SayRecovered n statement duties (record { runs = r; so_far = e }) is_next
        (none_left duties.left (λ d h. (has_not _ _ _ _ v n (Next duties) is_next d h).1) all)))))

  abbrev pub running : (n : ℕ) → (runs w n ≡ true → Option (Move w)) → Option (Moves w)
  running n f = single (when (runs w n) f)
    where
      single : Option (Move w) → Option (Moves w)
      single None = None
      single (Some m) = Some (One m)

  -- the move that is chosen, where it is possible
  abbrev pub choose : Choice catalog → Option (Moves w)
  choose (Asks n) = running n (λ r. idle (w.phases n) (w.phases n) refl (λ e. Some (move.Ask n (record { runs = r; so_far = e }))))
  choose (Draws n) =
      running n (λ r. noted (w.phases n) (w.phases n) refl (λ seen e.
      when (nat_le (w.counter + 16) (2 ^ 62)) (λ room. Some (move.Draw n seen (record { runs = r; so_far = e }) (leb-true (w.counter + 16) (2 ^ 62) room)))))
  choose (Brings n) = running n (λ r. drawn (w.phases n) (w.phases n) refl (λ seen low e. Some (move.Bring n seen low (record { runs = r; so_far = e }))))
  choose (Begins n tid whose) = running n (λ r. begin n r tid whose)
  choose (Learns n manager whose) = running n (λ r. learn n r manager whose)
  choose (SaysBegun n statement) =
      running n (λ r. live (w.phases n) (w.phases n) refl (λ t facts e.
      fresh t.stage t.stage refl (λ is_fresh. Some (move.SayBegun n statement t facts (record { runs = r; so_far = e }) is_fresh))))
  choose (SaysNested n statement b) =
      running n (λ r. live (w.phases n) (w.phases n) refl (λ t facts e.
      opened t.stage t.stage refl (λ is_opened. when (is_nested b) (λ nested. Some (move.SayNested n statement b t facts (record { runs = r; so_far = e }) is_opened nested)))))
  choose (SaysOutside n statement b) =
      running n (λ r. idle (w.phases n) (w.phases n) refl (λ e. when (is_outside b) (λ outside. Some (move.SayOutside n statement b (record { runs = r; so_far = e }) outside))))
  choose (Selects n statement s) = when (runs w n) (λ r. select n r statement s)
  choose (Updates n statement u) = when (runs w n) (λ r. update n r statement u)
  choose (Tries n stamp) = running n (λ r. try n r stamp)
  choose (Loads n place) = running n (λ r. load n r place)
  choose (Stores n stamp manager) = running n (λ r. store n r stamp manager)
  choose (Decides n stamp) = running n (λ r. decide n r stamp)
  choose (TakesBack n place) = running n (λ r. take_back n r place)
  choose (StoresBack n stamp) = running n (λ r. store_back n r stamp)
  choose (MarksUndone n stamp) = running n (λ r. mark_undone n r stamp)
  choose (GivesUp n) = running n (λ r. give_up n r)
  choose (LoadsCommits n) = running n (λ r. closing (w.phases n) (w.phases n) refl (λ t d e. Some (move.LoadCommits n t d (record { runs = r; so_far = e }))))
  choose (StoresCommits n stamp) = running n (λ r. store_commits n r stamp)
  choose (Answers n statement) = running n (λ r. ending (w.phases n) (w.phases n) refl (λ tid said e. Some (move.End n statement tid said (record { runs = r; so_far = e }))))
  choose (Vanishes n how) = running n (λ r. Some (move.Vanish n how r))
  choose (Recoverer n statement gone) = running n (λ r. recover n r statement gone)
  choose (AsksFor n d) = running n (λ r. ask_for n r d)
  choose (ReadsLog n) = running n (λ r. reading (w.recoveries n) (w.recoveries n) refl (λ duties o e. Some (move.ReadLog n duties o (record { runs = r; so_far = e }))))
  choose (LoadsLost n place) = running n (λ r. load_lost n r place)
  choose (StoresLost n stamp) = running n (λ r. store_lost n r stamp)
  choose (MarksLost n stamp) = running n (λ r. mark_lost n r stamp)
  choose (LoadsFinish n) =
      running n (λ r. finishing_lost (w.recoveries n) (w.recoveries n) refl (λ duties o committed e. Some (move.LoadFinish n duties o committed (record { runs = r; so_far = e }))))
  choose (StoresFinish n stamp) = running n (λ r. store_finish n r stamp)
  choose (EndsLost n) = running n (λ r. closed (w.recoveries n) (w.recoveries n) refl (λ duties o e. Some (move.EndLost n duties o (record { runs = r; so_far = e }))))
  choose (SaysRecovered n statement) = running n (λ r. say_recovered n r statement)

-- ---- a list of choices

-- what is played so far: where it leads, what is told of it, and that it is a run of the protocol
pub record Played (layout : Layout) (setup : Setup) : Type 0 where
  pub world : World
  pub confined : ConfinedIn world
  pub catalog : world.catalog ≡ setup.catalog
  pub state : SiState
  pub entries : List Entry
  pub reached : Reach layout setup world state entries

abbrev pub opening : (layout : Layout) (setup : Setup) → Played layout setup
opening layout setup =
    record {
      world = opening_world layout setup;
      confined = confined_opening layout setup;
      catalog = refl;
      state = opening_state setup;
      entries = [];
      reached = Start;
    }

module _ (layout : Layout) (setup : Setup) where
  abbrev pub moved : (p : Played layout setup) → Move p.world → Played layout setup
  moved p m =
      record {
        world = next p.world m;
        confined = confined_next p.world p.confined m;
        catalog = catalog_next p.world m ∙ p.catalog;
        state = state_from setup.catalog p.state (told p.state.commits p.world m);
        entries = p.entries ++ told p.state.commits p.world m;
        reached = Step p.reached m;
      }

  abbrev pub moves : (p : Played layout setup) → Moves p.world → Played layout setup
  moves p (One m) = moved p m
  moves p (Two m n) = moved (moved p m) n

  -- a choice that isn't possible gives nothing
  abbrev pub play : List (Choice setup.catalog) → Played layout setup → Option (Played layout setup)
  play [] p = Some p
  play (c ∷ cs) p = elim (choose setup.catalog p.world p.confined p.catalog c) [ None ↦ None | Some ms ↦ play cs (moves p ms) ]

  -- what is told of these choices, from the opening on; and where they lead
  abbrev pub told_by : List (Choice setup.catalog) → Option (List Entry)
  told_by cs = elim (play cs (opening layout setup)) [ None ↦ None | Some p ↦ Some p.entries ]

  abbrev pub led_by : List (Choice setup.catalog) → Played layout setup
  led_by cs = elim (play cs (opening layout setup)) [ None ↦ opening layout setup | Some p ↦ p ]

  -- what is told of choices is a history
  pub played_history : OpensFitting setup → (cs : List (Choice setup.catalog)) (entries : List Entry) → told_by cs ≡ Some entries → IsHistory setup entries
  played_history fits cs entries = one (play cs (opening layout setup))
    where
      one : (o : Option (Played layout setup)) → (elim o as (λ x. Option (List Entry)) [ None ↦ None | Some p ↦ Some p.entries ]) ≡ Some entries → IsHistory setup entries
      one None e = absurd cc
      one (Some p) e = subst (IsHistory setup) (entries_same p.entries entries e) (reached fits p.reached).history
        where
          entries_same : (a b : List Entry) → ◌≡◌ {A = Option (List Entry)} (Some a) (Some b) → a ≡ b
          entries_same a b e = cc

  -- the set of finished transactions shows of each record what the commits left
  pub played_tables : OpensFitting setup → (cs : List (Choice setup.catalog)) (k : Key)
      → row_shown (led_by cs).world.commits.finished ((led_by cs).world.cells k).versions ≡ finmap.get (tables_after (led_by cs).state.commits) k
  played_tables fits cs k = one (led_by cs)
    where
      one : (p : Played layout setup) → row_shown p.world.commits.finished (p.world.cells k).versions ≡ finmap.get (tables_after p.state.commits) k
      one p = (stands_for setup p.world p.state p.entries (reached fits p.reached)).now k
