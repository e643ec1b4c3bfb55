-- How far a node is, as the protocol sees it.
use Rattle.std.proofs.Common.{◌≡◌, ℕ, ◌+◌, ◌<◌, ◌≤◌, Bool, true, false, List, [], ◌∷◌, ◌++◌, length, Option, Some, None}
use Rattle.std.specs.Prelude.{◌==◌, ◌&&◌, not, nat_le, slice_get}
use Rattle.std.specs.List.{list_any}
use Rattle.std.specs.Ordering.{is_eq}
use Rattle.tl_base.specs.NodeSet.{has_node}
use Rattle.tl_base.specs.declared.place.Settings.{Settings}
use Rattle.tl_schema.specs.declared.catalog.Setup.{Setup}
use Rattle.tl_descriptor.specs.Tids.{TidSet}
use Rattle.tl_write.specs.declared.write.Write.{Write}
use Rattle.tl_write.specs.Own.{is_rising, is_written, key_cmp}
use Rattle.tl_isolation.specs.declared.bound.Bound.{Bound}
use Rattle.tl_isolation.specs.declared.bound.Bound.TheVariants as bound
use Rattle.tl_isolation.specs.declared.entry.Entry.{Entry}
use Rattle.tl_isolation.specs.declared.state.SiState.{SiState}
use Rattle.tl_isolation.specs.History.{state_from}
use Rattle.tl_isolation.specs.Tables.{OpensFitting}
use Rattle.tl_protocol.specs.Store.{Key}
use Rattle.tl_protocol.specs.Move.{is_empty, may_commit}
use Rattle.tl_protocol.specs.World.{Fresh, Txn, Fact, Attempt, Loaded, Phase, Recovery, World, Duties, Orphan}
use Rattle.tl_protocol.specs.World as protocol
use Rattle.tl_protocol.specs.World.{runs}
use Rattle.tl_protocol.specs.Next.{owed}
use Rattle.tl_protocol.specs.Run.{Layout, Reach}
use Rattle.tl_journal.specs.Bytes.{home_of}
use Rattle.tl_journal.specs.Reads.{Reads}
use Rattle.tl_journal.specs.Node.{Storing, Removing, Claimed, Lost, Doing, Outside, Noted, Drawing, Bringing, Inside, Reading, Trying, Stores, Removes, Closing, Ending, Recovering, ReadingLog, Stripping, Finishing, EndingLost, Stopped, Node}
use Rattle.tl_journal.specs.Asks.{ToBegin, course_outside}
use Rattle.tl_journal.specs.Served.{AreNodes, Parts, parts_of}

-- own writes stand in rising order of keys
pub record OwnOk (own : List Write) : Type 0 where
  pub rising : is_rising own ≡ true

-- the head of a list has this key
abbrev pub Heads : List Write → Key → Type 0
Heads [] k = ⊥
Heads (o ∷ os) k = o.key ≡ k

-- what is in hand is the cell of the first write that is left
abbrev pub HandOk : List Write → Option Loaded → Type 0
HandOk left None = Unit {0}
HandOk left (Some l) = Heads left l.key

abbrev pub attempt_of : Storing → Attempt
attempt_of s = record { txn = s.txn; log = s.log; stored = λ k. is_written k s.stored }

abbrev pub attempt_left : Removing → Attempt
attempt_left r = record { txn = r.txn; log = r.log; stored = λ k. is_written k r.left }

abbrev pub members : List ℕ → ℕ → Bool
members ds d = list_any (λ x. x == d) ds

abbrev pub orphan_of : Lost → Orphan
orphan_of o = record { node = o.node; tid = o.tid }

-- the keys of a log cell that are seen to, where these are left
abbrev pub seen_but : List Key → List Key → Key → Bool
seen_but keys left k = list_any (λ key. is_eq (key_cmp key k)) keys && not (list_any (λ key. is_eq (key_cmp key k)) left)

-- a part of the list
abbrev pub IsPartOf : {A : Type 0} → List A → List A → Type 0
IsPartOf part whole = (front : List _) × (back : List _) × (whole ≡ front ++ part ++ back)

-- no element twice
abbrev pub AreDistinct : List ℕ → Type 0
AreDistinct [] = Unit {0}
AreDistinct (x ∷ xs) = (members xs x ≡ false) × AreDistinct xs

-- the own transaction; R says what was read
abbrev pub PhaseIs : (Txn → List Fact → Reads → Type 0) → Doing → Phase → Type 0
PhaseIs R Outside p = p ≡ protocol.Idle
PhaseIs R (Noted seen) p = p ≡ protocol.Noted seen
PhaseIs R (Drawing seen) p = p ≡ protocol.Noted seen
PhaseIs R (Bringing seen low) p = p ≡ protocol.Drawn seen low
PhaseIs R (Inside t) p = (p ≡ protocol.Live t []) × OwnOk t.own
PhaseIs R (Reading t reads) p = (facts : List Fact) × (p ≡ protocol.Live t facts) × OwnOk t.own × R t facts reads
PhaseIs R (Trying t) p = (p ≡ protocol.Live t []) × OwnOk t.own × (may_commit t.stage ≡ true) × (is_empty t.own ≡ false)
PhaseIs R (Stores s l) p = (p ≡ protocol.Trying (attempt_of s) l) × OwnOk s.txn.own × (s.txn.own ≡ s.stored ++ s.left) × HandOk s.left l
PhaseIs R (Removes r l) p = (p ≡ protocol.Undoing (attempt_left r) (Some r.rival) l) × OwnOk r.txn.own × IsPartOf r.left r.txn.own × HandOk r.left l
PhaseIs R (Closing t d c) p = p ≡ protocol.Closing t d c
PhaseIs R (Ending tid told) p = p ≡ protocol.Ending tid told
PhaseIs R (Recovering c) p = p ≡ protocol.Idle
PhaseIs R (ReadingLog c o) p = p ≡ protocol.Idle
PhaseIs R (Stripping c o log keys l) p = p ≡ protocol.Idle
PhaseIs R (Finishing c o committed x) p = p ≡ protocol.Idle
PhaseIs R (EndingLost c o) p = p ≡ protocol.Idle
PhaseIs R (Stopped nodes) p = Unit {0}

-- the duties: those that are left are some of the given ones, each once
pub record ClaimedOk (c : Claimed) (duties : Duties) : Type 0 where
  pub node : duties.node ≡ c.node
  pub all : (d : ℕ) → duties.all d ≡ (nat_le 1 d && has_node c.all d)
  pub left : (d : ℕ) → duties.left d ≡ members c.left d
  pub distinct : AreDistinct c.left
  pub small : (d : ℕ) → 16 < d → has_node c.all d ≡ false

-- the head of the keys is the one in hand
abbrev pub KeyHandOk : List Key → Option Loaded → Type 0
KeyHandOk keys None = Unit {0}
KeyHandOk [] (Some l) = ⊥
KeyHandOk (key ∷ keys) (Some l) = l.key ≡ key

-- the recovery
abbrev pub RecoveryIs : Doing → Recovery → Type 0
RecoveryIs (Recovering c) r = (duties : Duties) × (r ≡ protocol.Next duties) × ClaimedOk c duties
RecoveryIs (ReadingLog c o) r = (duties : Duties) × (r ≡ protocol.Reading duties (orphan_of o)) × ClaimedOk c duties × (o.others ≡ [])
RecoveryIs (Stripping c o log keys l) r =
    (duties : Duties) × (seen : Key → Bool) × (r ≡ protocol.Stripping duties (orphan_of o) log seen l) × ClaimedOk c duties × (o.others ≡ [])
    × IsPartOf keys log.entry.writes × ((k : Key) → seen k ≡ seen_but log.entry.writes keys k) × KeyHandOk keys l
RecoveryIs (Finishing c o committed x) r =
    (duties : Duties) × (r ≡ protocol.Finishing duties (orphan_of o) committed x) × ClaimedOk c duties × (o.others ≡ [])
RecoveryIs (EndingLost c o) r = (duties : Duties) × (r ≡ protocol.Closed duties (orphan_of o)) × ClaimedOk c duties × (o.others ≡ [])
RecoveryIs (Stopped nodes) r = AreNodes (owed r) nodes
RecoveryIs doing r = r ≡ protocol.NoDuty

-- a statement that is a transaction of its own where none is open
abbrev pub is_single : Bound → Bool
is_single (bound.Select query) = true
is_single (bound.Change edit) = true
is_single statement = false

-- the statement for which a transaction begins is one that begins it, and one that begun without BEGIN is of its one statement
abbrev pub StatementIs : Doing → Bound → Type 0
StatementIs (Noted seen) statement = course_outside statement ≡ ToBegin
StatementIs (Drawing seen) statement = course_outside statement ≡ ToBegin
StatementIs (Bringing seen low) statement = course_outside statement ≡ ToBegin
StatementIs (Inside t) statement = t.stage ≡ Fresh → is_single statement ≡ true
StatementIs doing statement = Unit {0}

-- the present statement, if there is one
abbrev pub PresentIs : (Bound → Type 0) → List Bound → Type 0
PresentIs P [] = Unit {0}
PresentIs P (statement ∷ later) = P statement

-- a node of a run, as the protocol sees it
pub record NodeIs (R : Txn → List Fact → Reads → Type 0) (settings : Settings) (node : Node) (w : World) (n : ℕ) : Type 0 where
  pub number : node.number ≡ n
  pub phase : PhaseIs R node.doing (w.phases n)
  pub recovery : RecoveryIs node.doing (w.recoveries n)
  pub statement : PresentIs (StatementIs node.doing) node.todo
  pub managers : length node.floors ≡ settings.managers
  pub floors : (j : ℕ) (floor : TidSet) → slice_get node.floors j ≡ Some floor → w.floors n j ≡ floor

-- what the law of the protocol and a run have in common: as many managers, each node's by its number
pub record IsLaidOut (settings : Settings) (w : World) : Type 0 where
  pub some : 1 ≤ settings.managers
  pub home : (n : ℕ) → w.home n ≡ home_of settings n
  pub top : w.top + 1 ≡ settings.managers

-- the protocol goes on: to a state with these parts, in which node n is so far, and no other node is elsewhere
pub record Goes (R : Txn → List Fact → Reads → Type 0) (layout : Layout) (setup : Setup) (settings : Settings) (w : World) (state : SiState)
    (entries told : List Entry) (n : ℕ) (node : Node) (after : Parts) : Type 0 where
  pub world : World
  pub reach : Reach layout setup world (state_from setup.catalog state told) (entries ++ told)
  pub parts : parts_of world ≡ after
  pub node_is : NodeIs R settings node world n
  pub others : (i : ℕ) → (n ≡ i → ⊥) → (world.phases i ≡ w.phases i) × (world.recoveries i ≡ w.recoveries i) × ((j : ℕ) → world.floors i j ≡ w.floors i j)
  pub gone : (i : ℕ) → world.gone i ≡ w.gone i
  pub laid_out : IsLaidOut settings world
  pub catalog : world.catalog ≡ setup.catalog

-- where node n stands before it makes a request
pub record Before (R : Txn → List Fact → Reads → Type 0) (layout : Layout) (setup : Setup) (settings : Settings) (w : World) (state : SiState)
    (entries : List Entry) (n : ℕ) (node : Node) : Type 0 where
  pub reach : Reach layout setup w state entries
  pub opening : OpensFitting setup
  pub runs : runs w n ≡ true
  pub node_is : NodeIs R settings node w n
  pub laid_out : IsLaidOut settings w
  pub catalog : w.catalog ≡ setup.catalog
  -- node numbers end at 16
  pub few : (d : ℕ) → w.gone d ≡ true → d ≤ 16
