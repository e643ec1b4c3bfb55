-- How the protocol goes on where a node hears a reply: by one move, by two, or not at all.
use Rattle.std.proofs.Common.{◌≡◌, ℕ, ◌+◌, zero, suc, Bool, true, false, ◌⊎◌, inl, inr, List, [], ◌∷◌, ◌++◌, length, Some, refl, sym, ap, ◌∙◌, subst}
use Rattle.std.specs.Prelude.{slice_get, slice_set}
use Rattle.std.proofs.lemmas.List.{append-nil, append_assoc, length-set}
use Rattle.std.proofs.lemmas.Option.{same_Some}
use Rattle.tl_base.specs.declared.node.NodeSet.{NodeSet}
use Rattle.tl_base.specs.declared.place.Settings.{Settings}
use Rattle.tl_schema.specs.declared.catalog.Catalog.{Catalog}
use Rattle.tl_schema.specs.declared.catalog.Setup.{Setup}
use Rattle.tl_descriptor.specs.Tids.{TidSet}
use Rattle.tl_manager.specs.declared.active.Active.{Active}
use Rattle.tl_isolation.specs.declared.bound.Bound.{Bound}
use Rattle.tl_isolation.specs.declared.entry.Answer.{Answer}
use Rattle.tl_isolation.specs.declared.entry.Entry.{Entry}
use Rattle.tl_isolation.specs.declared.state.SiState.{SiState}
use Rattle.tl_isolation.specs.History.{state_from}
use Rattle.tl_isolation.specs.Step.{after}
use Rattle.tl_protocol.specs.Store.{put}
use Rattle.tl_protocol.specs.World.{Txn, Fact, Phase, Recovery, World, At, Recovers, IsFloor}
use Rattle.tl_protocol.specs.Move as move
use Rattle.tl_protocol.specs.Move.{Move}
use Rattle.tl_protocol.specs.Next.{next}
use Rattle.tl_protocol.specs.Told.{told}
use Rattle.tl_protocol.specs.Run.{Layout, Reach, Step}
use Rattle.tl_protocol.specs.Stands.{HasInLog}
use Rattle.tl_protocol.proofs.Frames.{put_one, put_other}
use Rattle.tl_protocol.proofs.Reached.{reached, state_append}
use Rattle.tl_protocol.proofs.Standing.{nodes_know}
use Rattle.tl_journal.specs.Ask.{Ask, Heard}
use Rattle.tl_journal.specs.Bytes.{home_of}
use Rattle.tl_journal.specs.Reads.{Reads}
use Rattle.tl_journal.specs.Node.{Doing, Stopped, Node, owed_by}
use Rattle.tl_journal.specs.Asks.{asks}
use Rattle.tl_journal.specs.Takes.{MayMean, stopped, takes}
use Rattle.tl_journal.specs.Says.{says_at}
use Rattle.tl_journal.specs.Served.{IsMark, Parts, Serves, parts_of}
use Rattle.tl_journal.proofs.Owed.{owed_is}
use Rattle.tl_journal.proofs.Meets.{Before, Goes, IsLaidOut, NodeIs, PhaseIs, PresentIs, RecoveryIs, StatementIs}

-- whose move it is
abbrev pub mover : {w : World} → Move w → ℕ
mover (move.Ask n at) = n
mover (move.Draw n seen at room) = n
mover (move.Bring n seen low at) = n
mover (move.Begin n tid seen floor at number low) = n
mover (move.Learn n manager seen floor r told low) = n
mover (move.Look n t facts looked at) = n
mover (move.Cover n t facts covers looked at right) = n
mover (move.SayBegun n statement t facts at fresh) = n
mover (move.SayNested n statement b t facts at opened nested) = n
mover (move.SayOutside n statement b at outside) = n
mover (move.SaySelect n statement query said t facts at takes means) = n
mover (move.SayChange n statement edit said own t facts at takes suits means) = n
mover (move.Try n stamp t facts at may some absent above) = n
mover (move.TryNothing n t facts at may none) = n
mover (move.LoadOwn n k a at own new none) = n
mover (move.Clash n place rival o a at own new strange) = n
mover (move.StoreOwn n stamp floor a l at same above least) = n
mover (move.MovedOwn n a l at moved) = n
mover (move.Decide n stamp a at all same above) = n
mover (move.LoadUndo n k a rival at stored) = n
mover (move.StoreUndo n stamp a rival l at same above) = n
mover (move.MovedUndo n a rival l at moved) = n
mover (move.MarkUndone n stamp a rival at none same above) = n
mover (move.GiveUp n t facts at may) = n
mover (move.LoadCommits n t d at) = n
mover (move.StoreCommits n stamp t d c at same above) = n
mover (move.MovedCommits n t d c at moved) = n
mover (move.End n statement tid said at) = n
mover (move.Vanish n ending r) = n
mover (move.There n statement gone at free none) = n
mover (move.Claim n gone also at free posted) = n
mover (move.FindOrphan n duties x d at left active) = n
mover (move.FindNone n duties d at left none) = n
mover (move.ReadLog n duties o at) = n
mover (move.LoadLost n k duties o log seen at named new) = n
mover (move.StoreLost n stamp duties o log seen l at same above) = n
mover (move.MovedLost n duties o log seen l at moved) = n
mover (move.MarkLost n stamp duties o log seen at all same above) = n
mover (move.LoadFinish n duties o committed at) = n
mover (move.StoreFinish n stamp duties o committed c at same above) = n
mover (move.MovedFinish n duties o committed c at moved) = n
mover (move.EndLost n duties o at) = n
mover (move.SayRecovered n statement duties at is_next done) = n

abbrev pub is_vanishing : {w : World} → Move w → Bool
is_vanishing (move.Vanish n ending r) = true
is_vanishing m = false

-- of another node nothing has changed
abbrev pub IsElsewhere : World → World → ℕ → Type 0
IsElsewhere w world i = (world.phases i ≡ w.phases i) × (world.recoveries i ≡ w.recoveries i) × ((j : ℕ) → world.floors i j ≡ w.floors i j)

-- what a request of node n leaves
pub record Leaves (w : World) (n : ℕ) (world : World) : Type 0 where
  pub others : (i : ℕ) → (n ≡ i → ⊥) → IsElsewhere w world i
  pub gone : (i : ℕ) → world.gone i ≡ w.gone i
  pub home : (i : ℕ) → world.home i ≡ w.home i
  pub top : world.top ≡ w.top
  pub catalog : world.catalog ≡ w.catalog

-- nothing of a node's own has changed
same_nodes : (w world : World) (n : ℕ) → world.phases ≡ w.phases → world.recoveries ≡ w.recoveries → world.floors ≡ w.floors → (i : ℕ) → (n ≡ i → ⊥)
    → IsElsewhere w world i
same_nodes w world n p r f i ne = (ap (λ x. x i) p, ap (λ x. x i) r, λ j. ap (λ x. x i j) f)

new_phase : (w world : World) (n : ℕ) (x : Phase) → world.phases ≡ put n x w.phases → world.recoveries ≡ w.recoveries → world.floors ≡ w.floors
    → (i : ℕ) → (n ≡ i → ⊥) → IsElsewhere w world i
new_phase w world n x p r f i ne = (ap (λ y. y i) p ∙ put_other n i x w.phases ne, ap (λ y. y i) r, λ j. ap (λ y. y i j) f)

new_recovery : (w world : World) (n : ℕ) (x : Recovery) → world.phases ≡ w.phases → world.recoveries ≡ put n x w.recoveries → world.floors ≡ w.floors
    → (i : ℕ) → (n ≡ i → ⊥) → IsElsewhere w world i
new_recovery w world n x p r f i ne = (ap (λ y. y i) p, ap (λ y. y i) r ∙ put_other n i x w.recoveries ne, λ j. ap (λ y. y i j) f)

leaves_all : (w world : World) (n : ℕ) → ((i : ℕ) → (n ≡ i → ⊥) → IsElsewhere w world i) → world.gone ≡ w.gone → world.home ≡ w.home → world.top ≡ w.top
    → world.catalog ≡ w.catalog → Leaves w n world
leaves_all w world n o g h t c = record { others = o; gone = λ i. ap (λ x. x i) g; home = λ i. ap (λ x. x i) h; top = t; catalog = c }

module _ (w : World) where
  by_phase : (n : ℕ) (x : Phase) (world : World) → world.phases ≡ put n x w.phases → world.recoveries ≡ w.recoveries → world.floors ≡ w.floors
      → world.gone ≡ w.gone → world.home ≡ w.home → world.top ≡ w.top → world.catalog ≡ w.catalog → Leaves w n world
  by_phase n x world p r f = leaves_all w world n (new_phase w world n x p r f)

  by_recovery : (n : ℕ) (x : Recovery) (world : World) → world.phases ≡ w.phases → world.recoveries ≡ put n x w.recoveries → world.floors ≡ w.floors
      → world.gone ≡ w.gone → world.home ≡ w.home → world.top ≡ w.top → world.catalog ≡ w.catalog → Leaves w n world
  by_recovery n x world p r f = leaves_all w world n (new_recovery w world n x p r f)

  by_nothing : (n : ℕ) (world : World) → world.phases ≡ w.phases → world.recoveries ≡ w.recoveries → world.floors ≡ w.floors
      → world.gone ≡ w.gone → world.home ≡ w.home → world.top ≡ w.top → world.catalog ≡ w.catalog → Leaves w n world
  by_nothing n world p r f = leaves_all w world n (same_nodes w world n p r f)

  pub leaves : (m : Move w) → is_vanishing m ≡ false → Leaves w (mover m) (next w m)
  leaves (move.Ask n at) e = by_phase n _ _ refl refl refl refl refl refl refl
  leaves (move.Draw n seen at room) e = by_phase n _ _ refl refl refl refl refl refl refl
  leaves (move.Bring n seen low at) e = by_phase n _ _ refl refl refl refl refl refl refl
  leaves (move.Begin n tid seen floor at number low) e = record {
    others = λ i ne. (put_other n i _ w.phases ne, refl, λ j. ap (λ x. x j) (put_other n i _ w.floors ne));
    gone = λ i. refl;
    home = λ i. refl;
    top = refl;
    catalog = refl;
  }
  leaves (move.Learn n manager seen floor r told low) e = record {
    others = λ i ne. (refl, refl, λ j. ap (λ x. x j) (put_other n i _ w.floors ne));
    gone = λ i. refl;
    home = λ i. refl;
    top = refl;
    catalog = refl;
  }
  leaves (move.Look n t facts looked at) e = by_phase n _ _ refl refl refl refl refl refl refl
  leaves (move.Cover n t facts covers looked at right) e = by_phase n _ _ refl refl refl refl refl refl refl
  leaves (move.SayBegun n statement t facts at fresh) e = by_phase n _ _ refl refl refl refl refl refl refl
  leaves (move.SayNested n statement b t facts at opened nested) e = by_nothing n _ refl refl refl refl refl refl refl
  leaves (move.SayOutside n statement b at outside) e = by_nothing n _ refl refl refl refl refl refl refl
  leaves (move.SaySelect n statement query said t facts at takes means) e = by_phase n _ _ refl refl refl refl refl refl refl
  leaves (move.SayChange n statement edit said own t facts at takes suits means) e = by_phase n _ _ refl refl refl refl refl refl refl
  leaves (move.Try n stamp t facts at may some absent above) e = by_phase n _ _ refl refl refl refl refl refl refl
  leaves (move.TryNothing n t facts at may none) e = by_phase n _ _ refl refl refl refl refl refl refl
  leaves (move.LoadOwn n k a at own new none) e = by_phase n _ _ refl refl refl refl refl refl refl
  leaves (move.Clash n place rival o a at own new strange) e = by_phase n _ _ refl refl refl refl refl refl refl
  leaves (move.StoreOwn n stamp floor a l at same above least) e = by_phase n _ _ refl refl refl refl refl refl refl
  leaves (move.MovedOwn n a l at moved) e = by_phase n _ _ refl refl refl refl refl refl refl
  leaves (move.Decide n stamp a at all same above) e = by_phase n _ _ refl refl refl refl refl refl refl
  leaves (move.LoadUndo n k a rival at stored) e = by_phase n _ _ refl refl refl refl refl refl refl
  leaves (move.StoreUndo n stamp a rival l at same above) e = by_phase n _ _ refl refl refl refl refl refl refl
  leaves (move.MovedUndo n a rival l at moved) e = by_phase n _ _ refl refl refl refl refl refl refl
  leaves (move.MarkUndone n stamp a rival at none same above) e = by_phase n _ _ refl refl refl refl refl refl refl
  leaves (move.GiveUp n t facts at may) e = by_phase n _ _ refl refl refl refl refl refl refl
  leaves (move.LoadCommits n t d at) e = by_phase n _ _ refl refl refl refl refl refl refl
  leaves (move.StoreCommits n stamp t d c at same above) e = by_phase n _ _ refl refl refl refl refl refl refl
  leaves (move.MovedCommits n t d c at moved) e = by_phase n _ _ refl refl refl refl refl refl refl
  leaves (move.End n statement tid said at) e = by_phase n _ _ refl refl refl refl refl refl refl
  leaves (move.Vanish n ending r) e = absurd cc
  leaves (move.There n statement gone at free none) e = by_nothing n _ refl refl refl refl refl refl refl
  leaves (move.Claim n gone also at free posted) e = by_recovery n _ _ refl refl refl refl refl refl refl
  leaves (move.FindOrphan n duties x d at left active) e = by_recovery n _ _ refl refl refl refl refl refl refl
  leaves (move.FindNone n duties d at left none) e = by_recovery n _ _ refl refl refl refl refl refl refl
  leaves (move.ReadLog n duties o at) e = by_recovery n _ _ refl refl refl refl refl refl refl
  leaves (move.LoadLost n k duties o log seen at named new) e = by_recovery n _ _ refl refl refl refl refl refl refl
  leaves (move.StoreLost n stamp duties o log seen l at same above) e = by_recovery n _ _ refl refl refl refl refl refl refl
  leaves (move.MovedLost n duties o log seen l at moved) e = by_recovery n _ _ refl refl refl refl refl refl refl
  leaves (move.MarkLost n stamp duties o log seen at all same above) e = by_recovery n _ _ refl refl refl refl refl refl refl
  leaves (move.LoadFinish n duties o committed at) e = by_recovery n _ _ refl refl refl refl refl refl refl
  leaves (move.StoreFinish n stamp duties o committed c at same above) e = by_recovery n _ _ refl refl refl refl refl refl refl
  leaves (move.MovedFinish n duties o committed c at moved) e = by_recovery n _ _ refl refl refl refl refl refl refl
  leaves (move.EndLost n duties o at) e = by_recovery n _ _ refl refl refl refl refl refl refl
  leaves (move.SayRecovered n statement duties at is_next done) e = by_recovery n _ _ refl refl refl refl refl refl refl

leaves_nothing : (w : World) (n : ℕ) → Leaves w n w
leaves_nothing w n = record { others = λ i ne. (refl, refl, λ j. refl); gone = λ i. refl; home = λ i. refl; top = refl; catalog = refl }

leaves_two : (w v u : World) (n : ℕ) → Leaves w n v → Leaves v n u → Leaves w n u
leaves_two w v u n a b = record {
  others = λ i ne. ((b.others i ne).0 ∙ (a.others i ne).0, (b.others i ne).1 ∙ (a.others i ne).1, λ j. (b.others i ne).2 j ∙ (a.others i ne).2 j);
  gone = λ i. b.gone i ∙ a.gone i;
  home = λ i. b.home i ∙ a.home i;
  top = b.top ∙ a.top;
  catalog = b.catalog ∙ a.catalog;
}

laid_out_after : (settings : Settings) (w world : World) (n : ℕ) → IsLaidOut settings w → Leaves w n world → IsLaidOut settings world
laid_out_after settings w world n o l =
    record { some = o.some; home = λ i. l.home i ∙ o.home i; top = ap (λ (t : ℕ). t + 1) l.top ∙ o.top }

set_here : {A : Type 0} (xs : List A) (i : ℕ) (x y : A) → slice_get (slice_set xs i x) i ≡ Some y → x ≡ y
set_here [] i x y e = cc
set_here (z ∷ zs) zero x y e = same_Some x y e
set_here (z ∷ zs) (suc i) x y e = set_here zs i x y e

set_elsewhere : {A : Type 0} (xs : List A) (i j : ℕ) (x : A) → (i ≡ j → ⊥) → slice_get (slice_set xs i x) j ≡ slice_get xs j
set_elsewhere [] i j x ne = refl
set_elsewhere (z ∷ zs) zero zero x ne = absurd (ne refl)
set_elsewhere (z ∷ zs) zero (suc j) x ne = refl
set_elsewhere (z ∷ zs) (suc i) zero x ne = refl
set_elsewhere (z ∷ zs) (suc i) (suc j) x ne = set_elsewhere zs i j x (λ e. ne (ap suc e))

-- the low-water marks that a node keeps, with one that it is told
pub learnt_floors : (floors : List TidSet) (known : ℕ → TidSet) (m : ℕ) (floor : TidSet)
    → ((j : ℕ) (x : TidSet) → slice_get floors j ≡ Some x → known j ≡ x)
    → (j : ℕ) (x : TidSet) → slice_get (slice_set floors m floor) j ≡ Some x → put m floor known j ≡ x
learnt_floors floors known m floor h =
    put_one (λ j y. (x : TidSet) → slice_get (slice_set floors m floor) j ≡ Some x → y ≡ x) m floor known
    (λ x e. set_here floors m floor x e)
    (λ j ne x e. h j x (sym (set_elsewhere floors m j floor ne) ∙ e))

-- what a manager tells is a low-water mark of the protocol
pub is_floor : (settings : Settings) (w : World) (m : ℕ) (copy floor : TidSet) → IsLaidOut settings w → IsMark settings w.active m copy floor → IsFloor w m copy floor
is_floor settings w m copy floor o k = record {
  is_one = by k.is_one;
  begins_copy = k.begins_copy;
  begins_active = λ d x a h. k.begins_active d x a (sym (o.home d) ∙ h);
}
  where
    by : (floor ≡ copy) ⊎ ((d : ℕ) × (x : Active) × (w.active d ≡ Some x) × (home_of settings d ≡ m) × (floor ≡ x.snapshot))
        → (floor ≡ copy) ⊎ ((d : ℕ) × (x : Active) × (w.active d ≡ Some x) × (w.home d ≡ m) × (floor ≡ x.snapshot))
    by (inl e) = inl e
    by (inr h) = inr (h.0, h.1, h.2, o.home h.0 ∙ h.3, h.4)

-- a node that stopped is at any statement
pub present_of_stopped : (nodes : NodeSet) (todo : List Bound) → PresentIs (StatementIs (Stopped nodes)) todo
present_of_stopped nodes [] = tt
present_of_stopped nodes (statement ∷ later) = tt

module _ (R : Txn → List Fact → Reads → Type 0) (settings : Settings) where
  -- the node is so far, and has learnt nothing
  pub turned : (node new : Node) (w world : World) (n : ℕ) → NodeIs R settings node w n → new.number ≡ node.number → new.floors ≡ node.floors
      → ((j : ℕ) → world.floors n j ≡ w.floors n j) → PhaseIs R new.doing (world.phases n) → RecoveryIs new.doing (world.recoveries n)
      → PresentIs (StatementIs new.doing) new.todo → NodeIs R settings new world n
  turned node new w world n is e f same p r s = record {
    number = e ∙ is.number;
    phase = p;
    recovery = r;
    statement = s;
    managers = ap length f ∙ is.managers;
    floors = λ j x h. same j ∙ is.floors j x (ap (λ y. slice_get y j) (sym f) ∙ h);
  }

  -- the node is so far, and has learnt one low-water mark
  pub turned_learnt : (node new : Node) (w world : World) (n m : ℕ) (floor : TidSet) → NodeIs R settings node w n → new.number ≡ node.number
      → new.floors ≡ slice_set node.floors m floor → ((j : ℕ) → world.floors n j ≡ put m floor (w.floors n) j) → PhaseIs R new.doing (world.phases n)
      → RecoveryIs new.doing (world.recoveries n) → PresentIs (StatementIs new.doing) new.todo → NodeIs R settings new world n
  turned_learnt node new w world n m floor is e f same p r s = record {
    number = e ∙ is.number;
    phase = p;
    recovery = r;
    statement = s;
    managers = ap length f ∙ length-set node.floors m floor ∙ is.managers;
    floors = λ j x h. same j ∙ learnt_floors node.floors (w.floors n) m floor is.floors j x (ap (λ y. slice_get y j) (sym f) ∙ h);
  }

  -- a reply that no place of a run gives
  pub stopped_is : (node : Node) (w : World) (n : ℕ) → NodeIs R settings node w n → NodeIs R settings (stopped node) w n
  stopped_is node w n is = turned node (stopped node) w w n is refl refl (λ j. refl) tt
      (owed_is node.doing (w.recoveries n) is.recovery) (present_of_stopped (owed_by node.doing) node.todo)

module _ (R : Txn → List Fact → Reads → Type 0) (layout : Layout) (setup : Setup) (settings : Settings) where
  joined : (w : World) (s : SiState) (entries ds es : List Entry)
      → Reach layout setup w (state_from setup.catalog (state_from setup.catalog s ds) es) ((entries ++ ds) ++ es)
      → Reach layout setup w (state_from setup.catalog s (ds ++ es)) (entries ++ (ds ++ es))
  joined w s entries ds es r =
      subst (λ (x : SiState). Reach layout setup w x (entries ++ (ds ++ es))) (sym (state_append setup.catalog s ds es))
      (subst (λ (x : List Entry). Reach layout setup w (state_from setup.catalog (state_from setup.catalog s ds) es) x) (append_assoc entries ds es) r)

  -- whatever node n hears, the protocol goes on
  abbrev pub StepsAs : ℕ → Node → Ask → Type 0
  StepsAs n node ask =
      (w : World) (state : SiState) (entries : List Entry) (reply : Heard) (answer : Answer) (after : Parts)
      → Before R layout setup settings w state entries n node
      → Serves settings (parts_of w) n ask reply after
      → MayMean settings setup.catalog node reply answer
      → Goes R layout setup settings w state entries (says_at settings setup.catalog state.commits node reply answer) n
      (takes settings setup.catalog node reply answer) after

  -- what is to be shown of a node
  abbrev pub Steps : Node → Type 0
  Steps node = (n : ℕ) (ask : Ask) → asks settings setup.catalog node ≡ Some ask → StepsAs n node ask

  renumber : (node : Node) (n : ℕ) (ask : Ask) → StepsAs node.number node ask → StepsAs n node ask
  renumber node n ask h w state entries reply answer after b =
      subst
      (λ k.
      Before R layout setup settings w state entries k node → Serves settings (parts_of w) k ask reply after → MayMean settings setup.catalog node reply answer
      → Goes R layout setup settings w state entries (says_at settings setup.catalog state.commits node reply answer) k
      (takes settings setup.catalog node reply answer) after)
      b.node_is.number (h w state entries reply answer after) b

  -- it is shown of the one request that the node makes, under its own number
  pub steps_as : (node : Node) (ask : Ask) → asks settings setup.catalog node ≡ Some ask → StepsAs node.number node ask → Steps node
  steps_as node ask e h n other f = subst (λ a. StepsAs n node a) (same_Some ask other (sym e ∙ f)) (renumber node n ask h)

  -- the node with these statements left, doing this
  pub steps_at : (node : Node) (todo : List Bound) (doing : Doing) → node.todo ≡ todo → node.doing ≡ doing
      → Steps (record node { todo = todo; doing = doing }) → Steps node
  steps_at node todo doing e f h =
      subst (λ x. Steps (record node { doing = x })) (sym f) (subst (λ x. Steps (record node { todo = x; doing = doing })) (sym e) h)

  module _ (w : World) (state : SiState) (entries : List Entry) (n : ℕ) (node : Node) (b : Before R layout setup settings w state entries n node) where
    -- what stands in the log cell and at the manager
    pub knows : HasInLog w n (w.phases n)
    knows = nodes_know setup w state entries (reached b.opening b.reach) n b.runs

    pub at_phase : (p : Phase) → w.phases n ≡ p → At w n p
    at_phase p e = record { runs = b.runs; so_far = e }

    pub at_recovery : (r : Recovery) → w.recoveries n ≡ r → Recovers w n r
    at_recovery r e = record { runs = b.runs; so_far = e }

    -- by one move
    pub going : (new : Node) (after : Parts) (ts : List Entry) (m : Move w) → mover m ≡ n → is_vanishing m ≡ false → ts ≡ told state.commits w m
        → parts_of (next w m) ≡ after → NodeIs R settings new (next w m) n
        → Goes R layout setup settings w state entries ts n new after
    going new after ts m is_n on e p is =
        let l : Leaves w n (next w m) = subst (λ i. Leaves w i (next w m)) is_n (leaves w m on) in
        subst (λ (es : List Entry). Goes R layout setup settings w state entries es n new after) (sym e)
        (record {
          world = next w m;
          reach = Step b.reach m;
          parts = p;
          node_is = is;
          others = l.others;
          gone = l.gone;
          laid_out = laid_out_after settings w (next w m) n b.laid_out l;
          catalog = l.catalog ∙ b.catalog;
        })

    -- by two
    pub going_two : (new : Node) (after : Parts) (ts : List Entry) (m : Move w) (o : Move (next w m)) → mover m ≡ n → is_vanishing m ≡ false → mover o ≡ n
        → is_vanishing o ≡ false
        → ts ≡ told state.commits w m ++ told (state_from setup.catalog state (told state.commits w m)).commits (next w m) o
        → parts_of (next (next w m) o) ≡ after → NodeIs R settings new (next (next w m) o) n
        → Goes R layout setup settings w state entries ts n new after
    going_two new after ts m o is_n on is_n_too on_too e p is =
        let v : World = next w m in
        let u : World = next v o in
        let first : Leaves w n v = subst (λ i. Leaves w i v) is_n (leaves w m on) in
        let second : Leaves v n u = subst (λ i. Leaves v i u) is_n_too (leaves v o on_too) in
        let l : Leaves w n u = leaves_two w v u n first second in
        let ds : List Entry = told state.commits w m in
        let es : List Entry = told (state_from setup.catalog state ds).commits v o in
        subst (λ (x : List Entry). Goes R layout setup settings w state entries x n new after) (sym e)
        (record {
          world = u;
          reach = joined u state entries ds es (Step (Step b.reach m) o);
          parts = p;
          node_is = is;
          others = l.others;
          gone = l.gone;
          laid_out = laid_out_after settings w u n b.laid_out l;
          catalog = l.catalog ∙ b.catalog;
        })

    -- nothing happens
    pub stays : (new : Node) (after : Parts) → parts_of w ≡ after → NodeIs R settings new w n → Goes R layout setup settings w state entries [] n new after
    stays new after p is = record {
      world = w;
      reach = subst (λ (x : List Entry). Reach layout setup w state x) (sym (append-nil entries)) b.reach;
      parts = p;
      node_is = is;
      others = λ i ne. (refl, refl, λ j. refl);
      gone = λ i. refl;
      laid_out = b.laid_out;
      catalog = b.catalog;
    }

    -- a reply came that no place of a run gives
    pub stops : (after : Parts) → parts_of w ≡ after → Goes R layout setup settings w state entries [] n (stopped node) after
    stops after p = stays (stopped node) after p (stopped_is R settings node w n b.node_is)
